use Rattle.std.proofs.Common.{◌∙◌, arith, sym, refl}
use Rattle.stabby_registry.proofs.Versions.{number_found, none_found}
use Rattle.stabby_registry.proofs.catalog.Catalog.find.Goals as goal

pub returns-in-Some : goal.returns-in-Some
returns-in-Some g c = number_found c.args.self c.args.table.now c.in-Some.number (sym c.in-Some.is ∙ c.number_of.ensures.number)

pub returns-then-len-eq-LAST_STAMP : goal.returns-then-len-eq-LAST_STAMP
returns-then-len-eq-LAST_STAMP g c =
    (none_found c.args.self c.args.table.now (sym c.in_default.is ∙ c.number_of.ensures.number), omega (arith, c.len.ensures.count, c.if-len-eq-LAST_STAMP.true))

pub returns : goal.returns
returns g c = (
  none_found c.args.self c.args.table.now (sym c.in_default.is ∙ c.number_of.ensures.number),
  refl,
  omega (arith, c.len.ensures.count, c.len.ensures.limit, c.if-len-eq-LAST_STAMP.false),
)
