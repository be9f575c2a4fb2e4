use Rattle.stabby_host_uses.proofs.TwoLemmas.{two_loaded}
use Rattle.stabby_host_uses.proofs.in_order.load_two.Goals as goal

pub returns : goal.returns
returns c =
    two_loaded _ _ c.in-Ok.host c.load.new.self c.load-2.new.self c.args.number c.args.other _ _ c.new-2.result.items c.in-Ok-needs_number.needs.items
    c.in_default-load.field-0 c.in_default-load-2.field-0 c.in-Ok.ensures.ok.no_plugin c.new-2.ensures.items
    c.in_default-load.ensures.ok c.in_default-load-2.ensures.ok c.in-Ok-needs_number.ensures
