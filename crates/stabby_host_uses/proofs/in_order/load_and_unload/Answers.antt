use Rattle.stabby_host.specs.Hosts.{plugins_of}
use Rattle.stabby_host_uses.proofs.TwoLemmas.{in_order}
use Rattle.stabby_host_uses.proofs.in_order.load_and_unload.Goals as goal

pub returns-clause-refused : goal.returns-clause-refused
returns-clause-refused c =
    let ordered = in_order (plugins_of c.in-Ok.host) (plugins_of c.unload-refused.new.self) (plugins_of c.unload-last.new.self) (plugins_of c.unload-first.new.self)
    c.args.number c.args.other c.unload-refused.result c.unload-last.result c.unload-first.result
    c.in-Ok.ensures c.unload-refused.ensures.unload c.unload-last.ensures.unload c.unload-first.ensures.unload in
    ordered.refused_is

pub returns-clause-last : goal.returns-clause-last
returns-clause-last c =
    let ordered = in_order (plugins_of c.in-Ok.host) (plugins_of c.unload-refused.new.self) (plugins_of c.unload-last.new.self) (plugins_of c.unload-first.new.self)
    c.args.number c.args.other c.unload-refused.result c.unload-last.result c.unload-first.result
    c.in-Ok.ensures c.unload-refused.ensures.unload c.unload-last.ensures.unload c.unload-first.ensures.unload in
    ordered.last_is

pub returns-clause-first : goal.returns-clause-first
returns-clause-first c =
    let ordered = in_order (plugins_of c.in-Ok.host) (plugins_of c.unload-refused.new.self) (plugins_of c.unload-last.new.self) (plugins_of c.unload-first.new.self)
    c.args.number c.args.other c.unload-refused.result c.unload-last.result c.unload-first.result
    c.in-Ok.ensures c.unload-refused.ensures.unload c.unload-last.ensures.unload c.unload-first.ensures.unload in
    ordered.first_is
