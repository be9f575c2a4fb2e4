use Rattle.std.proofs.Common.{◌≢◌, length, ◌∙◌}
use Rattle.stabby_host.proofs.Loading.{bind_fault, room_for_one}
use Rattle.stabby_host.specs.Hosts.{plugins_of}
use Rattle.stabby_host.proofs.host.Host.prepare.Goals as goal

pub returns-in-Err-clause-fault : goal.returns-in-Err-clause-fault
returns-in-Err-clause-fault g c =
    let host = c.args.self.now in
    let id = g.U.Any.type_id in
    let report = g.U.Any.type_report in
    let fewer : length (plugins_of host) ≢ 4294967295 = λ e. c.if-loaded-eq4294967295.false (c.len-loaded.ensures ∙ (host.plugins.ok.0 ∙ e)) in
    let why = rw c.deref.ensures.value at c.in-Err.ensures.fault in
    bind_fault id report host c.args.needs.now c.in-Err.fault (room_for_one id report host c.if-self.false fewer) why
