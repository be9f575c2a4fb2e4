use Rattle.std.proofs.Common.{arith, refl, ap}
use Rattle.stabby_registry.specs.Passes.{SplitOff}
use Rattle.stabby_c.specs.declared.answer.Answer.TheVariants.{Done}
use Rattle.stabby_c.specs.Clients.{weight_of, SplitsOff}
use Rattle.stabby_c.proofs.exports.stabby_client_split.Goals as goal

pub returns-in-Ok-clause-split : goal.returns-in-Ok-clause-split
returns-in-Ok-clause-split c =
    let split = c.in-Ok.ensures.ok in
    let same = ap weight_of c.client.ensures.value in
    record {
      answer = Done;
      code_is = c.code.ensures;
      done = λ _. ((SplitsOff.not_light split).0, omega (arith, SplitOff.weight (SplitsOff.split split), same));
      refused = λ other. absurd (other refl);
    }
