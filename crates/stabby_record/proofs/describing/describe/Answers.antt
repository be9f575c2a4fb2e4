use Rattle.stabby_record.proofs.Begun.{same_if_begun}
use Rattle.stabby_record.proofs.describing.describe.Goals as goal

pub returns : goal.returns
returns c = record {
  ok = c.begun.ensures.ok;
  not_record = c.begun.ensures.not_record;
  message = λ s v p f q. same_if_begun c.begun.result c.args.bytes.now c.begun.ensures.ok c.begun.ensures.not_record s v p f q;
}
