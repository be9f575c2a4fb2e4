use Rattle.std.proofs.Common.{◌∙◌, ap, Ok, Err}
use Rattle.stabby_record_uses.proofs.Exchanged.{told_fault, misfit_told}
use Rattle.stabby_record_uses.proofs.exchanging.written.Goals as goal

pub returns-in-Ok-clause-shape : goal.returns-in-Ok-clause-shape
returns-in-Ok-clause-shape c = misfit_told (Ok c.in-Ok.bytes) _ c.in-Ok.ensures.shape

pub returns-in-Err-Shape-clause-shape : goal.returns-in-Err-Shape-clause-shape
returns-in-Err-Shape-clause-shape c =
    misfit_told (Err c.in-Err-Shape.field-0) _ c.in-Err-Shape.ensures.shape ∙ ap told_fault c.in-Err-Shape.field-0-is

pub returns-in-Err-Memory-clause-shape : goal.returns-in-Err-Memory-clause-shape
returns-in-Err-Memory-clause-shape c =
    misfit_told (Err c.in-Err-Memory.field-0) _ c.in-Err-Memory.ensures.shape ∙ ap told_fault c.in-Err-Memory.field-0-is
