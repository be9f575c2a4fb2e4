use Rattle.stabby_record.specs.Shape.{places}
use Rattle.stabby_record.specs.Read.{fields_of}
use Rattle.stabby_record.proofs.comparing.+compare_fields.Given as goal

abbrev pub decreases-compare_fields : goal.decreases-compare_fields
decreases-compare_fields l = places (fields_of l.fields.now)
