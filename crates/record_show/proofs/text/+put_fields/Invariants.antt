use Rattle.stabby_record.specs.Shape.{places}
use Rattle.stabby_record.specs.Read.{fields_of}
use Rattle.record_show.proofs.text.+put_fields.Given as goal

abbrev pub decreases-put_fields : goal.decreases-put_fields
decreases-put_fields l = places (fields_of l.fields.now)
