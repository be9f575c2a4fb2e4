-- The fields after the first are fewer.
use Rattle.std.proofs.Common.{◌≡◌, ◌-◌, ◌≤◌, ◌<◌, ℕ, List, [], ◌∷◌, length, arith, take, drop, slice_index_or}
use Rattle.std.proofs.lemmas.Grind.{common_steps}
use Rattle.stabby_record.specs.Values.{Values}
use Rattle.stabby_record.specs.ReadValues.{values_of, with_value}
use Rattle.stabby_record.specs.Fits.{Fits}
use Rattle.stabby_record.specs.declared.value.Value.{Value}
use Rattle.stabby_record.specs.declared.value.Value.TheVariants as value
use Rattle.stabby_record.specs.Shape.{Fields, places}
use Rattle.stabby_record.specs.Read.{fields_of, with_field}
use Rattle.stabby_record.specs.declared.schema.Field.{Field}
use Rattle.stabby_record.specs.declared.schema.Kind.{Kind}
use Rattle.stabby_record.specs.declared.schema.Kind.TheVariants as kind
use Rattle.stabby_record.proofs.Bounds.{fields_split}

item_falls : (n : List ℕ) (k : Kind) (rest : Fields) → places rest < places (with_field n k rest)
item_falls n kind.U8 rest = omega arith
item_falls n kind.U16 rest = omega arith
item_falls n kind.U32 rest = omega arith
item_falls n kind.U64 rest = omega arith
item_falls n (kind.Record s) rest = omega arith

pub step_falls : (fs : List Field) (f : Field) → 1 ≤ length fs → f ≡ slice_index_or fs 0 f
    → places (fields_of (take (length fs - 1) (drop 1 fs))) < places (fields_of fs)
step_falls fs f p e = rw (fields_split fs f p e) (item_falls f.name f.kind (fields_of (take (length fs - 1) (drop 1 fs))))

rest_of : {A : Type 0} (x : A) (xs : List A) → take (length (x ∷ xs) - 1) (drop 1 (x ∷ xs)) ≡ xs
rest_of x xs = grind (arith, common_steps)

others_fit : (n : List ℕ) (k : Kind) (v : Value) (fs : Fields) (vs : Values) → Fits (with_field n k fs) (with_value v vs) → Fits fs vs
others_fit n kind.U8 (value.Number m) fs vs f = f.1
others_fit n kind.U16 (value.Number m) fs vs f = f.1
others_fit n kind.U32 (value.Number m) fs vs f = f.1
others_fit n kind.U64 (value.Number m) fs vs f = f.1
others_fit n (kind.Record s) (value.Number m) fs vs f = absurd f
others_fit n kind.U8 (value.Record w) fs vs f = absurd f
others_fit n kind.U16 (value.Record w) fs vs f = absurd f
others_fit n kind.U32 (value.Record w) fs vs f = absurd f
others_fit n kind.U64 (value.Record w) fs vs f = absurd f
others_fit n (kind.Record s) (value.Record w) fs vs f = f.1

-- the values after the first fit the fields after the first
pub rest_fits : (fs : List Field) (vs : List Value) → 1 ≤ length fs → 1 ≤ length vs → Fits (fields_of fs) (values_of vs)
    → Fits (fields_of (take (length fs - 1) (drop 1 fs))) (values_of (take (length vs - 1) (drop 1 vs)))
rest_fits [] vs p q f = absurd (omega arith)
rest_fits (g ∷ gs) [] p q f = absurd (omega arith)
rest_fits (g ∷ gs) (u ∷ us) p q f = rw (rest_of g gs, rest_of u us) (others_fit g.name g.kind u (fields_of gs) (values_of us) f)
