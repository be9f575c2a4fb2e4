-- Lists that agree member by member.
use Rattle.std.proofs.Common.{◌≡◌, ℕ, suc, List, [], ◌∷◌, ◌++◌, length, refl, ap}
use Rattle.std.specs.List.{AllZip}

-- the partner of a member
pub zip_at : {A B : Type 0} (R : A → B → Type 0) (front : List A) (x : A) (after : List A) (ys : List B) → AllZip R (front ++ x ∷ after) ys → (y : B) × R x y
zip_at R [] x after [] zip = absurd zip
zip_at R [] x after (y ∷ ys) zip = (y, zip.0)
zip_at R (a ∷ front) x after [] zip = absurd zip
zip_at R (a ∷ front) x after (y ∷ ys) zip = zip_at R front x after ys zip.1

pub zip_push : {A B : Type 0} (R : A → B → Type 0) (xs : List A) (ys : List B) (x : A) (y : B) → AllZip R xs ys → R x y → AllZip R (xs ++ x ∷ []) (ys ++ y ∷ [])
zip_push R [] [] x y zip one = (one, tt)
zip_push R [] (b ∷ ys) x y zip one = absurd zip
zip_push R (a ∷ xs) [] x y zip one = absurd zip
zip_push R (a ∷ xs) (b ∷ ys) x y zip one = (zip.0, zip_push R xs ys x y zip.1 one)

pub zip_length : {A B : Type 0} (R : A → B → Type 0) (xs : List A) (ys : List B) → AllZip R xs ys → length xs ≡ length ys
zip_length R [] [] zip = refl
zip_length R [] (b ∷ ys) zip = absurd zip
zip_length R (a ∷ xs) [] zip = absurd zip
zip_length R (a ∷ xs) (b ∷ ys) zip = ap suc (zip_length R xs ys zip.1)
