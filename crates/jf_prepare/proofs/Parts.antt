-- What holds of the results of all parts, one after another.
use Rattle.std.proofs.Common.{◌≡◌, List, [], ◌∷◌, ◌++◌, sym, subst, reverse}
use Rattle.std.specs.Prelude.{Result, Ok, Err, OnOk, OnErr}
use Rattle.std.specs.List.{AllByRecursion, AllZip}
use Rattle.std.proofs.lemmas.List.{reverse-append}
use Rattle.jf_path.proofs.ListLaws.{All-append}

-- a list was appended, or it was not
pub All-appended : {X T E : Type 0} (P : X → Type 0) (r : Result T E) (xs ys zs : List X) → OnOk r (zs ≡ xs ++ ys) → OnErr r (zs ≡ xs) → AllByRecursion P xs → AllByRecursion P ys → AllByRecursion P zs
All-appended P (Ok x) xs ys zs is same front more = subst (AllByRecursion P) (sym is) (All-append P xs ys front more)
All-appended P (Err e) xs ys zs is same front more = subst (AllByRecursion P) (sym same) front

-- what holds of the result of each piece, whatever the piece
pub All-zip : {X Y : Type 0} (P : Y → Type 0) (xs : List X) (ys : List Y) → AllZip (λ x y. P y) xs ys → AllByRecursion P ys
All-zip P [] [] h = tt
All-zip P [] (y ∷ ys) h = absurd h
All-zip P (x ∷ xs) [] h = tt
All-zip P (x ∷ xs) (y ∷ ys) h = (h.0, All-zip P xs ys h.1)

-- what holds of each element holds in the opposite order
pub All-reverse : {X : Type 0} (P : X → Type 0) (xs : List X) → AllByRecursion P xs → AllByRecursion P (reverse xs)
All-reverse P [] all = tt
All-reverse P (x ∷ xs) all = subst (AllByRecursion P) (sym (reverse-append (x ∷ []) xs)) (All-append P (reverse xs) (x ∷ []) (All-reverse P xs all.1) (all.0, tt))
