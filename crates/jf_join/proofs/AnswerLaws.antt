-- What follows for the results of many calls from what holds of each call.
use denote.Ref.{Bor}
use Rattle.std.specs.Prelude.{List, [], ◌∷◌, ◌<◌, ℕ, zero, suc, length, slice_index_or, ◌≡◌}
use Rattle.std.proofs.Common.{arith}
use Rattle.std.proofs.lemmas.Slice.Zip.{AllZip-long}
use Rattle.std.specs.Fn.{Shared, FnReturnsAt}
use Rattle.std.specs.List.{AllZip}
use Rattle.jf_join.specs.Answers.{AnswersEach}

zip-weaker : {X Y : Type 0} (R P : X → Y → Type 0) → ((x : X) (y : Y) → R x y → P x y) → (xs : List X) (ys : List Y) → AllZip R xs ys → AllZip P xs ys
zip-weaker R P f [] [] h = h
zip-weaker R P f [] (y ∷ ys) h = h
zip-weaker R P f (x ∷ xs) [] h = h
zip-weaker R P f (x ∷ xs) (y ∷ ys) h = (f x y h.0, zip-weaker R P f xs ys h.1)

zip-at : {X Y : Type 0} (P : X → Y → Type 0) (xs : List X) (ys : List Y) → AllZip P xs ys → (i : ℕ) (d : X) (e : Y) → i < length xs → P (slice_index_or xs i d) (slice_index_or ys i e)
zip-at P [] ys h i d e short = absurd (omega arith)
zip-at P (x ∷ xs) [] h i d e short = absurd h
zip-at P (x ∷ xs) (y ∷ ys) h zero d e short = h.0
zip-at P (x ∷ xs) (y ∷ ys) h (suc i) d e short = zip-at P xs ys h.1 i d e (omega arith)

-- there are as many results as pieces
pub AnswersEach-length : {F T R : Type 0} {g : Shared F (Bor T × Unit {0}) R} {f : F} {xs : List T} {rs : List R} → AnswersEach g f xs rs → length rs ≡ length xs
AnswersEach-length {g = g} {f = f} {xs = xs} {rs = rs} a = AllZip-long (λ x r. FnReturnsAt g f x r) xs rs a.each

-- what holds of each call holds of each piece and its result
pub AnswersEach-pairs : {F T R : Type 0} {g : Shared F (Bor T × Unit {0}) R} {f : F} {xs : List T} {rs : List R} → AnswersEach g f xs rs → (P : T → R → Type 0) → ((x : T) (r : R) → FnReturnsAt g f x r → P x r) → AllZip P xs rs
AnswersEach-pairs {g = g} {f = f} {xs = xs} {rs = rs} a P k = zip-weaker (λ x r. FnReturnsAt g f x r) P k xs rs a.each

-- what holds of each call holds of the piece and the result at each place
pub AnswersEach-at : {F T R : Type 0} {g : Shared F (Bor T × Unit {0}) R} {f : F} {xs : List T} {rs : List R} → AnswersEach g f xs rs → (P : T → R → Type 0) → ((x : T) (r : R) → FnReturnsAt g f x r → P x r) → (i : ℕ) (d : T) (e : R) → i < length xs → P (slice_index_or xs i d) (slice_index_or rs i e)
AnswersEach-at {xs = xs} {rs = rs} a P k = zip-at P xs rs (AnswersEach-pairs a P k)
