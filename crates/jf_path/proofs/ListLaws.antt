-- The elements of a list that is made of others, and what holds of each.
use Rattle.std.specs.Prelude.{flat_map}
use Rattle.std.proofs.Common.{List, [], ◌∷◌, ◌++◌, zero, suc, arith, Contains, refl, map, ap, ap₂, ◌∙◌, ◌≡◌, ℕ, ◌-◌, length, take, drop, length-drop, take_all, length-append, take_at}
use Rattle.std.proofs.lemmas.List.{get_or-map, length-map}
use Rattle.std.proofs.lemmas.List.Elements.{All-contains, All-from_recursion}
use Rattle.std.specs.List.{AllByRecursion, All}

module _ {X : Type 0} where
  -- what holds of each element of two lists holds of each element of both joined
  pub All-append : (P : X → Type 0) (xs ys : List X) → AllByRecursion P xs → AllByRecursion P ys → AllByRecursion P (xs ++ ys)
  All-append P [] ys h k = k
  All-append P (x ∷ xs) ys h k = (h.0, All-append P xs ys h.1 k)

  -- what holds of each element of a list and of one more holds of each element of both
  pub All-after : (P : X → Type 0) (xs : List X) (x : X) → AllByRecursion P xs → P x → AllByRecursion P (xs ++ x ∷ [])
  All-after P [] x all here = (here, tt)
  All-after P (y ∷ ys) x all here = (all.0, All-after P ys x all.1 here)

  -- what holds of each element of a list holds of each element of its front, and of its rest
  pub all_take : (P : X → Type 0) (n : ℕ) (xs : List X) → AllByRecursion P xs → AllByRecursion P (take n xs)
  all_take P zero xs h = tt
  all_take P (suc n) [] h = tt
  all_take P (suc n) (x ∷ xs) h = (h.0, all_take P n xs h.1)

  pub all_drop : (P : X → Type 0) (n : ℕ) (xs : List X) → AllByRecursion P xs → AllByRecursion P (drop n xs)
  all_drop P zero xs h = h
  all_drop P (suc n) [] h = tt
  all_drop P (suc n) (x ∷ xs) h = all_drop P n xs h.1

  -- what holds of each element may be replaced by what follows from it
  pub All-weaker : (P Q : X → Type 0) → ((x : X) → P x → Q x) → (xs : List X) → AllByRecursion P xs → AllByRecursion Q xs
  All-weaker P Q h [] a = tt
  All-weaker P Q h (x ∷ xs) a = (h x a.0, All-weaker P Q h xs a.1)

  -- what holds of each element holds at each place
  pub All-by_place : (P : X → Type 0) (xs : List X) → AllByRecursion P xs → All P xs
  All-by_place P [] h i d lt = absurd (omega arith)
  All-by_place P (x ∷ xs) h zero d lt = h.0
  All-by_place P (x ∷ xs) h (suc i) d lt = All-by_place P xs h.1 i d (omega arith)

  -- a list contains its first element
  pub Contains-first : (x : X) (xs : List X) → Contains (x ∷ xs) x
  Contains-first x xs = (0, omega arith, refl)

  pub Contains-later : (x y : X) (ys : List X) → Contains ys x → Contains (y ∷ ys) x
  Contains-later x y ys has = (suc has.0, omega (arith, has.1), has.2)

  -- what holds of each element holds of one that the list contains
  pub All-of : (P : X → Type 0) (xs : List X) (x : X) → AllByRecursion P xs → Contains xs x → P x
  All-of P xs x all = All-contains P xs x (All-from_recursion P xs all)

module _ {X Y : Type 0} where
  -- the image of an element is in the image of its list
  pub Contains-map : (f : X → Y) (xs : List X) (x : X) → Contains xs x → Contains (map f xs) (f x)
  Contains-map f xs x has = let long = length-map xs f in let lt = has.1 in (has.0, omega arith, get_or-map f xs has.0 x (f x) has.1 ∙ ap f has.2)

  -- two functions that agree on the elements of a list give the same list
  pub map_alike : (f g : X → Y) (xs : List X) → AllByRecursion (λ x. f x ≡ g x) xs → map f xs ≡ map g xs
  map_alike f g [] h = refl
  map_alike f g (x ∷ xs) h = ap₂ (λ y ys. y ∷ ys) h.0 (map_alike f g xs h.1)

-- all of a list from a place on is its rest
pub take-rest : {X : Type 0} (r : ℕ) (bs : List X) → take (length bs - r) (drop r bs) ≡ drop r bs
take-rest r bs = take_all (length bs - r) (drop r bs) (omega (arith, length-drop r bs))

pub All-flat_map : {X Y : Type 0} (P : Y → Type 0) (f : X → List Y) → ((x : X) → AllByRecursion P (f x)) → (xs : List X) → AllByRecursion P (flat_map f xs)
All-flat_map P f h [] = tt
All-flat_map P f h (x ∷ xs) = All-append P (f x) (flat_map f xs) (h x) (All-flat_map P f h xs)

pub all_but_last : (ls : List (List ℕ)) (l : List ℕ) → take (length (ls ++ l ∷ []) - 1) (ls ++ l ∷ []) ≡ ls
all_but_last ls l = take_at ls (l ∷ []) (length (ls ++ l ∷ []) - 1) (omega (arith, length-append ls (l ∷ [])))
