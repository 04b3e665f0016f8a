-- What holds of each element of a list.
use Rattle.std.proofs.Common.{◌≡◌, Bool, true, false, ℕ, cond, ap, List, [], ◌∷◌, Contains, arith, zero, suc, ◌<◌, length, get_or, map}
use Rattle.std.specs.List.{AllByRecursion}
use Rattle.jf_path.proofs.ListLaws.{Contains-first, Contains-later}

-- a test as a number, 1 or 0
abbrev pub one : Bool → ℕ
one b = cond b 1 0

pub one-true : (b : Bool) → b ≡ true → one b ≡ 1
one-true b is = ap one is

pub one-false : (b : Bool) → b ≡ false → one b ≡ 0
one-false b is = ap one is

module _ {X : Type 0} where
  -- what holds of each element holds of all
  pub All-each_element : (P : X → Type 0) (xs : List X) → ((x : X) → Contains xs x → P x) → AllByRecursion P xs
  All-each_element P [] h = tt
  All-each_element P (x ∷ xs) h = (h x (Contains-first x xs), All-each_element P xs (λ y has. h y (Contains-later y x xs has)))

  -- an empty list has no element
  pub none_in_nothing : (x : X) → Contains [] x → ⊥
  none_in_nothing x has = let lt = has.1 in omega arith

  -- an element of a list is the first one or one of the rest
  pub Contains-cases : {P : Type 0} (x y : X) (ys : List X) → Contains (y ∷ ys) x → (y ≡ x → P) → (Contains ys x → P) → P
  Contains-cases {P} x y ys has first later = at has.0 has.1 has.2
    where
      at : (i : ℕ) → i < length (y ∷ ys) → get_or (y ∷ ys) i x ≡ x → P
      at zero lt is = first is
      at (suc i) lt is = later (i, omega arith, is)

module _ {X Y : Type 0} where
  -- an element of a mapped list comes from an element
  pub map-which : (f : X → Y) (xs : List X) (y : Y) → Contains (map f xs) y → (x : X) × Contains xs x × (f x ≡ y)
  map-which f [] y has = absurd (none_in_nothing y has)
  map-which f (x ∷ xs) y has = Contains-cases y (f x) (map f xs) has
      (λ same. (x, Contains-first x xs, same))
      (λ later. let z = map-which f xs y later in (z.0, Contains-later z.0 x xs z.1, z.2))
