-- Lists that hold a value, and lists that begin with another.
use lib.ListN.{get_elem?}
use mathlib.Core.Option.{some}
use Rattle.std.specs.Prelude.{◌≡◌, ℕ, List, ◌++◌, length, cond, ltb}

module _ {A : Type 0} where
  -- the value stands in the list
  abbrev pub HasElement : List A → A → Type 0
  HasElement xs x = (k : ℕ) × (get_elem? xs k ≡ some x)

  -- the whole list begins with the front
  abbrev pub StartsWith : List A → List A → Type 0
  StartsWith whole front = (rest : List A) × (whole ≡ front ++ rest)

  -- the longer of two lists, and the first if they are as long
  abbrev pub longer : List A → List A → List A
  longer xs ys = cond (ltb (length xs) (length ys)) ys xs

  -- the shorter of two lists, and the second if they are as long
  abbrev pub shorter : List A → List A → List A
  shorter xs ys = cond (ltb (length xs) (length ys)) xs ys

  -- of two lists of numbers, the one that goes with the shorter list
  abbrev pub shorter_numbers : List A → List A → List ℕ → List ℕ → List ℕ
  shorter_numbers xs ys ns ms = cond (ltb (length xs) (length ys)) ns ms
