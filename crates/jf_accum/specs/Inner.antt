-- What an accumulator keeps beside its hashes: the totals of the full parts, those whose two halves are equally long, each after those within it.
use Rattle.std.specs.Prelude.{ℕ, zero, suc, ◌+◌, if◌then◌else◌, ◌==◌, List, [], ◌∷◌, ◌++◌, length}
use Rattle.jf_accum.specs.Totals.{left_count, lefts, rights, total}

-- its own total, if its halves are equally long
abbrev pub own_total : List (List ℕ) → List (List ℕ)
own_total hs = if length hs == left_count (length hs) + left_count (length hs) then total hs ∷ [] else []

-- the totals of the full parts of at most n hashes
unfoldable pub inner_totals_below : ℕ → List (List ℕ) → List (List ℕ)
inner_totals_below n [] = []
inner_totals_below n (h ∷ []) = []
inner_totals_below zero (h ∷ g ∷ hs) = []
inner_totals_below (suc n) (h ∷ g ∷ hs) =
    let xs = h ∷ g ∷ hs in
    (inner_totals_below n (lefts xs) ++ inner_totals_below n (rights xs)) ++ own_total xs

-- the totals of the full parts
unfoldable pub inner_totals : List (List ℕ) → List (List ℕ)
inner_totals hs = inner_totals_below (length hs) hs
