-- The path of a node has at most 64 nibbles.
use Rattle.std.proofs.Common.{◌≡◌, ◌≤◌, true, [], ◌∷◌, length, sym, arith, true≢false, ℕ, ◌+◌, ◌<◌, ◌&&◌, inl, inr}
use Rattle.std.proofs.lemmas.Bool.{cases_lt}
use Rattle.std.specs.FinMap.{entries}
use Rattle.std.specs.List.{AllByRecursion}
use Rattle.jf_path.specs.Paths.{IsPath}
use Rattle.jf_path.proofs.BoolLaws.{left_true, right_true}
use Rattle.jf_path.proofs.ListLaws.{All-weaker}
use Rattle.jf_hash.specs.Slots.{Part, with_nibble}
use Rattle.jf_hash.specs.Maps.{Map, IsMap}
use Rattle.jf_model.specs.Nodes.{has_two, Path, has_one, is_node, fresh}
use Rattle.jf_model.specs.Parts.{IsPartUnder}
use Rattle.jf_model.proofs.NodeLaws.{IsListed}
use Rattle.jf_walk.proofs.PartLaws.{with_nibble-past, IsPartUnder-with_nibble, deeper, stepped}
use Rattle.jf_walk.proofs.SubLaws.{some-has_one}
use Rattle.jf_walk.proofs.FreshBound.{IsPartUnder-map}
use Rattle.jf_walk.proofs.FreshOrder.{fresh-IsListed}

two_entries : (es : Part) → has_two es ≡ true → 2 ≤ length es
two_entries [] h = absurd (true≢false (sym h))
two_entries (e ∷ []) h = absurd (true≢false (sym h))
two_entries (e ∷ f ∷ es) h = omega arith

-- each step of a node's path is a nibble
pub nibbles-is_node : (d : ℕ) (p : Path) (es : Part) → is_node d p es ≡ true → AllByRecursion (λ n. n < 16) p
unfolding is_node
nibbles-is_node d [] es h = tt
nibbles-is_node d (n ∷ p) es h =
    let some = right_true (has_two es) _ (left_true _ _ h) in (
      elim (cases_lt n 16) [ inl small ↦ small | inr past ↦ absurd (some-has_one (with_nibble d n es) some (with_nibble-past d n es past)) ],
      nibbles-is_node (d + 1) p (with_nibble d n es) (right_true (has_two es && has_one (with_nibble d n es)) _ h),
    )

-- the path of a node has no more nibbles than a key
pub length-is_node : (d : ℕ) (path : ℕ → ℕ) (p : Path) (es : Part) → d ≤ 64 → IsPartUnder d path es → is_node d p es ≡ true → d + length p ≤ 64
unfolding is_node
length-is_node d path [] es deep part h = omega arith
length-is_node d path (n ∷ p) es deep part h =
    let two = two_entries es (left_true _ _ (left_true _ _ h)) in
    omega (
      arith,
      length-is_node (d + 1) (stepped d n path) p (with_nibble d n es) (omega (arith, deeper d path es part two)) (IsPartUnder-with_nibble d n path es part) (right_true (has_two es && has_one (with_nibble d n es)) _ h),
    )

-- each node of a map has a path of at most 64 nibbles
pub IsPath-is_node : (m : Map) (p : Path) → IsMap m → is_node 0 p (entries m) ≡ true → IsPath p
IsPath-is_node m p sound node = record { short = omega (arith, length-is_node 0 (λ i. 0) p (entries m) (omega arith) (IsPartUnder-map (λ i. 0) m sound) node); nibbles = nibbles-is_node 0 p (entries m) node }

-- each path that a landing writes has at most 64 nibbles
pub IsPath-fresh : (m m' : Map) → IsMap m' → AllByRecursion (λ x. IsPath x.0) (fresh m m')
IsPath-fresh m m' sound = All-weaker (IsListed 0 (entries m')) (λ x. IsPath x.0) (λ x is. IsPath-is_node m' x.0 sound is.1) (fresh m m') (fresh-IsListed m m')
