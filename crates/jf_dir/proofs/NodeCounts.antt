-- The number of nodes below a node is the sum of those of its children, and one.
use Rattle.std.proofs.Common.{◌≡◌, ℕ, zero, suc, ◌+◌, ◌-◌, ◌<◌, ◌≤◌, true, false, cond, List, [], ◌∷◌, ◌++◌, map, length, Some, refl, sym, ap, ◌∙◌, arith, length-append}
use Rattle.std.specs.Prelude.{flat_map, if◌then◌else◌}
use Rattle.std.proofs.lemmas.List.{length-map}
use Rattle.jf_hash.specs.Slots.{Part, with_nibble, all_nibbles}
use Rattle.std.specs.FinMap.{entries}
use Rattle.jf_hash.specs.Maps.{Map}
use Rattle.jf_model.specs.Nodes.{Path, has_one, has_two, nodes, nodes_below}
use Rattle.jf_hash.proofs.RootLaws.{entries-empty}
use Rattle.jf_model.specs.ChildEntries.{child_entries}
use Rattle.jf_model.specs.Walk.{each_from}
use Rattle.jf_model.proofs.NodeLaws.{nodes-empty}
use Rattle.jf_walk.proofs.WalkLaws.{each_from-flat_map}
use Rattle.jf_node.specs.LinkValue.{LinkValue}
use Rattle.jf_node.proofs.NodeVersions.{has_one-true}
use Rattle.jf_diff.specs.Below.{IsBelow}
use Rattle.jf_diff.proofs.PlainNodes.{each_more}

-- the nodes from the child at a nibble down, if so many entries are below it
abbrev pub nodes_from : ℕ → ℕ → ℕ → Part → List (Path × Part)
nodes_from n d i part = if has_one part then map (λ (x : Path × Part). (i ∷ x.0, x.1)) (nodes_below n (d + 1) part) else []

abbrev pub below_at : ℕ → Part → ℕ → List (Path × Part)
below_at d es i = nodes_from (63 - d) d i (child_entries d i es)

nodes_two : (n d : ℕ) (es : Part) → has_two es ≡ true → nodes_below (suc n) d es ≡ ([], es) ∷ flat_map (λ i. nodes_from n d i (with_nibble d i es)) all_nibbles
unfolding nodes_below
nodes_two n d es two = ap (λ b. ([], es) ∷ cond b (flat_map (λ i. nodes_from n d i (with_nibble d i es)) all_nibbles) []) two

nodes_few : (n d : ℕ) (es : Part) → has_two es ≡ false → nodes_below n d es ≡ ([], es) ∷ []
unfolding nodes_below
nodes_few zero d es few = refl
nodes_few (suc n) d es few = ap (λ b. ([], es) ∷ cond b (flat_map (λ i. nodes_from n d i (with_nibble d i es)) all_nibbles) []) few

none_from : (n d count first : ℕ) → each_from count first (λ i. nodes_from n d i []) ≡ []
none_from n d zero first = refl
none_from n d (suc count) first = none_from n d count (first + 1)

pub counted-all : (d : ℕ) (es : Part) → (2 ≤ length es → d < 64) → length (nodes_below (64 - d) d es) ≡ suc (length (each_from 16 0 (below_at d es)))
counted-all d es deep = elim (has_two es) as (λ b. has_two es ≡ b → length (nodes_below (64 - d) d es) ≡ suc (length (each_from 16 0 (below_at d es)))) [
  | true ↦ λ two.
      let low = deep (many es two) in
      ap (λ n. length (nodes_below n d es)) (let e : 64 - d ≡ suc (63 - d) = omega arith in e)
      ∙ ap length (nodes_two (63 - d) d es two)
      ∙ ap (λ (xs : List (Path × Part)). suc (length xs)) (sym (each_from-flat_map (λ i. nodes_from (63 - d) d i (with_nibble d i es))))
      ∙ ap (λ b. suc (length (each_from 16 0 (λ i. nodes_from (63 - d) d i (cond b (with_nibble d i es) []))))) (sym two)
  | false ↦ λ few.
      ap length (nodes_few (64 - d) d es few)
      ∙ ap (λ (xs : List (Path × Part)). suc (length xs)) (sym (none_from (63 - d) d 16 0))
      ∙ ap (λ b. suc (length (each_from 16 0 (λ i. nodes_from (63 - d) d i (cond b (with_nibble d i es) []))))) (sym few)
] refl
  where
    many : (es : Part) → has_two es ≡ true → 2 ≤ length es
    many [] two = absurd (cc)
    many (e ∷ []) two = absurd (cc)
    many (e ∷ f ∷ es) two = omega arith

-- one child more
pub counted-child : (x c : LinkValue) (n count below sum : ℕ) → IsBelow x n (Some c) → count ≡ suc (length (each_from n 0 (below_at x.depth x.entries))) → below ≡ length (nodes_below (64 - c.depth) c.depth c.entries) → sum ≡ count + below → sum ≡ suc (length (each_from (n + 1) 0 (below_at x.depth x.entries)))
counted-child x c n count below sum is so_far own added =
    let g = below_at x.depth x.entries in
    let low = is.placed.0 in
    let at = is.placed.1 in
    let some = is.sound.entries.some in
    let listed : List (Path × Part) = map (λ (y : Path × Part). (n ∷ y.0, y.1)) (nodes_below (63 - x.depth) (x.depth + 1) c.entries) in
    let here : length (g n) ≡ length (nodes_below (63 - x.depth) (x.depth + 1) c.entries) =
    ap (λ part. length (nodes_from (63 - x.depth) x.depth n part)) (sym is.entries)
    ∙ ap (λ b. length (cond b listed [])) (has_one-true c.entries some)
    ∙ length-map (nodes_below (63 - x.depth) (x.depth + 1) c.entries) (λ (y : Path × Part). (n ∷ y.0, y.1)) in
    let there : below ≡ length (nodes_below (63 - x.depth) (x.depth + 1) c.entries) =
    own ∙ ap (λ d. length (nodes_below (64 - d) d c.entries)) at ∙ ap (λ k. length (nodes_below k (x.depth + 1) c.entries)) (let e : 64 - (x.depth + 1) ≡ 63 - x.depth = omega arith in e) in
    let more = ap length (sym (each_more n g (each_from n 0 g) (each_from n 0 g ++ g n) refl refl)) in
    omega (arith, more, length-append (each_from n 0 g) (g n))

-- no child
pub counted-none : (x : LinkValue) (n count : ℕ) → child_entries x.depth n x.entries ≡ [] → count ≡ suc (length (each_from n 0 (below_at x.depth x.entries))) → count ≡ suc (length (each_from (n + 1) 0 (below_at x.depth x.entries)))
counted-none x n count none so_far =
    let g = below_at x.depth x.entries in
    let here : length (g n) ≡ 0 = ap (λ part. length (nodes_from (63 - x.depth) x.depth n part)) none in
    let more = ap length (sym (each_more n g (each_from n 0 g) (each_from n 0 g ++ g n) refl refl)) in
    omega (arith, more, length-append (each_from n 0 g) (g n))

-- ---- a snapshot
pub nodes-top : (m : Map) (es : Part) (d : ℕ) → entries m ≡ es → d ≡ 0 → length (nodes_below (64 - d) d es) ≡ length (nodes m)
unfolding nodes
nodes-top m es d same at = ap (λ k. length (nodes_below (64 - k) k es)) at ∙ ap (λ fs. length (nodes_below 64 0 fs)) (sym same)

pub nodes-without : (m : Map) → entries m ≡ [] → 1 ≡ length (nodes m)
unfolding nodes
nodes-without m none = sym (ap length nodes-empty) ∙ ap (λ es. length (nodes_below 64 0 es)) (entries-empty ∙ sym none)
