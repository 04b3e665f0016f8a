-- The nodes of entries are counted child by child.
use Rattle.std.proofs.Common.{ℕ, [], ◌∷◌, ◌≡◌, ◌+◌, ◌<◌, ◌≤◌, refl, ap, sym, ◌∙◌, arith, length, take, drop, length-append, length-drop}
use Rattle.std.specs.Prelude.{Result, Ok, Err, IfOk}
use Rattle.std.specs.FinMap as fin
use Rattle.jf_path.specs.Keys.{key_cmp}
use Rattle.jf_path.specs.declared.memory.Memory.{Memory}
use Rattle.jf_hash.specs.Maps.{map_of_entries}
use Rattle.jf_hash.specs.Slots.{Part, from_nibble}
use Rattle.jf_model.specs.Nodes.{nodes}
use Rattle.jf_model.specs.Parts.{IsPartUnder, IsPieceEnd}
use Rattle.jf_model.specs.Walk.{each_from}
use Rattle.jf_walk.proofs.PartLaws.{from_nibble-zero}
use Rattle.jf_walk.proofs.PieceEnds.{cut_piece}
use Rattle.jf_update.specs.Restored.{part_nodes, nodes_at, nodes_under}
use Rattle.jf_update.proofs.BuildLaws.{drop_more}
use Rattle.jf_update.proofs.RestoreLaws.{each-more, length-nodes_at, part_nodes-none, part_nodes-one, part_nodes-many, nodes_none}

-- the nodes below the children before nibble n are counted; the entries from place `start` on are those of later nibbles
pub record IsCounting (depth n start count : ℕ) (es : Part) : Type 0 where
  pub within : start ≤ length es
  pub rest : drop start es ≡ from_nibble depth n es
  pub counted : count ≡ length (each_from n 0 (nodes_at depth es))

pub counting_start : (d : ℕ) (es : Part) → IsCounting d 0 0 0 es
counting_start d es = record { within = omega arith; rest = sym (from_nibble-zero d es); counted = refl }

pub counting_more : (d n start r count child more : ℕ) (path : ℕ → ℕ) (es : Part) → IsPartUnder d path es → IsCounting d n start count es → IsPieceEnd d n r (drop start es)
    → child ≡ length (part_nodes (d + 1) (take r (drop start es))) → more ≡ count + child → IsCounting d (n + 1) (start + r) more es
counting_more d n start r count child more path es part c end own added =
    let both = cut_piece d n r path es (drop start es) part c.rest end in
    let here : child ≡ length (part_nodes (d + 1) (take r (drop start es))) = own in
    record {
      within = omega (arith, c.within, end.within, length-drop start es);
      rest = sym (drop_more start r es) ∙ both.1;
      counted = omega (arith, added, c.counted, here, ap (λ fs. length (part_nodes (d + 1) fs)) both.0, length-nodes_at d n es, ap length (each-more d n es), length-append (each_from n 0 (nodes_at d es)) (nodes_at d es n));
    }

pub counting_done : (d start count : ℕ) (es : Part) → IsCounting d 16 start count es → count ≡ length (nodes_under d es)
unfolding nodes_under
counting_done d start count es c = c.counted

pub count-none : (d : ℕ) (es : Part) → length es < 1 → 0 ≡ length (part_nodes d es)
count-none d [] none = ap length (sym (part_nodes-none d))
count-none d (e ∷ es) none = absurd (omega arith)

pub count-one : (d : ℕ) (es : Part) → 1 ≤ length es → length es < 2 → 1 ≡ length (part_nodes d es)
count-one d [] some few = absurd (omega arith)
count-one d (e ∷ []) some few = ap length (sym (part_nodes-one d e))
count-one d (e ∷ f ∷ es) some few = absurd (omega arith)

count-many : (d below sum : ℕ) (es : Part) → d < 64 → 2 ≤ length es → below ≡ length (nodes_under d es) → sum ≡ 1 + below → sum ≡ length (part_nodes d es)
count-many d below sum es deep many own added = omega (arith, own, added, ap length (part_nodes-many d es deep many))

pub counted_one : (d below : ℕ) (es : Part) (sum : Result ℕ Memory) → d < 64 → 2 ≤ length es → below ≡ length (nodes_under d es) → IfOk sum (λ n. n ≡ 1 + below) → IfOk sum (λ n. n ≡ length (part_nodes d es))
counted_one d below es (Ok n) deep many own added = count-many d below n es deep many own added
counted_one d below es (Err e) deep many own added = tt

pub count-empty : (es : Part) → length es < 1 → 1 ≡ length (nodes (map_of_entries es))
count-empty [] is = ap length (sym (nodes_none (map_of_entries []) (fin.entries-from_sorted key_cmp [] tt)))
count-empty (e ∷ es) is = absurd (omega arith)
