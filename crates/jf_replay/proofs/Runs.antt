-- Nodes whose names rise stand in the order of the versions that wrote them: where those of a version begin and end.
use Rattle.std.specs.Prelude.{IsTrue}
use Rattle.std.proofs.Common.{◌≡◌, ℕ, zero, suc, ◌-◌, ◌≤◌, Bool, true, false, cond, List, [], ◌∷◌, ◌++◌, map, filter, take, drop, length, refl, sym, ap, ◌∙◌, arith, length-append, drop_at}
use Rattle.std.specs.List.Sorted.{IsNonDecreasingBy, IsPartitionPoint, IsPartitionedBy}
use Rattle.std.proofs.lemmas.List.Sorted.{IsPartitionedBy-leb}
use Rattle.jf_path.specs.Names.{are_rising}
use Rattle.jf_path.proofs.ListLaws.{All-by_place}
use Rattle.jf_standing.specs.Named.{NamedNode, written_nodes_at}
use Rattle.jf_replay.specs.Cuts.{is_written_by}
use Rattle.jf_replay.proofs.CutLands.{rising-versions, later_rise, split-written}

versions_rise : (ns : List NamedNode) → IsTrue (are_rising (map (λ n. n.0) ns)) → IsNonDecreasingBy (λ n. n.0.version) ns
versions_rise [] rises i j d le lt = absurd (omega arith)
versions_rise (n ∷ ns) rises zero zero d le lt = omega arith
versions_rise (n ∷ ns) rises zero (suc j) d le lt = All-by_place (λ m. n.0.version ≤ m.0.version) ns (rising-versions n ns rises) j d (omega arith)
versions_rise (n ∷ ns) rises (suc i) zero d le lt = absurd (omega arith)
versions_rise (n ∷ ns) rises (suc i) (suc j) d le lt = versions_rise ns (later_rise n ns rises) i j d (omega arith) (omega arith)

pub parted : (w : ℕ) (ns : List NamedNode) → IsTrue (are_rising (map (λ n. n.0) ns)) → IsPartitionedBy (is_written_by w) ns
parted w ns rises = IsPartitionedBy-leb (λ n. n.0.version) ns w (versions_rise ns rises)

-- the elements before a partition point are those that pass
pub take-point : {X : Type 0} (test : X → Bool) (xs : List X) (i : ℕ) → IsPartitionPoint (λ x. test x ≡ true) (λ x. test x ≡ false) xs i → i ≤ length xs → take i xs ≡ filter test xs
take-point test [] zero point within = refl
take-point test [] (suc i) point within = absurd (omega arith)
take-point test (x ∷ xs) zero point within =
    take-point test xs zero ((λ k d low high. absurd (omega arith)), (λ k d low high. point.1 (suc k) d (omega arith) (omega arith))) (omega arith)
    ∙ ap (λ b. cond b (x ∷ filter test xs) (filter test xs)) (sym (point.1 0 x (omega arith) (omega arith)))
take-point test (x ∷ xs) (suc i) point within =
    ap (λ t. x ∷ t) (take-point test xs i ((λ k d low high. point.0 (suc k) d (omega arith) (omega arith)), (λ k d low high. point.1 (suc k) d (omega arith) (omega arith))) (omega arith))
    ∙ ap (λ b. cond b (x ∷ filter test xs) (filter test xs)) (sym (point.0 0 x (omega arith) (omega arith)))

length-take_within : {X : Type 0} (xs : List X) (i : ℕ) → i ≤ length xs → length (take i xs) ≡ i
length-take_within xs zero le = refl
length-take_within [] (suc i) le = absurd (omega arith)
length-take_within (x ∷ xs) (suc i) le = ap suc (length-take_within xs i (omega arith))

take-nothing : {X : Type 0} (k : ℕ) → take {A = X} k [] ≡ []
take-nothing zero = refl
take-nothing (suc k) = refl

take_of_drop : {X : Type 0} (i j : ℕ) (xs : List X) → i ≤ j → take (j - i) (drop i xs) ≡ drop i (take j xs)
take_of_drop zero j xs le = ap (λ k. take k xs) (let e : j - 0 ≡ j = omega arith in e)
take_of_drop (suc i) zero xs le = absurd (omega arith)
take_of_drop (suc i) (suc j) [] le = take-nothing (suc j - suc i)
take_of_drop (suc i) (suc j) (x ∷ xs) le = ap (λ k. take k (drop i xs)) (let e : suc j - suc i ≡ j - i = omega arith in e) ∙ take_of_drop i j xs (omega arith)

module _ (w : ℕ) (ns : List NamedNode) (some : 1 ≤ w) (rises : IsTrue (are_rising (map (λ n. n.0) ns))) (i j : ℕ) (before : take i ns ≡ filter (is_written_by (w - 1)) ns) (upto : take j ns ≡ filter (is_written_by w) ns) (i_within : i ≤ length ns) (j_within : j ≤ length ns) where
  both : take j ns ≡ take i ns ++ written_nodes_at w ns
  both = upto ∙ split-written w ns some rises ∙ ap (λ t. t ++ written_nodes_at w ns) (sym before)

  pub ends-rise : i ≤ j
  ends-rise = omega (arith, ap length both, length-append (take i ns) (written_nodes_at w ns), length-take_within ns i i_within, length-take_within ns j j_within)

  pub run-written : take (j - i) (drop i ns) ≡ written_nodes_at w ns
  run-written = take_of_drop i j ns ends-rise ∙ ap (drop i) both ∙ drop_at (take i ns) (written_nodes_at w ns) i (length-take_within ns i i_within)
