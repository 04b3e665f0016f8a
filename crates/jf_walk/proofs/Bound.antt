-- How many new nodes a batch makes: at most 66 for each of its keys.
use Rattle.std.proofs.Common.{ℕ, zero, suc, ◌+◌, List, length, ◌*◌, ◌≤◌, arith, length-append, ◌≡◌, sym, ap, refl, ◌∙◌, Bool, true, false, cond, [], ◌<◌, ◌∷◌, inl, inr, subst}
use Rattle.std.proofs.Math.Nat.{mul-le-mul_left}
use Rattle.std.proofs.lemmas.Bool.{cases_lt}
use Rattle.jf_hash.specs.Slots.{with_nibble, Part, from_nibble}
use Rattle.jf_hash.specs.Maps.{Batch}
use Rattle.jf_model.specs.Walk.{each_from, differs, list_of_new_nodes}
use Rattle.jf_model.specs.Parts.{IsPartUnder}
use Rattle.jf_model.specs.Nodes.{Path}
use Rattle.jf_model.specs.ChildEntries.{child_entries}
use Rattle.jf_model.specs.Changes.{entries_after_batch}
use Rattle.jf_model.proofs.ChangeLaws.{applied-none}
use Rattle.jf_walk.proofs.PartLaws.{from_nibble-split, from_nibble-past, from_nibble-zero, stepped, IsPartUnder-with_nibble, deeper}
use Rattle.jf_walk.proofs.ChildEntryLaws.{child_entries-few, child_entries-many}
use Rattle.jf_walk.proofs.WalkLaws.{listed-gone, each-nil, listed-same}
use Rattle.jf_walk.proofs.PartChanges.{IsPartUnder-applied, length-applied, with_nibble-applied}

-- how many entries the parts of `count` nibbles have, from nibble n on
total : ℕ → ℕ → ℕ → {Y : Type 0} → List (List ℕ × Y) → ℕ
total zero n d es = 0
total (suc count) n d es = length (with_nibble d n es) + total count (n + 1) d es

module _ {X : Type 0} where
  -- lists of at most c for each entry of their part are together at most c for each entry
  each-bound : (count n d c : ℕ) (bs : Batch) (g : ℕ → List X) → ((m : ℕ) → length (g m) ≤ c * length (with_nibble d m bs)) → length (each_from count n g) ≤ c * total count n d bs
  unfolding total
  each-bound zero n d c bs g h = omega arith
  each-bound (suc count) n d c bs g h = omega (arith, h n, each-bound count (n + 1) d c bs g h, length-append (g n) (each_from count (n + 1) g))

-- a bound for new entries over at most one old one: c for each new entry but the first, and 1 for the first
few_bound : ℕ → ℕ → ℕ
few_bound c zero = 0
few_bound c (suc j) = c * j + 1

module _ {X : Type 0} where
  -- lists within that bound are together within it
  each_few : (count n d c : ℕ) (es : Part) (g : ℕ → List X) → 1 ≤ c → ((m : ℕ) → length (g m) ≤ few_bound c (length (with_nibble d m es))) → (length (each_from count n g) ≤ c * total count n d es) × (1 ≤ total count n d es → length (each_from count n g) + c ≤ c * total count n d es + 1)
  unfolding total few_bound
  each_few zero n d c es g some h = (omega arith, λ up. absurd (omega arith))
  each_few (suc count) n d c es g some h =
      let rest = each_few count (n + 1) d c es g some h in
      let joint = length-append (g n) (each_from count (n + 1) g) in
      elim (length (with_nibble d n es)) as (λ k. length (g n) ≤ few_bound c k → (length (each_from (suc count) n g) ≤ c * (k + total count (n + 1) d es)) × (1 ≤ k + total count (n + 1) d es → length (each_from (suc count) n g) + c ≤ c * (k + total count (n + 1) d es) + 1)) [
        | zero ↦ λ here. (omega (arith, rest.0), λ up. omega (arith, rest.1 (omega arith)))
        | suc k ↦ λ here. (omega (arith, rest.0), λ up. omega (arith, rest.0))
      ] (h n)

-- the parts from a nibble up to the last have all entries from that nibble on
total-from : {Y : Type 0} (count n d : ℕ) (path : ℕ → ℕ) (es : List (List ℕ × Y)) → IsPartUnder d path es → n + count ≡ 16 → total count n d es ≡ length (from_nibble d n es)
unfolding total
total-from zero n d path es part end = sym (ap length (from_nibble-past d n es (omega arith)))
total-from (suc count) n d path es part end =
    omega (arith, total-from count (n + 1) d path es part (omega arith), ap length (from_nibble-split d n path es part), length-append (with_nibble d n es) (from_nibble d (n + 1) es))

total_all : {Y : Type 0} (d : ℕ) (path : ℕ → ℕ) (es : List (List ℕ × Y)) → IsPartUnder d path es → total 16 0 d es ≡ length es
total_all d path es part = total-from 16 0 d path es part refl ∙ ap length (from_nibble-zero d es)

module _ {X : Type 0} where
  cond-le : (b : Bool) (xs : List X) (n : ℕ) → length xs ≤ n → length (cond b xs []) ≤ n
  cond-le true xs n h = h
  cond-le false xs n h = omega arith

  -- over at most one old entry, the new nodes are within that bound
  bound_few : (l d : ℕ) (path : ℕ → ℕ) (old es : Part) (f : Path → X) → l + d ≡ 64 → length old < 2 → IsPartUnder d path es → length (list_of_new_nodes l d old es f) ≤ few_bound (l + 1) (length es)
  unfolding list_of_new_nodes few_bound
  bound_few zero d path old [] f deep few part = omega arith
  bound_few zero d path old (e ∷ []) f deep few part = cond-le (differs old (e ∷ [])) (f [] ∷ []) _ (omega arith)
  bound_few zero d path old (e ∷ e' ∷ es) f deep few part = absurd (let s = deeper d path (e ∷ e' ∷ es) part (omega arith) in omega arith)
  bound_few (suc l) d path old [] f deep few part = omega arith
  bound_few (suc l) d path old (e ∷ []) f deep few part =
      let g : ℕ → List X = λ n. list_of_new_nodes l (d + 1) (child_entries d n old) [] (λ p. f (n ∷ p)) in
      let none = ap length (each-nil 16 0 g (λ m. listed-gone l (d + 1) (child_entries d m old) (λ p. f (m ∷ p)))) in
      cond-le (differs old (e ∷ [])) (f [] ∷ each_from 16 0 g) _ (omega (arith, none))
  bound_few (suc l) d path old (e ∷ e' ∷ es) f deep few part =
      let all = e ∷ e' ∷ es in
      let g : ℕ → List X = λ n. list_of_new_nodes l (d + 1) (child_entries d n old) (with_nibble d n all) (λ p. f (n ∷ p)) in
      let each = each_few 16 0 d (l + 1) all g (omega arith) (λ m. bound_few l (d + 1) (stepped d m path) (child_entries d m old) (with_nibble d m all) (λ p. f (m ∷ p)) (omega arith) (omega (arith, ap length (child_entries-few d m old few))) (IsPartUnder-with_nibble d m path all part)) in
      let sum = total_all d path all part in
      cond-le (differs old all) (f [] ∷ each_from 16 0 g) _ (let up = each.1 (omega (arith, sum)) in omega (arith, up, sum, product (l + 1) _ _ sum))
    where
      product : (c a b : ℕ) → a ≡ b → c * a ≡ c * b
      product c a b e = ap (λ n. c * n) e

few_le : (c k n : ℕ) → 1 ≤ n → k ≤ n + 1 → few_bound c k ≤ (c + 1) * n
unfolding few_bound
few_le c zero n some le = omega arith
few_le c (suc k) n some le = let m : c * k ≤ c * n = mul-le-mul_left c (let s : k ≤ n = omega arith in s) in omega arith

module _ {X : Type 0} where
  bound_on_few : (l d : ℕ) (path : ℕ → ℕ) (es : Part) (bs : Batch) (f : Path → X) → l + d ≡ 64 → IsPartUnder d path es → IsPartUnder d path bs → 1 ≤ length bs → length es < 2 → length (list_of_new_nodes l d es (entries_after_batch es bs) f) ≤ (l + 2) * length bs
  bound_on_few l d path es bs f deep part batch some few =
      omega (arith, bound_few l d path es (entries_after_batch es bs) f deep few (IsPartUnder-applied d path es bs part batch), few_le (l + 1) (length (entries_after_batch es bs)) (length bs) some (omega (arith, length-applied es bs)))

  -- with l levels below, a batch of n keys makes at most (l + 2) n new nodes
  pub length-listed : (l d : ℕ) (path : ℕ → ℕ) (es : Part) (bs : Batch) (f : Path → X) → l + d ≡ 64 → IsPartUnder d path es → IsPartUnder d path bs → length (list_of_new_nodes l d es (entries_after_batch es bs) f) ≤ (l + 2) * length bs
  unfolding list_of_new_nodes
  length-listed l d path es [] f deep part batch = omega (arith, ap length (ap (λ new. list_of_new_nodes l d es new f) (applied-none es) ∙ listed-same l d es f))
  length-listed zero d path es (b ∷ bs) f deep part batch = elim (cases_lt (length es) 2) [
    | inl few ↦ bound_on_few zero d path es (b ∷ bs) f deep part batch (omega arith) few
    | inr many ↦ absurd (let s = deeper d path es part many in omega arith)
  ]
  length-listed (suc l) d path es (b ∷ bs) f deep part batch = elim (cases_lt (length es) 2) [
    | inl few ↦ bound_on_few (suc l) d path es (b ∷ bs) f deep part batch (omega arith) few
    | inr many ↦
        let new = entries_after_batch es (b ∷ bs) in
        let g : ℕ → List X = λ n. list_of_new_nodes l (d + 1) (child_entries d n es) (child_entries d n new) (λ p. f (n ∷ p)) in
        let one : (m : ℕ) → length (g m) ≤ (l + 2) * length (with_nibble d m (b ∷ bs)) = λ m. elim (cases_lt (length new) 2) [
          | inl lone ↦ omega (arith, ap length (ap (λ k. list_of_new_nodes l (d + 1) (child_entries d m es) k (λ p. f (m ∷ p))) (child_entries-few d m new lone) ∙ listed-gone l (d + 1) (child_entries d m es) (λ p. f (m ∷ p))))
          | inr lots ↦ subst (λ a. length (list_of_new_nodes l (d + 1) a (child_entries d m new) (λ p. f (m ∷ p))) ≤ (l + 2) * length (with_nibble d m (b ∷ bs))) (sym (child_entries-many d m es many))
              (subst (λ c. length (list_of_new_nodes l (d + 1) (with_nibble d m es) c (λ p. f (m ∷ p))) ≤ (l + 2) * length (with_nibble d m (b ∷ bs))) (sym (child_entries-many d m new lots ∙ with_nibble-applied d m es (b ∷ bs) part.sorted))
              (length-listed l (d + 1) (stepped d m path) (with_nibble d m es) (with_nibble d m (b ∷ bs)) (λ p. f (m ∷ p)) (omega arith) (IsPartUnder-with_nibble d m path es part) (IsPartUnder-with_nibble d m path (b ∷ bs) batch)))
        ] in
        let sum = each-bound 16 0 d (l + 2) (b ∷ bs) g one in
        cond-le (differs es new) (f [] ∷ each_from 16 0 g) _ (omega (arith, sum, ap (λ n. (l + 2) * n) (total_all d path (b ∷ bs) batch)))
  ]
