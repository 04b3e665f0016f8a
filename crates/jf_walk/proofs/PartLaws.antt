-- A part falls into the parts of its sixteen nibbles, in their order.
use Rattle.std.proofs.Common.{◌≡◌, ℕ, false, ◌==◌, arith, List, ◌∷◌, ◌<◌, ◌≤◌, [], T, cond, refl, ap, ◌∙◌, ◌+◌, inl, inr, ◌++◌, sym, ap₂, eq-or-lt_of_le, length, true}
use Rattle.std.proofs.lemmas.Bool.{cases_lt, le-leb, lt-leb, eq-eqb}
use Rattle.std.proofs.lemmas.Bool.Decides.{nat_tests}
use Rattle.std.specs.FinMap.Entries.{below_all, is_sorted-where_key}
use Rattle.std.specs.List.{AllByRecursion}
use Rattle.jf_path.specs.Keys.{key_cmp, IsKey}
use Rattle.jf_path.specs.Nibbles.{nibble}
use Rattle.jf_path.proofs.NibbleLaws.{nibble-small}
use Rattle.jf_path.proofs.FilterLaws.{All-filter}
use Rattle.jf_hash.specs.Slots.{with_nibble, from_nibble}
use Rattle.jf_hash.proofs.KeyOrder.{sorted-rest, below-first, below-later, below-rest}
use Rattle.jf_hash.proofs.NibbleOrder.{rises, apart_at_nibble}
use Rattle.jf_model.specs.Parts.{IsPartUnder}

-- the test of two numbers that differ is false
pub eqb-differs : (n k : ℕ) → ¬ (k ≡ n) → (k == n) ≡ false
eqb-differs n k h = grind (arith, nat_tests)

module _ {X : Type 0} where
  -- a part without its first entry is a part
  pub IsPartUnder-rest : {d : ℕ} {path : ℕ → ℕ} (e : List ℕ × X) (es : List (List ℕ × X)) → IsPartUnder d path (e ∷ es) → IsPartUnder d path es
  IsPartUnder-rest e es h = record { sorted = sorted-rest e es h.sorted; keys = h.keys.1; agree = h.agree.1 }

  all_rise : (d : ℕ) (path : ℕ → ℕ) (a : List ℕ) (es : List (List ℕ × X)) → IsKey a → ((i : ℕ) → i < d → nibble a i ≡ path i) → T (below_all key_cmp a es) → AllByRecursion (λ e. IsKey e.0) es → AllByRecursion (λ e. (i : ℕ) → i < d → nibble e.0 i ≡ path i) es
      → AllByRecursion (λ e. nibble a d ≤ nibble e.0 d) es
  all_rise d path a [] ka pa below keys agree = tt
  all_rise d path a (e ∷ es) ka pa below keys agree =
      (rises d a e.0 path ka keys.0 (below-first a e es below) pa agree.0, all_rise d path a es ka pa (below-later a e es below) keys.1 agree.1)

  none_at : (d n m : ℕ) (es : List (List ℕ × X)) → AllByRecursion (λ e. m ≤ nibble e.0 d) es → n < m → with_nibble d n es ≡ []
  none_at d n m [] h lt = refl
  none_at d n m (e ∷ es) h lt =
      ap (λ b. cond b (e ∷ with_nibble d n es) (with_nibble d n es)) (eqb-differs n (nibble e.0 d) (λ is. let up = h.0 in omega arith)) ∙ none_at d n m es h.1 lt

  -- the entries from a nibble on: those with the nibble, and then those from the next on
  pub from_nibble-split : (d n : ℕ) (path : ℕ → ℕ) (es : List (List ℕ × X)) → IsPartUnder d path es → from_nibble d n es ≡ with_nibble d n es ++ from_nibble d (n + 1) es
  from_nibble-split d n path [] part = refl
  from_nibble-split d n path (e ∷ es) part =
      let k : ℕ = nibble e.0 d in
      let rest = from_nibble-split d n path es (IsPartUnder-rest e es part) in
      elim (cases_lt k n) [
        | inl lower ↦
            ap (λ b. cond b (e ∷ from_nibble d n es) (from_nibble d n es)) (lt-leb n k lower) ∙ rest
            ∙ ap₂ (λ b c. cond b (e ∷ with_nibble d n es) (with_nibble d n es) ++ cond c (e ∷ from_nibble d (n + 1) es) (from_nibble d (n + 1) es)) (sym (eqb-differs n k (λ is. omega arith))) (sym (lt-leb (n + 1) k (omega arith)))
        | inr upper ↦ ap (λ b. cond b (e ∷ from_nibble d n es) (from_nibble d n es)) (le-leb n k upper) ∙ elim (eq-or-lt_of_le upper) [
          | inl here ↦ ap (λ t. e ∷ t) rest
              ∙ ap₂ (λ b c. cond b (e ∷ with_nibble d n es) (with_nibble d n es) ++ cond c (e ∷ from_nibble d (n + 1) es) (from_nibble d (n + 1) es)) (sym (eq-eqb k n (sym here))) (sym (lt-leb (n + 1) k (omega arith)))
          | inr above ↦
              let none = none_at d n k es (all_rise d path e.0 es part.keys.0 part.agree.0 (below-rest e es part.sorted) part.keys.1 part.agree.1) above in
              ap (λ t. e ∷ t) (rest ∙ ap (λ t. t ++ from_nibble d (n + 1) es) none)
              ∙ ap (λ t. t ++ e ∷ from_nibble d (n + 1) es) (sym none)
              ∙ ap₂ (λ b c. cond b (e ∷ with_nibble d n es) (with_nibble d n es) ++ cond c (e ∷ from_nibble d (n + 1) es) (from_nibble d (n + 1) es)) (sym (eqb-differs n k (λ is. omega arith))) (sym (le-leb (n + 1) k (omega arith)))
        ]
      ]

  -- the entries from nibble 0 on are all of them
  pub from_nibble-zero : (d : ℕ) (es : List (List ℕ × X)) → from_nibble d 0 es ≡ es
  from_nibble-zero d [] = refl
  from_nibble-zero d (e ∷ es) = ap (λ b. cond b (e ∷ from_nibble d 0 es) (from_nibble d 0 es)) (le-leb 0 (nibble e.0 d) (omega arith)) ∙ ap (λ t. e ∷ t) (from_nibble-zero d es)

  -- no entry has a nibble of 16 or more
  pub from_nibble-past : (d n : ℕ) (es : List (List ℕ × X)) → 16 ≤ n → from_nibble d n es ≡ []
  from_nibble-past d n [] past = refl
  from_nibble-past d n (e ∷ es) past = ap (λ b. cond b (e ∷ from_nibble d n es) (from_nibble d n es)) (lt-leb n (nibble e.0 d) (omega (arith, nibble-small e.0 d))) ∙ from_nibble-past d n es past

  -- no entry has just such a nibble
  pub with_nibble-past : (d n : ℕ) (es : List (List ℕ × X)) → 16 ≤ n → with_nibble d n es ≡ []
  with_nibble-past d n [] past = refl
  with_nibble-past d n (e ∷ es) past = ap (λ b. cond b (e ∷ with_nibble d n es) (with_nibble d n es)) (eqb-differs n (nibble e.0 d) (λ is. omega (arith, nibble-small e.0 d))) ∙ with_nibble-past d n es past

  -- two entries differ in some nibble, so a part with two entries has a nibble below it
  pub deeper : (d : ℕ) (path : ℕ → ℕ) (es : List (List ℕ × X)) → IsPartUnder d path es → 2 ≤ length es → d < 64
  deeper d path [] part two = absurd (omega arith)
  deeper d path (e ∷ []) part two = absurd (omega arith)
  deeper d path (e ∷ f ∷ es) part two =
      let lt = below-first e.0 f es (below-rest e (f ∷ es) part.sorted) in
      let a = apart_at_nibble d e.0 f.0 path part.keys.0 part.keys.1.0 lt part.agree.0 part.agree.1.0 in
      omega (arith, a.1, a.2.within)

-- the path with nibble n at a depth
abbrev pub stepped : ℕ → ℕ → (ℕ → ℕ) → ℕ → ℕ
stepped depth n path i = cond (i == depth) n (path i)

module _ {X : Type 0} where
  agree_at : (d n : ℕ) (path : ℕ → ℕ) (es : List (List ℕ × X)) → AllByRecursion (λ e. (i : ℕ) → i < d → nibble e.0 i ≡ path i) es → AllByRecursion (λ e. (i : ℕ) → i < d + 1 → nibble e.0 i ≡ stepped d n path i) (with_nibble d n es)
  agree_at d n path [] h = tt
  agree_at d n path (e ∷ es) h =
      elim (nibble e.0 d == n) as (λ b. (nibble e.0 d == n) ≡ b → AllByRecursion (λ e. (i : ℕ) → i < d + 1 → nibble e.0 i ≡ stepped d n path i) (cond b (e ∷ with_nibble d n es) (with_nibble d n es))) [
        | true ↦ λ is. ((λ i lt. one_more e.0 is h.0 i lt), agree_at d n path es h.1)
        | false ↦ λ is. agree_at d n path es h.1
      ] refl
    where
      one_more : (k : List ℕ) → (nibble k d == n) ≡ true → ((i : ℕ) → i < d → nibble k i ≡ path i) → (i : ℕ) → i < d + 1 → nibble k i ≡ stepped d n path i
      one_more k is before i lt = grind (arith, nat_tests)

  -- the entries with one nibble are a part one step further
  pub IsPartUnder-with_nibble : (d n : ℕ) (path : ℕ → ℕ) (es : List (List ℕ × X)) → IsPartUnder d path es → IsPartUnder (d + 1) (stepped d n path) (with_nibble d n es)
  IsPartUnder-with_nibble d n path es part = record {
    sorted = is_sorted-where_key key_cmp (λ k. nibble k d == n) es part.sorted;
    keys = All-filter (λ e. IsKey e.0) (λ e. nibble e.0 d == n) es part.keys;
    agree = agree_at d n path es part.agree;
  }
