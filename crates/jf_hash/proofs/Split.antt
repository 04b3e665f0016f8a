-- A part is the entries whose next bit is 0 and, after them, those where it is 1.
use Rattle.std.proofs.Common.{◌≡◌, ℕ, ◌<◌, ◌≤◌, Bool, inl, inr, List, sym, ◌∙◌, Less, true≢false, true, ap, eq-or-lt_of_le, ◌+◌, cond, ◌==◌, arith, not, [], ◌∷◌, refl, T, zero, suc, take, drop, length, false, get_or, ◌++◌, ap₂}
use Rattle.std.proofs.lemmas.Bool.{cases_lt}
use Rattle.std.proofs.lemmas.List.{take-append-drop}
use Rattle.std.specs.FinMap.{is_sorted}
use Rattle.std.specs.FinMap.Entries.{below_all, is_sorted-where_key}
use Rattle.std.specs.List.{AllByRecursion}
use Rattle.jf_path.specs.Keys.{bit, key_cmp, IsKey}
use Rattle.jf_path.proofs.FilterLaws.{All-filter}
use Rattle.jf_hash.specs.Roots.{zeros, ones}
use Rattle.jf_hash.specs.Parts.{IsFirstOne, IsPart, IsUnder, HaveBit}
use Rattle.jf_hash.proofs.Bits.{first_bit, FirstBit}
use Rattle.jf_hash.proofs.KeyOrder.{below-first, below-later, below-rest, sorted-rest}

-- two keys under one path first differ at a bit after it
pub apart_at : (d : ℕ) (a b : List ℕ) (path : ℕ → Bool) → IsKey a → IsKey b → key_cmp a b ≡ Less → ((i : ℕ) → i < d → bit a i ≡ path i) → ((i : ℕ) → i < d → bit b i ≡ path i) → (i : ℕ) × (d ≤ i) × FirstBit a b i
apart_at d a b path ka kb lt pa pb =
    let f = first_bit a b (ka.long ∙ sym kb.long) kb.bytes lt in
    (f.0, elim (cases_lt f.0 d) [ inr le ↦ le | inl early ↦ absurd (true≢false (sym f.1.one_there ∙ pb f.0 early ∙ sym (pa f.0 early) ∙ f.1.zero_there)) ], f.1)

-- after a key whose next bit is 1 come only such keys
pub stays_one : (d : ℕ) (a b : List ℕ) (path : ℕ → Bool) → IsKey a → IsKey b → key_cmp a b ≡ Less → ((i : ℕ) → i < d → bit a i ≡ path i) → ((i : ℕ) → i < d → bit b i ≡ path i) → bit a d ≡ true → bit b d ≡ true
stays_one d a b path ka kb lt pa pb one =
    let f = apart_at d a b path ka kb lt pa pb in
    elim (eq-or-lt_of_le f.1) [
      | inl here ↦ absurd (true≢false (sym one ∙ ap (bit a) here ∙ f.2.zero_there))
      | inr later ↦ sym (f.2.before d later) ∙ one
    ]

one_more : (d : ℕ) (path : ℕ → Bool) (b : Bool) (k : List ℕ) → ((i : ℕ) → i < d → bit k i ≡ path i) → bit k d ≡ b → (i : ℕ) → i < d + 1 → bit k i ≡ cond (i == d) b (path i)
one_more d path b k before here i lt = grind arith

module _ {X : Type 0} where
  all_ones : (d : ℕ) (path : ℕ → Bool) (a : List ℕ) (es : List (List ℕ × X)) → IsKey a → ((i : ℕ) → i < d → bit a i ≡ path i) → bit a d ≡ true
      → T (below_all key_cmp a es) → AllByRecursion (λ e. IsKey e.0) es → AllByRecursion (λ e. (i : ℕ) → i < d → bit e.0 i ≡ path i) es → (zeros d es ≡ []) × (ones d es ≡ es)
  all_ones d path a [] ka pa one below keys agree = (refl, refl)
  all_ones d path a (e ∷ es) ka pa one below keys agree =
      let here = stays_one d a e.0 path ka keys.0 (below-first a e es below) pa agree.0 one in
      let rest = all_ones d path a es ka pa one (below-later a e es below) keys.1 agree.1 in
      (ap (λ b. cond (not b) (e ∷ zeros d es) (zeros d es)) here ∙ rest.0, ap (λ b. cond b (e ∷ ones d es) (ones d es)) here ∙ ap (λ t. e ∷ t) rest.1)

  cut_at : (d p : ℕ) (path : ℕ → Bool) (es : List (List ℕ × X)) → IsFirstOne d p es → T (is_sorted key_cmp es) → AllByRecursion (λ e. IsKey e.0) es → AllByRecursion (λ e. (i : ℕ) → i < d → bit e.0 i ≡ path i) es
      → (zeros d es ≡ take p es) × (ones d es ≡ drop p es)
  cut_at d zero path [] f sorted keys agree = (refl, refl)
  cut_at d (suc p) path [] f sorted keys agree = absurd (let w = f.within in omega arith)
  cut_at d zero path (e ∷ es) f sorted keys agree =
      let here = f.at e (omega arith) in
      let rest = all_ones d path e.0 es keys.0 agree.0 here (below-rest e es sorted) keys.1 agree.1 in
      (ap (λ b. cond (not b) (e ∷ zeros d es) (zeros d es)) here ∙ rest.0, ap (λ b. cond b (e ∷ ones d es) (ones d es)) here ∙ ap (λ t. e ∷ t) rest.1)
  cut_at d (suc p) path (e ∷ es) f sorted keys agree =
      let here = f.before 0 e (omega arith) in
      let w = f.within in
      let rest = cut_at d p path es (record { within = omega arith; before = λ k x lt. f.before (suc k) x (omega arith); at = λ x lt. f.at x (omega arith) }) (sorted-rest e es sorted) keys.1 agree.1 in
      (ap (λ b. cond (not b) (e ∷ zeros d es) (zeros d es)) here ∙ ap (λ t. e ∷ t) rest.0, ap (λ b. cond b (e ∷ ones d es) (ones d es)) here ∙ rest.1)

  -- the halves of a part meet at the first entry whose bit is 1
  pub zeros_ones : (d p : ℕ) (es : List (List ℕ × X)) → IsPart d es → IsFirstOne d p es → (zeros d es ≡ take p es) × (ones d es ≡ drop p es)
  zeros_ones d p es part f = cut_at d p part.path es f part.sorted part.keys part.agree

  -- a part of two entries or more has a next bit
  pub deeper : (d : ℕ) (es : List (List ℕ × X)) → IsPart d es → 2 ≤ length es → d < 256
  deeper d [] part two = absurd (omega arith)
  deeper d (e ∷ []) part two = absurd (omega arith)
  deeper d (e ∷ f ∷ es) part two =
      let found = apart_at d e.0 f.0 part.path part.keys.0 part.keys.1.0 (below-first e.0 f es (below-rest e (f ∷ es) part.sorted)) part.agree.0 part.agree.1.0 in
      let w = found.2.within in let long = part.keys.0.long in omega arith

  agree_one : (d : ℕ) (path : ℕ → Bool) (es : List (List ℕ × X)) → AllByRecursion (λ e. (i : ℕ) → i < d → bit e.0 i ≡ path i) es → AllByRecursion (λ e. (i : ℕ) → i < d + 1 → bit e.0 i ≡ cond (i == d) true (path i)) (ones d es)
  agree_one d path [] all = tt
  agree_one d path (e ∷ es) all =
      elim (bit e.0 d) as (λ b. bit e.0 d ≡ b → AllByRecursion (λ e. (i : ℕ) → i < d + 1 → bit e.0 i ≡ cond (i == d) true (path i)) (cond b (e ∷ ones d es) (ones d es))) [
        | true ↦ λ is. (one_more d path true e.0 all.0 is, agree_one d path es all.1)
        | false ↦ λ is. agree_one d path es all.1
      ] refl

  agree_zero : (d : ℕ) (path : ℕ → Bool) (es : List (List ℕ × X)) → AllByRecursion (λ e. (i : ℕ) → i < d → bit e.0 i ≡ path i) es → AllByRecursion (λ e. (i : ℕ) → i < d + 1 → bit e.0 i ≡ cond (i == d) false (path i)) (zeros d es)
  agree_zero d path [] all = tt
  agree_zero d path (e ∷ es) all =
      elim (bit e.0 d) as (λ b. bit e.0 d ≡ b → AllByRecursion (λ e. (i : ℕ) → i < d + 1 → bit e.0 i ≡ cond (i == d) false (path i)) (cond (not b) (e ∷ zeros d es) (zeros d es))) [
        | true ↦ λ is. agree_zero d path es all.1
        | false ↦ λ is. (one_more d path false e.0 all.0 is, agree_zero d path es all.1)
      ] refl

  -- each half of the part under a path is under the path with the half's bit added
  pub IsUnder-ones : (d : ℕ) (path : ℕ → Bool) (es : List (List ℕ × X)) → IsUnder d path es → IsUnder (d + 1) (λ i. cond (i == d) true (path i)) (ones d es)
  IsUnder-ones d path es h = record {
    sorted = is_sorted-where_key key_cmp (λ k. bit k d) es h.sorted;
    keys = All-filter (λ e. IsKey e.0) (λ e. bit e.0 d) es h.keys;
    agree = agree_one d path es h.agree;
  }

  pub IsUnder-zeros : (d : ℕ) (path : ℕ → Bool) (es : List (List ℕ × X)) → IsUnder d path es → IsUnder (d + 1) (λ i. cond (i == d) false (path i)) (zeros d es)
  IsUnder-zeros d path es h = record {
    sorted = is_sorted-where_key key_cmp (λ k. not (bit k d)) es h.sorted;
    keys = All-filter (λ e. IsKey e.0) (λ e. not (bit e.0 d)) es h.keys;
    agree = agree_zero d path es h.agree;
  }

  -- the entries under a path are a part, and each part is under some path
  pub IsPart-under : (d : ℕ) (path : ℕ → Bool) (es : List (List ℕ × X)) → IsUnder d path es → IsPart d es
  IsPart-under d path es h = record { sorted = h.sorted; keys = h.keys; path = path; agree = h.agree }

  pub IsUnder-part : (d : ℕ) (es : List (List ℕ × X)) (part : IsPart d es) → IsUnder d part.path es
  IsUnder-part d es part = record { sorted = part.sorted; keys = part.keys; agree = part.agree }

  -- each half of a part is a part, one bit deeper
  pub ones_part : (d : ℕ) (es : List (List ℕ × X)) → IsPart d es → IsPart (d + 1) (ones d es)
  ones_part d es part = IsPart-under (d + 1) _ (ones d es) (IsUnder-ones d part.path es (IsUnder-part d es part))

  pub zeros_part : (d : ℕ) (es : List (List ℕ × X)) → IsPart d es → IsPart (d + 1) (zeros d es)
  zeros_part d es part = IsPart-under (d + 1) _ (zeros d es) (IsUnder-zeros d part.path es (IsUnder-part d es part))

  none_before : (d p : ℕ) (e : List ℕ × X) (es : List (List ℕ × X)) → bit e.0 d ≡ false → IsFirstOne d p es → (k : ℕ) (x : List ℕ × X) → k < suc p → bit (get_or (e ∷ es) k x).0 d ≡ false
  none_before d p e es is f zero x lt = is
  none_before d p e es is f (suc k) x lt = f.before k x (omega arith)

  -- there is a place of the first entry with bit 1, which may be the end of the list
  pub first_one : (d : ℕ) (es : List (List ℕ × X)) → (p : ℕ) × IsFirstOne d p es
  first_one d [] = (0, record { within = omega arith; before = λ k x lt. absurd (omega arith); at = λ x lt. absurd (omega arith) })
  first_one d (e ∷ es) = elim (bit e.0 d) as (λ b. bit e.0 d ≡ b → (p : ℕ) × IsFirstOne d p (e ∷ es)) [
    | true ↦ λ is. (0, record { within = omega arith; before = λ k x lt. absurd (omega arith); at = λ x lt. is })
    | false ↦ λ is. let f = first_one d es in (suc f.0, record { within = let w = f.1.within in omega arith; before = none_before d f.0 e es is f.1; at = λ x lt. f.1.at x (omega arith) })
  ] refl

  -- the entries with bit 0, and then those with bit 1, are all entries
  pub zeros-append-ones : (d : ℕ) (es : List (List ℕ × X)) → IsPart d es → zeros d es ++ ones d es ≡ es
  zeros-append-ones d es part =
      let f = first_one d es in
      let cut = zeros_ones d f.0 es part f.1 in
      ap₂ (λ (a b : List (List ℕ × X)). a ++ b) cut.0 cut.1 ∙ take-append-drop f.0 es

  -- each key of a half has the half's bit
  pub HaveBit-zeros : (d : ℕ) (es : List (List ℕ × X)) → HaveBit d false (zeros d es)
  HaveBit-zeros d [] = tt
  HaveBit-zeros d (e ∷ es) = elim (bit e.0 d) as (λ b. bit e.0 d ≡ b → HaveBit d false (cond (not b) (e ∷ zeros d es) (zeros d es))) [
    | true ↦ λ is. HaveBit-zeros d es
    | false ↦ λ is. (is, HaveBit-zeros d es)
  ] refl

  pub HaveBit-ones : (d : ℕ) (es : List (List ℕ × X)) → HaveBit d true (ones d es)
  HaveBit-ones d [] = tt
  HaveBit-ones d (e ∷ es) = elim (bit e.0 d) as (λ b. bit e.0 d ≡ b → HaveBit d true (cond b (e ∷ ones d es) (ones d es))) [
    | true ↦ λ is. (is, HaveBit-ones d es)
    | false ↦ λ is. HaveBit-ones d es
  ] refl
