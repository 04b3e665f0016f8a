-- Parts of a map: entries whose next bit is 0 stand before those whose bit is 1, and what that says of the entries before and after one.
use Rattle.std.specs.Prelude.{◌≡◌, ℕ, ◌+◌, List, ◌++◌, ◌<◌, Bool, false, T, [], ◌∷◌, not, cond, true}
use Rattle.std.proofs.Common.{sym, ap₂, ◌∙◌, take-append-drop, ap, inl, inr, Less, eq-or-lt_of_le, refl, subst}
use Rattle.std.proofs.lemmas.List.{append-nil}
use Rattle.std.proofs.lemmas.List.Elements.{filter-append}
use Rattle.std.specs.FinMap.{is_sorted}
use Rattle.std.specs.FinMap.Entries.{below_all}
use Rattle.std.specs.List.{AllByRecursion}
use Rattle.jf_path.specs.Keys.{bit, key_cmp, IsKey}
use Rattle.jf_hash.specs.Parts.{IsPart}
use Rattle.jf_hash.specs.Roots.{zeros, ones}
use Rattle.jf_hash.proofs.Split.{zeros_ones, first_one, apart_at, stays_one, zeros_part, ones_part}
use Rattle.jf_hash.proofs.KeyOrder.{below-first, below-later, sorted-rest, below-rest}

-- ---- halves
module _ {X : Type 0} where
  -- a part is its zero part, and then its one part
  pub part-halves : (d : ℕ) (es : List (List ℕ × X)) → IsPart d es → es ≡ zeros d es ++ ones d es
  part-halves d es part =
      let f = first_one d es in
      let cut = zeros_ones d f.0 es part f.1 in
      sym (take-append-drop f.0 es) ∙ ap₂ (λ (a b : List (List ℕ × X)). a ++ b) (sym cut.0) (sym cut.1)

  -- parts with the same halves are the same
  pub same-halves : (d : ℕ) (es fs : List (List ℕ × X)) → IsPart d es → IsPart d fs → zeros d es ≡ zeros d fs → ones d es ≡ ones d fs → es ≡ fs
  same-halves d es fs part part' z o = part-halves d es part ∙ ap₂ (λ (a b : List (List ℕ × X)). a ++ b) z o ∙ sym (part-halves d fs part')

-- ---- around one entry
-- the lesser of two keys that agree so far has no 1 bit where the greater has 0
zero_before : (d : ℕ) (a b : List ℕ) (path : ℕ → Bool) → IsKey a → IsKey b → key_cmp a b ≡ Less → ((i : ℕ) → i < d → bit a i ≡ path i) → ((i : ℕ) → i < d → bit b i ≡ path i) → bit b d ≡ false → bit a d ≡ false
zero_before d a b path ka kb lt pa pb low =
    let f = apart_at d a b path ka kb lt pa pb in
    elim (eq-or-lt_of_le f.1) [
      | inl here ↦ ap (bit a) here ∙ f.2.zero_there
      | inr later ↦ f.2.before d later ∙ low
    ]

module _ {X : Type 0} where
  below_one : (k : List ℕ) (xs : List (List ℕ × X)) (x : List ℕ × X) (ys : List (List ℕ × X)) → T (below_all key_cmp k (xs ++ x ∷ ys)) → key_cmp k x.0 ≡ Less
  below_one k [] x ys below = below-first k x ys below
  below_one k (e ∷ xs) x ys below = below_one k xs x ys (below-later k e (xs ++ x ∷ ys) below)

  -- an entry and what stands after it ascend
  pub sorted-after : (xs : List (List ℕ × X)) (x : List ℕ × X) (ys : List (List ℕ × X)) → T (is_sorted key_cmp (xs ++ x ∷ ys)) → T (is_sorted key_cmp (x ∷ ys))
  sorted-after [] x ys sorted = sorted
  sorted-after (e ∷ xs) x ys sorted = sorted-after xs x ys (sorted-rest e (xs ++ x ∷ ys) sorted)

  all_after : (P : List ℕ × X → Type 0) (xs ys : List (List ℕ × X)) → AllByRecursion P (xs ++ ys) → AllByRecursion P ys
  all_after P [] ys all = all
  all_after P (e ∷ xs) ys all = all_after P xs ys all.1

  -- the entries before one whose bit is 0 have 0 there
  all_zero : (d : ℕ) (xs : List (List ℕ × X)) (x : List ℕ × X) (ys : List (List ℕ × X)) → IsPart d (xs ++ x ∷ ys) → bit x.0 d ≡ false → (zeros d xs ≡ xs) × (ones d xs ≡ [])
  all_zero d [] x ys part low = (refl, refl)
  all_zero d (e ∷ xs) x ys part low =
      let k = all_after (λ e. IsKey e.0) xs (x ∷ ys) part.keys.1 in
      let agree = all_after (λ e. (i : ℕ) → i < d → bit e.0 i ≡ part.path i) xs (x ∷ ys) part.agree.1 in
      let here = zero_before d e.0 x.0 part.path part.keys.0 k.0 (below_one e.0 xs x ys (below-rest e (xs ++ x ∷ ys) part.sorted)) part.agree.0 agree.0 low in
      let rest = all_zero d xs x ys (record { sorted = sorted-rest e (xs ++ x ∷ ys) part.sorted; keys = part.keys.1; path = part.path; agree = part.agree.1 }) low in
      (ap (λ b. cond (not b) (e ∷ zeros d xs) (zeros d xs)) here ∙ ap (λ t. e ∷ t) rest.0, ap (λ b. cond b (e ∷ ones d xs) (ones d xs)) here ∙ rest.1)

  all_one : (d : ℕ) (x : List ℕ × X) (ys : List (List ℕ × X)) → IsPart d (x ∷ ys) → bit x.0 d ≡ true → (zeros d ys ≡ []) × (ones d ys ≡ ys)
  all_one d x [] part one = (refl, refl)
  all_one d x (e ∷ ys) part one =
      let here = stays_one d x.0 e.0 part.path part.keys.0 part.keys.1.0 (below-first x.0 e ys (below-rest x (e ∷ ys) part.sorted)) part.agree.0 part.agree.1.0 one in
      let rest = all_one d e ys (record { sorted = sorted-rest x (e ∷ ys) part.sorted; keys = part.keys.1; path = part.path; agree = part.agree.1 }) here in
      (ap (λ b. cond (not b) (e ∷ zeros d ys) (zeros d ys)) here ∙ rest.0, ap (λ b. cond b (e ∷ ones d ys) (ones d ys)) here ∙ ap (λ t. e ∷ t) rest.1)

  part-after : (d : ℕ) (xs ys : List (List ℕ × X)) (x : List ℕ × X) → IsPart d (xs ++ x ∷ ys) → IsPart d (x ∷ ys)
  part-after d xs ys x part = record {
    sorted = sorted-after xs x ys part.sorted;
    keys = all_after (λ e. IsKey e.0) xs (x ∷ ys) part.keys;
    path = part.path;
    agree = all_after (λ e. (i : ℕ) → i < d → bit e.0 i ≡ part.path i) xs (x ∷ ys) part.agree;
  }

  -- the halves of a part around an entry whose bit is 0
  pub record AroundZero (d : ℕ) (xs : List (List ℕ × X)) (x : List ℕ × X) (ys : List (List ℕ × X)) : Type 0 where
    pub low : zeros d (xs ++ x ∷ ys) ≡ xs ++ x ∷ zeros d ys
    pub high : ones d (xs ++ x ∷ ys) ≡ ones d ys
    pub before : zeros d xs ≡ xs
    pub none : ones d xs ≡ []
    pub part : IsPart (d + 1) (xs ++ x ∷ zeros d ys)

  pub around-zero : (d : ℕ) (xs : List (List ℕ × X)) (x : List ℕ × X) (ys : List (List ℕ × X)) → IsPart d (xs ++ x ∷ ys) → bit x.0 d ≡ false → AroundZero d xs x ys
  around-zero d xs x ys part unset =
      let before = all_zero d xs x ys part unset in
      let low : zeros d (xs ++ x ∷ ys) ≡ xs ++ x ∷ zeros d ys =
      filter-append (λ e. not (bit e.0 d)) xs (x ∷ ys) ∙ ap₂ (λ (a b : List (List ℕ × X)). a ++ b) before.0 (ap (λ b. cond (not b) (x ∷ zeros d ys) (zeros d ys)) unset) in
      record {
        low = low;
        high = filter-append (λ e. bit e.0 d) xs (x ∷ ys) ∙ ap₂ (λ (a b : List (List ℕ × X)). a ++ b) before.1 (ap (λ b. cond b (x ∷ ones d ys) (ones d ys)) unset);
        before = before.0;
        none = before.1;
        part = subst (IsPart (d + 1)) low (zeros_part d (xs ++ x ∷ ys) part);
      }

  -- the halves of a part around an entry whose bit is 1
  pub record AroundOne (d : ℕ) (xs : List (List ℕ × X)) (x : List ℕ × X) (ys : List (List ℕ × X)) : Type 0 where
    pub low : zeros d (xs ++ x ∷ ys) ≡ zeros d xs
    pub high : ones d (xs ++ x ∷ ys) ≡ ones d xs ++ x ∷ ys
    pub part : IsPart (d + 1) (ones d xs ++ x ∷ ys)

  pub around-one : (d : ℕ) (xs : List (List ℕ × X)) (x : List ℕ × X) (ys : List (List ℕ × X)) → IsPart d (xs ++ x ∷ ys) → bit x.0 d ≡ true → AroundOne d xs x ys
  around-one d xs x ys part one =
      let behind = all_one d x ys (part-after d xs ys x part) one in
      let high : ones d (xs ++ x ∷ ys) ≡ ones d xs ++ x ∷ ys =
      filter-append (λ e. bit e.0 d) xs (x ∷ ys) ∙ ap (λ (b : List (List ℕ × X)). ones d xs ++ b) (ap (λ b. cond b (x ∷ ones d ys) (ones d ys)) one ∙ ap (λ t. x ∷ t) behind.1) in
      record {
        low = filter-append (λ e. not (bit e.0 d)) xs (x ∷ ys) ∙ ap (λ (b : List (List ℕ × X)). zeros d xs ++ b) (ap (λ b. cond (not b) (x ∷ zeros d ys) (zeros d ys)) one ∙ behind.0) ∙ append-nil (zeros d xs);
        high = high;
        part = subst (IsPart (d + 1)) high (ones_part d (xs ++ x ∷ ys) part);
      }
