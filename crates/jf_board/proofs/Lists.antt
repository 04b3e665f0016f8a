-- Functions that change at one number, and lists with one more element.
use Rattle.std.proofs.Common.{◌≡◌, ℕ, zero, suc, ◌-◌, ◌<◌, ◌≤◌, ◌≢◌, ◌⊎◌, cond, eqb, List, [], ◌∷◌, ◌++◌, length, get_or, replicate, sym, refl, ap, subst, inl, inr, ⊎_elim, arith, eq-eqb, ne_eqb}
use mathlib.Core.Logic.{dite}
use mathlib.Core.Option.{some, some-injective, some-ne-none}
use native.Mathlib.Decide.{ℕ_discrete}
use lib.ListN.{get_elem?}
use Rattle.std.proofs.lemmas.Bool.Decides.{nat_tests}
use Rattle.jf_board.specs.Rule.{Has, lower, least}

module _ {A : Type 0} where
  abbrev pub put : (ℕ → A) → ℕ → A → ℕ → A
  put f k x j = cond (eqb j k) x (f j)

  pub put_at : (f : ℕ → A) (k : ℕ) (x : A) (j : ℕ) → j ≡ k → put f k x j ≡ x
  put_at f k x j e = ap (λ b. cond b x (f j)) (eq-eqb j k e)

  pub put_else : (f : ℕ → A) (k : ℕ) (x : A) (j : ℕ) → j ≢ k → put f k x j ≡ f j
  put_else f k x j n = ap (λ b. cond b x (f j)) (ne_eqb j k n)

  pub put_keeps : (P : A → Type 0) (f : ℕ → A) (k : ℕ) (x : A) (j : ℕ) → (j ≡ k → P x) → (j ≢ k → P (f j)) → P (put f k x j)
  put_keeps P f k x j here there = dite (ℕ_discrete j k) (λ e. subst P (sym (put_at f k x j e)) (here e)) (λ n. subst P (sym (put_else f k x j n)) (there n))

  pub at_end : (l : List A) (a b : A) (j : ℕ) → get_elem? (l ++ a ∷ []) j ≡ some b → (get_elem? l j ≡ some b) ⊎ ((a ≡ b) × (j ≡ length l))
  at_end [] a b zero e = inr (some-injective a b e, refl)
  at_end [] a b (suc j) e = absurd (some-ne-none b (sym e))
  at_end (x ∷ xs) a b zero e = inl e
  at_end (x ∷ xs) a b (suc j) e = ⊎_elim (λ t. inl t) (λ t. let n = t.1 in inr (t.0, omega arith)) (at_end xs a b j e)

  pub within : (l : List A) (j : ℕ) (b : A) → get_elem? l j ≡ some b → j < length l
  within [] j b e = absurd (some-ne-none b (sym e))
  within (x ∷ xs) zero b e = omega arith
  within (x ∷ xs) (suc j) b e = let h = within xs j b e in omega arith

-- the lesser of m and a word is at most m
pub lower_le : (m w : ℕ) → lower m w ≤ m
lower_le m w = grind (arith, nat_tests)

-- the lesser of m and a word is at most the word's version
pub lower_word : (m w : ℕ) → 0 < w → lower m w ≤ w - 1
lower_word m w h = grind (arith, nat_tests)

-- the least of pin words and one more
pub least_snoc : (m : ℕ) (ws : List ℕ) (w : ℕ) → least m (ws ++ w ∷ []) ≡ lower (least m ws) w
least_snoc m [] w = refl
least_snoc m (x ∷ xs) w = least_snoc (lower m x) xs w

-- each element of a list of copies is the element that was copied
pub free_at : {A : Type 0} (x : A) (n i : ℕ) → get_or (replicate n x) i x ≡ x
free_at x zero i = refl
free_at x (suc n) zero = refl
free_at x (suc n) (suc i) = free_at x n i

-- what holds of all pairs and of a new one holds of each pair after a load
pub pairs_after : (P : ℕ × ℕ → Type 0) (pairs : List (ℕ × ℕ)) (x : ℕ) (a : ℕ × ℕ) → ((t : ℕ × ℕ) → Has pairs t → P t) → (x ≢ 0 → P a) → (t : ℕ × ℕ) → Has (cond (eqb x 0) pairs (pairs ++ a ∷ [])) t → P t
pairs_after P pairs x a old new t = dite (ℕ_discrete x 0) (λ e. subst (λ b. Has (cond b pairs (pairs ++ a ∷ [])) t → P t) (sym (eq-eqb x 0 e)) (old t))
    (λ n. subst (λ b. Has (cond b pairs (pairs ++ a ∷ [])) t → P t) (sym (ne_eqb x 0 n)) (λ has. ⊎_elim (λ (e : get_elem? pairs has.0 ≡ some t). old t (has.0, e)) (λ (e : (a ≡ t) × (has.0 ≡ length pairs)). subst P e.0 (new n)) (at_end pairs a t has.0 has.1)))
