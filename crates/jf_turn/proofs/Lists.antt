-- Functions that change at one number, and lists that begin others.
use lib.ListN.{get_elem?}
use mathlib.Core.List.{append-nil}
use mathlib.Core.Option.{some, some-injective, some-ne-none}
use Rattle.std.proofs.Common.{ℕ, cond, eqb, ◌≡◌, ap, eq-eqb, ◌≢◌, ne_eqb, zero, suc, ◌⊎◌, List, [], ◌∷◌, ◌++◌, length, sym, refl, inl, inr, ⊎_elim, arith, ◌<◌, ◌∙◌, append_assoc, ◌≤◌, length-append}
use Rattle.atomic_table.proofs.Lists.{at_longer}
use Rattle.jf_turn.specs.Lists.{HasElement, StartsWith}

module _ {A : Type 0} where
  abbrev pub put : (ℕ → A) → ℕ → A → ℕ → A
  put f k x j = cond (eqb j k) x (f j)

  pub put_at : (f : ℕ → A) (k : ℕ) (x : A) (j : ℕ) → j ≡ k → put f k x j ≡ x
  put_at f k x j e = ap (λ b. cond b x (f j)) (eq-eqb j k e)

  pub put_else : (f : ℕ → A) (k : ℕ) (x : A) (j : ℕ) → j ≢ k → put f k x j ≡ f j
  put_else f k x j n = ap (λ b. cond b x (f j)) (ne_eqb j k n)

  pub at_end : (l : List A) (a b : A) (j : ℕ) → get_elem? (l ++ a ∷ []) j ≡ some b → (get_elem? l j ≡ some b) ⊎ ((a ≡ b) × (j ≡ length l))
  at_end [] a b zero e = inr (some-injective a b e, refl)
  at_end [] a b (suc j) e = absurd (some-ne-none b (sym e))
  at_end (x ∷ xs) a b zero e = inl e
  at_end (x ∷ xs) a b (suc j) e = ⊎_elim (λ t. inl t) (λ t. let n = t.1 in inr (t.0, omega arith)) (at_end xs a b j e)

  pub within : (l : List A) (j : ℕ) (b : A) → get_elem? l j ≡ some b → j < length l
  within [] j b e = absurd (some-ne-none b (sym e))
  within (x ∷ xs) zero b e = omega arith
  within (x ∷ xs) (suc j) b e = let h = within xs j b e in omega arith

  pub some_at : (l : List A) (j : ℕ) → j < length l → (b : A) × (get_elem? l j ≡ some b)
  some_at [] j h = absurd (omega arith)
  some_at (x ∷ xs) zero h = (x, refl)
  some_at (x ∷ xs) (suc j) h = some_at xs j (omega arith)

  -- an element of two lists in a row
  pub at_append : (l m : List A) (j : ℕ) (b : A) → get_elem? (l ++ m) j ≡ some b → (get_elem? l j ≡ some b) ⊎ HasElement m b
  at_append [] m j b e = inr (j, e)
  at_append (x ∷ xs) m zero b e = inl e
  at_append (x ∷ xs) m (suc j) b e = at_append xs m j b e

  has_at : (x : A) (xs : List A) (y : A) (k : ℕ) → get_elem? (x ∷ xs) k ≡ some y → (x ≡ y) ⊎ HasElement xs y
  has_at x xs y zero e = inl (some-injective x y e)
  has_at x xs y (suc k) e = inr (k, e)

  pub has_cons : (x : A) (xs : List A) (y : A) → HasElement (x ∷ xs) y → (x ≡ y) ⊎ HasElement xs y
  has_cons x xs y h = has_at x xs y h.0 h.1

  pub has_append : (xs ys : List A) (y : A) → HasElement (xs ++ ys) y → HasElement xs y ⊎ HasElement ys y
  has_append xs ys y h = ⊎_elim (λ e. inl (h.0, e)) (λ t. inr t) (at_append xs ys h.0 y h.1)

  pub starts_self : (l : List A) → StartsWith l l
  starts_self l = ([], sym (append-nil l))

  pub starts_more : (entries more seen : List A) → StartsWith entries seen → StartsWith (entries ++ more) seen
  starts_more entries more seen s = (s.0 ++ more, ap (λ xs. xs ++ more) s.1 ∙ append_assoc seen s.0 more)

  front_first : (a b ra rb : List A) → a ++ ra ≡ b ++ rb → length b ≤ length a → StartsWith a b
  front_first a [] ra rb e l = (a, refl)
  front_first [] (y ∷ b) ra rb e l = absurd (omega arith)
  front_first (x ∷ a) (y ∷ b) ra rb e l = let h : x ≡ y = cc in let t : a ++ ra ≡ b ++ rb = cc in let r = front_first a b ra rb t (omega arith) in (r.0, λ i. h i ∷ r.1 i)

  -- of two fronts of one list, the shorter begins the longer
  pub prefix_of : (entries a b : List A) → StartsWith entries a → StartsWith entries b → length b ≤ length a → StartsWith a b
  prefix_of entries a b s t l = front_first a b s.0 t.0 (sym s.1 ∙ t.1) l

  whole : (entries a r q : List A) → entries ≡ a ++ r → a ≡ entries ++ q → entries ≡ a
  whole entries a [] q e f = e ∙ append-nil a
  whole entries a (x ∷ r) q e f = absurd (let n = ap length e in let m = ap length f in omega (arith, length-append a (x ∷ r), length-append entries q))

  -- a front as long as the list is the whole list
  pub prefix_whole : (entries a : List A) → StartsWith entries a → length entries ≤ length a → entries ≡ a
  prefix_whole entries a s l = let r = front_first a entries s.0 [] (sym s.1 ∙ sym (append-nil entries)) l in whole entries a s.0 r.0 s.1 r.1

  pub has_left : (xs ys : List A) (y : A) → HasElement xs y → HasElement (xs ++ ys) y
  has_left xs ys y h = (h.0, at_longer xs ys h.0 y h.1)

  pub has_right : (xs ys : List A) (y : A) → HasElement ys y → HasElement (xs ++ ys) y
  has_right [] ys y h = h
  has_right (x ∷ xs) ys y h = let r = has_right xs ys y h in (suc r.0, r.1)
