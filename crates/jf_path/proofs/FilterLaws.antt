-- What filters keep of a list, and of another made of it.
use Rattle.std.specs.Prelude.{Bool, true, false, cond, List, [], ◌∷◌, filter, ◌≡◌, ◌&&◌}
use Rattle.std.proofs.Common.{refl, ap₂, ap, Contains, ℕ, zero, suc, ◌<◌, length, get_or, sym, ◌∙◌, subst, arith, map, ◌≤◌}
use Rattle.std.proofs.lemmas.List.Elements.{All-contains_itself, recursion_from_All, All-head, All-tail}
use Rattle.std.specs.List.{AllByRecursion, All}
use Rattle.jf_path.proofs.ListLaws.{All-of, Contains-later}

-- what holds of each element of a list holds of each that a filter keeps
pub All-filter : {X : Type 0} (P : X → Type 0) (test : X → Bool) (xs : List X) → AllByRecursion P xs → AllByRecursion P (filter test xs)
All-filter P test [] h = tt
All-filter P test (x ∷ xs) h =
    elim (test x) as (λ b. AllByRecursion P (cond b (x ∷ filter test xs) (filter test xs))) [ true ↦ (h.0, All-filter P test xs h.1) | false ↦ All-filter P test xs h.1 ]

pub filter-alike : {X : Type 0} (p q : X → Bool) (es : List X) → ((x : X) → p x ≡ q x) → filter p es ≡ filter q es
filter-alike p q [] h = refl
filter-alike p q (e ∷ es) h = ap₂ (λ b t. cond b (e ∷ t) t) (h e) (filter-alike p q es h)

pub filter-filter : {X : Type 0} (p q : X → Bool) (es : List X) → filter q (filter p es) ≡ filter (λ x. p x && q x) es
filter-filter p q [] = refl
filter-filter p q (e ∷ es) =
    elim (p e) as (λ b. filter q (cond b (e ∷ filter p es) (filter p es)) ≡ cond (b && q e) (e ∷ filter (λ x. p x && q x) es) (filter (λ x. p x && q x) es)) [
      | true ↦ ap (λ t. cond (q e) (e ∷ t) t) (filter-filter p q es)
      | false ↦ filter-filter p q es
    ]

module _ {X : Type 0} where
  -- what a filter keeps was there
  pub filter-Contains : (test : X → Bool) (xs : List X) (x : X) → Contains (filter test xs) x → Contains xs x
  filter-Contains test xs x = All-of (Contains xs) (filter test xs) x (All-filter (Contains xs) test xs (recursion_from_All (Contains xs) xs (All-contains_itself xs)))

  -- what a filter keeps passes its test
  All-passes : (test : X → Bool) (xs : List X) → AllByRecursion (λ x. test x ≡ true) (filter test xs)
  All-passes test [] = tt
  All-passes test (x ∷ xs) =
      elim (test x) as (λ b. test x ≡ b → AllByRecursion (λ y. test y ≡ true) (cond b (x ∷ filter test xs) (filter test xs))) [ true ↦ λ is. (is, All-passes test xs) | false ↦ λ is. All-passes test xs ] refl

  pub filter-passes : (test : X → Bool) (xs : List X) (x : X) → Contains (filter test xs) x → test x ≡ true
  filter-passes test xs x = All-of (λ y. test y ≡ true) (filter test xs) x (All-passes test xs)

  kept_at : (test : X → Bool) (xs : List X) (x : X) (k : ℕ) → k < length xs → get_or xs k x ≡ x → test x ≡ true → Contains (filter test xs) x
  kept_at test [] x k lt is passes = absurd (omega arith)
  kept_at test (y ∷ ys) x zero lt is passes =
      subst (λ b. Contains (cond b (y ∷ filter test ys) (filter test ys)) x) (sym (ap test is ∙ passes)) (0, omega arith, is)
  kept_at test (y ∷ ys) x (suc k) lt is passes =
      let has = kept_at test ys x k (omega arith) is passes in
      elim (test y) as (λ b. Contains (cond b (y ∷ filter test ys) (filter test ys)) x) [ true ↦ Contains-later x y (filter test ys) has | false ↦ has ]

  -- a filter keeps an element that passes its test
  pub Contains-filter : (test : X → Bool) (xs : List X) (x : X) → Contains xs x → test x ≡ true → Contains (filter test xs) x
  Contains-filter test xs x has = kept_at test xs x has.0 has.1 has.2

module _ {X Y : Type 0} where
  -- filtering the images is filtering the list by the test of the image
  pub filter-map : (test : Y → Bool) (h : X → Y) (xs : List X) → filter test (map h xs) ≡ map h (filter (λ x. test (h x)) xs)
  filter-map test h [] = refl
  filter-map test h (x ∷ xs) =
      elim (test (h x)) as (λ b. cond b (h x ∷ filter test (map h xs)) (filter test (map h xs)) ≡ map h (cond b (x ∷ filter (λ x. test (h x)) xs) (filter (λ x. test (h x)) xs))) [
        | true ↦ ap (λ ys. h x ∷ ys) (filter-map test h xs)
        | false ↦ filter-map test h xs
      ]

module _ {X : Type 0} where
  -- two tests that agree on all elements keep the same ones
  pub filter-same : (p q : X → Bool) (xs : List X) → AllByRecursion (λ x. p x ≡ q x) xs → filter p xs ≡ filter q xs
  filter-same p q [] h = refl
  filter-same p q (x ∷ xs) h = ap₂ (λ b ys. cond b (x ∷ ys) ys) h.0 (filter-same p q xs h.1)

  -- a filter keeps no more elements than there are
  pub length-filter_le : (p : X → Bool) (xs : List X) → length (filter p xs) ≤ length xs
  length-filter_le p [] = omega arith
  length-filter_le p (x ∷ xs) =
      let rest = length-filter_le p xs in
      elim (p x) as (λ b. length (cond b (x ∷ filter p xs) (filter p xs)) ≤ length (x ∷ xs)) [ true ↦ omega arith | false ↦ omega arith ]

module _ {X : Type 0} (test : X → Bool) where
  pub filter_all : (xs : List X) → All (λ x. test x ≡ true) xs → filter test xs ≡ xs
  filter_all [] all = refl
  filter_all (x ∷ xs) all =
      rw (All-head (λ y. test y ≡ true) x xs all) (ap (λ ys. x ∷ ys) (filter_all xs (All-tail (λ y. test y ≡ true) x xs all)))

  pub filter_none : (xs : List X) → All (λ x. test x ≡ false) xs → filter test xs ≡ []
  filter_none [] all = refl
  filter_none (x ∷ xs) all = rw (All-head (λ y. test y ≡ false) x xs all) (filter_none xs (All-tail (λ y. test y ≡ false) x xs all))
