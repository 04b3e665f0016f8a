-- The number of elements of a list that pass a test.
use Rattle.std.proofs.Common.{◌≡◌, ◌+◌, Bool, List, ◌∷◌, ◌++◌, [], refl, sym, ap₂, ◌∙◌, false, arith, true, ◌&&◌, cond, filter, ap, ◌≤◌, Contains, subst, map}
use Rattle.std.proofs.lemmas.List.Sums.{sum_by-cons, sum_by-append}
use Rattle.std.specs.List.{count_by, AllByRecursion}
use Rattle.jf_path.proofs.ListLaws.{Contains-first, Contains-later}
use Rattle.jf_standing.proofs.Lists.{one, one-false, one-true, Contains-cases, none_in_nothing}

module _ {X : Type 0} where
  pub count-cons : (p : X → Bool) (x : X) (xs : List X) → count_by p (x ∷ xs) ≡ one (p x) + count_by p xs
  count-cons p x xs = sum_by-cons (λ y. one (p y)) x xs

  pub count-append : (p : X → Bool) (xs ys : List X) → count_by p (xs ++ ys) ≡ count_by p xs + count_by p ys
  count-append p xs ys = sum_by-append (λ y. one (p y)) xs ys

  -- tests that agree on all elements count alike
  pub count-same : (p q : X → Bool) (xs : List X) → AllByRecursion (λ x. p x ≡ q x) xs → count_by p xs ≡ count_by q xs
  count-same p q [] h = refl
  count-same p q (x ∷ xs) h = count-cons p x xs ∙ ap₂ (λ b n. one b + n) h.0 (count-same p q xs h.1) ∙ sym (count-cons q x xs)

  -- if no element passes, the count is 0
  pub count-none : (p : X → Bool) (xs : List X) → AllByRecursion (λ x. p x ≡ false) xs → count_by p xs ≡ 0
  count-none p [] h = refl
  count-none p (x ∷ xs) h = omega (arith, count-cons p x xs, one-false (p x) h.0, count-none p xs h.1)

  -- counting the elements of a filtered list
  pub count-filter : (p q : X → Bool) (xs : List X) → count_by p (filter q xs) ≡ count_by (λ x. q x && p x) xs
  count-filter p q [] = refl
  count-filter p q (x ∷ xs) =
      let rest = count-filter p q xs in
      (elim (q x) as (λ b. count_by p (cond b (x ∷ filter q xs) (filter q xs)) ≡ one (b && p x) + count_by (λ y. q y && p y) xs) [
        | true ↦ count-cons p x (filter q xs) ∙ ap (λ n. one (p x) + n) rest
        | false ↦ rest ∙ (let e : count_by (λ y. q y && p y) xs ≡ 0 + count_by (λ y. q y && p y) xs = omega arith in e)
      ])
      ∙ sym (count-cons (λ y. q y && p y) x xs)

  -- if an element passes, the count is at least 1
  pub count-some : (p : X → Bool) (xs : List X) (x : X) → Contains xs x → p x ≡ true → 1 ≤ count_by p xs
  count-some p [] x has is = absurd (none_in_nothing x has)
  count-some p (y ∷ ys) x has is =
      let here = count-cons p y ys in
      Contains-cases x y ys has
      (λ same. omega (arith, here, one-true (p y) (ap p same ∙ is)))
      (λ later. let more = count-some p ys x later is in omega (arith, here, more))

  -- if the count is at least 1, some element passes
  pub count-which : (p : X → Bool) (xs : List X) → 1 ≤ count_by p xs → (x : X) × Contains xs x × (p x ≡ true)
  count-which p [] some = absurd (let none : count_by p [] ≡ 0 = refl in omega arith)
  count-which p (y ∷ ys) some =
      let here = count-cons p y ys in
      elim (p y) as (λ b. p y ≡ b → (x : X) × Contains (y ∷ ys) x × (p x ≡ true)) [
        | true ↦ λ is. (y, Contains-first y ys, is)
        | false ↦ λ is.
            let rest = count-which p ys (omega (arith, some, here, one-false (p y) is)) in
            (rest.0, Contains-later rest.0 y ys rest.1, rest.2)
      ] refl

  -- if the count is at most 1, two elements that pass are equal
  pub count-one : (p : X → Bool) (xs : List X) (x y : X) → count_by p xs ≤ 1 → Contains xs x → Contains xs y → p x ≡ true → p y ≡ true → x ≡ y
  count-one p [] x y few hx hy px py = absurd (none_in_nothing x hx)
  count-one p (z ∷ zs) x y few hx hy px py =
      let here = count-cons p z zs in
      let counted : (w : X) → z ≡ w → p w ≡ true → one (p z) ≡ 1 = λ w same is. one-true (p z) (ap p same ∙ is) in
      Contains-cases x z zs hx
      (λ sx. Contains-cases y z zs hy (λ sy. sym sx ∙ sy) (λ ly. absurd (let one = counted x sx px in let more = count-some p zs y ly py in omega (arith, here, one, more))))
      (λ lx. Contains-cases y z zs hy (λ sy. absurd (let one = counted y sy py in let more = count-some p zs x lx px in omega (arith, here, one, more))) (λ ly. count-one p zs x y (omega (arith, here)) lx ly px py))

  -- tests that balance at each element balance in the count
  pub count-balance : (p q r s : X → Bool) (xs : List X) → AllByRecursion (λ x. one (p x) + one (q x) ≡ one (r x) + one (s x)) xs → count_by p xs + count_by q xs ≡ count_by r xs + count_by s xs
  count-balance p q r s [] h = refl
  count-balance p q r s (x ∷ xs) h = omega (arith, h.0, count-balance p q r s xs h.1, count-cons p x xs, count-cons q x xs, count-cons r x xs, count-cons s x xs)

  -- a weaker test counts as many or more
  pub count-weaker : (p q : X → Bool) (xs : List X) → AllByRecursion (λ x. p x ≡ true → q x ≡ true) xs → count_by p xs ≤ count_by q xs
  count-weaker p q [] h = omega arith
  count-weaker p q (x ∷ xs) h = omega (arith, implied (p x) (q x) h.0, count-weaker p q xs h.1, count-cons p x xs, count-cons q x xs)
    where
      implied : (a b : Bool) → (a ≡ true → b ≡ true) → one a ≤ one b
      implied true b h = subst (λ c. 1 ≤ one c) (sym (h refl)) (omega arith)
      implied false b h = omega arith

  -- if a weaker test counts no more elements, both tests agree on all of them
  pub count-squeeze : (p q : X → Bool) (xs : List X) → AllByRecursion (λ x. p x ≡ true → q x ≡ true) xs → count_by q xs ≤ count_by p xs → AllByRecursion (λ x. q x ≡ p x) xs
  count-squeeze p q [] h few = tt
  count-squeeze p q (x ∷ xs) h few =
      let here = count-cons p x xs in
      let there = count-cons q x xs in
      let rest = count-weaker p q xs h.1 in
      elim (p x) as (λ b. p x ≡ b → (q x ≡ b) × AllByRecursion (λ x. q x ≡ p x) xs) [
        | true ↦ λ is.
            (h.0 is, count-squeeze p q xs h.1 (omega (arith, few, here, there, one-true (p x) is, one-true (q x) (h.0 is))))
        | false ↦ λ is.
            elim (q x) as (λ b. q x ≡ b → (b ≡ false) × AllByRecursion (λ x. q x ≡ p x) xs) [
              | true ↦ λ is'. absurd (omega (arith, few, here, there, rest, one-false (p x) is, one-true (q x) is'))
              | false ↦ λ is'. (refl, count-squeeze p q xs h.1 (omega (arith, few, here, there, one-false (p x) is, one-false (q x) is')))
            ] refl
      ] refl

module _ {X Y : Type 0} where
  -- counting the elements of a mapped list
  pub count-map : (p : Y → Bool) (f : X → Y) (xs : List X) → count_by p (map f xs) ≡ count_by (λ x. p (f x)) xs
  count-map p f [] = refl
  count-map p f (x ∷ xs) = count-cons p (f x) (map f xs) ∙ ap (λ n. one (p (f x)) + n) (count-map p f xs) ∙ sym (count-cons (λ y. p (f y)) x xs)
