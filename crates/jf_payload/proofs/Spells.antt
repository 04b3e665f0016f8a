-- Readers that read exactly what a spelling writes, and how to build them from one another.
use Rattle.std.proofs.Common.{◌≡◌, ℕ, List, ◌++◌, Some, Option, None, refl, ap, subst, ◌∙◌, append_assoc, Bool, cond, IsTrue, sym, true, length, zero, suc, [], ◌∷◌}
use Rattle.std.proofs.lemmas.List.{append-nil}
use Rattle.std.proofs.lemmas.Option.{same_Some}
use Rattle.std.specs.List.{flat_map, AllByRecursion}
use Rattle.jf_path.specs.Keys.{IsBytes}
use Rattle.jf_path.proofs.ByteLaws.{AreBytes, Takes, Takes-then, IsBytes-append}
use Rattle.jf_path.proofs.OptionLaws.{guard_kept}
use Rattle.jf_payload.specs.Reading.{Front, ◌>>=◌, both_at, only_if, seen_as, many_at}

-- the reader `one` reads exactly the spellings of values with `Is`, and spellings are bytes
pub record Spells {X : Type 0} (spell : X → List ℕ) (Is : X → Type 0) (one : Front X) : Type 0 where
  pub takes : (bytes : List ℕ) (x : X × List ℕ) → AreBytes bytes → one bytes ≡ Some x → Takes bytes (spell x.0) x.1 × Is x.0
  pub again : (x : X) (rest : List ℕ) → Is x → one (spell x ++ rest) ≡ Some (x, rest)
  pub fits : (x : X) → Is x → IsBytes (spell x)

-- if two steps read something, the first one did
pub bind_some : {A B : Type 0} (r : Option A) (f : A → Option B) (y : B) → (r >>= f) ≡ Some y → (x : A) × (r ≡ Some x) × (f x ≡ Some y)
bind_some (Some x) f y e = (x, refl, e)
bind_some None f y e = absurd cc

-- ---- a value, and a second one
pub both_spells : {X Y : Type 0} (sx : X → List ℕ) (Ix : X → Type 0) (ox : Front X) (sy : Y → List ℕ) (Iy : X → Y → Type 0) (oy : X → Front Y)
    → Spells sx Ix ox → ((x : X) → Ix x → Spells sy (Iy x) (oy x)) → Spells (λ (p : X × Y). sx p.0 ++ sy p.1) (λ (p : X × Y). Ix p.0 × Iy p.0 p.1) (both_at ox oy)
both_spells {X} {Y} sx Ix ox sy Iy oy first second = record {
  takes = λ bytes p bs e.
      let x = bind_some (ox bytes) (λ x. oy x.0 x.1 >>= λ y. Some ((x.0, y.0), y.1)) p e in
      let y = bind_some (oy x.0.0 x.0.1) (λ y. Some ((x.0.0, y.0), y.1)) p x.2 in
      let a = first.takes bytes x.0 bs x.1 in
      let b = (second x.0.0 a.1).takes x.0.1 y.0 a.0.rest_fits y.1 in
      subst (λ (q : (X × Y) × List ℕ). Takes bytes (sx q.0.0 ++ sy q.0.1) q.1 × (Ix q.0.0 × Iy q.0.0 q.0.1)) (same_Some ((x.0.0, y.0.0), y.0.1) p y.2)
      (Takes-then bytes (sx x.0.0) x.0.1 (sy y.0.0) y.0.1 a.0 b.0, (a.1, b.1));
  again = λ p rest is. ap (both_at ox oy) (append_assoc (sx p.0) (sy p.1) rest) ∙ rw (first.again p.0 (sy p.1 ++ rest) is.0, (second p.0 is.0).again p.1 rest is.1) refl;
  fits = λ p is. IsBytes-append (sx p.0) (sy p.1) (first.fits p.0 is.0) ((second p.0 is.0).fits p.1 is.1);
}

-- ---- a value that passes a test
pub only_spells : {X : Type 0} (s : X → List ℕ) (I : X → Type 0) (o : Front X) (test : X → Bool) → Spells s I o → Spells s (λ x. I x × IsTrue (test x)) (only_if test o)
only_spells {X} s I o test one = record {
  takes = λ bytes p bs e.
      let x = bind_some (o bytes) (λ x. cond (test x.0) (Some x) None) p e in
      let g = guard_kept (test x.0.0) (Some x.0) p x.2 in
      let a = one.takes bytes x.0 bs x.1 in
      subst (λ (q : X × List ℕ). Takes bytes (s q.0) q.1 × (I q.0 × IsTrue (test q.0))) (same_Some x.0 p g.1) (a.0, (a.1, g.0));
  again = λ x rest is. rw (one.again x rest is.0, is.1) refl;
  fits = λ x is. one.fits x is.0;
}

-- ---- a value seen through a function
pub seen_spells : {X Y : Type 0} (sx : X → List ℕ) (Ix : X → Type 0) (ox : Front X) (view : X → Y) (back : Y → X) (sy : Y → List ℕ) (Iy : Y → Type 0)
    → Spells sx Ix ox → ((x : X) → Ix x → back (view x) ≡ x) → ((y : Y) → view (back y) ≡ y) → ((y : Y) → sx (back y) ≡ sy y) → ((y : Y) → Ix (back y) → Iy y) → ((y : Y) → Iy y → Ix (back y)) → Spells sy Iy (seen_as view ox)
seen_spells {X} {Y} sx Ix ox view back sy Iy one there again text to from = record {
  takes = λ bytes p bs e.
      let x = bind_some (ox bytes) (λ x. Some (view x.0, x.1)) p e in
      let a = one.takes bytes x.0 bs x.1 in
      let same : sx x.0.0 ≡ sy (view x.0.0) = ap sx (sym (there x.0.0 a.1)) ∙ text (view x.0.0) in
      subst (λ (q : Y × List ℕ). Takes bytes (sy q.0) q.1 × Iy q.0) (same_Some (view x.0.0, x.0.1) p x.2)
      (subst (λ (t : List ℕ). Takes bytes t x.0.1) same a.0, to (view x.0.0) (subst Ix (sym (there x.0.0 a.1)) a.1));
  again = λ y rest is. ap (λ (t : List ℕ). seen_as view ox (t ++ rest)) (sym (text y)) ∙ rw (one.again (back y) rest (from y is)) (ap (λ (z : Y). Some (z, rest)) (again y));
  fits = λ y is. subst IsBytes (text y) (one.fits (back y) (from y is));
}

-- ---- a number of values
-- values that were read after those of a front
record ReadsSoMany {X : Type 0} (s : X → List ℕ) (I : X → Type 0) (test : List X → Bool) (n : ℕ) (front : List X) (bytes : List ℕ) (x : List X × List ℕ) : Type 0 where
  more : List X
  taken : Takes bytes (flat_map s more) x.1
  behind : x.0 ≡ front ++ more
  count : length more ≡ n
  all : AllByRecursion I more
  passed : test x.0 ≡ true

many_take : {X : Type 0} (s : X → List ℕ) (I : X → Type 0) (o : Front X) (test : List X → Bool) → Spells s I o → (n : ℕ) (front : List X) (bytes : List ℕ) (x : List X × List ℕ)
    → AreBytes bytes → test front ≡ true → many_at test o n front bytes ≡ Some x → ReadsSoMany s I test n front bytes x
unfolding many_at
many_take s I o test one zero front bytes x bs ok e =
    let same = same_Some (front, bytes) x e in
    subst (λ y. ReadsSoMany s I test 0 front bytes y) same (record { more = []; taken = record { parts = refl; rest_fits = bs }; behind = sym (append-nil front); count = refl; all = tt; passed = ok })
many_take s I o test one (suc n) front bytes x bs ok e =
    let a = bind_some (o bytes) (λ y. cond (test (front ++ y.0 ∷ [])) (many_at test o n (front ++ y.0 ∷ []) y.1) None) x e in
    let g = guard_kept (test (front ++ a.0.0 ∷ [])) (many_at test o n (front ++ a.0.0 ∷ []) a.0.1) x a.2 in
    let first = one.takes bytes a.0 bs a.1 in
    let others = many_take s I o test one n (front ++ a.0.0 ∷ []) a.0.1 x first.0.rest_fits g.0 g.1 in
    record {
      more = a.0.0 ∷ others.more;
      taken = Takes-then bytes (s a.0.0) a.0.1 (flat_map s others.more) x.1 first.0 others.taken;
      behind = others.behind ∙ append_assoc front (a.0.0 ∷ []) others.more;
      count = ap suc others.count;
      all = (first.1, others.all);
      passed = others.passed;
    }

-- a test of lists that holds of each front of a list for which it holds
abbrev pub HoldsOfFronts : {X : Type 0} → (List X → Bool) → Type 0
HoldsOfFronts {X} test = (front back : List X) → test (front ++ back) ≡ true → test front ≡ true

many_again : {X : Type 0} (s : X → List ℕ) (I : X → Type 0) (o : Front X) (test : List X → Bool) → Spells s I o → HoldsOfFronts test → (xs front : List X) (rest : List ℕ)
    → AllByRecursion I xs → test (front ++ xs) ≡ true → many_at test o (length xs) front (flat_map s xs ++ rest) ≡ Some (front ++ xs, rest)
unfolding many_at
many_again {X} s I o test one fronts [] front rest all ok = ap (λ (ys : List X). Some (ys, rest)) (sym (append-nil front))
many_again {X} s I o test one fronts (x ∷ xs) front rest all ok =
    let joined : (front ++ x ∷ []) ++ xs ≡ front ++ x ∷ xs = append_assoc front (x ∷ []) xs in
    let here : test (front ++ x ∷ []) ≡ true = fronts (front ++ x ∷ []) xs (ap test joined ∙ ok) in
    let text : flat_map s (x ∷ xs) ++ rest ≡ s x ++ (flat_map s xs ++ rest) = append_assoc (s x) (flat_map s xs) rest in
    let others = many_again s I o test one fronts xs (front ++ x ∷ []) rest all.1 (ap test joined ∙ ok) in
    ap (many_at test o (suc (length xs)) front) text ∙ rw (one.again x (flat_map s xs ++ rest) all.0, here) (others ∙ ap (λ (ys : List X). Some (ys, rest)) joined)

many_fit : {X : Type 0} (s : X → List ℕ) (I : X → Type 0) (o : Front X) → Spells s I o → (xs : List X) → AllByRecursion I xs → IsBytes (flat_map s xs)
many_fit s I o one [] all = tt
many_fit s I o one (x ∷ xs) all = IsBytes-append (s x) (flat_map s xs) (one.fits x all.0) (many_fit s I o one xs all.1)

pub many_spells : {X : Type 0} (s : X → List ℕ) (I : X → Type 0) (o : Front X) (test : List X → Bool) → Spells s I o → test [] ≡ true → HoldsOfFronts test → (n : ℕ)
    → Spells (flat_map s) (λ xs. (length xs ≡ n) × (AllByRecursion I xs × IsTrue (test xs))) (many_at test o n [])
many_spells {X} s I o test one none fronts n = record {
  takes = λ bytes x bs e.
      let r = many_take s I o test one n [] bytes x bs none e in
      (subst (λ (ys : List X). Takes bytes (flat_map s ys) x.1) (sym r.behind) r.taken, (ap length r.behind ∙ r.count, (subst (AllByRecursion I) (sym r.behind) r.all, r.passed)));
  again = λ xs rest is. ap (λ (k : ℕ). many_at test o k [] (flat_map s xs ++ rest)) (sym is.0) ∙ many_again s I o test one fronts xs [] rest is.1.0 is.1.1;
  fits = λ xs is. many_fit s I o one xs is.1.0;
}
