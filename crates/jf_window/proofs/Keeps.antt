-- Each step of a window keeps its rule.
use lib.ListN.{get_elem?}
use mathlib.Core.Logic.{dite}
use mathlib.Core.Option as maybe
use native.Mathlib.Decide.{ℕ_discrete}
use prog.Atomic.{either}
use Rattle.std.proofs.Common.{Bool, true, false, cond, ◌==◌, eq-eqb, ℕ, zero, suc, List, Option, Some, [], ◌∷◌, ◌≡◌, ◌≢◌, ◌<◌, get_or, set, refl, sym, ap, ◌∙◌, subst, ⊎_elim, arith, length-set, get_or-set_same}
use Rattle.atomic_table.proofs.Lists.{at_set, at_snoc, set_here}
use Rattle.atomic_table.specs.Table.{State, Me, step, keeps, takes, gives, Allows, Enters, put_back, opening}
use Rattle.jf_window.specs.declared.view.Grasp.{Grasp}
use Rattle.jf_window.specs.declared.view.Grasp.TheVariants.{Empty, Full}
use Rattle.jf_window.specs.declared.view.WindowView.{WindowView}
use Rattle.jf_window.specs.Rule.{Holder, nobody, held_at, IsWordOf, IsGraspOf, IsInPlace, IsWindow, newcomer}
use Rattle.jf_window.specs.Steps.{with_grasp, window_entered, window_claimed, window_released}

-- a word of 0 says that nobody has the value
nobody_of_zero : (h : Holder) (n : ℕ) → IsWordOf h n → n ≡ 0 → h ≡ nobody
nobody_of_zero nobody n w z = refl
nobody_of_zero (held_at p) n w z = absurd (omega arith)

-- whoever has it is the one that the value is held for
holder_of : (h : Holder) (place : ℕ) → IsGraspOf h place Full → h ≡ held_at place
holder_of nobody place s = absurd s
holder_of (held_at p) place s = ap held_at (sym s)

-- nobody else has it then
sits_away : (h : Holder) (place : ℕ) → IsGraspOf h place Empty
sits_away nobody place = tt
sits_away (held_at p) place = tt

taken_else : (p place : ℕ) (grasp : Grasp) → IsGraspOf nobody place grasp → IsGraspOf (held_at p) place grasp
taken_else p place Empty s = tt
taken_else p place Full s = absurd s

freed_else : (p place : ℕ) (grasp : Grasp) → place ≢ p → IsGraspOf (held_at p) place grasp → IsGraspOf nobody place grasp
freed_else p place Empty other s = tt
freed_else p place Full other s = absurd (other s)

word_stays : (h : Holder) (n m : ℕ) → IsWordOf h n → n ≢ 0 → m ≢ 0 → IsWordOf h m
word_stays nobody n m w z t = absurd (z w)
word_stays (held_at p) n m w z t = omega arith

-- a claim makes a word of 0 a 1, and leaves any other
either_at : (x : ℕ) (b : Bool) → (x == 0) ≡ b → (cond b 1 x) ≢ 0
either_at x true is z = absurd (let e : 1 ≡ 0 = z in omega arith)
either_at x false is z = absurd (let t : true ≡ false = sym (eq-eqb x 0 z) ∙ is in cc)

pub either_up : (x : ℕ) → either (x == 0) 1 x ≢ 0
either_up x = either_at x (x == 0) refl

-- and one that marks makes each a 2
abbrev marked : ℕ → ℕ
marked x = 2

pub mark_up : (x : ℕ) → marked x ≢ 0
mark_up x z = omega arith

module _ {K T : Type 0} (fits : K → T → Type 0) (key : K) where
  abbrev V : Type 0
  V = WindowView K

  abbrev St : Type 0
  St = State (Option T) V

  abbrev M : Type 0
  M = Me (Option T) V

  abbrev Homes : Type 0
  Homes = List (maybe.Option (Option T))

  abbrev Rule : St → Type 0
  Rule = IsWindow fits key

  -- the view at a place changes
  placed : (s : St) (r : Rule s) (h : Holder) (n : ℕ) (hs : Homes) (id : ℕ) (w : V) → IsWordOf h n → IsInPlace fits key hs h → IsGraspOf h id w.grasp → w.key ≡ Some key
      → ((j : ℕ) (grasp : Grasp) → j ≢ id → IsGraspOf r.holder j grasp → IsGraspOf h j grasp) → Rule record { words = set s.words 0 n; homes = hs; views = set s.views id w }
  placed s r h n hs id w word home mine known others = record {
    holder = h;
    wide = length-set s.words 0 n ∙ r.wide;
    word_is = subst (IsWordOf h) (sym (get_or-set_same s.words 0 n 0 (let wide = r.wide in omega arith))) word;
    home = home;
    each = λ j u e. ⊎_elim (λ (t : (j ≡ id) × (w ≡ u)). subst (λ (x : ℕ × V). IsGraspOf h x.0 x.1.grasp × (x.1.key ≡ Some key)) (λ i. (sym t.0 i, t.1 i)) (mine, known))
        (λ (t : (j ≢ id) × (get_elem? s.views j ≡ maybe.some u)). let f = r.each j u t.1 in (others j u.grasp t.0 f.0, f.1)) (at_set s.views id j w u e);
  }

  -- one more comes
  pub enters : (slots : ℕ) → Enters Rule slots 0 (λ n w. window_entered fits (step slots 0 0 0 maybe.none) (newcomer key, []) n (w, []))
  enters slots s r len small = (
    newcomer key,
    record {
      holder = r.holder;
      wide = r.wide;
      word_is = r.word_is;
      home = r.home;
      each = λ j u e. ⊎_elim (λ (h : get_elem? s.views j ≡ maybe.some u). r.each j u h) (λ (h : newcomer key ≡ u). subst (λ (x : V). IsGraspOf r.holder j x.grasp × (x.key ≡ Some key)) h (sits_away r.holder j, refl)) (at_snoc s.views (newcomer key) u j e);
    },
    refl,
  )

  -- a claim, by a word that isn't 0 whatever it was
  pub claims : (slots id a b : ℕ) (me : M) (f : ℕ → ℕ) → me ≡ (newcomer key, []) → ((n : ℕ) → f n ≢ 0) → Allows Rule slots id me 0 f (window_claimed fits (step slots 0 a b maybe.none) me)
  claims slots id a b me f is up s r len at _ = let x : ℕ = get_or s.words 0 0 in let v : V = newcomer key in dite (ℕ_discrete x 0)
      (λ hit.
      let is_free : r.holder ≡ nobody = nobody_of_zero r.holder x r.word_is hit in
      let home : IsInPlace fits key s.homes nobody = subst (IsInPlace fits key s.homes) is_free r.home in let y : T = home.0 in
      let u = up x in (
        with_grasp me.0 Full,
        takes 0 (Some y),
        home.1,
        placed s r (held_at id) (f x) (set s.homes 0 maybe.none) id (with_grasp me.0 Full) (omega arith) tt refl (ap (λ (m : M). m.0.key) is)
            (λ j grasp other sits. taken_else id j grasp (subst (λ h. IsGraspOf h j grasp) is_free sits)),
        ((λ _. (y, refl, λ k known. let same : Some key ≡ Some k = sym (ap (λ (m : M). m.0.key) is) ∙ known in let e : key ≡ k = cc in subst (λ k. fits k y) e home.2)), λ miss. absurd (miss hit)),
      ))
      (λ miss. (
        me.0,
        keeps,
        tt,
        placed s r r.holder (f x) s.homes id me.0 (word_stays r.holder x (f x) r.word_is miss (up x)) r.home (r.each id me.0 at).0 (r.each id me.0 at).1 (λ j grasp other sits. sits),
        ((λ hit. absurd (miss hit)), λ _. refl),
      ))

  -- the value comes home
  pub releases : (slots id a b : ℕ) (me : M) (y : T) → me.0.grasp ≡ Full → me.1 ≡ (0, Some y) ∷ [] → fits key y → 0 < slots
      → Allows Rule slots id me 0 (λ _. 0) (λ n. window_released fits (step slots 0 a b maybe.none) me n)
  releases slots id a b me y has carried good deep s r len at _ =
      let f = r.each id me.0 at in
      let held : r.holder ≡ held_at id = holder_of r.holder id (subst (IsGraspOf r.holder id) has f.0) in
      let hs : Homes = put_back s.homes me.1 in (
        with_grasp me.0 Empty,
        gives,
        tt,
        placed s r nobody 0 hs id (with_grasp me.0 Empty) refl (subst (λ c. IsInPlace fits key (put_back s.homes c) nobody) (sym carried) (y, set_here s.homes 0 (maybe.some (Some y)) (omega arith), good)) tt f.1
            (λ j grasp other sits. freed_else id j grasp other (subst (λ h. IsGraspOf h j grasp) held sits)),
        refl,
      )

  first_only : (id : ℕ) (v : V) → get_elem? (newcomer key ∷ []) id ≡ maybe.some v → IsGraspOf nobody id v.grasp × (v.key ≡ Some key)
  first_only zero v e = subst (λ (x : V). IsGraspOf nobody 0 x.grasp × (x.key ≡ Some key)) (maybe.some-injective (newcomer key) v e) (tt, refl)
  first_only (suc id) v e = absurd (maybe.some-ne-none v (sym e))

  pub opens : (xs : List (Option T)) (y : T) → xs ≡ Some y ∷ [] → fits key y → Rule (opening (0 ∷ []) xs (newcomer key))
  opens xs y is good = subst (λ (zs : List (Option T)). Rule (opening (0 ∷ []) zs (newcomer key))) (sym is) record {
    holder = nobody;
    wide = refl;
    word_is = refl;
    home = (y, refl, good);
    each = λ j v e. first_only j v e;
  }
