-- The two passes of a new store, and the list that it is closed by.
use mathlib.Core.Logic.{dite}
use native.Mathlib.Decide.{ℕ_discrete}
use Rattle.std.proofs.Common.{◌≡◌, ℕ, List, [], ◌∷◌, ◌++◌, length, slice_set, refl, sym, ap, ◌∙◌, subst, arith, ⊎_elim}
use lib.ListN.{get_or, take, drop}
use mathlib.Core.Option as maybe
use Rattle.jf_turn.specs.Lists.{HasElement}
use Rattle.jf_turn.proofs.Lists.{has_cons}
use Rattle.jf_store.specs.Passes.{Store, Pass, IsPassOf, new_pass, AreNewPasses}
use Rattle.jf_store.specs.Closing.{AreAllPasses, ArePassesOf}

module _ (s : Store) where
  of_new : (p : Pass) (n : ℕ) → p ≡ new_pass s n → IsPassOf p s × (p.number ≡ n)
  of_new p n e = ((ap (λ (q : Pass). q.store) e, ap (λ (q : Pass). q.start) e), ap (λ (q : Pass). q.number) e)

  first_of : (us vs : List Pass) (d : Pass) → AreNewPasses s (us ++ vs) 0 → length us ≡ 1 → IsPassOf (get_or us 0 d) s × ((get_or us 0 d).number ≡ 0)
  first_of [] vs d new one = absurd (omega arith)
  first_of (p ∷ ps) vs d new one = of_new p 0 new.0

  second_of : (us vs : List Pass) (d : Pass) → AreNewPasses s (us ++ vs) 0 → length us ≡ 1 → length vs ≡ 1 → IsPassOf (get_or vs 0 d) s × ((get_or vs 0 d).number ≡ 1)
  second_of [] vs d new one other = absurd (omega arith)
  second_of (p ∷ []) [] d new one other = absurd (omega arith)
  second_of (p ∷ []) (q ∷ qs) d new one other = of_new q 1 new.1.0
  second_of (p ∷ r ∷ ps) vs d new one other = absurd (omega arith)

  -- two new passes have the numbers 0 and 1
  pub first_new : (ps xs us vs : List Pass) (d : Pass) → AreNewPasses s ps 0 → xs ≡ ps → xs ≡ us ++ vs → length us ≡ 1 → IsPassOf (get_or us 0 d) s × ((get_or us 0 d).number ≡ 0)
  first_new ps xs us vs d new e f one = first_of us vs d (subst (λ (l : List Pass). AreNewPasses s l 0) (sym e ∙ f) new) one

  pub second_new : (ps xs us vs : List Pass) (d : Pass) → AreNewPasses s ps 0 → xs ≡ ps → xs ≡ us ++ vs → length us ≡ 1 → length vs ≡ 1 → IsPassOf (get_or vs 0 d) s × ((get_or vs 0 d).number ≡ 1)
  second_new ps xs us vs d new e f one other = second_of us vs d (subst (λ (l : List Pass). AreNewPasses s l 0) (sym e ∙ f) new) one other

  none : (p : Pass) → HasElement [] p → IsPassOf p s
  none p has = absurd (maybe.some-ne-none p (sym has.1))

  -- two passes of the store, with these numbers, are what it is closed by
  pub own_two : (ps : List Pass) (p q : Pass) → ps ≡ p ∷ q ∷ [] → IsPassOf p s → IsPassOf q s → ArePassesOf s ps
  own_two ps p q e first second = subst (ArePassesOf s) (sym e) (λ r has.
      ⊎_elim (λ f. subst (λ (x : Pass). IsPassOf x s) f first)
      (λ rest. ⊎_elim (λ f. subst (λ (x : Pass). IsPassOf x s) f second) (none r) (has_cons q [] r rest))
      (has_cons p (q ∷ []) r has))

  pub all_two : (ps : List Pass) (p q : Pass) → ps ≡ p ∷ q ∷ [] → p.number ≡ 0 → q.number ≡ 1 → s.start.passes ≡ 2 → AreAllPasses s ps
  all_two ps p q e first second both = λ n less. dite (ℕ_discrete n 0)
      (λ here. (p, subst (λ (xs : List Pass). HasElement xs p) (sym e) (0, refl), first ∙ sym here))
      (λ there. let at : 1 ≡ n = omega arith in (q, subst (λ (xs : List Pass). HasElement xs q) (sym e) (1, refl), second ∙ at))

both_set : (us vs : List Pass) (p q : Pass) → length us ≡ 1 → length vs ≡ 1 → slice_set us 0 p ++ slice_set vs 0 q ≡ p ∷ q ∷ []
both_set [] vs p q one other = absurd (omega arith)
both_set (a ∷ []) [] p q one other = absurd (omega arith)
both_set (a ∷ []) (b ∷ []) p q one other = refl
both_set (a ∷ []) (b ∷ c ∷ vs) p q one other = absurd (omega arith)
both_set (a ∷ c ∷ us) vs p q one other = absurd (omega arith)

-- a list of two that is written at each place of its halves
pub two_set : (n : ℕ) (us vs rest : List Pass) (p q : Pass) → n ≡ 2 → length us ≡ 1 → length vs ≡ 1 → take n ((slice_set us 0 p ++ slice_set vs 0 q) ++ drop (length (slice_set us 0 p ++ slice_set vs 0 q)) rest) ≡ p ∷ q ∷ []
two_set n us vs rest p q two one other =
    subst (λ (m : ℕ). take m ((slice_set us 0 p ++ slice_set vs 0 q) ++ drop (length (slice_set us 0 p ++ slice_set vs 0 q)) rest) ≡ p ∷ q ∷ []) (sym two)
    (subst (λ (l : List Pass). take 2 (l ++ drop (length l) rest) ≡ p ∷ q ∷ []) (sym (both_set us vs p q one other)) refl)
