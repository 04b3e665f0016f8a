-- The pass of a new store of one pass, and the list that it is closed by.
use Rattle.std.proofs.Common.{◌≡◌, ℕ, ◌<◌, ◌≤◌, List, [], ◌∷◌, length, refl, sym, ap, ◌∙◌, subst, arith, ⊎_elim}
use lib.ListN.{get_or}
use mathlib.Core.Option as maybe
use Rattle.jf_turn.specs.Lists.{HasElement}
use Rattle.jf_turn.proofs.Lists.{has_cons}
use Rattle.jf_store.specs.Passes.{Store, Pass, IsPassOf, AreNewPasses}
use Rattle.jf_store.specs.Closing.{AreAllPasses, ArePassesOf}

module _ (s : Store) where
  first_of : (xs : List Pass) (d : Pass) → AreNewPasses s xs 0 → 1 ≤ length xs → IsPassOf (get_or xs 0 d) s × ((get_or xs 0 d).number ≡ 0)
  first_of [] d new some = absurd (omega arith)
  first_of (q ∷ qs) d new some = ((ap (λ (x : Pass). x.store) new.0, ap (λ (x : Pass). x.start) new.0), ap (λ (x : Pass). x.number) new.0)

  -- the first of new passes has the number 0
  pub first_new : (ps xs : List Pass) (d : Pass) → AreNewPasses s ps 0 → xs ≡ ps → 1 ≤ length xs → IsPassOf (get_or xs 0 d) s × ((get_or xs 0 d).number ≡ 0)
  first_new ps xs d new e some = first_of xs d (subst (λ (l : List Pass). AreNewPasses s l 0) (sym e) new) some

  none : (p : Pass) → HasElement [] p → IsPassOf p s
  none p has = absurd (maybe.some-ne-none p (sym has.1))

  -- a pass of the store, with this number, is what it is closed by
  pub own_one : (ps : List Pass) (p : Pass) → ps ≡ p ∷ [] → IsPassOf p s → ArePassesOf s ps
  own_one ps p e own = subst (ArePassesOf s) (sym e) (λ q has. ⊎_elim (λ f. subst (λ (x : Pass). IsPassOf x s) f own) (none q) (has_cons p [] q has))

  pub all_one : (ps : List Pass) (p old : Pass) → ps ≡ p ∷ [] → p.number ≡ old.number → IsPassOf old s × (old.number ≡ 0) → s.start.passes ≡ 1 → AreAllPasses s ps
  all_one ps p old e same first one = λ n less. let at : 0 ≡ n = omega arith in (p, subst (λ (xs : List Pass). HasElement xs p) (sym e) (0, refl), (same ∙ first.1) ∙ at)
