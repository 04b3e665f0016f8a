-- A step changes words and the view of its own seat.
use lib.ListN.{get_elem?}
use lib.Seq.{set-get_or}
use mathlib.Core.Logic.{dite}
use mathlib.Core.Option.{some, some-ne-none}
use native.Mathlib.Decide.{dec_lt}
use Rattle.std.proofs.Common.{◌≡◌, ℕ, ◌≤◌, ◌≢◌, List, set, sym, subst, ⊎_elim, get_or, ◌<◌, arith}
use Rattle.atomic_table.proofs.Lists.{at_set}
use Rattle.jf_board.specs.declared.views.View.{View}
use Rattle.jf_board.specs.Steps.{BoardSeat}
use Rattle.jf_board.specs.Rule.{BoardState, Account, IsWritten, IsSoundAccount, ViewFits, IsBoard, PlaceFits, PrunerFits, Has}
use Rattle.jf_board.specs.declared.views.PlaceView.{PlaceView}
use Rattle.jf_board.specs.declared.views.View.TheVariants.{Pins, Prunes}
use Rattle.jf_board.specs.declared.views.PrunerView.{PrunerView}

-- a seat with another view
abbrev pub with_view : View → BoardSeat → BoardSeat
with_view w m = (w, m.1)

-- a seat has the new view w, under the account p
pub moved : (passes : ℕ) (s : BoardState) (r : IsBoard passes s) (p : Account) (ws : List ℕ) (id : ℕ) (v w : View) → get_elem? s.views id ≡ some v → IsWritten passes p ws → IsSoundAccount p → p.count ≤ passes → ViewFits p id w
    → ((j : ℕ) (u : View) → j ≢ id → ViewFits r.account j u → ViewFits p j u) → IsBoard passes record { words = ws; homes = s.homes; views = set s.views id w }
moved passes s r p ws id v w at written sound even mine others = record {
  account = p;
  written = written;
  sound = sound;
  few = even;
  each = λ j u e. ⊎_elim (λ (t : (j ≡ id) × (w ≡ u)). subst (λ (x : ℕ × View). ViewFits p x.0 x.1) (λ i. (sym t.0 i, t.1 i)) mine)
      (λ (t : (j ≢ id) × (get_elem? s.views j ≡ some u)). others j u t.0 (r.each j u t.1)) (at_set s.views id j w u e);
}

-- a step that changes no word keeps the rule, if it changes the view of its own seat alone
pub unmoved : (passes : ℕ) (s : BoardState) (r : IsBoard passes s) (p : Account) (i id : ℕ) (v w : View) → get_elem? s.views id ≡ some v → IsWritten passes p s.words → IsSoundAccount p → p.count ≤ passes → ViewFits p id w
    → ((j : ℕ) (u : View) → j ≢ id → ViewFits r.account j u → ViewFits p j u) → IsBoard passes record { words = set s.words i (get_or s.words i 0); homes = s.homes; views = set s.views id w }
unmoved passes s r p i id v w at written sound even mine others = moved passes s r p (set s.words i (get_or s.words i 0)) id v w at (subst (IsWritten passes p) (sym (set-get_or s.words i 0)) written) sound even mine others

-- the view of a place's seat agrees with the account
pub place_at : (passes : ℕ) (s : BoardState) (r : IsBoard passes s) (id : ℕ) (x : View) (v : PlaceView) → x ≡ Pins v → get_elem? s.views id ≡ some x → PlaceFits r.account id v
place_at passes s r id x v is at = subst (ViewFits r.account id) is (r.each id x at)

-- the view of the pruner's seat agrees with the account
pub pruner_at : (passes : ℕ) (s : BoardState) (r : IsBoard passes s) (id : ℕ) (x : View) (q : PrunerView) → x ≡ Prunes q → get_elem? s.views id ≡ some x → PrunerFits r.account id q
pruner_at passes s r id x q is at = subst (ViewFits r.account id) is (r.each id x at)

-- no more numbers are given than there are places
pub number_below : (passes : ℕ) (s : BoardState) (r : IsBoard passes s) → r.account.count ≤ passes
number_below passes s r = r.few

-- a number with an announced version is given
pub number_given : (p : Account) (n version : ℕ) → IsSoundAccount p → Has (p.versions n) version → n < p.count
number_given p n version sound has = dite (dec_lt n p.count) (λ l. l)
    (λ no. absurd (some-ne-none version (sym (subst (λ (xs : List ℕ). get_elem? xs has.0 ≡ some version) (sound.no_versions n (omega arith)) has.1))))
