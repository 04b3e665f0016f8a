-- The five points follow from the rule.
use Rattle.std.proofs.Common.{◌≡◌, ◌≢◌, ℕ, zero, suc, ◌+◌, ◌*◌, ◌<◌, ◌≤◌, List, [], ◌∷◌, length, sym, ap, ◌∙◌, subst, arith}
use mathlib.Core.Option.{some, some-injective, some-ne-none}
use lib.ListN.{get_elem?}
use Rattle.jf_path.specs.Limits.{max_pins}
use Rattle.jf_board.specs.declared.views.Hold.{Hold}
use Rattle.jf_board.specs.declared.views.PlaceView.{PlaceView}
use Rattle.jf_board.specs.declared.views.PrunerView.{PrunerView}
use Rattle.jf_board.specs.declared.views.View.{View}
use Rattle.jf_board.specs.declared.views.View.TheVariants.{Pins, Prunes, Spent}
use Rattle.jf_board.specs.Rule.{BoardState, IsBoard, Account, PlaceFits, PrunerFits, JoinedFit, IsAbsent, ViewFits, IsPlaceIn, StandsAt, PrunesAt, Below, Has, IsListed, word_of, hold_at, cut_in, count_in, pin_word, CutIsLow, WordsAreHolds, PrunerKnows, LoadedGatesAreLow, PairsAreAnnounced}
use Rattle.jf_board.proofs.Moving.{number_given}
use Rattle.jf_board.proofs.Places.{owner_of}

-- each place that joined a seat agrees with the account
joined_one : (p : Account) (id : ℕ) (vs : List PlaceView) (v : PlaceView) (k : ℕ) → JoinedFit p id vs → get_elem? vs k ≡ some v → PlaceFits p id v
joined_one p id [] v k r at = absurd (some-ne-none v (sym at))
joined_one p id (x ∷ xs) v zero r at = subst (PlaceFits p id) (some-injective x v at) r.0
joined_one p id (x ∷ xs) v (suc k) r at = joined_one p id xs v k r.2 at

-- no place of a list without the number n has it
absent_one : (n : ℕ) (vs : List PlaceView) (v : PlaceView) (k : ℕ) → IsAbsent n vs → get_elem? vs k ≡ some v → v.number ≢ n
absent_one n [] v k r at = absurd (some-ne-none v (sym at))
absent_one n (x ∷ xs) v zero r at = λ e. r.0 (ap (λ (z : PlaceView). z.number) (some-injective x v at) ∙ e)
absent_one n (x ∷ xs) v (suc k) r at = absent_one n xs v k r.1 at

-- two places with one number that joined a seat are the same
joined_apart : (p : Account) (id : ℕ) (vs : List PlaceView) (v u : PlaceView) (k j : ℕ) → JoinedFit p id vs → get_elem? vs k ≡ some v → get_elem? vs j ≡ some u → v.number ≡ u.number → v ≡ u
joined_apart p id [] v u k j r at at' e = absurd (some-ne-none v (sym at))
joined_apart p id (x ∷ xs) v u zero zero r at at' e = sym (some-injective x v at) ∙ some-injective x u at'
joined_apart p id (x ∷ xs) v u zero (suc j) r at at' e = absurd (absent_one x.number xs u j r.1 at' (sym e ∙ ap (λ (z : PlaceView). z.number) (sym (some-injective x v at))))
joined_apart p id (x ∷ xs) v u (suc k) zero r at at' e = absurd (absent_one x.number xs v k r.1 at (e ∙ ap (λ (z : PlaceView). z.number) (sym (some-injective x u at'))))
joined_apart p id (x ∷ xs) v u (suc k) (suc j) r at at' e = joined_apart p id xs v u k j r.2 at at' e

-- a place that a seat represents agrees with the account if the seat's view does
place_in : (p : Account) (id : ℕ) (x : View) (v : PlaceView) → ViewFits p id x → IsPlaceIn x v → PlaceFits p id v
place_in p id (Pins u) v fit is = subst (PlaceFits p id) is fit
place_in p id (Prunes q) v fit has = joined_one p id q.joined v has.0 fit.joined has.1
place_in p id Spent v fit none = absurd none

-- each place that a seat represents agrees with the account
stands : (passes : ℕ) (s : BoardState) (r : IsBoard passes s) (id : ℕ) (v : PlaceView) → StandsAt s id v → PlaceFits r.account id v
stands passes s r id v at = place_in r.account id at.0 v (r.each id at.0 at.1) at.2

-- the pruner agrees with the account
prunes : (passes : ℕ) (s : BoardState) (r : IsBoard passes s) (id : ℕ) (q : PrunerView) → PrunesAt s id q → PrunerFits r.account id q
prunes passes s r id q at = r.each id (Prunes q) at

-- places of one number in one view are the same
one_place_in : (p : Account) (id : ℕ) (x : View) (v u : PlaceView) → ViewFits p id x → IsPlaceIn x v → IsPlaceIn x u → v.number ≡ u.number → v ≡ u
one_place_in p id (Pins w) v u fit is is' e = sym is ∙ is'
one_place_in p id (Prunes q) v u fit has has' e = joined_apart p id q.joined v u has.0 has'.0 fit.joined has.1 has'.1 e
one_place_in p id Spent v u fit none none' e = absurd none

-- at one seat, places with one number are the same
one_place : (passes : ℕ) (s : BoardState) (r : IsBoard passes s) (id : ℕ) (v u : PlaceView) → StandsAt s id v → StandsAt s id u → v.number ≡ u.number → v ≡ u
one_place passes s r id v u at at' e = let same : at.0 ≡ at'.0 = some-injective at.0 at'.0 (sym at.1 ∙ at'.1) in
    one_place_in r.account id at'.0 v u (r.each id at'.0 at'.1) (subst (λ (x : View). IsPlaceIn x v) same at.2) at'.2 e

-- the cut is at most what a place has confirmed
below_cut : (passes : ℕ) (s : BoardState) (r : IsBoard passes s) (id : ℕ) (v : PlaceView) → StandsAt s id v → (i : ℕ) → i < max_pins → Below (cut_in s) (hold_at v i)
below_cut passes s r id v at i small = subst (λ (z : ℕ × Hold). Below z.0 z.1) (λ k. (sym r.written.cut_is k, sym ((stands passes s r id v at).holds i small) k)) (r.sound.cut_pins (max_pins * v.number + i))

-- point 1 of the rule: the cut is low
pub IsBoard-cut_is_low : (passes : ℕ) (s : BoardState) → IsBoard passes s → CutIsLow s
IsBoard-cut_is_low passes s r = record {
  gate = let gate = r.written.gate_is in let cut = r.written.cut_is in let low = r.sound.cut_gate in omega arith;
  pins = λ id v at i small. below_cut passes s r id v at i small;
}

-- a pin word is what its place holds
word_at : (passes : ℕ) (s : BoardState) (r : IsBoard passes s) (id : ℕ) (v : PlaceView) → StandsAt s id v → (i : ℕ) → i < max_pins → pin_word s v.number i ≡ word_of (hold_at v i)
word_at passes s r id v at i small = let fit = stands passes s r id v at in let given = fit.numbered in let few = r.few in r.written.pins_are (max_pins * v.number + i) (omega arith) ∙ sym (ap word_of (fit.holds i small))

-- a pin word of no number is 0
no_word : (passes : ℕ) (s : BoardState) (r : IsBoard passes s) (n i : ℕ) → count_in s ≤ n → max_pins * n + i + 3 < length s.words → pin_word s n i ≡ 0
no_word passes s r n i none inside = let count = r.written.count_is in let wide = r.written.wide in r.written.pins_are (max_pins * n + i) (omega arith) ∙ ap word_of (r.sound.unnumbered (max_pins * n + i) (omega arith))

-- a number is at one seat
one_seat : (passes : ℕ) (s : BoardState) (r : IsBoard passes s) (id j : ℕ) (v u : PlaceView) → StandsAt s id v → StandsAt s j u → v.number ≡ u.number → id ≡ j
one_seat passes s r id j v u at at' e = sym (stands passes s r id v at).mine ∙ (ap r.account.seat e ∙ (stands passes s r j u at').mine)

-- a place announced each version that it holds
listed_at : (passes : ℕ) (s : BoardState) (r : IsBoard passes s) (id : ℕ) (v : PlaceView) → StandsAt s id v → (i : ℕ) → i < max_pins → IsListed v.announced (hold_at v i)
listed_at passes s r id v at i small = let fit = stands passes s r id v at in
    subst (λ (z : List ℕ × Hold). IsListed z.0 z.1) (λ k. ((ap r.account.versions (owner_of v.number i small) ∙ sym fit.announced) k, sym (fit.holds i small) k)) (r.sound.listed (max_pins * v.number + i))

-- point 2 of the rule: pin words are what places hold
pub IsBoard-words_are_holds : (passes : ℕ) (s : BoardState) → IsBoard passes s → WordsAreHolds s
IsBoard-words_are_holds passes s r = record {
  words = λ id v at i small. word_at passes s r id v at i small;
  unnumbered = λ n i none inside. no_word passes s r n i none inside;
  apart = λ id j v u at at' e. let same = one_seat passes s r id j v u at at' e in (same, one_place passes s r j v u (subst (λ (k : ℕ). StandsAt s k v) same at) at' e);
  numbered = λ id v at. subst (λ (k : ℕ). v.number < k) (sym r.written.count_is) (stands passes s r id v at).numbered;
  listed = λ id v at i small. listed_at passes s r id v at i small;
}

-- point 3 of the rule: the pruner knows gate, cut and low
pub IsBoard-pruner_knows : (passes : ℕ) (s : BoardState) → IsBoard passes s → PrunerKnows s
IsBoard-pruner_knows passes s r = record {
  gate = λ id q at. (prunes passes s r id q at).gate_is ∙ sym r.written.gate_is;
  cut = λ id q at. (prunes passes s r id q at).cut_is ∙ sym r.written.cut_is;
  low = λ id q at. let low = (prunes passes s r id q at).low_is in let gate = r.written.gate_is in let under = r.sound.low_gate in omega arith;
  pins = λ id j q v at at' i small inside. let fit = prunes passes s r id q at in
      subst (λ (z : ℕ × Hold). Below z.0 z.1) (λ k. (sym fit.low_is k, sym ((stands passes s r j v at').holds i small) k)) (r.sound.low_pins (max_pins * v.number + i) (subst (λ (k : ℕ). max_pins * v.number + i < k) fit.scanned_is inside));
}

-- point 4 of the rule: loaded gates are low
pub IsBoard-loaded_gates_are_low : (passes : ℕ) (s : BoardState) → IsBoard passes s → LoadedGatesAreLow s
IsBoard-loaded_gates_are_low passes s r id v at = subst (λ (k : ℕ). v.gate ≤ k) (sym r.written.gate_is) (stands passes s r id v at).loaded

-- point 5 of the rule: the pairs were announced
pub IsBoard-pairs_are_announced : (passes : ℕ) (s : BoardState) → IsBoard passes s → PairsAreAnnounced s
IsBoard-pairs_are_announced passes s r = record {
  announced = λ id j q v version at at' has. subst (λ (xs : List ℕ). Has xs version) (sym (stands passes s r j v at').announced) ((prunes passes s r id q at).pairs (v.number, version) has);
  given = λ id q pair at has. subst (λ (k : ℕ). pair.0 < k) (sym r.written.count_is) (number_given r.account pair.0 pair.1 r.sound ((prunes passes s r id q at).pairs pair has));
}
