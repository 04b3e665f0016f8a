-- A new board keeps the rule, and giving out numbers keeps it.
use lib.ListN.{get_elem?}
use mathlib.Core.Option.{none, some, some-injective, some-ne-none, Option}
use Rattle.std.proofs.Common.{ℕ, ◌+◌, List, set, ◌∙◌, arith, length-set, get_or-set_other, get_or-set_same, ◌<◌, [], ◌∷◌, ◌≢◌, ◌≡◌, ◌*◌, sym, refl, ◌%◌, ◌^◌, get_or, subst, zero, suc, ◌≤◌, length, le_refl, replicate}
use Rattle.std.proofs.lemmas.List.{length-replicate}
use Rattle.jf_path.specs.Limits.{max_pins}
use Rattle.atomic_table.specs.Table.{step, keeps, stepped, Allows}
use Rattle.jf_board.specs.Rule.{Account, IsWritten, PlaceFits, JoinedFit, IsAbsent, ViewFits, IsSoundAccount, IsBoard, opening_view}
use Rattle.jf_board.specs.declared.views.PlaceView.{PlaceView}
use Rattle.jf_board.specs.Steps.{TakesNumber, newly_numbered, with_number_given, BoardSeat}
use Rattle.jf_board.specs.declared.views.View.{View}
use Rattle.jf_board.specs.declared.views.View.TheVariants.{Pins, Prunes, Spent}
use Rattle.jf_board.specs.declared.views.Hold.TheVariants.{Free}
use Rattle.jf_board.specs.declared.views.PrunerView.{PrunerView}
use Rattle.jf_board.specs.declared.views.Size.{Size}
use Rattle.jf_board.proofs.Lists.{put, put_else, put_at, free_at}
use Rattle.jf_board.proofs.Moving.{with_view, moved, pruner_at}

-- the account with one more number, which is at the seat id
abbrev counted : Account → ℕ → ℕ → Account
counted p count id = record p { count = count; seat = put p.seat p.count id }

-- the words after one more number is given
written_count : (passes : ℕ) (p : Account) (ws : List ℕ) (count id : ℕ) → IsWritten passes p ws → IsWritten passes (counted p count id) (set ws 2 count)
written_count passes p ws count id r = let wide = r.wide in record {
  wide = length-set ws 2 count ∙ wide;
  gate_is = get_or-set_other ws 2 0 count 0 (λ e. omega arith) ∙ r.gate_is;
  cut_is = get_or-set_other ws 2 1 count 0 (λ e. omega arith) ∙ r.cut_is;
  count_is = get_or-set_same ws 2 count 0 (omega arith);
  pins_are = λ k l. get_or-set_other ws 2 (k + 3) count 0 (λ e. omega arith) ∙ r.pins_are k l;
}

-- a place agrees as before if one more number is given
placed_count : (p : Account) (count to id : ℕ) (v : PlaceView) → p.count < count → PlaceFits p id v → PlaceFits (counted p count to) id v
placed_count p count to id v up r = let given = r.numbered in record { numbered = omega arith; mine = put_else p.seat p.count to v.number (λ e. omega arith) ∙ r.mine; loaded = r.loaded; latest = r.latest; eight = r.eight; holds = r.holds; announced = r.announced }

-- joined places agree as before if one more number is given
joined_count : (p : Account) (count to id : ℕ) (gs : List PlaceView) → p.count < count → JoinedFit p id gs → JoinedFit (counted p count to) id gs
joined_count p count to id [] up r = tt
joined_count p count to id (g ∷ gs) up r = (placed_count p count to id g up r.0, r.1, joined_count p count to id gs up r.2)

-- no joined place has the next number
absent_new : (p : Account) (id : ℕ) (gs : List PlaceView) → JoinedFit p id gs → IsAbsent p.count gs
absent_new p id [] r = tt
absent_new p id (g ∷ gs) r = ((λ e. let given = r.0.numbered in omega arith), absent_new p id gs r.2)

-- a seat that is not the pruner's agrees as before
count_else : (p : Account) (count to id : ℕ) (u : View) → p.count < count → id ≢ p.pruner → ViewFits p id u → ViewFits (counted p count to) id u
count_else p count to id (Pins v) up other r = placed_count p count to id v up r
count_else p count to id (Prunes q) up other r = absurd (other r.alone)
count_else p count to id Spent up other r = tt

-- a place with the next number agrees
new_place : (p : Account) (id c : ℕ) → c ≡ p.count → IsSoundAccount p → PlaceFits (counted p (c + 1) id) id (newly_numbered c)
new_place p id c found r = record {
  numbered = omega arith;
  mine = put_at p.seat p.count id c found;
  loaded = omega arith;
  latest = omega arith;
  eight = refl;
  holds = λ i l. free_at Free max_pins i ∙ sym (r.unnumbered (max_pins * c + i) (omega arith));
  announced = sym (r.no_versions c (omega arith));
}

-- the pruner may give out one more number
pub numbers : (passes slots id : ℕ) (me : BoardSeat) (q : PrunerView) → me.0 ≡ Prunes q → q.count < passes → passes < 2 ^ 32 → Allows (IsBoard passes) slots id me 2 (λ x. (x + 1) % 2 ^ 64) (TakesNumber (step slots 2 1 0 none) me)
numbers passes slots id me q is room small s r _ at _ =
    let fit = pruner_at passes s r id me.0 q is at in let p = r.account in let c : ℕ = q.count in let found : c ≡ p.count = fit.count_is in let word : get_or s.words 2 0 ≡ p.count = r.written.count_is in
    let bound : passes < 4294967296 = small in let up : (get_or s.words 2 0 + 1) % 18446744073709551616 ≡ c + 1 = omega arith in let w : View = Prunes (with_number_given q) in (
      w,
      keeps,
      tt,
      subst (λ (z : ℕ). IsBoard passes (stepped s 2 z id me.1 w keeps)) (sym up)
          (moved passes s r (counted p (c + 1) id) (set s.words 2 (c + 1)) id me.0 w at (written_count passes p s.words (c + 1) id r.written)
          record { cut_gate = r.sound.cut_gate; cut_pins = r.sound.cut_pins; low_gate = r.sound.low_gate; low_pins = r.sound.low_pins; unnumbered = λ k l. r.sound.unnumbered k (omega arith); no_versions = λ m l. r.sound.no_versions m (omega arith); listed = r.sound.listed } (omega arith)
          record {
            alone = fit.alone;
            gate_is = fit.gate_is;
            cut_is = fit.cut_is;
            count_is = refl;
            low_is = fit.low_is;
            scanned_is = fit.scanned_is;
            pairs = fit.pairs;
            joined = (new_place p id c found r.sound, subst (λ (z : ℕ). IsAbsent z q.joined) (sym found) (absent_new p id q.joined fit.joined), joined_count p (c + 1) id id q.joined (omega arith) fit.joined);
          }
          (λ j u other f. count_else p (c + 1) id j u (omega arith) (λ e. other (e ∙ sym fit.alone)) f)),
      λ q' is'. let same : Prunes q ≡ Prunes q' = sym is ∙ is' in let qq : q ≡ q' = cc in
          subst (λ (z : PrunerView). (get_or s.words 2 0 ≡ z.count) × (with_view w me ≡ with_view (Prunes (with_number_given z)) me)) qq (word ∙ sym found, refl),
    )

-- the first seat agrees with an account that has given no numbers
first_only : (size : Size) (id : ℕ) (v : View) → get_elem? (opening_view size ∷ []) id ≡ some v → ViewFits record { gate = size.gate; cut = size.gate; count = 0; low = size.gate; scanned = 0; pruner = 0; seat = λ _. 0; hold = λ _. Free; versions = λ _. [] } id v
first_only size zero v e = subst (ViewFits record { gate = size.gate; cut = size.gate; count = 0; low = size.gate; scanned = 0; pruner = 0; seat = λ _. 0; hold = λ _. Free; versions = λ _. [] } 0) (some-injective (opening_view size) v e)
    record { alone = refl; gate_is = refl; cut_is = refl; count_is = refl; low_is = refl; scanned_is = refl; pairs = λ t has. absurd (some-ne-none t (sym has.1)); joined = tt }
first_only size (suc id) v e = absurd (some-ne-none v (sym e))

-- words of a gate, a cut and zeros begin a board
pub opens : (size : Size) (ws : List ℕ) (homes : List (Option (Unit {0}))) → length ws ≡ max_pins * size.passes + 3 → get_or ws 0 0 ≡ size.gate → get_or ws 1 0 ≡ size.gate → ((k : ℕ) → 2 ≤ k → get_or ws k 0 ≡ 0)
    → IsBoard size.passes record { words = ws; homes = homes; views = opening_view size ∷ [] }
opens size ws homes wide gate cut zeros = record {
  account = record { gate = size.gate; cut = size.gate; count = 0; low = size.gate; scanned = 0; pruner = 0; seat = λ _. 0; hold = λ _. Free; versions = λ _. [] };
  written = record { wide = wide; gate_is = gate; cut_is = cut; count_is = zeros 2 (omega arith); pins_are = λ k l. zeros (k + 3) (omega arith) };
  sound = record { cut_gate = le_refl size.gate; cut_pins = λ k. tt; low_gate = le_refl size.gate; low_pins = λ k l. tt; unnumbered = λ k l. refl; no_versions = λ n l. refl; listed = λ k. tt };
  few = omega arith;
  each = λ id v e. first_only size id v e;
}

-- all words after gate and cut are zero
zeros_from : (g n k : ℕ) → 2 ≤ k → get_or (g ∷ g ∷ replicate n 0) k 0 ≡ 0
zeros_from g n zero l = absurd (omega arith)
zeros_from g n (suc zero) l = absurd (omega arith)
zeros_from g n (suc (suc k)) l = free_at 0 n k

-- the words that the code makes begin a board
pub opens_new : (passes gate : ℕ) (ws : List ℕ) → ws ≡ gate ∷ gate ∷ replicate (max_pins * passes + 1) 0 → IsBoard passes record { words = ws; homes = []; views = opening_view record { passes = passes; gate = gate } ∷ [] }
opens_new passes gate ws e = subst (λ (z : List ℕ). IsBoard passes record { words = z; homes = []; views = opening_view record { passes = passes; gate = gate } ∷ [] }) (sym e)
    (opens record { passes = passes; gate = gate } (gate ∷ gate ∷ replicate (max_pins * passes + 1) 0) [] (omega (arith, length-replicate {A = ℕ} (max_pins * passes + 1) 0)) refl refl (zeros_from gate (max_pins * passes + 1)))
