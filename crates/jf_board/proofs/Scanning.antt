-- A scan after one more pin word, and what a whole scan says of the place that joined for it.
use Rattle.std.proofs.Common.{◌≡◌, ◌≢◌, ℕ, zero, suc, ◌+◌, ◌-◌, ◌*◌, ◌/◌, ◌%◌, ◌<◌, ◌≤◌, cond, eqb, true, false, List, [], ◌∷◌, ◌++◌, length, get_or, take, Option, Some, None, sym, refl, ap, ◌∙◌, subst, arith, ne_eqb, length-append}
use mathlib.Core.Logic.{dite}
use native.Mathlib.Decide.{ℕ_discrete}
use Rattle.std.proofs.lemmas.Bool.Decides.{nat_tests}
use Rattle.jf_path.specs.Limits.{max_pins}
use Rattle.atomic_table.proofs.Lists.{at_longer, at_last}
use Rattle.jf_board.specs.declared.scan.Held.{Held}
use Rattle.jf_board.specs.declared.views.PrunerView.{PrunerView}
use Rattle.jf_board.specs.Rule.{Has, Below, lower, least, word_of, hold_at}
use Rattle.jf_board.specs.Steps.{with_loaded_word, JoinedHold, BelowJoined, with_own, without_own}
use Rattle.jf_board.specs.Scans.{IsHeld, Scans}
use Rattle.jf_board.specs.declared.views.Hold.{Hold}
use Rattle.jf_board.specs.declared.views.PlaceView.{PlaceView}
use Rattle.jf_board.proofs.Pruning.{below_less, below_lower}
use Rattle.jf_board.proofs.Lists.{lower_le, least_snoc}

-- the least of a gate and words is at most the gate
pub least_le : (gate : ℕ) (ws : List ℕ) → least gate ws ≤ gate
least_le gate [] = omega arith
least_le gate (w ∷ ws) = let a = least_le (lower gate w) ws in let b = lower_le gate w in omega arith

-- an element of a list with one more
get_longer : (xs : List ℕ) (x i : ℕ) → i < length xs → get_or (xs ++ x ∷ []) i 0 ≡ get_or xs i 0
get_longer [] x i l = absurd (omega arith)
get_longer (y ∷ ys) x zero l = refl
get_longer (y ∷ ys) x (suc i) l = get_longer ys x i (omega arith)

-- the last element of a list with one more
get_last : (xs : List ℕ) (x i : ℕ) → i ≡ length xs → get_or (xs ++ x ∷ []) i 0 ≡ x
get_last [] x zero e = refl
get_last [] x (suc i) e = absurd (omega arith)
get_last (y ∷ ys) x zero e = absurd (omega arith)
get_last (y ∷ ys) x (suc i) e = get_last ys x i (omega arith)

-- the front of a list with one more
take_longer : (xs : List ℕ) (x n : ℕ) → n ≤ length xs → take n (xs ++ x ∷ []) ≡ take n xs
take_longer xs x zero l = refl
take_longer [] x (suc n) l = absurd (omega arith)
take_longer (y ∷ ys) x (suc n) l = ap (λ (zs : List ℕ). y ∷ zs) (take_longer ys x n (omega arith))

-- the front of a list without its last element
take_before : (xs : List ℕ) (x n : ℕ) → n ≡ length xs → take n (xs ++ x ∷ []) ≡ xs
take_before [] x zero e = refl
take_before [] x (suc n) e = absurd (omega arith)
take_before (y ∷ ys) x zero e = absurd (omega arith)
take_before (y ∷ ys) x (suc n) e = ap (λ (zs : List ℕ). y ∷ zs) (take_before ys x n (omega arith))

-- a word below m is taken
lower_taken : (m w : ℕ) → 0 < w → w - 1 < m → lower m w ≡ w - 1
lower_taken m w a b = grind (arith, nat_tests)

-- a word that is not below m leaves the lesser as m
lower_left : (m w : ℕ) → (0 < w → m ≤ w - 1) → lower m w ≡ m
lower_left m w a = grind (arith, nat_tests)

-- a load forgets no pair
pairs_grows : (q : PrunerView) (k word : ℕ) (t : ℕ × ℕ) → Has q.pairs t → Has (with_loaded_word q k word).pairs t
pairs_grows q k word t has = elim (eqb word 0) as (λ b. Has (cond b q.pairs (q.pairs ++ (k / max_pins, word - 1) ∷ [])) t) [ true ↦ has | false ↦ (has.0, at_longer q.pairs ((k / max_pins, word - 1) ∷ []) has.0 t has.1) ]

-- a load of a word that isn't 0 adds the word's pair
pairs_new : (q : PrunerView) (k word : ℕ) → word ≢ 0 → Has (with_loaded_word q k word).pairs (k / max_pins, word - 1)
pairs_new q k word n = let t : ℕ × ℕ = (k / max_pins, word - 1) in subst (λ b. Has (cond b q.pairs (q.pairs ++ t ∷ [])) t) (sym (ne_eqb word 0 n)) (length q.pairs, at_last q.pairs t (length q.pairs) refl)

-- a scan after one more pin word, whatever it is
scans_next : (p q : PrunerView) (k low word low' : ℕ) (held held' : Option Held) → Scans p q k low held → JoinedHold q.joined k word → BelowJoined q.cut q.joined → low' ≡ lower low word → IsHeld (with_loaded_word q k word) low' held' → Scans p (with_loaded_word q k word) (k + 1) low' held'
scans_next p q k low word low' held held' s says under is found = let long = s.long in record {
  gate = s.gate;
  cut = s.cut;
  count = s.count;
  joined = s.joined;
  long = omega (arith, length-append q.loaded (word ∷ []));
  low_is = is ∙ (ap (λ (z : ℕ). lower z word) s.low_is ∙ sym (least_snoc q.gate q.loaded word));
  held_is = found;
  words = λ j l. dite (ℕ_discrete j k) (λ e. subst (λ (z : ℕ × ℕ). JoinedHold q.joined z.0 z.1) (λ i. (sym e i, sym (get_last q.loaded word j (e ∙ sym long)) i)) says)
      (λ n. subst (JoinedHold q.joined j) (sym (get_longer q.loaded word j (omega arith))) (s.words j (omega arith)));
  below = λ _. under;
  grows = λ t has. pairs_grows q k word t (s.grows t has);
}

-- the word that gave the low still gives it after one more load
still_held : (q : PrunerView) (k low word : ℕ) (held : Option Held) → IsHeld q low held → IsHeld (with_loaded_word q k word) low held
still_held q k low word None h = h
still_held q k low word (Some x) h = let inside = h.inside in record {
  low = h.low;
  below = h.below;
  place = h.place;
  inside = omega (arith, length-append q.loaded (word ∷ []));
  word = get_longer q.loaded word (max_pins * x.owner + x.place) inside ∙ h.word;
  first = subst (λ (ws : List ℕ). low < least q.gate ws) (sym (take_longer q.loaded word (max_pins * x.owner + x.place) (omega arith))) h.first;
  pair = pairs_grows q k word (x.owner, x.version) h.pair;
}

-- the pin word k as a `Held`: owner, place and version
abbrev pub held_now : ℕ → ℕ → Held
held_now k word = record { owner = k / max_pins; place = k % max_pins; version = word - 1 }

-- a scan after one more word that is below the low
pub scans_lower : (p q q' : PrunerView) (k low word : ℕ) (held : Option Held) → Scans p q k low held → JoinedHold q.joined k word → BelowJoined q.cut q.joined → q' ≡ with_loaded_word q k word → 0 < word → word - 1 < low → Scans p q' (k + 1) (word - 1) (Some (held_now k word))
scans_lower p q q' k low word held s says under e some_word less = let long = s.long in let low_is = s.low_is in let le = least_le q.gate q.loaded in let here : max_pins * (k / max_pins) + k % max_pins ≡ k = omega arith in
    subst (λ (z : PrunerView). Scans p z (k + 1) (word - 1) (Some (held_now k word))) (sym e)
    (scans_next p q k low word (word - 1) held (Some (held_now k word)) s says under (sym (lower_taken low word some_word less))
    record {
      low = refl;
      below = omega arith;
      place = omega arith;
      inside = omega (arith, length-append q.loaded (word ∷ []));
      word = get_last q.loaded word (max_pins * (k / max_pins) + k % max_pins) (here ∙ sym long) ∙ omega arith;
      first = subst (λ (ws : List ℕ). word - 1 < least q.gate ws) (sym (take_before q.loaded word (max_pins * (k / max_pins) + k % max_pins) (here ∙ sym long))) (omega arith);
      pair = pairs_new q k word (λ z. omega arith);
    })

-- a scan after one more word that is not below the low
pub scans_same : (p q q' : PrunerView) (k low word : ℕ) (held : Option Held) → Scans p q k low held → JoinedHold q.joined k word → BelowJoined q.cut q.joined → q' ≡ with_loaded_word q k word → (0 < word → low ≤ word - 1) → Scans p q' (k + 1) low held
scans_same p q q' k low word held s says under e more =
    subst (λ (z : PrunerView). Scans p z (k + 1) low held) (sym e) (scans_next p q k low word low held held s says under (sym (lower_left low word more)) (still_held q k low word held s.held_is))

-- the word that gave the low still gives it after the place has parted
pub held_alone : (q q' : PrunerView) (low : ℕ) (held : Option Held) → q' ≡ without_own q → IsHeld q low held → IsHeld q' low held
held_alone q q' low None e h = subst (λ (z : PrunerView). IsHeld z low None) (sym e) h
held_alone q q' low (Some x) e h = subst (λ (z : PrunerView). IsHeld z low (Some x)) (sym e) record { low = h.low; below = h.below; place = h.place; inside = h.inside; word = h.word; first = h.first; pair = h.pair }

-- the pairs are unchanged after the place has parted
pub pairs_alone : (q q' : PrunerView) (t : ℕ × ℕ) → q' ≡ without_own q → Has q.pairs t → Has q'.pairs t
pairs_alone q q' t e has = subst (λ (z : PrunerView). Has z.pairs t) (sym e) has

-- the least of a gate and the words is at most the version of each word
least_below : (gate : ℕ) (ws : List ℕ) (j : ℕ) (h : Hold) → j < length ws → get_or ws j 0 ≡ word_of h → Below (least gate ws) h
least_below gate [] j h l e = absurd (omega arith)
least_below gate (w ∷ ws) zero h l e = below_less (least (lower gate w) ws) (lower gate w) h (least_le (lower gate w) ws) (below_lower gate w h e)
least_below gate (w ∷ ws) (suc j) h l e = least_below (lower gate w) ws j h (omega arith) e

-- at the places of the place that joined for the scan, the words loaded are what it holds
pub own_words : (o p q : PrunerView) (v : PlaceView) (k low : ℕ) (held : Option Held) → Scans p q k low held → p ≡ with_own o v → (i : ℕ) → i < max_pins → max_pins * v.number + i < k → get_or q.loaded (max_pins * v.number + i) 0 ≡ word_of (hold_at v i)
own_words o p q v k low held s e i small inside = let j : ℕ = max_pins * v.number + i in
    (subst (λ (vs : List PlaceView). JoinedHold vs j (get_or q.loaded j 0)) (s.joined ∙ ap (λ (z : PrunerView). z.joined) e) (s.words j inside)).0 i small refl

-- the low is at most each version held by the place that joined for the scan
pub own_pins : (o p q : PrunerView) (v : PlaceView) (k low : ℕ) (held : Option Held) → Scans p q k low held → p ≡ with_own o v → (i : ℕ) → i < max_pins → max_pins * v.number + i < k → Below low (hold_at v i)
own_pins o p q v k low held s e i small inside = let long = s.long in
    subst (λ (z : ℕ). Below z (hold_at v i)) (sym s.low_is) (least_below q.gate q.loaded (max_pins * v.number + i) (hold_at v i) (omega arith) (own_words o p q v k low held s e i small inside))

-- the cut is at most each version held by the place that joined for the scan
pub own_cut : (o p q : PrunerView) (v : PlaceView) (k low : ℕ) (held : Option Held) → Scans p q k low held → p ≡ with_own o v → (i : ℕ) → i < max_pins → 0 < k → Below o.cut (hold_at v i)
own_cut o p q v k low held s e i small some =
    (subst (λ (z : ℕ × List PlaceView). BelowJoined z.0 z.1) (λ j. ((s.cut ∙ ap (λ (z : PrunerView). z.cut) e) j, (s.joined ∙ ap (λ (z : PrunerView). z.joined) e) j)) (s.below some)).0 i small
