-- Raising, cutting and scanning keep the rule.
use mathlib.Core.Logic.{dite}
use mathlib.Core.Option.{none}
use native.Mathlib.Decide.{dec_lt, ℕ_discrete}
use Rattle.std.proofs.Common.{ℕ, ◌≤◌, arith, List, [], ◌∷◌, ◌≢◌, ◌+◌, ◌-◌, set, ◌∙◌, length-set, get_or-set_other, get_or-set_same, ◌≡◌, sym, refl, ap, le_refl, ◌⊎◌, subst, ⊎_elim, max, ◌*◌, length, ◌/◌, ◌<◌, get_or, length-append}
use Rattle.jf_path.specs.Limits.{max_pins}
use Rattle.atomic_table.specs.Table.{step, keeps, Allows}
use Rattle.jf_board.specs.Rule.{Account, PlaceFits, JoinedFit, ViewFits, IsWritten, IsBoard, Below, least, word_of, lower, Has, IsListed}
use Rattle.jf_board.specs.Steps.{LoadsPinWord, with_gate, gate_raised, BoardSeat, cut_made, JoinedHold, BelowJoined, with_loaded_word}
use Rattle.jf_board.specs.declared.views.PlaceView.{PlaceView}
use Rattle.jf_board.specs.declared.views.View.{View}
use Rattle.jf_board.specs.declared.views.View.TheVariants.{Pins, Prunes, Spent}
use Rattle.jf_board.specs.declared.views.PrunerView.{PrunerView}
use Rattle.jf_board.specs.declared.views.Hold.{Hold}
use Rattle.jf_board.specs.declared.views.Hold.TheVariants.{Free, Announced, Confirmed}
use Rattle.jf_board.proofs.Moving.{with_view, moved, pruner_at, number_below, unmoved}
use Rattle.jf_board.proofs.Lists.{lower_word, lower_le, least_snoc, pairs_after}

-- the account with another gate, cut, low and number of pin words scanned
abbrev pub paced : Account → ℕ → ℕ → ℕ → ℕ → Account
paced p gate cut low scanned = record p { gate = gate; cut = cut; low = low; scanned = scanned }

-- a place agrees as before if the gate rises
pub placed_paced : (p : Account) (gate cut low scanned id : ℕ) (v : PlaceView) → p.gate ≤ gate → PlaceFits p id v → PlaceFits (paced p gate cut low scanned) id v
placed_paced p gate cut low scanned id v up r = let loaded = r.loaded in record { numbered = r.numbered; mine = r.mine; loaded = omega arith; latest = r.latest; eight = r.eight; holds = r.holds; announced = r.announced }

-- joined places agree as before if the gate rises
pub joined_paced : (p : Account) (gate cut low scanned id : ℕ) (gs : List PlaceView) → p.gate ≤ gate → JoinedFit p id gs → JoinedFit (paced p gate cut low scanned) id gs
joined_paced p gate cut low scanned id [] up r = tt
joined_paced p gate cut low scanned id (g ∷ gs) up r = (placed_paced p gate cut low scanned id g up r.0, r.1, joined_paced p gate cut low scanned id gs up r.2)

-- any seat but the pruner's agrees as before if the gate rises
pub paced_else : (p : Account) (gate cut low scanned id : ℕ) (u : View) → p.gate ≤ gate → id ≢ p.pruner → ViewFits p id u → ViewFits (paced p gate cut low scanned) id u
paced_else p gate cut low scanned id (Pins v) up other r = placed_paced p gate cut low scanned id v up r
paced_else p gate cut low scanned id (Prunes q) up other r = absurd (other r.alone)
paced_else p gate cut low scanned id Spent up other r = tt

-- the words after a new gate is set
written_gate : (passes : ℕ) (p : Account) (ws : List ℕ) (gate low scanned : ℕ) → IsWritten passes p ws → IsWritten passes (paced p gate p.cut low scanned) (set ws 0 gate)
written_gate passes p ws gate low scanned r = let wide = r.wide in record {
  wide = length-set ws 0 gate ∙ wide;
  gate_is = get_or-set_same ws 0 gate 0 (omega arith);
  cut_is = get_or-set_other ws 0 1 gate 0 (λ e. omega arith) ∙ r.cut_is;
  count_is = get_or-set_other ws 0 2 gate 0 (λ e. omega arith) ∙ r.count_is;
  pins_are = λ k l. get_or-set_other ws 0 (k + 3) gate 0 (λ e. omega arith) ∙ r.pins_are k l;
}

-- the pruner may raise the gate
pub raises : (passes slots id gate : ℕ) (me : BoardSeat) (q : PrunerView) → me.0 ≡ Prunes q → q.gate ≤ gate → Allows (IsBoard passes) slots id me 0 (λ _. gate) (λ _. gate_raised (step slots 0 gate 0 none) me gate)
raises passes slots id gate me q is up s r _ at _ =
    let fit = pruner_at passes s r id me.0 q is at in let p = r.account in let was = fit.gate_is in let w : PrunerView = with_gate q gate in let cut = r.sound.cut_gate in (
      Prunes w,
      keeps,
      tt,
      moved passes s r (paced p gate p.cut gate 0) (set s.words 0 gate) id me.0 (Prunes w) at (written_gate passes p s.words gate gate 0 r.written)
          record { cut_gate = omega arith; cut_pins = r.sound.cut_pins; low_gate = le_refl gate; low_pins = λ k l. absurd (omega arith); unnumbered = r.sound.unnumbered; no_versions = r.sound.no_versions; listed = r.sound.listed } r.few
          record { alone = fit.alone; count_is = fit.count_is; gate_is = refl; cut_is = fit.cut_is; low_is = refl; scanned_is = refl; pairs = fit.pairs; joined = joined_paced p gate p.cut gate 0 id q.joined (omega arith) fit.joined }
          (λ j u other f. paced_else p gate p.cut gate 0 j u (omega arith) (λ e. other (e ∙ sym fit.alone)) f),
      λ q' is'. let same : Prunes q ≡ Prunes q' = sym is ∙ is' in let qq : q ≡ q' = cc in ap (λ (z : PrunerView). with_view (Prunes (with_gate z gate)) me) qq,
    )

-- the words after a new cut is set
written_cut : (passes : ℕ) (p : Account) (ws : List ℕ) (cut : ℕ) → IsWritten passes p ws → IsWritten passes (paced p p.gate cut p.low p.scanned) (set ws 1 cut)
written_cut passes p ws cut r = let wide = r.wide in record {
  wide = length-set ws 1 cut ∙ wide;
  gate_is = get_or-set_other ws 1 0 cut 0 (λ e. omega arith) ∙ r.gate_is;
  cut_is = get_or-set_same ws 1 cut 0 (omega arith);
  count_is = get_or-set_other ws 1 2 cut 0 (λ e. omega arith) ∙ r.count_is;
  pins_are = λ k l. get_or-set_other ws 1 (k + 3) cut 0 (λ e. omega arith) ∙ r.pins_are k l;
}

-- the greater of two numbers is at most a confirmed version if both are
pub below_max : (a b m : ℕ) (h : Hold) → (m ≡ a) ⊎ (m ≡ b) → Below a h → Below b h → Below m h
below_max a b m h which x y = ⊎_elim (λ (e : m ≡ a). subst (λ (z : ℕ). Below z h) (sym e) x) (λ (e : m ≡ b). subst (λ (z : ℕ). Below z h) (sym e) y) which

-- the greater of two is one of them
pub max_is : (a b : ℕ) → (max a b ≡ a) ⊎ (max a b ≡ b)
max_is a b = grind arith

-- the pruner may set the cut to the greater of cut and low if it loaded all words
pub cuts : (passes slots id : ℕ) (me : BoardSeat) (q : PrunerView) (cut : ℕ) → me.0 ≡ Prunes q → length q.loaded ≡ max_pins * passes → cut ≡ max q.cut (least q.gate q.loaded)
    → Allows (IsBoard passes) slots id me 1 (λ _. cut) (λ _. cut_made (step slots 1 cut 0 none) me cut)
cuts passes slots id me q cut is whole up s r _ at _ =
    let fit = pruner_at passes s r id me.0 q is at in let p = r.account in let w : PrunerView = record q { cut = cut } in let few = number_below passes s r in let all : p.scanned ≡ max_pins * passes = sym fit.scanned_is ∙ whole in
    let low_is = fit.low_is in let cut_is = fit.cut_is in let low_gate = r.sound.low_gate in let cut_gate = r.sound.cut_gate in
    let now : cut ≡ max p.cut p.low = up ∙ (λ k. max (cut_is k) (low_is k)) in
    let low_pins : (k : ℕ) → Below p.low (p.hold k) = λ k. dite (dec_lt k (max_pins * passes)) (λ l. r.sound.low_pins k (omega arith)) (λ n. subst (Below p.low) (sym (r.sound.unnumbered k (omega arith))) tt) in (
      Prunes w,
      keeps,
      tt,
      moved passes s r (paced p p.gate cut p.low p.scanned) (set s.words 1 cut) id me.0 (Prunes w) at (written_cut passes p s.words cut r.written)
          record { cut_gate = omega arith; cut_pins = λ k. subst (λ (z : ℕ). Below z (p.hold k)) (sym now) (below_max p.cut p.low (max p.cut p.low) (p.hold k) (max_is p.cut p.low) (r.sound.cut_pins k) (low_pins k)); low_gate = r.sound.low_gate; low_pins = r.sound.low_pins; unnumbered = r.sound.unnumbered; no_versions = r.sound.no_versions; listed = r.sound.listed } r.few
          record { alone = fit.alone; count_is = fit.count_is; gate_is = fit.gate_is; cut_is = refl; low_is = fit.low_is; scanned_is = fit.scanned_is; pairs = fit.pairs; joined = joined_paced p p.gate cut p.low p.scanned id q.joined (le_refl p.gate) fit.joined }
          (λ j u other f. paced_else p p.gate cut p.low p.scanned j u (le_refl p.gate) (λ e. other (e ∙ sym fit.alone)) f),
      λ q' is'. let same : Prunes q ≡ Prunes q' = sym is ∙ is' in let qq : q ≡ q' = cc in ap (λ (z : PrunerView). with_view (Prunes (record z { cut = cut })) me) qq,
    )

-- a number is at most a confirmed version if a greater one is
pub below_less : (a b : ℕ) (h : Hold) → a ≤ b → Below b h → Below a h
below_less a b Free le x = tt
below_less a b (Announced v) le x = tt
below_less a b (Confirmed v) le x = omega arith

-- the lesser of m and a word is at most what the word confirms
pub below_lower : (m x : ℕ) (h : Hold) → x ≡ word_of h → Below (lower m x) h
below_lower m x Free e = tt
below_lower m x (Announced v) e = tt
below_lower m x (Confirmed v) e = let l = lower_word m x (omega arith) in omega arith

-- the version of a word that is listed
has_version : (vs : List ℕ) (x : ℕ) (h : Hold) → x ≡ word_of h → x ≢ 0 → IsListed vs h → Has vs (x - 1)
has_version vs x Free e n l = absurd (n e)
has_version vs x (Announced v) e n l = subst (Has vs) (omega arith) l
has_version vs x (Confirmed v) e n l = subst (Has vs) (omega arith) l

-- a word of a joined place is what that place holds
joined_hold : (p : Account) (id k x : ℕ) (gs : List PlaceView) → x ≡ word_of (p.hold k) → JoinedFit p id gs → JoinedHold gs k x
joined_hold p id k x [] is r = tt
joined_hold p id k x (g ∷ gs) is r = ((λ i small e. is ∙ ap word_of (ap p.hold e ∙ sym (r.0.holds i small))), joined_hold p id k x gs is r.2)

-- what is at most all that is confirmed is at most what joined places have confirmed
pub below_joined : (p : Account) (id m : ℕ) (gs : List PlaceView) → ((k : ℕ) → Below m (p.hold k)) → JoinedFit p id gs → BelowJoined m gs
below_joined p id m [] low r = tt
below_joined p id m (g ∷ gs) low r = ((λ i small. subst (Below m) (sym (r.0.holds i small)) (low (max_pins * g.number + i))), below_joined p id m gs low r.2)

-- the pruner may load the next pin word
pub scans : (passes slots id k : ℕ) (me : BoardSeat) (q : PrunerView) → me.0 ≡ Prunes q → length q.loaded ≡ k → k < max_pins * passes → Allows (IsBoard passes) slots id me (k + 3) (λ x. x) (LoadsPinWord (step slots (k + 3) 0 0 none) me)
scans passes slots id k me q is long inside s r _ at _ =
    let fit = pruner_at passes s r id me.0 q is at in let p = r.account in let x : ℕ = get_or s.words (k + 3) 0 in let w : PrunerView = with_loaded_word q k x in
    let found : x ≡ word_of (p.hold k) = r.written.pins_are k inside in let low : ℕ = lower p.low x in let less = lower_le p.low x in let low_gate = r.sound.low_gate in let at_k : p.scanned ≡ k = sym fit.scanned_is ∙ long in (
      Prunes w,
      keeps,
      tt,
      unmoved passes s r (paced p p.gate p.cut low (k + 1)) (k + 3) id me.0 (Prunes w) at record { wide = r.written.wide; gate_is = r.written.gate_is; cut_is = r.written.cut_is; count_is = r.written.count_is; pins_are = r.written.pins_are }
          record {
            cut_gate = r.sound.cut_gate;
            cut_pins = r.sound.cut_pins;
            low_gate = omega arith;
            low_pins = λ j l. dite (ℕ_discrete j k) (λ e. subst (λ (z : ℕ). Below low (p.hold z)) (sym e) (below_lower p.low x (p.hold k) found)) (λ n. below_less low p.low (p.hold j) less (r.sound.low_pins j (omega arith)));
            unnumbered = r.sound.unnumbered;
            no_versions = r.sound.no_versions;
            listed = r.sound.listed;
          } r.few
          record {
            alone = fit.alone;
            count_is = fit.count_is;
            gate_is = fit.gate_is;
            cut_is = fit.cut_is;
            low_is = least_snoc q.gate q.loaded x ∙ ap (λ (z : ℕ). lower z x) fit.low_is;
            scanned_is = omega (arith, length-append q.loaded (x ∷ []));
            pairs = pairs_after (λ (t : ℕ × ℕ). Has (p.versions t.0) t.1) q.pairs x (k / max_pins, x - 1) fit.pairs (λ n. has_version (p.versions (k / max_pins)) x (p.hold k) found n (r.sound.listed k));
            joined = joined_paced p p.gate p.cut low (k + 1) id q.joined (le_refl p.gate) fit.joined;
          }
          (λ j u other f. paced_else p p.gate p.cut low (k + 1) j u (le_refl p.gate) (λ e. other (e ∙ sym fit.alone)) f),
      λ q' k' is' word. let same : Prunes q ≡ Prunes q' = sym is ∙ is' in let qq : q ≡ q' = cc in let kk : k ≡ k' = omega arith in
          subst (λ (z : PrunerView × ℕ). (with_view (Prunes w) me ≡ with_view (Prunes (with_loaded_word z.0 z.1 x)) me) × JoinedHold z.0.joined z.1 x × BelowJoined z.0.cut z.0.joined) (λ i. (qq i, kk i)) (refl, joined_hold p id k x q.joined found fit.joined, below_joined p id q.cut q.joined (λ j. subst (λ (z : ℕ). Below z (p.hold j)) (sym fit.cut_is) (r.sound.cut_pins j)) fit.joined),
    )
