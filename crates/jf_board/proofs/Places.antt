-- Announcing, confirming and withdrawing keep the rule.
use mathlib.Core.Logic.{dite}
use mathlib.Core.Option.{none}
use native.Mathlib.Decide.{ℕ_discrete}
use Rattle.std.proofs.Common.{ℕ, ◌+◌, ◌*◌, List, ◌<◌, ◌≢◌, sym, ◌∙◌, arith, [], ◌∷◌, ap, subst, ◌≡◌, ◌/◌, get_or, set, length-set, get_or-set_other, get_or-set_same, ◌≤◌, refl, ◌++◌, length, cond, leb, true, false, ⊎_elim}
use Rattle.std.proofs.lemmas.Bool.Decides.{leb_tells}
use Rattle.jf_path.specs.Limits.{max_pins}
use Rattle.atomic_table.proofs.Lists.{at_longer, at_last}
use Rattle.atomic_table.specs.Table.{step, keeps, Allows}
use Rattle.jf_board.specs.declared.views.Hold.{Hold}
use Rattle.jf_board.specs.Rule.{Account, PlaceFits, JoinedFit, Has, ViewFits, IsListed, Below, IsSoundAccount, word_of, IsWritten, IsBoard}
use Rattle.jf_board.specs.declared.views.PlaceView.{PlaceView}
use Rattle.jf_board.specs.Steps.{AnnouncesVersion, with_announcement, BoardSeat, confirmed_from, with_confirmation, LoadsGate, with_hold, WithdrawsVersion}
use Rattle.jf_board.specs.declared.views.View.{View}
use Rattle.jf_board.specs.declared.views.View.TheVariants.{Pins, Prunes, Spent}
use Rattle.jf_board.specs.declared.views.Hold.TheVariants.{Free, Announced, Confirmed}
use Rattle.jf_board.proofs.Lists.{put, put_else, put_keeps, put_at}
use Rattle.jf_board.proofs.Moving.{with_view, moved, place_at, number_below, unmoved}

-- the account in which pin word i of the number n holds h, and the versions announced there are vs
abbrev pinned_account : Account → ℕ → ℕ → Hold → List ℕ → Account
pinned_account p n i h vs = record p { hold = put p.hold (max_pins * n + i) h; versions = put p.versions n vs }

-- a place of another number agrees as before
placed_else : (p : Account) (n i : ℕ) (h : Hold) (vs : List ℕ) (id : ℕ) (v : PlaceView) → i < max_pins → v.number ≢ n → PlaceFits p id v → PlaceFits (pinned_account p n i h vs) id v
placed_else p n i h vs id v small other r = record {
  numbered = r.numbered;
  mine = r.mine;
  loaded = r.loaded;
  latest = r.latest;
  eight = r.eight;
  holds = λ j l. r.holds j l ∙ sym (put_else p.hold (max_pins * n + i) h (max_pins * v.number + j) (λ e. other (omega arith)));
  announced = r.announced ∙ sym (put_else p.versions n vs v.number other);
}

-- places joined to another seat agree as before if the number n changes a hold
joined_else : (p : Account) (n i : ℕ) (h : Hold) (vs : List ℕ) (id : ℕ) (gs : List PlaceView) → i < max_pins → p.seat n ≢ id → JoinedFit p id gs → JoinedFit (pinned_account p n i h vs) id gs
joined_else p n i h vs id [] small other r = tt
joined_else p n i h vs id (g ∷ gs) small other r = (placed_else p n i h vs id g small (λ e. other (ap p.seat (sym e) ∙ r.0.mine)) r.0, r.1, joined_else p n i h vs id gs small other r.2)

-- any other seat agrees as before if the number n changes a hold
pinned_else : (p : Account) (n i : ℕ) (h : Hold) (vs : List ℕ) (id : ℕ) (v : View) → i < max_pins → p.seat n ≢ id → ((x : ℕ) → Has (p.versions n) x → Has vs x) → ViewFits p id v → ViewFits (pinned_account p n i h vs) id v
pinned_else p n i h vs id (Pins v) small other grows r = placed_else p n i h vs id v small (λ e. other (ap p.seat (sym e) ∙ r.mine)) r
pinned_else p n i h vs id (Prunes q) small other grows r = record {
  alone = r.alone;
  count_is = r.count_is;
  gate_is = r.gate_is;
  cut_is = r.cut_is;
  low_is = r.low_is;
  scanned_is = r.scanned_is;
  pairs = λ t has. put_keeps (λ (xs : List ℕ). Has xs t.1) p.versions n vs t.0 (λ e. grows t.1 (subst (λ (k : ℕ). Has (p.versions k) t.1) e (r.pairs t has))) (λ _. r.pairs t has);
  joined = joined_else p n i h vs id q.joined small other r.joined;
}
pinned_else p n i h vs id Spent small other grows r = tt

-- what is listed stays listed in a longer list
listed_grows : (us vs : List ℕ) (h : Hold) → ((x : ℕ) → Has us x → Has vs x) → IsListed us h → IsListed vs h
listed_grows us vs Free grows l = tt
listed_grows us vs (Announced x) grows l = grows x l
listed_grows us vs (Confirmed x) grows l = grows x l

-- after a change of one hold, cut and low are at most what is confirmed
sound_pinned : (p : Account) (n i : ℕ) (h : Hold) (vs : List ℕ) → i < max_pins → n < p.count → Below p.cut h → (max_pins * n + i < p.scanned → Below p.low h) → IsListed vs h → ((x : ℕ) → Has (p.versions n) x → Has vs x) → IsSoundAccount p → IsSoundAccount (pinned_account p n i h vs)
sound_pinned p n i h vs small given cut low listed grows r = let K : ℕ = max_pins * n + i in let nth : (max_pins * n + i) / max_pins ≡ n = omega arith in record {
  cut_gate = r.cut_gate;
  cut_pins = λ k. put_keeps (Below p.cut) p.hold K h k (λ _. cut) (λ _. r.cut_pins k);
  low_gate = r.low_gate;
  low_pins = λ k l. put_keeps (Below p.low) p.hold K h k (λ e. low (subst (λ (z : ℕ). z < p.scanned) e l)) (λ _. r.low_pins k l);
  unnumbered = λ k l. put_else p.hold K h k (λ e. omega arith) ∙ r.unnumbered k l;
  no_versions = λ m l. put_else p.versions n vs m (λ e. omega arith) ∙ r.no_versions m l;
  listed = λ k. put_keeps (λ (x : Hold). IsListed (put p.versions n vs (k / max_pins)) x) p.hold K h k
      (λ e. subst (λ (xs : List ℕ). IsListed xs h) (sym (put_at p.versions n vs (k / max_pins) (ap (λ (z : ℕ). z / max_pins) e ∙ nth))) listed)
      (λ _. put_keeps (λ (xs : List ℕ). IsListed xs (p.hold k)) p.versions n vs (k / max_pins) (λ e. listed_grows (p.versions n) vs (p.hold k) grows (subst (λ (z : ℕ). IsListed (p.versions z) (p.hold k)) e (r.listed k))) (λ _. r.listed k));
}

-- the words after a change of one pin word
written_pinned : (passes : ℕ) (p : Account) (n i : ℕ) (h : Hold) (vs ws : List ℕ) → max_pins * n + i < max_pins * passes → IsWritten passes p ws → IsWritten passes (pinned_account p n i h vs) (set ws (max_pins * n + i + 3) (word_of h))
written_pinned passes p n i h vs ws inside r = let K : ℕ = max_pins * n + i in let wide = r.wide in record {
  wide = length-set ws (K + 3) (word_of h) ∙ wide;
  gate_is = get_or-set_other ws (K + 3) 0 (word_of h) 0 (λ e. omega arith) ∙ r.gate_is;
  cut_is = get_or-set_other ws (K + 3) 1 (word_of h) 0 (λ e. omega arith) ∙ r.cut_is;
  count_is = get_or-set_other ws (K + 3) 2 (word_of h) 0 (λ e. omega arith) ∙ r.count_is;
  pins_are = λ k l. dite (ℕ_discrete k K)
      (λ e. ap (λ (z : ℕ). get_or (set ws (K + 3) (word_of h)) (z + 3) 0) e ∙ (get_or-set_same ws (K + 3) (word_of h) 0 (omega arith) ∙ ap word_of (sym (put_at p.hold K h k e))))
      (λ other. get_or-set_other ws (K + 3) (k + 3) (word_of h) 0 (λ e. other (omega arith)) ∙ (r.pins_are k l ∙ ap word_of (sym (put_else p.hold K h k other))));
}

-- the place's view after it set the hold of its place i
placed_here : (p : Account) (id i : ℕ) (h : Hold) (vs : List ℕ) (gate latest : ℕ) (v : PlaceView) → i < max_pins → latest < max_pins → gate ≤ p.gate → PlaceFits p id v
    → PlaceFits (pinned_account p v.number i h vs) id record { number = v.number; gate = gate; latest = latest; holds = set v.holds i h; announced = vs }
placed_here p id i h vs gate latest v small last loaded r = let eight = r.eight in let K : ℕ = max_pins * v.number + i in record {
  numbered = r.numbered;
  mine = r.mine;
  loaded = loaded;
  latest = last;
  eight = length-set v.holds i h ∙ eight;
  holds = λ j l. dite (ℕ_discrete j i)
      (λ e. ap (λ (z : ℕ). get_or (set v.holds i h) z Free) e ∙ (get_or-set_same v.holds i h Free (omega arith) ∙ sym (put_at p.hold K h (max_pins * v.number + j) (ap (λ (z : ℕ). max_pins * v.number + z) e))))
      (λ other. get_or-set_other v.holds i j h Free other ∙ (r.holds j l ∙ sym (put_else p.hold K h (max_pins * v.number + j) (λ e. other (omega arith)))));
  announced = sym (put_at p.versions v.number vs v.number refl);
}

-- what stands in a list stands in a longer one
longer : (xs : List ℕ) (y x : ℕ) → Has xs x → Has (xs ++ y ∷ []) x
longer xs y x has = (has.0, at_longer xs (y ∷ []) has.0 x has.1)

-- a place may announce
pub announces : (passes slots id i version : ℕ) (me : BoardSeat) (v : PlaceView) → me.0 ≡ Pins v → i < max_pins
    → Allows (IsBoard passes) slots id me (max_pins * v.number + i + 3) (λ _. version + 1) (λ _. AnnouncesVersion (step slots (max_pins * v.number + i + 3) (version + 1) 0 none) me (version + 1))
announces passes slots id i version me v is small s r _ at _ =
    let fit = place_at passes s r id me.0 v is at in let p = r.account in let vs : List ℕ = v.announced ++ version ∷ [] in let w : PlaceView = with_announcement v i version in let h : Hold = Announced version in
    let grows : (x : ℕ) → Has (p.versions v.number) x → Has vs x = λ x has. longer v.announced version x (subst (λ xs. Has xs x) (sym fit.announced) has) in
    let given = fit.numbered in let few = number_below passes s r in (
      Pins w,
      keeps,
      tt,
      moved passes s r (pinned_account p v.number i h vs) (set s.words (max_pins * v.number + i + 3) (version + 1)) id me.0 (Pins w) at (written_pinned passes p v.number i h vs s.words (omega arith) r.written)
          (sound_pinned p v.number i h vs small given tt (λ _. tt) (length v.announced, at_last v.announced version (length v.announced) refl) grows r.sound) r.few
          (placed_here p id i h vs v.gate i v small small fit.loaded fit) (λ j u other f. pinned_else p v.number i h vs j u small (λ e. other (sym e ∙ fit.mine)) grows f),
      λ v' i' version' is' word first. let same : Pins v ≡ Pins v' = sym is ∙ is' in let vv : v ≡ v' = cc in let nn : v.number ≡ v'.number = ap (λ (z : PlaceView). z.number) vv in
          let ii : i ≡ i' = omega arith in let ee : version ≡ version' = omega arith in λ j. with_view (Pins (with_announcement (vv j) (ii j) (ee j))) me,
    )

-- the words are those of the account if a hold changes and its word does not
same_word : (passes : ℕ) (p : Account) (n i : ℕ) (h : Hold) (vs ws : List ℕ) → word_of h ≡ word_of (p.hold (max_pins * n + i)) → IsWritten passes p ws → IsWritten passes (pinned_account p n i h vs) ws
same_word passes p n i h vs ws same r = record {
  wide = r.wide;
  gate_is = r.gate_is;
  cut_is = r.cut_is;
  count_is = r.count_is;
  pins_are = λ k l. put_keeps (λ (x : Hold). get_or ws (k + 3) 0 ≡ word_of x) p.hold (max_pins * n + i) h k (λ e. r.pins_are k l ∙ (ap (λ (z : ℕ). word_of (p.hold z)) e ∙ sym same)) (λ _. r.pins_are k l);
}

-- confirming changes no word
judged_word : (gate : ℕ) (h : Hold) → word_of (confirmed_from gate h) ≡ word_of h
judged_word gate Free = refl
judged_word gate (Announced v) = elim (leb gate v) as (λ b. word_of (cond b (Confirmed v) (Announced v)) ≡ v + 1) [ true ↦ refl | false ↦ refl ]
judged_word gate (Confirmed v) = refl

-- what is confirmed by a gate is at least all that is at most the gate
judged_below : (m gate : ℕ) (h : Hold) → m ≤ gate → Below m h → Below m (confirmed_from gate h)
judged_below m gate Free le b = tt
judged_below m gate (Announced v) le b = ⊎_elim (λ (t : (leb gate v ≡ true) × (gate ≤ v)). let up = t.1 in subst (λ c. Below m (cond c (Confirmed v) (Announced v))) (sym t.0) (omega arith))
    (λ (t : (leb gate v ≡ false) × (v < gate)). subst (λ c. Below m (cond c (Confirmed v) (Announced v))) (sym t.0) tt) (leb_tells gate v)
judged_below m gate (Confirmed v) le b = b

-- confirming changes no version
judged_listed : (vs : List ℕ) (gate : ℕ) (h : Hold) → IsListed vs h → IsListed vs (confirmed_from gate h)
judged_listed vs gate Free l = l
judged_listed vs gate (Announced v) l = elim (leb gate v) as (λ b. IsListed vs (cond b (Confirmed v) (Announced v))) [ true ↦ l | false ↦ l ]
judged_listed vs gate (Confirmed v) l = l

-- a place announced all that was announced at its number
said_same : (p : Account) (id : ℕ) (v : PlaceView) → PlaceFits p id v → (x : ℕ) → Has (p.versions v.number) x → Has v.announced x
said_same p id v r x has = subst (λ (xs : List ℕ). Has xs x) (sym r.announced) has

-- the number of a pin word's place, by the place of the word
pub owner_of : (n i : ℕ) → i < max_pins → (max_pins * n + i) / max_pins ≡ n
owner_of n i small = omega arith

-- a place announced each version that it holds
hold_listed : (p : Account) (id : ℕ) (v : PlaceView) (i : ℕ) → i < max_pins → IsSoundAccount p → PlaceFits p id v → IsListed v.announced (p.hold (max_pins * v.number + i))
hold_listed p id v i small sound r = subst (λ (xs : List ℕ). IsListed xs (p.hold (max_pins * v.number + i))) (ap p.versions (owner_of v.number i small) ∙ sym r.announced) (sound.listed (max_pins * v.number + i))

-- a place may load the gate
pub confirms : (passes slots id : ℕ) (me : BoardSeat) (v : PlaceView) → me.0 ≡ Pins v → Allows (IsBoard passes) slots id me 0 (λ x. x) (LoadsGate (step slots 0 0 0 none) me)
confirms passes slots id me v is s r _ at _ =
    let fit = place_at passes s r id me.0 v is at in let p = r.account in let i : ℕ = v.latest in let small : i < max_pins = fit.latest in let g : ℕ = get_or s.words 0 0 in let gate = r.written.gate_is in
    let K : ℕ = max_pins * v.number + i in let x : Hold = get_or v.holds i Free in let h : Hold = confirmed_from g x in let was : x ≡ p.hold K = fit.holds i small in let w : PlaceView = with_confirmation v g in
    let cut = r.sound.cut_gate in let low = r.sound.low_gate in let given = fit.numbered in
    let under : (m : ℕ) → m ≤ g → Below m (p.hold K) → Below m h = λ m le b. judged_below m g x le (subst (Below m) (sym was) b) in
    let low_below : K < p.scanned → Below p.low h = λ l. under p.low (omega arith) (r.sound.low_pins K l) in (
      Pins w,
      keeps,
      tt,
      unmoved passes s r (pinned_account p v.number i h v.announced) 0 id me.0 (Pins w) at (same_word passes p v.number i h v.announced s.words (judged_word g x ∙ ap word_of was) r.written)
          (sound_pinned p v.number i h v.announced small given (under p.cut (omega arith) (r.sound.cut_pins K)) low_below (judged_listed v.announced g x (subst (IsListed v.announced) (sym was) (hold_listed p id v i small r.sound fit))) (said_same p id v fit) r.sound)
          r.few (placed_here p id i h v.announced g i v small small (omega arith) fit) (λ j u other f. pinned_else p v.number i h v.announced j u small (λ e. other (sym e ∙ fit.mine)) (said_same p id v fit) f),
      λ v' is'. let same : Pins v ≡ Pins v' = sym is ∙ is' in let vv : v ≡ v' = cc in ap (λ (z : PlaceView). with_view (Pins (with_confirmation z g)) me) vv,
    )

-- a place may withdraw
pub withdraws : (passes slots id i : ℕ) (me : BoardSeat) (v : PlaceView) → me.0 ≡ Pins v → i < max_pins
    → Allows (IsBoard passes) slots id me (max_pins * v.number + i + 3) (λ _. 0) (λ _. WithdrawsVersion (step slots (max_pins * v.number + i + 3) 0 0 none) me 0)
withdraws passes slots id i me v is small s r _ at _ =
    let fit = place_at passes s r id me.0 v is at in let p = r.account in let w : PlaceView = with_hold v i Free in let given = fit.numbered in let few = number_below passes s r in (
      Pins w,
      keeps,
      tt,
      moved passes s r (pinned_account p v.number i Free v.announced) (set s.words (max_pins * v.number + i + 3) 0) id me.0 (Pins w) at (written_pinned passes p v.number i Free v.announced s.words (omega arith) r.written)
          (sound_pinned p v.number i Free v.announced small given tt (λ _. tt) tt (said_same p id v fit) r.sound) r.few
          (placed_here p id i Free v.announced v.gate v.latest v small fit.latest fit.loaded fit) (λ j u other f. pinned_else p v.number i Free v.announced j u small (λ e. other (sym e ∙ fit.mine)) (said_same p id v fit) f),
      λ v' i' is' word. let same : Pins v ≡ Pins v' = sym is ∙ is' in let vv : v ≡ v' = cc in let nn : v.number ≡ v'.number = ap (λ (z : PlaceView). z.number) vv in
          let ii : i ≡ i' = omega arith in λ j. with_view (Pins (with_hold (vv j) (ii j) Free)) me,
    )

-- a place may announce a version at its place i, the word given by its number
pub announces_at : (passes slots id i version word : ℕ) (me : BoardSeat) (v : PlaceView) → me.0 ≡ Pins v → i < max_pins → word ≡ max_pins * v.number + i + 3
    → Allows (IsBoard passes) slots id me word (λ _. version + 1) (λ _. AnnouncesVersion (step slots word (version + 1) 0 none) me (version + 1))
announces_at passes slots id i version word me v is small e = subst (λ (z : ℕ). Allows (IsBoard passes) slots id me z (λ _. version + 1) (λ _. AnnouncesVersion (step slots z (version + 1) 0 none) me (version + 1))) (sym e) (announces passes slots id i version me v is small)

-- a place may withdraw what it holds at i, the word given by its number
pub withdraws_at : (passes slots id i word : ℕ) (me : BoardSeat) (v : PlaceView) → me.0 ≡ Pins v → i < max_pins → word ≡ max_pins * v.number + i + 3
    → Allows (IsBoard passes) slots id me word (λ _. 0) (λ _. WithdrawsVersion (step slots word 0 0 none) me 0)
withdraws_at passes slots id i word me v is small e = subst (λ (z : ℕ). Allows (IsBoard passes) slots id me z (λ _. 0) (λ _. WithdrawsVersion (step slots z 0 0 none) me 0)) (sym e) (withdraws passes slots id i me v is small)
