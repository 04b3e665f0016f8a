-- Lending a place, joining it and parting from it keep the rule.
use lib.ListN.{get_elem?}
use mathlib.Core.Option.{some, none}
use Rattle.std.proofs.Common.{ℕ, ◌≢◌, ◌∙◌, refl, List, [], ◌∷◌, sym, ap, ◌≡◌, ◌≤◌, ◌++◌, length, set, subst, ⊎_elim, length-set, drop, ◌<◌, le_refl, arith}
use Rattle.atomic_table.proofs.Lists.{at_set}
use Rattle.atomic_table.specs.Table.{Splits, Joins, step, keeps, Allows}
use Rattle.jf_board.specs.Rule.{Account, PlaceFits, JoinedFit, IsAbsent, ViewFits, IsSoundAccount, IsWritten, BoardState, IsBoard, Below, least, Has, PrunerFits}
use Rattle.jf_board.specs.declared.views.PlaceView.{PlaceView}
use Rattle.jf_board.specs.declared.views.View.{View}
use Rattle.jf_board.specs.declared.views.View.TheVariants.{Pins, Prunes, Spent}
use Rattle.jf_board.specs.declared.views.PrunerView.{PrunerView}
use Rattle.jf_board.specs.Steps.{parted_view, first_joined, last_joined, joined_for_scan, joined_for_good, JoinedAnnounced, BelowJoined, NumbersAreGiven, LearnsOfJoined, BoardSeat}
use Rattle.jf_board.proofs.Lists.{put, put_else, put_at, at_end}
use Rattle.jf_board.proofs.Moving.{place_at, pruner_at, number_given, unmoved}
use Rattle.jf_board.proofs.Pruning.{paced, placed_paced, joined_paced, paced_else, below_joined}

-- the account in which the number n is at the seat `to`
abbrev reseated : Account → ℕ → ℕ → Account
reseated p n to = record p { seat = put p.seat n to }

-- a place with another number agrees as before if the number n goes to another seat
placed_else_seat : (p : Account) (n to id : ℕ) (v : PlaceView) → v.number ≢ n → PlaceFits p id v → PlaceFits (reseated p n to) id v
placed_else_seat p n to id v other r = record { numbered = r.numbered; mine = put_else p.seat n to v.number other ∙ r.mine; loaded = r.loaded; latest = r.latest; eight = r.eight; holds = r.holds; announced = r.announced }

-- the place whose number goes to a seat agrees there
placed_to : (p : Account) (to id : ℕ) (v : PlaceView) → PlaceFits p id v → PlaceFits (reseated p v.number to) to v
placed_to p to id v r = record { numbered = r.numbered; mine = put_at p.seat v.number to v.number refl; loaded = r.loaded; latest = r.latest; eight = r.eight; holds = r.holds; announced = r.announced }

-- places joined to a seat that doesn't have the number n agree as before
joined_else_seat : (p : Account) (n to id : ℕ) (gs : List PlaceView) → p.seat n ≢ id → JoinedFit p id gs → JoinedFit (reseated p n to) id gs
joined_else_seat p n to id [] other r = tt
joined_else_seat p n to id (g ∷ gs) other r = (placed_else_seat p n to id g (λ e. other (ap p.seat (sym e) ∙ r.0.mine)) r.0, r.1, joined_else_seat p n to id gs other r.2)

-- joined places agree as before if no place of them has the number n
joined_absent : (p : Account) (n to id : ℕ) (gs : List PlaceView) → IsAbsent n gs → JoinedFit p id gs → JoinedFit (reseated p n to) id gs
joined_absent p n to id [] other r = tt
joined_absent p n to id (g ∷ gs) other r = (placed_else_seat p n to id g other.0 r.0, r.1, joined_absent p n to id gs other.1 r.2)

-- a seat that doesn't have the number n agrees as before
seat_else : (p : Account) (n to id : ℕ) (u : View) → p.seat n ≢ id → ViewFits p id u → ViewFits (reseated p n to) id u
seat_else p n to id (Pins v) other r = placed_else_seat p n to id v (λ e. other (ap p.seat (sym e) ∙ r.mine)) r
seat_else p n to id (Prunes q) other r = record { alone = r.alone; count_is = r.count_is; gate_is = r.gate_is; cut_is = r.cut_is; low_is = r.low_is; scanned_is = r.scanned_is; pairs = r.pairs; joined = joined_else_seat p n to id q.joined other r.joined }
seat_else p n to id Spent other r = tt

-- which seat has a number changes nothing of cut, low and holds
same_sound : (p : Account) (n to : ℕ) → IsSoundAccount p → IsSoundAccount (reseated p n to)
same_sound p n to r = record { cut_gate = r.cut_gate; cut_pins = r.cut_pins; low_gate = r.low_gate; low_pins = r.low_pins; unnumbered = r.unnumbered; no_versions = r.no_versions; listed = r.listed }

-- which seat has a number changes nothing of the words
same_worded : (passes : ℕ) (p : Account) (n to : ℕ) (ws : List ℕ) → IsWritten passes p ws → IsWritten passes (reseated p n to) ws
same_worded passes p n to ws r = record { wide = r.wide; gate_is = r.gate_is; cut_is = r.cut_is; count_is = r.count_is; pins_are = r.pins_are }

-- a seat's view is cut in two, under the account p
cut_in_two : (passes : ℕ) (s : BoardState) (r : IsBoard passes s) (p : Account) (id : ℕ) (v left right : View) → get_elem? s.views id ≡ some v → IsWritten passes p s.words → IsSoundAccount p → p.count ≤ passes
    → ViewFits p id left → ViewFits p (length s.views) right → ((j : ℕ) (u : View) → j ≢ id → ViewFits r.account j u → ViewFits p j u) → IsBoard passes record { words = s.words; homes = s.homes; views = set s.views id left ++ right ∷ [] }
cut_in_two passes s r p id v left right at written sound few mine new others = record {
  account = p;
  written = written;
  sound = sound;
  few = few;
  each = λ j u e. ⊎_elim
      (λ (h : get_elem? (set s.views id left) j ≡ some u). ⊎_elim (λ (t : (j ≡ id) × (left ≡ u)). subst (λ (x : ℕ × View). ViewFits p x.0 x.1) (λ i. (sym t.0 i, t.1 i)) mine)
      (λ (t : (j ≢ id) × (get_elem? s.views j ≡ some u)). others j u t.0 (r.each j u t.1)) (at_set s.views id j left u h))
      (λ (t : (right ≡ u) × (j ≡ length (set s.views id left))). subst (λ (x : ℕ × View). ViewFits p x.0 x.1) (λ i. (sym (t.1 ∙ length-set s.views id left) i, t.0 i)) new)
      (at_end (set s.views id left) right u j e);
}

-- a place may go to a new seat
pub lends : (passes id : ℕ) (v : View) (u : PlaceView) → v ≡ Pins u → Splits (IsBoard passes) id v Spent v
lends passes id v u is s r at = let fit = place_at passes s r id v u is at in let p = r.account in let new : ℕ = length s.views in subst (λ (z : View). IsBoard passes record { words = s.words; homes = s.homes; views = set s.views id Spent ++ z ∷ [] }) (sym is)
    (cut_in_two passes s r (reseated p u.number new) id (Pins u) Spent (Pins u) (at ∙ ap some is) (same_worded passes p u.number new s.words r.written) (same_sound p u.number new r.sound) r.few
    tt (placed_to p new id u fit) (λ j x other f. seat_else p u.number new j x (λ e. other (sym e ∙ fit.mine)) f))

-- the place that joined last may go to a new seat
pub parts : (passes id : ℕ) (v : View) (q : PrunerView) (g : PlaceView) (gs : List PlaceView) → v ≡ Prunes q → q.joined ≡ g ∷ gs → Splits (IsBoard passes) id v (parted_view v) (last_joined v)
parts passes id v q g gs is has s r at =
    let fit = pruner_at passes s r id v q is at in let p = r.account in let new : ℕ = length s.views in let w : PrunerView = record q { joined = gs } in let fits_joined : JoinedFit p id (g ∷ gs) = subst (JoinedFit p id) has fit.joined in
    let views : List PlaceView → List View = λ xs. set s.views id (Prunes (record q { joined = drop 1 xs })) ++ first_joined xs ∷ [] in
    subst (λ (z : View). IsBoard passes record { words = s.words; homes = s.homes; views = set s.views id (parted_view z) ++ last_joined z ∷ [] }) (sym is)
    (subst (λ (xs : List PlaceView). IsBoard passes record { words = s.words; homes = s.homes; views = views xs }) (sym has)
    (cut_in_two passes s r (reseated p g.number new) id (Prunes q) (Prunes w) (Pins g) (at ∙ ap some is) (same_worded passes p g.number new s.words r.written) (same_sound p g.number new r.sound) r.few
    record { alone = fit.alone; count_is = fit.count_is; gate_is = fit.gate_is; cut_is = fit.cut_is; low_is = fit.low_is; scanned_is = fit.scanned_is; pairs = fit.pairs; joined = joined_absent p g.number new id gs fits_joined.1 fits_joined.2 }
    (placed_to p new id g fits_joined.0) (λ j x other f. seat_else p g.number new j x (λ e. other (sym e ∙ fits_joined.0.mine)) f)))

-- a number of another seat is not that of a joined place
absent_of : (p : Account) (n id : ℕ) (gs : List PlaceView) → p.seat n ≢ id → JoinedFit p id gs → IsAbsent n gs
absent_of p n id [] other r = tt
absent_of p n id (g ∷ gs) other r = ((λ e. other (ap p.seat (sym e) ∙ r.0.mine)), absent_of p n id gs other r.2)

-- the seat id takes in the view of the seat other, with what was loaded in a scan
abbrev taking_in : PrunerView → PlaceView → List ℕ → View
taking_in q u loaded = Prunes (record q { loaded = loaded; joined = u ∷ q.joined })

-- the pruner takes in a place, with a low that is at most what is confirmed among the words loaded
taken_in : (passes : ℕ) (s : BoardState) (r : IsBoard passes s) (id other : ℕ) (q : PrunerView) (u : PlaceView) (loaded : List ℕ) → get_elem? s.views id ≡ some (Prunes q) → least q.gate loaded ≤ r.account.gate
    → ((k : ℕ) → k < length loaded → Below (least q.gate loaded) (r.account.hold k)) → other ≢ id → get_elem? (set s.views id (taking_in q u loaded)) other ≡ some (Pins u)
    → IsBoard passes record { words = s.words; homes = s.homes; views = set (set s.views id (taking_in q u loaded)) other Spent }
taken_in passes s r id other q u loaded at low_gate low_pins apart there =
    let w : View = taking_in q u loaded in let p = r.account in let n : ℕ = u.number in let low : ℕ = least q.gate loaded in let scanned : ℕ = length loaded in
    let fit = pruner_at passes s r id (Prunes q) q refl at in
    let was : get_elem? s.views other ≡ some (Pins u) = ⊎_elim (λ (t : (other ≡ id) × (w ≡ Pins u)). absurd (apart t.0)) (λ (t : (other ≢ id) × (get_elem? s.views other ≡ some (Pins u))). t.1) (at_set s.views id other w (Pins u) there) in
    let place = place_at passes s r other (Pins u) u refl was in let not_mine : p.seat n ≢ id = λ e. apart (sym place.mine ∙ e) in
    let p' : Account = paced (reseated p n id) p.gate p.cut low scanned in record {
      account = p';
      written = record { wide = r.written.wide; gate_is = r.written.gate_is; cut_is = r.written.cut_is; count_is = r.written.count_is; pins_are = r.written.pins_are };
      sound = record { cut_gate = r.sound.cut_gate; cut_pins = r.sound.cut_pins; low_gate = low_gate; low_pins = low_pins; unnumbered = r.sound.unnumbered; no_versions = r.sound.no_versions; listed = r.sound.listed };
      few = r.few;
      each = λ j x e. ⊎_elim (λ (t : (j ≡ other) × (Spent ≡ x)). subst (ViewFits p' j) t.1 tt)
          (λ (t : (j ≢ other) × (get_elem? (set s.views id w) j ≡ some x)). ⊎_elim
          (λ (t' : (j ≡ id) × (w ≡ x)). subst (λ (y : ℕ × View). ViewFits p' y.0 y.1) (λ i. (sym t'.0 i, t'.1 i)) record {
            alone = fit.alone;
            gate_is = fit.gate_is;
            cut_is = fit.cut_is;
            count_is = fit.count_is;
            low_is = refl;
            scanned_is = refl;
            pairs = fit.pairs;
            joined = (
              placed_paced (reseated p n id) p.gate p.cut low scanned id u (le_refl p.gate) (placed_to p id other u place),
              absent_of p n id q.joined not_mine fit.joined,
              joined_paced (reseated p n id) p.gate p.cut low scanned id q.joined (le_refl p.gate) (joined_absent p n id id q.joined (absent_of p n id q.joined not_mine fit.joined) fit.joined),
            );
          })
          (λ (t' : (j ≢ id) × (get_elem? s.views j ≡ some x)). paced_else (reseated p n id) p.gate p.cut low scanned j x (le_refl p.gate) (λ e. t'.0 (e ∙ sym fit.alone)) (seat_else p n id j x (λ e. t.0 (sym e ∙ place.mine)) (r.each j x t'.1)))
          (at_set s.views id j w x t.1))
          (at_set (set s.views id w) other j Spent x e);
    }

-- a place may join for a scan
pub joins_for_scan : (passes id other : ℕ) (v w : View) (q : PrunerView) (u : PlaceView) → v ≡ Prunes q → w ≡ Pins u → Joins (IsBoard passes) id v other w (joined_for_scan v w) Spent
joins_for_scan passes id other v w q u is is' s r at apart there = let fit = pruner_at passes s r id v q is at in let gate = fit.gate_is in
    subst (λ (z : View × View). get_elem? (set s.views id (joined_for_scan z.0 z.1)) other ≡ some z.1 → IsBoard passes record { words = s.words; homes = s.homes; views = set (set s.views id (joined_for_scan z.0 z.1)) other Spent })
    (λ i. (sym is i, sym is' i)) (λ e. taken_in passes s r id other q u [] (at ∙ ap some is) (omega arith) (λ k l. absurd (omega arith)) apart e) there

-- a place may join for good
pub joins_for_good : (passes id other : ℕ) (v w : View) (q : PrunerView) (u : PlaceView) → v ≡ Prunes q → w ≡ Pins u → Joins (IsBoard passes) id v other w (joined_for_good v w) Spent
joins_for_good passes id other v w q u is is' s r at apart there = let fit = pruner_at passes s r id v q is at in let low = fit.low_is in let low_gate = r.sound.low_gate in
    subst (λ (z : View × View). get_elem? (set s.views id (joined_for_good z.0 z.1)) other ≡ some z.1 → IsBoard passes record { words = s.words; homes = s.homes; views = set (set s.views id (joined_for_good z.0 z.1)) other Spent })
    (λ i. (sym is i, sym is' i))
    (λ e. taken_in passes s r id other q u q.loaded (at ∙ ap some is) (omega arith) (λ k l. subst (λ (z : ℕ). Below z (r.account.hold k)) (sym low) (r.sound.low_pins k (subst (λ (z : ℕ). k < z) fit.scanned_is l))) apart e) there

-- joined places announced all that was loaded at their numbers
joined_announced : (p : Account) (id : ℕ) (pairs : List (ℕ × ℕ)) (gs : List PlaceView) → ((t : ℕ × ℕ) → Has pairs t → Has (p.versions t.0) t.1) → JoinedFit p id gs → JoinedAnnounced pairs gs
joined_announced p id pairs [] knows r = tt
joined_announced p id pairs (g ∷ gs) knows r = ((λ version has. subst (λ (xs : List ℕ). Has xs version) (sym r.0.announced) (knows (g.number, version) has)), joined_announced p id pairs gs knows r.2)

-- each number at which a pin was loaded was given to a place
numbers_given : (p : Account) (id : ℕ) (q : PrunerView) → IsSoundAccount p → PrunerFits p id q → NumbersAreGiven q
numbers_given p id q sound fit t has = subst (λ (k : ℕ). t.0 < k) (sym fit.count_is) (number_given p t.0 t.1 sound (fit.pairs t has))

-- a load tells the pruner what joined places announced, and that the cut is at most what they have confirmed
pub learns : (passes slots id : ℕ) (me : BoardSeat) (q : PrunerView) → me.0 ≡ Prunes q → Allows (IsBoard passes) slots id me 0 (λ x. x) (LearnsOfJoined (step slots 0 0 0 none) me)
learns passes slots id me q is s r _ at _ = let fit = pruner_at passes s r id me.0 q is at in let p = r.account in (
  me.0,
  keeps,
  tt,
  unmoved passes s r p 0 id me.0 me.0 at r.written r.sound r.few (r.each id me.0 at) (λ j u other f. f),
  λ q' is'. let same : Prunes q ≡ Prunes q' = sym is ∙ is' in let qq : q ≡ q' = cc in subst (λ (z : PrunerView). (me ≡ me) × JoinedAnnounced z.pairs z.joined × NumbersAreGiven z × BelowJoined z.cut z.joined) qq
      (refl, joined_announced p id q.pairs q.joined fit.pairs fit.joined, numbers_given p id q r.sound fit, below_joined p id q.cut q.joined (λ k. subst (λ (z : ℕ). Below z (p.hold k)) (sym fit.cut_is) (r.sound.cut_pins k)) fit.joined),
)

-- a list that isn't empty has a first element
head_of : (gs : List PlaceView) → 0 < length gs → (g : PlaceView) × (rest : List PlaceView) × (gs ≡ g ∷ rest)
head_of [] l = absurd (omega arith)
head_of (g ∷ gs) l = (g, gs, refl)

-- a pruner with a joined place may part from it
pub parts_some : (passes id : ℕ) (v : View) (q : PrunerView) → v ≡ Prunes q → 0 < length q.joined → Splits (IsBoard passes) id v (parted_view v) (last_joined v)
parts_some passes id v q is some_joined = let t = head_of q.joined some_joined in parts passes id v q t.0 t.1 is t.2
