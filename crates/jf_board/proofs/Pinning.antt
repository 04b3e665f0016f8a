-- What a place knows after it announced, confirmed or withdrew.
use lib.Seq.{set-get_or}
use Rattle.std.proofs.Common.{◌≡◌, ℕ, ◌<◌, ◌≤◌, cond, List, length, get_or, set, ap, ◌∙◌, arith, le-leb, get_or-set_same, sym, Option, Some, None, ◌≢◌, refl, subst, ◌+◌, [], ◌∷◌, ◌++◌}
use Rattle.std.proofs.lemmas.List.{set-set}
use Rattle.jf_path.specs.Limits.{max_pins}
use Rattle.atomic_table.specs.Seated.{TableId}
use Rattle.jf_board.specs.declared.views.Hold.{Hold}
use Rattle.jf_board.specs.declared.views.Hold.TheVariants.{Free, Announced, Confirmed}
use Rattle.jf_board.specs.declared.views.PlaceView.{PlaceView}
use Rattle.jf_board.specs.States.{pinned_at, refused_at, Agrees, IsLeastFree, AreNewPlaces, PlaceState}
use Rattle.jf_board.specs.Steps.{confirmed_from, with_announcement, with_confirmation, with_hold, newly_numbered}
use Rattle.jf_board.specs.Refusals.{RefusedPin}
use Rattle.jf_board.specs.declared.pin_refused.PinRefused.TheVariants.{Retired}

-- a version announced is confirmed if the gate is at most it
pub confirmed_view : (v : PlaceView) (i version gate : ℕ) → i < max_pins → length v.holds ≡ max_pins → gate ≤ version → with_confirmation (with_announcement v i version) gate ≡ pinned_at v i version gate
confirmed_view v i version gate small eight le = let A : Hold = Announced version in
    let was : get_or (set v.holds i A) i Free ≡ A = get_or-set_same v.holds i A Free (omega arith) in
    let now : confirmed_from gate (get_or (set v.holds i A) i Free) ≡ Confirmed version = ap (confirmed_from gate) was ∙ ap (λ b. cond b (Confirmed version) A) (le-leb gate version le) in
    let same : set (set v.holds i A) i (confirmed_from gate (get_or (set v.holds i A) i Free)) ≡ set v.holds i (Confirmed version) = ap (set (set v.holds i A) i) now ∙ set-set v.holds i A (Confirmed version) in
    ap (λ (hs : List Hold). record (pinned_at v i version gate) { holds = hs }) same

-- a version announced, not confirmed and withdrawn leaves all holds unchanged
pub refused_view : (v : PlaceView) (i version gate : ℕ) → get_or v.holds i Free ≡ Free → with_hold (with_confirmation (with_announcement v i version) gate) i Free ≡ refused_at v i version gate
refused_view v i version gate free = let A : Hold = Announced version in let h : Hold = confirmed_from gate (get_or (set v.holds i A) i Free) in
    let same : set (set (set v.holds i A) i h) i Free ≡ v.holds = set-set (set v.holds i A) i h Free ∙ (set-set v.holds i A Free ∙ (ap (set v.holds i) (sym free) ∙ set-get_or v.holds i Free)) in
    ap (λ (hs : List Hold). record (refused_at v i version gate) { holds = hs }) same

-- a place of which memory keeps nothing is free
free_of : (p : Option ℕ) (h : Hold) → Agrees p h → p ≡ None → h ≡ Free
free_of None h a e = a
free_of (Some v) h a e = cc

-- a place of which memory keeps a version is not free
held_of : (p : Option ℕ) (h : Hold) → Agrees p h → p ≢ None → h ≢ Free
held_of None h a n = absurd (n refl)
held_of (Some v) h a n = λ e. cc

-- the first place of which memory keeps nothing is the least free one
pub least_free : (pins : List (Option ℕ)) (v : PlaceView) (i : ℕ) → ((k : ℕ) → k < max_pins → Agrees (get_or pins k None) (get_or v.holds k Free)) → i < max_pins → get_or pins i None ≡ None → ((k : ℕ) → k < i → get_or pins k None ≢ None) → IsLeastFree v i
least_free pins v i agree small free before = ((small, free_of (get_or pins i None) (get_or v.holds i Free) (agree i small) free), λ k l. held_of (get_or pins k None) (get_or v.holds k Free) (agree k (omega arith)) (before k l))

-- from the view before, w, to the view x after the version was announced and the gate loaded
pub pin_ok : (w v x y : PlaceView) (i version gate : ℕ) → v ≡ w → IsLeastFree v i → length v.holds ≡ max_pins → gate ≤ version → y ≡ with_announcement v i version → x ≡ with_confirmation y gate
    → IsLeastFree w i × (x.gate ≤ version) × (x ≡ pinned_at w i version x.gate)
pin_ok w v x y i version gate same free eight le e e' = let k : x ≡ pinned_at v i version gate = e' ∙ (ap (λ z. with_confirmation z gate) e ∙ confirmed_view v i version gate free.0.0 eight le) in let g : x.gate ≡ gate = ap (λ (z : PlaceView). z.gate) k in
    (subst (λ z. IsLeastFree z i) same free, omega arith, k ∙ (λ j. pinned_at (same j) i version (sym g j)))

-- the views between a place and one whose version was refused
pub pin_refused : (w v x y z : PlaceView) (i version gate : ℕ) → v ≡ w → IsLeastFree v i → version < gate → y ≡ with_announcement v i version → x ≡ with_confirmation y gate → z ≡ with_hold x i Free → RefusedPin w version z (Retired gate)
pin_refused w v x y z i version gate same free over e e' e'' = (
  over,
  (
    i,
    subst (λ u. IsLeastFree u i) same free,
    e'' ∙ (ap (λ u. with_hold u i Free) (e' ∙ ap (λ u. with_confirmation u gate) e) ∙ (refused_view v i version gate free.0.1 ∙ ap (λ u. refused_at u i version gate) same)),
  ),
)

-- a list of new places is longer by the next new place
pub new_longer : (board : TableId) (ps : List PlaceState) (p : PlaceState) (n : ℕ) → AreNewPlaces board ps n → p.board ≡ board → p.known ≡ newly_numbered (n + length ps) → AreNewPlaces board (ps ++ p ∷ []) n
new_longer board [] p n new here known = (here, known ∙ ap newly_numbered (omega arith), tt)
new_longer board (q ∷ ps) p n new here known = (new.0, new.1, new_longer board ps p (n + 1) new.2 here (known ∙ ap newly_numbered (omega arith)))
