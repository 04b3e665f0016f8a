-- A checkpoint is written to the other side, which is then live.
use Rattle.std.proofs.Common.{◌≡◌, List, [], ◌∷◌, true, inl, inr, Bool, ◌<◌, length, refl, arith, ℕ, ◌≤◌, ◌&&◌, ap₂, le-leb, ◌⊎◌, sym, ◌∙◌, subst, Ok, ap}
use Rattle.jf_disk.specs.Disk.{DiskState, Files, content_on, bytes_of, History, durable}
use Rattle.jf_disk.specs.Crashes.{opposite, GoesOn, LeavesOnly, KeepsOther}
use Rattle.jf_disk.specs.declared.side.Side.{Side}
use Rattle.jf_disk.proofs.CrashLaws.{opposite_opposite, by_both, by_weaker, other_now}
use Rattle.jf_frame.specs.Framed.{LogRecord}
use Rattle.jf_frame.specs.Framing.{number_of, records}
use Rattle.jf_frame.specs.Logs.{appended_record, IsReady}
use Rattle.jf_pair.specs.Files.{is_begun, IsOlder, generation_of, is_checkpoint, HoldsLive}
use Rattle.jf_pair.specs.Pairs.{Pair, IsInStep, StopsBetween}
use Rattle.jf_pair.proofs.FileLaws.{holds_of}
use Rattle.jf_pair.proofs.FirstRecord.{SameNoneOrOne}
use Rattle.jf_pair.proofs.Appended.{held_still}

-- a checkpoint of a greater generation than that of the records
pub record IsNewer (r : LogRecord) (rs : List LogRecord) : Type 0 where
  pub begun : is_begun (r ∷ []) ≡ true
  pub newer : IsOlder rs (r ∷ [])

older_if : (rs : List LogRecord) (live : Bool) (r : LogRecord) → (0 < length rs → live ≡ true) → (live ≡ true → generation_of rs < generation_of (r ∷ [])) → IsOlder rs (r ∷ [])
older_if [] live r some newer = inl refl
older_if (x ∷ rs) live r some newer = inr (newer (some (omega arith)))

pub is_newer : (kind : ℕ) (payload : List ℕ) (rs : List LogRecord) (p : Pair) (s : DiskState) → IsInStep p rs s → (is_checkpoint kind ≡ true) × (8 ≤ length payload) → (p.is_live ≡ true → generation_of rs < number_of payload) → IsNewer (appended_record 0 kind payload) rs
is_newer kind payload rs p s k is newer = record { begun = ap₂ (λ a b. a && b) is.0 (le-leb 8 (length payload) is.1); newer = older_if rs p.is_live (appended_record 0 kind payload) k.live.1 newer }

left_of : (p : Pair) (rs : List LogRecord) (s : DiskState) (f : Files) (r : LogRecord) → IsInStep p rs s → IsNewer r rs → records (bytes_of p.side f) ≡ Ok rs → SameNoneOrOne (opposite p.side) (content_on (opposite p.side) s).bytes r f → HoldsLive f rs ⊎ HoldsLive f (r ∷ [])
left_of p rs s f r k n live (inl (inl same)) = inl (holds_of p.side f rs k.others live (same ∙ k.held_across) k.begun k.begun_across k.older)
left_of p rs s f r k n live (inl (inr none)) = inl (holds_of p.side f rs [] live none k.begun refl (inl refl))
left_of p rs s f r k n live (inr one) = inr (holds_of (opposite p.side) f (r ∷ []) rs one (subst (λ w. records (bytes_of w f) ≡ Ok rs) (sym (opposite_opposite p.side)) live) n.begun k.begun n.newer)

across_back : (w : Side) (h s : DiskState) → content_on (opposite (opposite w)) s ≡ content_on (opposite (opposite w)) h → content_on w s ≡ content_on w h
across_back w h s e = subst (λ w. content_on w s ≡ content_on w h) (opposite_opposite w) e

pub switch_stops : (p : Pair) (rs : List LogRecord) (h g : History) (r : LogRecord) → IsInStep p rs h.now → IsNewer r rs → GoesOn h g (SameNoneOrOne (opposite p.side) (content_on (opposite p.side) h.now).bytes r) → KeepsOther (opposite p.side) h g → StopsBetween h g rs (r ∷ [])
switch_stops p rs h g r k n images other =
    by_weaker (λ s. LeavesOnly (SameNoneOrOne (opposite p.side) (content_on (opposite p.side) h.now).bytes r) s × (content_on (opposite (opposite p.side)) s ≡ content_on (opposite (opposite p.side)) h.now)) (LeavesOnly (λ f. HoldsLive f rs ⊎ HoldsLive f (r ∷ []))) h g
    (λ s x f image. left_of p rs h.now f r k n (held_still p.side h.now s f rs (across_back p.side h.now s x.1) k.quiet k.held image) (x.0 f image))
    (by_both (LeavesOnly (SameNoneOrOne (opposite p.side) (content_on (opposite p.side) h.now).bytes r)) (λ s. content_on (opposite (opposite p.side)) s ≡ content_on (opposite (opposite p.side)) h.now) h g images other)

pub switch_in_step : (p p' : Pair) (rs : List LogRecord) (h g : History) (r : LogRecord) → IsInStep p rs h.now → IsNewer r rs → KeepsOther (opposite p.side) h g → p'.side ≡ opposite p.side → p'.is_live ≡ true → IsReady (opposite p.side) p'.offset (r ∷ []) g.now → IsInStep p' (r ∷ []) g.now
switch_in_step p p' rs h g r k n other same_side is_live ready =
    let q : Pair = record { side = opposite p.side; is_live = p'.is_live; offset = p'.offset; failed = p'.failed } in
    let still : content_on (opposite (opposite p.side)) g.now ≡ content_on (opposite (opposite p.side)) h.now = other_now (opposite p.side) h g other in
    let quiet : content_on (opposite (opposite p.side)) h.now ≡ durable (content_on (opposite (opposite p.side)) h.now).bytes = subst (λ w. content_on w h.now ≡ durable (content_on w h.now).bytes) (sym (opposite_opposite p.side)) k.quiet in
    let held : records (content_on (opposite (opposite p.side)) h.now).bytes ≡ Ok rs = subst (λ w. records (content_on w h.now).bytes ≡ Ok rs) (sym (opposite_opposite p.side)) k.held in
    let is : q ≡ p' = ap (λ w. let q : Pair = record { side = w; is_live = p'.is_live; offset = p'.offset; failed = p'.failed } in q) (sym same_side) in
    let kept : IsInStep q (r ∷ []) g.now = record {
      others = rs;
      quiet = ready.quiet;
      quiet_across = subst (λ c. c ≡ durable c.bytes) (sym still) quiet;
      held = ready.held;
      held_across = subst (λ c. records c.bytes ≡ Ok rs) (sym still) held;
      begun = n.begun;
      begun_across = k.begun;
      older = n.newer;
      live = (λ _. omega arith, λ _. is_live);
      ready = λ _. ready;
    } in
    subst (λ p. IsInStep p (r ∷ []) g.now) is kept
