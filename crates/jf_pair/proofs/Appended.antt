-- One more record is appended to the live side.
use Rattle.std.proofs.Common.{◌≡◌, List, ap, ◌∙◌, subst, Ok, inl, inr, ◌<◌, [], ◌∷◌, ◌++◌, length, sym, ◌⊎◌, true, length-append, arith}
use Rattle.jf_disk.specs.Disk.{DiskState, Files, IsImage, MayLeave, content_on, bytes_of, durable, History}
use Rattle.jf_disk.specs.declared.side.Side.{Side}
use Rattle.jf_disk.specs.Crashes.{LeavesOnly, opposite}
use Rattle.jf_disk.proofs.CrashLaws.{image_side, image_durable, by_both, by_weaker, other_now}
use Rattle.jf_frame.specs.Framed.{LogRecord}
use Rattle.jf_frame.specs.Framing.{records}
use Rattle.jf_frame.specs.Logs.{WithOrWithout, StopsInAppend, IsReady}
use Rattle.jf_pair.specs.Files.{IsOlder, generation_of, HoldsLive}
use Rattle.jf_pair.specs.Pairs.{Pair, IsInStep, StopsBetween}
use Rattle.jf_pair.proofs.FileLaws.{generation_push, holds_of, begun_push}

-- a synced side that no call changes is left with its records
pub held_still : (w : Side) (old s : DiskState) (f : Files) (rs : List LogRecord) → content_on w s ≡ content_on w old → content_on w old ≡ durable (content_on w old).bytes → records (content_on w old).bytes ≡ Ok rs → IsImage s f → records (bytes_of w f) ≡ Ok rs
held_still w old s f rs same quiet held image =
    ap records (image_durable (content_on w old).bytes (bytes_of w f) (subst (λ c. MayLeave c (bytes_of w f)) (same ∙ quiet) (image_side w s f image))) ∙ held

older_push : (others rs : List LogRecord) (r : LogRecord) → 0 < length rs → IsOlder others rs → IsOlder others (rs ++ r ∷ [])
older_push others rs r some (inl none) = inl none
older_push others rs r some (inr lt) = inr (subst (λ n. generation_of others < n) (sym (generation_push rs r some)) lt)

pub append_stops : (p : Pair) (rs : List LogRecord) (h g : History) (r : LogRecord) → IsInStep p rs h.now → p.is_live ≡ true → StopsInAppend p.side h g rs r → StopsBetween h g rs (rs ++ r ∷ [])
append_stops p rs h g r k live stops =
    let some = k.live.0 live in
    by_weaker (λ s. LeavesOnly (WithOrWithout p.side rs r) s × (content_on (opposite p.side) s ≡ content_on (opposite p.side) h.now)) (LeavesOnly (λ f. HoldsLive f rs ⊎ HoldsLive f (rs ++ r ∷ []))) h g
    (λ s x f image.
    let still = held_still (opposite p.side) h.now s f k.others x.1 k.quiet_across k.held_across image in
    elim (x.0 f image) [
      | inl same ↦ inl (holds_of p.side f rs k.others same still k.begun k.begun_across k.older)
      | inr more ↦ inr (holds_of p.side f (rs ++ r ∷ []) k.others more still (begun_push rs r some ∙ k.begun) k.begun_across (older_push k.others rs r some k.older))
    ])
    (by_both (LeavesOnly (WithOrWithout p.side rs r)) (λ s. content_on (opposite p.side) s ≡ content_on (opposite p.side) h.now) h g stops.images stops.other)

pub append_in_step : (p p' : Pair) (rs : List LogRecord) (h g : History) (r : LogRecord) → IsInStep p rs h.now → p.is_live ≡ true → StopsInAppend p.side h g rs r → p'.side ≡ p.side → p'.is_live ≡ p.is_live → IsReady p.side p'.offset (rs ++ r ∷ []) g.now → IsInStep p' (rs ++ r ∷ []) g.now
append_in_step p p' rs h g r k live stops same_side same_live ready =
    let some = k.live.0 live in
    let q : Pair = record { side = p.side; is_live = p'.is_live; offset = p'.offset; failed = p'.failed } in
    let still : content_on (opposite p.side) g.now ≡ content_on (opposite p.side) h.now = other_now p.side h g stops.other in
    let is : q ≡ p' = ap (λ w. let q : Pair = record { side = w; is_live = p'.is_live; offset = p'.offset; failed = p'.failed } in q) (sym same_side) in
    let kept : IsInStep q (rs ++ r ∷ []) g.now = record {
      others = k.others;
      quiet = ready.quiet;
      quiet_across = subst (λ c. c ≡ durable c.bytes) (sym still) k.quiet_across;
      held = ready.held;
      held_across = subst (λ c. records c.bytes ≡ Ok k.others) (sym still) k.held_across;
      begun = begun_push rs r some ∙ k.begun;
      begun_across = k.begun_across;
      older = older_push k.others rs r some k.older;
      live = (λ _. omega (arith, length-append rs (r ∷ [])), λ _. same_live ∙ live);
      ready = λ _. ready;
    } in
    subst (λ p. IsInStep p (rs ++ r ∷ []) g.now) is kept
