-- What follows from a pair's contract for its callers.
use Rattle.std.specs.Prelude.{◌≡◌, List, Ok, ◌<◌, length, true}
use Rattle.std.proofs.Common.{refl, ap, ◌∙◌, ap₂}
use Rattle.jf_disk.specs.Disk.{History, bytes_of, content_on, reads, DiskState, Files, IsImage, durable}
use Rattle.jf_disk.specs.declared.side.Side.{Side}
use Rattle.jf_disk.specs.Crashes.{opposite, LeavesNow}
use Rattle.jf_disk.specs.declared.side.Side.TheVariants as side
use Rattle.jf_disk.proofs.CrashLaws.{image_quiet}
use Rattle.jf_frame.specs.Framed.{LogRecord}
use Rattle.jf_frame.specs.Framing.{records}
use Rattle.jf_pair.specs.Files.{HoldsLive, IsOlder, live_side}
use Rattle.jf_pair.specs.Pairs.{Pair, IsInStep}
use Rattle.jf_pair.proofs.FileLaws.{holds_of, same_ok, live_side_of}

pub bytes_of-reads : (w : Side) (h : History) → bytes_of w (reads h) ≡ (content_on w h.now).bytes
bytes_of-reads side.A h = refl
bytes_of-reads side.B h = refl

-- a crash leaves the records of a synced side
pub held_quiet : (w : Side) (s : DiskState) (f : Files) (rs : List LogRecord) → content_on w s ≡ durable (content_on w s).bytes → records (content_on w s).bytes ≡ Ok rs → IsImage s f → records (bytes_of w f) ≡ Ok rs
held_quiet w s f rs quiet held image = ap records (image_quiet w s f quiet image) ∙ held

-- a disk in step with a pair holds the pair's live records
pub in_step_holds : (p : Pair) (rs : List LogRecord) (h : History) → IsInStep p rs h.now → HoldsLive (reads h) rs
in_step_holds p rs h k =
    holds_of p.side (reads h) rs k.others (ap records (bytes_of-reads p.side h) ∙ k.held) (ap records (bytes_of-reads (opposite p.side) h) ∙ k.held_across) k.begun k.begun_across k.older

-- a crash leaves the pair's live records
pub in_step_leaves : (p : Pair) (rs : List LogRecord) (h : History) → IsInStep p rs h.now → LeavesNow h (λ f. HoldsLive f rs)
in_step_leaves p rs h k = λ f image.
    holds_of p.side f rs k.others (held_quiet p.side h.now f rs k.quiet k.held image) (held_quiet (opposite p.side) h.now f k.others k.quiet_across k.held_across image) k.begun k.begun_across k.older

-- a disk is in step with a pair for one list of live records
pub in_step_one : (p : Pair) (rs rs' : List LogRecord) (s : DiskState) → IsInStep p rs s → IsInStep p rs' s → rs ≡ rs'
in_step_one p rs rs' s k k' = same_ok rs rs' (records (content_on p.side s).bytes) k.held k'.held

-- the side of a pair in step, if it is live, is the live side of the files
pub in_step_side : (p : Pair) (rs : List LogRecord) (h : History) (left right : List LogRecord) → IsInStep p rs h.now → p.is_live ≡ true → records (reads h).a ≡ Ok left → records (reads h).b ≡ Ok right → live_side left right ≡ p.side
in_step_side p rs h left right k live a b = of_side p.side rs k.others left right (ap records (bytes_of-reads p.side h) ∙ k.held) (ap records (bytes_of-reads (opposite p.side) h) ∙ k.held_across) k.older (k.live.0 live) a b
  where
    of_side : (w : Side) (rs others left right : List LogRecord) → records (bytes_of w (reads h)) ≡ Ok rs → records (bytes_of (opposite w) (reads h)) ≡ Ok others → IsOlder others rs → 0 < length rs → records (reads h).a ≡ Ok left → records (reads h).b ≡ Ok right → live_side left right ≡ w
    of_side side.A rs others left right l o older some a b = ap₂ live_side (same_ok left rs _ a l) (same_ok right others _ b o) ∙ live_side_of side.A rs others older some
    of_side side.B rs others left right l o older some a b = ap₂ live_side (same_ok left others _ a o) (same_ok right rs _ b l) ∙ live_side_of side.B rs others older some
