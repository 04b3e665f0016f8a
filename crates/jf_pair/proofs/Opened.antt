-- Two files that were synced and read make a pair in step with the disk.
use Rattle.std.proofs.Common.{◌≡◌, ◌≢◌, ℕ, ◌<◌, List, [], ◌∷◌, length, sym, ap, ◌∙◌, subst, arith, Ok, get_or, ◌↔◌, true, false, ap₂, Some, Err}
use Rattle.jf_disk.specs.Disk.{DiskState, content_on, durable, Content, History, reads}
use Rattle.jf_disk.specs.declared.side.Side.{Side}
use Rattle.jf_disk.specs.Crashes.{opposite}
use Rattle.jf_disk.specs.declared.side.Side.TheVariants as side
use Rattle.jf_frame.specs.Framed.{LogRecord}
use Rattle.jf_frame.specs.Framing.{records, end_of}
use Rattle.jf_frame.specs.Logs.{Log, IsReading, IsReady}
use Rattle.jf_frame.proofs.FramingLaws.{some_end}
use Rattle.jf_pair.specs.Files.{records_of, is_begun, are_level, live_side, IsOlder, damage_in, outer_damage}
use Rattle.jf_pair.specs.Pairs.{Pair, IsInStep}
use Rattle.jf_pair.proofs.FileLaws.{older_of}

-- a synced side with records is ready for the log that read it
read_ready : (w : Side) (s : DiskState) (log : Log) → IsReading log w (content_on w s).bytes → content_on w s ≡ durable (content_on w s).bytes → 0 < length log.records → IsReady w log.offset log.records s
read_ready w s log read quiet some =
    let ends = ends_closed (content_on w s).bytes log.records read.held some in
    record {
      quiet = quiet;
      held = read.held;
      ends = read.ends;
      there = subst (λ n. n < length (content_on w s).bytes) (sym read.ends) ends.0;
      closed = λ one. ends.1 (ap (λ n. get_or (content_on w s).bytes n 0) (sym read.ends) ∙ one);
    }
  where
    ends_closed : (bytes : List ℕ) (rs : List LogRecord) → records bytes ≡ Ok rs → 0 < length rs → (end_of rs < length bytes) × (get_or bytes (end_of rs) 0 ≢ 1)
    ends_closed bytes [] held some = absurd (omega arith)
    ends_closed bytes (r ∷ rs) held some = some_end bytes r rs held

-- what holds of both sides' records holds of each
of_both : (P : List LogRecord → Type 0) (w : Side) (left right : List LogRecord) → P left → P right → P (records_of w left right)
of_both P side.A left right l r = l
of_both P side.B left right l r = r

opened_here : (p : Pair) (live other : Log) (left right : List LogRecord) (s : DiskState)
    → p.side ≡ live_side left right → live.records ≡ records_of p.side left right → other.records ≡ records_of (opposite p.side) left right
    → is_begun left ≡ true → is_begun right ≡ true → are_level left right ≡ false
    → IsReading live p.side (content_on p.side s).bytes → IsReading other (opposite p.side) (content_on (opposite p.side) s).bytes
    → content_on p.side s ≡ durable (content_on p.side s).bytes → content_on (opposite p.side) s ≡ durable (content_on (opposite p.side) s).bytes
    → p.offset ≡ live.offset → ((p.is_live ≡ true) ↔ (0 < length live.records)) → IsInStep p live.records s
opened_here p live other left right s is l o left_begun right_begun apart read read_other quiet quiet_other at some = record {
  others = other.records;
  quiet = quiet;
  quiet_across = quiet_other;
  held = read.held;
  held_across = read_other.held;
  begun = ap is_begun l ∙ of_both (λ rs. is_begun rs ≡ true) p.side left right left_begun right_begun;
  begun_across = ap is_begun o ∙ of_both (λ rs. is_begun rs ≡ true) (opposite p.side) left right left_begun right_begun;
  older = subst (λ rs. IsOlder other.records rs) (sym l) (subst (λ rs. IsOlder rs (records_of p.side left right)) (sym o) (subst (λ w. IsOlder (records_of (opposite w) left right) (records_of w left right)) (sym is) (older_of left right apart)));
  live = some;
  ready = λ yes. subst (λ n. IsReady p.side n live.records s) (sym at) (read_ready p.side s live read quiet (some.0 yes));
}

-- the disk is in step with the pair that an opening makes
pub opened_in_step : (w : Side) (p : Pair) (live other : Log) (left right : List LogRecord) (s : DiskState)
    → p.side ≡ w → w ≡ live_side left right → live.records ≡ records_of w left right → other.records ≡ records_of (opposite w) left right
    → is_begun left ≡ true → is_begun right ≡ true → are_level left right ≡ false
    → IsReading live w (content_on w s).bytes → IsReading other (opposite w) (content_on (opposite w) s).bytes
    → content_on w s ≡ durable (content_on w s).bytes → content_on (opposite w) s ≡ durable (content_on (opposite w) s).bytes
    → p.offset ≡ live.offset → ((p.is_live ≡ true) ↔ (0 < length live.records)) → IsInStep p live.records s
opened_in_step w p live other left right s same is l o left_begun right_begun apart read read_other quiet quiet_other at some =
    subst (λ p. IsInStep p live.records s) (ap (λ w. let q : Pair = record { side = w; is_live = p.is_live; offset = p.offset; failed = p.failed } in q) (sym same))
    (opened_here (record { side = w; is_live = p.is_live; offset = p.offset; failed = p.failed }) live other left right s is l o left_begun right_begun apart read read_other quiet quiet_other at some)

-- a log that read a side's bytes has read those of the synced side
pub read_same : (log : Log) (w : Side) (s : DiskState) (bytes : List ℕ) → content_on w s ≡ durable bytes → IsReading log w bytes → IsReading log w (content_on w s).bytes
read_same log w s bytes e read = subst (IsReading log w) (sym (ap (λ (c : Content). c.bytes) e)) read

pub synced_same : (w : Side) (s : DiskState) (bytes : List ℕ) → content_on w s ≡ durable bytes → content_on w s ≡ durable (content_on w s).bytes
synced_same w s bytes e = e ∙ ap (λ (c : Content). durable c.bytes) (sym e)

-- damage on side B, if side A holds records
pub damaged_b : (h : History) (left : List LogRecord) (w : Side) (at : ℕ) → records h.now.a.bytes ≡ Ok left → w ≡ side.B → records h.now.b.bytes ≡ Err at → outer_damage (reads h) ≡ Some (w, at)
damaged_b h left w at a is b = ap₂ damage_in a b ∙ ap (λ w. Some (w, at)) (sym is)
