-- What follows from a log's contract for its callers.
use Rattle.std.specs.Prelude.{◌≡◌, ℕ, List, Ok, ◌≢◌, ◌<◌, [], ◌∷◌, length, slice_index, true, false, ◌==◌, cond, take}
use Rattle.std.proofs.Common.{ap, ◌∙◌, sym, subst, refl, arith, eq-eqb, true≢false}
use Rattle.jf_disk.specs.Disk.{DiskState, Files, IsImage, content_on, bytes_of, durable, Content}
use Rattle.jf_disk.specs.declared.side.Side.{Side}
use Rattle.jf_disk.proofs.CrashLaws.{image_quiet}
use Rattle.jf_frame.specs.Framed.{LogRecord}
use Rattle.jf_frame.specs.Logs.{IsReady, Log, IsReading, with_closed}
use Rattle.jf_frame.specs.Framing.{records, end_of}
use Rattle.jf_frame.proofs.FramingLaws.{some_end, none_end, records_one_byte}

-- a crash leaves a ready side unchanged
pub image_ready : (w : Side) (at : ℕ) (rs : List LogRecord) (s : DiskState) (f : Files) → IsReady w at rs s → IsImage s f → bytes_of w f ≡ (content_on w s).bytes
image_ready w at rs s f ready i = image_quiet w s f ready.quiet i

-- a crash leaves the records of a ready side
pub records_ready : (w : Side) (at : ℕ) (rs : List LogRecord) (s : DiskState) (f : Files) → IsReady w at rs s → IsImage s f → records (bytes_of w f) ≡ Ok rs
records_ready w at rs s f ready i = ap records (image_ready w at rs s f ready i) ∙ ready.held

-- a side that was read is ready if it is synced, not empty, and not one open gate alone
pub ready_read : (w : Side) (s : DiskState) (log : Log) → IsReading log w (content_on w s).bytes → content_on w s ≡ durable (content_on w s).bytes → 0 < length (content_on w s).bytes → (content_on w s).bytes ≢ 1 ∷ [] → IsReady w log.offset log.records s
ready_read w s log reading quiet some more =
    let bytes = (content_on w s).bytes in
    let ends : (end_of log.records < length bytes) × (slice_index bytes (end_of log.records) ≢ 1) =
    elim log.records as (λ rs. records bytes ≡ Ok rs → (end_of rs < length bytes) × (slice_index bytes (end_of rs) ≢ 1)) [
      | [] ↦ λ held. none_end bytes held some more
      | r ∷ rs ↦ λ held. some_end bytes r rs held
    ] reading.held in
    record {
      quiet = quiet;
      held = reading.held;
      ends = reading.ends;
      there = subst (λ n. n < length bytes) (sym reading.ends) ends.0;
      closed = λ one. ends.1 (ap (slice_index bytes) (sym reading.ends) ∙ one);
    }

-- ---- a side that was initialised
-- the first gate of an initialised side is closed
pub closed_first : (bytes : List ℕ) → slice_index (with_closed bytes) 0 ≢ 1
closed_first [] = λ one. absurd (omega arith)
closed_first (gate ∷ rest) =
    elim (gate == 1) as (λ b. (gate == 1) ≡ b → cond b 0 gate ≢ 1) [
      | true ↦ λ is one. absurd (omega arith)
      | false ↦ λ isnt one. absurd (true≢false (sym (eq-eqb gate 1 one) ∙ isnt))
    ] refl

-- an initialised side is one byte long
pub length-begun : (bytes : List ℕ) → length (take 1 (with_closed bytes)) ≡ 1
length-begun [] = refl
length-begun (gate ∷ rest) = refl

-- an initialised side is ready for a first record
pub begun_ready : (w : Side) (s : DiskState) (bytes : List ℕ) → content_on w s ≡ durable (take 1 (with_closed bytes)) → IsReady w 0 [] s
begun_ready w s [] is = record {
  quiet = is ∙ ap (λ (c : Content). durable c.bytes) (sym is);
  held = ap (λ (c : Content). records c.bytes) is ∙ records_one_byte 0;
  ends = refl;
  there = omega (arith, ap (λ (c : Content). length c.bytes) is);
  closed = λ one. closed_first [] (ap (λ (c : Content). slice_index c.bytes 0) (sym is) ∙ one);
}
begun_ready w s (gate ∷ rest) is = record {
  quiet = is ∙ ap (λ (c : Content). durable c.bytes) (sym is);
  held = ap (λ (c : Content). records c.bytes) is ∙ records_one_byte (cond (gate == 1) 0 gate);
  ends = refl;
  there = omega (arith, ap (λ (c : Content). length c.bytes) is);
  closed = λ one. closed_first (gate ∷ rest) (ap (λ (c : Content). slice_index c.bytes 0) (sym is) ∙ one);
}
