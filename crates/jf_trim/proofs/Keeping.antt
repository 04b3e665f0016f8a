-- What stays of a store whose side that isn't live is cut.
use Rattle.std.proofs.Common.{◌≡◌, ◌⊎◌, ℕ, ◌+◌, List, [], Ok, inl, inr, length, refl, sym, ap, ap₂, ◌∙◌, subst}
use Rattle.jf_model.specs.Versions.{Versions}
use Rattle.jf_disk.specs.Disk.{Content, DiskState, Files, History, IsImage, bytes_of, content_on, durable, reads}
use Rattle.jf_disk.specs.Crashes.{GoesOn, Idles, LeavesFiles, LeavesNow, LeavesOnly, opposite}
use Rattle.jf_disk.specs.declared.side.Side.{Side}
use Rattle.jf_disk.specs.declared.side.Side.TheVariants as side
use Rattle.jf_disk.proofs.CrashLaws.{by_both, by_weaker, goes_further, goes_now, goes_weaker, image_quiet, leaves_further, leaves_idle, opposite_opposite, other_now}
use Rattle.jf_frame.specs.Framed.{LogRecord}
use Rattle.jf_frame.specs.Framing.{records}
use Rattle.jf_frame.specs.Logs.{SameOrNone, StopsInBegin}
use Rattle.jf_pair.specs.Files.{HoldsLive}
use Rattle.jf_pair.specs.Pairs.{Pair, IsInStep}
use Rattle.jf_pair.proofs.Appended.{held_still}
use Rattle.jf_pair.proofs.FileLaws.{holds_of, holds_one}
use Rattle.jf_pair.proofs.Opened.{synced_same}
use Rattle.jf_pair.proofs.PairLaws.{in_step_holds, in_step_leaves, bytes_of-reads}
use Rattle.jf_files.specs.Files.{LeadTo, StandsFor, generation}
use Rattle.jf_files.specs.Steps.{Opens, StopsWell}
use Rattle.jf_files.proofs.Judging.{generation_live}
use Rattle.jf_trim.specs.Trims.{HasTrimmed, IsSpareIn, KeepsStore, spare_side, trimmed_side}
use Rattle.jf_trim.specs.declared.trimmed.Trimmed.{Trimmed}

-- files whose bytes are the same on both sides
files_same : (w : Side) (f g : Files) → bytes_of w f ≡ bytes_of w g → bytes_of (opposite w) f ≡ bytes_of (opposite w) g → f ≡ g
files_same side.A f g a b = ap₂ (λ a b. let x : Files = record { a = a; b = b } in x) a b
files_same side.B f g b a = ap₂ (λ a b. let x : Files = record { a = a; b = b } in x) a b

-- ---- the live records
holds_still : (p : Pair) (rs : List LogRecord) (s : DiskState) (f : Files) → IsInStep p rs s → records (bytes_of p.side f) ≡ Ok rs → SameOrNone (opposite p.side) (content_on (opposite p.side) s).bytes f → HoldsLive f rs
holds_still p rs s f k live (inl same) = holds_of p.side f rs k.others live (same ∙ k.held_across) k.begun k.begun_across k.older
holds_still p rs s f k live (inr none) = holds_of p.side f rs [] live none k.begun refl (inl refl)

-- a crash while the side that isn't live is initialised leaves the live records
begin_leaves : (p : Pair) (rs : List LogRecord) (h g : History) → IsInStep p rs h.now → StopsInBegin (opposite p.side) h g → GoesOn h g (λ f. HoldsLive f rs)
begin_leaves p rs h g k stops =
    let P : Files → Type 0 = SameOrNone (opposite p.side) (content_on (opposite p.side) h.now).bytes in
    by_weaker (λ s. LeavesOnly P s × (content_on (opposite (opposite p.side)) s ≡ content_on (opposite (opposite p.side)) h.now)) (LeavesOnly (λ f. HoldsLive f rs)) h g
    (λ s x f image. holds_still p rs h.now f k (held_still p.side h.now s f rs (subst (λ w. content_on w s ≡ content_on w h.now) (opposite_opposite p.side) x.1) k.quiet k.held image) (x.0 f image))
    (by_both (LeavesOnly P) (λ s. content_on (opposite (opposite p.side)) s ≡ content_on (opposite (opposite p.side)) h.now) h g stops.images stops.other)

-- files that hold the live records of others represent what these represent
stands_same : (f g : Files) (rs : List LogRecord) (v : Versions) → HoldsLive f rs → HoldsLive g rs → StandsFor f v → StandsFor g v
stands_same f g rs v held held' s = record { live = rs; held = held'; leads = subst (λ xs. LeadTo xs v) (holds_one f s.live rs s.held held) s.leads }

-- ---- a store that is kept
-- the files are unchanged
pub kept_by_leaving : (h g : History) → LeavesFiles h g → KeepsStore h g
kept_by_leaving h g left = record {
  stands = λ v s. subst (λ f. StandsFor f v) (sym left.same) s;
  generation_is = ap generation left.same;
  live = ap (bytes_of (opposite (spare_side (reads h)))) left.same;
  images = λ v s. goes_weaker h g (λ f. IsImage h.now f) (λ f. IsImage h.now f ⊎ StandsFor f v) (λ f image. inl image) left.images;
}

-- the files were read, and the side that isn't live initialised, whether that succeeded or not
pub kept_by_cutting : (w : Side) (rs : List LogRecord) (h m g : History) → IsSpareIn w rs m.now → w ≡ spare_side (reads h) → LeavesFiles h m → StopsInBegin w m g → IsImage g.now (reads g) → KeepsStore h g
kept_by_cutting w rs h m g is spare left stops readable =
    let p = is.0 in
    let k = is.2 in
    let goes : GoesOn m g (λ f. HoldsLive f rs) = begin_leaves p rs m g k (subst (λ w. StopsInBegin w m g) is.1 stops) in
    let before : HoldsLive (reads h) rs = subst (λ f. HoldsLive f rs) left.same (in_step_holds p rs m k) in
    let after : HoldsLive (reads g) rs = goes_now m g (λ f. HoldsLive f rs) goes (in_step_leaves p rs m k) (reads g) readable in
    record {
      stands = λ v s. stands_same (reads h) (reads g) rs v before after s;
      generation_is = generation_live (reads g) rs after ∙ sym (generation_live (reads h) rs before);
      live = subst (λ w. bytes_of (opposite w) (reads g) ≡ bytes_of (opposite w) (reads h)) spare (across_kept w h m g left stops);
      images = λ v s.
          goes_further h m g (λ f. IsImage h.now f ⊎ StandsFor f v) (goes_weaker h m (λ f. IsImage h.now f) (λ f. IsImage h.now f ⊎ StandsFor f v) (λ f image. inl image) left.images)
          (goes_weaker m g (λ f. HoldsLive f rs) (λ f. IsImage h.now f ⊎ StandsFor f v) (λ f held. inr (stands_same (reads h) f rs v before held s)) goes);
    }
  where
    across_kept : (w : Side) (h m g : History) → LeavesFiles h m → StopsInBegin w m g → bytes_of (opposite w) (reads g) ≡ bytes_of (opposite w) (reads h)
    across_kept w h m g left stops =
        bytes_of-reads (opposite w) g ∙ ap (λ (c : Content). c.bytes) (other_now w m g stops.other) ∙ sym (bytes_of-reads (opposite w) m) ∙ ap (bytes_of (opposite w)) left.same

-- a store that is kept stops well
pub kept_stops_well : (old new : History) (v : Versions) → KeepsStore old new → StandsFor (reads old) v → LeavesNow old (λ f. StandsFor f v) → StopsWell Opens old new v × LeavesNow new (λ f. StandsFor f v)
kept_stops_well old new v k s calm =
    let goes : GoesOn old new (λ f. StandsFor f v) = goes_weaker old new (λ f. IsImage old.now f ⊎ StandsFor f v) (λ f. StandsFor f v) (λ f x. elim x [ inl image ↦ calm f image | inr stands ↦ stands ]) (k.images v s) in
    (goes_weaker old new (λ f. StandsFor f v) (λ f. StandsFor f v ⊎ StandsFor f v) (λ f stands. inl stands) goes, goes_now old new (λ f. StandsFor f v) goes calm)

-- ---- a side that was trimmed
-- after it both sides are synced
leaves_read : (w : Side) (rs : List LogRecord) (m g : History) (bytes : List ℕ) → IsSpareIn w rs m.now → StopsInBegin w m g → content_on w g.now ≡ durable bytes → LeavesNow g (λ f. f ≡ reads g)
leaves_read w rs m g bytes is stops cut f image =
    let p = is.0 in
    let still : content_on (opposite w) g.now ≡ content_on (opposite w) m.now = other_now w m g stops.other in
    let there : p.side ≡ opposite w = sym (opposite_opposite p.side) ∙ ap opposite (sym is.1) in
    let quiet : content_on (opposite w) m.now ≡ durable (content_on (opposite w) m.now).bytes = subst (λ w. content_on w m.now ≡ durable (content_on w m.now).bytes) there is.2.quiet in
    files_same w f (reads g) (image_quiet w g.now f (synced_same w g.now bytes cut) image ∙ sym (bytes_of-reads w g))
    (image_quiet (opposite w) g.now f (subst (λ c. c ≡ durable c.bytes) (sym still) quiet) image ∙ sym (bytes_of-reads (opposite w) g))

pub has_trimmed : (t : Trimmed) (rs : List LogRecord) (h m g : History)
    → IsSpareIn t.side rs m.now → HoldsLive (reads h) rs → t.side ≡ spare_side (reads h) → LeavesFiles h m → StopsInBegin t.side m g
    → content_on t.side g.now ≡ durable (trimmed_side (content_on t.side m.now).bytes) → t.bytes + length (trimmed_side (content_on t.side m.now).bytes) ≡ length (content_on t.side m.now).bytes
    → (t.bytes ≡ 0 → Idles m g) → HasTrimmed t h g
has_trimmed t rs h m g is held spare left stops cut given nothing =
    let w = t.side in
    let before : (content_on w m.now).bytes ≡ bytes_of w (reads h) = sym (bytes_of-reads w m) ∙ ap (bytes_of w) left.same in
    let after : bytes_of w (reads g) ≡ trimmed_side (bytes_of w (reads h)) = bytes_of-reads w g ∙ ap (λ (c : Content). c.bytes) cut ∙ ap trimmed_side before in
    record {
      sound = (rs, held);
      side = spare;
      cut = after;
      given = ap (λ b. t.bytes + length b) after ∙ subst (λ b. t.bytes + length (trimmed_side b) ≡ length b) before given;
      nothing = λ none. leaves_further h m g left (leaves_idle m g (nothing none));
      leaves = leaves_read w rs m g (trimmed_side (content_on w m.now).bytes) is stops cut;
    }
