-- A side is initialised, and one record is appended to it.
use Rattle.std.proofs.Common.{◌≡◌, ◌⊎◌, ℕ, List, [], ◌∷◌, Ok, inl, inr, ◌+◌, ◌++◌, length, append-nil, ap, ◌∙◌, arith}
use Rattle.std.proofs.lemmas.List.{drop_all}
use Rattle.jf_disk.specs.Disk.{Files, bytes_of, History, content_on, put_at}
use Rattle.jf_disk.specs.declared.side.Side.{Side}
use Rattle.jf_disk.specs.Crashes.{GoesOn, KeepsOther}
use Rattle.jf_disk.proofs.CrashLaws.{goes_weaker, goes_further, other_further}
use Rattle.jf_frame.specs.Framed.{LogRecord}
use Rattle.jf_frame.specs.Framing.{records}
use Rattle.jf_frame.specs.Logs.{SameOrNone, StopsInBegin, WithOrWithout, StopsInAppend}

-- the side holds the records of these bytes, no record, or the one new record
abbrev pub SameNoneOrOne : Side → List ℕ → LogRecord → Files → Type 0
SameNoneOrOne w bytes r f = SameOrNone w bytes f ⊎ (records (bytes_of w f) ≡ Ok (r ∷ []))

pub begin_stops : (w : Side) (h g : History) (r : LogRecord) → StopsInBegin w h g → GoesOn h g (SameNoneOrOne w (content_on w h.now).bytes r) × KeepsOther w h g
begin_stops w h g r a = (goes_weaker h g (SameOrNone w (content_on w h.now).bytes) (SameNoneOrOne w (content_on w h.now).bytes r) (λ f left. inl left) a.images, a.other)

append_left : (w : Side) (bytes : List ℕ) (r : LogRecord) (f : Files) → WithOrWithout w [] r f → SameNoneOrOne w bytes r f
append_left w bytes r f (inl none) = inl (inr none)
append_left w bytes r f (inr one) = inr one

pub first_stops : (w : Side) (h g k : History) (r : LogRecord) → StopsInBegin w h g → StopsInAppend w g k [] r → GoesOn h k (SameNoneOrOne w (content_on w h.now).bytes r) × KeepsOther w h k
first_stops w h g k r a b =
    let begun = begin_stops w h g r a in
    (goes_further h g k (SameNoneOrOne w (content_on w h.now).bytes r) begun.0 (goes_weaker g k (WithOrWithout w [] r) (SameNoneOrOne w (content_on w h.now).bytes r) (append_left w (content_on w h.now).bytes r) b.images), other_further w h g k a.other b.other)

-- the gate and the frame, written over the one byte of an initialised side
pub put_first : (frame b : List ℕ) → length b ≡ 1 → put_at 0 (1 ∷ frame) b ≡ 1 ∷ frame
put_first frame b one = ap (λ t. (1 ∷ frame) ++ t) (drop_all (0 + length (1 ∷ frame)) b (omega arith)) ∙ append-nil (1 ∷ frame)
