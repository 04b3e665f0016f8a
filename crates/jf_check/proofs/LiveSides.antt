-- The live side of two files, and the records on it.
use Rattle.std.proofs.Common.{◌≡◌, ◌<◌, List, [], ◌∷◌, length, ap, ap₂, sym, refl, subst, arith, Some, None, Ok, true}
use Rattle.std.proofs.lemmas.Option.{same_Some}
use Rattle.jf_disk.specs.Disk.{Files, bytes_of}
use Rattle.jf_disk.specs.declared.side.Side.{Side}
use Rattle.jf_disk.specs.declared.side.Side.TheVariants as side
use Rattle.jf_frame.specs.Framed.{LogRecord}
use Rattle.jf_frame.specs.Framing.{records}
use Rattle.jf_pair.specs.Files.{HoldsLive, live_side, live_records, records_of, is_begun}
use Rattle.jf_files.specs.Files.{records_of_side}
use Rattle.jf_check.specs.Stores.{live_among, live_found}

-- the live side of files that hold live records
pub live_of_held : (files : Files) (rs : List LogRecord) (h : HoldsLive files rs) → live_found files ≡ live_among h.a_records h.b_records
live_of_held files rs h = ap₂ (λ left right. live_among (records_of_side left) (records_of_side right)) h.a_held h.b_held

-- a side with live records is live
pub live_some : (left right : List LogRecord) (x : LogRecord) (xs : List LogRecord) → live_records left right ≡ x ∷ xs → live_among left right ≡ Some (live_side left right)
live_some [] [] x xs is = absurd (cc)
live_some [] (b ∷ right) x xs is = refl
live_some (a ∷ left) right x xs is = refl

-- one of two sides with records has a record
on_either : (w : Side) (a b : LogRecord) (left right : List LogRecord) → 0 < length (records_of w (a ∷ left) (b ∷ right))
on_either side.A a b left right = omega arith
on_either side.B a b left right = omega arith

-- without a live record no side is live
pub live_none : (left right : List LogRecord) → live_records left right ≡ [] → live_among left right ≡ None
live_none [] [] is = refl
live_none [] (b ∷ right) is = absurd (cc)
live_none (a ∷ left) [] is = absurd (cc)
live_none (a ∷ left) (b ∷ right) is = let some = on_either (live_side (a ∷ left) (b ∷ right)) a b left right in absurd (omega (arith, ap length is))

-- the live side is that of the live records, of which there is one
pub live_is : (left right : List LogRecord) (w : Side) → live_among left right ≡ Some w → (w ≡ live_side left right) × (0 < length (live_records left right))
live_is [] [] w is = absurd (cc)
live_is [] (b ∷ right) w is = (sym (same_Some (live_side [] (b ∷ right)) w is), omega arith)
live_is (a ∷ left) [] w is = (sym (same_Some (live_side (a ∷ left) []) w is), omega arith)
live_is (a ∷ left) (b ∷ right) w is = (sym (same_Some (live_side (a ∷ left) (b ∷ right)) w is), on_either (live_side (a ∷ left) (b ∷ right)) a b left right)

-- the records of a side of files that hold records on both
pub side_records : (files : Files) (rs : List LogRecord) (h : HoldsLive files rs) (w : Side) → records (bytes_of w files) ≡ Ok (records_of w h.a_records h.b_records)
side_records files rs h side.A = h.a_held
side_records files rs h side.B = h.b_held

-- live records are those of an initialised side
pub live_begun : (files : Files) (rs : List LogRecord) (h : HoldsLive files rs) → is_begun rs ≡ true
live_begun files rs h = subst (λ xs. is_begun xs ≡ true) h.live (on_side (live_side h.a_records h.b_records))
  where
    on_side : (w : Side) → is_begun (records_of w h.a_records h.b_records) ≡ true
    on_side side.A = h.a_begun
    on_side side.B = h.b_begun
