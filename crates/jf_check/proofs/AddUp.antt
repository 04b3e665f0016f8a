-- A file is its records, a closed gate, and the bytes behind it.
use Rattle.std.proofs.Common.{◌≡◌, ℕ, ◌+◌, ◌-◌, ◌<◌, List, [], ◌∷◌, length, sym, refl, arith, cond, Option, Some, Result, Ok, Err, Bool, true, false}
use Rattle.jf_frame.specs.Framed.{LogRecord}
use Rattle.jf_frame.specs.Framing.{records, end_of}
use Rattle.jf_frame.proofs.FramingLaws.{some_end}
use Rattle.jf_pair.specs.Files.{is_begun}
use Rattle.jf_check.specs.declared.numbers.SideNumbers.{SideNumbers}
use Rattle.jf_check.specs.declared.side_check.SideCheck.TheVariants as side_check
use Rattle.jf_check.specs.Sides.{log_check, side_shown}

-- records that take a byte end before the file does
ends_within : (bytes : List ℕ) (rs : List LogRecord) → records bytes ≡ Ok rs → 0 < end_of rs → end_of rs < length bytes
ends_within bytes [] held some = absurd (omega arith)
ends_within bytes (r ∷ rs) held some = (some_end bytes r rs held).0

parts_of : (b : Bool) (bytes : List ℕ) (rs : List LogRecord) (n : Option SideNumbers) (size : ℕ) (numbers : Option SideNumbers) (found behind : ℕ) → (0 < end_of rs → end_of rs < length bytes)
    → cond b (side_check.Whole (length bytes) n (end_of rs) (length bytes - (end_of rs + 1))) (side_check.Damaged (length bytes) 0) ≡ side_check.Whole size numbers found behind
    → (size ≡ length bytes) × (0 < found → size ≡ found + 1 + behind)
parts_of false bytes rs n size numbers found behind within is = absurd (cc)
parts_of true bytes rs n size numbers found behind within is =
    let s : length bytes ≡ size = cc in
    let f : end_of rs ≡ found = cc in
    let b : length bytes - (end_of rs + 1) ≡ behind = cc in
    (sym s, λ some. (let lt = within (omega arith) in omega arith))

add_up : (bytes : List ℕ) (x : Result (List LogRecord) ℕ) (size : ℕ) (numbers : Option SideNumbers) (found behind : ℕ) → records bytes ≡ x → log_check (length bytes) x ≡ side_check.Whole size numbers found behind
    → (size ≡ length bytes) × (0 < found → size ≡ found + 1 + behind)
add_up bytes (Err at) size numbers found behind held is = absurd (cc)
add_up bytes (Ok rs) size numbers found behind held is = parts_of (is_begun rs) bytes rs _ size numbers found behind (ends_within bytes rs held) is

pub sizes_add : (bytes : List ℕ) (size : ℕ) (numbers : Option SideNumbers) (found behind : ℕ) → side_shown (Some bytes) ≡ side_check.Whole size numbers found behind
    → (size ≡ length bytes) × (0 < found → size ≡ found + 1 + behind)
sizes_add bytes size numbers found behind is = add_up bytes (records bytes) size numbers found behind refl is
