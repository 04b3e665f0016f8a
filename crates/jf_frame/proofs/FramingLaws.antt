-- Laws of the records of a file, and of frames.
use Rattle.std.specs.Prelude.{◌≡◌, [], Ok, ℕ, ◌∷◌, ◌≢◌, List, slice_index, ◌<◌, length, nat_lt, true, false, ◌+◌, ◌++◌, take, drop}
use Rattle.std.proofs.Common.{arith, refl, ltb-true, ltb-false, ap, sym, subst, take-append-drop, ◌∙◌, length-append}
use Rattle.std.specs.List.{AllByRecursion}
use Rattle.jf_path.specs.Keys.{IsBytes}
use Rattle.jf_frame.specs.Framing.{records, end_of, size_of, payload_of, body, IsFrame}
use Rattle.jf_frame.specs.Framed.{LogRecord}
use Rattle.jf_frame.proofs.Spelling.{records-short, none_of_closed, file_spelled, spelled_end, none_of_short, journal, shown_all, length-body, payload_of-append, payload_of-body, whole-body}

-- ---- files without records
-- an empty file holds no record
pub records_empty : records [] ≡ Ok []
records_empty = records-short [] (omega arith)

-- a file of one byte holds no record
pub records_one_byte : (gate : ℕ) → records (gate ∷ []) ≡ Ok []
records_one_byte gate = records-short (gate ∷ []) (omega arith)

-- a file with a closed first gate holds no record
pub records_closed : (bytes : List ℕ) → slice_index bytes 0 ≢ 1 → records bytes ≡ Ok []
records_closed bytes closed = none_of_closed bytes closed

-- ---- where records end
-- if a file holds records, they end at a closed gate within it
pub some_end : (bytes : List ℕ) (r : LogRecord) (rs : List LogRecord) → records bytes ≡ Ok (r ∷ rs) → (end_of (r ∷ rs) < length bytes) × (slice_index bytes (end_of (r ∷ rs)) ≢ 1)
some_end bytes r rs held =
    elim (nat_lt (length bytes) 2) as (λ b. nat_lt (length bytes) 2 ≡ b → (end_of (r ∷ rs) < length bytes) × (slice_index bytes (end_of (r ∷ rs)) ≢ 1)) [
      | true ↦ λ short. absurd (let e : [] ≡ r ∷ rs = none_of_short bytes (r ∷ rs) held (ltb-true _ _ short) in cc)
      | false ↦ λ long. spelled_end bytes (r ∷ rs) (file_spelled bytes (r ∷ rs) held (ltb-false _ _ long))
    ] refl

-- a file without records has a closed first gate, unless it is empty or one open gate
pub none_end : (bytes : List ℕ) → records bytes ≡ Ok [] → 0 < length bytes → bytes ≢ 1 ∷ [] → (0 < length bytes) × (slice_index bytes 0 ≢ 1)
none_end [] held some more = absurd (omega arith)
none_end (gate ∷ []) held some more = (some, λ open_. more (ap (λ g. g ∷ []) open_))
none_end (gate ∷ x ∷ rest) held some more = spelled_end (gate ∷ x ∷ rest) [] (file_spelled (gate ∷ x ∷ rest) [] held (omega arith))

-- ---- records of bytes are of bytes
bytes-back : (xs ys : List ℕ) → IsBytes (xs ++ ys) → IsBytes ys
bytes-back [] ys all = all
bytes-back (x ∷ xs) ys all = bytes-back xs ys all.1

bytes-front : (xs ys : List ℕ) → IsBytes (xs ++ ys) → IsBytes xs
bytes-front [] ys all = tt
bytes-front (x ∷ xs) ys all = (all.0, bytes-front xs ys all.1)

pub bytes-take : (n : ℕ) (xs : List ℕ) → IsBytes xs → IsBytes (take n xs)
bytes-take n xs all = bytes-front (take n xs) (drop n xs) (subst IsBytes (sym (take-append-drop n xs)) all)

pub bytes-drop : (n : ℕ) (xs : List ℕ) → IsBytes xs → IsBytes (drop n xs)
bytes-drop n xs all = bytes-back (take n xs) (drop n xs) (subst IsBytes (sym (take-append-drop n xs)) all)

first_byte : (xs : List ℕ) → IsBytes xs → slice_index xs 0 < 256
first_byte [] all = omega arith
first_byte (x ∷ xs) all = all.0

shown_bytes : (bs : List (List ℕ)) (at : ℕ) → IsBytes (journal bs) → AllByRecursion (λ r. (r.kind < 256) × IsBytes r.payload) (shown_all at bs)
unfolding journal shown_all payload_of
shown_bytes [] at all = tt
shown_bytes (b ∷ bs) at all =
    let here = bytes-front b (journal bs) all.1 in
    ((first_byte b here, bytes-take (size_of b) (drop 9 b) (bytes-drop 9 b here)), shown_bytes bs (at + 10 + size_of b) (bytes-back b (journal bs) all.1))

pub bytes_of_records : (bytes : List ℕ) (rs : List LogRecord) → IsBytes bytes → records bytes ≡ Ok rs → AllByRecursion (λ r. (r.kind < 256) × IsBytes r.payload) rs
bytes_of_records bytes rs all held =
    elim (nat_lt (length bytes) 2) as (λ b. nat_lt (length bytes) 2 ≡ b → AllByRecursion (λ (r : LogRecord). (r.kind < 256) × IsBytes r.payload) rs) [
      | true ↦ λ short. subst (λ rs. AllByRecursion (λ (r : LogRecord). (r.kind < 256) × IsBytes r.payload) rs) (none_of_short bytes rs held (ltb-true _ _ short)) tt
      | false ↦ λ long.
          let s = file_spelled bytes rs held (ltb-false _ _ long) in
          subst (λ rs. AllByRecursion (λ (r : LogRecord). (r.kind < 256) × IsBytes r.payload) rs) s.are
          (shown_bytes s.bodies 0 (bytes-front (journal s.bodies) (s.journaled.gate ∷ s.journaled.rest) (subst IsBytes s.journaled.is all)))
    ] refl

-- ---- frames
pub length-frame : (bytes : List ℕ) (kind : ℕ) (payload : List ℕ) → IsFrame bytes kind payload → length bytes ≡ 10 + length payload
length-frame bytes kind payload f = ap length f.is ∙ omega (arith, length-append (body kind payload) (0 ∷ []), length-body kind payload)

frame_payload : (bytes : List ℕ) (kind : ℕ) (payload : List ℕ) → IsFrame bytes kind payload → payload_of bytes ≡ payload
frame_payload bytes kind payload f =
    ap payload_of f.is ∙ payload_of-append (body kind payload) (0 ∷ []) (whole-body kind payload f.length_fits) ∙ payload_of-body kind payload f.length_fits

-- a frame is of one kind and one payload
pub frame_is_of_one : (bytes : List ℕ) (kind kind' : ℕ) (payload payload' : List ℕ) → IsFrame bytes kind payload → IsFrame bytes kind' payload' → (kind ≡ kind') × (payload ≡ payload')
frame_is_of_one bytes kind kind' payload payload' f g =
    (sym (ap (λ bytes. slice_index bytes 0) f.is) ∙ ap (λ bytes. slice_index bytes 0) g.is, sym (frame_payload bytes kind payload f) ∙ frame_payload bytes kind' payload' g)
