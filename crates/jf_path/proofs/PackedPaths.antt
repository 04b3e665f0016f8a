-- A path in its 32 bytes: what is read from them, and what is put there.
use Rattle.std.proofs.Common.{ℕ, zero, suc, ◌<◌, ◌≤◌, List, [], ◌∷◌, set, get_or, arith, ◌≡◌, ◌+◌, ◌-◌, ◌*◌, ◌/◌, ◌%◌, drop, take, length, refl, replicate, ap, ap₂, ◌∙◌, ◌++◌, length-set, sym, subst, inl, inr, map}
use Rattle.std.proofs.lemmas.Bool.{cases_lt, cases_eq}
use Rattle.std.proofs.lemmas.List.{drop-set-lt, length-take, get_or-drop, take_more, take_more_set, take-append-le, drop-append-le, drop_all, replicate-append-replicate, length-replicate, length-append, get_or_append_left, get_or-append_right, drop_more, drop-replicate, drop-drop}
use Rattle.std.proofs.lemmas.List.FromFn.{map-range_with_len_more}
use borrow.Rule.Slice.PartMut.{put_mid}
use Rattle.std.specs.List.{AllByRecursion, range_with_len}
use Rattle.jf_path.specs.Keys.{IsKey}
use Rattle.jf_path.specs.Nibbles.{nibble}
use Rattle.jf_path.specs.PackedPath.{ArePackedNibbles}
use Rattle.jf_path.specs.Paths.{IsPath, halves, packed_nibbles, key_path, path_bytes}
use Rattle.jf_path.proofs.Halves.{half_halves}
use Rattle.jf_path.proofs.NibbleLaws.{nibble-even, nibble-odd}
use Rattle.jf_path.proofs.PathLaws.{packed-front, length-halves, get_or-halves-odd}

abbrev zeros : ℕ → List ℕ
zeros n = replicate n 0

zeros_past : (n i : ℕ) → get_or (zeros n) i 0 ≡ 0
zeros_past zero i = refl
zeros_past (suc n) zero = refl
zeros_past (suc n) (suc i) = zeros_past n i

halves-zeros : (n m : ℕ) → m ≡ 2 * n → halves (zeros n) ≡ zeros m
halves-zeros zero m e = rw e refl
halves-zeros (suc n) m e = rw (let f : m ≡ suc (suc (2 * n)) = omega arith in f) (ap (λ (xs : List ℕ). 0 ∷ 0 ∷ xs) (halves-zeros n (2 * n) refl))

halves-append : (xs ys : List ℕ) → halves (xs ++ ys) ≡ halves xs ++ halves ys
halves-append [] ys = refl
halves-append (x ∷ xs) ys = ap (λ (zs : List ℕ). x / 16 ∷ x % 16 ∷ zs) (halves-append xs ys)

-- the halves after the path are zero
zero_after : (count : ℕ) (bytes : List ℕ) (i : ℕ) → ArePackedNibbles count bytes → count ≤ i → get_or (halves bytes) i 0 ≡ 0
zero_after count bytes i kept le =
    ap (λ k. get_or (halves bytes) k 0) (let e : i ≡ count + (i - count) = omega arith in e) ∙ sym (get_or-drop count (halves bytes) (i - count) 0)
    ∙ ap (λ (xs : List ℕ). get_or xs (i - count) 0) kept.zeros ∙ zeros_past (64 - count) (i - count)

-- the low half of the byte in which the path ends, or which comes after it
pub low_half_after : (count : ℕ) (bytes : List ℕ) → ArePackedNibbles count bytes → get_or bytes (count / 2) 0 % 16 ≡ 0
low_half_after count bytes kept = sym (get_or-halves-odd bytes (count / 2) (2 * (count / 2) + 1) refl) ∙ zero_after count bytes (2 * (count / 2) + 1) kept (omega arith)

small_halves : (bytes : List ℕ) → ((i : ℕ) → get_or bytes i 0 < 256) → (n : ℕ) → AllByRecursion (λ n. n < 16) (take n (halves bytes))
small_halves bytes small zero = tt
small_halves [] small (suc n) = tt
small_halves (b ∷ bytes) small (suc zero) = (let s = small 0 in omega arith, tt)
small_halves (b ∷ bytes) small (suc (suc n)) = (let s = small 0 in omega arith, (omega arith, small_halves bytes (λ i. small (suc i)) n))

-- the nibbles in the bytes are a path
pub kept_path : (count : ℕ) (bytes : List ℕ) → ArePackedNibbles count bytes → IsPath (take count (halves bytes))
kept_path count bytes kept = record { short = let short = kept.short in omega (arith, length-take count (halves bytes)); nibbles = small_halves bytes kept.small count }

pub kept_front : (count : ℕ) (bytes : List ℕ) → ArePackedNibbles count bytes → take ((count + 1) / 2) bytes ≡ packed_nibbles (take count (halves bytes))
kept_front count bytes kept = sym (packed-front count bytes (λ odd. low_half_after count bytes kept))

pub ArePackedNibbles-none : ArePackedNibbles 0 (zeros 32)
ArePackedNibbles-none = record { short = omega arith; long = refl; small = λ i. subst (λ n. n < 256) (sym (zeros_past 32 i)) (omega arith); zeros = halves-zeros 32 64 refl }

-- the bytes of a key are its path
pub ArePackedNibbles-key : (key : List ℕ) → IsKey key → ArePackedNibbles 64 key
ArePackedNibbles-key key is = record { short = omega arith; long = is.long; small = is.bytes; zeros = drop_all 64 (halves key) (let long = is.long in omega (arith, length-halves key)) }

key_front : (key : List ℕ) → ((i : ℕ) → get_or key i 0 < 256) → (n : ℕ) → n ≤ 2 * length key → take n (halves key) ≡ map (nibble key) (range_with_len 0 n)
key_front key small zero le = refl
key_front key small (suc n) le =
    let within : n < length (halves key) = omega (arith, length-halves key) in
    let here = half_halves key n (nibble key n) (record { even = λ e. nibble-even key n (small (n / 2)) e; odd = λ o. nibble-odd key n o }) in
    ap (λ k. take k (halves key)) (let e : suc n ≡ n + 1 = omega arith in e) ∙ take_more (halves key) n 0 within
    ∙ ap₂ (λ (xs : List ℕ) m. xs ++ m ∷ []) (key_front key small n (omega arith)) here
    ∙ sym (map-range_with_len_more (nibble key) 0 n n (omega arith))
    ∙ ap (λ k. map (nibble key) (range_with_len 0 k)) (let e : n + 1 ≡ suc n = omega arith in e)

pub halves_of_key : (key : List ℕ) → IsKey key → take 64 (halves key) ≡ key_path key
unfolding key_path
halves_of_key key is = key_front key is.bytes 64 (let long = is.long in omega arith)

halves-set : (i : ℕ) (bytes : List ℕ) (n b : ℕ) → n < 16 → get_or bytes (i / 2) 0 % 16 ≡ 0 → (i % 2 ≡ 0 → b ≡ n * 16) → (i % 2 ≡ 1 → b ≡ get_or bytes (i / 2) 0 + n) → halves (set bytes (i / 2) b) ≡ set (halves bytes) i n
halves-set i [] n b small low even odd = refl
halves-set zero (x ∷ bytes) n b small low even odd =
    let e = even refl in
    ap₂ (λ h l. h ∷ l ∷ halves bytes) (let f : b / 16 ≡ n = omega arith in f) (let f : b % 16 ≡ x % 16 = omega arith in f)
halves-set (suc zero) (x ∷ bytes) n b small low even odd =
    let e = odd refl in
    ap₂ (λ h l. h ∷ l ∷ halves bytes) (let f : b / 16 ≡ x / 16 = omega arith in f) (let f : b % 16 ≡ n = omega arith in f)
halves-set (suc (suc i)) (x ∷ bytes) n b small low even odd =
    let half : suc (suc i) / 2 ≡ suc (i / 2) = omega arith in
    rw half
    (ap (λ (xs : List ℕ). x / 16 ∷ x % 16 ∷ xs) (halves-set i bytes n b small (ap (λ k. get_or (x ∷ bytes) k 0 % 16) (sym half) ∙ low) (λ e. even (omega arith))
    (λ o. odd (omega arith) ∙ ap (λ k. get_or (x ∷ bytes) k 0 + n) half)))

small_after : (bytes : List ℕ) (i b k : ℕ) → b < 256 → ((j : ℕ) → get_or bytes j 0 < 256) → get_or (set bytes i b) k 0 < 256
small_after [] i b k small all = omega arith
small_after (c ∷ bytes) zero b zero small all = small
small_after (c ∷ bytes) zero b (suc k) small all = all (suc k)
small_after (c ∷ bytes) (suc i) b zero small all = all 0
small_after (c ∷ bytes) (suc i) b (suc k) small all = small_after bytes i b k small (λ j. all (suc j))

-- b is the byte with one more nibble: the nibble in the high half, or in the low half of the byte that has the last one
pub record IsByteWith (count : ℕ) (bytes : List ℕ) (n b : ℕ) : Type 0 where
  pub high : count % 2 ≡ 0 → b ≡ n * 16
  pub low : count % 2 ≡ 1 → b ≡ get_or bytes (count / 2) 0 + n

module _ (count : ℕ) (bytes : List ℕ) (n b : ℕ) (room : count < 64) (small : n < 16) (kept : ArePackedNibbles count bytes) (with : IsByteWith count bytes n b) where
  pushed_halves : halves (set bytes (count / 2) b) ≡ set (halves bytes) count n
  pushed_halves = halves-set count bytes n b small (low_half_after count bytes kept) with.high with.low

  pushed_byte : b < 256
  pushed_byte =
      let before = kept.small (count / 2) in
      let zero = low_half_after count bytes kept in
      elim (cases_eq (count % 2) 0) [
        | inl e ↦ let h = with.high e in omega arith
        | inr ne ↦ let l = with.low (omega arith) in omega arith
      ]

  pub ArePackedNibbles-push : ArePackedNibbles (count + 1) (set bytes (count / 2) b)
  ArePackedNibbles-push = record {
    short = omega arith;
    long = length-set bytes (count / 2) b ∙ kept.long;
    small = λ k. small_after bytes (count / 2) b k pushed_byte kept.small;
    zeros =
        ap (drop (count + 1)) pushed_halves
        ∙ drop-set-lt (count + 1) (halves bytes) count n (omega arith)
        ∙ sym (drop-drop 1 count (halves bytes)) ∙ ap (λ (xs : List ℕ). drop 1 xs) kept.zeros
        ∙ ap (λ k. drop 1 (replicate k 0)) (let e : 64 - count ≡ suc (64 - (count + 1)) = omega arith in e);
  }

  pub pushed_nibbles : take (count + 1) (halves (set bytes (count / 2) b)) ≡ take count (halves bytes) ++ n ∷ []
  pushed_nibbles =
      let long = kept.long in
      ap (take (count + 1)) pushed_halves ∙ take_more_set (halves bytes) count n (omega (arith, length-halves bytes))

-- packed nibbles over the first of 32 zeros
module _ (count : ℕ) (bytes : List ℕ) (room : count ≤ 64) (long : length bytes ≡ (count + 1) / 2) (small : (i : ℕ) → get_or bytes i 0 < 256) (end : count % 2 ≡ 1 → get_or bytes (count / 2) 0 % 16 ≡ 0) where
  abbrev rest : List ℕ
  rest = drop (length bytes) (zeros 32)

  rest_zeros : rest ≡ zeros (32 - length bytes)
  rest_zeros = drop-replicate (length bytes) 32 0

  rest_byte : (i : ℕ) → get_or rest i 0 ≡ 0
  rest_byte i = ap (λ (xs : List ℕ). get_or xs i 0) rest_zeros ∙ zeros_past (32 - length bytes) i

  pub nibbles_over_zeros : take count (halves (bytes ++ drop (length bytes) (zeros 32))) ≡ take count (halves bytes)
  nibbles_over_zeros = ap (take count) (halves-append bytes rest) ∙ take-append-le count (halves bytes) (halves rest) (omega (arith, length-halves bytes))

  small_over_zeros : (i : ℕ) → get_or (bytes ++ rest) i 0 < 256
  small_over_zeros i =
      elim (cases_lt i (length bytes)) [
        | inl lt ↦ rw (get_or_append_left bytes rest 0 i lt) (small i)
        | inr le ↦ rw (get_or-append_right bytes rest (length bytes) i 0 refl le, rest_byte (i - length bytes)) (omega arith)
      ]

  -- of the bytes no more than a zero half comes after the path
  cut_end : drop count (halves bytes) ≡ zeros (2 * length bytes - count)
  cut_end =
      elim (cases_eq (count % 2) 0) [
        | inl e ↦ drop_all count (halves bytes) (omega (arith, length-halves bytes)) ∙ ap zeros (let f : 0 ≡ 2 * length bytes - count = omega arith in f)
        | inr ne ↦
            let odd : count % 2 ≡ 1 = omega arith in
            drop_more (halves bytes) count 0 (omega (arith, length-halves bytes))
            ∙ ap₂ (λ n (xs : List ℕ). n ∷ xs) (get_or-halves-odd bytes (count / 2) count (omega arith) ∙ end odd) (drop_all (count + 1) (halves bytes) (omega (arith, length-halves bytes)))
            ∙ ap zeros (let f : 1 ≡ 2 * length bytes - count = omega arith in f)
      ]

  zeros_to_end : drop count (halves (bytes ++ rest)) ≡ zeros (64 - count)
  zeros_to_end =
      ap (drop count) (halves-append bytes rest)
      ∙ drop-append-le count (halves bytes) (halves rest) (omega (arith, length-halves bytes))
      ∙ ap₂ (λ (xs ys : List ℕ). xs ++ ys) cut_end (ap halves rest_zeros ∙ halves-zeros (32 - length bytes) (2 * (32 - length bytes)) refl)
      ∙ replicate-append-replicate (2 * length bytes - count) (2 * (32 - length bytes)) 0
      ∙ ap zeros (let f : (2 * length bytes - count) + 2 * (32 - length bytes) ≡ 64 - count = omega arith in f)

  pub ArePackedNibbles-over_zeros : ArePackedNibbles count (bytes ++ drop (length bytes) (zeros 32))
  ArePackedNibbles-over_zeros = record {
    short = room;
    long = length-append bytes rest ∙ ap (λ (xs : List ℕ). length bytes + length xs) rest_zeros ∙ ap (λ n. length bytes + n) (length-replicate {A = ℕ} (32 - length bytes) 0) ∙ omega arith;
    small = small_over_zeros;
    zeros = zeros_to_end;
  }

-- the count is written before the packed nibbles, and the bytes after them are kept
pub written : (out text path : List ℕ) (count k : ℕ) → count ≡ length path → text ≡ packed_nibbles path → k < length out → put_mid 1 (k + 1 - 1) (set out 0 count) text ≡ path_bytes path ++ drop (k + 1) out
unfolding path_bytes
written [] text path count k long is room = absurd (omega arith)
written (o ∷ out) text path count k long is room =
    ap₂ (λ n (xs : List ℕ). n ∷ xs ++ drop (k + 1 - 1) out) long is
    ∙ ap (λ i. (length path ∷ packed_nibbles path) ++ drop i (o ∷ out)) (let e : suc (k + 1 - 1) ≡ k + 1 = omega arith in e)
