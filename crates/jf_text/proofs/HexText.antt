-- Hexadecimal text is read two digits at a time.
use Rattle.std.proofs.Common.{ℕ, ◌+◌, ◌==◌, true, false, true≢false, List, ◌++◌, Option, Some, None, ◌≡◌, ◌∷◌, refl, ◌%◌, [], length, arith, ◌*◌, sym, ◌<◌, drop, get_or, ap, ◌∙◌, ◌≤◌, ◌&&◌, nat_le, if◌then◌else◌, option_and_then, ◌/◌, ◌⊎◌, inl, inr}
use Rattle.std.proofs.lemmas.Bool.{cases_Bool, eqb-true}
use Rattle.std.proofs.lemmas.Bool.Decides.{nat_tests}
use Rattle.std.proofs.lemmas.List.{drop_more, append_assoc, append-nil, drop_all}
use Rattle.jf_text.specs.Words.{both, byte_of, digit, unhex, bytes_within}
use Rattle.jf_text.proofs.Plain.{is_without}

-- the bytes read so far, followed by those still to be read
abbrev pub with_bytes_before : List ℕ → Option (List ℕ) → Option (List ℕ)
with_bytes_before front (Some rest) = Some (front ++ rest)
with_bytes_before front None = None

-- if the rest can't be read, nothing is read
both-none : {X Y Z : Type 0} (f : X → Y → Z) (b : Option X) → both f b None ≡ None
both-none f None = refl
both-none f (Some b) = refl

-- an odd number of digits can't be read
pub unhex-odd : (w : List ℕ) → length w % 2 ≡ 1 → unhex w ≡ None
unfolding unhex
unhex-odd [] h = absurd (omega arith)
unhex-odd (high ∷ []) h = refl
unhex-odd (high ∷ low ∷ rest) h = rw (unhex-odd rest (omega arith)) (both-none ◌∷◌ (byte_of high low))

-- a space is no digit
space-no_digit : (c : ℕ) → (c == 32) ≡ true → digit c ≡ None
space-no_digit c is = ap digit (eqb-true c 32 is)

-- text with a space can't be read
pub unhex-spaced : (w : List ℕ) → is_without 32 w ≡ false → unhex w ≡ None
unfolding unhex
unhex-spaced [] h = absurd (true≢false h)
unhex-spaced (high ∷ []) h = refl
unhex-spaced (high ∷ low ∷ rest) h =
    elim (cases_Bool (high == 32)) [
      | inl first ↦ rw (space-no_digit high first) refl
      | inr not_first ↦
          elim (cases_Bool (low == 32)) [
            | inl second ↦ rw (space-no_digit low second, both-none (λ h l. h * 16 + l) (digit high)) refl
            | inr not_second ↦ let later = rw (not_first, not_second) at h in rw (unhex-spaced rest later) (both-none ◌∷◌ (byte_of high low))
          ]
    ]

-- if a byte and the rest give bytes, both are there
both-some : (b : Option ℕ) (o : Option (List ℕ)) (bytes : List ℕ) → both ◌∷◌ b o ≡ Some bytes
    → (byte : ℕ) × (rest : List ℕ) × (b ≡ Some byte) × (o ≡ Some rest) × (bytes ≡ byte ∷ rest)
both-some None o bytes h = cc h
both-some (Some byte) None bytes h = cc h
both-some (Some byte) (Some rest) bytes h = (byte, rest, refl, refl, cc h)

-- there are half as many bytes as digits
pub unhex-length : (w bytes : List ℕ) → unhex w ≡ Some bytes → length w ≡ 2 * length bytes
unfolding unhex
unhex-length [] bytes h = let e : [] ≡ bytes = cc h in rw (sym e) refl
unhex-length (high ∷ []) bytes h = cc h
unhex-length (high ∷ low ∷ rest) bytes h =
    let parts = both-some (byte_of high low) (unhex rest) bytes h in
    let more = unhex-length rest parts.1 parts.3 in
    rw (parts.4) (omega arith)

-- the rest at 2 * i begins with the next two digits
pub unhex-drop : (w : List ℕ) (i : ℕ) → 2 * i + 1 < length w
    → unhex (drop (2 * i) w) ≡ both ◌∷◌ (byte_of (get_or w (2 * i) 0) (get_or w (2 * i + 1) 0)) (unhex (drop (2 * (i + 1)) w))
unfolding unhex
unhex-drop w i h =
    let a = drop_more w (2 * i) 0 (omega arith) in
    let b = drop_more w (2 * i + 1) 0 (omega arith) in
    let two : 2 * i + 1 + 1 ≡ 2 * (i + 1) = omega arith in
    rw (a, b, two) refl

-- a byte is moved from the rest to those read
pub with_bytes_before-byte : (front : List ℕ) (byte : ℕ) (rest : Option (List ℕ)) → with_bytes_before front (both ◌∷◌ (Some byte) rest) ≡ with_bytes_before (front ++ byte ∷ []) rest
with_bytes_before-byte front byte None = refl
with_bytes_before-byte front byte (Some rest) = ap Some (sym (append_assoc front (byte ∷ []) rest))

-- the next two digits are a byte, which is added to those read
pub unhex-more : (w front : List ℕ) (i byte : ℕ) → 2 * i + 1 < length w → byte_of (get_or w (2 * i) 0) (get_or w (2 * i + 1) 0) ≡ Some byte
    → unhex w ≡ with_bytes_before front (unhex (drop (2 * i) w)) → unhex w ≡ with_bytes_before (front ++ byte ∷ []) (unhex (drop (2 * (i + 1)) w))
unhex-more w front i byte h e so_far =
    let rest : Option (List ℕ) = unhex (drop (2 * (i + 1)) w) in
    so_far ∙ ap (with_bytes_before front) (unhex-drop w i h ∙ ap (λ b. both ◌∷◌ b rest) e) ∙ with_bytes_before-byte front byte rest

-- if the next two digits are no byte, the word can't be read
pub unhex-bad : (w front : List ℕ) (i : ℕ) → 2 * i + 1 < length w → byte_of (get_or w (2 * i) 0) (get_or w (2 * i + 1) 0) ≡ None
    → unhex w ≡ with_bytes_before front (unhex (drop (2 * i) w)) → unhex w ≡ None
unhex-bad w front i h e so_far =
    let rest : Option (List ℕ) = unhex (drop (2 * (i + 1)) w) in
    so_far ∙ ap (with_bytes_before front) (unhex-drop w i h ∙ ap (λ b. both ◌∷◌ b rest) e)

-- once all digits are read, the bytes read are those of the word
pub unhex-all : (w front : List ℕ) (i : ℕ) → length w ≤ 2 * i → unhex w ≡ with_bytes_before front (unhex (drop (2 * i) w)) → Some front ≡ unhex w
unfolding unhex
unhex-all w front i h e = sym (e ∙ ap (λ t. with_bytes_before front (unhex t)) (drop_all (2 * i) w h) ∙ ap Some (append-nil front))

-- a number of bytes within the bounds is kept
within-kept : (least most n : ℕ) (o : Option (List ℕ)) → ((bytes : List ℕ) → o ≡ Some bytes → length bytes ≡ n) → least ≤ n → n ≤ most
    → option_and_then (λ bytes. if nat_le least (length bytes) && nat_le (length bytes) most then Some bytes else None) o ≡ o
within-kept least most n None long low high = refl
within-kept least most n (Some bytes) long low high = let e = long bytes refl in grind (arith, nat_tests)

pub bytes_within-kept : (least most : ℕ) (w : List ℕ) → least ≤ length w / 2 → length w / 2 ≤ most → bytes_within least most w ≡ unhex w
bytes_within-kept least most w low high =
    within-kept least most (length w / 2) (unhex w) (λ bytes e. let h = unhex-length w bytes e in omega arith) low high

-- fewer or more bytes are refused
within-none : (least most n : ℕ) (o : Option (List ℕ)) → ((bytes : List ℕ) → o ≡ Some bytes → length bytes ≡ n) → (n < least) ⊎ (most < n)
    → option_and_then (λ bytes. if nat_le least (length bytes) && nat_le (length bytes) most then Some bytes else None) o ≡ None
within-none least most n None long out = refl
within-none least most n (Some bytes) long out = let e = long bytes refl in grind (arith, nat_tests)

pub bytes_within-few : (least most : ℕ) (w : List ℕ) → length w / 2 < least → bytes_within least most w ≡ None
bytes_within-few least most w out =
    within-none least most (length w / 2) (unhex w) (λ bytes e. let h = unhex-length w bytes e in omega arith) (inl out)

pub bytes_within-many : (least most : ℕ) (w : List ℕ) → most < length w / 2 → bytes_within least most w ≡ None
bytes_within-many least most w out =
    within-none least most (length w / 2) (unhex w) (λ bytes e. let h = unhex-length w bytes e in omega arith) (inr out)
