-- Words of 64 hexadecimal digits, read as hashes of 32 bytes.
use Rattle.std.proofs.Common.{◌≡◌, ℕ, ◌/◌, ◌%◌, ◌<◌, List, length, None, inl, inr, refl, sym, arith, [], Option, Some, ◌+◌, ◌*◌, take, drop, get_or, set}
use Rattle.std.proofs.lemmas.Bool.{cases_eq, cases_lt}
use Rattle.std.proofs.lemmas.List.{take_more_set}
use Rattle.jf_text.specs.Words.{hash_of, byte_of, unhex}
use Rattle.jf_text.proofs.HexText.{unhex-odd, bytes_within-few, bytes_within-many, with_bytes_before, unhex-more}

-- a word of any other length is no hash
pub hash_of-other : (w : List ℕ) → (length w ≡ 64 → ⊥) → None ≡ hash_of w
hash_of-other w h =
    elim (cases_eq (length w % 2) 1) [
      | inl odd ↦ rw (unhex-odd w odd) refl
      | inr even ↦
          elim (cases_lt (length w / 2) 32) [
            | inl few ↦ sym (bytes_within-few 32 32 w few)
            | inr rest ↦ let many : 32 < length w / 2 = grind (arith, h, even) in sym (bytes_within-many 32 32 w many)
          ]
    ]

-- before the first byte is read
pub with_bytes_before-none : (o : Option (List ℕ)) → o ≡ with_bytes_before [] o
with_bytes_before-none None = refl
with_bytes_before-none (Some bytes) = refl

-- one more byte is read
pub with_bytes_before-more : (w hash : List ℕ) (i byte : ℕ) → 2 * i + 1 < length w → i < length hash → byte_of (get_or w (2 * i) 0) (get_or w (2 * i + 1) 0) ≡ Some byte
    → unhex w ≡ with_bytes_before (take i hash) (unhex (drop (2 * i) w)) → unhex w ≡ with_bytes_before (take (i + 1) (set hash i byte)) (unhex (drop (2 * (i + 1)) w))
with_bytes_before-more w hash i byte h lt e so_far = rw (take_more_set hash i byte lt) (unhex-more w (take i hash) i byte h e so_far)

-- 32 bytes that were read are a hash
pub hash_of-bytes : (w hash : List ℕ) → Some hash ≡ unhex w → length hash ≡ 32 → Some hash ≡ hash_of w
hash_of-bytes w hash e long = rw (sym e, long) refl

-- a word that isn't hexadecimal is no hash
pub hash_of-none : (w : List ℕ) → unhex w ≡ None → None ≡ hash_of w
hash_of-none w e = rw e refl
