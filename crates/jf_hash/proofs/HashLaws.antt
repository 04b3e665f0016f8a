-- Each hash is 32 bytes, so it can be a key.
use Rattle.std.specs.Prelude.{ℕ, ◌<◌, List, [], ◌∷◌, ◌++◌, zero, suc, ◌≡◌, ◌*◌, length, slice_index}
use Rattle.std.proofs.Common.{arith, length-append}
use Rattle.std.specs.Int.{to_be_bytes, w32}
use Rattle.std.specs.List.{AllByRecursion}
use Rattle.sha2.specs.Sha256.{digest_bytes, sha256, final_hash, initial_hash_256}
use Rattle.jf_path.specs.Keys.{IsKey}
use Rattle.jf_hash.specs.Hashes.{E, L, N, V, K}

bytes_append : (xs ys : List ℕ) → AllByRecursion (λ x. x < 256) xs → AllByRecursion (λ x. x < 256) ys → AllByRecursion (λ x. x < 256) (xs ++ ys)
bytes_append [] ys p q = q
bytes_append (x ∷ xs) ys p q = (p.0, bytes_append xs ys p.1 q)

word_bytes : (n : ℕ) → AllByRecursion (λ x. x < 256) (to_be_bytes w32 n)
word_bytes n = (omega arith, (omega arith, (omega arith, (omega arith, tt))))

digest_long : (h : List ℕ) (n : ℕ) → length (digest_bytes h n) ≡ 4 * n
unfolding digest_bytes
digest_long h zero = omega arith
digest_long h (suc n) = omega (arith, length-append (digest_bytes h n) (to_be_bytes w32 (slice_index h n)), digest_long h n)

digest_is_bytes : (h : List ℕ) (n : ℕ) → AllByRecursion (λ x. x < 256) (digest_bytes h n)
unfolding digest_bytes
digest_is_bytes h zero = tt
digest_is_bytes h (suc n) = bytes_append (digest_bytes h n) _ (digest_is_bytes h n) (word_bytes (slice_index h n))

-- a list of bytes has a byte at each place
by_place : (xs : List ℕ) → AllByRecursion (λ x. x < 256) xs → (i : ℕ) → slice_index xs i < 256
by_place [] p i = omega arith
by_place (x ∷ xs) p zero = p.0
by_place (x ∷ xs) p (suc i) = by_place xs p.1 i

pub sha256-IsKey : (m : List ℕ) → IsKey (sha256 m)
unfolding sha256
sha256-IsKey m = record { long = digest_long (final_hash initial_hash_256 m) 8; bytes = by_place _ (digest_is_bytes (final_hash initial_hash_256 m) 8) }

pub E-IsKey : IsKey E
unfolding E
E-IsKey = sha256-IsKey (0 ∷ [])

pub L-IsKey : (key value_hash : List ℕ) → IsKey (L key value_hash)
unfolding L
L-IsKey key value_hash = sha256-IsKey (1 ∷ key ++ value_hash)

pub N-IsKey : (left right : List ℕ) → IsKey (N left right)
unfolding N
N-IsKey left right = sha256-IsKey (2 ∷ left ++ right)

pub V-IsKey : (bytes : List ℕ) → IsKey (V bytes)
unfolding V
V-IsKey bytes = sha256-IsKey (3 ∷ bytes)

pub K-IsKey : (name : List ℕ) → IsKey (K name)
unfolding K
K-IsKey name = sha256-IsKey (4 ∷ name)
