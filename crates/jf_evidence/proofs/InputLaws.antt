-- Laws on what the tagged hashes hash, and where two lists of such inputs come apart.
use Rattle.std.specs.Prelude.{◌≡◌, ℕ, List}
use Rattle.std.proofs.Common.{refl}
use Rattle.sha2.specs.Sha256.{sha256}
use Rattle.jf_hash.specs.Hashes.{E, L, N, V}
use Rattle.jf_evidence.specs.Inputs.{none_input, leaf_input, pair_input, value_input}

-- ---- laws
pub E-input : E ≡ sha256 none_input
unfolding E
E-input = refl

pub L-input : (key value_hash : List ℕ) → L key value_hash ≡ sha256 (leaf_input key value_hash)
unfolding L
L-input key value_hash = refl

pub N-input : (left right : List ℕ) → N left right ≡ sha256 (pair_input left right)
unfolding N
N-input left right = refl

pub V-input : (bytes : List ℕ) → V bytes ≡ sha256 (value_input bytes)
unfolding V
V-input bytes = refl
