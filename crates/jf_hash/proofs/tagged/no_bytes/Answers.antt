use Rattle.std.specs.Prelude.{refl}
use Rattle.sha2.specs.Sha256.{sha256, digest_bytes, hash_after, compress, rounds, schedule, first_words}
use Rattle.jf_hash.specs.Hashes.{V}
use Rattle.jf_hash.proofs.tagged.no_bytes.Goals as goal

-- by computing it
pub returns : goal.returns
unfolding V sha256 digest_bytes hash_after compress rounds schedule first_words
returns c = refl
