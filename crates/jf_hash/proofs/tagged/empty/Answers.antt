use Rattle.std.specs.Prelude.{refl}
use Rattle.sha2.specs.Sha256.{sha256, digest_bytes, hash_after, compress, rounds, schedule, first_words}
use Rattle.jf_hash.specs.Hashes.{E}
use Rattle.jf_hash.proofs.tagged.empty.Goals as goal

-- by computing it
pub returns : goal.returns
unfolding E sha256 digest_bytes hash_after compress rounds schedule first_words
returns c = refl
