-- Laws on honest chunks one after another.
use Rattle.std.specs.Prelude.{◌≡◌, ℕ, ◌+◌, ◌++◌, take, List, [], ◌∷◌}
use Rattle.std.proofs.Common.{sym, ap, ◌∙◌, refl}
use Rattle.std.proofs.Math.Seq.{take-add}
use Rattle.std.specs.FinMap.{entries}
use Rattle.jf_hash.specs.Maps.{Map, IsMap}
use Rattle.jf_hash.specs.Roots.{root}
use Rattle.jf_evidence.specs.Ranges.{chunk_entries, Entries, range_refusal, honest_chunk}
use Rattle.jf_evidence.specs.ChunkTurns.{ComeInTurn}
use Rattle.jf_evidence.proofs.HonestChunkLaws.{honest-chunk}

-- ---- proofs
pub goes-on : (m : Map) (start count : ℕ) → take start (entries m) ++ chunk_entries m start count ≡ take (start + count) (entries m)
goes-on m start count = sym (take-add start count (entries m))

in_turn : (m : Map) (known : Entries) (start : ℕ) (counts : List ℕ) → IsMap m → known ≡ take start (entries m) → ComeInTurn m known start counts
in_turn m known start [] is_map is = is
in_turn m known start (count ∷ counts) is_map is = λ some within. (
  ap (λ (es : Entries). range_refusal (root m) es (chunk_entries m start count) (honest_chunk m start count)) is ∙ honest-chunk m start count is_map within some,
  in_turn m (known ++ chunk_entries m start count) (start + count) counts is_map (ap (λ (es : Entries). es ++ chunk_entries m start count) is ∙ goes-on m start count),
)

pub come-in-turn : (m : Map) (counts : List ℕ) → IsMap m → ComeInTurn m [] 0 counts
come-in-turn m counts is_map = in_turn m [] 0 counts is_map refl
