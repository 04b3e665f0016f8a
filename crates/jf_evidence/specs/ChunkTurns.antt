-- Honest chunks one after another.
use Rattle.std.specs.Prelude.{◌≡◌, ℕ, ◌+◌, ◌<◌, ◌≤◌, List, [], ◌∷◌, ◌++◌, take, length, None}
use Rattle.std.specs.FinMap.{entries}
use Rattle.jf_hash.specs.Maps.{Map}
use Rattle.jf_hash.specs.Roots.{root}
use Rattle.jf_evidence.specs.Ranges.{Entries, range_refusal, chunk_entries, honest_chunk}

-- each chunk of a map, of so many entries, at least 1, from `start` known ones on, is accepted after those before it as long as an entry stands at its place;
-- after the last of them, the entries taken are the first of the map
abbrev pub ComeInTurn : Map → Entries → ℕ → List ℕ → Type 0
ComeInTurn m known start [] = known ≡ take start (entries m)
ComeInTurn m known start (count ∷ counts) = 1 ≤ count → start < length (entries m)
    → (range_refusal (root m) known (chunk_entries m start count) (honest_chunk m start count) ≡ None) × ComeInTurn m (known ++ chunk_entries m start count) (start + count) counts
