-- The result of lines of chunk blocks, all together.
use Rattle.std.specs.Prelude.{ℕ, ◌+◌, List, ◌++◌, Some, None, Result, Ok, Err, zero, suc, [], ◌∷◌, length, ◌==◌, if◌then◌else◌, Option}
use Rattle.jf_evidence.specs.Ranges.{Entries, range_refusal}
use Rattle.jf_blocks.specs.Reading.{Chunk, LinePlace, chunk_block, first_place}
use Rattle.jf_receive.specs.declared.fault.BlockFault.{BlockFault}
use Rattle.jf_receive.specs.declared.fault.BlockFault.TheVariants as fault

-- known entries and then those of a block, whose first line has this number, if it is accepted after them
abbrev pub accepted_chunk : List ℕ → ℕ → Entries → Chunk → Result Entries BlockFault
accepted_chunk root at known chunk = elim (range_refusal root known chunk.0 chunk.1) [ None ↦ Ok (known ++ chunk.0) | Some why ↦ Err (fault.Chunk at why) ]

-- known entries and then those of all blocks, each accepted after those before it, or the first refusal. n is at least the number of lines that remain
unfoldable pub chunks_from : ℕ → List ℕ → Entries → LinePlace → Result Entries BlockFault
chunks_from zero root known p = Ok known
chunks_from (suc n) root known p =
    elim p.left [
      | [] ↦ Ok known
      | line ∷ rest ↦
          elim (chunk_block p) [
            | Err at ↦ Err (fault.Line at)
            | Ok b ↦ elim (accepted_chunk root p.at known b.0) [ Err why ↦ Err why | Ok all ↦ chunks_from n root all b.1 ]
          ]
    ]

-- the result of all lines, numbered from 1
abbrev pub chunks : List ℕ → Entries → List (List ℕ) → Result Entries BlockFault
chunks root known ls = chunks_from (length ls) root known (first_place ls)

-- the refusal that the first n lines decide, whatever follows them: a line that is missing after them may still come
abbrev pub refusal_decided_by : ℕ → Result Entries BlockFault → Option BlockFault
refusal_decided_by n (Ok es) = None
refusal_decided_by n (Err (fault.Line at)) = if at == n + 1 then None else Some (fault.Line at)
refusal_decided_by n (Err (fault.Chunk at why)) = Some (fault.Chunk at why)
refusal_decided_by n (Err fault.Memory) = Some fault.Memory
