-- No lines are refused because memory runs out.
use Rattle.std.proofs.Common.{◌≡◌, ℕ, zero, suc, List, [], ◌∷◌, ◌++◌, length, Option, Some, None, Result, Ok, Err}
use Rattle.jf_evidence.specs.Ranges.{Entries, range_refusal}
use Rattle.jf_evidence.specs.declared.range_proof.RangeFault.{RangeFault}
use Rattle.jf_blocks.specs.Reading.{ReadResult, Chunk, LinePlace, chunk_block}
use Rattle.jf_receive.specs.declared.fault.BlockFault.{BlockFault}
use Rattle.jf_receive.specs.Chunks.{chunks_from, accepted_chunk}
use Rattle.jf_receive.specs.Laws.{NoLinesComeToMemory}
use Rattle.jf_receive.specs.declared.fault.BlockFault.TheVariants as fault

-- the result of blocks is no matter of memory
abbrev IsNoMemory : Result Entries BlockFault → Type 0
IsNoMemory r = r ≡ Err fault.Memory → ⊥

module _ (n : ℕ) (root : List ℕ) (others : (known : Entries) (at : ℕ) (left : List (List ℕ)) → IsNoMemory (chunks_from n root known (record { at = at; left = left }))) where
  -- a block, by its refusal
  block_no_memory : (known : Entries) (at : ℕ) (chunk : Chunk) (p : LinePlace) (o : Option RangeFault)
      → IsNoMemory (elim (elim o as (λ x. Result Entries BlockFault) [ None ↦ Ok (known ++ chunk.0) | Some why ↦ Err (fault.Chunk at why) ]) as (λ x. Result Entries BlockFault) [ Err why ↦ Err why | Ok all ↦ chunks_from n root all p ])
  block_no_memory known at chunk p None e = others (known ++ chunk.0) p.at p.left e
  block_no_memory known at chunk p (Some why) e = absurd (cc)

  -- the lines of a block, by what they are read as
  read_no_memory : (known : Entries) (at : ℕ) (o : ReadResult Chunk)
      → IsNoMemory (elim o as (λ x. Result Entries BlockFault) [
        | Err e ↦ Err (fault.Line e)
        | Ok b ↦ elim (accepted_chunk root at known b.0) as (λ x. Result Entries BlockFault) [ Err why ↦ Err why | Ok all ↦ chunks_from n root all b.1 ]
      ])
  read_no_memory known at (Err line) e = absurd (cc)
  read_no_memory known at (Ok b) e = block_no_memory known at b.0 b.1 (range_refusal root known b.0.0 b.0.1) e

blocks_no_memory : (n : ℕ) (root : List ℕ) (known : Entries) (at : ℕ) (left : List (List ℕ)) → IsNoMemory (chunks_from n root known (record { at = at; left = left }))
unfolding chunks_from
blocks_no_memory zero root known at left e = absurd (cc)
blocks_no_memory (suc n) root known at [] e = absurd (cc)
blocks_no_memory (suc n) root known at (line ∷ ls) e =
    read_no_memory n root (λ known' at' left'. blocks_no_memory n root known' at' left') known at (chunk_block (record { at = at; left = line ∷ ls })) e

pub lines-no_memory : NoLinesComeToMemory
lines-no_memory root known ls e = blocks_no_memory (length ls) root known 1 ls e
