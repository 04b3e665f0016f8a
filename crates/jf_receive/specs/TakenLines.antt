-- What reads chunk blocks, as a machine that takes lines and adds nothing to a text.
use Rattle.std.specs.Prelude.{◌≡◌, ◌⊎◌, ℕ, List, [], Option, Some, None, Result, Ok, Err}
use Rattle.jf_io.specs.Lines.{lines}
use Rattle.jf_evidence.specs.Ranges.{Entries}
use Rattle.jf_receive.specs.Chunks.{chunks}
use Rattle.jf_receive.specs.Steps.{Restoring, restoring_after, refusal_at_stage}
use Rattle.jf_receive.specs.declared.fault.BlockFault.{BlockFault}
use Rattle.jf_receive.specs.declared.fault.BlockFault.TheVariants as block_fault
use Rattle.jf_receive.specs.Receives.{IsReadUp}
use Rattle.jf_receive.specs.declared.received.Received.{Received}
use Rattle.jf_receive.specs.declared.received.Received.TheVariants as received
use Rattle.jf_receive.specs.declared.received.RestoreFault.TheVariants as fault

-- the effect of a line on it: it isn't refused, or it is; or memory ran out
abbrev pub TakesBlockLine : Restoring → List ℕ → Restoring → Result (List ℕ) BlockFault → Type 0
TakesBlockLine s line next (Ok text) = (next ≡ restoring_after s line) × (refusal_at_stage next.stage ≡ None) × (text ≡ [])
TakesBlockLine s line next (Err why) = (why ≡ block_fault.Memory) ⊎ ((next ≡ restoring_after s line) × (refusal_at_stage next.stage ≡ Some why))

-- the end of the input makes nothing of it
abbrev pub EndsBlockLines : Restoring → Restoring → Result (List ℕ) BlockFault → Type 0
EndsBlockLines s next (Ok text) = (next ≡ s) × (text ≡ [])
EndsBlockLines s next (Err why) = ⊥

-- the whole input was read, and its lines result in these entries
pub record ComesToEntries (announced : List ℕ) (es : Entries) (rest rest' : Option (List ℕ)) : Type 0 where
  pub read : IsReadUp rest rest'
  pub comes : (input : List ℕ) → rest ≡ Some input → chunks announced [] (lines input) ≡ Ok es

-- how a restore ends whose lines are refused, or were too many for the memory
abbrev pub refused_lines : BlockFault → Received
refused_lines (block_fault.Line at) = received.Refused (fault.Line at)
refused_lines (block_fault.Chunk at why) = received.Refused (fault.Chunk at why)
refused_lines block_fault.Memory = received.Memory
