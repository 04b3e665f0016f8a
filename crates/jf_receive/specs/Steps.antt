-- Lines of chunk blocks that are read one by one.
use Rattle.std.specs.Prelude.{ℕ, ◌≡◌, Some, None, ◌||◌, nat_lt, if◌then◌else◌, [], ◌+◌, ◌-◌, ◌∷◌, ◌++◌, List, Option, Result, Ok, Err}
use Rattle.jf_evidence.specs.Ranges.{range_refusal, KeyAndValue}
use Rattle.jf_restore.specs.RestoreValue.{RestoreValue}
use Rattle.jf_restore.specs.Restores.{HaveShortValues, with_more}
use Rattle.jf_blocks.specs.Reading.{Chunk, line_read, entry_of, side_of, chunk_of}
use Rattle.jf_blocks.specs.Sides.{with_kept}
use Rattle.jf_blocks.specs.declared.chunk.ChunkHead.{ChunkHead}
use Rattle.jf_receive.specs.declared.stage.Stage.{Stage}
use Rattle.jf_receive.specs.declared.fault.BlockFault.{BlockFault}
use Rattle.jf_receive.specs.declared.stage.Begun.{Begun}
use Rattle.jf_receive.specs.declared.stage.Stage.TheVariants as stage
use Rattle.jf_receive.specs.declared.fault.BlockFault.TheVariants as fault

-- what is restored, the number of the next line, and how far the blocks are read
pub record Restoring : Type 0 where
  pub restore : RestoreValue
  pub at : ℕ
  pub stage : Stage

-- the state before the first line
abbrev pub restoring_start : RestoreValue → Restoring
restoring_start r = record { restore = r; at = 1; stage = stage.Between }

-- out of memory: what is restored stays, and no later line is read
abbrev pub out_of_memory : Restoring → Restoring
out_of_memory s = record { restore = s.restore; at = s.at; stage = stage.Refused fault.Memory }

-- the values of a block's entries have at most 4,096 bytes
abbrev pub IsShort : Stage → Type 0
IsShort stage.Between = Unit {0}
IsShort (stage.Block b) = HaveShortValues b.entries
IsShort (stage.Refused why) = Unit {0}

-- ---- one line
-- what is restored, and how far the blocks are read, after a line
pub record RestoringStep : Type 0 where
  pub restore : RestoreValue
  pub stage : Stage

-- a step that was made
abbrev pub IsRestoredBy : RestoringStep → RestoreValue → Stage → Type 0
IsRestoredBy step restore next = (restore ≡ step.restore) × (next ≡ step.stage)

-- a step that adds nothing
abbrev pub adds_nothing : RestoreValue → Stage → RestoringStep
adds_nothing r s = record { restore = r; stage = s }

-- a step that refuses, and adds nothing
abbrev pub refuses : RestoreValue → BlockFault → RestoringStep
refuses r why = adds_nothing r (stage.Refused why)

-- the entries of a block are added if it is accepted
abbrev pub step_after_block : RestoreValue → ℕ → Chunk → RestoringStep
step_after_block r first chunk = elim (range_refusal r.root r.entries chunk.0 chunk.1) [ None ↦ adds_nothing (with_more r chunk.0) stage.Between | Some why ↦ refuses r (fault.Chunk first why) ]

-- the step of a block that is read to its end
abbrev pub step_at_block_end : RestoreValue → Begun → RestoringStep
step_at_block_end r b = step_after_block r b.first (b.entries, b.proof)

-- what was read of a block: it is whole if no line is missing
abbrev pub step_within_block : RestoreValue → Begun → RestoringStep
step_within_block r b = if nat_lt 0 b.entries_left || nat_lt 0 b.siblings_left then adds_nothing r (stage.Block b) else step_at_block_end r b

-- the block that begins at a line
abbrev pub block_start : ℕ → ChunkHead → Begun
block_start at head = record { first = at; entries_left = head.entries; siblings_left = head.siblings; entries = []; proof = record { depth = head.depth; siblings = [] } }

-- the block with one more entry, and one fewer to come
abbrev pub with_entry : Begun → KeyAndValue → Begun
with_entry b e = record { first = b.first; entries_left = b.entries_left - 1; siblings_left = b.siblings_left; entries = b.entries ++ e ∷ []; proof = b.proof }

-- the block with one more sibling, and one fewer to come; of more than 256 the first 257 are kept
abbrev pub with_sibling : Begun → List ℕ → Begun
with_sibling b h = record { first = b.first; entries_left = b.entries_left; siblings_left = b.siblings_left - 1; entries = b.entries; proof = record { depth = b.proof.depth; siblings = with_kept b.proof.siblings h } }

-- the step of a block's first line
abbrev pub head_step : RestoreValue → ℕ → Option ChunkHead → RestoringStep
head_step r at None = refuses r (fault.Line at)
head_step r at (Some head) = step_within_block r (block_start at head)

-- the step of an entry's line
abbrev pub entry_step : RestoreValue → ℕ → Begun → Option KeyAndValue → RestoringStep
entry_step r at b None = refuses r (fault.Line at)
entry_step r at b (Some e) = step_within_block r (with_entry b e)

-- the step of a sibling's line
abbrev pub sibling_step : RestoreValue → ℕ → Begun → Option (List ℕ) → RestoringStep
sibling_step r at b None = refuses r (fault.Line at)
sibling_step r at b (Some h) = step_within_block r (with_sibling b h)

-- another line of a block: that of an entry as long as entries are to come, then that of a sibling
abbrev pub block_step : RestoreValue → ℕ → Begun → List ℕ → RestoringStep
block_step r at b line = if nat_lt 0 b.entries_left then entry_step r at b (line_read entry_of line) else sibling_step r at b (line_read side_of line)

-- a line, by how far the blocks are read; after a refusal no line is looked at
unfoldable pub restoring_line_step : RestoreValue → ℕ → Stage → List ℕ → RestoringStep
restoring_line_step r at stage.Between line = head_step r at (line_read chunk_of line)
restoring_line_step r at (stage.Block b) line = block_step r at b line
restoring_line_step r at (stage.Refused why) line = refuses r why

-- the number of the next line; after a refusal no line is counted
abbrev pub next_at : ℕ → Stage → ℕ
next_at at stage.Between = at + 1
next_at at (stage.Block b) = at + 1
next_at at (stage.Refused why) = at

-- the state after a line
abbrev pub restoring_after : Restoring → List ℕ → Restoring
restoring_after s line = let step = restoring_line_step s.restore s.at s.stage line in record { restore = step.restore; at = next_at s.at s.stage; stage = step.stage }

-- the state after lines
unfoldable pub restoring_after_lines : Restoring → List (List ℕ) → Restoring
restoring_after_lines s [] = s
restoring_after_lines s (line ∷ ls) = restoring_after_lines (restoring_after s line) ls

-- ---- what is returned
-- what is refused, if anything is
abbrev pub refusal_at_stage : Stage → Option BlockFault
refusal_at_stage stage.Between = None
refusal_at_stage (stage.Block b) = None
refusal_at_stage (stage.Refused why) = Some why

-- what a line returns, by how far the blocks are read after it
abbrev pub line_result : Stage → Result (Unit {0}) BlockFault
line_result stage.Between = Ok tt
line_result (stage.Block b) = Ok tt
line_result (stage.Refused why) = Err why

-- what the end of the lines returns
abbrev pub end_by : RestoreValue → ℕ → Stage → Result RestoreValue BlockFault
end_by r at stage.Between = Ok r
end_by r at (stage.Block b) = Err (fault.Line at)
end_by r at (stage.Refused why) = Err why

-- what the end of the lines returns in a state
abbrev pub restored_at_end : Restoring → Result RestoreValue BlockFault
restored_at_end s = end_by s.restore s.at s.stage
