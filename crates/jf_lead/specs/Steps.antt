-- Lines of landing blocks that are read one by one: the state after each line, and the block that ends with it.
use Rattle.std.specs.Prelude.{ℕ, ◌+◌, ◌-◌, ◌<◌, ◌≤◌, nat_lt, ◌==◌, if◌then◌else◌, List, [], ◌∷◌, ◌++◌, length, Option, Some, None}
use Rattle.jf_split.specs.Limits.{max_keys}
use Rattle.jf_model.specs.Puts.{Change}
use Rattle.jf_blocks.specs.Reading.{line_read}
use Rattle.jf_lead.specs.declared.block.LandingBlock.{LandingBlock}
use Rattle.jf_lead.specs.declared.head.LandingHead.{LandingHead}
use Rattle.jf_lead.specs.declared.stage.Begun.{Begun}
use Rattle.jf_lead.specs.declared.stage.Stage.{Stage}
use Rattle.jf_lead.specs.declared.stage.Step.{Step}
use Rattle.jf_lead.specs.declared.stage.Stage.TheVariants as stage
use Rattle.jf_lead.specs.declared.fault.LandingFault.{LandingFault}
use Rattle.jf_lead.specs.declared.fault.LandingFault.TheVariants as fault
use Rattle.jf_lead.specs.Reading.{LandingBlocks, landing_line_of, change_after}

-- the number of the next line, and how far the blocks are read
pub record LandingReading : Type 0 where
  pub at : ℕ
  pub stage : Stage

-- the state before the first line
abbrev pub begun_reading : LandingReading
begun_reading = record { at = 1; stage = stage.Between }

-- out of memory: no later line is read
abbrev pub stopped_reading : LandingReading → LandingReading
stopped_reading s = record { at = s.at; stage = stage.Refused fault.Memory }

-- of a block that has started changes are still to come, and with those it has at most 10,000
abbrev pub HasChangesLeft : Stage → Type 0
HasChangesLeft stage.Between = Unit {0}
HasChangesLeft (stage.Block b) = (0 < b.changes_left) × (length b.batch + b.changes_left ≤ max_keys)
HasChangesLeft (stage.Refused why) = Unit {0}

-- ---- one line
-- a step to this stage, with which no block ends
abbrev pub step_to : Stage → Step
step_to s = record { stage = s; block = None }

-- the block that was read
abbrev pub whole_block : Begun → LandingBlock
whole_block b = record { version = b.version; root = b.root; batch = b.batch }

-- the step to what was read of a block: it is whole if no change is to come
abbrev pub whole_or_begun : Begun → Step
whole_or_begun b = if nat_lt 0 b.changes_left then step_to (stage.Block b) else record { stage = stage.Between; block = Some (b.first, whole_block b) }

-- the block that begins at a line
abbrev pub begun_block : ℕ → LandingHead → Begun
begun_block at head = record { first = at; version = head.version; root = head.root; changes_left = head.changes; batch = [] }

-- the block with one more change, and one fewer to come
abbrev pub with_change : Begun → Change → Begun
with_change b c = record { first = b.first; version = b.version; root = b.root; changes_left = b.changes_left - 1; batch = b.batch ++ c ∷ [] }

-- the step of a block's first line
abbrev pub landing_head_step : ℕ → Option LandingHead → Step
landing_head_step at None = step_to (stage.Refused (fault.Line at))
landing_head_step at (Some head) = whole_or_begun (begun_block at head)

-- the step of a change's line
abbrev pub change_step : ℕ → Begun → Option Change → Step
change_step at b None = step_to (stage.Refused (fault.Line at))
change_step at b (Some c) = whole_or_begun (with_change b c)

-- the step of a line, by how far the blocks are read; after a refusal no line is looked at
unfoldable pub landing_line_step : ℕ → Stage → List ℕ → Step
landing_line_step at stage.Between line = landing_head_step at (line_read landing_line_of line)
landing_line_step at (stage.Block b) line = change_step at b (line_read (change_after b.batch) line)
landing_line_step at (stage.Refused why) line = step_to (stage.Refused why)

-- the number of the next line; after a refusal no line is counted
abbrev pub number_after : ℕ → Stage → ℕ
number_after at stage.Between = at + 1
number_after at (stage.Block b) = at + 1
number_after at (stage.Refused why) = at

-- the state after a line
abbrev pub reading_after : LandingReading → List ℕ → LandingReading
reading_after s line = record { at = number_after s.at s.stage; stage = (landing_line_step s.at s.stage line).stage }

-- the block that ends with a line, if one does, with the number of its first line
abbrev pub ended_block : LandingReading → List ℕ → Option (ℕ × LandingBlock)
ended_block s line = (landing_line_step s.at s.stage line).block

-- ---- lines, one after another
-- the state after lines
unfoldable pub reading_after_all : LandingReading → List (List ℕ) → LandingReading
reading_after_all s [] = s
reading_after_all s (line ∷ ls) = reading_after_all (reading_after s line) ls

-- the block of a line, if there is one, in front of those of later lines
abbrev pub with_later : Option (ℕ × LandingBlock) → List (ℕ × LandingBlock) → List (ℕ × LandingBlock)
with_later None bs = bs
with_later (Some b) bs = b ∷ bs

-- the blocks that end with lines
unfoldable pub ended_blocks : LandingReading → List (List ℕ) → List (ℕ × LandingBlock)
ended_blocks s [] = []
ended_blocks s (line ∷ ls) = with_later (ended_block s line) (ended_blocks (reading_after s line) ls)

-- ---- what is refused
-- the refusal of a line, if there was one
abbrev pub stage_refusal : Stage → Option LandingFault
stage_refusal stage.Between = None
stage_refusal (stage.Block b) = None
stage_refusal (stage.Refused why) = Some why

-- the refusal at the end of the lines: of the line that is missing, if a block has started
abbrev pub refusal_at_end : ℕ → Stage → Option LandingFault
refusal_at_end at stage.Between = None
refusal_at_end at (stage.Block b) = Some (fault.Line at)
refusal_at_end at (stage.Refused why) = Some why

-- the line of a refusal, if it is of a line
abbrev pub bad_line : Option LandingFault → Option ℕ
bad_line None = None
bad_line (Some (fault.Line at)) = Some at
bad_line (Some fault.Memory) = None

-- the result of lines from a state on: the blocks that end with them, and the line that is refused at their end
abbrev pub blocks_after : LandingReading → List (List ℕ) → LandingBlocks
blocks_after s ls = let last = reading_after_all s ls in record { whole = ended_blocks s ls; bad = bad_line (refusal_at_end last.at last.stage) }

-- the refusal that the first n lines decide, whatever follows them: a line that is missing after them may still come
abbrev pub decided_refusal : ℕ → Option ℕ → Option LandingFault
decided_refusal n None = None
decided_refusal n (Some at) = if at == n + 1 then None else Some (fault.Line at)
