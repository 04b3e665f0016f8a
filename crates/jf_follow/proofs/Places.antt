-- The numbers of lines and of the blocks that end with them.
use Rattle.std.proofs.Common.{◌≡◌, ℕ, ◌+◌, ◌-◌, nat_lt, Bool, true, false, cond, List, [], ◌∷◌, length, Option, Some, None, refl, ap, sym, ◌∙◌, arith}
use Rattle.std.proofs.lemmas.List.{length-append}
use Rattle.jf_model.specs.Puts.{Change}
use Rattle.jf_blocks.specs.Reading.{line_read}
use Rattle.jf_lead.specs.declared.block.LandingBlock.{LandingBlock}
use Rattle.jf_lead.specs.declared.head.LandingHead.{LandingHead}
use Rattle.jf_lead.specs.declared.stage.Begun.{Begun}
use Rattle.jf_lead.specs.declared.stage.Stage.{Stage}
use Rattle.jf_lead.specs.declared.stage.Stage.TheVariants as stage
use Rattle.jf_lead.specs.declared.stage.Step.{Step}
use Rattle.jf_lead.specs.declared.fault.LandingFault.{LandingFault}
use Rattle.jf_lead.specs.declared.fault.LandingFault.TheVariants as landing_fault
use Rattle.jf_lead.specs.Reading.{landing_line_of, change_after}
use Rattle.jf_lead.specs.Steps.{LandingReading, step_to, whole_block, begun_block, with_change, landing_head_step, change_step, landing_line_step, number_after, reading_after, ended_block, stage_refusal, refusal_at_end}

-- line at is the next one: of a block that has started its first line and a line for each change have come
abbrev pub IsNextLine : ℕ → Stage → Type 0
IsNextLine at stage.Between = Unit {0}
IsNextLine at (stage.Block b) = b.first + 1 + length b.batch ≡ at
IsNextLine at (stage.Refused why) = Unit {0}

-- ---- what is read of a block
abbrev whole_or : Begun → Bool → Step
whole_or b t = cond t (step_to (stage.Block b)) (record { stage = stage.Between; block = Some (b.first, whole_block b) })

whole_or-next : (at : ℕ) (b : Begun) (t : Bool) → b.first + 1 + length b.batch ≡ at → IsNextLine at (whole_or b t).stage
whole_or-next at b true h = h
whole_or-next at b false h = tt

-- the last line of a block that ended
abbrev last_line : Option (ℕ × LandingBlock) → ℕ
last_line (Some b) = b.0 + length b.1.batch
last_line None = 0

whole_or-ends : (at : ℕ) (b : Begun) (t : Bool) (first : ℕ) (block : LandingBlock) → b.first + length b.batch ≡ at → (whole_or b t).block ≡ Some (first, block) → first + length block.batch ≡ at
whole_or-ends at b true first block h e = absurd (cc)
whole_or-ends at b false first block h e =
    ap last_line (sym e) ∙ h

whole_or-good : (b : Begun) (t : Bool) (why : LandingFault) {X : Type 0} → stage_refusal (whole_or b t).stage ≡ Some why → X
whole_or-good b true why e = absurd (cc)
whole_or-good b false why e = absurd (cc)

one_change : (at : ℕ) (b : Begun) (c : Change) → b.first + 1 + length b.batch ≡ at → (with_change b c).first + length (with_change b c).batch ≡ at
one_change at b c h = omega (arith, h, length-append b.batch (c ∷ []))

-- ---- a line
head_step-next : (at : ℕ) (o : Option LandingHead) → IsNextLine (at + 1) (landing_head_step at o).stage
head_step-next at None = tt
head_step-next at (Some head) = whole_or-next (at + 1) (begun_block at head) (nat_lt 0 head.changes) (omega arith)

change_step-next : (at : ℕ) (b : Begun) (o : Option Change) → b.first + 1 + length b.batch ≡ at → IsNextLine (at + 1) (change_step at b o).stage
change_step-next at b None h = tt
change_step-next at b (Some c) h = let one = one_change at b c h in whole_or-next (at + 1) (with_change b c) (nat_lt 0 (b.changes_left - 1)) (omega (arith, one))

line_step-next : (at : ℕ) (s : Stage) (line : List ℕ) → IsNextLine at s → IsNextLine (number_after at s) (landing_line_step at s line).stage
unfolding landing_line_step
line_step-next at stage.Between line h = head_step-next at (line_read landing_line_of line)
line_step-next at (stage.Block b) line h = change_step-next at b (line_read (change_after b.batch) line) h
line_step-next at (stage.Refused why) line h = tt

pub reading_after-next : (r : LandingReading) (line : List ℕ) → IsNextLine r.at r.stage → IsNextLine (reading_after r line).at (reading_after r line).stage
reading_after-next r line h = line_step-next r.at r.stage line h

-- ---- the block that ends with a line
head_step-ends : (at : ℕ) (o : Option LandingHead) (first : ℕ) (block : LandingBlock) → (landing_head_step at o).block ≡ Some (first, block) → first + length block.batch ≡ at
head_step-ends at None first block e = absurd (cc)
head_step-ends at (Some head) first block e = whole_or-ends at (begun_block at head) (nat_lt 0 head.changes) first block (omega arith) e

change_step-ends : (at : ℕ) (b : Begun) (o : Option Change) (first : ℕ) (block : LandingBlock) → b.first + 1 + length b.batch ≡ at → (change_step at b o).block ≡ Some (first, block) → first + length block.batch ≡ at
change_step-ends at b None first block h e = absurd (cc)
change_step-ends at b (Some c) first block h e = whole_or-ends at (with_change b c) (nat_lt 0 (b.changes_left - 1)) first block (one_change at b c h) e

line_step-ends : (at : ℕ) (s : Stage) (line : List ℕ) (first : ℕ) (block : LandingBlock) → IsNextLine at s → (landing_line_step at s line).block ≡ Some (first, block) → first + length block.batch ≡ at
unfolding landing_line_step
line_step-ends at stage.Between line first block h e = head_step-ends at (line_read landing_line_of line) first block e
line_step-ends at (stage.Block b) line first block h e = change_step-ends at b (line_read (change_after b.batch) line) first block h e
line_step-ends at (stage.Refused why) line first block h e = absurd (cc)

pub ended_block-last : (r : LandingReading) (line : List ℕ) (first : ℕ) (block : LandingBlock) → IsNextLine r.at r.stage → ended_block r line ≡ Some (first, block) → first + length block.batch ≡ r.at
ended_block-last r line first block h e = line_step-ends r.at r.stage line first block h e

-- ---- a line that is refused
head_step-bad : (at : ℕ) (o : Option LandingHead) (i : ℕ) → stage_refusal (landing_head_step at o).stage ≡ Some (landing_fault.Line i) → i ≡ at
head_step-bad at None i e = cc
head_step-bad at (Some head) i e = whole_or-good (begun_block at head) (nat_lt 0 head.changes) (landing_fault.Line i) e

change_step-bad : (at : ℕ) (b : Begun) (o : Option Change) (i : ℕ) → stage_refusal (change_step at b o).stage ≡ Some (landing_fault.Line i) → i ≡ at
change_step-bad at b None i e = cc
change_step-bad at b (Some c) i e = whole_or-good (with_change b c) (nat_lt 0 (b.changes_left - 1)) (landing_fault.Line i) e

line_step-bad : (at : ℕ) (s : Stage) (line : List ℕ) (i : ℕ) → stage_refusal s ≡ None → stage_refusal (landing_line_step at s line).stage ≡ Some (landing_fault.Line i) → i ≡ at
unfolding landing_line_step
line_step-bad at stage.Between line i good e = head_step-bad at (line_read landing_line_of line) i e
line_step-bad at (stage.Block b) line i good e = change_step-bad at b (line_read (change_after b.batch) line) i e
line_step-bad at (stage.Refused why) line i good e = absurd (cc)

-- it is the one that was read
pub reading_after-bad : (r : LandingReading) (line : List ℕ) (i : ℕ) → stage_refusal r.stage ≡ None → stage_refusal (reading_after r line).stage ≡ Some (landing_fault.Line i) → i ≡ r.at
reading_after-bad r line i good e = line_step-bad r.at r.stage line i good e

-- the line that is missing at the end is the next one
pub refusal_at_end-next : (at : ℕ) (s : Stage) (i : ℕ) → stage_refusal s ≡ None → refusal_at_end at s ≡ Some (landing_fault.Line i) → i ≡ at
refusal_at_end-next at stage.Between i good e = absurd (cc)
refusal_at_end-next at (stage.Block b) i good e = cc
refusal_at_end-next at (stage.Refused why) i good e = absurd (cc)

-- a line is counted, unless one was refused
pub number_after-good : (at : ℕ) (s : Stage) → stage_refusal s ≡ None → number_after at s ≡ at + 1
number_after-good at stage.Between good = refl
number_after-good at (stage.Block b) good = refl
number_after-good at (stage.Refused why) good = absurd (cc)
