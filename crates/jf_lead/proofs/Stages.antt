-- After a refusal nothing changes.
use Rattle.std.proofs.Common.{◌≡◌, ℕ, ◌-◌, nat_lt, Bool, true, false, cond, List, Option, Some, None, refl}
use Rattle.jf_model.specs.Puts.{Change}
use Rattle.jf_blocks.specs.Reading.{line_read}
use Rattle.jf_lead.specs.declared.head.LandingHead.{LandingHead}
use Rattle.jf_lead.specs.declared.stage.Begun.{Begun}
use Rattle.jf_lead.specs.Reading.{landing_line_of, change_after}
use Rattle.jf_lead.specs.declared.stage.Stage.{Stage}
use Rattle.jf_lead.specs.declared.stage.Stage.TheVariants as stage
use Rattle.jf_lead.specs.declared.fault.LandingFault.{LandingFault}
use Rattle.jf_lead.specs.Steps.{LandingReading, step_to, whole_block, begun_block, with_change, landing_head_step, change_step, landing_line_step, reading_after, ended_block, stage_refusal}

pub refused_after : (at : ℕ) (s : Stage) (why : LandingFault) (line : List ℕ) → s ≡ stage.Refused why
    → (let t : LandingReading = record { at = at; stage = s } in t ≡ reading_after t line)
unfolding landing_line_step
refused_after at s why line e = rw e refl

-- no block ends with a line that is refused
begun_whole : (b : Begun) (why : LandingFault) (t : Bool) → stage_refusal (cond t (step_to (stage.Block b)) (record { stage = stage.Between; block = Some (b.first, whole_block b) })).stage ≡ Some why
    → (cond t (step_to (stage.Block b)) (record { stage = stage.Between; block = Some (b.first, whole_block b) })).block ≡ None
begun_whole b why true e = refl
begun_whole b why false e = absurd (cc)

head_no_block : (at : ℕ) (o : Option LandingHead) (why : LandingFault) → stage_refusal (landing_head_step at o).stage ≡ Some why → (landing_head_step at o).block ≡ None
head_no_block at None why e = refl
head_no_block at (Some head) why e = begun_whole (begun_block at head) why (nat_lt 0 head.changes) e

change_no_block : (at : ℕ) (b : Begun) (o : Option Change) (why : LandingFault) → stage_refusal (change_step at b o).stage ≡ Some why → (change_step at b o).block ≡ None
change_no_block at b None why e = refl
change_no_block at b (Some c) why e = begun_whole (with_change b c) why (nat_lt 0 (b.changes_left - 1)) e

step_no_block : (at : ℕ) (s : Stage) (line : List ℕ) (why : LandingFault) → stage_refusal (landing_line_step at s line).stage ≡ Some why → (landing_line_step at s line).block ≡ None
unfolding landing_line_step
step_no_block at stage.Between line why e = head_no_block at (line_read landing_line_of line) why e
step_no_block at (stage.Block b) line why e = change_no_block at b (line_read (change_after b.batch) line) why e
step_no_block at (stage.Refused w) line why e = refl

pub refused_no_block : (r : LandingReading) (line : List ℕ) (why : LandingFault) → stage_refusal (reading_after r line).stage ≡ Some why → ended_block r line ≡ None
refused_no_block r line why e = step_no_block r.at r.stage line why e
