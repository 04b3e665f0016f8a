-- What holds of all landing blocks, as statements for calls that do nothing and ensure them.
use Rattle.std.specs.Prelude.{◌≡◌, ℕ, ◌^◌, ◌<◌, ◌+◌, List, [], ◌∷◌, ◌++◌, length, Some, None, IsTrue}
use Rattle.std.specs.List.{AllByRecursion}
use Rattle.jf_hash.specs.Maps.{IsBatch}
use Rattle.jf_split.specs.Limits.{IsWithinLimits}
use Rattle.jf_io.specs.Lines.{lines}
use Rattle.jf_text.specs.Words.{is_long}
use Rattle.jf_blocks.specs.Laws.{IsHash}
use Rattle.jf_lead.specs.declared.block.LandingBlock.{LandingBlock}
use Rattle.jf_lead.specs.declared.fault.LandingFault.TheVariants as fault
use Rattle.jf_lead.specs.Landings.{landings_text}
use Rattle.jf_lead.specs.Reading.{landing_blocks}
use Rattle.jf_lead.specs.Steps.{LandingReading, begun_reading, reading_after, reading_after_all, ended_block, ended_blocks, stage_refusal, blocks_after, decided_refusal}

-- lines read one by one give what they give all together: the whole blocks, and the line that is refused at the end
abbrev pub LandingsComeLineByLine : Type 0
LandingsComeLineByLine = (ls : List (List ℕ)) → landing_blocks ls ≡ blocks_after begun_reading ls

-- after lines, the refusal is the one that they decide
abbrev pub LandingRefusalsComeAtTheirLine : Type 0
LandingRefusalsComeAtTheirLine = (ls : List (List ℕ)) → stage_refusal (reading_after_all begun_reading ls).stage ≡ decided_refusal (length ls) (landing_blocks ls).bad

-- lines that follow give further blocks, after those that were given before
abbrev pub LandingBlocksStay : Type 0
LandingBlocksStay = (s : LandingReading) (ls ms : List (List ℕ)) → ended_blocks s (ls ++ ms) ≡ ended_blocks s ls ++ ended_blocks (reading_after_all s ls) ms

-- after a refusal, all lines that begin with these give the same blocks and the same refusal
abbrev pub LandingRefusalsStay : Type 0
LandingRefusalsStay = (ls ms : List (List ℕ)) (at : ℕ) → stage_refusal (reading_after_all begun_reading ls).stage ≡ Some (fault.Line at)
    → landing_blocks (ls ++ ms) ≡ record { whole = (landing_blocks ls).whole; bad = Some at }

-- two lines that are too long give the same
abbrev pub LongLandingLinesAreAlike : Type 0
LongLandingLinesAreAlike = (s : LandingReading) (line other : List ℕ) → IsTrue (is_long line) → IsTrue (is_long other)
    → (reading_after s line ≡ reading_after s other) × (ended_block s line ≡ ended_block s other)

-- ---- what was written is read back
-- a block that can be written: a version of 64 bits, a root of 32 bytes, and a batch within its limits
pub record IsLandingBlock (b : LandingBlock) : Type 0 where
  pub version : b.version < 2 ^ 64
  pub root : IsHash b.root
  pub batch : IsBatch b.batch
  pub limits : IsWithinLimits b.batch

-- blocks with the numbers of their first lines, if they follow one another from this line on
abbrev pub with_first_lines : ℕ → List LandingBlock → List (ℕ × LandingBlock)
with_first_lines at [] = []
with_first_lines at (b ∷ bs) = (at, b) ∷ with_first_lines (at + 1 + length b.batch) bs

-- blocks that were written are read as what was written
abbrev pub LandingsAreReadBack : Type 0
LandingsAreReadBack = (bs : List LandingBlock) → AllByRecursion IsLandingBlock bs
    → landing_blocks (lines (landings_text bs)) ≡ record { whole = with_first_lines 1 bs; bad = None }

-- whole blocks that are read, of whatever lines, can be written
abbrev pub LandingBlocksAreSound : Type 0
LandingBlocksAreSound = (ls : List (List ℕ)) → AllByRecursion (λ b. IsLandingBlock b.1) (landing_blocks ls).whole
