-- The effect of the restore of a version from an input on a store, by how it ended.
use Rattle.std.specs.Prelude.{◌≡◌, ◌≢◌, ◌⊎◌, ℕ, List, [], length, Option, Some, None, Result, Ok, Err}
use Rattle.jf_hash.specs.Maps.{map_of_entries}
use Rattle.jf_hash.specs.Roots.{root}
use Rattle.jf_io.specs.Lines.{lines}
use Rattle.jf_io.specs.Sink.{IsCutShort}
use Rattle.jf_evidence.specs.Ranges.{Entries}
use Rattle.jf_engine.specs.Engines.{Engine}
use Rattle.jf_restore.specs.Finishes.{IsNewStore, IsInUse, HasImported, HasBrokenOff}
use Rattle.jf_input.specs.Feeds.{Appends, ReadsFew}
use Rattle.jf_receive.specs.Chunks.{chunks, refusal_decided_by}
use Rattle.jf_receive.specs.declared.fault.BlockFault.{BlockFault}
use Rattle.jf_receive.specs.declared.fault.BlockFault.TheVariants as block_fault
use Rattle.jf_receive.specs.Restored.{restore_result, of_block, restored_text, DecideFirst}
use Rattle.jf_receive.specs.declared.received.Received.{Received}
use Rattle.jf_receive.specs.declared.received.Received.TheVariants as received
use Rattle.jf_receive.specs.declared.received.RestoreFault.{RestoreFault}
use Rattle.jf_receive.specs.declared.received.RestoreFault.TheVariants as fault

-- ---- how far the input was read
-- the most bytes that the source is asked for at a time
abbrev pub restore_piece : ℕ
restore_piece = 4096

-- the input, if it is known, has this result
abbrev pub ComesTo : ℕ → List ℕ → Option (List ℕ) → Result Entries RestoreFault → Type 0
ComesTo generation announced rest r = (input : List ℕ) → rest ≡ Some input → restore_result generation announced input ≡ r

-- the input, if it is known, was read to its end
abbrev pub IsReadUp : Option (List ℕ) → Option (List ℕ) → Type 0
IsReadUp rest rest' = (input : List ℕ) → rest ≡ Some input → rest' ≡ Some []

-- lines decide the refusal, and fewer than 4,096 bytes after the last of them were taken; or no line decides it but that the
-- input ends, and it was read to its end
abbrev pub ReadsToDecision : List ℕ → Option (List ℕ) → Option (List ℕ) → BlockFault → Type 0
ReadsToDecision announced rest rest' why =
    ((ls : List (List ℕ)) × DecideFirst announced ls why × ReadsFew restore_piece rest rest' ls)
    ⊎ (IsReadUp rest rest' × ((input : List ℕ) → rest ≡ Some input → refusal_decided_by (length (lines input)) (chunks announced [] (lines input)) ≡ None))

-- ---- how it ended
-- a line or a block was refused, which is the result of the input
pub record RefusesBlock (announced : List ℕ) (old : Engine) (rest rest' : Option (List ℕ)) (why : BlockFault) : Type 0 where
  pub unused : IsNewStore old.versions
  pub comes : ComesTo old.generation announced rest (Err (of_block why))
  pub soon : ReadsToDecision announced rest rest' why

-- the whole input was read and refused, which is the result of the input
pub record RefusesWhole (announced : List ℕ) (old : Engine) (rest rest' : Option (List ℕ)) (why : RestoreFault) : Type 0 where
  pub unused : IsNewStore old.versions
  pub comes : ComesTo old.generation announced rest (Err why)
  pub read : IsReadUp rest rest'

-- why a restore was refused: the store isn't new, and nothing was read; or by the input
abbrev pub RefusesBy : List ℕ → Engine → Option (List ℕ) → Option (List ℕ) → RestoreFault → Type 0
RefusesBy announced old rest rest' (fault.NotEmpty head) = (head ≡ old.versions.head) × IsInUse old.versions × (rest' ≡ rest)
RefusesBy announced old rest rest' (fault.Line at) = RefusesBlock announced old rest rest' (block_fault.Line at)
RefusesBy announced old rest rest' (fault.Chunk at why) = RefusesBlock announced old rest rest' (block_fault.Chunk at why)
RefusesBy announced old rest rest' (fault.NotWhole wanted found) = (wanted ≡ announced) × (found ≢ announced) × RefusesWhole announced old rest rest' (fault.NotWhole wanted found)
RefusesBy announced old rest rest' fault.Last = RefusesWhole announced old rest rest' fault.Last

-- the whole input was read, and restores these entries, whose map has the announced root
pub record RestoresEntries (announced : List ℕ) (es : Entries) (old : Engine) (rest rest' : Option (List ℕ)) : Type 0 where
  pub comes : ComesTo old.generation announced rest (Ok es)
  pub read : IsReadUp rest rest'
  pub rooted : root (map_of_entries es) ≡ announced

-- the store was new and is unchanged
abbrev pub StaysNew : Engine → Engine → Type 0
StaysNew old new = IsNewStore old.versions × (new ≡ old)

-- what a restore made, by how it ended: the store holds the version, and the text has its line, or a front of it; or the text
-- is unchanged, and so is the store unless the disk failed
abbrev pub HasReceived : Received → ℕ → List ℕ → Engine → Engine → Option (List ℕ) → Option (List ℕ) → Option (List ℕ) → Option (List ℕ) → Type 0
HasReceived received.Done version announced old new rest rest' text text' =
    (es : Entries) × RestoresEntries announced es old rest rest' × HasImported version es old new × Appends text text' (restored_text version announced (length es))
HasReceived received.WriteFault version announced old new rest rest' text text' =
    (es : Entries) × RestoresEntries announced es old rest rest' × HasImported version es old new × IsCutShort text text' (restored_text version announced (length es))
HasReceived received.DiskFault version announced old new rest rest' text text' = (es : Entries) × RestoresEntries announced es old rest rest' × HasBrokenOff version es old new × (text' ≡ text)
HasReceived received.ReadFault version announced old new rest rest' text text' = StaysNew old new × (text' ≡ text)
HasReceived received.Memory version announced old new rest rest' text text' = StaysNew old new × (text' ≡ text)
HasReceived (received.Refused why) version announced old new rest rest' text text' = RefusesBy announced old rest rest' why × (new ≡ old) × (text' ≡ text)

-- it ended so, unless the source failed or memory ran out
abbrev pub EndsUnlessStopped : Received → Received → Type 0
EndsUnlessStopped that how = (how ≡ that) ⊎ (how ≡ received.ReadFault) ⊎ (how ≡ received.Memory)
