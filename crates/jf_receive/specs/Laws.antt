-- What holds of all lines of chunk blocks, as statements for calls that do nothing and ensure them.
use Rattle.std.specs.Prelude.{Result, Ok, Err, ◌≡◌, ◌≢◌, ℕ, List, length, ◌++◌, Some, IsTrue}
use Rattle.jf_evidence.specs.Ranges.{Entries}
use Rattle.jf_restore.specs.RestoreValue.{RestoreValue}
use Rattle.jf_text.specs.Words.{is_long}
use Rattle.jf_receive.specs.declared.fault.BlockFault.{BlockFault}
use Rattle.jf_receive.specs.declared.fault.BlockFault.TheVariants as fault
use Rattle.jf_receive.specs.Chunks.{chunks, refusal_decided_by}
use Rattle.jf_receive.specs.Steps.{restoring_start, restoring_after_lines, restored_at_end, refusal_at_stage, Restoring, restoring_after}

-- the restore with these entries
abbrev pub with_entries : RestoreValue → Result Entries BlockFault → Result RestoreValue BlockFault
with_entries r (Ok es) = Ok (record { version = r.version; root = r.root; entries = es })
with_entries r (Err why) = Err why

-- lines read one by one give what they give all together: a restore with all entries, or the first refusal
abbrev pub ChunksComeLineByLine : Type 0
ChunksComeLineByLine = (r : RestoreValue) (ls : List (List ℕ)) → restored_at_end (restoring_after_lines (restoring_start r) ls) ≡ with_entries r (chunks r.root r.entries ls)

-- after lines, the refusal is the one that they decide
abbrev pub RefusalsComeAtTheirLine : Type 0
RefusalsComeAtTheirLine = (r : RestoreValue) (ls : List (List ℕ)) → refusal_at_stage (restoring_after_lines (restoring_start r) ls).stage ≡ refusal_decided_by (length ls) (chunks r.root r.entries ls)

-- after a refusal, all lines that begin with these give the same refusal
abbrev pub RefusalsStay : Type 0
RefusalsStay = (r : RestoreValue) (ls ms : List (List ℕ)) (why : BlockFault) → refusal_at_stage (restoring_after_lines (restoring_start r) ls).stage ≡ Some why → chunks r.root r.entries (ls ++ ms) ≡ Err why

-- two lines that are too long give the same
abbrev pub LongChunkLinesAreAlike : Type 0
LongChunkLinesAreAlike = (s : Restoring) (line other : List ℕ) → IsTrue (is_long line) → IsTrue (is_long other) → restoring_after s line ≡ restoring_after s other

-- lines are refused for what they say, and never because memory runs out
abbrev pub NoLinesComeToMemory : Type 0
NoLinesComeToMemory = (root : List ℕ) (known : Entries) (ls : List (List ℕ)) → chunks root known ls ≢ Err fault.Memory
