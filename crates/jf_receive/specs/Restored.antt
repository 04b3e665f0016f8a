-- The result of the input of a restore, and the line on a restored version (docs/FORMATS.md, "Restoring a version").
use Rattle.std.specs.Prelude.{◌≡◌, ℕ, ◌-◌, ◌^◌, ◌<◌, List, [], ◌∷◌, length, take, not, ◌||◌, ◌==◌, nat_lt, if◌then◌else◌, bytes_eq, codes, decimal, Some, None, Result, Ok, Err}
use Rattle.hex.specs.Hex.{encode_lower}
use Rattle.jf_hash.specs.Roots.{part_root}
use Rattle.jf_evidence.specs.Ranges.{Entries}
use Rattle.jf_io.specs.Lines.{lines}
use Rattle.jf_text.specs.Words.{line_text}
use Rattle.jf_receive.specs.Chunks.{chunks, refusal_decided_by}
use Rattle.jf_receive.specs.declared.fault.BlockFault.{BlockFault}
use Rattle.jf_receive.specs.declared.fault.BlockFault.TheVariants as block_fault
use Rattle.jf_receive.specs.declared.received.RestoreFault.{RestoreFault}
use Rattle.jf_receive.specs.declared.received.RestoreFault.TheVariants as fault

-- the refusal of a line or of a block. No lines result in `Memory`, so it doesn't matter what represents it
abbrev pub of_block : BlockFault → RestoreFault
of_block (block_fault.Line at) = fault.Line at
of_block (block_fault.Chunk at why) = fault.Chunk at why
of_block block_fault.Memory = fault.Last

-- the entries of all blocks, if they result in the announced root, and files of this generation can take so many
abbrev pub restored_entries : ℕ → List ℕ → Entries → Result Entries RestoreFault
restored_entries generation root es =
    if not (bytes_eq (part_root 0 es) root) then Err (fault.NotWhole root (part_root 0 es))
    else if (generation == 2 ^ 64 - 2) || nat_lt (2 ^ 62) (length es) then Err fault.Last
    else Ok es

-- the entries that an input restores under an announced root, into a new store whose files have this generation; or the
-- first refusal: of a line or a block, then of the root, then of the numbers
abbrev pub restore_result : ℕ → List ℕ → List ℕ → Result Entries RestoreFault
restore_result generation root input = elim (chunks root [] (lines input)) [ Ok es ↦ restored_entries generation root es | Err why ↦ Err (of_block why) ]

-- the line that tells of a restored version: its number, its root, and how many entries it has
abbrev pub restored_text : ℕ → List ℕ → ℕ → List ℕ
restored_text version root count = line_text (codes "restored" ∷ decimal version ∷ encode_lower root ∷ decimal count ∷ [])

-- these lines decide a refusal, and those before the last of them don't
pub record DecideFirst (root : List ℕ) (ls : List (List ℕ)) (why : BlockFault) : Type 0 where
  pub decides : refusal_decided_by (length ls) (chunks root [] ls) ≡ Some why
  pub not_before : (n : ℕ) → n < length ls → refusal_decided_by n (chunks root [] (take n ls)) ≡ None
