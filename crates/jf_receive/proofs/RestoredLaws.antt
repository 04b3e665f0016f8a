-- The result of an input whose lines are refused.
use Rattle.std.proofs.Common.{◌≡◌, ℕ, List, [], ap, Result, Ok, Err}
use Rattle.jf_io.specs.Lines.{lines}
use Rattle.jf_evidence.specs.Ranges.{Entries}
use Rattle.jf_receive.specs.Chunks.{chunks}
use Rattle.jf_receive.specs.declared.fault.BlockFault.{BlockFault}
use Rattle.jf_receive.specs.Restored.{restore_result, restored_entries, of_block}
use Rattle.jf_receive.specs.declared.received.RestoreFault.{RestoreFault}

-- the result of lines, as the result of an input
abbrev comes_to : ℕ → List ℕ → Result Entries BlockFault → Result Entries RestoreFault
comes_to generation root r = elim r [ Ok es ↦ restored_entries generation root es | Err why ↦ Err (of_block why) ]

pub restored-err : (generation : ℕ) (root input : List ℕ) (why : BlockFault) → chunks root [] (lines input) ≡ Err why → restore_result generation root input ≡ Err (of_block why)
restored-err generation root input why is = ap (comes_to generation root) is
