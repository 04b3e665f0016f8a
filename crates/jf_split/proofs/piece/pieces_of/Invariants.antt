-- The pieces so far are those of the front, whose nibbles are below the next one.
use Rattle.std.proofs.Common.{◌<◌, ◌≤◌, ◌-◌, length, take, get_or}
use Rattle.std.specs.List.{AllWithin}
use Rattle.jf_path.specs.Nibbles.{nibble}
use Rattle.jf_split.specs.Pieces.{ArePieces}
use Rattle.jf_split.proofs.piece.pieces_of.Given as goal

abbrev pub invariant-loop-start : goal.invariant-loop-start
invariant-loop-start l = record {
  within : l.start ≤ length l.entries;
  pieces : ArePieces l.depth (take l.start l.entries) l.pieces.items;
  below : l.start < length l.entries → AllWithin (λ e. nibble e.0 l.depth < nibble (get_or l.entries l.start e).0 l.depth) l.entries 0 l.start;
}

abbrev pub decreases-loop-start : goal.decreases-loop-start
decreases-loop-start l = length l.entries - l.start
