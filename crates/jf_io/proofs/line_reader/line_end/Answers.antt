use Rattle.std.proofs.Common.{◌≤◌, ◌-◌, length, drop, arith, length-drop}
use Rattle.std.proofs.lemmas.List.{take_all}
use Rattle.jf_io.proofs.Lines.{first_line_feed_from}
use Rattle.jf_io.proofs.line_reader.line_end.Goals as goal

pub returns-clause-value : goal.returns-clause-value
returns-clause-value c =
    let bytes = c.args.bytes.now in
    let searched = c.args.searched in
    let all : length (drop searched bytes) ≤ length bytes - searched = omega (arith, length-drop searched bytes) in
    rw (c.first_line_feed.ensures.value, take_all (length bytes - searched) (drop searched bytes) all) (first_line_feed_from bytes c.args.start searched c.requires)
