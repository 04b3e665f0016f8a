use Rattle.std.proofs.Common.{◌≡◌, IfOk, length, subst, sym}
use Rattle.jf_update.proofs.CountLaws.{count-empty}
use Rattle.jf_update.proofs.RestoreLaws.{nodes-sorted, whole_part}
use Rattle.jf_update.proofs.count.count_of_nodes.Goals as goal

pub returns-in-empty : goal.returns-in-empty
returns-in-empty c = count-empty c.args.entries.now c.in-empty.len_below

pub count_part-requires-clause-part : goal.count_part-requires-clause-part
count_part-requires-clause-part c = (_, whole_part c.args.entries.now c.requires.sorted c.know_entries.ensures)

pub returns-in_default : goal.returns-in_default
returns-in_default c = subst (λ xs. IfOk c.count_part.result (λ n. n ≡ length xs)) (sym (nodes-sorted c.args.entries.now c.in_default.len_at_least c.requires.sorted)) c.count_part.ensures
