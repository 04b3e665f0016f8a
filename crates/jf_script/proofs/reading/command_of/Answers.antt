use Rattle.std.proofs.Common.{sym}
use Rattle.jf_script.proofs.ManyWords.{command_of-many}
use Rattle.jf_script.proofs.reading.command_of.Goals as goal

pub returns-in_default-Some-clause-ok : goal.returns-in_default-Some-clause-ok
returns-in_default-Some-clause-ok c =
    let e1 = rw c.in-Some.is at c.split_word.ensures in
    let e2 = rw c.in-Some-rest.is at c.split_word-2.ensures in
    let e3 = rw c.in-Some-rest-2.is at c.split_word-3.ensures in
    let e4 = rw c.in_default-Some.is-1 at c.split_word-4.ensures in
    sym (command_of-many _ _ _ _ _ _ _ _ _ e1 e2 e3 e4)
