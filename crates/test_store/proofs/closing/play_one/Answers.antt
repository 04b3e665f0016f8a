use Rattle.std.proofs.Common.{rules, ◌≡◌, [], ◌∷◌}
use lib.ListN.{get_or}
use Rattle.test_store.proofs.Ends.{all_one, first_new}
use Rattle.test_store.proofs.closing.play_one.Goals as goal

pub returns-clause-gathered : goal.returns-clause-gathered
returns-clause-gathered g c = all_one c.args.store.now _ c.play_on.new.pass (get_or c.as_mut_slice.result.now 0 c.index-pass-0.result) (search rules) c.play_on.ensures.1 (first_new c.args.store.now c.args.passes.now.items c.as_mut_slice.result.now c.index-pass-0.result c.requires.new c.as_mut_slice.ensures.value c.in-len1.len_at_least) c.requires.alone
