use Rattle.std.proofs.Common.{rules, ◌≡◌, ◌∙◌, length}
use Rattle.test_passes.proofs.Ends.{all_two, own_two, first_new, second_new, two_set}
use Rattle.test_passes.proofs.closing.run_two.Goals as goal

pub returns-clause-own : goal.returns-clause-own
returns-clause-own g c =
    let front = c.split_at_mut-front.result.0.now in
    let back = c.split_at_mut-front.result.1.now in
    let two : c.args.passes.now.len ≡ 2 = search rules in
    let other : length back ≡ 1 = search rules in
    own_two c.args.store.now _ c.run_on.new.first c.run_on.new.second (two_set c.args.passes.now.len front back c.args.passes.now.items c.run_on.new.first c.run_on.new.second two c.split_at_mut-front.ensures.front_len other) c.run_on.ensures.first.0 c.run_on.ensures.second.0

pub returns-clause-gathered : goal.returns-clause-gathered
returns-clause-gathered g c =
    let s = c.args.store.now in
    let items = c.args.passes.now.items in
    let slice = c.as_mut_slice.result.now in
    let front = c.split_at_mut-front.result.0.now in
    let back = c.split_at_mut-front.result.1.now in
    let one = c.split_at_mut-front.ensures.front_len in
    let two : c.args.passes.now.len ≡ 2 = search rules in
    let other : length back ≡ 1 = search rules in
    let same = c.as_mut_slice.ensures.value in
    let halves = c.split_at_mut-front.ensures.value in
    all_two s _ c.run_on.new.first c.run_on.new.second (two_set c.args.passes.now.len front back items c.run_on.new.first c.run_on.new.second two one other)
    (c.run_on.ensures.first.1 ∙ (first_new s items slice front back c.index-front-0.result c.requires.new same halves one).1)
    (c.run_on.ensures.second.1 ∙ (second_new s items slice front back c.index-back-0.result c.requires.new same halves one other).1)
    c.requires.passes
