use Rattle.std.proofs.Common.{rules, ltb, length, drop, take_all, length-drop, arith, subst, sym, ◌-◌}
use Rattle.std.proofs.lemmas.List.Sorted.{IsPartitionPoint-from_clause}
use Rattle.jf_forks.specs.Lives.{IsFrom}
use Rattle.jf_forks.specs.declared.live.LiveFork.{LiveFork}
use Rattle.jf_forks.proofs.Numbers.{parted, from_point}
use Rattle.jf_forks.proofs.live.from_number.Goals as goal

pub returns : goal.returns
returns c =
    let xs = c.args.live.now in
    let p = c.partition_point.result in
    let point = IsPartitionPoint-from_clause (λ (f : LiveFork). ltb c.args.id f.id) _ _ c.partition_point.ensures.partitioned (parted c.args.id c.requires.0 xs c.requires.1) (λ a r f called. search rules) in
    subst (IsFrom c.args.id xs) (sym (take_all (length xs - p) (drop p xs) (omega (arith, length-drop p xs)))) (from_point c.args.id c.requires.0 p xs c.requires.1 c.partition_point.ensures.bound point)
