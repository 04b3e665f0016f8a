-- The entries whose nibble is not greater are the run of this nibble.
use Rattle.std.proofs.Common.{rules, ◌≡◌, ℕ, ◌-◌, ◌≤◌, leb, true, false, List, drop, take, length, [], None, Option, subst}
use Rattle.std.specs.List.Sorted.{IsPartitionPoint}
use Rattle.std.proofs.lemmas.List.{take_rest}
use Rattle.std.proofs.lemmas.List.Sorted.{IsPartitionPoint-from_clause, IsPartitionedBy-leb, IsNonDecreasingBy-drop, IsNonDecreasingBy-take}
use Rattle.jf_path.specs.Nibbles.{nibble}
use Rattle.jf_split.proofs.Ends.{IsRun, IsRun-from_partition}
use Rattle.jf_split.proofs.piece.end_of_piece.Goals as goal

pub returns : goal.returns
returns c =
    let es = c.args.entries.now in
    let rest = take_rest es c.args.start in
    let part = take (length es - c.args.start) (drop c.args.start es) in
    let n = λ (e : List ℕ × Option (List ℕ)). nibble e.0 c.args.depth in
    let rising = IsNonDecreasingBy-take n (length es - c.args.start) (drop c.args.start es) (IsNonDecreasingBy-drop n c.args.start es c.requires.sorted) in
    let parted : IsPartitionPoint (λ e. leb (nibble e.0 c.args.depth) c.args.here ≡ true) (λ e. leb (nibble e.0 c.args.depth) c.args.here ≡ false) part c.partition_point.result =
    IsPartitionPoint-from_clause (λ e. leb (nibble e.0 c.args.depth) c.args.here) _ _ c.partition_point.ensures.partitioned (IsPartitionedBy-leb n part c.args.here rising) (λ a r f called. search rules) in
    let run : IsRun n es c.args.start _ c.args.here = IsRun-from_partition n es c.args.start c.partition_point.result c.args.here ([], None) c.requires.sorted c.requires.within
    (subst (λ xs. c.partition_point.result ≤ length xs) rest c.partition_point.ensures.bound) c.requires.here
    (subst (λ xs. IsPartitionPoint (λ e. leb (n e) c.args.here ≡ true) (λ e. leb (n e) c.args.here ≡ false) xs c.partition_point.result) rest parted) in
    record { behind = run.behind; within = run.within; nibble = run.nibble; other = run.other }
