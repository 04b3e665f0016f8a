use Rattle.std.proofs.Common.{ap, ◌∙◌, ◌++◌}
use Rattle.test_sharing.proofs.Gathering.{three_numbers}
use Rattle.test_sharing.proofs.turns.finish.Goals as goal

pub close-requires-clause-gathered : goal.close-requires-clause-gathered
close-requires-clause-gathered c =
    let ns = c.requires.numbers in let first = ap (λ s. s.numbers) c.join.ensures.joins in let both = ap (λ s. s.numbers) c.join-2.ensures.joins in
    λ n less. three_numbers _ _ n (both ∙ (ap (λ xs. xs ++ c.args.three.numbers) first ∙ (λ i. (ns.0 i ++ ns.1 i) ++ ns.2 i))) c.requires.seats.0 less
