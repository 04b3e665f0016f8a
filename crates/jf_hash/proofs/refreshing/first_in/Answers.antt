use Rattle.std.proofs.Common.{◌≡◌, ◌∙◌, arith, take, drop}
use Rattle.std.specs.List.{count_by}
use Rattle.std.proofs.lemmas.Bool.Decides.{nat_tests}
use Rattle.jf_hash.proofs.OccupiedLaws.{first_child_hash-none, first_child_hash-take}
use Rattle.jf_hash.proofs.refreshing.first_in.Goals as goal

pub returns-then-is_empty : goal.returns-then-is_empty
returns-then-is_empty g c =
    let bits = c.args.occupied.now.children in
    let none : count_by (λ bit. bit) (take c.args.width (drop c.args.start bits)) ≡ 0 = grind (arith, nat_tests, c.is_empty.ensures, c.if-is_empty.true) in
    c.empty.ensures ∙ first_child_hash-none c.args.start c.args.width bits (g.P.Places.slots c.args.places.now) c.requires.children none

pub returns-else-is_empty : goal.returns-else-is_empty
returns-else-is_empty g c =
    let bits = c.args.occupied.now.children in
    let some : count_by (λ bit. bit) (take c.args.width (drop c.args.start bits)) ≡ 0 → ⊥ = λ none. grind (arith, nat_tests, c.is_empty.ensures, c.if-is_empty.false, none) in
    c.first_hash.ensures ∙ first_child_hash-take c.args.start c.args.width bits (g.P.Places.slots c.args.places.now) c.requires.children some
