use Rattle.std.proofs.Common.{subst, sym}
use Rattle.std.specs.Option.{option_copied}
use Rattle.jf_node.specs.Children.{content}
use Rattle.jf_diff.specs.Tops.{IsFreshUnder}
use Rattle.jf_diff.proofs.LandingLaws.{landed_top}
use Rattle.jf_diff.proofs.landing.are_cut.Goals as goal

pub are_several-requires-clause-landed : goal.are_several-requires-clause-landed
are_several-requires-clause-landed c =
    let was = option_copied c.top.result in
    let top = option_copied c.top-then-number-gt1.result in
    let landed = landed_top c.args.old.now c.args.new.now was top c.know.ensures c.top.ensures c.top-then-number-gt1.ensures c.requires.next in
    (landed.0, subst (λ v. IsFreshUnder v (content was) landed.0 top) (sym c.version.ensures) landed.1)
