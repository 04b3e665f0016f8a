use Rattle.std.proofs.Common.{rules, arith, sym, ap, ◌∙◌, []}
use Rattle.jf_window.specs.Rule.{newcomer}
use Rattle.jf_window.proofs.Keeps.{claims, mark_up}
use Rattle.jf_window.proofs.window.Window.claim_or_mark.Goals as goal

pub swap-requires : goal.swap-requires
swap-requires g c =
    let words = c.self.invariant.0 in
    let slots = c.self.invariant.1 in
    let key = ap (λ w. w.key) c.self.view_is in
    (search rules, omega arith, claims g.T.Fits.fits c.self.inside.table.shared.key c.self.inside.table.shared.table_id.slots _ 2 0 _ _ (c.requires.away ∙ ap (λ k. (newcomer k, [])) (sym key)) mark_up)
