use Rattle.std.proofs.Common.{rules, arith, sym, ap, ◌∙◌, []}
use Rattle.jf_window.specs.Rule.{newcomer}
use Rattle.jf_window.proofs.Keeps.{claims, either_up}
use Rattle.jf_window.proofs.window.Window.claim.Goals as goal

pub compare_exchange-requires : goal.compare_exchange-requires
compare_exchange-requires g c =
    let words = c.self.invariant.0 in
    let slots = c.self.invariant.1 in
    let key = ap (λ w. w.key) c.self.view_is in
    (search rules, omega arith, claims g.T.Fits.fits c.self.inside.table.shared.key c.self.inside.table.shared.table_id.slots _ 0 1 _ _ (c.requires.away ∙ ap (λ k. (newcomer k, [])) (sym key)) either_up)
