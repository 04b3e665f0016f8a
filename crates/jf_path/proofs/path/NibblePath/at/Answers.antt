-- A nibble of the path is half of a byte.
use Rattle.std.proofs.Common.{◌≡◌, ◌<◌, length, get_or, ap, subst, sym, ◌∙◌}
use Rattle.std.proofs.lemmas.List.{get_or-take}
use Rattle.jf_path.specs.PackedPath.{kept_count}
use Rattle.jf_path.specs.Paths.{halves}
use Rattle.jf_path.proofs.Halves.{half_halves}
use Rattle.jf_path.proofs.path.NibblePath.at.Goals as goal

pub returns : goal.returns
returns c =
    let half = half_halves c.self.inside.nibbles c.args.i c.half.result (record { even = c.half.ensures.even; odd = c.half.ensures.odd }) in
    let count : length c.args.self.now ≡ c.self.inside.count = ap length (sym c.self.view_is) ∙ kept_count c.self.inside.count c.self.inside.nibbles c.self.invariant in
    sym half ∙ sym (get_or-take c.self.inside.count (halves c.self.inside.nibbles) c.args.i 0 (subst (λ n. c.args.i < n) count c.requires)) ∙ ap (λ p. get_or p c.args.i 0) c.self.view_is
