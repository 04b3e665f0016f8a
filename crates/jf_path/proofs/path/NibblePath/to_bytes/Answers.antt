-- The count is followed by the packed nibbles.
use Rattle.std.proofs.Common.{◌≡◌, ◌+◌, ◌/◌, ◌∙◌, length, ap, sym, arith}
use Rattle.jf_path.specs.PackedPath.{kept_count}
use Rattle.jf_path.specs.Paths.{packed_nibbles}
use Rattle.jf_path.proofs.PathLaws.{length-path_bytes}
use Rattle.jf_path.proofs.PackedPaths.{kept_front, written}
use Rattle.jf_path.proofs.path.NibblePath.to_bytes.Goals as goal

pub returns-clause-value : goal.returns-clause-value
returns-clause-value c =
    let same : c.self.inside.count ≡ length c.args.self.now = sym (kept_count c.self.inside.count c.self.inside.nibbles c.self.invariant) ∙ ap length c.self.view_is in
    ap (λ n. (n + 1) / 2 + 1) same ∙ sym (length-path_bytes c.args.self.now)

pub returns-clause-bytes : goal.returns-clause-bytes
returns-clause-bytes c =
    let same : c.self.inside.count ≡ length c.args.self.now = sym (kept_count c.self.inside.count c.self.inside.nibbles c.self.invariant) ∙ ap length c.self.view_is in
    written c.args.out.now c.copy_from_slice.new.self c.args.self.now c.self.inside.count ((c.self.inside.count + 1) / 2) same
    (c.copy_from_slice.ensures.after ∙ kept_front c.self.inside.count c.self.inside.nibbles c.self.invariant ∙ ap packed_nibbles c.self.view_is)
    (omega (arith, c.told-out, c.self.invariant.short))
