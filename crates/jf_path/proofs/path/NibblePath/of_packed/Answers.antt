-- The bytes are copied over the first zeros.
use Rattle.std.proofs.Common.{List, ℕ, ap, sym, subst, ◌∙◌, ◌++◌, drop, take, length, replicate, arith}
use Rattle.jf_path.specs.PackedPath.{ArePackedNibbles}
use Rattle.jf_path.specs.Paths.{halves}
use Rattle.jf_path.proofs.PackedPaths.{ArePackedNibbles-over_zeros, nibbles_over_zeros}
use Rattle.jf_path.proofs.path.NibblePath.of_packed.Goals as goal

pub invariant_of-result : goal.invariant_of-result
invariant_of-result c =
    subst (λ (bs : List ℕ). ArePackedNibbles c.args.count (bs ++ drop (length c.args.bytes.now) (replicate 32 0))) (sym c.copy_from_slice.ensures.after)
    (ArePackedNibbles-over_zeros c.args.count c.args.bytes.now c.requires.bounded c.requires.long (λ i. omega (arith, c.type_inv.bytes i)) c.requires.end)

pub returns : goal.returns
returns c =
    ap (λ (bs : List ℕ). take c.args.count (halves (bs ++ drop (length c.args.bytes.now) (replicate 32 0)))) c.copy_from_slice.ensures.after
    ∙ nibbles_over_zeros c.args.count c.args.bytes.now c.requires.bounded c.requires.long (λ i. omega (arith, c.type_inv.bytes i)) c.requires.end
