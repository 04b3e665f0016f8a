-- What a format keeps of a leaf is all, and of an internal node what it keeps of its children.
use Rattle.std.proofs.Common.{◌≡◌, ℕ, List, [], ◌∷◌, map, refl, ap}
use Rattle.jf_path.specs.declared.children.Child.{Child}
use Rattle.jf_path.specs.declared.node.PlainNode.TheVariants as node
use Rattle.jf_codec.specs.Counted.{in_format}
use Rattle.jf_codec.specs.declared.format.Format.{Format}
use Rattle.jf_codec.specs.declared.format.Format.TheVariants as format
use Rattle.jf_replay.specs.Kept.{child_in_format}

pub inner_kept : (fmt : Format) (cs : List Child) → node.Inner (map (child_in_format fmt) cs) ≡ in_format fmt (node.Inner cs)
inner_kept format.One cs = refl
inner_kept format.Two cs = ap (λ xs. node.Inner xs) (same cs)
  where
    same : (cs : List Child) → map (child_in_format format.Two) cs ≡ cs
    same [] = refl
    same (c ∷ cs) = ap (λ xs. c ∷ xs) (same cs)
