-- What a format keeps of nodes.
use Rattle.jf_path.specs.declared.children.Child.{Child}
use Rattle.jf_codec.specs.Counted.{uncounted_child}
use Rattle.jf_codec.specs.declared.format.Format.{Format}
use Rattle.jf_codec.specs.declared.format.Format.TheVariants as format
pub use Rattle.jf_payload.specs.Counted.{written_in_format}

-- what a format keeps of a child
abbrev pub child_in_format : Format → Child → Child
child_in_format format.One c = uncounted_child c
child_in_format format.Two c = c
