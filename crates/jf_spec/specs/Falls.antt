-- How deep a form is nested: at most 257 levels, less its depth.
use Rattle.std.specs.Prelude.{◌≤◌, ℕ, max}
use Rattle.std.proofs.Common.{arith}
use Rattle.jf_spec.specs.Forms.{IsSoundTreeForm, node_value, tree_levels}
use Rattle.jf_spec.specs.declared.node.Form.{Form}
use Rattle.jf_spec.specs.declared.node.Form.TheVariants.{Stored, Leaf, Branch}
use Rattle.jf_spec.specs.declared.node.Node.TheDeep.{deep-Form}

tree_form_falls : (depth : ℕ) (f : Form) → IsSoundTreeForm depth f → deep-Form f ≤ tree_levels (node_value depth f)
tree_form_falls depth (Stored range) h = omega arith
tree_form_falls depth (Leaf leaf) h = omega arith
tree_form_falls depth (Branch branch) h = omega (arith, h.deep, h.zeros_deep, h.ones_deep)

pub tree_falls : (depth : ℕ) (f : Form) → IsSoundTreeForm depth f → max (deep-Form f) 0 ≤ tree_levels (node_value depth f)
tree_falls depth f h = omega (arith, tree_form_falls depth f h)
