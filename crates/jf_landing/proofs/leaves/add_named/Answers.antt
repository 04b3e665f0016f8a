use Rattle.std.proofs.Common.{◌++◌, List, ℕ, sym, ap, ◌∙◌}
use Rattle.jf_path.specs.declared.name.NodeName.{NodeName}
use Rattle.jf_codec.specs.Spelling.{node_bytes}
use Rattle.jf_codec.proofs.FieldLaws.{ok_is}
use Rattle.jf_standing.proofs.NodesRead.{name_read}
use Rattle.jf_landing.proofs.leaves.add_named.Goals as goal

pub returns-in-Ok-clause-spelled : goal.returns-in-Ok-clause-spelled
returns-in-Ok-clause-spelled c = λ x tail name is e.
    let fmt = c.args.format in
    let same = ok_is (c.in-Ok.field-0-0, c.in-Ok.rest.now) (x.0, node_bytes fmt x.1 ++ tail) (sym c.in-Ok.ensures ∙ name_read fmt x c.args.bytes.now tail name e) in
    c.add_node.ensures.spelled x.1 tail is (ap (λ (p : NodeName × List ℕ). p.1) same)

pub returns-in-Err-clause-spelled : goal.returns-in-Err-clause-spelled
returns-in-Err-clause-spelled c = λ x tail name is e. absurd (let both = sym (name_read c.args.format x c.args.bytes.now tail name e) ∙ c.in-Err.ensures in cc)
