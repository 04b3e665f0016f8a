use Rattle.std.proofs.Common.{ap, ◌∙◌}
use Rattle.std.specs.FinMap as fin
use Rattle.jf_plain.proofs.Views.{len-of}
use Rattle.jf_plain.proofs.map.PlainMap.len.Goals as goal

pub returns : goal.returns
returns c = c.len.ensures ∙ c.self.inside.entries.ok.0 ∙ len-of _ c.self.invariant ∙ ap fin.len c.self.view_is
