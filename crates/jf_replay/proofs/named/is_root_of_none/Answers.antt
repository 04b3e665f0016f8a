use Rattle.std.specs.Cmp.{unsigned_Decides}
use Rattle.std.proofs.Common.{eq-eqb, ◌∙◌}
use Rattle.jf_replay.proofs.Nodes.{none_named}
use Rattle.jf_replay.proofs.named.is_root_of_none.Goals as goal

pub returns-else-len-eq0 : goal.returns-else-len-eq0
returns-else-len-eq0 c = (
  λ is. absurd (c.if-len-eq0.false ((unsigned_Decides c.len.result 0).0 is)),
  λ named. eq-eqb c.len.result 0 (c.len.ensures.value ∙ none_named c.args.snapshot.now c.args.name.now.version c.args.name.now.path c.requires named),
)
