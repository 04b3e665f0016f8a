-- The keys of a hash map differ, so each is one of the batch.
use Rattle.std.proofs.Common.{◌∙◌, ap, sym, length}
use Rattle.jf_split.proofs.KeyOrderLaws.{length-in_key_order}
use Rattle.jf_split.proofs.pending.Pending.len.Goals as goal

pub returns : goal.returns
returns c = c.len.ensures.len ∙ sym (length-in_key_order c.self.inside.entries.entries c.len.ensures.unique) ∙ ap length c.self.view_is
