-- The last key is the greatest, so a key above it has its gap at the end.
use Rattle.std.proofs.Common.{◌∙◌, sym, ap, is_lt}
use Rattle.jf_split.proofs.Searches.{gap-end}
use Rattle.jf_split.proofs.batch.is_above_all.Goals as goal

pub returns-in-Some : goal.returns-in-Some
returns-in-Some c = λ is. gap-end c.args.key.now c.args.entries.now c.in-Some.entry.now c.requires (sym c.in-Some.ensures.value) (sym (c.is_lt.ensures ∙ ap is_lt c.order_of.ensures) ∙ is)
