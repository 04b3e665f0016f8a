use Rattle.std.proofs.Common.{sym, ap, ◌∙◌, subst, []}
use Rattle.std.specs.Option.{option_copied}
use Rattle.jf_node.specs.Children.{content}
use Rattle.jf_update.specs.Remainders.{IsKeptEntry}
use Rattle.jf_update.proofs.RemainderLaws.{kept_none, kept_gone, kept_stays}
use Rattle.jf_update.proofs.remainder.kept_of.Goals as goal

pub returns-in-None-clause-entry : goal.returns-in-None-clause-entry
returns-in-None-clause-entry c = subst (λ o. IsKeptEntry (content (option_copied o)) c.args.entries.now []) (sym c.in-None.is) (kept_none c.args.entries.now c.requires.parts.batch.sorted)

pub returns-then-is_first_key-clause-entry : goal.returns-then-is_first_key-clause-entry
returns-then-is_first_key-clause-entry c =
    kept_gone (content (option_copied c.args.own)) c.in-Leaf.key.now c.in-Leaf.value.now c.args.entries.now c.place_of-at.result c.is_first_key.result (ap (λ o. content (option_copied o)) c.in-Some.is ∙ c.in-Leaf.ensures.shows.entries) c.requires.parts.batch.sorted c.place_of-at.ensures c.is_first_key.ensures c.if-is_first_key.true

pub returns-else-is_first_key-clause-entry : goal.returns-else-is_first_key-clause-entry
returns-else-is_first_key-clause-entry c =
    subst (IsKeptEntry (content (option_copied c.args.own)) c.args.entries.now) (ap (λ o. content (option_copied o)) c.in-Some.is)
    (kept_stays (content (option_copied c.args.own)) c.in-Leaf.key.now c.in-Leaf.value.now c.args.entries.now c.place_of-at.result c.is_first_key.result (ap (λ o. content (option_copied o)) c.in-Some.is ∙ c.in-Leaf.ensures.shows.entries) c.requires.parts.batch.sorted c.place_of-at.ensures c.is_first_key.ensures c.if-is_first_key.false)
