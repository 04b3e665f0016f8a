use Rattle.std.proofs.Common.{◌∙◌, subst, IfOk}
use Rattle.std.specs.List.Sorted.{IsPermutation}
use Rattle.std.specs.Option.{option_copied}
use Rattle.jf_join.proofs.AnswerLaws.{AnswersEach-at, AnswersEach-length}
use Rattle.jf_node.specs.Children.{content}
use Rattle.jf_diff.specs.PartLists.{ArePartLists}
use Rattle.jf_diff.proofs.PartLaws.{all_parts}
use Rattle.jf_diff.proofs.TopLaws.{stale_distinct}
use Rattle.jf_diff.proofs.wide.written_wide.Goals as goal

pub put_together-requires : goal.put_together-requires
put_together-requires g c =
    let old = option_copied c.args.old in
    let top = option_copied c.args.top in
    record {
      parts = all_parts c.args.version old top c.deref.result.now c.in_ok-parts.parts.items (c.deref.ensures.value ∙ c.in_ok-nibbles.ensures) (AnswersEach-length c.in_ok-parts.ensures)
          (AnswersEach-at c.in_ok-parts.ensures (λ n r. IfOk r (ArePartLists c.args.version old top n)) (λ n r h. subst (λ m. IfOk r (ArePartLists c.args.version old top m)) h.shows h.says.met));
    }

pub sorted_names-requires : goal.sorted_names-requires
sorted_names-requires g c = stale_distinct c.args.head (option_copied c.args.old) (content (option_copied c.args.top)) _ (c.in_ok-fresh.ensures.stale c.requires.landed) c.requires.sorted c.requires.old_sorted

pub returns-clause-stale : goal.returns-clause-stale
returns-clause-stale g c = subst (λ ns. IsPermutation ns c.sorted_names.result) (c.in_ok-fresh.ensures.stale c.requires.landed) c.sorted_names.ensures
