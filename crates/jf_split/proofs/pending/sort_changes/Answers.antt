-- Sorting moves changes until their keys don't fall.
use Rattle.std.proofs.Common.{rules, is_lt}
use Rattle.std.proofs.lemmas.List.Sorted.{answers_always, ranks_by}
use Rattle.std.specs.Cmp.Lexicographic.{nat_list_cmp_total}
use Rattle.jf_path.specs.Keys.{key_cmp}
use Rattle.jf_split.proofs.KeyOrderLaws.{in_key_order-sorted}
use Rattle.jf_split.proofs.pending.sort_changes.Goals as goal

pub returns : goal.returns
returns c =
    in_key_order-sorted _ _ c.requires c.sort_unstable_by.ensures.permutation
    (c.sort_unstable_by.ensures.sorted (λ a b. is_lt (key_cmp a.0 b.0)) (ranks_by nat_list_cmp_total (λ e. e.0)) (answers_always _ _ _ (λ f a r g h. search rules)))
