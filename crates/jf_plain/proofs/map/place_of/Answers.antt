-- The key function gives an entry's key, and the keys ascend.
use Rattle.std.proofs.Common.{rules}
use Rattle.std.proofs.lemmas.List.Sorted.{answers_always}
use Rattle.jf_plain.proofs.Places.{placed}
use Rattle.jf_plain.proofs.map.place_of.Goals as goal

pub returns : goal.returns
returns c =
    let facts = c.binary_search_by_key.ensures in
    let by_key = facts.position (λ e. e.0) (answers_always _ _ _ (λ f a r g called. search rules)) in
    rw c.ok.ensures.value (placed c.args.key.now c.args.entries.now c.binary_search_by_key.result c.requires facts.bound by_key)
