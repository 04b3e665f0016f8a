-- The closure compares an entry's key, and the keys of a batch rise.
use Rattle.std.proofs.Common.{rules}
use Rattle.std.proofs.lemmas.Fn.{always_returns_same}
use Rattle.jf_path.specs.Keys.{key_cmp}
use Rattle.jf_split.proofs.Searches.{searched}
use Rattle.jf_split.proofs.batch.place_of.Goals as goal

pub returns : goal.returns
returns c =
    let facts = c.binary_search_by.ensures in
    let by_order = facts.position (λ e. key_cmp e.0 c.args.key.now) (always_returns_same _ _ _ (λ a r f called. search rules)) in
    searched c.args.key.now c.args.entries.now c.requires c.binary_search_by.result facts.bound by_order
