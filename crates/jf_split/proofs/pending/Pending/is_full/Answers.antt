-- The hash map finds a key exactly if the batch of its entries does.
use Rattle.std.proofs.Common.{◌∙◌, ◌≤◌, ◌<◌, ap, not, arith, length, is_some}
use Rattle.std.proofs.lemmas.Bool.{lt-leb}
use Rattle.std.specs.Map.{lookup}
use Rattle.jf_hash.specs.Maps.{same_key}
use Rattle.jf_split.specs.KeyOrder.{in_key_order}
use Rattle.jf_split.specs.Limits.{is_full}
use Rattle.jf_split.proofs.Gathered.{is_full-lookup, is_full-few}
use Rattle.jf_split.proofs.KeyOrderLaws.{length-in_key_order}
use Rattle.jf_split.proofs.pending.Pending.is_full.Goals as goal

pub returns-then-len-ge-MAX_KEYS : goal.returns-then-len-ge-MAX_KEYS
returns-then-len-ge-MAX_KEYS c =
    let es = c.self.inside.entries.entries in
    let same = length-in_key_order es c.len.ensures.unique in
    let many : 10000 ≤ length (in_key_order es) = omega (arith, same, c.len.ensures.len) in
    ap not (c.contains_key.ensures ∙ ap (λ k. is_some (lookup (same_key k) es)) c.of.ensures)
    ∙ is_full-lookup c.args.key.now es many
    ∙ ap (is_full c.args.key.now) c.self.view_is

pub returns-else-len-ge-MAX_KEYS : goal.returns-else-len-ge-MAX_KEYS
returns-else-len-ge-MAX_KEYS c =
    let es = c.self.inside.entries.entries in
    let same = length-in_key_order es c.len.ensures.unique in
    let few : length (in_key_order es) < 10000 = omega (arith, same, c.len.ensures.len) in
    lt-leb 10000 c.len.result (omega (arith, same, few, c.len.ensures.len)) ∙ is_full-few c.args.key.now (in_key_order es) few ∙ ap (is_full c.args.key.now) c.self.view_is
