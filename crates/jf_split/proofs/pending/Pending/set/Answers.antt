-- A key set in the hash map is a key put into the batch of its entries.
use Rattle.std.proofs.Common.{◌≡◌, ◌∙◌, ap, sym, subst, false, IsSome, None, Some, cond}
use Rattle.std.specs.FinMap.{put, find}
use Rattle.std.specs.Map.{lookup}
use Rattle.jf_path.specs.Keys.{key_cmp}
use Rattle.jf_hash.specs.Maps.{IsBatch, same_key}
use Rattle.jf_split.specs.KeyOrder.{in_key_order}
use Rattle.jf_split.specs.Limits.{IsWithinLimits, is_full}
use Rattle.jf_split.proofs.Gathered.{batch-put, absent-lookup}
use Rattle.jf_split.proofs.KeyOrderLaws.{in_key_order-updated}
use Rattle.jf_split.proofs.pending.Pending.set.Goals as goal

pub invariant_of-self-2 : goal.invariant_of-self-2
invariant_of-self-2 c =
    let es = c.self.inside.entries.entries in
    let room : is_full c.args.key.now (in_key_order es) ≡ false = ap (is_full c.args.key.now) c.self.view_is ∙ sym c.is_full.ensures ∙ c.if-is_full.false in
    let set = in_key_order-updated c.args.key.now c.args.value es _ (λ q. c.in_ok-insert.ensures.updates.0 q ∙ ap (λ k. cond (same_key k q) (Some c.args.value) (lookup (same_key q) es)) c.of.ensures) in
    subst (λ b. IsBatch b × IsWithinLimits b) (sym set)
    (batch-put c.args.key.now c.args.value (in_key_order es) (record { long = c.told-key; bytes = c.fits-key }) c.requires.bytes c.requires.short room c.self.invariant)

pub returns-clause-ok : goal.returns-clause-ok
returns-clause-ok c =
    let es = c.self.inside.entries.entries in
    in_key_order-updated c.args.key.now c.args.value es _ (λ q. c.in_ok-insert.ensures.updates.0 q ∙ ap (λ k. cond (same_key k q) (Some c.args.value) (lookup (same_key q) es)) c.of.ensures)
    ∙ ap (put key_cmp c.args.key.now c.args.value) c.self.view_is

pub returns-in_err-insert-clause-present : goal.returns-in_err-insert-clause-present
returns-in_err-insert-clause-present c = λ there.
    let es = c.self.inside.entries.entries in
    let none = subst (λ k. lookup (same_key k) es ≡ None) c.of.ensures c.in_err-insert.ensures.absent in
    absurd (absent-lookup c.args.key.now es none (subst (λ b. IsSome (find key_cmp c.args.key.now b)) (sym c.self.view_is) there))
