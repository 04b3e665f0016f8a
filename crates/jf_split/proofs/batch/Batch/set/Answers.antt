-- A key that is there takes the value at its place, and a new one stands in its gap.
use Rattle.std.proofs.Common.{◌∙◌, ◌≤◌, sym, ap, subst, arith, length, true≢false, le-leb}
use Rattle.std.specs.FinMap.{put}
use Rattle.jf_path.specs.Keys.{key_cmp}
use Rattle.jf_hash.specs.Maps.{IsBatch}
use Rattle.jf_split.specs.Limits.{IsWithinLimits}
use Rattle.jf_split.specs.Places.{IsPlaceOf, IsGapFor}
use Rattle.jf_split.proofs.Puts.{put-gap, is_full-place, is_full-gap, set-put, set_batch, insert_batch, not_there}
use Rattle.jf_split.proofs.batch.Batch.set.Goals as goal

pub invariant_of-self : goal.invariant_of-self
invariant_of-self c =
    let place = subst (λ b. IsPlaceOf c.args.key.now b c.in-Ok.at) c.deref.ensures.value c.in-Ok.ensures.found in
    let same = ap (λ e. e.0) c.index_mut.ensures.value ∙ place.same c.index_mut.result.now in
    set_batch _ _ _ _ _ (record { long = c.told-key; bytes = c.fits-key }) c.requires.bytes c.requires.short c.self.invariant place same

pub invariant_of-self-in-Err-2 : goal.invariant_of-self-in-Err-2
invariant_of-self-in-Err-2 c =
    let gap = subst (λ b. IsGapFor c.args.key.now b c.in-Err.field-0) c.deref.ensures.value c.in-Err.ensures.absent in
    subst (λ b. IsBatch b × IsWithinLimits b) (sym c.in_ok-insert-in-Err-2.ensures.items)
    (insert_batch _ c.args.key.now _ _ _ (record { long = c.told-key; bytes = c.fits-key }) c.requires.bytes c.requires.short c.self.invariant gap (omega (arith, c.len.ensures)))

pub returns-in-Ok-clause-ok : goal.returns-in-Ok-clause-ok
returns-in-Ok-clause-ok c =
    let place = subst (λ b. IsPlaceOf c.args.key.now b c.in-Ok.at) c.deref.ensures.value c.in-Ok.ensures.found in
    let same = ap (λ e. e.0) c.index_mut.ensures.value ∙ place.same c.index_mut.result.now in
    set-put _ _ _ _ _ (record { long = c.told-key; bytes = c.fits-key }) c.requires.bytes c.requires.short c.self.invariant place same ∙ ap (put key_cmp c.args.key.now c.args.value) c.self.view_is

pub returns-in-Ok-clause-no_room : goal.returns-in-Ok-clause-no_room
returns-in-Ok-clause-no_room c = λ full.
    let place = subst (λ b. IsPlaceOf c.args.key.now b c.in-Ok.at) (c.deref.ensures.value ∙ c.self.view_is) c.in-Ok.ensures.found in
    absurd (true≢false (sym full ∙ is_full-place _ _ _ place))

pub returns-in-Err-clause-full : goal.returns-in-Err-clause-full
returns-in-Err-clause-full c = λ _.
    let gap = subst (λ b. IsGapFor c.args.key.now b c.in-Err.field-0) (c.deref.ensures.value ∙ c.self.view_is) c.in-Err.ensures.absent in
    is_full-gap _ _ _ gap ∙ le-leb _ _ (subst (λ b. 10000 ≤ length b) c.self.view_is (omega (arith, c.len.ensures)))

pub returns-in_ok-insert-in-Err-2-clause-ok : goal.returns-in_ok-insert-in-Err-2-clause-ok
returns-in_ok-insert-in-Err-2-clause-ok c =
    let gap = subst (λ b. IsGapFor c.args.key.now b c.in-Err.field-0) c.deref.ensures.value c.in-Err.ensures.absent in
    c.in_ok-insert-in-Err-2.ensures.items ∙ sym (put-gap _ _ _ _ gap) ∙ ap (put key_cmp c.args.key.now c.args.value) c.self.view_is

pub returns-in-Err-clause-present : goal.returns-in-Err-clause-present
returns-in-Err-clause-present c = λ there.
    let gap = subst (λ b. IsGapFor c.args.key.now b c.in-Err.field-0) (c.deref.ensures.value ∙ c.self.view_is) c.in-Err.ensures.absent in
    absurd (not_there _ _ _ gap there)

pub returns-in_err-insert-in-Err-2-clause-present : goal.returns-in_err-insert-in-Err-2-clause-present
returns-in_err-insert-in-Err-2-clause-present c = λ there.
    let gap = subst (λ b. IsGapFor c.args.key.now b c.in-Err.field-0) (c.deref.ensures.value ∙ c.self.view_is) c.in-Err.ensures.absent in
    absurd (not_there _ _ _ gap there)
