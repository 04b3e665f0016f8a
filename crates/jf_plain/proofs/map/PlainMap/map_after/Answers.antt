use Rattle.std.proofs.Common.{ap, sym, ◌∙◌, subst}
use Rattle.jf_hash.specs.Maps.{apply, map_of_entries}
use Rattle.jf_model.specs.Changes.{entries_after_batch}
use Rattle.jf_plain.specs.Entries.{AreMapEntries}
use Rattle.jf_plain.proofs.Views.{are-applied, applied-of}
use Rattle.jf_plain.proofs.map.PlainMap.map_after.Goals as goal

pub invariant_of-result : goal.invariant_of-result
invariant_of-result c =
    let is = c.in_ok-merged_entries.ensures ∙ ap (λ es. entries_after_batch es c.as_slice.result.now) c.deref.ensures.value ∙ ap (entries_after_batch c.self.inside.entries.items) c.as_slice.ensures.entries in
    subst AreMapEntries (sym is) (are-applied c.self.inside.entries.items c.args.batch.now c.self.invariant c.as_slice.ensures.sound c.as_slice.ensures.bounded)

pub returns : goal.returns
returns c =
    let is = c.in_ok-merged_entries.ensures ∙ ap (λ es. entries_after_batch es c.as_slice.result.now) c.deref.ensures.value ∙ ap (entries_after_batch c.self.inside.entries.items) c.as_slice.ensures.entries in
    ap map_of_entries is ∙ applied-of c.self.inside.entries.items c.args.batch.now c.self.invariant ∙ ap (λ m. apply m c.args.batch.now) c.self.view_is
