-- All entries are gone over, and each has a key and a value of bytes.
use Rattle.std.proofs.Common.{◌≡◌, take, take_all, subst, sym, ◌∙◌, ap, arith}
use Rattle.std.specs.List.{AllByRecursion}
use Rattle.jf_path.specs.Keys.{IsKey, IsBytes}
use Rattle.jf_hash.specs.Maps.{IsBatch}
use Rattle.jf_update.specs.Outcomes.{AreShort}
use Rattle.jf_engine.specs.Imported.{puts_of}
use Rattle.jf_engine.proofs.ImportedSnapshot.{batch-puts, short-puts}
use Rattle.jf_engine.proofs.imported.shared_puts.Goals as goal

pub returns-clause-batch : goal.returns-clause-batch
returns-clause-batch c =
    let es = c.args.entries.now in
    let whole : take c.loop-entry.entry-index es ≡ es = take_all c.loop-entry.entry-index es (omega (arith, c.loop-entry-test.false)) in
    subst IsBatch (sym (c.loop-entry.invariant.0 ∙ ap puts_of whole)) (batch-puts es c.requires.sorted (subst (AllByRecursion (λ e. IsKey e.0 × IsBytes e.1)) whole c.loop-entry.invariant.1))

pub returns-clause-short : goal.returns-clause-short
returns-clause-short c =
    let es = c.args.entries.now in
    let whole : take c.loop-entry.entry-index es ≡ es = take_all c.loop-entry.entry-index es (omega (arith, c.loop-entry-test.false)) in
    subst AreShort (sym (c.loop-entry.invariant.0 ∙ ap puts_of whole)) (short-puts es c.requires.short)
