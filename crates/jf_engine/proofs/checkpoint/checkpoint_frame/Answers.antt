-- The record is the checkpoint of the directory's standing, which has a spelling.
use Rattle.std.proofs.Common.{◌<◌, ◌^◌, length, subst, sym, ◌∙◌, rules}
use Rattle.std.specs.Prelude.{IfOk}
use Rattle.jf_frame.specs.Framing.{IsFrame}
use Rattle.jf_codec.specs.declared.format.Format.TheVariants as format
use Rattle.jf_payload.specs.declared.records.Record.{Record}
use Rattle.jf_payload.specs.Spelling.{IsRecord, kind_of, record_bytes}
use Rattle.jf_standing.specs.Building.{checkpoint_of}
use Rattle.jf_engine.proofs.Records.{same_checkpoint, checkpoint-kept}
use Rattle.jf_engine.proofs.checkpoint.checkpoint_frame.Goals as goal

pub encode-requires : goal.encode-requires
encode-requires c =
    let s = c.args.directory.now in
    let few : length s.nodes < 2 ^ 64 = search rules in
    let spelled : IsRecord format.Two (checkpoint_of c.args.generation s) = c.checkpoints_are_spelled.ensures format.Two c.args.generation s c.know.ensures.sound c.know.ensures.read.keys c.know.ensures.short c.requires.positive c.requires.bounded c.know.ensures.read.hashes few in
    let same = same_checkpoint s c.args.generation c.base.result c.floor.result c.head.result c.in_ok-copy_of.field-0 c.in_ok-live.field-0 c.know.ensures.read c.know.ensures.sound c.base.ensures c.floor.ensures c.head.ensures (c.in_ok-copy_of.ensures ∙ c.roots.ensures) c.in_ok-live.ensures in
    subst (IsRecord format.Two) (sym (checkpoint-kept c.args.generation c.base.result c.floor.result c.head.result c.in_ok-copy_of.field-0 c.in_ok-live.field-0 ∙ same)) spelled

pub returns-clause-spelled : goal.returns-clause-spelled
returns-clause-spelled c =
    let s = c.args.directory.now in
    let few : length s.nodes < 2 ^ 64 = search rules in
    let spelled : IsRecord format.Two (checkpoint_of c.args.generation s) = c.checkpoints_are_spelled.ensures format.Two c.args.generation s c.know.ensures.sound c.know.ensures.read.keys c.know.ensures.short c.requires.positive c.requires.bounded c.know.ensures.read.hashes few in
    search rules

pub returns-clause-frame : goal.returns-clause-frame
returns-clause-frame c =
    let s = c.args.directory.now in
    let same = same_checkpoint s c.args.generation c.base.result c.floor.result c.head.result c.in_ok-copy_of.field-0 c.in_ok-live.field-0 c.know.ensures.read c.know.ensures.sound c.base.ensures c.floor.ensures c.head.ensures (c.in_ok-copy_of.ensures ∙ c.roots.ensures) c.in_ok-live.ensures in
    subst (λ (q : Record). IfOk c.encode.result (λ bytes. IsFrame bytes (kind_of format.Two q) (record_bytes format.Two q))) same c.encode.ensures
