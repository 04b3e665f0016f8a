-- The record is the checkpoint of the directory's standing, which has a spelling; its frame comes after a gate.
use Rattle.std.proofs.Common.{◌<◌, ◌^◌, length, ap, sym, ◌∙◌, subst, rules, arith}
use Rattle.std.proofs.lemmas.Result.{IfOk-weaker}
use Rattle.jf_frame.specs.Framing.{IsFrame}
use Rattle.jf_codec.specs.declared.format.Format.TheVariants as format
use Rattle.jf_payload.specs.declared.records.Record.{Record}
use Rattle.jf_payload.specs.Spelling.{IsRecord, kind_of, record_bytes}
use Rattle.jf_standing.specs.Building.{checkpoint_of}
use Rattle.jf_engine.proofs.Records.{same_checkpoint, checkpoint-kept}
use Rattle.jf_check.proofs.Sizes.{long_in_each}
use Rattle.jf_check.proofs.checkpoint.checkpoint_size.Goals as goal

pub encode-requires : goal.encode-requires
encode-requires c =
    let s = c.args.directory.now in
    let few : length s.nodes < 2 ^ 64 = search rules in
    let spelled : IsRecord format.Two (checkpoint_of 1 s) = c.checkpoints_are_spelled.ensures format.Two 1 s c.know.ensures.sound c.know.ensures.read.keys c.know.ensures.short (omega arith) (omega arith) c.know.ensures.read.hashes few in
    let same = same_checkpoint s 1 c.base.result c.floor.result c.head.result c.in_ok-copy_of.field-0 c.in_ok-live.field-0 c.know.ensures.read c.know.ensures.sound c.base.ensures c.floor.ensures c.head.ensures (c.in_ok-copy_of.ensures ∙ c.roots.ensures) c.in_ok-live.ensures in
    subst (IsRecord format.Two) (sym (checkpoint-kept 1 c.base.result c.floor.result c.head.result c.in_ok-copy_of.field-0 c.in_ok-live.field-0 ∙ same)) spelled

pub returns : goal.returns
returns c =
    let s = c.args.directory.now in
    let same = same_checkpoint s 1 c.base.result c.floor.result c.head.result c.in_ok-copy_of.field-0 c.in_ok-live.field-0 c.know.ensures.read c.know.ensures.sound c.base.ensures c.floor.ensures c.head.ensures (c.in_ok-copy_of.ensures ∙ c.roots.ensures) c.in_ok-live.ensures in
    let frame = subst (λ (q : Record). IsFrame c.in_ok-frame.frame (kind_of format.Two q) (record_bytes format.Two q)) same c.in_ok-frame.ensures in
    IfOk-weaker c.sum_within.result _ _ (λ n is g. omega (arith, is, c.len.ensures, ap length frame.is, long_in_each 1 g s)) c.sum_within.ensures
