use Rattle.std.proofs.Common.{◌≡◌, ◌+◌, List, ℕ, take, drop, ap, ◌∙◌}
use Rattle.std.proofs.lemmas.List.{drop-take}
use Rattle.jf_frame.specs.Framed.{LogRecord}
use Rattle.jf_frame.proofs.framed_record.FramedRecord.cut_off.Goals as goal

pub returns-clause-record : goal.returns-clause-record
returns-clause-record c =
    let bytes = c.args.bytes.now.items in
    let s = c.args.span in
    let start = s.offset + 10 in
    let tail : c.in_ok-payload.payload.items ≡ drop start (take (start + s.size) bytes) = c.in_ok-payload.ensures.tail ∙ ap (drop start) c.truncate.ensures.items in
    ap (λ (p : List ℕ). let r : LogRecord = record { kind = s.kind; offset = s.offset; payload = p } in r) (tail ∙ drop-take start s.size bytes)
