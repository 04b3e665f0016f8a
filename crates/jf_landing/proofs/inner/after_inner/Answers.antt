use Rattle.jf_landing.proofs.Parts.{hashes_in, tag_there, bits_there, counted, end_there, end_told}
use Rattle.jf_landing.proofs.inner.after_inner.Goals as goal

pub returns-in_err-body : goal.returns-in_err-body
returns-in_err-body c = λ cs tail is e. absurd (tag_there c.args.format cs c.args.bytes.now tail is e c.in_err-body.field-0.0 c.in_err-body.ensures)

pub returns-in_err-exist : goal.returns-in_err-exist
returns-in_err-exist c = λ cs tail is e.
    absurd (bits_there c.args.format cs c.args.bytes.now tail is e c.in_ok-body.field-0-0.now c.in_ok-body.body.now c.in_ok-body.ensures c.in_err-exist.field-0.0 c.in_err-exist.ensures)

pub returns-in_err-rest : goal.returns-in_err-rest
returns-in_err-rest c = λ cs tail is e.
    let fmt = c.args.format in
    let count = counted fmt cs c.args.bytes.now tail is e c.in_ok-body.field-0-0.now c.in_ok-body.body.now c.in_ok-body.ensures c.in_ok-exist.exist c.in_ok-exist.field-0-1.now c.in_ok-exist.ensures in
    absurd (end_there fmt cs c.args.bytes.now tail is e c.inner_len.result (c.inner_len.ensures cs count (hashes_in fmt cs is)) c.in_err-rest.field-0.0 c.in_err-rest.ensures)

pub returns : goal.returns
returns c = λ cs tail is e.
    let fmt = c.args.format in
    let count = counted fmt cs c.args.bytes.now tail is e c.in_ok-body.field-0-0.now c.in_ok-body.body.now c.in_ok-body.ensures c.in_ok-exist.exist c.in_ok-exist.field-0-1.now c.in_ok-exist.ensures in
    end_told fmt cs c.args.bytes.now tail is e c.inner_len.result (c.inner_len.ensures cs count (hashes_in fmt cs is)) c.in_ok-rest.field-0-0.now c.in_ok-rest.rest.now c.in_ok-rest.ensures
