use Rattle.std.proofs.Common.{◌≡◌, length, take, drop, take_at, arith, sym, ap, ◌∙◌}
use Rattle.jf_disk.specs.Disk.{DiskState, content_on}
use Rattle.jf_disk.proofs.CrashLaws.{idle_now, idle_further}
use Rattle.jf_check.proofs.reading.bytes_on.Goals as goal

pub returns-in_err-read-clause-idle : goal.returns-in_err-read-clause-idle
returns-in_err-read-clause-idle g c = λ h told.
    let x = c.length_on.ensures.idle h told in
    let y = c.read_into.ensures.idle x.0 x.1 in
    (y.0, y.1, idle_further h x.0 y.0 x.2 y.2)

pub returns-clause-bytes : goal.returns-clause-bytes
returns-clause-bytes g c = λ h told.
    let x = c.length_on.ensures.idle h told in
    let e = idle_now h x.0 x.2 in
    let size : c.in_ok-size.size ≡ length (content_on c.args.side h.now).bytes = c.in_ok-size.ensures.length h told in
    let same = ap (λ (s : DiskState). length (content_on c.args.side s).bytes) e in
    let slice : length c.deref_mut.result.now ≡ c.in_ok-bytes.bytes.len = c.deref_mut.ensures.len in
    let vector : c.in_ok-bytes.bytes.len ≡ c.in_ok-size.size = c.in_ok-bytes.ensures.len in
    let long : length c.deref_mut.result.now ≡ length (content_on c.args.side x.0.now).bytes = slice ∙ vector ∙ size ∙ sym same in
    let into : length c.read_into.new.into ≡ c.in_ok-bytes.bytes.len = omega arith in
    c.truncate.ensures.items
    ∙ ap (take c.in_ok-read.read) (take_at c.read_into.new.into (drop (length c.read_into.new.into) c.in_ok-bytes.bytes.items) c.in_ok-bytes.bytes.len into)
    ∙ c.in_ok-read.ensures.bytes x.0 x.1 long
    ∙ ap (λ (s : DiskState). (content_on c.args.side s).bytes) e

pub returns-clause-idle : goal.returns-clause-idle
returns-clause-idle g c = λ h told.
    let x = c.length_on.ensures.idle h told in
    let y = c.read_into.ensures.idle x.0 x.1 in
    (y.0, y.1, idle_further h x.0 y.0 x.2 y.2)
