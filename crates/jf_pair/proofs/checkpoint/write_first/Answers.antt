use Rattle.std.proofs.Common.{◌≡◌, ◌+◌, ◌≤◌, [], ◌∷◌, length, sym, arith, ap, ap₂, ◌∙◌, subst, Some}
use Rattle.std.proofs.lemmas.Result.{on_ok_weaker}
use Rattle.std.specs.Prelude.{OnOk}
use Rattle.jf_disk.specs.Disk.{History, Content, content_on, put_at}
use Rattle.jf_disk.proofs.CrashLaws.{told_same}
use Rattle.jf_frame.specs.Logs.{IsReady, StopsInAppend, appended_record}
use Rattle.jf_frame.proofs.LogLaws.{begun_ready, length-begun}
use Rattle.jf_pair.proofs.FirstRecord.{first_stops, put_first}
use Rattle.jf_pair.proofs.checkpoint.write_first.Goals as goal

pub returns-clause-ok : goal.returns-clause-ok
returns-clause-ok g c = λ h kind payload told is.
    let w = c.args.log.now.side in
    let same : c.begin.new.self.side ≡ w = c.in_ok-begin.ensures.rest.side in
    let zero : c.begin.new.self.offset ≡ 0 = c.in_ok-begin.ensures.offset in
    let x = c.in_ok-begin.ensures.ok h told in
    let ready = subst (λ s. IsReady s c.begin.new.self.offset [] x.0.now) (sym same) (subst (λ n. IsReady w n [] x.0.now) (sym zero) x.2) in
    subst (λ s. OnOk c.append.result ((k : History) × (g.D.Disk.history c.append.new.disk ≡ Some k) × IsReady s c.append.new.self.offset (appended_record 0 kind payload ∷ []) k.now)) same
    (subst (λ n. OnOk c.append.result ((k : History) × (g.D.Disk.history c.append.new.disk ≡ Some k) × IsReady c.begin.new.self.side c.append.new.self.offset (appended_record n kind payload ∷ []) k.now)) zero
    (c.append.ensures.ok x.0 [] kind payload x.1 ready is))

pub returns-clause-written : goal.returns-clause-written
returns-clause-written g c = λ h told.
    let w = c.args.log.now.side in
    let frame = c.args.frame.now in
    let same : c.begin.new.self.side ≡ w = c.in_ok-begin.ensures.rest.side in
    let zero : c.begin.new.self.offset ≡ 0 = c.in_ok-begin.ensures.offset in
    let x = c.in_ok-begin.ensures.bytes h told in
    let bytes = (content_on w h.now).bytes in
    let ready = subst (λ s. IsReady s c.begin.new.self.offset [] x.0.now) (sym same) (subst (λ n. IsReady w n [] x.0.now) (sym zero) (begun_ready w x.0.now bytes x.2)) in
    let one : length (content_on w x.0.now).bytes ≡ 1 = ap (λ (c : Content). length c.bytes) x.2 ∙ length-begun bytes in
    let all : put_at c.begin.new.self.offset (1 ∷ frame) (content_on c.begin.new.self.side x.0.now).bytes ≡ 1 ∷ frame = ap₂ (λ n s. put_at n (1 ∷ frame) (content_on s x.0.now).bytes) zero same ∙ put_first frame (content_on w x.0.now).bytes one in
    on_ok_weaker
    {P = (k : History) × (g.D.Disk.history c.append.new.disk ≡ Some k) × ((content_on c.begin.new.self.side k.now).bytes ≡ put_at c.begin.new.self.offset (1 ∷ frame) (content_on c.begin.new.self.side x.0.now).bytes)}
    {Q = (k : History) × (g.D.Disk.history c.append.new.disk ≡ Some k) × ((content_on w k.now).bytes ≡ 1 ∷ frame)}
    c.append.result
    (λ y. (y.0, y.1, ap (λ s. (content_on s y.0.now).bytes) (sym same) ∙ y.2 ∙ all))
    (c.append.ensures.written x.0 [] c.requires.framed.0 c.requires.framed.1 x.1 ready c.requires.framed.2)

pub returns-clause-stop : goal.returns-clause-stop
returns-clause-stop g c = λ h kind payload told is.
    let w = c.args.log.now.side in
    let same : c.begin.new.self.side ≡ w = c.in_ok-begin.ensures.rest.side in
    let zero : c.begin.new.self.offset ≡ 0 = c.in_ok-begin.ensures.offset in
    let x = c.in_ok-begin.ensures.ok h told in
    let s = c.begin.ensures.stop h told in
    let now : x.0 ≡ s.0 = told_same x.0 s.0 _ x.1 s.1 in
    let ready = subst (λ s. IsReady s c.begin.new.self.offset [] x.0.now) (sym same) (subst (λ n. IsReady w n [] x.0.now) (sym zero) x.2) in
    let y = c.append.ensures.stop x.0 [] kind payload x.1 ready is in
    let stop = subst (λ s. StopsInAppend s x.0 y.0 [] (appended_record 0 kind payload)) same (subst (λ n. StopsInAppend c.begin.new.self.side x.0 y.0 [] (appended_record n kind payload)) zero y.2) in
    let z = first_stops w h s.0 y.0 (appended_record 0 kind payload) s.2 (subst (λ k. StopsInAppend w k y.0 [] (appended_record 0 kind payload)) now stop) in
    (y.0, y.1, z.0, z.1)

pub returns-clause-elapsed : goal.returns-clause-elapsed
returns-clause-elapsed g c =
    on_ok_weaker
    {P = g.D.Disk.moment c.append.new.disk ≡ g.D.Disk.moment c.begin.new.disk + 4}
    {Q = g.D.Disk.moment c.args.disk.now + 4 ≤ g.D.Disk.moment c.append.new.disk}
    c.append.result
    (λ four. let later = c.in_ok-begin.ensures.calls.later in omega arith)
    c.append.ensures.elapsed
