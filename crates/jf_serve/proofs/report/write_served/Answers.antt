use Rattle.std.proofs.Common.{ℕ, List, [], ◌++◌, map, refl, subst}
use Rattle.std.specs.List.{concat}
use Rattle.jf_io.specs.Sink.{IsCutShort}
use Rattle.jf_io.proofs.SinkLaws.{cut_short-in}
use Rattle.jf_serve.specs.ServedTexts.{session_text, ledger_text, served_text}
use Rattle.jf_serve.proofs.HeldTextLaws.{adds-then, cut-then, cut-held}
use Rattle.jf_serve.proofs.Refused.{on_err-always}
use Rattle.jf_serve.proofs.report.write_served.Goals as goal

pub returns-in_err-write_sessions-clause-cut_short : goal.returns-in_err-write_sessions-clause-cut_short
returns-in_err-write_sessions-clause-cut_short g c =
    let sessions = concat (map session_text c.args.outputs.now) in
    let cut = subst (λ (held : List ℕ). IsCutShort (g.K.Sink.text c.args.sink.now) (g.K.Sink.text c.write_sessions.new.sink) (held ++ sessions)) c.new-held.ensures c.in_err-write_sessions.ensures.cut_short in
    on_err-always _ (cut_short-in _ _ [] sessions (ledger_text c.args.entries.now) _ refl cut)

pub returns-in_err-write_ledger-clause-cut_short : goal.returns-in_err-write_ledger-clause-cut_short
returns-in_err-write_ledger-clause-cut_short g c =
    let sessions = concat (map session_text c.args.outputs.now) in
    let served = served_text c.args.outputs.now c.args.entries.now in
    let cut = cut-then _ _ _ c.new-held.result c.write_sessions.new.held sessions c.in_ok-write_sessions.ensures.ok _ c.in_err-write_ledger.ensures.cut_short in
    on_err-always _ (subst (λ (held : List ℕ). IsCutShort (g.K.Sink.text c.args.sink.now) (g.K.Sink.text c.write_ledger.new.sink) (held ++ served)) c.new-held.ensures cut)

pub returns-in_err-put_held-clause-cut_short : goal.returns-in_err-put_held-clause-cut_short
returns-in_err-put_held-clause-cut_short g c =
    let sessions = concat (map session_text c.args.outputs.now) in
    let served = served_text c.args.outputs.now c.args.entries.now in
    let added = adds-then _ _ _ c.new-held.result c.write_sessions.new.held sessions c.in_ok-write_sessions.ensures.ok c.write_ledger.new.held _ c.in_ok-write_ledger.ensures.ok in
    let cut = cut-held _ _ _ c.new-held.result c.write_ledger.new.held _ added c.in_err-put_held.ensures.cut_short in
    on_err-always _ (subst (λ (held : List ℕ). IsCutShort (g.K.Sink.text c.args.sink.now) (g.K.Sink.text c.put_held.new.sink) (held ++ served)) c.new-held.ensures cut)
