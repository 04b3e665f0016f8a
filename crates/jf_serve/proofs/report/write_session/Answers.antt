use Rattle.std.proofs.Common.{ℕ, List, ◌∷◌, [], ◌++◌, codes, subst, sym}
use Rattle.jf_io.specs.Sink.{IsCutShort}
use Rattle.jf_io.proofs.SinkLaws.{cut_short-longer}
use Rattle.jf_text.specs.Words.{line_text}
use Rattle.jf_serve.proofs.HeldTextLaws.{adds-held, adds-put, adds-past, adds-then, cut-then}
use Rattle.jf_serve.proofs.Refused.{on_err-always}
use Rattle.jf_serve.proofs.report.write_session.Goals as goal

-- the line that begins a session
abbrev begin : List ℕ
begin = line_text (codes "session" ∷ [])

pub returns-in_err-put_held-clause-cut_short : goal.returns-in_err-put_held-clause-cut_short
returns-in_err-put_held-clause-cut_short g c =
    let held = c.args.held.now in
    let output = c.args.output.now in
    let line = c.append.new.self in
    on_err-always _ (
    cut-then _ _ _ held line begin (adds-held (g.K.Sink.text c.args.sink.now) held line begin c.in_ok-append.ensures.ok) output
    (cut_short-longer _ _ line output c.in_err-put_held.ensures.cut_short)
    )

pub returns-in_err-put_all-clause-cut_short : goal.returns-in_err-put_all-clause-cut_short
returns-in_err-put_all-clause-cut_short g c =
    let held = c.args.held.now in
    let output = c.args.output.now in
    let empty = c.put_held.new.held in
    let put = adds-put (g.K.Sink.text c.args.sink.now) (g.K.Sink.text c.put_held.new.sink) held c.append.new.self empty begin c.in_ok-append.ensures.ok c.in_ok-put_held.ensures.ok c.in_ok-put_held.ensures.empty in
    on_err-always _ (
    cut-then _ _ _ held empty begin put output
    (subst (λ (h : List ℕ). IsCutShort (g.K.Sink.text c.put_held.new.sink) (g.K.Sink.text c.put_all.new.sink) (h ++ output)) (sym c.in_ok-put_held.ensures.empty) c.in_err-put_all.ensures.cut_short)
    )

pub returns-then-output-gt-ENOUGH-clause-ok : goal.returns-then-output-gt-ENOUGH-clause-ok
returns-then-output-gt-ENOUGH-clause-ok g c =
    let held = c.args.held.now in
    let output = c.args.output.now in
    let empty = c.put_held.new.held in
    let put = adds-put (g.K.Sink.text c.args.sink.now) (g.K.Sink.text c.put_held.new.sink) held c.append.new.self empty begin c.in_ok-append.ensures.ok c.in_ok-put_held.ensures.ok c.in_ok-put_held.ensures.empty in
    adds-then _ _ _ held empty begin put empty output (adds-past _ _ empty output c.in_ok-put_held.ensures.empty c.in_ok-put_all.ensures.ok)
