use Rattle.std.proofs.Common.{◌≡◌, ℕ, List, [], ◌∷◌, ◌++◌, ◌+◌, map, take, drop, length, codes, decimal, arith, sym, ap, subst, ◌∙◌, append_assoc, length-append}
use Rattle.std.specs.List.{concat}
use Rattle.jf_io.proofs.SinkLaws.{cut_short-none, cut_short-in}
use Rattle.jf_model.specs.declared.entries.Entry.{Entry}
use Rattle.jf_text.specs.Words.{line_text}
use Rattle.jf_serve.specs.HeldText.{AddsText}
use Rattle.jf_serve.specs.ServedTexts.{entry_line, ledger_text}
use Rattle.jf_serve.proofs.HeldTextLaws.{adds-then, cut-then}
use Rattle.jf_serve.proofs.JoinedTexts.{concat-next, concat-rest}
use Rattle.jf_serve.proofs.Refused.{on_err-always}
use Rattle.jf_serve.proofs.report.write_ledger.Goals as goal

-- the line that counts entries
abbrev count_line : List Entry → List ℕ
count_line es = line_text (codes "ledger" ∷ decimal (length es) ∷ [])

-- the lines of the first entries
abbrev first_lines : ℕ → List Entry → List ℕ
first_lines i es = concat (map entry_line (take i es))

pub returns-in_err-write_count-clause-cut_short : goal.returns-in_err-write_count-clause-cut_short
returns-in_err-write_count-clause-cut_short g c =
    on_err-always _ (cut_short-none _ _ (omega (arith, length-append c.args.held.now (ledger_text c.args.entries.now))))

pub loop-entry-preserved : goal.loop-entry-preserved
loop-entry-preserved g c =
    let held = c.args.held.now in
    let es = c.args.entries.now in
    let i = c.loop-entry.entry-index in
    let now = adds-then _ _ _ held c.loop-entry.held (count_line es ++ first_lines i es) c.loop-entry.invariant.added c.write_line.new.held _ c.in_ok-write_line.ensures.ok in
    let lines = append_assoc (count_line es) (first_lines i es) (entry_line c.entry-item.result) ∙ ap (λ t. count_line es ++ t) (sym (concat-next entry_line es i _ _ c.loop-entry-test.true c.entry-item.is)) in
    record {
      added = subst (λ (t : List ℕ). AddsText (g.K.Sink.text c.args.sink.now) (g.K.Sink.text c.write_line.new.sink) held c.write_line.new.held t) lines now;
      grows = omega (arith, c.loop-entry.invariant.grows, c.in_ok-write_line.ensures.counts);
    }

pub returns-in_err-write_line-clause-cut_short : goal.returns-in_err-write_line-clause-cut_short
returns-in_err-write_line-clause-cut_short g c =
    let held = c.args.held.now in
    let es = c.args.entries.now in
    let i = c.loop-entry.entry-index in
    let line = entry_line c.entry-item.result in
    let later = concat (map entry_line (drop (i + 1) es)) in
    let cut = cut-then _ _ _ held c.loop-entry.held (count_line es ++ first_lines i es) c.loop-entry.invariant.added line c.in_err-write_line.ensures.cut_short in
    let whole : (count_line es ++ first_lines i es) ++ line ++ later ≡ ledger_text es =
    ap (λ t. t ++ later) (append_assoc (count_line es) (first_lines i es) line) ∙ append_assoc (count_line es) (first_lines i es ++ line) later
    ∙ ap (λ t. count_line es ++ t) (concat-rest entry_line es i _ _ c.loop-entry-test.true c.entry-item.is) in
    on_err-always _ (cut_short-in _ _ held _ later (ledger_text es) whole cut)
