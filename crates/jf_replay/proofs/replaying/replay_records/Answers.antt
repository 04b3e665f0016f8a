use Rattle.std.specs.Prelude.{Err}
use Rattle.std.proofs.Common.{rules, ◌≡◌, ◌∷◌, ◌++◌, [], List, refl, sym, ap, subst, ◌∙◌, append_assoc, append-nil}
use Rattle.std.proofs.lemmas.List.{nil_from_length}
use Rattle.std.specs.Vec.Iter.{into_iter_items}
use Rattle.jf_frame.specs.Framed.{LogRecord, framed_value}
use Rattle.jf_standing.specs.FormatLaws.{standing_in}
use Rattle.jf_files.specs.Files.{LeadToStanding, IsUnsoundAt}
use Rattle.jf_replay.proofs.Chains.{fails_first, fails_next, leads_next}
use Rattle.jf_replay.proofs.replaying.replay_records.Goals as goal

pub loop-record-init : goal.loop-record-init
loop-record-init g c =
    let first = framed_value c.lent.result in
    let replayed = c.in_ok-directory.ensures in
    let given : c.in-Some.first ∷ into_iter_items c.into_iter-record-iterator.result ≡ c.args.records.items = search rules in
    let all : first ∷ into_iter_items c.into_iter-record-iterator.result ≡ c.args.records.items = ap (λ (x : LogRecord). x ∷ into_iter_items c.into_iter-record-iterator.result) c.lent.ensures ∙ given in
    (first ∷ [], all, (replayed.kind, (standing_in c.in_ok-directory.field-0.format c.in_ok-directory.field-0.directory, replayed.begun, refl)))

pub returns-in_err-directory-clause-unsound : goal.returns-in_err-directory-clause-unsound
returns-in_err-directory-clause-unsound g c = λ at e.
    let first = framed_value c.lent.result in
    let rest = into_iter_items c.next.new.self in
    let d = c.in_err-directory.ensures.unsound at (ap (λ f. Err f) (sym (rw e at c.from_residual.ensures.1))) in
    let given : c.in-Some.first ∷ rest ≡ c.args.records.items = search rules in
    let all : first ∷ rest ≡ c.args.records.items = ap (λ (x : LogRecord). x ∷ rest) c.lent.ensures ∙ given in
    subst (λ rs. IsUnsoundAt rs at) all (fails_first first rest at d.0 d.1)

pub loop-record-preserved : goal.loop-record-preserved
loop-record-preserved g c =
    let was = c.loop-record.invariant in
    let x = framed_value c.lent-in-loop-record.result in
    let fmt = c.in_ok-directory.field-0.format in
    let rest = into_iter_items c.next-in-loop-record.new.self in
    let next : into_iter_items c.loop-record.record-iterator ≡ c.in-Some-record.record ∷ rest = search rules in
    let steps : into_iter_items c.loop-record.record-iterator ≡ x ∷ rest = next ∙ ap (λ (y : LogRecord). y ∷ rest) (sym c.lent-in-loop-record.ensures) in
    let all : (was.0 ++ x ∷ []) ++ rest ≡ c.args.records.items = append_assoc was.0 (x ∷ []) rest ∙ ap (λ (xs : List LogRecord). was.0 ++ xs) (sym steps) ∙ was.1 in
    (was.0 ++ x ∷ [], all, leads_next was.0 fmt (standing_in fmt c.loop-record.directory) (standing_in fmt c.take_next.new.directory) x was.2 c.in_ok-take_next.ensures.taken)

pub returns-in_err-take_next-clause-unsound : goal.returns-in_err-take_next-clause-unsound
returns-in_err-take_next-clause-unsound g c = λ at e.
    let was = c.loop-record.invariant in
    let x = framed_value c.lent-in-loop-record.result in
    let fmt = c.in_ok-directory.field-0.format in
    let rest = into_iter_items c.next-in-loop-record.new.self in
    let d = c.in_err-take_next.ensures.unsound at (ap (λ f. Err f) (sym (rw e at c.from_residual-in_err-take_next.ensures.1))) in
    let next : into_iter_items c.loop-record.record-iterator ≡ c.in-Some-record.record ∷ rest = search rules in
    let steps : into_iter_items c.loop-record.record-iterator ≡ x ∷ rest = next ∙ ap (λ (y : LogRecord). y ∷ rest) (sym c.lent-in-loop-record.ensures) in
    let all : was.0 ++ x ∷ rest ≡ c.args.records.items = ap (λ (xs : List LogRecord). was.0 ++ xs) (sym steps) ∙ was.1 in
    subst (λ n. IsUnsoundAt c.args.records.items n) (sym d.0) (subst (λ rs. IsUnsoundAt rs x.offset) all (fails_next was.0 fmt (standing_in fmt c.loop-record.directory) x rest was.2 d.1))

pub returns-clause-led : goal.returns-clause-led
returns-clause-led g c =
    let was = c.loop-record.invariant in
    let fmt = c.in_ok-directory.field-0.format in
    let rest = c.loop-record.record-iterator.rest in
    let none : into_iter_items c.loop-record.record-iterator ≡ [] = nil_from_length rest.items (sym rest.ok.0 ∙ c.in-None.ensures.steps.0) in
    let all : was.0 ≡ c.args.records.items = sym (append-nil was.0) ∙ ap (λ (xs : List LogRecord). was.0 ++ xs) (sym none) ∙ was.1 in
    subst (λ rs. LeadToStanding rs fmt (standing_in fmt c.loop-record.directory)) all was.2
