use Rattle.std.proofs.Common.{◌≡◌, ◌∙◌, ◌++◌, sym, subst}
use Rattle.std.proofs.lemmas.Slice.Eq.{bytes_eq-Decides}
use Rattle.jf_path.proofs.BoolLaws.{not_false}
use Rattle.jf_prepare.specs.PreparedPuts.{IsPutOf, ArePuts}
use Rattle.jf_history.specs.Sessions.{Session}
use Rattle.jf_session.specs.Taking.{DoesLine}
use Rattle.jf_session.proofs.PutLines.{value_short}
use Rattle.jf_session.proofs.preparing.Preparing.take_put.Goals as goal

pub step_put-done-requires-clause-short : goal.step_put-done-requires-clause-short
step_put-done-requires-clause-short g c = λ κs le.
    let all = subst ArePuts c.in_ok-read_before.ensures.found c.self.invariant.1 in
    value_short c.in_ok-read_before.read_before.now c.in_ok-key.key.now c.in_ok-key.value.now c.in_ok-key.ensures.long (subst (IsPutOf c.in_ok-read_before.read_before.now) c.in_ok-key.ensures.both all.0)

pub returns-clause-found : goal.returns-clause-found
returns-clause-found g c =
    let all = subst ArePuts c.in_ok-read_before.ensures.found c.self.invariant.1 in
    let line = c.args.line.now in
    let key = c.in_ok-key.key.now in
    let value = c.in_ok-key.value.now in
    let same : c.in_ok-read_before.read_before.now ≡ line = (bytes_eq-Decides _ _).0 (not_false _ (sym c.ne.ensures ∙ c.if-ne.false)) in
    let puts = subst (λ l. IsPutOf l (key ++ value)) same (subst (IsPutOf c.in_ok-read_before.read_before.now) c.in_ok-key.ensures.both all.0) in
    subst (λ (s : Session). DoesLine s line c.args.out.now c.step_put-done.result c.step_put-done.new.self c.step_put-done.new.out) (c.self.view_is ∙ c.next_puts.ensures) (c.step_put-done.ensures line puts)
