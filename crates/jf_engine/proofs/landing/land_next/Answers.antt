-- If there is no room for a landing, the list stays.
use Rattle.std.specs.Prelude.{Result, Ok, Err, OnErr}
use Rattle.std.proofs.Common.{[], sym, ◌∙◌}
use Rattle.std.proofs.lemmas.List.{append-nil}
use Rattle.jf_engine.proofs.landing.land_next.Goals as goal

-- what holds anyway holds of an error
on_any_err : {A E P : Type 0} (r : Result A E) → P → OnErr r P
on_any_err (Ok x) p = tt
on_any_err (Err e) p = p

pub returns-in_err-push-clause-kept : goal.returns-in_err-push-clause-kept
returns-in_err-push-clause-kept g c = on_any_err c.from_residual-in_err-push.result ([], c.in_err-push.ensures.items ∙ sym (append-nil c.args.landings.now.items))
