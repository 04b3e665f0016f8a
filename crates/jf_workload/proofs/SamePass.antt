-- A pass over which a script was run stays one of its store, with its number.
use Rattle.std.proofs.Common.{◌≡◌, ℕ, List, Option, sym, subst}
use Rattle.jf_store.specs.Passes.{Store, Pass, IsPassOf}
use Rattle.jf_history.specs.declared.end.End.{End}
use Rattle.jf_session.proofs.SamePass.{IsSamePass, same_of, same_further, same_by, own_after}
use Rattle.jf_workload.specs.ScriptRuns.{HasRunScript}

pub same_script : (store : Store) (e : End) (script : List (List ℕ)) (old new : Pass) (text text' : Option (List ℕ)) → IsPassOf old store → HasRunScript e store.start script old new text text' → IsPassOf new store × (new.number ≡ old.number)
same_script store e script old new text text' own r =
    let same = subst (IsSamePass old) (sym r.pass_is) (same_further old r.mid.pass r.last.pass (same_of old r.mid.pass r.answered.same) (same_by e store.start r.mid r.last r.next r.ends)) in
    (own_after store old new own same, same.2)
