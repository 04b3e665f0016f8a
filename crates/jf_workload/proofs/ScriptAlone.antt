-- A run of a script over a store that is its session's alone.
use Rattle.std.proofs.Common.{ℕ, List, map, sym, ap, ◌∙◌, subst}
use Rattle.jf_model.specs.Entries.{replay, timeless}
use Rattle.jf_store.specs.Events.{attempt_of}
use Rattle.jf_store.specs.Ledgers.{AreEvents}
use Rattle.jf_store.specs.Passes.{Pass}
use Rattle.jf_answers.specs.Runs.{answers}
use Rattle.jf_history.specs.Sessions.{seen_by}
use Rattle.jf_history.specs.Alone.{TriesAlone}
use Rattle.jf_history.specs.Laws.{OneEndIsAlone}
use Rattle.jf_workload.specs.ScriptRuns.{WritesReport}
use Rattle.jf_workload.specs.Laws.{OneScriptIsAlone}

pub script_is_alone : OneEndIsAlone → OneScriptIsAlone
script_is_alone law store e script new text text' one none are r =
    let g = law store e r.mid r.last r.done r.replies r.next one none (subst (λ (p : Pass). AreEvents store.start p.seen) r.pass_is are) r.answered r.ends in
    record {
      done = r.done;
      next = r.next;
      more = r.more;
      first = r.first;
      entries_are = ap (λ (p : Pass). map timeless (seen_by p)) r.pass_is ∙ g.0.entries;
      state = ap (λ (p : Pass). replay store.start.state (seen_by p)) r.pass_is ∙ g.0.state;
      tried = subst (λ (p : Pass). TriesAlone e (answers store.start.state r.done) r.next (attempt_of p.seen)) (sym r.pass_is) g.1;
      writes = subst (λ (ts : List (List ℕ)). WritesReport e script r.done ts text text') g.0.texts r.writes;
    }
