-- What holds of sessions that lead, as statements for calls that do nothing and ensure them.
use Rattle.std.specs.Prelude.{◌≡◌, ℕ, Bool, List, Option}
use Rattle.std.specs.List.{AllByRecursion}
use Rattle.jf_lead.specs.Landings.{landings}
use Rattle.jf_lead.specs.Laws.{IsLandingBlock}
use Rattle.jf_store.specs.Starts.{Start}
use Rattle.jf_store.specs.Ledgers.{AreEvents}
use Rattle.jf_store.specs.Passes.{Store, Pass, new_pass}
use Rattle.jf_history.specs.Sessions.{seen_by}
use Rattle.jf_history.specs.declared.end.End.{End}
use Rattle.jf_session.specs.Leading.{own_landings, WritesBlocks, HasLedOver}

-- in a store of one pass, all landings are those of its session
abbrev pub OnePassLeadsAll : Type 0
OnePassLeadsAll = (start : Start) (p : Pass) → start.passes ≡ 1 → p.number ≡ 0 → AreEvents start p.seen → own_landings 0 start.state (seen_by p) ≡ landings start.state (seen_by p)

-- so a script that was run alone on its store tells the blocks of the whole history, and each of them can be written
abbrev pub OneLeadTellsAll : Type 0
OneLeadTellsAll = (store : Store) (e : End) (is_cut : Bool) (new : Pass) (rest rest' text text' : Option (List ℕ)) → store.start.passes ≡ 1 → AreEvents store.start new.seen
    → HasLedOver e is_cut store.start (new_pass store 0) new rest rest' text text'
    → AllByRecursion IsLandingBlock (landings store.start.state (seen_by new)) × WritesBlocks e is_cut store.start.state (seen_by new) (landings store.start.state (seen_by new)) text text'
