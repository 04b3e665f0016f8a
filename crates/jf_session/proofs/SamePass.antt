-- A session's pass stays one of its store, with its number.
use Rattle.std.proofs.Common.{◌≡◌, ℕ, Option, Some, None, List, ap, sym, ◌∙◌, subst}
use Rattle.jf_store.specs.Starts.{Start}
use Rattle.jf_store.specs.Passes.{Store, Pass, IsPassOf}
use Rattle.jf_answers.specs.Explains.{LineReply}
use Rattle.jf_history.specs.Sessions.{Session, HasReplied, IsTry, HasDoneNothing}
use Rattle.jf_history.specs.Runs.{EndsBy, IsAtRest, HasRunOver}
use Rattle.jf_history.specs.declared.end.End.{End}
use Rattle.jf_history.specs.declared.end.End.TheVariants as end
use Rattle.jf_session.specs.Answering.{StopsAt}
use Rattle.jf_session.specs.declared.stop.Stop.{Stop}
use Rattle.jf_session.specs.declared.stop.Stop.TheVariants as stop

-- the store, with what it began, and the number are the same
abbrev pub IsSamePass : Pass → Pass → Type 0
IsSamePass old new = (new.store ≡ old.store) × (new.start ≡ old.start) × (new.number ≡ old.number)

pub same_of : (old new : Pass) → new ≡ record old { seen = new.seen; place = new.place; pinned = new.pinned } → IsSamePass old new
same_of old new e = (ap (λ (p : Pass). p.store) e, ap (λ (p : Pass). p.start) e, ap (λ (p : Pass). p.number) e)

pub same_further : (old mid new : Pass) → IsSamePass old mid → IsSamePass mid new → IsSamePass old new
same_further old mid new s t = (t.0 ∙ s.0, t.1 ∙ s.1, t.2 ∙ s.2)

pub same_replied : (start : Start) (s new : Session) (line : List ℕ) (r : LineReply) → HasReplied start s new line r → IsSamePass s.pass new.pass
same_replied start s new line r t = same_of s.pass new.pass t.follows.same

pub same_idle : (s new : Session) (line : List ℕ) → HasDoneNothing s new line → IsSamePass s.pass new.pass
same_idle s new line t = same_of s.pass new.pass t.follows.same

pub same_try : (start : Start) (s new : Session) (line : List ℕ) → IsTry start s new line → IsSamePass s.pass new.pass
same_try start s new line t = let e = t.sees.last in (ap (λ (p : Pass). p.store) e, ap (λ (p : Pass). p.start) e, ap (λ (p : Pass). p.number) e)

pub same_stops : (start : Start) (s new : Session) (line : List ℕ) (why : Stop) → StopsAt start s new line why → IsSamePass s.pass new.pass
same_stops start s new line stop.DiskFault t = same_try start s new line t
same_stops start s new line stop.Broken t = same_idle s new line t.idle
same_stops start s new line stop.Memory t = same_idle s new line t

same_last : (s new : Session) → new ≡ s → IsSamePass s.pass new.pass
same_last s new e = (ap (λ (t : Session). t.pass.store) e, ap (λ (t : Session). t.pass.start) e, ap (λ (t : Session). t.pass.number) e)

same_at_rest : (s new : Session) (next : Option (List ℕ)) → IsAtRest s new next → IsSamePass s.pass new.pass
same_at_rest s new None rest = same_last s new rest
same_at_rest s new (Some line) rest = same_idle s new line rest

pub same_by : (e : End) (start : Start) (s new : Session) (next : Option (List ℕ)) → EndsBy e start s new next → IsSamePass s.pass new.pass
same_by end.Done start s new next d = same_last s new d.0
same_by end.ReadFault start s new next d = same_last s new d.0
same_by end.WriteFault start s new next d = same_at_rest s new next d
same_by end.DiskFault start s new next d = same_try start s new d.0 d.2
same_by end.Broken start s new next d = same_idle s new d.0 d.2.idle
same_by end.Memory start s new next d = same_at_rest s new next d

pub same_ran : (e : End) (start : Start) (old new : Pass) (rest rest' text text' : Option (List ℕ)) → HasRunOver e start old new rest rest' text text' → IsSamePass old new
same_ran e start old new rest rest' text text' r =
    subst (IsSamePass old) (sym r.pass_is) (same_further old r.mid.pass r.last.pass (same_of old r.mid.pass r.answered.same) (same_by e start r.mid r.last r.next r.ends))

-- so it is one of its store's
pub own_after : (store : Store) (old new : Pass) → IsPassOf old store → IsSamePass old new → IsPassOf new store
own_after store old new own same = (same.0 ∙ own.0, same.1 ∙ own.1)
