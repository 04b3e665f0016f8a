-- The result of a call of a pass that failed: the reply, or why the session ends.
use Rattle.std.proofs.Common.{◌≡◌, ◌⊎◌, inl, inr, ◌∙◌, Bool, true, false, [], sym, ap, subst}
use Rattle.std.specs.Prelude.{Result, Ok, Err}
use Rattle.jf_hash.specs.Maps.{Batch}
use Rattle.jf_store.specs.declared.fault.StoreFault.{StoreFault}
use Rattle.jf_store.specs.declared.fault.StoreFault.TheVariants as store_fault
use Rattle.jf_store.specs.Starts.{Start}
use Rattle.jf_store.specs.Passes.{Pass}
use Rattle.jf_script.specs.declared.command.Command.{Command}
use Rattle.jf_script.specs.declared.reply.Refusal.{Refusal}
use Rattle.jf_script.specs.declared.reply.Reply.{Reply}
use Rattle.jf_script.specs.declared.reply.Reply.TheVariants as reply
use Rattle.jf_answers.specs.OwnLines.{is_own_command}
use Rattle.jf_history.specs.Sessions.{Session}
use Rattle.jf_session.specs.Refusing.{refusal_or_stop, TellsFault}
use Rattle.jf_session.specs.Steps.{session_of, IsDoneAs, StopsFor, IsObeyed, IsSoundSession}
use Rattle.jf_session.specs.declared.stop.Stop.{Stop}
use Rattle.jf_session.specs.declared.stop.Stop.TheVariants as stop
use Rattle.jf_session.proofs.Entering.{Tries, TriedFor-tries}
use Rattle.jf_session.proofs.KeptMaps.{PinsTell-kept}
use Rattle.jf_session.proofs.LegalEvents.{begins_own}
use Rattle.jf_session.proofs.Refused.{Refuses, DoneByLook-refused, StopsFor-refused, Refuses-unmarked}

-- the disk failed in a call for a command, or the call was refused
abbrev pub Fails : Start → Pass → Pass → Batch → Command → StoreFault → Type 0
Fails start p p' pending c f = ((f ≡ store_fault.DiskFault) × Tries start p p' pending c) ⊎ Refuses start p p' pending c f

-- a fault of the disk is not told in a reply
never_told : (f : StoreFault) (why : Refusal) → f ≡ store_fault.DiskFault → refusal_or_stop f ≡ Ok why → ⊥
never_told f why failed tells = let e : Err stop.DiskFault ≡ Ok why = sym (ap refusal_or_stop failed) ∙ tells in absurd (cc)

module _ (start : Start) (p p' : Pass) (pending : Batch) (over over' : Bool) (c : Command) (f : StoreFault) (fails : Fails start p p' pending c f) where
  module _ (old : Session) (view : session_of p pending over ≡ old) (asks : is_own_command c ≡ false) where
    told_done : (x : Reply) (why : Refusal) → refusal_or_stop f ≡ Ok why → x ≡ reply.No why → Fails start p p' pending c f → IsDoneAs start old (session_of p' pending over') c x []
    told_done x why tells is (inl failed) = absurd (never_told f why failed.0 tells)
    told_done x why tells is (inr t) = subst (λ (y : Reply). IsDoneAs start old (session_of p' pending over') c y []) (sym is) (inl (DoneByLook-refused start p p' pending over over' old view c f t asks why tells))

    told_stops : (why : Stop) → refusal_or_stop f ≡ Err why → Fails start p p' pending c f → StopsFor start old (session_of p' pending over') c why
    told_stops why tells (inl failed) =
        let e : Err stop.DiskFault ≡ Err why = sym (ap refusal_or_stop failed.0) ∙ tells in
        let same : stop.DiskFault ≡ why = cc in
        subst (StopsFor start old (session_of p' pending over') c) same (TriedFor-tries start p p' pending pending over over' old view c failed.1)
    told_stops why tells (inr t) = StopsFor-refused start p p' pending over over' old view c f t asks why tells

    -- a reply is that of the command, and a stop is reported as the command's
    pub IsObeyed-failed : old.over ≡ false → (r : Result Reply Stop) → TellsFault f over over' r → IsObeyed start old (session_of p' pending over') c r
    IsObeyed-failed goes (Ok x) t = (told_done x t.ok.0 t.ok.1 t.ok.2 fails, t.goes_on ∙ ap (λ (s : Session). s.over) view ∙ goes)
    IsObeyed-failed goes (Err why) t = told_stops why t.err fails

  kept : IsSoundSession (session_of p pending over) → (over' ≡ true) ⊎ ((why : Refusal) × (refusal_or_stop f ≡ Ok why)) → Fails start p p' pending c f → IsSoundSession (session_of p' pending over')
  kept is (inl ended) (inl failed) =
      let sees = failed.1.follows.sees in
      record { whole = inl ended; pins = PinsTell-kept p p' (begins_own p p' failed.1.before _ sees) (ap (λ (q : Pass). q.start) sees.last) (ap (λ (q : Pass). q.pinned) sees.last) is.pins }
  kept is (inr tells) (inl failed) = absurd (never_told f tells.0 failed.0 tells.1)
  kept is (inl ended) (inr t) = record { whole = inl ended; pins = PinsTell-kept p p' t.sees.follows.begins (ap (λ (q : Pass). q.start) t.sees.follows.same) t.sees.pinned is.pins }
  kept is (inr tells) (inr t) = record { whole = inr (Refuses-unmarked start p p' pending c f tells.0 t tells.1); pins = PinsTell-kept p p' t.sees.follows.begins (ap (λ (q : Pass). q.start) t.sees.follows.same) t.sees.pinned is.pins }

  -- the session stays one
  pub IsSoundSession-failed : (r : Result Reply Stop) → TellsFault f over over' r → IsSoundSession (session_of p pending over) → IsSoundSession (session_of p' pending over')
  IsSoundSession-failed (Ok x) t is = kept is (inr (t.ok.0, t.ok.1)) fails
  IsSoundSession-failed (Err why) t is = kept is (inl t.ends) fails
