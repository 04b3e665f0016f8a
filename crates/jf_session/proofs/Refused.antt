-- A command that the store refused, or for which nothing was done.
use Rattle.std.proofs.Common.{◌≡◌, ◌∙◌, inl, ℕ, Bool, true, false, Some, None, List, [], ◌++◌, sym, ap, ap₂, subst, Option}
use Rattle.std.specs.Prelude.{Ok, Err}
use Rattle.jf_path.specs.Checks.{first_of}
use Rattle.jf_hash.specs.Maps.{Batch}
use Rattle.jf_turn.specs.Lists.{HasElement}
use Rattle.jf_model.specs.States.{State}
use Rattle.jf_node.specs.SnapshotValue.{SnapshotValue}
use Rattle.jf_store.specs.declared.fault.StoreFault.{StoreFault}
use Rattle.jf_store.specs.Events.{is_marked}
use Rattle.jf_store.specs.Starts.{Start}
use Rattle.jf_store.specs.Ledgers.{state_after_events}
use Rattle.jf_store.specs.Refusals.{StoreFaults, IsRefusal, broken_faults}
use Rattle.jf_store.specs.Passes.{Pass, OthersAlone, Sees}
use Rattle.jf_script.specs.declared.command.Command.{Command}
use Rattle.jf_script.specs.declared.reply.Refusal.{Refusal}
use Rattle.jf_script.specs.declared.reply.Reply.TheVariants as reply
use Rattle.jf_answers.specs.Own.{Own}
use Rattle.jf_answers.specs.OwnLines.{is_own_command}
use Rattle.jf_answers.specs.Answers.{Answer, granted_answer, own_answer, answer_command}
use Rattle.jf_answers.specs.Refusals.{Causes, causes, refused_by}
use Rattle.jf_history.specs.Sessions.{Session, pinned_versions}
use Rattle.jf_session.specs.Refusing.{refusal_or_stop}
use Rattle.jf_session.specs.Steps.{session_of, FollowsCommand, DoneByLook, NotDone, StopsFor}
use Rattle.jf_session.specs.declared.stop.Stop.{Stop}
use Rattle.jf_session.specs.declared.stop.Stop.TheVariants as stop
use Rattle.jf_session.proofs.Refusals.{AreTold, told-reply, told-broken, told-fault}
use Rattle.jf_session.proofs.Entering.{own_of}

-- the answer to a command that is refused
pub answer-refused : (s : State) (own : Own) (c : Command) (why : Refusal) → refused_by s own c ≡ Some why → answer_command s own c ≡ own_answer (reply.No why) s own
answer-refused s own c why is = ap (λ (o : Option Refusal). elim o as (λ x. Answer) [ Some why ↦ own_answer (reply.No why) s own | None ↦ granted_answer c s own ]) is

-- a pass that has seen more follows any command
pub follows-Sees : (p p' : Pass) (c : Command) → Sees p p' → FollowsCommand p p' c
follows-Sees p p' c sees = record {
  begins = sees.begins;
  same = sees.same ∙ sym (ap (λ (q : Pass). record p { seen = p'.seen; place = q.place; pinned = q.pinned }) sees.same);
  announced = λ version has. inl (subst (λ (q : Pass). HasElement q.place.announced version) sees.same has);
}

-- a pass has seen more at a command, none of it its own, and holds the same pins
pub record SeesMore (p p' : Pass) (c : Command) : Type 0 where
  pub follows : FollowsCommand p p' c
  pub others : OthersAlone p p'.seen
  pub pinned : p'.pinned ≡ p.pinned

pub SeesMore-Sees : (p p' : Pass) (c : Command) → Sees p p' → SeesMore p p' c
SeesMore-Sees p p' c sees = record { follows = follows-Sees p p' c sees; others = sees.others; pinned = ap (λ (q : Pass). q.pinned) sees.same }

pub SeesMore-own : (p p' : Pass) (pending : Batch) (c : Command) → SeesMore p p' c → own_of p' pending ≡ own_of p pending
SeesMore-own p p' pending c sees = ap₂ (λ (n : ℕ) (ps : List (Option SnapshotValue)). record { number = n; pending = pending; pins = pinned_versions ps }) (ap (λ (q : Pass). q.number) sees.follows.same) sees.pinned

-- the store refused a command's call, by these faults, reported as these causes; the first that holds refuses the command
pub record Refuses (start : Start) (p p' : Pass) (pending : Batch) (c : Command) (f : StoreFault) : Type 0 where
  pub sees : SeesMore p p' c
  pub rest : StoreFaults
  pub told_as : Causes
  pub alike : AreTold rest told_as
  pub refuses : (why : Refusal) → first_of told_as ≡ Some why → refused_by (state_after_events start p'.seen) (own_of p pending) c ≡ Some why
  pub is : IsRefusal (broken_faults p'.seen ++ rest) f

-- they are all causes of the command
pub Refuses-all : (start : Start) (p p' : Pass) (pending : Batch) (c : Command) (f : StoreFault) → SeesMore p p' c → (rest : StoreFaults) → AreTold rest (causes (state_after_events start p'.seen) (own_of p pending) c)
    → IsRefusal (broken_faults p'.seen ++ rest) f → Refuses start p p' pending c f
unfolding refused_by
Refuses-all start p p' pending c f sees rest alike is = record {
  sees = sees;
  rest = rest;
  told_as = causes (state_after_events start p'.seen) (own_of p pending) c;
  alike = alike;
  refuses = λ why e. e;
  is = is;
}

module _ (start : Start) (p p' : Pass) (pending : Batch) (over over' : Bool) (old : Session) (view : session_of p pending over ≡ old) (c : Command) where
  -- nothing was done
  pub NotDone-sees : SeesMore p p' c → NotDone old (session_of p' pending over') c
  NotDone-sees sees = subst (λ (o : Session). NotDone o (session_of p' pending over') c) view record {
    follows = sees.follows;
    others = sees.others;
    pins = sees.pinned;
    own = SeesMore-own p p' pending c sees;
  }

  module _ (f : StoreFault) (t : Refuses start p p' pending c f) (asks : is_own_command c ≡ false) where
    -- the refusal is the reply
    pub DoneByLook-refused : (why : Refusal) → refusal_or_stop f ≡ Ok why → DoneByLook start old (session_of p' pending over') c (reply.No why) []
    DoneByLook-refused why tells =
        let found = told-reply p'.seen t.rest t.told_as f why t.alike t.is tells in
        let same = answer-refused (state_after_events start p'.seen) (own_of p pending) c why (t.refuses why found.1) in
        subst (λ (o : Session). DoneByLook start o (session_of p' pending over') c (reply.No why) []) view record {
          follows = t.sees.follows;
          others = t.sees.others;
          unmarked = found.0;
          quiet = ap (λ (x : Answer). x.entry) same;
          own = SeesMore-own p p' pending c t.sees ∙ sym (ap (λ (x : Answer). x.own) same);
          reply = sym (ap (λ (x : Answer). x.reply) same);
          block_is = sym (ap (λ (x : Answer). x.block) same);
          by_itself = λ itself. absurd (let e : true ≡ false = sym itself ∙ asks in cc);
        }

    -- the call stops the session
    pub StopsFor-refused : (why : Stop) → refusal_or_stop f ≡ Err why → StopsFor start old (session_of p' pending over') c why
    StopsFor-refused stop.DiskFault tells = absurd (told-fault p'.seen t.rest t.told_as f t.alike t.is tells)
    StopsFor-refused stop.Broken tells = (NotDone-sees t.sees, told-broken p'.seen t.rest t.told_as f t.alike t.is tells, asks)
    StopsFor-refused stop.Memory tells = NotDone-sees t.sees

-- a refusal that is reported in a reply saw no mark
pub Refuses-unmarked : (start : Start) (p p' : Pass) (pending : Batch) (c : Command) (f : StoreFault) (why : Refusal) → Refuses start p p' pending c f → refusal_or_stop f ≡ Ok why → is_marked p'.seen ≡ false
Refuses-unmarked start p p' pending c f why t tells = (told-reply p'.seen t.rest t.told_as f why t.alike t.is tells).0
