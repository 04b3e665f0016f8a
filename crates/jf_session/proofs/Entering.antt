-- A command that gave an entry, or at which the disk failed.
use Rattle.std.specs.Prelude.{Ok}
use Rattle.std.proofs.Common.{◌≡◌, ◌∙◌, inr, ℕ, Bool, false, List, [], refl, sym, ap, subst}
use Rattle.jf_hash.specs.Maps.{Batch}
use Rattle.jf_model.specs.Entries.{owner_of}
use Rattle.jf_model.specs.declared.entries.Entry.{Entry}
use Rattle.jf_store.specs.declared.event.Event.{Event}
use Rattle.jf_store.specs.declared.event.Event.TheVariants.{Done, Mark}
use Rattle.jf_store.specs.Starts.{Start}
use Rattle.jf_store.specs.Ledgers.{state_after_events}
use Rattle.jf_store.specs.Passes.{Pass, SeesOwn}
use Rattle.jf_script.specs.declared.command.Command.{Command}
use Rattle.jf_script.specs.declared.reply.Reply.{Reply}
use Rattle.jf_answers.specs.Own.{Own}
use Rattle.jf_answers.specs.Answers.{Answer}
use Rattle.jf_answers.specs.Explains.{Timeline, HasFloor}
use Rattle.jf_history.specs.Sessions.{Session, HaveMet, HeldFloor, timeline, pinned_versions}
use Rattle.jf_session.specs.Steps.{session_of, GivesFor, DoneByEntry, TriedFor, IsDoneAs, IsObeyed, IsSoundSession}
use Rattle.jf_session.proofs.Granting.{Grants, granted_with, answer-granted}
use Rattle.jf_session.proofs.KeptMaps.{PinsTell-kept}
use Rattle.jf_session.proofs.LegalEvents.{begins_own, unmarked_entry}

-- what a session keeps for itself: the number and the pins of its pass, and what is pending
abbrev pub own_of : Pass → Batch → Own
own_of p pending = record { number = p.number; pending = pending; pins = pinned_versions p.pinned }

-- the floor of an entry is one that pins allow, and one that its session may have held back
pub record HasSoundFloor (start : Start) (own : Own) (events before : List Event) (e : Entry) : Type 0 where
  pub allowed : (pins : List ℕ) → HaveMet pins start events → (h : Timeline) → h.pins ≡ pins → HasFloor h (state_after_events start before) own e
  pub held : HeldFloor start own (state_after_events start before) e

-- an event of the pass is over this state, and its entry is the command's
pub record FollowsBy (start : Start) (p p' : Pass) (pending : Batch) (c : Command) (before : List Event) (x : Event) (e : Entry) : Type 0 where
  pub sees : SeesOwn p p' before x
  pub grants : Grants (state_after_events start before) (own_of p pending) c e
  pub floor : HasSoundFloor start (own_of p pending) p'.seen before e

-- the pass added the entry of the command, and the reply is the command's
pub record Enters (start : Start) (p p' : Pass) (pending pending' : Batch) (c : Command) (r : Reply) : Type 0 where
  pub before : List Event
  pub event : Entry
  pub follows : FollowsBy start p p' pending c before (Done event) event
  pub owned : owner_of event ≡ p.number
  pub own : own_of p pending' ≡ (granted_with (state_after_events start before) (own_of p pending) c event).own
  pub reply : r ≡ (granted_with (state_after_events start before) (own_of p pending) c event).reply
  pub block : (granted_with (state_after_events start before) (own_of p pending) c event).block ≡ []

-- the disk failed in the entry of the command
pub record Tries (start : Start) (p p' : Pass) (pending : Batch) (c : Command) : Type 0 where
  pub before : List Event
  pub attempt : Entry
  pub follows : FollowsBy start p p' pending c before (Mark p.number attempt) attempt

module _ (start : Start) (p p' : Pass) (pending pending' : Batch) (over over' : Bool) (old : Session) (view : session_of p pending over ≡ old) (c : Command) where
  gives_for : (before : List Event) (x : Event) (e : Entry) → FollowsBy start p p' pending c before x e → (events : List Event) → (pins : List ℕ) → HaveMet pins start p'.seen
      → GivesFor (timeline start pins events) (state_after_events start before) (own_of p pending) c e
  gives_for before x e f events pins met = record {
    same = ap (λ (a : Answer). a.entry) (answer-granted (state_after_events start before) (own_of p pending) c e f.grants.free) ∙ f.grants.gives;
    floor = f.floor.allowed pins met (timeline start pins events) refl;
  }

  -- a command that gave its entry is done
  pub IsDoneAs-entered : (r : Reply) → Enters start p p' pending pending' c r → IsDoneAs start old (session_of p' pending' over') c r []
  IsDoneAs-entered r t =
      let same = answer-granted (state_after_events start t.before) (own_of p pending) c t.event t.follows.grants.free in
      inr (subst (λ (o : Session). DoneByEntry start o (session_of p' pending' over') c r []) view record {
        before = t.before;
        event = t.event;
        sees = t.follows.sees;
        owned = t.owned;
        gives = gives_for t.before (Done t.event) t.event t.follows p'.seen;
        held = t.follows.floor.held;
        own = ap (λ (q : Pass). own_of q pending') t.follows.sees.last ∙ t.own ∙ sym (ap (λ (x : Answer). x.own) same);
        reply = t.reply ∙ sym (ap (λ (x : Answer). x.reply) same);
        block_is = sym t.block ∙ sym (ap (λ (x : Answer). x.block) same);
      })

  -- and the session goes on
  pub IsObeyed-entered : old.over ≡ false → over' ≡ over → (r : Reply) → Enters start p p' pending pending' c r → IsObeyed start old (session_of p' pending' over') c (Ok r)
  IsObeyed-entered goes same r t = (IsDoneAs-entered r t, same ∙ ap (λ (s : Session). s.over) view ∙ goes)

  -- one at which the disk failed was tried
  pub TriedFor-tries : Tries start p p' pending c → TriedFor start old (session_of p' pending over') c
  TriedFor-tries t = subst (λ (o : Session). TriedFor start o (session_of p' pending over') c) view record {
    attempt = t.attempt;
    before = t.before;
    sees = t.follows.sees;
    gives = gives_for t.before (Mark p.number t.attempt) t.attempt t.follows t.before;
    held = t.follows.floor.held;
    own = ap (λ (q : Pass). own_of q pending) t.follows.sees.last;
  }

-- the session goes on after an entry
pub IsSoundSession-entered : (start : Start) (p p' : Pass) (pending pending' : Batch) (over over' : Bool) (c : Command) (r : Reply) → IsSoundSession (session_of p pending over) → Enters start p p' pending pending' c r
    → IsSoundSession (session_of p' pending' over')
IsSoundSession-entered start p p' pending pending' over over' c r is t =
    let sees = t.follows.sees in
    record {
      whole = inr (unmarked_entry p p' t.before t.event sees);
      pins = PinsTell-kept p p' (begins_own p p' t.before (Done t.event) sees) (ap (λ (q : Pass). q.start) sees.last) (ap (λ (q : Pass). q.pinned) sees.last) is.pins;
    }
