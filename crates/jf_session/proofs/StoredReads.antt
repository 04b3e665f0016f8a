-- The result of a read of a stored map for a session, by the base that names the map.
use Rattle.std.specs.Prelude.{Result, Ok, slice_index_or}
use Rattle.std.proofs.Common.{◌≡◌, ◌∙◌, ℕ, Bool, false, Some, None, List, [], ◌++◌, refl, sym, ap, subst}
use Rattle.jf_path.specs.Checks.{first_of}
use Rattle.jf_hash.specs.Maps.{Batch, Map}
use Rattle.jf_model.specs.States.{State}
use Rattle.jf_node.specs.SnapshotValue.{SnapshotValue}
use Rattle.jf_store.specs.declared.fault.StoreFault.{StoreFault}
use Rattle.jf_store.specs.Starts.{Start}
use Rattle.jf_store.specs.Ledgers.{state_after_events}
use Rattle.jf_store.specs.Refusals.{StoreFaults, IsRefusal, broken_faults}
use Rattle.jf_store.specs.Passes.{Pass, Sees}
use Rattle.jf_script.specs.declared.command.Base.{Base}
use Rattle.jf_script.specs.declared.command.Base.TheVariants as base
use Rattle.jf_script.specs.declared.command.Question.{Question}
use Rattle.jf_script.specs.declared.command.Command.TheVariants as command
use Rattle.jf_script.specs.declared.reply.Refusal.TheVariants as refusal
use Rattle.jf_script.specs.declared.reply.Reply.{Reply}
use Rattle.jf_script.specs.declared.reply.Reply.TheVariants as reply
use Rattle.jf_answers.specs.Own.{Own}
use Rattle.jf_answers.specs.OwnLines.{is_place}
use Rattle.jf_answers.specs.Refusals.{base_causes, base_map}
use Rattle.jf_history.specs.Sessions.{Session}
use Rattle.jf_session.specs.Refusing.{TellsFault}
use Rattle.jf_session.specs.Questions.{IsAnswerTo}
use Rattle.jf_session.specs.Steps.{session_of, IsSoundSession, IsObeyedWith}
use Rattle.jf_session.specs.declared.stop.Stop.{Stop}
use Rattle.jf_session.proofs.Entering.{own_of}
use Rattle.jf_session.proofs.Refusals.{AreTold}
use Rattle.jf_session.proofs.Refused.{answer-refused}
use Rattle.jf_session.proofs.RefusedCalls.{Fails, IsObeyed-failed, IsSoundSession-failed}
use Rattle.jf_session.proofs.BaseLaws.{Sees-self, unmarked-on, pin-free, pin-map, pin-refused}
use Rattle.jf_session.proofs.ReadLaws.{ReadsMap-read, IsObeyedWith-plain, plain_done, asked_done, call_done, Fails-asked}

-- a session that is given by its parts is over if it is
over_of : (p : Pass) (pending : Batch) (over : Bool) (old : Session) → session_of p pending over ≡ old → old.over ≡ false → over ≡ false
over_of p pending over old view goes = ap (λ (s : Session). s.over) view ∙ goes

-- ---- a base that asks the store
module _ (start : Start) (p p' : Pass) (pending : Batch) (over over' : Bool) (on b : Base) (q : Question) (sees : Sees p p') (asks : is_place b ≡ false) (rest : StoreFaults) (told : AreTold rest (base_causes (state_after_events start p'.seen) (own_of p pending) b)) where
  abbrev s : State
  s = state_after_events start p'.seen

  abbrev own : Own
  own = own_of p pending

  fails : (f : StoreFault) → IsRefusal (broken_faults p'.seen ++ rest) f → Fails start p p' pending (command.Read b q) f
  fails f refused = Fails-asked start p p' pending (command.Read b q) sees (base_causes s own b) q (base_map s own b) (ReadsMap-read s own b q) rest told f refused

  -- the call was refused
  pub read_sound : (f : StoreFault) → IsRefusal (broken_faults p'.seen ++ rest) f → (x : Result Reply Stop) → TellsFault f over over' x → IsSoundSession (session_of p pending over) → IsSoundSession (session_of p' pending over')
  read_sound f refused x tells sound = IsSoundSession-failed start p p' pending over over' (command.Read b q) f (fails f refused) x tells sound

  module _ (old : Session) (view : session_of p pending over ≡ old) (goes : old.over ≡ false) (is : on ≡ b) where
    pub read_refused : (f : StoreFault) → IsRefusal (broken_faults p'.seen ++ rest) f → (lines : List ℕ) (x : Result Reply Stop) → TellsFault f over over' x → IsObeyedWith start old (session_of p' pending over') (command.Read on q) lines lines x
    read_refused f refused lines x tells = subst (λ (a : Base). IsObeyedWith start old (session_of p' pending over') (command.Read a q) lines lines x) (sym is)
        (IsObeyedWith-plain start old (session_of p' pending over') (command.Read b q) lines x (IsObeyed-failed start p p' pending over over' (command.Read b q) f (fails f refused) old view asks goes x tells))

    -- it found the map
    pub read_done : first_of (broken_faults p'.seen ++ rest) ≡ None → over' ≡ over → (n : Map) → n ≡ base_map s own b → (lines lines' : List ℕ) (x : Result Reply Stop) → IsAnswerTo q n lines lines' x
        → IsObeyedWith start old (session_of p' pending over') (command.Read on q) lines lines' x
    read_done free same n at lines lines' x a = subst (λ (c : Base). IsObeyedWith start old (session_of p' pending over') (command.Read c q) lines lines' x) (sym is)
        (call_done start p p' pending over over' old view (command.Read b q) sees (base_causes s own b) q (base_map s own b) (ReadsMap-read s own b q) rest told asks free (same ∙ over_of p pending over old view goes) n at lines lines' x a)

-- ---- a pinned place
module _ (start : Start) (p : Pass) (pending : Batch) (over : Bool) (old : Session) (view : session_of p pending over ≡ old) (sound : IsSoundSession (session_of p pending over)) (goes : old.over ≡ false) (on : Base) (place : ℕ) (is : on ≡ base.Place place) (q : Question) where
  abbrev here : State
  here = state_after_events start p.seen

  abbrev mine : Own
  mine = own_of p pending

  pub place_done : old.pass.start ≡ Some start → (t : SnapshotValue) → Some t ≡ slice_index_or p.pinned place None → (lines lines' : List ℕ) (x : Result Reply Stop) → IsAnswerTo q t.map lines lines' x
      → IsObeyedWith start old (session_of p pending over) (command.Read on q) lines lines' x
  place_done on_store t there lines lines' x a =
      let runs = over_of p pending over old view goes in
      let at = pin-map start p pending place over sound (ap (λ (r : Session). r.pass.start) view ∙ on_store) t (sym there) in
      subst (λ (c : Base). IsObeyedWith start old (session_of p pending over) (command.Read c q) lines lines' x) (sym is)
      (asked_done start p p pending over over old view (command.Read (base.Place place) q) (Sees-self p) (base_causes here mine (base.Place place)) q (base_map here mine (base.Place place)) (ReadsMap-read here mine (base.Place place) q)
      (unmarked-on p pending over sound runs) (pin-free start p pending place t (sym there)) (λ itself. refl) runs t.map at lines lines' x a)

  -- nothing is pinned there
  pub place_refused : None ≡ slice_index_or p.pinned place None → (lines : List ℕ) → IsObeyedWith start old (session_of p pending over) (command.Read on q) lines lines (Ok (reply.No refusal.NoPin))
  place_refused there lines =
      let runs = over_of p pending over old view goes in
      let c = command.Read (base.Place place) q in
      let why = (ReadsMap-read here mine (base.Place place) q).refused refusal.NoPin (pin-refused start p pending place (sym there)) in
      subst (λ (a : Base). IsObeyedWith start old (session_of p pending over) (command.Read a q) lines lines (Ok (reply.No refusal.NoPin))) (sym is)
      (IsObeyedWith-plain start old (session_of p pending over) c lines (Ok (reply.No refusal.NoPin))
      (plain_done start p p pending over over old view c (Sees-self p) (reply.No refusal.NoPin) [] (unmarked-on p pending over sound runs) (λ itself. refl) (answer-refused here mine c refusal.NoPin why), runs))

-- ---- as the session sees it
-- what was done for the base is done for the one that is equal to it, and for the session that is given by its parts
pub read_as : (start : Start) (old old' new : Session) (on b : Base) (q : Question) (lines lines' : List ℕ) (x : Result Reply Stop) → old' ≡ old → on ≡ b → IsObeyedWith start old' new (command.Read b q) lines lines' x → IsObeyedWith start old new (command.Read on q) lines lines' x
read_as start old old' new on b q lines lines' x view is obeyed =
    subst (λ (s : Session). IsObeyedWith start s new (command.Read on q) lines lines' x) view (subst (λ (a : Base). IsObeyedWith start old' new (command.Read a q) lines lines' x) (sym is) obeyed)

pub place_as : (start : Start) (p : Pass) (pending : Batch) (over : Bool) (old : Session) (view : session_of p pending over ≡ old) → old.over ≡ false → IsSoundSession (session_of p pending over) → old.pass.start ≡ Some start
    → (on : Base) (place : ℕ) (q : Question) (lines lines' : List ℕ) (x : Result Reply Stop) → on ≡ base.Place place
    → ((start : Start) (pending : Batch) → IsSoundSession (session_of p pending false) → p.start ≡ Some start → IsObeyedWith start (session_of p pending false) (session_of p pending false) (command.Read (base.Place place) q) lines lines' x)
    → IsObeyedWith start old old (command.Read on q) lines lines' x
place_as start p pending over old view goes sound on_store on place q lines lines' x is obeyed =
    let runs = over_of p pending over old view goes in
    let done = obeyed start pending (subst (λ b. IsSoundSession (session_of p pending b)) runs sound) (ap (λ (s : Session). s.pass.start) view ∙ on_store) in
    let here = subst (λ b. IsObeyedWith start (session_of p pending b) (session_of p pending b) (command.Read (base.Place place) q) lines lines' x) (sym runs) done in
    subst (λ (s : Session). IsObeyedWith start s s (command.Read on q) lines lines' x) view
    (subst (λ (a : Base). IsObeyedWith start (session_of p pending over) (session_of p pending over) (command.Read a q) lines lines' x) (sym is) here)
