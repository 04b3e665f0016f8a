-- The result for a session of a change of what is pending.
use Rattle.std.proofs.Common.{◌≡◌, inl, inr, ◌∙◌, ℕ, Bool, true, false, cond, IsTrue, Option, Some, None, List, [], length, refl, sym, ap, subst}
use Rattle.std.specs.FinMap.{put}
use Rattle.jf_path.specs.Keys.{key_cmp}
use Rattle.jf_hash.specs.Hashes.{K}
use Rattle.jf_hash.specs.Maps.{Batch}
use Rattle.jf_split.specs.Limits.{is_full}
use Rattle.jf_model.specs.States.{State}
use Rattle.jf_store.specs.Starts.{Start}
use Rattle.jf_store.specs.Ledgers.{state_after_events}
use Rattle.jf_store.specs.Passes.{Pass}
use Rattle.jf_script.specs.declared.command.Command.{Command}
use Rattle.jf_script.specs.declared.command.Command.TheVariants as command
use Rattle.jf_script.specs.declared.command.OwnCommand.TheVariants as own_command
use Rattle.jf_script.specs.declared.reply.Refusal.TheVariants as refusal
use Rattle.jf_script.specs.declared.reply.Reply.{Reply}
use Rattle.jf_script.specs.declared.reply.Reply.TheVariants as reply
use Rattle.jf_answers.specs.Own.{Own}
use Rattle.jf_answers.specs.Answers.{Answer, answer_command, own_answer, pending_changed}
use Rattle.jf_answers.specs.Refusals.{refused_by}
use Rattle.jf_answers.proofs.AnswerLaws.{unrefused}
use Rattle.jf_history.specs.Sessions.{Session}
use Rattle.jf_session.specs.Steps.{session_of, IsSoundSession, DoneByLook, IsDoneAs, NotDone}
use Rattle.jf_session.proofs.Entering.{own_of}
use Rattle.jf_session.proofs.Refused.{answer-refused, follows-Sees}
use Rattle.jf_session.proofs.BaseLaws.{Sees-self}

-- the command that a value represents: a `put` of it, or without one a `del`
abbrev pub set_command : List ℕ → Option (List ℕ) → Command
set_command name (Some value) = command.Own (own_command.Put name value)
set_command name None = command.Own (own_command.Del name)

set-full : (s : State) (own : Own) (name : List ℕ) (o : Option (List ℕ)) → is_full (K name) own.pending ≡ true → answer_command s own (set_command name o) ≡ own_answer (reply.No refusal.Pending) s own
unfolding refused_by
set-full s own name (Some value) e = answer-refused s own (command.Own (own_command.Put name value)) refusal.Pending (ap (λ b. cond b (Some refusal.Pending) None) e)
set-full s own name None e = answer-refused s own (command.Own (own_command.Del name)) refusal.Pending (ap (λ b. cond b (Some refusal.Pending) None) e)

set-room : (s : State) (own : Own) (name : List ℕ) (o : Option (List ℕ)) → is_full (K name) own.pending ≡ false → answer_command s own (set_command name o) ≡ pending_changed name o s own
unfolding refused_by
set-room s own name (Some value) e = unrefused s own (command.Own (own_command.Put name value)) (ap (λ b. cond b (Some refusal.Pending) None) e)
set-room s own name None e = unrefused s own (command.Own (own_command.Del name)) (ap (λ b. cond b (Some refusal.Pending) None) e)

not_true : (b : Bool) → (b ≡ true → ⊥) → b ≡ false
not_true true isnt = absurd (isnt refl)
not_true false isnt = refl

module _ (start : Start) (p : Pass) (pending pending' : Batch) (over over' : Bool) (old : Session) (view : session_of p pending over ≡ old) (sound : IsSoundSession (session_of p pending over)) (goes : old.over ≡ false) (name : List ℕ) (o : Option (List ℕ)) where
  abbrev new : Session
  new = session_of p pending' over'

  abbrev s : State
  s = state_after_events start p.seen

  -- the answer changes at most what is pending
  done_as : (a : Answer) → answer_command s (own_of p pending) (set_command name o) ≡ a → a.entry ≡ None → a.block ≡ [] → own_of p pending' ≡ a.own → (r : Reply) → r ≡ a.reply → IsDoneAs start old new (set_command name o) r []
  done_as a is none block own r reply = inl (subst (λ (q : Session). DoneByLook start q new (set_command name o) r []) view record {
    follows = follows-Sees p p (set_command name o) (Sees-self p);
    others = (Sees-self p).others;
    unmarked = elim sound.whole [ inl ends ↦ absurd (let e : true ≡ false = sym ends ∙ ap (λ (q : Session). q.over) view ∙ goes in cc) | inr none ↦ none ];
    quiet = ap (λ (x : Answer). x.entry) is ∙ none;
    own = own ∙ sym (ap (λ (x : Answer). x.own) is);
    reply = reply ∙ sym (ap (λ (x : Answer). x.reply) is);
    block_is = sym block ∙ sym (ap (λ (x : Answer). x.block) is);
    by_itself = λ itself. refl;
  })

  -- the pending batch is full for the key
  pub full_done : (k : List ℕ) → k ≡ K name → IsTrue (is_full k pending) → pending' ≡ pending → IsDoneAs start old new (set_command name o) (reply.No refusal.Pending) []
  full_done k key full same =
      done_as (own_answer (reply.No refusal.Pending) s (own_of p pending)) (set-full s (own_of p pending) name o (ap (λ (j : List ℕ). is_full j pending) (sym key) ∙ full)) refl refl (ap (own_of p) same) (reply.No refusal.Pending) refl

  -- it isn't
  pub room_done : (k : List ℕ) (n : ℕ) → k ≡ K name → (IsTrue (is_full k pending) → ⊥) → pending' ≡ put key_cmp k o pending → n ≡ length pending' → IsDoneAs start old new (set_command name o) (reply.Pending n) []
  room_done k n key room is count =
      let same : pending' ≡ put key_cmp (K name) o pending = is ∙ ap (λ (j : List ℕ). put key_cmp j o pending) key in
      done_as (pending_changed name o s (own_of p pending)) (set-room s (own_of p pending) name o (ap (λ (j : List ℕ). is_full j pending) (sym key) ∙ not_true (is_full k pending) room)) refl refl
      (ap (own_of p) same) (reply.Pending n) (ap reply.Pending (count ∙ ap length same))

  -- memory ran out
  pub unchanged : pending' ≡ pending → NotDone old new (set_command name o)
  unchanged same = subst (λ (q : Session). NotDone q new (set_command name o)) view record {
    follows = follows-Sees p p (set_command name o) (Sees-self p);
    others = (Sees-self p).others;
    pins = refl;
    own = ap (own_of p) same;
  }
