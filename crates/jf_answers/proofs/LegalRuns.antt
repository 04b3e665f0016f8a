-- The entries of a session that runs alone are legal.
use Rattle.std.specs.Prelude.{Bool, true, false, cond, List, [], ◌∷◌, ◌++◌, ℕ, Option, Some, None, IfSome, option_to_list}
use Rattle.std.proofs.Common.{sym, subst}
use Rattle.jf_hash.specs.Hashes.{K}
use Rattle.jf_hash.specs.Maps.{IsBatch}
use Rattle.jf_hash.proofs.HashLaws.{K-IsKey}
use Rattle.jf_split.proofs.BatchLaws.{IsBatch-none, IsBatch-put}
use Rattle.jf_model.specs.States.{State, IsState}
use Rattle.jf_model.specs.Entries.{IsLegal, AreLegal}
use Rattle.jf_model.specs.declared.entries.Entry.{Entry}
use Rattle.jf_model.proofs.EntryLaws.{after-IsState}
use Rattle.jf_text.specs.Words.{is_long}
use Rattle.jf_script.specs.Commands.{command_of}
use Rattle.jf_script.specs.declared.command.OwnCommand.{OwnCommand}
use Rattle.jf_script.specs.declared.command.Change.{Change}
use Rattle.jf_script.specs.declared.command.Command.{Command}
use Rattle.jf_script.specs.declared.command.OwnCommand.TheVariants as own_command
use Rattle.jf_script.specs.declared.command.Change.TheVariants as change
use Rattle.jf_script.specs.declared.command.Command.TheVariants as command
use Rattle.jf_script.specs.declared.reply.Refusal.{Refusal}
use Rattle.jf_script.specs.declared.reply.Reply.TheVariants as reply
use Rattle.jf_answers.specs.Own.{Own, begun_session}
use Rattle.jf_answers.specs.Refusals.{refused_by}
use Rattle.jf_answers.specs.Answers.{Answer, granted_own, granted_change, granted_answer, own_answer, answer_to, answer}
use Rattle.jf_answers.specs.Runs.{answers_from, run_entries}
use Rattle.jf_answers.specs.Laws.{RunsAreLegal}
use Rattle.jf_answers.proofs.AnswerLaws.{Follows, answer-IsSoundAnswer}
use Rattle.jf_answers.proofs.LegalEntries.{answers_are_legal}
use Rattle.jf_answers.proofs.PutValues.{PutsBytes, command_of-PutsBytes}

-- ---- the pending batch
-- the pending batch after an answer is a batch
abbrev Keeps : Answer → Type 0
Keeps a = IsBatch a.own.pending

module _ (s : State) (own : Own) (pending : IsBatch own.pending) where
  own_keeps : (c : OwnCommand) → PutsBytes (command.Own c) → Keeps (granted_own c s own)
  own_keeps (own_command.Put name value) bytes = IsBatch-put (K name) (Some value) own.pending (K-IsKey name) bytes pending
  own_keeps (own_command.Del name) bytes = IsBatch-put (K name) None own.pending (K-IsKey name) tt pending
  own_keeps (own_command.Unpin place) bytes = pending

  change_keeps : (c : Change) → Keeps (granted_change c s own)
  change_keeps change.Commit = IsBatch-none
  change_keeps (change.Fork on) = IsBatch-none
  change_keeps (change.Land id) = pending
  change_keeps (change.Drop id) = pending
  change_keeps (change.Prune upto) = pending
  change_keeps change.Compact = pending

  granted_keeps : (c : Command) → PutsBytes c → Keeps (granted_answer c s own)
  granted_keeps (command.Own c) bytes = own_keeps c bytes
  granted_keeps (command.Read on q) bytes = pending
  granted_keeps (command.ReadFork id q) bytes = pending
  granted_keeps command.Look bytes = pending
  granted_keeps (command.Pin version) bytes = pending
  granted_keeps (command.Change c) bytes = change_keeps c

  command_keeps : (o : Option Refusal) (c : Command) → PutsBytes c → Keeps (elim o as (λ x. Answer) [ Some why ↦ own_answer (reply.No why) s own | None ↦ granted_answer c s own ])
  command_keeps None c bytes = granted_keeps c bytes
  command_keeps (Some why) c bytes = pending

  if_keeps : (b : Bool) (x y : Answer) → Keeps x → Keeps y → Keeps (cond b x y)
  if_keeps true x y h k = h
  if_keeps false x y h k = k

  to_keeps : (o : Option Command) → IfSome o PutsBytes → Keeps (answer_to o s own)
  to_keeps None bytes = pending
  to_keeps (Some c) bytes = command_keeps (refused_by s own c) c bytes

  -- the pending batch stays one
  pub answer-IsBatch : (line : List ℕ) → IsBatch (answer s own line).own.pending
  unfolding answer
  answer-IsBatch line = if_keeps (is_long line) _ _ pending (to_keeps (command_of line) (command_of-PutsBytes line))

-- ---- entries
module _ (s : State) (own : Own) (a : Answer) (sound : IsState s) where
  next_sound : (o : Option Entry) → Follows s own a o → IfSome o (IsLegal s) → IsState a.state
  next_sound None follows legal = subst IsState (sym follows) sound
  next_sound (Some e) follows legal = subst IsState (sym follows.state) (after-IsState s e sound legal)

  next_legal : (o : Option Entry) (es : List Entry) → Follows s own a o → IfSome o (IsLegal s) → AreLegal a.state es → AreLegal s (option_to_list o ++ es)
  next_legal None es follows legal more = subst (λ (t : State). AreLegal t es) follows more
  next_legal (Some e) es follows legal more = (legal, subst (λ (t : State). AreLegal t es) follows.state more)

legal_from : (ls : List (List ℕ)) (s : State) (own : Own) → IsState s → IsBatch own.pending → AreLegal s (run_entries (answers_from s own ls))
unfolding answers_from
legal_from [] s own sound pending = tt
legal_from (line ∷ ls) s own sound pending =
    let a = answer s own line in
    let follows = (answer-IsSoundAnswer s own line).follows in
    let legal = answers_are_legal s own line sound pending in
    next_legal s own a sound a.entry (run_entries (answers_from a.state a.own ls)) follows legal
    (legal_from ls a.state a.own (next_sound s own a sound a.entry follows legal) (answer-IsBatch s own pending line))

pub runs_are_legal : RunsAreLegal
runs_are_legal s lines sound = legal_from lines s (begun_session 0) sound IsBatch-none
