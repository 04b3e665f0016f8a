-- The entry that a line gives is legal.
use Rattle.std.specs.Prelude.{◌≡◌, ℕ, ◌^◌, ◌<◌, ◌≤◌, Bool, true, false, cond, nat_le, nat_lt, [], ◌∷◌, Option, Some, None, IfSome}
use Rattle.std.proofs.Common.{refl, sym, ap, arith}
use Rattle.std.proofs.lemmas.Bool.Decides.{nat_tests}
use Rattle.std.specs.List.{AllByRecursion}
use Rattle.jf_path.specs.Checks.{first_of}
use Rattle.jf_path.specs.Limits.{max_forks}
use Rattle.jf_path.proofs.BoolLaws.{not_false}
use Rattle.jf_hash.specs.Maps.{IsBatch}
use Rattle.jf_hash.specs.Roots.{root}
use Rattle.jf_model.proofs.VersionLaws.{land_all-newest}
use Rattle.jf_model.specs.Forks.{is_among}
use Rattle.jf_model.specs.States.{State, IsState}
use Rattle.jf_model.specs.Entries.{IsLegal, landed_batches}
use Rattle.jf_model.specs.declared.entries.Landing.TheVariants as landing
use Rattle.jf_model.specs.declared.entries.Parent.{Parent}
use Rattle.jf_model.specs.declared.entries.Parent.TheVariants as parent
use Rattle.jf_text.specs.Words.{is_long}
use Rattle.jf_script.specs.Commands.{command_of}
use Rattle.jf_script.specs.declared.command.OwnCommand.{OwnCommand}
use Rattle.jf_script.specs.declared.command.Change.{Change}
use Rattle.jf_script.specs.declared.command.Command.{Command}
use Rattle.jf_script.specs.declared.command.OwnCommand.TheVariants as own_command
use Rattle.jf_script.specs.declared.command.Change.TheVariants as change
use Rattle.jf_script.specs.declared.command.Command.TheVariants as command
use Rattle.jf_script.specs.declared.reply.Refusal.{Refusal}
use Rattle.jf_script.specs.declared.reply.Reply.TheVariants as reply
use Rattle.jf_answers.specs.Own.{Own}
use Rattle.jf_answers.specs.Refusals.{Causes, causes, refused_by}
use Rattle.jf_answers.specs.Answers.{Answer, fork_answer, granted_own, granted_change, granted_answer, own_answer, answer_command, answer_to, answer}
use Rattle.jf_answers.specs.Laws.{AnswersAreLegal}
use Rattle.jf_answers.proofs.Pins.{below-le}

-- ---- causes that don't hold
first_passed : (b : Bool) (why : Refusal) (o : Option Refusal) → cond b (Some why) o ≡ None → (b ≡ false) × (o ≡ None)
first_passed true why o e = absurd (cc)
first_passed false why o e = (refl, e)

all_passed : (cs : Causes) → first_of cs ≡ None → AllByRecursion (λ c. c.0 ≡ false) cs
all_passed [] e = tt
all_passed (c ∷ cs) e = let h = first_passed c.0 c.1 (first_of cs) e in (h.0, all_passed cs h.1)

below : (a b : ℕ) → nat_le a b ≡ false → b < a
below a b e = grind (arith, nat_tests)

at_most : (a b : ℕ) → nat_lt a b ≡ false → b ≤ a
at_most a b e = grind (arith, nat_tests)

-- ---- what a command that nothing refuses gives
-- no cause of a command holds
abbrev NonePass : State → Own → Command → Type 0
NonePass s own c = AllByRecursion (λ x. x.0 ≡ false) (causes s own c)

module _ (s : State) (own : Own) (pending : IsBatch own.pending) where
  own_legal : (c : OwnCommand) → IfSome (granted_own c s own).entry (IsLegal s)
  own_legal (own_command.Put name value) = tt
  own_legal (own_command.Del name) = tt
  own_legal (own_command.Unpin place) = tt

  -- a fork is made on a parent that is there
  made_legal : (on : Parent) → NonePass s own (command.Change (change.Fork on)) → IfSome (fork_answer on s own).entry (IsLegal s)
  made_legal parent.Head h = (below (2 ^ 62) s.count h.0, record { next = refl; stands = refl; room = below max_forks _ h.1.0; sound = pending; rooted = refl })
  made_legal (parent.Fork id) h = (
    below (2 ^ 62) s.count h.0,
    record { next = refl; stands = not_false (is_among id s.forks) h.1.1.0; room = below max_forks _ h.1.1.1.0; sound = pending; rooted = refl },
  )

  change_legal : (c : Change) → IsState s → NonePass s own (command.Change c) → IfSome (granted_change c s own).entry (IsLegal s)
  change_legal change.Commit sound h = (
    below (2 ^ 62) s.count h.0,
    record { may = pending; small = at_most (2 ^ 62) _ h.1.1.0; next = refl; bounded = at_most _ _ h.1.0; rooted = refl },
  )
  change_legal (change.Fork on) sound h = made_legal on h
  change_legal (change.Land id) sound h = (
    below (2 ^ 62) s.count h.0,
    record {
      may = (not_false (is_among id s.forks) h.1.1.0, at_most 10000 _ h.1.1.1.0);
      small = at_most (2 ^ 62) _ h.1.1.1.1.1.0;
      next = refl;
      bounded = at_most _ _ h.1.1.1.1.0;
      rooted = ap root (sym (land_all-newest (landed_batches s (landing.Fork id)) s.all));
    },
  )
  change_legal (change.Drop id) sound h = (below (2 ^ 62) s.count h.0, not_false (is_among id s.forks) h.1.1.0)
  change_legal (change.Prune upto) sound h =
      let high = at_most s.all.head upto h.1.0 in
      let low = at_most upto s.retired h.1.1.0 in
      let floor = sound.floor_low in
      let least = below-le upto own.pins in
      (below (2 ^ 62) s.count h.0, record { rises = low; within = high; floor_rises = omega arith; below = omega arith })
  change_legal change.Compact sound h = let high = below _ s.generation h.1.0 in (below (2 ^ 62) s.count h.0, (refl, omega arith))

  granted_legal : (c : Command) → IsState s → NonePass s own c → IfSome (granted_answer c s own).entry (IsLegal s)
  granted_legal (command.Own c) sound h = own_legal c
  granted_legal (command.Read on q) sound h = tt
  granted_legal (command.ReadFork id q) sound h = tt
  granted_legal command.Look sound h = tt
  granted_legal (command.Pin version) sound h = tt
  granted_legal (command.Change c) sound h = change_legal c sound h

  command_legal : (o : Option Refusal) (c : Command) → IsState s → (o ≡ None → NonePass s own c) → IfSome (elim o as (λ x. Answer) [ Some why ↦ own_answer (reply.No why) s own | None ↦ granted_answer c s own ]).entry (IsLegal s)
  command_legal None c sound h = granted_legal c sound (h refl)
  command_legal (Some why) c sound h = tt

  if_legal : (b : Bool) (x y : Answer) → IfSome x.entry (IsLegal s) → IfSome y.entry (IsLegal s) → IfSome (cond b x y).entry (IsLegal s)
  if_legal true x y h k = h
  if_legal false x y h k = k

  answer_command-IsLegal : (c : Command) → IsState s → IfSome (answer_command s own c).entry (IsLegal s)
  unfolding refused_by
  answer_command-IsLegal c sound = command_legal (refused_by s own c) c sound (all_passed (causes s own c))

  to_legal : (o : Option Command) → IsState s → IfSome (answer_to o s own).entry (IsLegal s)
  to_legal None sound = tt
  to_legal (Some c) sound = answer_command-IsLegal c sound

pub answers_are_legal : AnswersAreLegal
unfolding answer
answers_are_legal s own line sound pending = if_legal s own pending (is_long line) _ _ tt (to_legal s own pending (command_of line) sound)
