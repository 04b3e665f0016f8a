-- What holds of every answer.
use Rattle.std.specs.Prelude.{◌≡◌, Option, Some, None, Bool, true, false, cond, ℕ, zero, suc, List, [], ◌∷◌, slice_set, IfSome, IsTrue}
use Rattle.std.proofs.Common.{refl, ap, sym, subst, ◌∙◌}
use Rattle.std.specs.List.{AllByRecursion}
use Rattle.jf_model.specs.States.{State}
use Rattle.jf_model.specs.declared.entries.Entry.{Entry}
use Rattle.jf_model.specs.Entries.{after, owner_of, timeless}
use Rattle.jf_model.specs.declared.entries.Entry.TheVariants as entry
use Rattle.jf_text.specs.Words.{is_long}
use Rattle.jf_script.specs.declared.command.OwnCommand.{OwnCommand}
use Rattle.jf_script.specs.declared.command.Change.{Change}
use Rattle.jf_script.specs.declared.command.Command.{Command}
use Rattle.jf_script.specs.declared.reply.Refusal.{Refusal}
use Rattle.jf_script.specs.Commands.{command_of}
use Rattle.jf_script.specs.declared.command.OwnCommand.TheVariants as own_command
use Rattle.jf_script.specs.declared.command.Change.TheVariants as change
use Rattle.jf_script.specs.declared.command.Command.TheVariants as command
use Rattle.jf_script.specs.declared.reply.Reply.TheVariants as reply
use Rattle.jf_answers.specs.Own.{Own, free_place}
use Rattle.jf_answers.specs.Answers.{Answer, granted_own, granted_change, granted_answer, own_answer, answer_command, answer_to, answer, too_long, retired_below}
use Rattle.jf_answers.specs.Prunings.{next_floor}
use Rattle.jf_answers.specs.Refusals.{refused_by}
use Rattle.jf_answers.specs.OwnLines.{pin_of_command, pin_of}

-- versions are retired by `prune` alone, with the floor that the own pins let it have
abbrev pub IsPruned : State → Own → Answer → Entry → Type 0
IsPruned s own a (entry.Retired owner bound floor) = a ≡ retired_below bound (next_floor bound s own) s own
IsPruned s own a (entry.Made owner fork parent batch root) = Unit {0}
IsPruned s own a (entry.Landed owner version how root moment) = Unit {0}
IsPruned s own a (entry.Dropped owner fork) = Unit {0}
IsPruned s own a (entry.Compacted owner generation) = Unit {0}

-- the entry of an answer has the session's number and no moment, and makes the state after it
pub record IsOf (s : State) (own : Own) (a : Answer) (e : Entry) : Type 0 where
  pub state : a.state ≡ after e s
  pub owned : owner_of e ≡ own.number
  pub undated : timeless e ≡ e
  pub pruned_so : IsPruned s own a e

-- without an entry the state is unchanged
abbrev pub Follows : State → Own → Answer → Option Entry → Type 0
Follows s own a None = a.state ≡ s
Follows s own a (Some e) = IsOf s own a e

-- an answer's state follows from its entry, and the own part keeps its number
pub record IsSoundAnswer (s : State) (own : Own) (a : Answer) : Type 0 where
  pub follows : Follows s own a a.entry
  pub number : a.own.number ≡ own.number

-- ---- single answers
-- the answer to a command that nothing refuses
pub unrefused : (s : State) (own : Own) (c : Command) → refused_by s own c ≡ None → answer_command s own c ≡ granted_answer c s own
unrefused s own c free = ap (λ (o : Option Refusal). elim o as (λ x. Answer) [ Some why ↦ own_answer (reply.No why) s own | None ↦ granted_answer c s own ]) free

sound_own : (c : OwnCommand) (s : State) (own : Own) → IsSoundAnswer s own (granted_own c s own)
sound_own (own_command.Put name value) s own = record { follows = refl; number = refl }
sound_own (own_command.Del name) s own = record { follows = refl; number = refl }
sound_own (own_command.Unpin place) s own = record { follows = refl; number = refl }

sound_change : (c : Change) (s : State) (own : Own) → IsSoundAnswer s own (granted_change c s own)
sound_change change.Commit s own = record { follows = record { state = refl; owned = refl; undated = refl; pruned_so = tt }; number = refl }
sound_change (change.Fork on) s own = record { follows = record { state = refl; owned = refl; undated = refl; pruned_so = tt }; number = refl }
sound_change (change.Land id) s own = record { follows = record { state = refl; owned = refl; undated = refl; pruned_so = tt }; number = refl }
sound_change (change.Drop id) s own = record { follows = record { state = refl; owned = refl; undated = refl; pruned_so = tt }; number = refl }
sound_change (change.Prune upto) s own = record { follows = record { state = refl; owned = refl; undated = refl; pruned_so = refl }; number = refl }
sound_change change.Compact s own = record { follows = record { state = refl; owned = refl; undated = refl; pruned_so = tt }; number = refl }

sound_granted : (c : Command) (s : State) (own : Own) → IsSoundAnswer s own (granted_answer c s own)
sound_granted (command.Own c) s own = sound_own c s own
sound_granted (command.Read on q) s own = record { follows = refl; number = refl }
sound_granted (command.ReadFork id q) s own = record { follows = refl; number = refl }
sound_granted command.Look s own = record { follows = refl; number = refl }
sound_granted (command.Pin version) s own = record { follows = refl; number = refl }
sound_granted (command.Change c) s own = sound_change c s own

sound_command : (o : Option Refusal) (c : Command) (s : State) (own : Own) → IsSoundAnswer s own (elim o as (λ x. Answer) [ Some why ↦ own_answer (reply.No why) s own | None ↦ granted_answer c s own ])
sound_command None c s own = sound_granted c s own
sound_command (Some why) c s own = record { follows = refl; number = refl }

-- an answer to a command is sound
pub answer_command-IsSoundAnswer : (c : Command) (s : State) (own : Own) → IsSoundAnswer s own (answer_command s own c)
answer_command-IsSoundAnswer c s own = sound_command (refused_by s own c) c s own

sound_if : (s : State) (own : Own) (b : Bool) (x y : Answer) → IsSoundAnswer s own x → IsSoundAnswer s own y → IsSoundAnswer s own (cond b x y)
sound_if s own true x y h k = h
sound_if s own false x y h k = k

sound_to : (o : Option Command) (s : State) (own : Own) → IsSoundAnswer s own (answer_to o s own)
sound_to None s own = record { follows = refl; number = refl }
sound_to (Some c) s own = answer_command-IsSoundAnswer c s own

pub answer-IsSoundAnswer : (s : State) (own : Own) (line : List ℕ) → IsSoundAnswer s own (answer s own line)
unfolding answer
answer-IsSoundAnswer s own line = sound_if s own (is_long line) _ _ (record { follows = refl; number = refl }) (sound_to (command_of line) s own)

-- a `prune` with the floor that the own pins let it have is sound
pub retired_below-IsSoundAnswer : (upto : ℕ) (s : State) (own : Own) → IsSoundAnswer s own (retired_below upto (next_floor upto s own) s own)
retired_below-IsSoundAnswer upto s own = record { follows = record { state = refl; owned = refl; undated = refl; pruned_so = refl }; number = refl }

-- ---- pins
-- each version pinned has the property P
abbrev pub EachPin : (ℕ → Type 0) → Own → Type 0
EachPin P own = AllByRecursion (λ pin. IfSome pin P) own.pins

pub all_set : {X : Type 0} (Q : X → Type 0) (xs : List X) (i : ℕ) (x : X) → AllByRecursion Q xs → Q x → AllByRecursion Q (slice_set xs i x)
all_set Q [] i x h q = tt
all_set Q (y ∷ ys) zero x h q = (q, h.1)
all_set Q (y ∷ ys) (suc i) x h q = (h.0, all_set Q ys i x h.1 q)

-- a command on the own part gives no entry
pub granted_own-quiet : (c : OwnCommand) (s : State) (own : Own) → (granted_own c s own).entry ≡ None
granted_own-quiet (own_command.Put name value) s own = refl
granted_own-quiet (own_command.Del name) s own = refl
granted_own-quiet (own_command.Unpin place) s own = refl

-- a command that gives an entry leaves the pins
pub granted_change-pins : (c : Change) (s : State) (own : Own) → (granted_change c s own).own.pins ≡ own.pins
granted_change-pins change.Commit s own = refl
granted_change-pins (change.Fork on) s own = refl
granted_change-pins (change.Land id) s own = refl
granted_change-pins (change.Drop id) s own = refl
granted_change-pins (change.Prune upto) s own = refl
granted_change-pins change.Compact s own = refl

module _ (P : ℕ → Type 0) where
  pins_own : (c : OwnCommand) (s : State) (own : Own) → EachPin P own → EachPin P (granted_own c s own).own
  pins_own (own_command.Put name value) s own h = h
  pins_own (own_command.Del name) s own h = h
  pins_own (own_command.Unpin place) s own h = all_set (λ pin. IfSome pin P) own.pins place None h tt

  pins_granted : (c : Command) (s : State) (own : Own) → IfSome (pin_of_command (Some c)) P → EachPin P own → EachPin P (granted_answer c s own).own
  pins_granted (command.Own c) s own named h = pins_own c s own h
  pins_granted (command.Read on q) s own named h = h
  pins_granted (command.ReadFork id q) s own named h = h
  pins_granted command.Look s own named h = h
  pins_granted (command.Pin version) s own named h = all_set (λ pin. IfSome pin P) own.pins (free_place own) (Some version) h named
  pins_granted (command.Change c) s own named h = subst (λ (ps : List (Option ℕ)). AllByRecursion (λ pin. IfSome pin P) ps) (sym (granted_change-pins c s own)) h

  pins_command : (o : Option Refusal) (c : Command) (s : State) (own : Own) → IfSome (pin_of_command (Some c)) P → EachPin P own
      → EachPin P (elim o as (λ x. Answer) [ Some why ↦ own_answer (reply.No why) s own | None ↦ granted_answer c s own ]).own
  pins_command None c s own named h = pins_granted c s own named h
  pins_command (Some why) c s own named h = h

  pins_if : (b : Bool) (x y : Answer) → EachPin P x.own → EachPin P y.own → EachPin P (cond b x y).own
  pins_if true x y h k = h
  pins_if false x y h k = k

  pins_to : (o : Option Command) (s : State) (own : Own) → IfSome (pin_of_command o) P → EachPin P own → EachPin P (answer_to o s own).own
  pins_to None s own named h = h
  pins_to (Some c) s own named h = pins_command (refused_by s own c) c s own named h

  pins_line : (long : Bool) (o : Option Command) (s : State) (own : Own) (x : Answer) → IfSome (cond long None (pin_of_command o)) P → EachPin P own → EachPin P x.own
      → EachPin P (cond long x (answer_to o s own)).own
  pins_line true o s own x named h k = k
  pins_line false o s own x named h k = pins_to o s own named h

  -- each version pinned after a line was pinned before, or the line names it
  pub answer-EachPin : (s : State) (own : Own) (line : List ℕ) → IfSome (pin_of line) P → EachPin P own → EachPin P (answer s own line).own
  unfolding answer pin_of
  answer-EachPin s own line named h = pins_line (is_long line) (command_of line) s own _ named h h

-- ---- laws
-- all long lines have the same answer
pub answer-long : (s : State) (own : Own) (line : List ℕ) → IsTrue (is_long line) → answer s own line ≡ too_long s own
unfolding answer
answer-long s own line long = ap (λ b. cond b (too_long s own) (answer_to (command_of line) s own)) long

-- the answer to a long line doesn't depend on what the line says
pub answer-both_long : (s : State) (own : Own) (line other : List ℕ) → IsTrue (is_long line) → IsTrue (is_long other) → answer s own line ≡ answer s own other
answer-both_long s own line other long long' = answer-long s own line long ∙ sym (answer-long s own other long')
