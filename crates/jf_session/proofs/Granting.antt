-- A command whose entry is legal is not refused, and the entry is that of its answer.
use Rattle.std.specs.Prelude.{nat_le, not}
use Rattle.std.proofs.Common.{◌≡◌, ◌∙◌, ℕ, ◌+◌, ◌-◌, ◌^◌, ◌<◌, ◌≤◌, false, cond, IsTrue, Option, Some, None, [], ◌∷◌, ◌++◌, length, refl, sym, ap, ap₂, arith, inl, inr, true≢false}
use Rattle.std.proofs.lemmas.Bool.{lt-leb, le-ltb}
use Rattle.std.proofs.lemmas.Bool.Decides.{leb_tells}
use Rattle.std.specs.FinMap as fin
use Rattle.jf_path.specs.Checks.{first_of}
use Rattle.jf_path.specs.Limits.{max_forks}
use Rattle.jf_hash.specs.Roots.{root}
use Rattle.jf_split.specs.Limits.{max_keys}
use Rattle.jf_model.specs.Batches.{key_count}
use Rattle.jf_model.specs.Versions.{newest}
use Rattle.jf_model.specs.Forks.{is_parent}
use Rattle.jf_model.specs.States.{State, IsState}
use Rattle.jf_model.specs.Entries.{IsLegal, IsLive, landed_batches, timeless}
use Rattle.jf_model.specs.declared.entries.Entry.{Entry}
use Rattle.jf_model.specs.declared.entries.Entry.TheVariants as entry
use Rattle.jf_model.specs.declared.entries.Landing.TheVariants as landing
use Rattle.jf_model.specs.declared.entries.Parent.{Parent}
use Rattle.jf_model.specs.declared.entries.Parent.TheVariants as parent
use Rattle.jf_model.proofs.ForkLists.{none_above}
use Rattle.jf_model.proofs.VersionLaws.{land_all-newest}
use Rattle.jf_store.specs.Events.{landing_entry}
use Rattle.jf_store.specs.Forkings.{making_entry}
use Rattle.jf_store.proofs.FaultsInTurn.{first_of-after}
use Rattle.jf_script.specs.declared.command.Command.{Command}
use Rattle.jf_script.specs.declared.command.Command.TheVariants as command
use Rattle.jf_script.specs.declared.command.Change.TheVariants as change
use Rattle.jf_script.specs.declared.reply.Refusal.{Refusal}
use Rattle.jf_script.specs.declared.reply.Refusal.TheVariants as refusal
use Rattle.jf_script.specs.declared.reply.Reply.TheVariants as reply
use Rattle.jf_answers.specs.Own.{Own}
use Rattle.jf_answers.specs.Answers.{Answer, granted_answer, own_answer}
use Rattle.jf_answers.specs.Refusals.{refused_by, ledger_causes, head_causes, fork_causes, parent_causes, room_causes, key_causes, land_causes, generation_causes, version_causes}
use Rattle.jf_answers.specs.Explains.{answered_with_floor, floor_in}
use Rattle.jf_session.specs.Steps.{command_answer_with}

-- ---- causes that don't hold
ledger_room : (s : State) → s.count < 2 ^ 62 → first_of (ledger_causes s) ≡ None
ledger_room s room = ap (λ b. cond b (Some refusal.Last) None) (lt-leb (2 ^ 62) s.count room)

head_room : (s : State) (n : ℕ) → s.all.head + n ≤ 2 ^ 64 - 2 → fin.len (newest s.all) ≤ 2 ^ 62 → first_of (head_causes s n) ≡ None
head_room s n below small = ap₂ (λ a b. cond a (Some refusal.Last) (cond b (Some refusal.Last) None)) (le-ltb (2 ^ 64 - 2) (s.all.head + n) below) (le-ltb (2 ^ 62) (fin.len (newest s.all)) small)

generation_room : (s : State) → s.generation + 1 ≤ 2 ^ 64 - 2 → first_of (generation_causes s) ≡ None
generation_room s below = ap (λ b. cond b (Some refusal.Last) None) (lt-leb (2 ^ 64 - 2) s.generation (omega (arith, below)))

within_bounds : (s : State) (w : ℕ) → s.retired ≤ w → w ≤ s.all.head → first_of (version_causes s w) ≡ None
within_bounds s w low high =
    ap₂ (λ a b. cond a (Some (refusal.Future s.all.head)) (cond b (Some (refusal.Retired s.retired)) None)) (le-ltb s.all.head w high) (le-ltb w s.retired low)

-- a live fork was made
made_before : (s : State) (id : ℕ) → IsState s → IsLive s id → nat_le s.made id ≡ false
made_before s id sound live = elim (leb_tells s.made id) [
  | inl above ↦ absurd (true≢false (sym live ∙ none_above s.made id s.forks sound.live above.1))
  | inr below ↦ below.0
]

live_fork : (s : State) (id : ℕ) → IsState s → IsLive s id → first_of (fork_causes s id) ≡ None
live_fork s id sound live = ap₂ (λ a b. cond a (Some refusal.Unknown) (cond (not b) (Some refusal.Gone) None)) (made_before s id sound live) live

live_parent : (s : State) (p : Parent) → IsState s → IsTrue (is_parent p s.forks) → first_of (parent_causes s p) ≡ None
live_parent s parent.Head sound stands = refl
live_parent s (parent.Fork id) sound stands = live_fork s id sound stands

fork_room : (s : State) → length s.forks < max_forks → first_of (room_causes s) ≡ None
fork_room s room = ap (λ b. cond b (Some refusal.ForksFull) None) (lt-leb max_forks (length s.forks) room)

few_keys : (n : ℕ) → n ≤ max_keys → first_of (key_causes n) ≡ None
few_keys n few = ap (λ b. cond b (Some (refusal.Keys n)) None) (le-ltb max_keys n few)

-- ---- answers
-- the answer to a command that is granted, with the floor of an entry
abbrev pub granted_with : State → Own → Command → Entry → Answer
granted_with s own c e = answered_with_floor (floor_in e) s own (granted_answer c s own) (granted_answer c s own).entry

-- nothing refuses a command, and it gives the entry
pub record Grants (s : State) (own : Own) (c : Command) (e : Entry) : Type 0 where
  pub free : refused_by s own c ≡ None
  pub gives : (granted_with s own c e).entry ≡ Some (timeless e)

pub answer-granted : (s : State) (own : Own) (c : Command) (e : Entry) → refused_by s own c ≡ None → command_answer_with (floor_in e) s own c ≡ granted_with s own c e
answer-granted s own c e free =
    ap (λ (o : Option Refusal). let a = elim o as (λ x. Answer) [ Some why ↦ own_answer (reply.No why) s own | None ↦ granted_answer c s own ] in answered_with_floor (floor_in e) s own a a.entry) free

-- ---- the commands
module _ (s : State) (own : Own) where
  pub Grants-commit : (moment : ℕ) → IsLegal s (landing_entry own.number s (landing.Direct own.pending) moment) → Grants s own (command.Change change.Commit) (landing_entry own.number s (landing.Direct own.pending) moment)
  unfolding refused_by
  Grants-commit moment legal = record {
    free = first_of-after (ledger_causes s) (head_causes s 1) (ledger_room s legal.0) ∙ head_room s 1 legal.1.bounded legal.1.small;
    gives = ap (λ m. Some (entry.Landed own.number (s.all.head + 1) (landing.Direct own.pending) (root m) 0)) (sym (land_all-newest (own.pending ∷ []) s.all));
  }

  pub Grants-land : (id moment : ℕ) → IsState s → IsLegal s (landing_entry own.number s (landing.Fork id) moment) → Grants s own (command.Change (change.Land id)) (landing_entry own.number s (landing.Fork id) moment)
  unfolding refused_by
  Grants-land id moment sound legal =
      let bs = landed_batches s (landing.Fork id) in
      let keys = first_of-after (fork_causes s id) (key_causes (key_count bs)) (live_fork s id sound legal.1.may.0) ∙ few_keys (key_count bs) legal.1.may.1 in
      let fork = first_of-after (fork_causes s id ++ key_causes (key_count bs)) (head_causes s (length bs)) keys ∙ head_room s (length bs) legal.1.bounded legal.1.small in
      record {
        free = first_of-after (ledger_causes s) (land_causes s id) (ledger_room s legal.0) ∙ fork;
        gives = ap (λ m. Some (entry.Landed own.number (s.all.head + length bs) (landing.Fork id) (root m) 0)) (sym (land_all-newest bs s.all));
      }

  pub Grants-fork : (on : Parent) → IsState s → IsLegal s (making_entry own.number s on own.pending) → Grants s own (command.Change (change.Fork on)) (making_entry own.number s on own.pending)
  unfolding refused_by
  Grants-fork on sound legal =
      let parent = first_of-after (parent_causes s on) (room_causes s) (live_parent s on sound legal.1.stands) ∙ fork_room s legal.1.room in
      record {
        free = first_of-after (ledger_causes s) (parent_causes s on ++ room_causes s) (ledger_room s legal.0) ∙ parent;
        gives = refl;
      }

  pub Grants-drop : (id : ℕ) → IsState s → IsLegal s (entry.Dropped own.number id) → Grants s own (command.Change (change.Drop id)) (entry.Dropped own.number id)
  unfolding refused_by
  Grants-drop id sound legal = record { free = first_of-after (ledger_causes s) (fork_causes s id) (ledger_room s legal.0) ∙ live_fork s id sound legal.1; gives = refl }

  pub Grants-prune : (upto floor : ℕ) → IsLegal s (entry.Retired own.number upto floor) → Grants s own (command.Change (change.Prune upto)) (entry.Retired own.number upto floor)
  unfolding refused_by
  Grants-prune upto floor legal = record { free = first_of-after (ledger_causes s) (version_causes s upto) (ledger_room s legal.0) ∙ within_bounds s upto legal.1.rises legal.1.within; gives = refl }

  pub Grants-compact : IsLegal s (entry.Compacted own.number (s.generation + 1)) → Grants s own (command.Change change.Compact) (entry.Compacted own.number (s.generation + 1))
  unfolding refused_by
  Grants-compact legal = record { free = first_of-after (ledger_causes s) (generation_causes s) (ledger_room s legal.0) ∙ generation_room s legal.1.1; gives = refl }
