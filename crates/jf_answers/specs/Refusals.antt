-- Why a command is refused: the first of its causes that holds.
use Rattle.std.specs.Prelude.{ℕ, ◌+◌, ◌-◌, ◌^◌, Bool, not, nat_le, nat_lt, List, [], ◌∷◌, ◌++◌, length, Option, is_none, unwrap_or}
use Rattle.std.specs.FinMap.{len}
use Rattle.jf_path.specs.Checks.{first_of}
use Rattle.jf_path.specs.Limits.{max_forks, max_pins}
use Rattle.jf_hash.specs.Hashes.{K}
use Rattle.jf_hash.specs.Maps.{Map}
use Rattle.jf_split.specs.Limits.{is_full, max_keys}
use Rattle.jf_model.specs.Batches.{key_count}
use Rattle.jf_model.specs.Versions.{newest, map_of}
use Rattle.jf_model.specs.Forks.{is_among, of_parent, fork_map}
use Rattle.jf_model.specs.States.{State}
use Rattle.jf_model.specs.Entries.{landed_batches}
use Rattle.jf_model.specs.declared.entries.Parent.{Parent}
use Rattle.jf_model.specs.declared.entries.Landing.TheVariants as landing
use Rattle.jf_answers.specs.Own.{Own, version_pinned_at, free_place}
use Rattle.jf_script.specs.declared.command.Base.{Base}
use Rattle.jf_script.specs.declared.command.Base.TheVariants as base
use Rattle.jf_script.specs.declared.command.Question.{Question}
use Rattle.jf_script.specs.declared.command.Question.TheVariants as question
use Rattle.jf_script.specs.declared.command.OwnCommand.{OwnCommand}
use Rattle.jf_script.specs.declared.command.OwnCommand.TheVariants as own_command
use Rattle.jf_script.specs.declared.command.Change.{Change}
use Rattle.jf_script.specs.declared.command.Change.TheVariants as change
use Rattle.jf_script.specs.declared.command.Command.{Command}
use Rattle.jf_script.specs.declared.command.Command.TheVariants as command
use Rattle.jf_script.specs.Commands.{question_of}
use Rattle.jf_script.specs.declared.reply.Refusal.{Refusal}
use Rattle.jf_script.specs.declared.reply.Refusal.TheVariants as refusal

-- the stored map that a base names
abbrev pub base_map : State → Own → Base → Map
base_map s own base.Head = newest s.all
base_map s own (base.Version w) = map_of s.all w
base_map s own (base.Place place) = map_of s.all (unwrap_or (version_pinned_at own place) 0)

-- ---- single causes: a test, and the refusal if it holds

-- tests in their order, each with the refusal if it holds
abbrev pub Causes : Type 0
Causes = List (Bool × Refusal)

-- the pending batch is full, and the key is new to it
abbrev pub pending_causes : Own → List ℕ → Causes
pending_causes own name = (is_full (K name) own.pending, refusal.Pending) ∷ []

-- the ledger holds 2^62 entries
abbrev pub ledger_causes : State → Causes
ledger_causes s = (nat_le (2 ^ 62) s.count, refusal.Last) ∷ []

-- so many more versions don't fit, or the head's map has more than 2^62 entries
abbrev pub head_causes : State → ℕ → Causes
head_causes s n = (nat_lt (2 ^ 64 - 2) (s.all.head + n), refusal.Last) ∷ (nat_lt (2 ^ 62) (len (newest s.all)), refusal.Last) ∷ []

-- the generation is the last one
abbrev pub generation_causes : State → Causes
generation_causes s = (nat_le (2 ^ 64 - 2) s.generation, refusal.Last) ∷ []

-- a version is above the head, or below the retired bound
abbrev pub version_causes : State → ℕ → Causes
version_causes s w = (nat_lt s.all.head w, refusal.Future s.all.head) ∷ (nat_lt w s.retired, refusal.Retired s.retired) ∷ []

-- a fork was not made yet, or isn't live any more
abbrev pub fork_causes : State → ℕ → Causes
fork_causes s id = (nat_le s.made id, refusal.Unknown) ∷ (not (is_among id s.forks), refusal.Gone) ∷ []

-- the parent of a new fork is a fork that was not made yet, or isn't live any more
abbrev pub parent_causes : State → Parent → Causes
parent_causes s p = of_parent [] (λ id. fork_causes s id) p

-- 1,024 forks are live
abbrev pub room_causes : State → Causes
room_causes s = (nat_le max_forks (length s.forks), refusal.ForksFull) ∷ []

-- the batches of a fork and its ancestors have more than 10,000 keys, added up, and this is how many
abbrev pub key_causes : ℕ → Causes
key_causes count = (nat_lt max_keys count, refusal.Keys count) ∷ []

-- a place holds nothing
abbrev pub pin_causes : Own → ℕ → Causes
pin_causes own place = (is_none (version_pinned_at own place), refusal.NoPin) ∷ []

-- each place holds a version
abbrev pub place_causes : Own → Causes
place_causes own = (nat_le max_pins (free_place own), refusal.PinsFull) ∷ []

-- a stored map can't be read
abbrev pub base_causes : State → Own → Base → Causes
base_causes s own base.Head = []
base_causes s own (base.Version w) = version_causes s w
base_causes s own (base.Place place) = pin_causes own place

-- a map has no entry at a place, and this is the number of its entries
abbrev pub range_causes : Map → ℕ → Causes
range_causes m start = (nat_le (len m) start, refusal.Range (len m)) ∷ []

-- ---- the causes of each command, in order

-- a question can't be answered over a map
abbrev pub question_causes : Question → Map → Causes
question_causes (question.Chunk start count) m = range_causes m start
question_causes (question.Nth place) m = range_causes m place
question_causes q m = []

-- those of a command on what the session keeps for itself
abbrev pub own_causes : Own → OwnCommand → Causes
own_causes own (own_command.Put name value) = pending_causes own name
own_causes own (own_command.Del name) = pending_causes own name
own_causes own (own_command.Unpin place) = pin_causes own place

-- those of landing a fork with its ancestors
abbrev pub land_causes : State → ℕ → Causes
land_causes s id =
    let batches = landed_batches s (landing.Fork id) in
    fork_causes s id ++ key_causes (key_count batches) ++ head_causes s (length batches)

-- those of a command that gives an entry, beside that of the ledger
abbrev pub change_causes : State → Change → Causes
change_causes s change.Commit = head_causes s 1
change_causes s (change.Fork on) = parent_causes s on ++ room_causes s
change_causes s (change.Land id) = land_causes s id
change_causes s (change.Drop id) = fork_causes s id
change_causes s (change.Prune upto) = version_causes s upto
change_causes s change.Compact = generation_causes s

-- the causes for which a command is refused
abbrev pub causes : State → Own → Command → Causes
causes s own (command.Own c) = own_causes own c
causes s own (command.Read on q) = base_causes s own on ++ question_causes q (base_map s own on)
causes s own (command.ReadFork id q) = fork_causes s id ++ question_causes (question_of q) (fork_map (newest s.all) s.forks id)
causes s own command.Look = []
causes s own (command.Pin version) = version_causes s version ++ place_causes own
causes s own (command.Change c) = ledger_causes s ++ change_causes s c

-- why a command is refused, if it is: the first cause that holds
unfoldable pub refused_by : State → Own → Command → Option Refusal
refused_by s own c = first_of (causes s own c)
