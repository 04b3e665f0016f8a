-- The answer to a line: its reply, and what the line changes.
use Rattle.std.specs.Prelude.{ℕ, List, Option, [], None, Some, length, ◌+◌, if◌then◌else◌, unwrap_or, slice_index_or}
use Rattle.std.specs.FinMap.{put, get, len, entries}
use Rattle.jf_path.specs.Keys.{key_cmp}
use Rattle.jf_hash.specs.Hashes.{K}
use Rattle.jf_hash.specs.Maps.{apply, Map}
use Rattle.jf_hash.specs.Roots.{root}
use Rattle.jf_model.specs.States.{State, versions}
use Rattle.jf_model.specs.declared.entries.Entry.{Entry}
use Rattle.jf_model.specs.declared.entries.Parent.{Parent}
use Rattle.jf_model.specs.Entries.{after, landed_batches}
use Rattle.jf_model.specs.Versions.{newest}
use Rattle.jf_model.specs.Forks.{parent_map, fork_map, drop_count}
use Rattle.jf_model.specs.Nodes.{kept_nodes}
use Rattle.jf_model.specs.declared.entries.Entry.TheVariants as entry
use Rattle.jf_model.specs.declared.entries.Landing.TheVariants as landing
use Rattle.jf_evidence.specs.Proofs.{honest}
use Rattle.jf_evidence.specs.Ranges.{chunk_entries, honest_chunk}
use Rattle.jf_text.specs.Words.{is_long}
use Rattle.jf_script.specs.declared.reply.Reply.{Reply}
use Rattle.jf_script.specs.declared.command.Question.{Question}
use Rattle.jf_script.specs.declared.command.OwnCommand.{OwnCommand}
use Rattle.jf_script.specs.declared.command.Change.{Change}
use Rattle.jf_script.specs.declared.command.Command.{Command}
use Rattle.jf_script.specs.Commands.{command_of, question_of}
use Rattle.jf_script.specs.declared.reply.Reply.TheVariants as reply
use Rattle.jf_script.specs.declared.reply.Refusal.TheVariants as refusal
use Rattle.jf_script.specs.declared.command.Question.TheVariants as question
use Rattle.jf_script.specs.declared.command.OwnCommand.TheVariants as own_command
use Rattle.jf_script.specs.declared.command.Change.TheVariants as change
use Rattle.jf_script.specs.declared.command.Command.TheVariants as command
use Rattle.jf_blocks.specs.Blocks.{proof_lines, chunk_lines}
use Rattle.jf_answers.specs.Own.{Own, version_pinned_at, free_place, with_pending, with_pin}
use Rattle.jf_answers.specs.Prunings.{next_floor}
use Rattle.jf_answers.specs.Refusals.{base_map, refused_by}

-- the reply, the lines of its block, the entry that the line makes, if any, and the state and own part after the line
pub record Answer : Type 0 where
  pub reply : Reply
  pub block : List ℕ
  pub entry : Option Entry
  pub state : State
  pub own : Own

-- a reply that changes at most the own part
abbrev pub own_answer : Reply → State → Own → Answer
own_answer r s own = record { reply = r; block = []; entry = None; state = s; own = own }

-- a reply with its entry; the entry's moment is not used here
abbrev pub entry_answer : Reply → Entry → State → Own → Answer
entry_answer r e s own = record { reply = r; block = []; entry = Some e; state = after e s; own = own }

-- the answer to a line that is no command
abbrev pub not_read : State → Own → Answer
not_read s own = own_answer (reply.No refusal.Syntax) s own

-- the answer to a line of more than 8,500 bytes, whatever it says
abbrev pub too_long : State → Own → Answer
too_long s own = own_answer (reply.No refusal.Long) s own

-- ---- questions
-- the number of siblings, and a block: what a map says of a name, with the honest proof of it
abbrev pub honest_proof_reply : List ℕ → Map → Reply × List ℕ
honest_proof_reply name m =
    let proof = honest m (K name) in
    (reply.Proof (length proof.siblings), proof_lines name (get m (K name)) proof)

-- the number of entries, the depth and the number of siblings, and a block: the entries of a map from a place on, with their honest proof
abbrev pub chunk_reply : ℕ → ℕ → Map → Reply × List ℕ
chunk_reply start count m =
    let es = chunk_entries m start count in
    let proof = honest_chunk m start count in
    (reply.Chunk (length es) proof.depth (length proof.siblings), chunk_lines es proof)

-- the entry of a map at a place, counted from 0 in the order of the keys
abbrev pub entry_at : Map → ℕ → List ℕ × List ℕ
entry_at m place = slice_index_or (entries m) place ([], [])

-- the reply to a question over a map, and the lines of its block
abbrev pub answer_of : Question → Map → Reply × List ℕ
answer_of (question.Get name) m = (reply.Value (get m (K name)), [])
answer_of question.Root m = (reply.Root (root m), [])
answer_of (question.Prove name) m = honest_proof_reply name m
answer_of (question.Chunk start count) m = chunk_reply start count m
answer_of question.Count m = (reply.Count (len m), [])
answer_of (question.Nth place) m = (reply.Nth (entry_at m place).0 (entry_at m place).1, [])

-- a question is answered over a map, and nothing changes
abbrev pub read_answer : Question → Map → State → Own → Answer
read_answer q m s own = record { reply = (answer_of q m).0; block = (answer_of q m).1; entry = None; state = s; own = own }

-- ---- commands on what the session keeps for itself
-- the pending batch gets a value, or a removal, at the key of a name
abbrev pub pending_changed : List ℕ → Option (List ℕ) → State → Own → Answer
pending_changed name value s own =
    let batch = put key_cmp (K name) value own.pending in
    own_answer (reply.Pending (length batch)) s (with_pending batch own)

-- a place is free again; the reply has the version that was pinned there
abbrev pub place_freed : ℕ → State → Own → Answer
place_freed place s own = own_answer (reply.Unpin (unwrap_or (version_pinned_at own place) 0)) s (with_pin place None own)

-- the answer to such a command that nothing refuses
abbrev pub granted_own : OwnCommand → State → Own → Answer
granted_own (own_command.Put name value) s own = pending_changed name (Some value) s own
granted_own (own_command.Del name) s own = pending_changed name None s own
granted_own (own_command.Unpin place) s own = place_freed place s own

-- ---- commands that give an entry
-- the pending batch is landed on the head
abbrev pub commit_answer : State → Own → Answer
commit_answer s own =
    let r = root (apply (newest s.all) own.pending) in
    entry_answer (reply.Commit (s.all.head + 1) r) (entry.Landed own.number (s.all.head + 1) (landing.Direct own.pending) r 0) s (with_pending [] own)

-- a fork of the pending batch is made on a parent
abbrev pub fork_answer : Parent → State → Own → Answer
fork_answer on s own =
    let r = root (apply (parent_map (newest s.all) s.forks on) own.pending) in
    entry_answer (reply.Fork s.made r) (entry.Made own.number s.made on own.pending r) s (with_pending [] own)

-- a fork is landed with its ancestors, one version each; the reply has the last of them
abbrev pub fork_landed : ℕ → State → Own → Answer
fork_landed id s own =
    let version = s.all.head + length (landed_batches s (landing.Fork id)) in
    let r = root (fork_map (newest s.all) s.forks id) in
    entry_answer (reply.Land version r) (entry.Landed own.number version (landing.Fork id) r 0) s own

-- a fork is dropped with all forks that stand on it; the reply has their number
abbrev pub fork_dropped : ℕ → State → Own → Answer
fork_dropped id s own = entry_answer (reply.Drop (drop_count id s.forks)) (entry.Dropped own.number id) s own

-- the versions below a bound are retired, and the floor becomes this one
abbrev pub retired_below : ℕ → ℕ → State → Own → Answer
retired_below upto floor s own = entry_answer (reply.Prune upto floor) (entry.Retired own.number upto floor) s own

-- a new generation is written
abbrev pub compact_answer : State → Own → Answer
compact_answer s own = entry_answer (reply.Compact (s.generation + 1)) (entry.Compacted own.number (s.generation + 1)) s own

-- the answer to such a command that nothing refuses
abbrev pub granted_change : Change → State → Own → Answer
granted_change change.Commit s own = commit_answer s own
granted_change (change.Fork on) s own = fork_answer on s own
granted_change (change.Land id) s own = fork_landed id s own
granted_change (change.Drop id) s own = fork_dropped id s own
granted_change (change.Prune upto) s own = retired_below upto (next_floor upto s own) s own
granted_change change.Compact s own = compact_answer s own

-- ---- commands
-- the numbers of a store: its base, floor, retired bound and head, the nodes that it keeps, its live forks and its generation
abbrev pub status_reply : State → Reply
status_reply s = reply.Status s.all.base s.floor s.retired s.all.head (kept_nodes (versions s)) (length s.forks) s.generation

-- a version is pinned at the least free place
abbrev pub version_pinned : ℕ → State → Own → Answer
version_pinned version s own = own_answer (reply.Pin (free_place own)) s (with_pin (free_place own) (Some version) own)

-- the answer to a command that nothing refuses
abbrev pub granted_answer : Command → State → Own → Answer
granted_answer (command.Own c) s own = granted_own c s own
granted_answer (command.Read on q) s own = read_answer q (base_map s own on) s own
granted_answer (command.ReadFork id q) s own = read_answer (question_of q) (fork_map (newest s.all) s.forks id) s own
granted_answer command.Look s own = own_answer (status_reply s) s own
granted_answer (command.Pin version) s own = version_pinned version s own
granted_answer (command.Change c) s own = granted_change c s own

-- the answer to a command: the first refusal, which changes nothing, or otherwise what the command does
abbrev pub answer_command : State → Own → Command → Answer
answer_command s own c = elim (refused_by s own c) [ Some why ↦ own_answer (reply.No why) s own | None ↦ granted_answer c s own ]

-- the answer to a line's command, if it is one
abbrev pub answer_to : Option Command → State → Own → Answer
answer_to None s own = not_read s own
answer_to (Some c) s own = answer_command s own c

-- the answer to a line
unfoldable pub answer : State → Own → List ℕ → Answer
answer s own line = if is_long line then too_long s own else answer_to (command_of line) s own
