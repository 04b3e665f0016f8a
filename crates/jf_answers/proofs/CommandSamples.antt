-- Worked answers to single commands, as their texts.
use Rattle.std.specs.Prelude.{ℕ, ◌-◌, ◌^◌, nat_le, nat_lt, cond, List, [], ◌∷◌, ◌++◌, ◌≡◌, Some, None, refl, codes, length, replicate, slice_index_or}
use Rattle.std.proofs.Common.{ap, ap₂, ◌∙◌}
use Rattle.std.specs.FinMap as fin
use Rattle.std.specs.Fmt.{digits}
use Rattle.jf_path.specs.Checks.{first_of}
use Rattle.jf_hash.specs.Maps.{Map, apply}
use Rattle.jf_hash.proofs.RootLaws.{entries-empty}
use Rattle.jf_model.specs.Versions.{imported_versions}
use Rattle.jf_model.specs.Nodes.{nodes, nodes_below, kept_nodes}
use Rattle.jf_model.specs.States.{State, state_when_opened}
use Rattle.jf_model.specs.declared.entries.Entry.{Entry}
use Rattle.jf_model.specs.Entries.{after, replay}
use Rattle.jf_model.specs.declared.entries.Landing.TheVariants as landing
use Rattle.jf_model.specs.declared.entries.Entry.TheVariants as entry
use Rattle.jf_model.specs.declared.entries.Parent.TheVariants as parent
use Rattle.jf_text.specs.Words.{words, number, unhex}
use Rattle.jf_script.specs.Commands.{command_of, base_of}
use Rattle.jf_script.specs.Replies.{reply_text}
use Rattle.jf_script.specs.declared.reply.Refusal.TheVariants as refusal
use Rattle.jf_script.specs.declared.reply.Reply.TheVariants as reply
use Rattle.jf_answers.specs.Own.{Own, begun_session}
use Rattle.jf_answers.specs.Refusals.{refused_by, room_causes, key_causes}
use Rattle.jf_answers.specs.Answers.{Answer, answer_command, not_read, own_answer, fork_landed}
use Rattle.jf_answers.specs.Runs.{Run, texts_of, with_first}
use Rattle.jf_answers.proofs.Samples.{start, empty_root, none_there, said}

-- a new store after so many landings without keys
abbrev landing_of : ℕ → Entry
landing_of version = entry.Landed 0 version (landing.Direct []) empty_root 0

abbrev one : State
one = replay start (landing_of 1 ∷ [])

abbrev two : State
two = replay start (landing_of 1 ∷ landing_of 2 ∷ [])

abbrev three : State
three = replay start (landing_of 1 ∷ landing_of 2 ∷ landing_of 3 ∷ [])

abbrev me : Own
me = begun_session 0

-- the answer to a line that isn't long
abbrev by_command : State → Own → List ℕ → Answer
by_command s own line = elim (command_of line) [ Some c ↦ answer_command s own c | None ↦ not_read s own ]

-- such answers to lines, one after another
abbrev run_over : State → Own → List (List ℕ) → Run
run_over s own [] = record { answers = []; state = s; own = own }
run_over s own (line ∷ ls) =
    let a = by_command s own line in
    with_first a (run_over a.state a.own ls)

-- the texts of a session's answers to lines over a state
abbrev said_over : State → List (List ℕ) → List (List ℕ)
said_over s lines = texts_of (run_over s me lines)

-- versions above the head
above_head : said_over three (codes "get v9 61" ∷ codes "prune 9" ∷ codes "pin 9" ∷ []) ≡ codes "3 no future 3\n" ∷ codes "3 no future 3\n" ∷ codes "3 no future 3\n" ∷ []
unfolding command_of base_of words number unhex digits refused_by after replay apply reply_text
above_head = refl

-- versions below the retired bound
below_bound : said_over two (codes "prune 2" ∷ codes "pin 1" ∷ codes "prune 1" ∷ codes "get v0 61" ∷ [])
    ≡ codes "3 ok prune 2 2\n" ∷ codes "3 no retired 2\n" ∷ codes "3 no retired 2\n" ∷ codes "3 no retired 2\n" ∷ []
unfolding command_of base_of words number unhex digits refused_by after replay apply reply_text
below_bound = refl

-- a pin keeps the floor back
floor_kept_back : said_over three (codes "pin 1" ∷ codes "prune 3" ∷ codes "get v1 61" ∷ codes "unpin 0" ∷ codes "prune 3" ∷ [])
    ≡ codes "3 ok pin 0\n" ∷ codes "4 ok prune 3 1\n" ∷ codes "4 no retired 3\n" ∷ codes "4 ok unpin 1\n" ∷ codes "5 ok prune 3 3\n" ∷ []
unfolding command_of base_of words number unhex digits refused_by after replay apply reply_text
floor_kept_back = refl

-- a session has 8 places
eight_places : said_over one (replicate 9 (codes "pin 1") ++ codes "unpin 7" ∷ codes "unpin 7" ∷ codes "get p9 61" ∷ [])
    ≡ codes "1 ok pin 0\n" ∷ codes "1 ok pin 1\n" ∷ codes "1 ok pin 2\n" ∷ codes "1 ok pin 3\n" ∷ codes "1 ok pin 4\n" ∷ codes "1 ok pin 5\n" ∷ codes "1 ok pin 6\n" ∷ codes "1 ok pin 7\n"
    ∷ codes "1 no pinsfull\n" ∷ codes "1 ok unpin 1\n" ∷ codes "1 no nopin\n" ∷ codes "1 no nopin\n" ∷ []
unfolding command_of base_of words number unhex digits refused_by after replay apply reply_text
eight_places = refl

-- ---- generations and ends
-- the map without entries has one node
one_node : length (nodes fin.empty) ≡ 1
unfolding nodes nodes_below
one_node = ap (λ es. length (nodes_below 64 0 es)) entries-empty

-- a generation is written, and shows in the numbers of the store
generation_two : said_over start (codes "compact" ∷ codes "status" ∷ []) ≡ codes "1 ok compact 2\n" ∷ codes "1 ok status base 0 floor 0 retired 0 head 0 kept 1 forks 0 generation 2\n" ∷ []
unfolding command_of base_of words number unhex digits refused_by after replay apply reply_text kept_nodes
generation_two = ap (λ n. codes "1 ok compact 2\n" ∷ (reply_text 1 (reply.Status 0 0 0 0 n 0 2) ++ []) ∷ []) one_node

-- after the last version and the last generation there is no other
last_ones : said_over (state_when_opened (imported_versions (2 ^ 64 - 2) fin.empty) (2 ^ 64 - 2)) (codes "commit" ∷ codes "compact" ∷ []) ≡ codes "0 no last\n" ∷ codes "0 no last\n" ∷ []
unfolding command_of base_of words number unhex digits refused_by after replay apply reply_text
last_ones = refl

-- ---- forks
-- forks without keys, the second on the first
abbrev two_forks : State
two_forks = replay start (entry.Made 0 0 parent.Head [] empty_root ∷ entry.Made 0 1 (parent.Fork 0) [] empty_root ∷ [])

forks_made : said_over start (codes "fork head" ∷ codes "fork f0" ∷ []) ≡ said 1 (reply.Fork 0 empty_root) ∷ said 2 (reply.Fork 1 empty_root) ∷ []
unfolding command_of base_of words number unhex digits refused_by after apply
forks_made = refl

so_made : (run_over start me (codes "fork head" ∷ codes "fork f0" ∷ [])).state ≡ two_forks
unfolding command_of base_of words number unhex digits refused_by after replay apply
so_made = refl

-- the second lands with the first, one version each
chain_lands : by_command two_forks me (codes "land f1") ≡ fork_landed 1 two_forks me
unfolding command_of base_of words number unhex digits refused_by after replay
chain_lands = ap (λ n. elim (cond (nat_lt (2 ^ 62) n) (Some refusal.Last) None) as (λ x. Answer) [ Some why ↦ own_answer (reply.No why) two_forks me | None ↦ fork_landed 1 two_forks me ]) none_there

version_two : (fork_landed 1 two_forks me).reply ≡ reply.Land 2 empty_root
unfolding replay after apply
version_two = refl

-- and then both are gone
then_gone : said_over (fork_landed 1 two_forks me).state (codes "get f7 61" ∷ codes "drop f0" ∷ codes "drop f1" ∷ []) ≡ codes "3 no unknown\n" ∷ codes "3 no gone\n" ∷ codes "3 no gone\n" ∷ []
unfolding command_of base_of words number unhex digits refused_by after replay apply reply_text
then_gone = refl

-- or the first is dropped, and the second with it
both_dropped : said_over two_forks (codes "drop f0" ∷ codes "get f1 61" ∷ []) ≡ codes "3 ok drop 2\n" ∷ codes "3 no gone\n" ∷ []
unfolding command_of base_of words number unhex digits refused_by after replay apply reply_text
both_dropped = refl

-- 1,024 forks are as many as may live
too_many : (s : State) → length s.forks ≡ 1024 → first_of (room_causes s) ≡ Some refusal.ForksFull
too_many s many = ap (λ n. cond (nat_le 1024 n) (Some refusal.ForksFull) None) many

-- 10,000 keys are as many as may land together
keys_over : first_of (key_causes 10001) ≡ Some (refusal.Keys 10001)
keys_over = refl

keys_fit : first_of (key_causes 10000) ≡ None
keys_fit = refl

-- ---- entries by their places
module _ (m : Map) (k l v w : List ℕ) (is : fin.entries m ≡ (k, v) ∷ (l, w) ∷ []) where
  abbrev over : State
  over = state_when_opened (imported_versions 1 m) 1

  counted_two : fin.len m ≡ 2
  counted_two = fin.len-entries m ∙ ap length is

  count_two : (by_command over me (codes "count head")).reply ≡ reply.Count 2
  unfolding command_of base_of words number unhex digits refused_by
  count_two = ap (λ n. reply.Count n) counted_two

  nth_first : (by_command over me (codes "nth head 0")).reply ≡ reply.Nth k v
  unfolding command_of base_of words number unhex digits refused_by
  nth_first = ap₂ (λ n (es : List (List ℕ × List ℕ)). (elim (cond (nat_le n 0) (Some (refusal.Range n)) None) as (λ x. Answer) [
    | Some why ↦ own_answer (reply.No why) over me
    | None ↦ own_answer (reply.Nth (slice_index_or es 0 ([], [])).0 (slice_index_or es 0 ([], [])).1) over me
  ]).reply) counted_two is

  nth_second : (by_command over me (codes "nth head 1")).reply ≡ reply.Nth l w
  unfolding command_of base_of words number unhex digits refused_by
  nth_second = ap₂ (λ n (es : List (List ℕ × List ℕ)). (elim (cond (nat_le n 1) (Some (refusal.Range n)) None) as (λ x. Answer) [
    | Some why ↦ own_answer (reply.No why) over me
    | None ↦ own_answer (reply.Nth (slice_index_or es 1 ([], [])).0 (slice_index_or es 1 ([], [])).1) over me
  ]).reply) counted_two is

  nth_third : (by_command over me (codes "nth head 2")).reply ≡ reply.No (refusal.Range 2)
  unfolding command_of base_of words number unhex digits refused_by
  nth_third = ap₂ (λ n (es : List (List ℕ × List ℕ)). (elim (cond (nat_le n 2) (Some (refusal.Range n)) None) as (λ x. Answer) [
    | Some why ↦ own_answer (reply.No why) over me
    | None ↦ own_answer (reply.Nth (slice_index_or es 2 ([], [])).0 (slice_index_or es 2 ([], [])).1) over me
  ]).reply) counted_two is
