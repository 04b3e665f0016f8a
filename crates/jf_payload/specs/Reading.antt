-- Reading a payload from left to right: a value and the bytes after it, or None if no value is spelled.
use Rattle.std.specs.Prelude.{Option, Some, None, ◌≡◌, Result, Ok, Err, ℕ, List, Bool, if◌then◌else◌, zero, suc, ◌+◌, [], ◌∷◌, ◌++◌, false, not, ◌==◌, true, map, ◌-◌, ◌^◌, ◌&&◌, nat_le, length, nat_lt}
use Rattle.std.specs.List.{list_all}
use Rattle.std.specs.Result.{result_ok}
use Rattle.jf_path.specs.declared.name.NodeName.{NodeName}
use Rattle.jf_path.specs.declared.children.Child.{Child}
use Rattle.jf_path.specs.declared.node.PlainNode.{PlainNode}
use Rattle.jf_path.specs.Names.{are_rising}
use Rattle.jf_path.specs.Limits.{max_forks}
use Rattle.jf_path.specs.declared.node.PlainNode.TheVariants as node
use Rattle.jf_codec.specs.Reading.{eight_at, bytes_at, name_at, node_at}
use Rattle.jf_codec.specs.declared.format.Format.{Format}
use Rattle.jf_codec.specs.declared.format.Format.TheVariants as format
use Rattle.jf_payload.specs.declared.fault.RecordFault.{RecordFault}
use Rattle.jf_payload.specs.declared.records.Commit.{Commit}
use Rattle.jf_payload.specs.declared.records.Record.{Record}
use Rattle.jf_payload.specs.Spelling.{are_consecutive, checkpoint_kind}
use Rattle.jf_payload.specs.declared.fault.RecordFault.TheVariants as fault
use Rattle.jf_payload.specs.declared.records.Record.TheVariants as «record»

infixl 10 ◌>>=◌
-- a step and then the next one, if the first step reads something
abbrev pub ◌>>=◌ : {A B : Type 0} → Option A → (A → Option B) → Option B
(Some x) >>= f = f x
None >>= f = None

-- the errors of a function: `Bad` if nothing is read, or out of memory
abbrev pub FailsToRead : {Y : Type 0} → RecordFault → Option Y → Type 0
FailsToRead fault.Bad read = read ≡ None
FailsToRead fault.Memory read = Unit {0}

-- a function returned what reading gives, seen through `view`, or `Memory`
abbrev pub Gives : {X Y : Type 0} → (X → Y) → Result X RecordFault → Option Y → Type 0
Gives view (Ok x) read = read ≡ Some (view x)
Gives view (Err e) read = FailsToRead e read

-- a reader: it takes a value from the front of bytes
abbrev pub Front : Type 0 → Type 0
Front X = List ℕ → Option (X × List ℕ)

-- ---- readers built from readers
-- a value, and a second one that may depend on the first
abbrev pub both_at : {X Y : Type 0} → Front X → (X → Front Y) → Front (X × Y)
both_at one other bytes = do
  x ← one bytes
  y ← other x.0 x.1
  Some ((x.0, y.0), y.1)

-- a value that passes a test
abbrev pub only_if : {X : Type 0} → (X → Bool) → Front X → Front X
only_if test one bytes = do
  x ← one bytes
  if test x.0 then Some x else None

-- a value seen through `view`
abbrev pub seen_as : {X Y : Type 0} → (X → Y) → Front X → Front Y
seen_as view one bytes = do
  x ← one bytes
  Some (view x.0, x.1)

-- n values after those of `front`; the values so far must pass the test `fits` each time
unfoldable pub many_at : {X : Type 0} → (List X → Bool) → Front X → ℕ → List X → Front (List X)
many_at fits one zero front bytes = Some (front, bytes)
many_at fits one (suc n) front bytes = do
  x ← one bytes
  if fits (front ++ x.0 ∷ []) then many_at fits one n (front ++ x.0 ∷ []) x.1 else None

-- ---- fields
-- a number in eight bytes
abbrev pub long_at : Front ℕ
long_at bytes = result_ok (eight_at bytes)

-- a hash of 32 bytes
abbrev pub hash_at : Front (List ℕ)
hash_at bytes = result_ok (bytes_at 32 bytes)

-- the name of a node
abbrev pub named_at : Front NodeName
named_at bytes = result_ok (name_at bytes)

-- children have counts, which the first of them shows
abbrev pub has_counts : List Child → Bool
has_counts [] = false
has_counts (c ∷ cs) = not (c.count == 0)

-- whether children with counts, or without, are of a format
abbrev pub counts_fit : Format → Bool → Bool
counts_fit format.One counts = not counts
counts_fit format.Two counts = counts

-- an internal node has counts in format 2, and no counts in format 1
abbrev pub is_in : Format → PlainNode → Bool
is_in fmt node.Null = true
is_in fmt (node.Leaf key value) = true
is_in fmt (node.Inner cs) = counts_fit fmt (has_counts cs)

-- a node of the format
abbrev pub format_node_at : Format → Front PlainNode
format_node_at fmt = only_if (is_in fmt) (λ bytes. result_ok (node_at bytes))

-- ---- lists
-- a list: the number of values, within bounds, and the values
abbrev pub list_at : {X : Type 0} → (ℕ → Bool) → (List X → Bool) → Front X → Front (List X)
list_at within fits one = seen_as (λ x. x.1) (both_at (only_if within long_at) (λ n. many_at fits one n []))

-- any number of values
abbrev pub any : ℕ → Bool
any n = true

-- a name and a node
unfoldable pub fresh_at : Format → Front (NodeName × PlainNode)
fresh_at fmt = both_at named_at (λ name. format_node_at fmt)

-- the names of nodes rise
abbrev pub fresh_rise : List (NodeName × PlainNode) → Bool
fresh_rise xs = are_rising (map (λ x. x.0) xs)

-- a list of the nodes that a landing writes, whose names rise
abbrev pub fresh_list_at : Format → Front (List (NodeName × PlainNode))
fresh_list_at fmt = list_at any fresh_rise (fresh_at fmt)

-- a list of names, which rise
abbrev pub name_list_at : Front (List NodeName)
name_list_at = list_at any are_rising named_at

-- a name, a node, and the version since which it is stale
unfoldable pub live_at : Format → Front (NodeName × PlainNode × ℕ)
live_at fmt = seen_as (λ x. (x.0.0, x.0.1, x.1)) (both_at (both_at named_at (λ name. format_node_at fmt)) (λ x. long_at))

-- the names of nodes rise
abbrev pub live_rise : List (NodeName × PlainNode × ℕ) → Bool
live_rise xs = are_rising (map (λ x. x.0) xs)

-- a list of the nodes of a checkpoint, whose names rise
abbrev pub live_list_at : Format → Front (List (NodeName × PlainNode × ℕ))
live_list_at fmt = list_at any live_rise (live_at fmt)

-- ---- records
-- the landing of these parts
abbrev pub commit_from : ((ℕ × List ℕ) × List (NodeName × PlainNode)) × List NodeName → Commit
commit_from x = record { version = x.0.0.0; root = x.0.0.1; fresh = x.0.1; stale = x.1 }

-- a landing: version, root, the nodes that it writes, and the names that it marks stale
unfoldable pub commit_at : Format → Front Commit
commit_at fmt = seen_as commit_from (both_at (both_at (both_at long_at (λ version. hash_at)) (λ x. fresh_list_at fmt)) (λ x. name_list_at))

-- the numbers of a checkpoint: generation, base, floor and head
abbrev pub Numbers : Type 0
Numbers = ((ℕ × ℕ) × ℕ) × ℕ

-- generation at least 1; base, floor and head in order; generation and head at most 2^64 - 2
abbrev pub are_within : Numbers → Bool
are_within n = nat_le 1 n.0.0.0 && (nat_le n.0.0.0 (2 ^ 64 - 2) && (nat_le n.0.0.1 n.0.1 && (nat_le n.0.1 n.1 && nat_le n.1 (2 ^ 64 - 2))))

-- the numbers of a checkpoint, in bounds and in order
unfoldable pub numbers_at : Front Numbers
numbers_at = only_if are_within (both_at (both_at (both_at long_at (λ x. long_at)) (λ x. long_at)) (λ x. long_at))

-- hashes may come in any order
abbrev pub any_hashes : List (List ℕ) → Bool
any_hashes hs = true

-- a root for each version from the base to the head
abbrev pub roots_at : Numbers → Front (List (List ℕ))
roots_at n = many_at any_hashes hash_at (n.1 - n.0.0.1 + 1) []

-- the checkpoint of these parts
abbrev pub checkpoint_from : (Numbers × List (List ℕ)) × List (NodeName × PlainNode × ℕ) → Record
checkpoint_from x = «record».Checkpoint x.0.0.0.0.0 x.0.0.0.0.1 x.0.0.0.1 x.0.0.1 x.0.1 x.1

-- a checkpoint: its numbers, its roots, and its nodes
unfoldable pub checkpoint_at : Format → Front Record
checkpoint_at fmt = seen_as checkpoint_from (both_at (both_at numbers_at roots_at) (λ x. live_list_at fmt))

-- a group has 2 to 1,024 landings
abbrev pub is_group : ℕ → Bool
is_group n = nat_le 2 n && nat_le n max_forks

-- a group: a list of landings whose versions rise by one
unfoldable pub group_at : Format → Front (List Commit)
group_at fmt = list_at is_group are_consecutive (commit_at fmt)

-- a record of a kind at the front of bytes
unfoldable pub record_at : Format → ℕ → Front Record
record_at fmt kind bytes =
    if kind == 2 then seen_as (λ floor. «record».Floor floor) long_at bytes
    else if kind == 3 then seen_as (λ c. «record».NodeCommit c) (commit_at fmt) bytes
    else if kind == 6 then seen_as (λ cs. «record».Group cs) (group_at fmt) bytes
    else if kind == checkpoint_kind fmt then checkpoint_at fmt bytes
    else None

-- a record of a kind that takes all of the bytes
unfoldable pub whole_record_in : Format → ℕ → List ℕ → Option Record
whole_record_in fmt kind bytes = do
  r ← record_at fmt kind bytes
  if length r.1 == 0 then Some r.0 else None

-- the record that a payload of a kind spells in a file of a format; None if it spells no record or isn't bytes
unfoldable pub spelled_record : Format → ℕ → List ℕ → Option Record
spelled_record fmt kind payload = if list_all (λ b. nat_lt b 256) payload then whole_record_in fmt kind payload else None
