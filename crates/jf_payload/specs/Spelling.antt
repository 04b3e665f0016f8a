-- The payloads of records, in both formats (docs/FORMATS.md, "Records of nodes in bytes").
use Rattle.std.specs.Prelude.{ℕ, ◌+◌, List, ◌++◌, flat_map, length, ◌<◌, ◌^◌, IsTrue, map, ◌≡◌, ◌-◌, ◌≤◌, Bool, true, ◌&&◌, ◌==◌, [], ◌∷◌}
use Rattle.std.specs.List.{AllByRecursion}
use Rattle.jf_path.specs.Numbers.{eight_bytes}
use Rattle.jf_path.specs.declared.name.NodeName.{NodeName}
use Rattle.jf_path.specs.declared.node.PlainNode.{PlainNode}
use Rattle.jf_path.specs.Keys.{IsKey}
use Rattle.jf_path.specs.Names.{IsName, are_rising}
use Rattle.jf_path.specs.Limits.{max_forks}
use Rattle.jf_codec.specs.Spelling.{name_bytes, node_bytes, IsNode}
use Rattle.jf_codec.specs.declared.format.Format.{Format}
use Rattle.jf_codec.specs.declared.format.Format.TheVariants as format
use Rattle.jf_payload.specs.declared.records.Commit.{Commit}
use Rattle.jf_payload.specs.declared.records.Record.{Record}
use Rattle.jf_payload.specs.declared.records.Record.TheVariants as «record»

-- a list: the number of items, and each item
abbrev pub list_bytes : {X : Type 0} → (X → List ℕ) → List X → List ℕ
list_bytes spell xs = eight_bytes (length xs) ++ flat_map spell xs

-- a node that a landing writes: its name and the node
abbrev pub fresh_bytes : Format → NodeName × PlainNode → List ℕ
fresh_bytes fmt x = name_bytes x.0 ++ node_bytes fmt x.1

-- a node of a checkpoint: its name, the node, and the version since which it is stale, 2^64 - 1 if it isn't
abbrev pub live_bytes : Format → NodeName × PlainNode × ℕ → List ℕ
live_bytes fmt x = name_bytes x.0 ++ node_bytes fmt x.1 ++ eight_bytes x.2

-- a landing: its version and root, the nodes that it writes, and the names that it marks stale
unfoldable pub commit_bytes : Format → Commit → List ℕ
commit_bytes fmt c = eight_bytes c.version ++ c.root ++ list_bytes (fresh_bytes fmt) c.fresh ++ list_bytes name_bytes c.stale

-- the kind of a checkpoint, which tells the format of the file
abbrev pub checkpoint_kind : Format → ℕ
checkpoint_kind format.One = 4
checkpoint_kind format.Two = 5

-- the kind of a record in a file of a format
abbrev pub kind_of : Format → Record → ℕ
kind_of fmt («record».Floor floor) = 2
kind_of fmt («record».NodeCommit c) = 3
kind_of fmt («record».Checkpoint generation base floor head roots nodes) = checkpoint_kind fmt
kind_of fmt («record».Group cs) = 6

-- the payload of a record
unfoldable pub record_bytes : Format → Record → List ℕ
record_bytes fmt («record».Floor floor) = eight_bytes floor
record_bytes fmt («record».NodeCommit c) = commit_bytes fmt c
record_bytes fmt («record».Checkpoint generation base floor head roots nodes) =
    eight_bytes generation ++ eight_bytes base ++ eight_bytes floor ++ eight_bytes head ++ flat_map (λ h. h) roots ++ list_bytes (live_bytes fmt) nodes
record_bytes fmt («record».Group cs) = list_bytes (commit_bytes fmt) cs

-- ---- what can be spelled
-- a landing can be spelled: version and counts have 64 bits, the nodes are of the format, and the names rise
pub record IsCommit (fmt : Format) (c : Commit) : Type 0 where
  pub version : c.version < 2 ^ 64
  pub root : IsKey c.root
  pub fresh : AllByRecursion (λ x. IsName x.0 × IsNode fmt x.1) c.fresh
  pub fresh_count : length c.fresh < 2 ^ 64
  pub fresh_rise : IsTrue (are_rising (map (λ x. x.0) c.fresh))
  pub stale : AllByRecursion IsName c.stale
  pub stale_count : length c.stale < 2 ^ 64
  pub stale_rise : IsTrue (are_rising c.stale)

-- a checkpoint can be spelled: generation at least 1; base, floor and head in order; a root for each version from the
-- base to the head; nodes of the format, whose names rise; generation and head at most 2^64 - 2
pub record IsCheckpoint (fmt : Format) (generation base floor head : ℕ) (roots : List (List ℕ)) (nodes : List (NodeName × PlainNode × ℕ)) : Type 0 where
  pub generation_first : 1 ≤ generation
  pub generation_last : generation ≤ 2 ^ 64 - 2
  pub base_low : base ≤ floor
  pub floor_low : floor ≤ head
  pub head_last : head ≤ 2 ^ 64 - 2
  pub root_each : length roots ≡ head - base + 1
  pub hashes : AllByRecursion IsKey roots
  pub nodes_fit : AllByRecursion (λ n. IsName n.0 × IsNode fmt n.1 × (n.2 < 2 ^ 64)) nodes
  pub count : length nodes < 2 ^ 64
  pub names_rise : IsTrue (are_rising (map (λ n. n.0) nodes))

-- the versions of landings rise by one
abbrev pub are_consecutive : List Commit → Bool
are_consecutive [] = true
are_consecutive (c ∷ []) = true
are_consecutive (c ∷ d ∷ cs) = (d.version == c.version + 1) && are_consecutive (d ∷ cs)

-- a group can be spelled: 2 to 1,024 landings, whose versions rise by one
pub record IsGroup (fmt : Format) (cs : List Commit) : Type 0 where
  pub many : 2 ≤ length cs
  pub few : length cs ≤ max_forks
  pub commits : AllByRecursion (IsCommit fmt) cs
  pub versions : IsTrue (are_consecutive cs)

-- a record can be spelled in a format
abbrev pub IsRecord : Format → Record → Type 0
IsRecord fmt («record».Floor floor) = floor < 2 ^ 64
IsRecord fmt («record».NodeCommit c) = IsCommit fmt c
IsRecord fmt («record».Checkpoint generation base floor head roots nodes) = IsCheckpoint fmt generation base floor head roots nodes
IsRecord fmt («record».Group cs) = IsGroup fmt cs

-- a record is spelled by this kind and payload
pub record IsSpelling (fmt : Format) (r : Record) (kind : ℕ) (payload : List ℕ) : Type 0 where
  pub sound : IsRecord fmt r
  pub kind_is : kind ≡ kind_of fmt r
  pub payload_is : payload ≡ record_bytes fmt r
