-- What a format keeps of a record has the record's spelling, and a record of the format is kept whole.
use Rattle.std.proofs.Common.{◌≡◌, ℕ, ◌+◌, List, [], ◌∷◌, ◌++◌, map, refl, ap, ◌^◌, true, false, cond, ap₂, ◌<◌}
use Rattle.std.proofs.lemmas.List.{length-map}
use Rattle.std.specs.List.{flat_map, AllByRecursion}
use Rattle.jf_path.specs.declared.children.Child.{Child}
use Rattle.jf_path.specs.declared.node.PlainNode.{PlainNode}
use Rattle.jf_path.specs.Numbers.{two_bytes, eight_bytes}
use Rattle.jf_path.specs.declared.name.NodeName.{NodeName}
use Rattle.jf_path.specs.Names.{IsName}
use Rattle.jf_path.specs.declared.node.PlainNode.TheVariants as node
use Rattle.jf_codec.specs.Spelling.{child_bytes, bitmap, leaf_children, node_bytes, name_bytes, IsNode}
use Rattle.jf_codec.specs.Counted.{uncounted_child, in_format}
use Rattle.jf_codec.specs.declared.format.Format.{Format}
use Rattle.jf_codec.specs.declared.format.Format.TheVariants as format
use Rattle.jf_codec.proofs.Counted.{in_format-same}
use Rattle.jf_payload.specs.Spelling.{list_bytes, fresh_bytes, live_bytes, commit_bytes, record_bytes, kind_of, IsCommit, IsRecord}
use Rattle.jf_payload.specs.declared.records.Commit.{Commit}
use Rattle.jf_payload.specs.Counted.{commit_in, record_in, written_in_format}
use Rattle.jf_payload.specs.declared.records.Record.{Record}
use Rattle.jf_payload.specs.Laws.{KeptIsSpelled}
use Rattle.jf_payload.specs.declared.records.Record.TheVariants as «record»

-- ---- nodes
children_bytes : (cs : List Child) → flat_map (child_bytes format.One) (map uncounted_child cs) ≡ flat_map (child_bytes format.One) cs
children_bytes [] = refl
children_bytes (c ∷ cs) = ap (λ (t : List ℕ). child_bytes format.One c ++ t) (children_bytes cs)

bitmap_kept : (cs : List Child) → bitmap (map uncounted_child cs) ≡ bitmap cs
bitmap_kept [] = refl
bitmap_kept (c ∷ cs) = ap (λ (n : ℕ). 2 ^ c.nibble + n) (bitmap_kept cs)

leaves_kept : (cs : List Child) → bitmap (leaf_children (map uncounted_child cs)) ≡ bitmap (leaf_children cs)
leaves_kept [] = refl
leaves_kept (c ∷ cs) = elim c.leaf as (λ b. bitmap (cond b (uncounted_child c ∷ leaf_children (map uncounted_child cs)) (leaf_children (map uncounted_child cs))) ≡ bitmap (cond b (c ∷ leaf_children cs) (leaf_children cs))) [
  | true ↦ ap (λ (n : ℕ). 2 ^ c.nibble + n) (leaves_kept cs)
  | false ↦ leaves_kept cs
]

node_kept : (fmt : Format) (n : PlainNode) → node_bytes fmt (in_format fmt n) ≡ node_bytes fmt n
unfolding node_bytes
node_kept format.One node.Null = refl
node_kept format.One (node.Leaf key value) = refl
node_kept format.One (node.Inner cs) = ap₂ (λ (h : List ℕ) (t : List ℕ). 2 ∷ h ++ t) (ap₂ (λ n m. two_bytes n ++ two_bytes m) (bitmap_kept cs) (leaves_kept cs)) (children_bytes cs)
node_kept format.Two n = refl

-- ---- lists of nodes
abbrev live_in : Format → NodeName × PlainNode × ℕ → NodeName × PlainNode × ℕ
live_in fmt x = (x.0, in_format fmt x.1, x.2)

flat_map-kept : {X : Type 0} (f : X → X) (s : X → List ℕ) → ((x : X) → s (f x) ≡ s x) → (xs : List X) → flat_map s (map f xs) ≡ flat_map s xs
flat_map-kept f s same [] = refl
flat_map-kept f s same (x ∷ xs) = ap₂ (λ (a : List ℕ) (b : List ℕ). a ++ b) (same x) (flat_map-kept f s same xs)

list_kept : {X : Type 0} (f : X → X) (s : X → List ℕ) → ((x : X) → s (f x) ≡ s x) → (xs : List X) → list_bytes s (map f xs) ≡ list_bytes s xs
list_kept f s same xs = ap₂ (λ (n : ℕ) (t : List ℕ). eight_bytes n ++ t) (length-map xs f) (flat_map-kept f s same xs)

map-same : {X : Type 0} (f : X → X) (I : X → Type 0) → ((x : X) → I x → f x ≡ x) → (xs : List X) → AllByRecursion I xs → map f xs ≡ xs
map-same f I same [] all = refl
map-same {X} f I same (x ∷ xs) all = ap₂ (λ (y : X) (ys : List X). y ∷ ys) (same x all.0) (map-same f I same xs all.1)

fresh_bytes-kept : (fmt : Format) (x : NodeName × PlainNode) → fresh_bytes fmt (written_in_format fmt x) ≡ fresh_bytes fmt x
fresh_bytes-kept fmt x = ap (λ (t : List ℕ). name_bytes x.0 ++ t) (node_kept fmt x.1)

live_bytes-kept : (fmt : Format) (x : NodeName × PlainNode × ℕ) → live_bytes fmt (live_in fmt x) ≡ live_bytes fmt x
live_bytes-kept fmt x = ap (λ (t : List ℕ). name_bytes x.0 ++ t ++ eight_bytes x.2) (node_kept fmt x.1)

-- ---- records
commit_kept : (fmt : Format) (c : Commit) → commit_bytes fmt (commit_in fmt c) ≡ commit_bytes fmt c
unfolding commit_bytes
commit_kept fmt c = ap (λ (t : List ℕ). eight_bytes c.version ++ c.root ++ t ++ list_bytes name_bytes c.stale) (list_kept (written_in_format fmt) (fresh_bytes fmt) (fresh_bytes-kept fmt) c.fresh)

record_kept : (fmt : Format) (r : Record) → record_bytes fmt (record_in fmt r) ≡ record_bytes fmt r
unfolding record_bytes
record_kept fmt («record».Floor floor) = refl
record_kept fmt («record».NodeCommit c) = commit_kept fmt c
record_kept fmt («record».Checkpoint generation base floor head roots nodes) =
    ap (λ (t : List ℕ). eight_bytes generation ++ eight_bytes base ++ eight_bytes floor ++ eight_bytes head ++ flat_map (λ h. h) roots ++ t) (list_kept (live_in fmt) (live_bytes fmt) (live_bytes-kept fmt) nodes)
record_kept fmt («record».Group cs) = list_kept (commit_in fmt) (commit_bytes fmt) (commit_kept fmt) cs

kind_kept : (fmt : Format) (r : Record) → kind_of fmt (record_in fmt r) ≡ kind_of fmt r
kind_kept fmt («record».Floor floor) = refl
kind_kept fmt («record».NodeCommit c) = refl
kind_kept fmt («record».Checkpoint generation base floor head roots nodes) = refl
kind_kept fmt («record».Group cs) = refl

commit_same : (fmt : Format) (c : Commit) → IsCommit fmt c → commit_in fmt c ≡ c
commit_same fmt c is =
    ap (λ (xs : List (NodeName × PlainNode)). record { version = c.version; root = c.root; fresh = xs; stale = c.stale })
    (map-same (written_in_format fmt) (λ x. IsName x.0 × IsNode fmt x.1) (λ x h. ap (λ (n : PlainNode). (x.0, n)) (in_format-same fmt x.1 h.1)) c.fresh is.fresh)

record_same : (fmt : Format) (r : Record) → IsRecord fmt r → record_in fmt r ≡ r
record_same fmt («record».Floor floor) is = refl
record_same fmt («record».NodeCommit c) is = ap (λ (d : Commit). «record».NodeCommit d) (commit_same fmt c is)
record_same fmt («record».Checkpoint generation base floor head roots nodes) is =
    ap (λ (xs : List (NodeName × PlainNode × ℕ)). «record».Checkpoint generation base floor head roots xs)
    (map-same (live_in fmt) (λ x. IsName x.0 × IsNode fmt x.1 × (x.2 < 2 ^ 64)) (λ x h. ap (λ (n : PlainNode). (x.0, n, x.2)) (in_format-same fmt x.1 h.1)) nodes is.nodes_fit)
record_same fmt («record».Group cs) is = ap (λ (ds : List Commit). «record».Group ds) (map-same (commit_in fmt) (IsCommit fmt) (commit_same fmt) cs is.commits)

pub kept_is_spelled : KeptIsSpelled
kept_is_spelled fmt r = (record_kept fmt r, kind_kept fmt r, record_same fmt r)

-- ---- a record that is written has a spelling
pub fresh_nodes : (fmt : Format) (xs : List (NodeName × PlainNode)) → AllByRecursion (λ x. IsName x.0 × IsNode fmt x.1) (map (written_in_format fmt) xs) → AllByRecursion (λ x. IsNode fmt (in_format fmt x.1)) xs
fresh_nodes fmt [] all = tt
fresh_nodes fmt (x ∷ xs) all = (all.0.1, fresh_nodes fmt xs all.1)

pub live_nodes : (fmt : Format) (xs : List (NodeName × PlainNode × ℕ)) → AllByRecursion (λ x. IsName x.0 × IsNode fmt x.1 × (x.2 < 2 ^ 64)) (map (live_in fmt) xs) → AllByRecursion (λ x. IsNode fmt (in_format fmt x.1)) xs
live_nodes fmt [] all = tt
live_nodes fmt (x ∷ xs) all = (all.0.1, live_nodes fmt xs all.1)

pub group_nodes : (fmt : Format) (cs : List Commit) → AllByRecursion (IsCommit fmt) (map (commit_in fmt) cs) → AllByRecursion (λ c. AllByRecursion (λ x. IsNode fmt (in_format fmt x.1)) c.fresh) cs
group_nodes fmt [] all = tt
group_nodes fmt (c ∷ cs) all = (fresh_nodes fmt c.fresh all.0.fresh, group_nodes fmt cs all.1)
