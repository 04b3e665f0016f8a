-- A record that can be spelled in format 2 can be written in format 1.
use Rattle.std.proofs.Common.{List, [], ◌∷◌, map, ℕ, ◌+◌, refl, ◌^◌, ◌<◌, ◌≡◌, ap₂, length, sym, subst, ap, ◌∙◌, ◌&&◌, ◌==◌, ◌≤◌}
use Rattle.std.proofs.lemmas.List.{length-map}
use Rattle.std.specs.List.{AllByRecursion}
use Rattle.jf_path.specs.declared.children.Child.{Child}
use Rattle.jf_path.specs.Nodes.{ChildrenRiseFrom}
use Rattle.jf_path.specs.declared.node.PlainNode.{PlainNode}
use Rattle.jf_path.specs.Names.{IsName, are_rising}
use Rattle.jf_path.specs.declared.name.NodeName.{NodeName}
use Rattle.jf_path.specs.declared.node.PlainNode.TheVariants as node
use Rattle.jf_codec.specs.Spelling.{AreEnough, IsChild, IsNode}
use Rattle.jf_codec.specs.Counted.{uncounted_child, in_format}
use Rattle.jf_codec.specs.declared.format.Format.{Format}
use Rattle.jf_codec.specs.declared.format.Format.TheVariants as format
use Rattle.jf_payload.specs.Counted.{nodes_in, commit_in}
use Rattle.jf_payload.specs.declared.records.Commit.{Commit}
use Rattle.jf_payload.specs.Spelling.{IsCommit, are_consecutive}
use Rattle.jf_payload.specs.Laws.{WrittenInBoth}
use Rattle.jf_payload.specs.declared.records.Record.TheVariants as «record»

-- ---- nodes
enough : (cs : List Child) → AreEnough cs → AreEnough (map uncounted_child cs)
enough [] h = h
enough (c ∷ []) h = h
enough (c ∷ d ∷ cs) h = tt

rise_from : (least : ℕ) (cs : List Child) → ChildrenRiseFrom least cs → ChildrenRiseFrom least (map uncounted_child cs)
rise_from least [] r = tt
rise_from least (c ∷ cs) r = (r.0, rise_from (c.nibble + 1) cs r.1)

children : (cs : List Child) → AllByRecursion (IsChild format.Two) cs → AllByRecursion (IsChild format.One) (map uncounted_child cs)
children [] all = tt
children (c ∷ cs) all = (record { nibble = all.0.nibble; version = all.0.version; hash = all.0.hash; count = refl }, children cs all.1)

node-written : (fmt : Format) (n : PlainNode) → IsNode format.Two n → IsNode fmt (in_format fmt n)
node-written format.One node.Null is = tt
node-written format.One (node.Leaf key value) is = is
node-written format.One (node.Inner cs) is = (enough cs is.0, rise_from 0 cs is.1, children cs is.2)
node-written format.Two n is = is

-- ---- lists of nodes
fresh-written : (fmt : Format) (xs : List (NodeName × PlainNode)) → AllByRecursion (λ x. IsName x.0 × IsNode format.Two x.1) xs → AllByRecursion (λ (y : NodeName × PlainNode). IsName y.0 × IsNode fmt y.1) (map (λ x. (x.0, in_format fmt x.1)) xs)
fresh-written fmt [] all = tt
fresh-written fmt (x ∷ xs) all = ((all.0.0, node-written fmt x.1 all.0.1), fresh-written fmt xs all.1)

live-written : (fmt : Format) (xs : List (NodeName × PlainNode × ℕ)) → AllByRecursion (λ x. IsName x.0 × IsNode format.Two x.1 × (x.2 < 2 ^ 64)) xs → AllByRecursion (λ x. IsName x.0 × IsNode fmt x.1 × (x.2 < 2 ^ 64)) (nodes_in fmt xs)
live-written fmt [] all = tt
live-written fmt (x ∷ xs) all = ((all.0.0, node-written fmt x.1 all.0.1, all.0.2), live-written fmt xs all.1)

map-twice : {X Y : Type 0} (f : X → X) (g : X → Y) → ((x : X) → g (f x) ≡ g x) → (xs : List X) → map g (map f xs) ≡ map g xs
map-twice f g same [] = refl
map-twice {X} {Y} f g same (x ∷ xs) = ap₂ (λ (y : Y) (ys : List Y). y ∷ ys) (same x) (map-twice f g same xs)

short : {X : Type 0} (f : X → X) (xs : List X) (n : ℕ) → length xs < n → length (map f xs) < n
short f xs n lt = subst (λ (k : ℕ). k < n) (sym (length-map xs f)) lt

-- ---- records
commit-written : (fmt : Format) (c : Commit) → IsCommit format.Two c → IsCommit fmt (commit_in fmt c)
commit-written fmt c is = record {
  version = is.version;
  root = is.root;
  fresh = fresh-written fmt c.fresh is.fresh;
  fresh_count = short (λ x. (x.0, in_format fmt x.1)) c.fresh (2 ^ 64) is.fresh_count;
  fresh_rise = ap are_rising (map-twice (λ (x : NodeName × PlainNode). (x.0, in_format fmt x.1)) (λ x. x.0) (λ x. refl) c.fresh) ∙ is.fresh_rise;
  stale = is.stale;
  stale_count = is.stale_count;
  stale_rise = is.stale_rise;
}

commits-written : (fmt : Format) (cs : List Commit) → AllByRecursion (IsCommit format.Two) cs → AllByRecursion (IsCommit fmt) (map (commit_in fmt) cs)
commits-written fmt [] all = tt
commits-written fmt (c ∷ cs) all = (commit-written fmt c all.0, commits-written fmt cs all.1)

follow-written : (fmt : Format) (cs : List Commit) → are_consecutive (map (commit_in fmt) cs) ≡ are_consecutive cs
follow-written fmt [] = refl
follow-written fmt (c ∷ []) = refl
follow-written fmt (c ∷ d ∷ cs) = ap (λ b. (d.version == c.version + 1) && b) (follow-written fmt (d ∷ cs))

pub written_in_both : WrittenInBoth
written_in_both fmt («record».Floor floor) is = is
written_in_both fmt («record».NodeCommit c) is = commit-written fmt c is
written_in_both fmt («record».Checkpoint generation base floor head roots nodes) is = record {
  generation_first = is.generation_first;
  generation_last = is.generation_last;
  base_low = is.base_low;
  floor_low = is.floor_low;
  head_last = is.head_last;
  root_each = is.root_each;
  hashes = is.hashes;
  nodes_fit = live-written fmt nodes is.nodes_fit;
  count = short (λ x. (x.0, in_format fmt x.1, x.2)) nodes (2 ^ 64) is.count;
  names_rise = ap are_rising (map-twice (λ (x : NodeName × PlainNode × ℕ). (x.0, in_format fmt x.1, x.2)) (λ x. x.0) (λ x. refl) nodes) ∙ is.names_rise;
}
written_in_both fmt («record».Group cs) is = record {
  many = subst (λ (n : ℕ). 2 ≤ n) (sym (length-map cs (commit_in fmt))) is.many;
  few = subst (λ (n : ℕ). n ≤ 1024) (sym (length-map cs (commit_in fmt))) is.few;
  commits = commits-written fmt cs is.commits;
  versions = follow-written fmt cs ∙ is.versions;
}
