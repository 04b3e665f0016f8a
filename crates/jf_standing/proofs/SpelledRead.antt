-- A record that a payload spells meets what is asked of a record that was read.
use Rattle.std.proofs.Common.{ℕ, List, ◌^◌, ◌<◌, [], ◌∷◌, map, reverse, sym, subst, ◌∙◌, arith}
use Rattle.std.proofs.lemmas.Grind.{reverse_onto}
use Rattle.std.proofs.lemmas.List.{length-reverse}
use Rattle.std.specs.List.{cons_option, AllByRecursion}
use Rattle.jf_path.specs.declared.node.PlainNode.{PlainNode}
use Rattle.jf_path.specs.Names.{IsName}
use Rattle.jf_path.specs.declared.name.NodeName.{NodeName}
use Rattle.jf_path.specs.Keys.{IsKey}
use Rattle.jf_path.specs.declared.node.PlainNode.TheVariants as node
use Rattle.jf_path.proofs.ListLaws.{All-after}
use Rattle.jf_codec.specs.Spelling.{IsNode}
use Rattle.jf_codec.specs.declared.format.Format.{Format}
use Rattle.jf_payload.specs.declared.records.Commit.{Commit}
use Rattle.jf_payload.specs.Spelling.{IsCommit, IsRecord}
use Rattle.jf_payload.specs.declared.records.Record.{Record}
use Rattle.jf_payload.specs.declared.records.Record.TheVariants as «record»
use Rattle.jf_standing.specs.Named.{leaf_entry, AreEntries, NamedNode, leaf_entries}
use Rattle.jf_standing.specs.Standing.{unmarked_node}
use Rattle.jf_standing.specs.Next.{IsReadCommit, IsReadRecord}
use Rattle.jf_standing.specs.Begin.{IsReadFirst}

entry-of : (fmt : Format) (n : PlainNode) (es : List (List ℕ × List ℕ)) → IsNode fmt n → AreEntries es → AreEntries (cons_option (leaf_entry n) es)
entry-of fmt node.Null es is all = all
entry-of fmt (node.Leaf key value) es is all = ((is.0, is.1), all)
entry-of fmt (node.Inner cs) es is all = all

live-entries : (fmt : Format) (ns : List NamedNode) → AllByRecursion (λ n. IsName n.0 × IsNode fmt n.1 × (n.2 < 2 ^ 64)) ns → AreEntries (leaf_entries ns)
live-entries fmt [] all = tt
live-entries fmt (n ∷ ns) all = entry-of fmt n.1 (leaf_entries ns) all.0.1 (live-entries fmt ns all.1)

fresh-entries : (fmt : Format) (xs : List (NodeName × PlainNode)) → AllByRecursion (λ x. IsName x.0 × IsNode fmt x.1) xs → AreEntries (leaf_entries (map unmarked_node xs))
fresh-entries fmt [] all = tt
fresh-entries fmt (x ∷ xs) all = entry-of fmt x.1 (leaf_entries (map unmarked_node xs)) all.0.1 (fresh-entries fmt xs all.1)

pub All-reverse : {X : Type 0} (P : X → Type 0) (xs : List X) → AllByRecursion P xs → AllByRecursion P (reverse xs)
All-reverse P [] all = tt
All-reverse {X} P (x ∷ xs) all = subst (λ (ys : List X). AllByRecursion P ys) (sym (reverse_onto xs x [])) (All-after P (reverse xs) x (All-reverse P xs all.1) all.0)

read-commit : (fmt : Format) (c : Commit) → IsCommit fmt c → IsReadCommit c
read-commit fmt c is = (record { fresh = is.fresh_rise; stale = is.stale_rise }, fresh-entries fmt c.fresh is.fresh)

read-commits : (fmt : Format) (cs : List Commit) → AllByRecursion (IsCommit fmt) cs → AllByRecursion IsReadCommit cs
read-commits fmt [] all = tt
read-commits fmt (c ∷ cs) all = (read-commit fmt c all.0, read-commits fmt cs all.1)

pub read-record : (fmt : Format) (r : Record) → IsRecord fmt r → IsReadRecord r
read-record fmt («record».Floor floor) is = tt
read-record fmt («record».NodeCommit c) is = read-commit fmt c is
read-record fmt («record».Checkpoint generation base floor head roots nodes) is = tt
read-record fmt («record».Group cs) is = read-commits fmt cs is.commits

pub read-first : (fmt : Format) (r : Record) → IsRecord fmt r → IsReadFirst r
read-first fmt («record».Floor floor) is = tt
read-first fmt («record».NodeCommit c) is = tt
read-first fmt («record».Group cs) is = tt
read-first fmt («record».Checkpoint generation base floor head roots nodes) is = record {
  base_low = is.base_low;
  floor_low = is.floor_low;
  head_last = let last = is.head_last in omega arith;
  root_each = length-reverse roots ∙ is.root_each;
  hashes = All-reverse IsKey roots is.hashes;
  keys = live-entries fmt nodes is.nodes_fit;
  rises = is.names_rise;
}
