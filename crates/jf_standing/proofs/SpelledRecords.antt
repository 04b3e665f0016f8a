-- Landings and checkpoints are records that have a spelling.
use Rattle.std.proofs.Common.{arith, ◌≡◌, ◌+◌, [], ◌∷◌, ◌++◌, length, refl, sym, ap, List, map, ap₂, ℕ, IsTrue, ◌∙◌, ◌^◌, ◌<◌, subst}
use Rattle.std.proofs.lemmas.List.{length-reverse}
use Rattle.std.proofs.lemmas.List.Sorted.{Contains-permutation, IsPermutation-sym, length_permutation}
use Rattle.jf_path.specs.declared.node.PlainNode.{PlainNode}
use Rattle.jf_path.specs.declared.name.NodeName.{NodeName}
use Rattle.jf_path.specs.Names.{are_rising, IsName}
use Rattle.jf_path.specs.Keys.{IsKey}
use Rattle.jf_path.proofs.ListLaws.{All-of}
use Rattle.jf_hash.specs.Maps.{Map}
use Rattle.jf_hash.specs.Slots.{Part}
use Rattle.jf_model.specs.Nodes.{fresh, Path}
use Rattle.jf_codec.specs.declared.format.Format.{Format}
use Rattle.jf_codec.specs.Spelling.{IsNode}
use Rattle.jf_codec.specs.declared.format.Format.TheVariants as format
use Rattle.jf_payload.specs.Counted.{written_in_format}
use Rattle.jf_standing.specs.SpellingLaws.{LandingsAreSpelled, LandingsAreKept, CheckpointsAreSpelled}
use Rattle.jf_standing.specs.Standing.{Standing}
use Rattle.jf_standing.specs.Landing.{version_after, written_node, head_map, landing_of}
use Rattle.jf_standing.specs.Named.{NamedNode}
use Rattle.jf_standing.specs.Building.{as_named, apart, nodes_by_name}
use Rattle.jf_standing.specs.Order.{by_name}
use Rattle.jf_standing.proofs.Leaves.{IsMap-map_at}
use Rattle.jf_standing.proofs.Rising.{landing-read, sorted-are_rising}
use Rattle.jf_standing.proofs.Valid.{fresh-valid, stale-valid, root-valid}
use Rattle.jf_standing.proofs.Counted.{plain_node-uncounted}
use Rattle.jf_standing.proofs.Names.{sorted-by_name}
use Rattle.jf_standing.proofs.Lists.{All-each_element}
use Rattle.jf_standing.proofs.ValidNodes.{nodes-valid}
use Rattle.jf_standing.proofs.ByName.{nodes-moved}
use Rattle.jf_standing.proofs.SpelledRead.{All-reverse}

-- ---- landings
pub landing-spelled : LandingsAreSpelled
landing-spelled fmt s m keys sound short room last few fewer =
    let read = landing-read fmt s m sound in
    record {
      version = omega arith;
      root = root-valid fmt s m;
      fresh = fresh-valid fmt s m sound short room last;
      fresh_count = few;
      fresh_rise = read.0.fresh;
      stale = stale-valid fmt s m (IsMap-map_at s.head s.nodes keys) last;
      stale_count = fewer;
      stale_rise = read.0.stale;
    }

written-kept : (fmt : Format) (s : Standing) (m : Map) (x : Path × Part) → written_in_format fmt (written_node format.Two s m x) ≡ written_node fmt s m x
written-kept format.One s m x =
    ap (λ (n : PlainNode). (record { version = s.head + 1; path = x.0 }, n)) (sym (plain_node-uncounted (λ i. version_after s m (x.0 ++ i ∷ [])) (length x.0) x.1))
written-kept format.Two s m x = refl

all-kept : (fmt : Format) (s : Standing) (m : Map) (xs : List (Path × Part)) → map (written_in_format fmt) (map (written_node format.Two s m) xs) ≡ map (written_node fmt s m) xs
all-kept fmt s m [] = refl
all-kept fmt s m (x ∷ xs) = ap₂ (λ (y : NodeName × PlainNode) (ys : List (NodeName × PlainNode)). y ∷ ys) (written-kept fmt s m x) (all-kept fmt s m xs)

pub landing-kept : LandingsAreKept
landing-kept fmt s m =
    ap (λ (ys : List (NodeName × PlainNode)). record { version = (landing_of fmt s m).version; root = (landing_of fmt s m).root; fresh = ys; stale = (landing_of fmt s m).stale }) (all-kept fmt s m (fresh (head_map s) m))

-- ---- checkpoints
named-names : (es : List (NodeName × (PlainNode × ℕ))) → map (λ (n : NamedNode). n.0) (map as_named es) ≡ map (λ e. e.0) es
named-names [] = refl
named-names (e ∷ es) = ap (λ (ns : List NodeName). e.0 ∷ ns) (named-names es)

pub nodes-are_rising : (ns : List NamedNode) → IsTrue (are_rising (map (λ (n : NamedNode). n.0) (nodes_by_name ns)))
nodes-are_rising ns = ap are_rising (named-names (by_name (map apart ns))) ∙ sorted-are_rising (by_name (map apart ns)) (sorted-by_name (map apart ns))

pub checkpoint-spelled : CheckpointsAreSpelled
checkpoint-spelled fmt generation s sound keys short first last hashes few =
    let moved = nodes-moved fmt s sound in
    let valid = nodes-valid fmt s sound keys short in
    record {
      generation_first = first;
      generation_last = last;
      base_low = sound.base_low;
      floor_low = sound.floor_low;
      head_last = let h = sound.head_last in omega arith;
      root_each = length-reverse s.roots ∙ sound.root_each;
      hashes = All-reverse IsKey s.roots hashes;
      nodes_fit = All-each_element _ (nodes_by_name s.nodes) (λ n has. All-of (λ (k : NamedNode). IsName k.0 × IsNode fmt k.1 × (k.2 < 2 ^ 64)) s.nodes n valid (Contains-permutation (nodes_by_name s.nodes) s.nodes n (IsPermutation-sym s.nodes (nodes_by_name s.nodes) moved) has));
      count = subst (λ (k : ℕ). k < 2 ^ 64) (sym (length_permutation s.nodes (nodes_by_name s.nodes) moved)) few;
      names_rise = nodes-are_rising s.nodes;
    }
