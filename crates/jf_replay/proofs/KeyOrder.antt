-- Lists in the order of their keys, which are put one by one, from the last element to the first.
use Rattle.std.proofs.Common.{◌≡◌, ℕ, ◌-◌, ◌<◌, ◌≤◌, List, ◌∷◌, ◌^◌, map, length, drop, get_or, Some, sym, ap, ◌∙◌, subst}
use Rattle.std.specs.BTreeMap.{insert_entry}
use Rattle.std.specs.Cmp.Lexicographic.{nat_list_cmp_total}
use Rattle.std.specs.FinMap.{put, entries, from_entries}
use Rattle.std.specs.FinMap as fin
use Rattle.std.specs.FinMap.Entries.{same_entries}
use Rattle.std.specs.List.{cons_option, AllByRecursion}
use Rattle.jf_path.specs.Keys.{key_cmp}
use Rattle.jf_path.specs.declared.node.PlainNode.{PlainNode}
use Rattle.jf_path.specs.declared.node.PlainNode.TheVariants as node
use Rattle.jf_hash.proofs.KeyOrder.{same_key-exact}
use Rattle.jf_hash.specs.Maps.{Map}
use Rattle.jf_split.specs.KeyOrder.{in_key_order}
use Rattle.jf_split.proofs.KeyOrderLaws.{sorted-in_key_order, find-in_key_order}
use Rattle.jf_standing.specs.Named.{NamedNode, leaf_entry, leaf_entries}
use Rattle.jf_replay.specs.Floors.{path_and_version, entries_in}
use Rattle.std.proofs.lemmas.Option.{same_Some}
use Rattle.jf_path.specs.Limits.{max_value}
use Rattle.jf_path.specs.Names.{IsName}
use Rattle.jf_path.proofs.ListLaws.{All-of}
use Rattle.jf_codec.specs.Spelling.{IsNode}
use Rattle.jf_codec.specs.declared.format.Format.{Format}
use Rattle.jf_standing.proofs.Leaves.{leaf-which}
use Rattle.jf_standing.proofs.Lists.{All-each_element}
use Rattle.jf_standing.proofs.Ordered.{find-Contains, Contains-find}
use Rattle.jf_replay.proofs.Puts.{drop-up, insert_entry-is_put}

-- the entries of the map of a list are the list in the order of its keys
pub entries-in_key_order : (es : List (List ℕ × List ℕ)) → entries (from_entries {R = key_cmp} es) ≡ in_key_order es
entries-in_key_order es =
    let m : Map = from_entries es in
    same_entries key_cmp nat_list_cmp_total same_key-exact (entries m) (in_key_order es) (fin.entries_sorted m) (sorted-in_key_order es)
    (λ q. sym (fin.get-entries m q) ∙ fin.get-from_entries nat_list_cmp_total es q ∙ sym (find-in_key_order q es))

-- ---- steps from the last node of a list to the first
leaf_first : (n : NamedNode) (ns : List NamedNode) (key value : List ℕ) → n.1 ≡ node.Leaf key value → entries_in (n ∷ ns) ≡ put key_cmp key value (entries_in ns)
leaf_first n ns key value is = ap (λ (x : PlainNode). in_key_order (cons_option (leaf_entry x) (leaf_entries ns))) is

-- the leaf at a place is put over those after it
pub leaf_put_at : (ns : List NamedNode) (i : ℕ) (x : NamedNode) (key value : List ℕ) (old new : List (List ℕ × List ℕ)) → 0 < i → i ≤ length ns → (get_or ns (i - 1) x).1 ≡ node.Leaf key value
    → old ≡ entries_in (drop i ns) → new ≡ insert_entry key_cmp old key value → new ≡ entries_in (drop (i - 1) ns)
leaf_put_at ns i x key value old new some low is was now =
    now ∙ insert_entry-is_put key value old ∙ ap (put key_cmp key value) was ∙ sym (leaf_first (get_or ns (i - 1) x) (drop i ns) key value is) ∙ ap entries_in (sym (drop-up ns i x some low))

-- the version of the node at a place is put over those after it
pub version_put_at : (ns : List NamedNode) (i : ℕ) (x : NamedNode) (old new : List (List ℕ × ℕ)) → 0 < i → i ≤ length ns → x ≡ get_or ns (i - 1) x
    → old ≡ in_key_order (map path_and_version (drop i ns)) → new ≡ insert_entry key_cmp old x.0.path x.0.version → new ≡ in_key_order (map path_and_version (drop (i - 1) ns))
version_put_at ns i x old new some low at was now =
    now ∙ insert_entry-is_put x.0.path x.0.version old ∙ ap (put key_cmp x.0.path x.0.version) was
    ∙ ap (λ xs. in_key_order (map path_and_version xs)) (ap (λ y. y ∷ drop i ns) at ∙ sym (drop-up ns i x some low))

-- ---- values
-- the values of leaves that have a spelling are short
pub short-in_key_order : (fmt : Format) (ns : List NamedNode) → AllByRecursion (λ n. IsName n.0 × IsNode fmt n.1 × (n.2 < 2 ^ 64)) ns → AllByRecursion (λ e. length e.1 ≤ max_value) (entries_in ns)
short-in_key_order fmt ns spelled = All-each_element _ (entries_in ns) (λ e has.
    let found = sym (find-in_key_order e.0 (leaf_entries ns)) ∙ Contains-find key_cmp nat_list_cmp_total same_key-exact (entries_in ns) e (sorted-in_key_order (leaf_entries ns)) has in
    let n = leaf-which ns e (find-Contains key_cmp nat_list_cmp_total same_key-exact e.0 e.1 (leaf_entries ns) found) in
    leaf_short n.0.1 e (All-of _ ns n.0 spelled n.1).1 n.2)
  where
    leaf_short : (x : PlainNode) (e : List ℕ × List ℕ) → IsNode fmt x → leaf_entry x ≡ Some e → length e.1 ≤ max_value
    leaf_short node.Null e is leaf = absurd (cc)
    leaf_short (node.Leaf key value) e is leaf = subst (λ (f : List ℕ × List ℕ). length f.1 ≤ max_value) (same_Some (key, value) e leaf) is.2
    leaf_short (node.Inner cs) e is leaf = absurd (cc)
