-- The leaves of a landing that has a spelling, and the changes that are read off it.
use Rattle.std.specs.Prelude.{IfSome}
use Rattle.std.proofs.Common.{◌≡◌, ℕ, ◌+◌, ◌<◌, ◌≤◌, List, [], ◌∷◌, ◌++◌, length, map, take, get_or, Contains, Some, None, Option, true, true≢false, refl, sym, ap, ◌∙◌, subst}
use Rattle.std.specs.FinMap.{entries}
use Rattle.std.specs.List.{AllByRecursion}
use Rattle.std.specs.Option.{is_some}
use Rattle.jf_path.specs.Keys.{IsKey, IsBytes}
use Rattle.jf_path.specs.Limits.{max_value}
use Rattle.jf_path.specs.Names.{IsName}
use Rattle.jf_path.specs.declared.name.NodeName.{NodeName}
use Rattle.jf_path.specs.declared.node.PlainNode.{PlainNode}
use Rattle.jf_path.specs.declared.node.PlainNode.TheVariants as node
use Rattle.jf_path.proofs.ListLaws.{All-append, All-of, Contains-first}
use Rattle.jf_hash.specs.Maps.{Map, Batch, IsMap, IsBatch}
use Rattle.jf_hash.specs.Slots.{Part}
use Rattle.jf_model.specs.Nodes.{is_node}
use Rattle.jf_codec.specs.Spelling.{IsNode}
use Rattle.jf_codec.specs.declared.format.Format.{Format}
use Rattle.jf_payload.specs.declared.records.Commit.{Commit}
use Rattle.jf_payload.specs.Spelling.{IsCommit}
use Rattle.jf_standing.specs.Named.{not_stale, AreEntries, leaf_entries}
use Rattle.jf_standing.specs.Standing.{Standing, unmarked_node}
use Rattle.jf_standing.specs.Landing.{fresh_leaves, IsInOrder}
use Rattle.jf_standing.proofs.Batches.{puts_of, removals_of, by_key-IsBatch, by_key-Contains}
use Rattle.jf_standing.proofs.LeafPaths.{under-Contains}
use Rattle.jf_standing.proofs.Lists.{All-each_element}
use Rattle.jf_node.specs.SnapshotValue.{SnapshotValue}
use Rattle.jf_node.specs.Snapshots.{IsSnapshot, snapshot_version_at}
use Rattle.jf_update.specs.Outcomes.{AreShort}
use Rattle.jf_diff.specs.Landings.{version_or}
use Rattle.jf_dir.specs.Directories.{IsSnapshotAt}
use Rattle.jf_landing.specs.Scanned.{leaf_alone}
use Rattle.jf_standing.proofs.Rounds.{one_more_read}
use Rattle.jf_landing.proofs.Rounds.{alone_at}
use Rattle.jf_landing.proofs.Whole.{entries-fresh}
use Rattle.jf_replay.specs.Changes.{changes_by, leaves_at, IsNameIn}
use Rattle.jf_replay.specs.Next.{IsNameAtHead}
use Rattle.jf_replay.proofs.Read.{leaves_at-which}

-- an entry with a key, and with a value of at most 4,096 bytes
abbrev IsShortEntry : List ℕ × List ℕ → Type 0
IsShortEntry e = IsKey e.0 × IsBytes e.1 × (length e.1 ≤ max_value)

short_leaves : (fmt : Format) (xs : List (NodeName × PlainNode)) → AllByRecursion (λ x. IsName x.0 × IsNode fmt x.1) xs → AllByRecursion IsShortEntry (leaf_entries (map unmarked_node xs))
short_leaves fmt [] h = tt
short_leaves fmt (x ∷ xs) h = at x.1 h.0.1 (short_leaves fmt xs h.1)
  where
    at : (n : PlainNode) → IsNode fmt n → AllByRecursion IsShortEntry (leaf_entries (map unmarked_node xs)) → AllByRecursion IsShortEntry (leaf_entries ((x.0, n, not_stale) ∷ map unmarked_node xs))
    at node.Null is rest = rest
    at (node.Leaf key value) is rest = (is, rest)
    at (node.Inner cs) is rest = rest

-- ---- leaves that were read off nodes
-- a node that is no leaf has no entry
pub no-leaf : (n : PlainNode) → ((key value : List ℕ) → n ≡ node.Leaf key value → ⊥) → leaf_alone n ≡ []
no-leaf node.Null none = refl
no-leaf (node.Leaf key value) none = absurd (none key value refl)
no-leaf (node.Inner cs) none = refl

-- the leaves among one more node
pub leaf-more : (nodes : List (NodeName × PlainNode)) (i : ℕ) (x : NodeName × PlainNode) (so_far more : Part) → i < length nodes → x ≡ get_or nodes i x → so_far ≡ leaf_entries (map unmarked_node (take i nodes)) → more ≡ so_far ++ leaf_alone x.1
    → more ≡ leaf_entries (map unmarked_node (take (i + 1) nodes))
leaf-more nodes i x so_far more lt at is e =
    one_more_read alone_at nodes x i so_far (is ∙ sym (entries-fresh (take i nodes))) lt more (e ∙ ap (λ (y : NodeName × PlainNode). so_far ++ leaf_alone y.1) at) ∙ entries-fresh (take (i + 1) nodes)

-- ---- a landing with a spelling
pub spelled-entries : (fmt : Format) (c : Commit) → IsCommit fmt c → AreEntries (fresh_leaves c)
spelled-entries fmt c is = All-each_element _ (fresh_leaves c) (λ e has. let at = All-of IsShortEntry (fresh_leaves c) e (short_leaves fmt c.fresh is.fresh) has in (at.0, at.1))

pub spelled-short : (fmt : Format) (c : Commit) → IsCommit fmt c → AllByRecursion (λ e. length e.1 ≤ max_value) (fresh_leaves c)
spelled-short fmt c is = All-each_element _ (fresh_leaves c) (λ e has. (All-of IsShortEntry (fresh_leaves c) e (short_leaves fmt c.fresh is.fresh) has).2)

pub spelled-IsInOrder : (fmt : Format) (c : Commit) → IsCommit fmt c → IsInOrder c
spelled-IsInOrder fmt c is = record { fresh = is.fresh_rise; stale = is.stale_rise }

-- ---- its changes
pub changes_by-IsBatch : (m : Map) (leaves : Part) (stale : List NodeName) → IsMap m → AreEntries leaves → IsBatch (changes_by m leaves stale)
changes_by-IsBatch m leaves stale sound own = by_key-IsBatch leaves (leaves_at m stale) own (All-each_element _ (leaves_at m stale) (λ e has.
    let name = leaves_at-which m stale e has in
    All-of (λ f. IsKey f.0 × IsBytes f.1) (entries m) e sound (under-Contains 0 name.0.path (entries m) e (subst (λ (es : List (List ℕ × List ℕ)). Contains es e) (sym name.2) (Contains-first e [])))))

pub changes_by-AreShort : (m : Map) (leaves : Part) (stale : List NodeName) → AllByRecursion (λ e. length e.1 ≤ max_value) leaves → AreShort (changes_by m leaves stale)
changes_by-AreShort m leaves stale short = All-each_element _ (changes_by m leaves stale) (λ e has. All-of IsShortChange words e (All-append IsShortChange (puts_of leaves) (removals_of (leaves_at m stale)) (puts leaves short) (removals (leaves_at m stale))) (by_key-Contains words e has))
  where
    words : Batch
    words = puts_of leaves ++ removals_of (leaves_at m stale)

    IsShortChange : List ℕ × Option (List ℕ) → Type 0
    IsShortChange e = IfSome e.1 (λ v. length v ≤ max_value)

    puts : (fs : List (List ℕ × List ℕ)) → AllByRecursion (λ e. length e.1 ≤ max_value) fs → AllByRecursion IsShortChange (puts_of fs)
    puts [] h = tt
    puts (e ∷ fs) h = (h.0, puts fs h.1)

    removals : (ss : List (List ℕ × List ℕ)) → AllByRecursion IsShortChange (removals_of ss)
    removals [] = tt
    removals (e ∷ ss) = (tt, removals ss)

-- ---- its stale names
-- the names of nodes of the head's map are names of nodes of the head's snapshot
pub names_in : (s : Standing) (x : SnapshotValue) (names : List NodeName) → IsSnapshotAt s s.head x → IsSnapshot x → AllByRecursion (IsNameAtHead s) names → AllByRecursion (IsNameIn x) names
names_in s x names at sound all = All-each_element (IsNameIn x) names (λ name has.
    let is = All-of (IsNameAtHead s) names name all has in
    some (snapshot_version_at name.path x) name.version
    (sound.versioned name.path ∙ ap (λ (m : Map). is_node 0 name.path (entries m)) at.map ∙ is.0)
    (at.versions name.path is.0 ∙ is.1))
  where
    some : (o : Option ℕ) (v : ℕ) → is_some o ≡ true → version_or o ≡ v → o ≡ Some v
    some None v there is = absurd (true≢false (sym there))
    some (Some w) v there is = ap (λ n. Some n) is
