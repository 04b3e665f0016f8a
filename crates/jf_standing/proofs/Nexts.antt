-- The function `next_standing` gives exactly what a record makes.
use Rattle.std.proofs.Common.{map, sym, ap, ◌∙◌, ℕ, nat_lt, ◌≡◌, ◌↔◌, ◌+◌, ◌^◌, true, ◌&&◌, nat_le, ap₂, false, cond, List, [], ◌∷◌, Some, None, refl, subst}
use Rattle.std.proofs.lemmas.Option.{same_Some}
use Rattle.std.specs.FinMap.{len}
use Rattle.std.specs.List.{AllByRecursion}
use Rattle.jf_path.specs.Keys.{IsKey, IsBytes}
use Rattle.jf_path.proofs.ListLaws.{All-of, Contains-map}
use Rattle.jf_path.proofs.FilterLaws.{filter-Contains}
use Rattle.jf_path.proofs.BoolLaws.{left_true, right_true}
use Rattle.jf_path.proofs.NumberLaws.{le_tells, le_so, lt_tells, lt_so}
use Rattle.jf_hash.specs.Maps.{Map, apply}
use Rattle.jf_codec.specs.declared.format.Format.{Format}
use Rattle.jf_payload.specs.declared.records.Commit.{Commit}
use Rattle.jf_payload.specs.declared.records.Record.{Record}
use Rattle.jf_payload.specs.declared.records.Record.TheVariants as «record»
use Rattle.jf_standing.specs.Named.{NamedNode, leaf_entry, leaf_entries, AreEntries, not_stale}
use Rattle.jf_standing.specs.Standing.{Standing, unmarked_node, with_commit, with_floor}
use Rattle.jf_standing.specs.Landing.{fresh_leaves, head_map, batch_of, landing_of}
use Rattle.jf_standing.specs.Sound.{IsSound}
use Rattle.jf_standing.specs.Taking.{Continues, TakesCommits, TakesFloor, TakesRecord}
use Rattle.jf_standing.specs.Next.{is_next, IsReadCommit, next_by_commits, next_by_floor, next_standing, IsReadRecord}
use Rattle.jf_standing.proofs.Lists.{All-each_element}
use Rattle.jf_standing.proofs.Marks.{nodes_after_commit, marked-node}
use Rattle.jf_standing.proofs.Found.{nodes_after_commit-cases}
use Rattle.jf_standing.proofs.Leaves.{leaf-which, leaf-so}
use Rattle.jf_standing.proofs.Decided.{decided}
use Rattle.jf_standing.proofs.Same.{commit-exact}
use Rattle.jf_standing.proofs.Floors.{floored}

-- after a landing keys still have 32 bytes and values still are bytes
pub entries-nodes_after_commit : (s : Standing) (c : Commit) → AreEntries (leaf_entries s.nodes) → AreEntries (fresh_leaves c) → AreEntries (leaf_entries (with_commit c s).nodes)
entries-nodes_after_commit s c keys own_keys = All-each_element _ (leaf_entries (nodes_after_commit c s.nodes)) (λ e has.
    let n = leaf-which (nodes_after_commit c s.nodes) e has in
    nodes_after_commit-cases c s.nodes n.0 n.1
    (λ m stood same. All-of (λ f. IsKey f.0 × IsBytes f.1) (leaf_entries s.nodes) e keys (leaf-so s.nodes m e stood (ap leaf_entry (sym (marked-node c m) ∙ ap (λ (z : NamedNode). z.1) same) ∙ n.2)))
    (λ x own same. All-of (λ f. IsKey f.0 × IsBytes f.1) (fresh_leaves c) e own_keys (leaf-so (map unmarked_node c.fresh) (unmarked_node x) e (Contains-map unmarked_node c.fresh x own) (ap (λ (z : NamedNode). leaf_entry z.1) same ∙ n.2))))

-- under a later floor keys still have 32 bytes and values still are bytes
pub entries-floored : (s : Standing) (floor : ℕ) → AreEntries (leaf_entries s.nodes) → AreEntries (leaf_entries (with_floor floor s).nodes)
entries-floored s floor keys = All-each_element _ (leaf_entries (with_floor floor s).nodes) (λ e has.
    let n = leaf-which (with_floor floor s).nodes e has in
    All-of (λ f. IsKey f.0 × IsBytes f.1) (leaf_entries s.nodes) e keys (leaf-so s.nodes n.0 e (filter-Contains (λ (m : NamedNode). nat_lt floor m.2) s.nodes n.0 n.1) n.2))

next-decided : (fmt : Format) (s : Standing) (c : Commit) → IsSound fmt s → AreEntries (leaf_entries s.nodes) → IsReadCommit c → (is_next fmt s c ≡ true) ↔ (Continues s c × IsSound fmt (with_commit c s))
next-decided fmt s c sound keys read =
    let m : Map = apply (head_map s) (batch_of s c) in
    let by = decided fmt s c sound keys read.1 read.0 in (
      λ is.
          let rest = right_true (nat_lt (s.head + 1) not_stale) _ is in
          by.1 (lt_tells (s.head + 1) not_stale (left_true _ _ is), le_tells (len m) (2 ^ 63) (left_true _ _ rest), (commit-exact c (landing_of fmt s m)).0 (right_true (nat_le (len m) (2 ^ 63)) _ rest)),
      λ is.
          let all = by.0 is in
          ap₂ (λ a b. a && b) (lt_so (s.head + 1) not_stale all.0) (ap₂ (λ a b. a && b) (le_so (len m) (2 ^ 63) all.1) ((commit-exact c (landing_of fmt s m)).1 all.2)),
    )

commits-taken : (fmt : Format) (cs : List Commit) (s s' : Standing) → IsSound fmt s → AreEntries (leaf_entries s.nodes) → AllByRecursion IsReadCommit cs → (next_by_commits fmt s cs ≡ Some s') ↔ TakesCommits fmt s cs s'
commits-taken fmt [] s s' sound keys read = (λ is. sym (same_Some s s' is), λ is. ap Some (sym is))
commits-taken fmt (c ∷ cs) s s' sound keys read =
    let by = next-decided fmt s c sound keys read.0 in (
      λ is. elim (is_next fmt s c) as (λ b. is_next fmt s c ≡ b → cond b (next_by_commits fmt (with_commit c s) cs) None ≡ Some s' → TakesCommits fmt s (c ∷ cs) s') [
        | true ↦ λ yes_it rest. let both = by.0 yes_it in (both.0, both.1, (commits-taken fmt cs (with_commit c s) s' both.1 (entries-nodes_after_commit s c keys read.0.1) read.1).0 rest)
        | false ↦ λ no_it rest. absurd (none rest)
      ] refl is,
      λ is. ap (λ b. cond b (next_by_commits fmt (with_commit c s) cs) None) (by.1 (is.0, is.1)) ∙ (commits-taken fmt cs (with_commit c s) s' is.1 (entries-nodes_after_commit s c keys read.0.1) read.1).1 is.2,
    )
  where
    none : None ≡ Some s' → ⊥
    none is = absurd (cc)

floor-taken : (fmt : Format) (s s' : Standing) (floor : ℕ) → IsSound fmt s → (next_by_floor s floor ≡ Some s') ↔ TakesFloor fmt s floor s'
floor-taken fmt s s' floor sound = (
  λ is. elim (nat_le s.floor floor && nat_le floor s.head) as (λ b. (nat_le s.floor floor && nat_le floor s.head) ≡ b → cond b (Some (with_floor floor s)) None ≡ Some s' → TakesFloor fmt s floor s') [
    | true ↦ λ within rest.
        let low = le_tells s.floor floor (left_true _ _ within) in
        let high = le_tells floor s.head (right_true (nat_le s.floor floor) _ within) in
        let same = same_Some (with_floor floor s) s' rest in
        (low, high, subst (IsSound fmt) same (floored fmt s floor sound low high), sym same)
    | false ↦ λ out rest. absurd (none rest)
  ] refl is,
  λ is. ap (λ b. cond b (Some (with_floor floor s)) None) (ap₂ (λ a b. a && b) (le_so s.floor floor is.0) (le_so floor s.head is.1)) ∙ ap Some (sym is.3),
)
  where
    none : None ≡ Some s' → ⊥
    none is = absurd (cc)

pub next-taken : (fmt : Format) (s s' : Standing) (r : Record) → IsSound fmt s → AreEntries (leaf_entries s.nodes) → IsReadRecord r → (next_standing fmt s r ≡ Some s') ↔ TakesRecord fmt s r s'
next-taken fmt s s' («record».Floor floor) sound keys read = floor-taken fmt s s' floor sound
next-taken fmt s s' («record».NodeCommit c) sound keys read = commits-taken fmt (c ∷ []) s s' sound keys (read, tt)
next-taken fmt s s' («record».Checkpoint generation base floor head roots nodes) sound keys read = (λ is. absurd (cc), λ is. absurd is)
next-taken fmt s s' («record».Group cs) sound keys read = commits-taken fmt cs s s' sound keys read
