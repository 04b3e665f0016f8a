-- Nodes as they were at an earlier version.
use Rattle.std.proofs.Common.{◌≡◌, ℕ, ◌<◌, ◌≤◌, Bool, true, false, cond, ◌&&◌, ◌==◌, nat_le, nat_lt, List, map, filter, refl, ap, ◌∙◌, arith}
use Rattle.std.proofs.lemmas.Bool.Decides.{nat_tests}
use Rattle.std.specs.List.{AllByRecursion}
use Rattle.jf_path.proofs.ListLaws.{All-of}
use Rattle.jf_path.proofs.FilterLaws.{filter-map, filter-same, filter-filter}
use Rattle.jf_standing.specs.Named.{NamedNode, not_stale, is_alive, is_written, is_stale, alive_nodes_at, written_nodes_at, stale_nodes_at}
use Rattle.jf_standing.proofs.Lists.{All-each_element}
use Rattle.jf_replay.specs.Cuts.{is_written_by, named_by, nodes_by}

-- ---- one node
alive_by : (v s x w : ℕ) → x ≤ w → w < not_stale → (nat_le v w && (nat_le v x && nat_lt x (cond (nat_le s w) s not_stale))) ≡ (nat_le v x && nat_lt x s)
alive_by v s x w low last = elim (nat_le s w) as (λ b. nat_le s w ≡ b → (nat_le v w && (nat_le v x && nat_lt x (cond b s not_stale))) ≡ (nat_le v x && nat_lt x s)) [
  | true ↦ λ is. grind (arith, nat_tests)
  | false ↦ λ is. grind (arith, nat_tests)
] refl

stale_by : (v s x w : ℕ) → v < s → x ≤ w → w < not_stale → (nat_le v w && (cond (nat_le s w) s not_stale == x)) ≡ (s == x)
stale_by v s x w before low last = elim (nat_le s w) as (λ b. nat_le s w ≡ b → (nat_le v w && (cond b s not_stale == x)) ≡ (s == x)) [
  | true ↦ λ is. grind (arith, nat_tests)
  | false ↦ λ is. grind (arith, nat_tests)
] refl

written_by : (v x w : ℕ) → x ≤ w → (nat_le v w && (v == x)) ≡ (v == x)
written_by v x w low = grind (arith, nat_tests)

-- a test that sees no later versions keeps the same nodes
pub filter-nodes_by : (test : NamedNode → Bool) (w : ℕ) (ns : List NamedNode) → AllByRecursion (λ n. (is_written_by w n && test (named_by w n)) ≡ test n) ns → filter test (nodes_by w ns) ≡ map (named_by w) (filter test ns)
filter-nodes_by test w ns same =
    filter-map test (named_by w) (filter (is_written_by w) ns)
    ∙ ap (map (named_by w)) (filter-filter (is_written_by w) (λ n. test (named_by w n)) ns ∙ filter-same (λ n. is_written_by w n && test (named_by w n)) test ns same)

module _ (w : ℕ) (ns : List NamedNode) (last : w < not_stale) (x : ℕ) (low : x ≤ w) where
  pub alive-nodes_by : alive_nodes_at x (nodes_by w ns) ≡ map (named_by w) (alive_nodes_at x ns)
  alive-nodes_by = filter-nodes_by (is_alive x) w ns (All-each_element _ ns (λ n has. alive_by n.0.version n.2 x w low last))

  pub written-nodes_by : written_nodes_at x (nodes_by w ns) ≡ map (named_by w) (written_nodes_at x ns)
  written-nodes_by = filter-nodes_by (is_written x) w ns (All-each_element _ ns (λ n has. written_by n.0.version x w low))

  pub stale-nodes_by : AllByRecursion (λ n. n.0.version < n.2) ns → stale_nodes_at x (nodes_by w ns) ≡ map (named_by w) (stale_nodes_at x ns)
  stale-nodes_by before = filter-nodes_by (is_stale x) w ns (All-each_element _ ns (λ n has. stale_by n.0.version n.2 x w (All-of (λ n. n.0.version < n.2) ns n before has) low last))
