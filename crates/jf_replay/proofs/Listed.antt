-- The landing of a version, as it is read off the nodes of a checkpoint.
use Rattle.std.specs.Prelude.{IsTrue, slice_index_or}
use Rattle.std.proofs.Common.{◌≡◌, ℕ, ◌+◌, ◌-◌, ◌<◌, ◌≤◌, true, false, List, [], ◌∷◌, map, length, ◌^◌, refl, sym, ap, ap₂, ◌∙◌, subst, arith, reverse, get_or, cond, ◌==◌, if◌then◌else◌, true≢false}
use Rattle.std.specs.List.{AllByRecursion, list_all}
use Rattle.std.proofs.lemmas.List.{get_or-reverse, length-reverse, length-map}
use Rattle.jf_path.specs.Keys.{IsKey}
use Rattle.jf_path.specs.Names.{IsName, are_rising}
use Rattle.jf_path.specs.declared.name.NodeName.{NodeName}
use Rattle.jf_path.specs.declared.node.PlainNode.{PlainNode}
use Rattle.jf_path.proofs.ListLaws.{All-of, All-by_place}
use Rattle.jf_path.proofs.FilterLaws.{filter-Contains, length-filter_le}
use Rattle.jf_path.proofs.NumberLaws.{other_number}
use Rattle.jf_codec.specs.Spelling.{IsNode}
use Rattle.jf_codec.specs.declared.format.Format.{Format}
use Rattle.jf_payload.specs.Spelling.{IsCommit}
use Rattle.jf_payload.specs.declared.records.Commit.{Commit}
use Rattle.jf_standing.specs.Named.{NamedNode, not_stale, is_written, is_stale, written_nodes_at, stale_nodes_at}
use Rattle.jf_standing.specs.Standing.{Standing, with_commit}
use Rattle.jf_standing.specs.Next.{IsReadStanding}
use Rattle.jf_standing.specs.Sound.{IsSound}
use Rattle.jf_standing.specs.Taking.{Continues}
use Rattle.jf_standing.proofs.Lists.{All-each_element, map-which}
use Rattle.jf_standing.proofs.Rising.{rising-filter}
use Rattle.jf_replay.specs.Cuts.{has_numbers, names_beside, landing_listed, landing_making, standing_by, standing_listed, without_since}
use Rattle.jf_replay.proofs.CutLands.{standing-landed, landing-continues, standing-head, sound-numbered}
use Rattle.jf_replay.proofs.CutSound.{sound-by}
use Rattle.jf_replay.proofs.Numbered.{IsNumbered, all-numbered, numbered-all}

-- what holds of each node when all nodes have a spelling
abbrev pub IsSpelled : Format → NamedNode → Type 0
IsSpelled fmt n = IsName n.0 × IsNode fmt n.1 × (n.2 < 2 ^ 64)

same_names : (ns : List NamedNode) → map (λ (x : NodeName × PlainNode). x.0) (map without_since ns) ≡ map (λ n. n.0) ns
same_names [] = refl
same_names (n ∷ ns) = ap (λ t. n.0 ∷ t) (same_names ns)

-- the landing of a version has a spelling if all nodes have
pub listed-spelled : (fmt : Format) (w : ℕ) (root : List ℕ) (ns : List NamedNode) → w < 2 ^ 64 → IsKey root → length ns < 2 ^ 64 → AllByRecursion (IsSpelled fmt) ns → IsTrue (are_rising (map (λ n. n.0) ns)) → IsCommit fmt (landing_listed w root ns)
listed-spelled fmt w root ns small key few spelled rises = record {
  version = small;
  root = key;
  fresh = All-each_element _ (map without_since (written_nodes_at w ns)) (λ x has.
      let n = map-which without_since (written_nodes_at w ns) x has in
      let is = All-of (IsSpelled fmt) ns n.0 spelled (filter-Contains (is_written w) ns n.0 n.1) in
      subst (λ (y : NodeName × PlainNode). IsName y.0 × IsNode fmt y.1) n.2 (is.0, is.1));
  fresh_count = omega (arith, length-map (written_nodes_at w ns) without_since, length-filter_le (is_written w) ns);
  fresh_rise = subst (λ xs. IsTrue (are_rising xs)) (sym (same_names (written_nodes_at w ns))) (rising-filter (is_written w) ns rises);
  stale = All-each_element _ (map (λ (n : NamedNode). n.0) (stale_nodes_at w ns)) (λ name has.
      let n = map-which (λ (n : NamedNode). n.0) (stale_nodes_at w ns) name has in
      subst IsName n.2 (All-of (IsSpelled fmt) ns n.0 spelled (filter-Contains (is_stale w) ns n.0 n.1)).0);
  stale_count = omega (arith, length-map (stale_nodes_at w ns) (λ n. n.0), length-filter_le (is_stale w) ns);
  stale_rise = rising-filter (is_stale w) ns rises;
}

-- ---- one version further
module _ (fmt : Format) (s : Standing) (read : IsReadStanding s) (numbered : list_all (has_numbers s.floor s.head) s.nodes ≡ true) (w : ℕ) (late : s.floor < w) (high : w ≤ s.head) (old : Standing) (is : old ≡ standing_by (w - 1) s) where
  all : AllByRecursion (IsNumbered s.floor s.head) s.nodes
  all = all-numbered s.floor s.head s.nodes numbered

  landed : with_commit (landing_making w s) old ≡ standing_by w s
  landed =
      let base = read.base_low in
      let each = read.root_each in
      ap (with_commit (landing_making w s)) is ∙ standing-landed s w late read.rises all high (omega arith)

  pub version-landed : (new : Standing) → new ≡ with_commit (landing_making w s) old → new ≡ standing_by w s
  version-landed new same = same ∙ landed

  -- if the landing isn't taken, the checkpoint isn't sound
  pub version-refused : (Continues old (landing_making w s) → IsSound fmt (with_commit (landing_making w s) old) → ⊥) → IsSound fmt s → ⊥
  version-refused refused sound =
      refused (subst (λ t. Continues t (landing_making w s)) (sym is) (landing-continues s w late read.rises all)) (subst (IsSound fmt) (sym landed) (sound-by fmt s sound w (omega arith) high))

-- ---- the roots, which are listed the other way round
pub root-listed : (roots : List (List ℕ)) (base head w : ℕ) → length (reverse roots) ≡ head - base + 1 → base ≤ w → w ≤ head → slice_index_or (reverse roots) (head - w) [] ≡ slice_index_or roots (w - base) []
root-listed roots base head w each low high =
    let long = length-reverse roots in
    get_or-reverse roots (head - w) [] (omega arith) ∙ ap (λ i. get_or roots i []) (let e : length roots - 1 - (head - w) ≡ w - base = omega arith in e)

-- what is read off the lists is the landing that made the version
pub is-making : (base floor head : ℕ) (roots : List (List ℕ)) (ns : List NamedNode) (w : ℕ) (c : Commit) (r : List ℕ) (names : List NodeName)
    → c ≡ record { version = w; root = r; fresh = map without_since (written_nodes_at w ns); stale = names } → r ≡ slice_index_or roots (w - base) [] → names ≡ map (λ n. n.0) (stale_nodes_at w ns)
    → length (reverse roots) ≡ head - base + 1 → base ≤ w → w ≤ head → c ≡ landing_making w (standing_listed base floor head roots ns)
is-making base floor head roots ns w c r names is root stale each low high =
    is ∙ ap₂ (λ x y. record { version = w; root = x; fresh = map without_since (written_nodes_at w ns); stale = y }) (root ∙ sym (root-listed roots base head w each low high)) stale

-- ---- the loop over the versions above the floor
module _ (base floor head : ℕ) (roots : List (List ℕ)) (ns : List NamedNode) (read : IsReadStanding (standing_listed base floor head roots ns)) (step : ℕ) (below : step < head - floor) where
  -- each step reads the landing of its version off the lists
  pub step-making : (c : Commit) (names : List NodeName) (es : List (ℕ × List NodeName))
      → c ≡ record { version = floor + 1 + step; root = slice_index_or roots (floor + 1 + step - base) []; fresh = map without_since (written_nodes_at (floor + 1 + step) ns); stale = names } → names ≡ names_beside (floor + 1 + step) es
      → ((w : ℕ) → floor + step < w → w < not_stale → names_beside w es ≡ map (λ n. n.0) (stale_nodes_at w ns)) → c ≡ landing_making (floor + 1 + step) (standing_listed base floor head roots ns)
  step-making c names es is taken beside =
      let low = read.base_low in
      let last = read.head_last in
      is-making base floor head roots ns (floor + 1 + step) c _ names is refl (taken ∙ beside (floor + 1 + step) (omega arith) (omega arith)) read.root_each (omega arith) (omega arith)

  before_step : (old : Standing) → old ≡ standing_by (floor + step) (standing_listed base floor head roots ns) → old ≡ standing_by (floor + 1 + step - 1) (standing_listed base floor head roots ns)
  before_step old is = is ∙ ap (λ w. standing_by w (standing_listed base floor head roots ns)) (let e : floor + step ≡ floor + 1 + step - 1 = omega arith in e)

  pub step-landed : (fmt : Format) → list_all (has_numbers floor head) ns ≡ true → (old new : Standing) (c : Commit) → c ≡ landing_making (floor + 1 + step) (standing_listed base floor head roots ns) → old ≡ standing_by (floor + step) (standing_listed base floor head roots ns) → new ≡ with_commit c old → new ≡ standing_by (floor + (step + 1)) (standing_listed base floor head roots ns)
  step-landed fmt numbered old new c is begun landed =
      version-landed fmt (standing_listed base floor head roots ns) read numbered (floor + 1 + step) (omega arith) (omega arith) old (before_step old begun) new (landed ∙ ap (λ d. with_commit d old) is)
      ∙ ap (λ w. standing_by w (standing_listed base floor head roots ns)) (let e : floor + 1 + step ≡ floor + (step + 1) = omega arith in e)

  pub step-refused : (fmt : Format) → list_all (has_numbers floor head) ns ≡ true → (old : Standing) (c : Commit) → c ≡ landing_making (floor + 1 + step) (standing_listed base floor head roots ns) → old ≡ standing_by (floor + step) (standing_listed base floor head roots ns)
      → (Continues old c → IsSound fmt (with_commit c old) → ⊥) → IsSound fmt (standing_listed base floor head roots ns) → ⊥
  step-refused fmt numbered old c is begun refused =
      version-refused fmt (standing_listed base floor head roots ns) read numbered (floor + 1 + step) (omega arith) (omega arith) old (before_step old begun) (subst (λ d. Continues old d → IsSound fmt (with_commit d old) → ⊥) is refused)

-- the names that are taken are gone, and no others
pub names-later : (ns : List NamedNode) (floor step : ℕ) (es fs : List (ℕ × List NodeName))
    → ((w : ℕ) → names_beside w fs ≡ (if w == floor + 1 + step then [] else names_beside w es)) → ((w : ℕ) → floor + step < w → w < not_stale → names_beside w es ≡ map (λ n. n.0) (stale_nodes_at w ns))
    → (w : ℕ) → floor + (step + 1) < w → w < not_stale → names_beside w fs ≡ map (λ (n : NamedNode). n.0) (stale_nodes_at w ns)
names-later ns floor step es fs taken beside w late last =
    taken w ∙ ap (λ b. cond b [] (names_beside w es)) (other_number w (floor + 1 + step) (λ is. omega arith)) ∙ beside w (omega arith) last

-- after the last step all versions have landed
pub all-landed : (base floor head : ℕ) (roots : List (List ℕ)) (ns : List NamedNode) (step : ℕ) → floor ≤ head → step ≡ head - floor → list_all (has_numbers floor head) ns ≡ true → (t : Standing) → t ≡ standing_by (floor + step) (standing_listed base floor head roots ns) → t ≡ standing_listed base floor head roots ns
all-landed base floor head roots ns step low is numbered t begun =
    begun
    ∙ ap (λ w. standing_by w (standing_listed base floor head roots ns)) (let e : floor + step ≡ head = omega arith in e)
    ∙ standing-head (standing_listed base floor head roots ns) (all-numbered floor head ns numbered)

-- the numbers of a sound checkpoint are in order
pub numbers-refused : (fmt : Format) (s : Standing) → list_all (has_numbers s.floor s.head) s.nodes ≡ false → IsSound fmt s → ⊥
numbers-refused fmt s failed sound = true≢false (sym (numbered-all s.floor s.head s.nodes (sound-numbered fmt s sound)) ∙ failed)

-- each step lands what has a spelling
pub step-spelled : (fmt : Format) (base floor head : ℕ) (roots : List (List ℕ)) (ns : List NamedNode) (read : IsReadStanding (standing_listed base floor head roots ns)) (step : ℕ) → step < head - floor → length ns < 2 ^ 64 → AllByRecursion (IsSpelled fmt) ns → IsCommit fmt (landing_making (floor + 1 + step) (standing_listed base floor head roots ns))
step-spelled fmt base floor head roots ns read step below few spelled =
    let last = read.head_last in
    let low = read.base_low in
    let each = read.root_each in
    listed-spelled fmt (floor + 1 + step) _ ns (omega arith) (All-by_place IsKey (reverse roots) read.hashes (head - (floor + 1 + step)) [] (omega arith)) few spelled read.rises
