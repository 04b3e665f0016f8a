-- Lists, landings, checkpoints and groups are read exactly as they are spelled.
use Rattle.std.proofs.Common.{◌-◌, [], ◌∷◌, refl, map, sym, ap, ◌∙◌, ℕ, ◌≡◌, ◌^◌, ◌<◌, Bool, true, List, length, ◌+◌, IsTrue, ◌++◌, arith, ◌≤◌}
use Rattle.std.proofs.lemmas.Bool.{and_from, leb-true, le-leb}
use Rattle.std.proofs.lemmas.List.{map-append}
use Rattle.std.specs.List.{AllByRecursion, flat_map}
use Rattle.jf_path.specs.Names.{are_rising, IsName}
use Rattle.jf_path.specs.declared.name.NodeName.{NodeName}
use Rattle.jf_path.specs.declared.node.PlainNode.{PlainNode}
use Rattle.jf_path.specs.Numbers.{eight_bytes}
use Rattle.jf_path.specs.Keys.{IsKey}
use Rattle.jf_path.proofs.BoolLaws.{left_true, right_true}
use Rattle.jf_codec.specs.Spelling.{IsNode, name_bytes, node_bytes}
use Rattle.jf_codec.specs.declared.format.Format.{Format}
use Rattle.jf_payload.specs.Reading.{fresh_rise, live_rise, any_hashes, Front, both_at, only_if, many_at, list_at, long_at, named_at, format_node_at, fresh_at, live_at, any, hash_at, commit_from, commit_at, is_group, group_at, Numbers, are_within, numbers_at, roots_at}
use Rattle.jf_payload.specs.Spelling.{are_consecutive, list_bytes, fresh_bytes, live_bytes, commit_bytes, IsCommit, IsGroup, IsCheckpoint}
use Rattle.jf_payload.specs.declared.records.Commit.{Commit}
use Rattle.jf_payload.proofs.Spells.{HoldsOfFronts, Spells, both_spells, only_spells, seen_spells, many_spells}
use Rattle.jf_payload.proofs.FieldSpells.{number_spells, name_spells, node_spells, hash_spells}

-- ---- tests that hold of fronts
pub are_rising-front : HoldsOfFronts are_rising
are_rising-front [] back e = refl
are_rising-front (a ∷ []) back e = refl
are_rising-front (a ∷ b ∷ front) back e = and_from _ _ (left_true _ _ e) (are_rising-front (b ∷ front) back (right_true _ _ e))

fresh-front : HoldsOfFronts fresh_rise
fresh-front front back e = are_rising-front (map (λ x. x.0) front) (map (λ x. x.0) back) (ap are_rising (sym (map-append (λ (x : NodeName × PlainNode). x.0) front back)) ∙ e)

live-front : HoldsOfFronts live_rise
live-front front back e = are_rising-front (map (λ x. x.0) front) (map (λ x. x.0) back) (ap are_rising (sym (map-append (λ (x : NodeName × PlainNode × ℕ). x.0) front back)) ∙ e)

hashes-front : HoldsOfFronts any_hashes
hashes-front front back e = refl

follow-front : HoldsOfFronts are_consecutive
follow-front [] back e = refl
follow-front (c ∷ []) back e = refl
follow-front (c ∷ d ∷ front) back e = and_from _ _ (left_true _ _ e) (follow-front (d ∷ front) back (right_true _ _ e))

-- ---- lists
-- a list that was read: its length is within bounds, its items are sound, and they pass the test
pub record IsList {X : Type 0} (within : ℕ → Bool) (test : List X → Bool) (I : X → Type 0) (xs : List X) : Type 0 where
  pub count : length xs < 2 ^ 64
  pub inside : within (length xs) ≡ true
  pub all : AllByRecursion I xs
  pub passed : test xs ≡ true

pub list_spells : {X : Type 0} (s : X → List ℕ) (I : X → Type 0) (o : Front X) (within : ℕ → Bool) (test : List X → Bool) → Spells s I o → test [] ≡ true → HoldsOfFronts test
    → Spells (list_bytes s) (IsList within test I) (list_at within test o)
list_spells {X} s I o within test one none fronts =
    let counts = only_spells eight_bytes (λ n. n < 2 ^ 64) long_at within number_spells in
    let items : (n : ℕ) → Spells (flat_map s) (λ xs. (length xs ≡ n) × (AllByRecursion I xs × IsTrue (test xs))) (many_at test o n []) = many_spells s I o test one none fronts in
    let both = both_spells eight_bytes (λ n. (n < 2 ^ 64) × IsTrue (within n)) (only_if within long_at) (flat_map s) (λ n xs. (length xs ≡ n) × (AllByRecursion I xs × IsTrue (test xs))) (λ n. many_at test o n []) counts (λ n is. items n) in
    seen_spells (λ (p : ℕ × List X). eight_bytes p.0 ++ flat_map s p.1) (λ (p : ℕ × List X). ((p.0 < 2 ^ 64) × IsTrue (within p.0)) × ((length p.1 ≡ p.0) × (AllByRecursion I p.1 × IsTrue (test p.1)))) (both_at (only_if within long_at) (λ n. many_at test o n []))
    (λ p. p.1) (λ xs. (length xs, xs)) (list_bytes s) (IsList within test I) both
    (λ p is. ap (λ (n : ℕ). (n, p.1)) is.1.0)
    (λ xs. refl) (λ xs. refl)
    (λ xs is. record { count = is.0.0; inside = is.0.1; all = is.1.1.0; passed = is.1.1.1 })
    (λ xs is. ((is.count, is.inside), (refl, (is.all, is.passed))))

-- ---- names and nodes
IsFresh : Format → NodeName × PlainNode → Type 0
IsFresh fmt x = IsName x.0 × IsNode fmt x.1

fresh_spells : (fmt : Format) → Spells (fresh_bytes fmt) (λ x. IsName x.0 × IsNode fmt x.1) (fresh_at fmt)
unfolding fresh_at
fresh_spells fmt = both_spells name_bytes IsName named_at (node_bytes fmt) (λ name. IsNode fmt) (λ name. format_node_at fmt) name_spells (λ name is. node_spells fmt)

live_spells : (fmt : Format) → Spells (live_bytes fmt) (λ x. IsName x.0 × IsNode fmt x.1 × (x.2 < 2 ^ 64)) (live_at fmt)
unfolding live_at
live_spells fmt =
    let front = both_spells name_bytes IsName named_at (node_bytes fmt) (λ name. IsNode fmt) (λ name. format_node_at fmt) name_spells (λ name is. node_spells fmt) in
    let all = both_spells (λ (x : NodeName × PlainNode). name_bytes x.0 ++ node_bytes fmt x.1) (λ x. IsName x.0 × IsNode fmt x.1) (both_at named_at (λ name. format_node_at fmt)) eight_bytes (λ x n. n < 2 ^ 64) (λ x. long_at) front (λ x is. number_spells) in
    seen_spells (λ (p : (NodeName × PlainNode) × ℕ). (name_bytes p.0.0 ++ node_bytes fmt p.0.1) ++ eight_bytes p.1) (λ (p : (NodeName × PlainNode) × ℕ). (IsName p.0.0 × IsNode fmt p.0.1) × (p.1 < 2 ^ 64)) (both_at (both_at named_at (λ name. format_node_at fmt)) (λ x. long_at))
    (λ p. (p.0.0, p.0.1, p.1)) (λ x. ((x.0, x.1), x.2)) (live_bytes fmt) (λ x. IsName x.0 × IsNode fmt x.1 × (x.2 < 2 ^ 64)) all
    (λ p is. refl) (λ x. refl) (λ x. refl)
    (λ x is. (is.0.0, is.0.1, is.1))
    (λ x is. ((is.0, is.1), is.2))

-- ---- landings
abbrev Parts : Type 0
Parts = ((ℕ × List ℕ) × List (NodeName × PlainNode)) × List NodeName

abbrev parts_of : Commit → Parts
parts_of c = (((c.version, c.root), c.fresh), c.stale)

pub commit_spells : (fmt : Format) → Spells (commit_bytes fmt) (IsCommit fmt) (commit_at fmt)
unfolding commit_at commit_bytes
commit_spells fmt =
    let I : NodeName × PlainNode → Type 0 = λ x. IsName x.0 × IsNode fmt x.1 in
    let fresh = list_spells (fresh_bytes fmt) (λ x. IsName x.0 × IsNode fmt x.1) (fresh_at fmt) any fresh_rise (fresh_spells fmt) refl fresh-front in
    let stale = list_spells name_bytes IsName named_at any are_rising name_spells refl are_rising-front in
    let one = both_spells eight_bytes (λ n. n < 2 ^ 64) long_at (λ (h : List ℕ). h) (λ n. IsKey) (λ n. hash_at) number_spells (λ n is. hash_spells) in
    let two = both_spells (λ (p : ℕ × List ℕ). eight_bytes p.0 ++ p.1) (λ p. (p.0 < 2 ^ 64) × IsKey p.1) (both_at long_at (λ n. hash_at)) (list_bytes (fresh_bytes fmt)) (λ p. IsList any fresh_rise (λ x. IsName x.0 × IsNode fmt x.1)) (λ p. list_at any fresh_rise (fresh_at fmt)) one (λ p is. fresh) in
    let all = both_spells (λ (p : (ℕ × List ℕ) × List (NodeName × PlainNode)). (eight_bytes p.0.0 ++ p.0.1) ++ list_bytes (fresh_bytes fmt) p.1) (λ p. ((p.0.0 < 2 ^ 64) × IsKey p.0.1) × IsList any fresh_rise (λ x. IsName x.0 × IsNode fmt x.1) p.1)
    (both_at (both_at long_at (λ n. hash_at)) (λ p. list_at any fresh_rise (fresh_at fmt))) (list_bytes name_bytes) (λ p. IsList any are_rising IsName) (λ p. list_at any are_rising named_at) two (λ p is. stale)
    in
    seen_spells (λ (p : Parts). ((eight_bytes p.0.0.0 ++ p.0.0.1) ++ list_bytes (fresh_bytes fmt) p.0.1) ++ list_bytes name_bytes p.1) (λ (p : Parts). (((p.0.0.0 < 2 ^ 64) × IsKey p.0.0.1) × IsList any fresh_rise (λ x. IsName x.0 × IsNode fmt x.1) p.0.1) × IsList any are_rising IsName p.1)
    (both_at (both_at (both_at long_at (λ n. hash_at)) (λ p. list_at any fresh_rise (fresh_at fmt))) (λ p. list_at any are_rising named_at))
    commit_from parts_of (commit_bytes fmt) (IsCommit fmt) all
    (λ p is. refl) (λ c. refl) (λ c. refl)
    (λ c is. record { version = is.0.0.0; root = is.0.0.1; fresh = is.0.1.all; fresh_count = is.0.1.count; fresh_rise = is.0.1.passed; stale = is.1.all; stale_count = is.1.count; stale_rise = is.1.passed })
    (λ c is. (((is.version, is.root), record { count = is.fresh_count; inside = refl; all = is.fresh; passed = is.fresh_rise }), record { count = is.stale_count; inside = refl; all = is.stale; passed = is.stale_rise }))

to_group : (fmt : Format) (cs : List Commit) → IsList is_group are_consecutive (IsCommit fmt) cs → IsGroup fmt cs
to_group fmt cs is = record { many = leb-true _ _ (left_true _ _ is.inside); few = leb-true _ _ (right_true _ _ is.inside); commits = is.all; versions = is.passed }

from_group : (fmt : Format) (cs : List Commit) → IsGroup fmt cs → IsList is_group are_consecutive (IsCommit fmt) cs
from_group fmt cs is = record { count = let few = is.few in omega arith; inside = and_from _ _ (le-leb _ _ is.many) (le-leb _ _ is.few); all = is.commits; passed = is.versions }

pub group_spells : (fmt : Format) → Spells (list_bytes (commit_bytes fmt)) (IsGroup fmt) (group_at fmt)
unfolding group_at
group_spells fmt =
    let list = list_spells (commit_bytes fmt) (IsCommit fmt) (commit_at fmt) is_group are_consecutive (commit_spells fmt) refl follow-front in
    record {
      takes = λ bytes x bs e. let t = list.takes bytes x bs e in (t.0, to_group fmt x.0 t.1);
      again = λ cs rest is. list.again cs rest (from_group fmt cs is);
      fits = λ cs is. list.fits cs (from_group fmt cs is);
    }

-- ---- checkpoints
abbrev pub numbers_bytes : Numbers → List ℕ
numbers_bytes n = ((eight_bytes n.0.0.0 ++ eight_bytes n.0.0.1) ++ eight_bytes n.0.1) ++ eight_bytes n.1

-- the numbers of a checkpoint that was read
pub record AreNumbers (n : Numbers) : Type 0 where
  pub generation_first : 1 ≤ n.0.0.0
  pub generation_last : n.0.0.0 ≤ 2 ^ 64 - 2
  pub base_low : n.0.0.1 ≤ n.0.1
  pub floor_low : n.0.1 ≤ n.1
  pub head_last : n.1 ≤ 2 ^ 64 - 2

within_numbers : (n : Numbers) → are_within n ≡ true → AreNumbers n
within_numbers n e =
    let e1 = right_true _ _ e in
    let e2 = right_true _ _ e1 in
    let e3 = right_true _ _ e2 in
    record {
      generation_first = leb-true _ _ (left_true _ _ e);
      generation_last = leb-true _ _ (left_true _ _ e1);
      base_low = leb-true _ _ (left_true _ _ e2);
      floor_low = leb-true _ _ (left_true _ _ e3);
      head_last = leb-true _ _ (right_true _ _ e3);
    }

numbers_within : (n : Numbers) → AreNumbers n → are_within n ≡ true
numbers_within n is = and_from _ _ (le-leb _ _ is.generation_first) (and_from _ _ (le-leb _ _ is.generation_last) (and_from _ _ (le-leb _ _ is.base_low) (and_from _ _ (le-leb _ _ is.floor_low) (le-leb _ _ is.head_last))))

numbers_spells : Spells numbers_bytes AreNumbers numbers_at
unfolding numbers_at
numbers_spells =
    let N : ℕ → Type 0 = λ n. n < 2 ^ 64 in
    let one = both_spells eight_bytes (λ n. n < 2 ^ 64) long_at eight_bytes (λ x n. n < 2 ^ 64) (λ x. long_at) number_spells (λ x is. number_spells) in
    let two = both_spells (λ (p : ℕ × ℕ). eight_bytes p.0 ++ eight_bytes p.1) (λ p. (p.0 < 2 ^ 64) × (p.1 < 2 ^ 64)) (both_at long_at (λ x. long_at)) eight_bytes (λ x n. n < 2 ^ 64) (λ x. long_at) one (λ x is. number_spells) in
    let three = both_spells (λ (p : (ℕ × ℕ) × ℕ). (eight_bytes p.0.0 ++ eight_bytes p.0.1) ++ eight_bytes p.1) (λ p. ((p.0.0 < 2 ^ 64) × (p.0.1 < 2 ^ 64)) × (p.1 < 2 ^ 64)) (both_at (both_at long_at (λ x. long_at)) (λ x. long_at)) eight_bytes (λ x n. n < 2 ^ 64) (λ x. long_at) two (λ x is. number_spells) in
    let all = only_spells numbers_bytes (λ n. (((n.0.0.0 < 2 ^ 64) × (n.0.0.1 < 2 ^ 64)) × (n.0.1 < 2 ^ 64)) × (n.1 < 2 ^ 64)) (both_at (both_at (both_at long_at (λ x. long_at)) (λ x. long_at)) (λ x. long_at)) are_within three in
    record {
      takes = λ bytes x bs e. let t = all.takes bytes x bs e in (t.0, within_numbers x.0 t.1.1);
      again = λ n rest is. all.again n rest (below n is);
      fits = λ n is. all.fits n (below n is);
    }
  where
    below : (n : Numbers) → AreNumbers n → ((((n.0.0.0 < 2 ^ 64) × (n.0.0.1 < 2 ^ 64)) × (n.0.1 < 2 ^ 64)) × (n.1 < 2 ^ 64)) × IsTrue (are_within n)
    below n is =
        let g = is.generation_last in
        let b = is.base_low in
        let f = is.floor_low in
        let h = is.head_last in
        ((((omega arith, omega arith), omega arith), omega arith), numbers_within n is)

-- the parts of a checkpoint that was read, and what holds of each
abbrev pub Whole : Type 0
Whole = (Numbers × List (List ℕ)) × List (NodeName × PlainNode × ℕ)

abbrev pub whole_bytes : Format → Whole → List ℕ
whole_bytes fmt p = (numbers_bytes p.0.0 ++ flat_map (λ h. h) p.0.1) ++ list_bytes (live_bytes fmt) p.1

abbrev pub IsWholeCheckpoint : Format → Whole → Type 0
IsWholeCheckpoint fmt p = (AreNumbers p.0.0 × ((length p.0.1 ≡ p.0.0.1 - p.0.0.0.0.1 + 1) × (AllByRecursion IsKey p.0.1 × IsTrue (any_hashes p.0.1)))) × IsList any live_rise (λ x. IsName x.0 × IsNode fmt x.1 × (x.2 < 2 ^ 64)) p.1

abbrev pub whole_at : Format → Front Whole
whole_at fmt = both_at (both_at numbers_at roots_at) (λ p. list_at any live_rise (live_at fmt))

pub whole_spells : (fmt : Format) → Spells (whole_bytes fmt) (IsWholeCheckpoint fmt) (whole_at fmt)
whole_spells fmt =
    let nodes = list_spells (live_bytes fmt) (λ x. IsName x.0 × IsNode fmt x.1 × (x.2 < 2 ^ 64)) (live_at fmt) any live_rise (live_spells fmt) refl live-front in
    let roots : (n : ℕ) → Spells (flat_map (λ h. h)) (λ hs. (length hs ≡ n) × (AllByRecursion IsKey hs × IsTrue (any_hashes hs))) (many_at any_hashes hash_at n []) = many_spells (λ (h : List ℕ). h) IsKey hash_at any_hashes hash_spells refl hashes-front in
    let front = both_spells numbers_bytes AreNumbers numbers_at (flat_map (λ (h : List ℕ). h)) (λ n hs. (length hs ≡ n.1 - n.0.0.1 + 1) × (AllByRecursion IsKey hs × IsTrue (any_hashes hs))) roots_at numbers_spells (λ n is. roots (n.1 - n.0.0.1 + 1)) in
    both_spells (λ (p : Numbers × List (List ℕ)). numbers_bytes p.0 ++ flat_map (λ h. h) p.1) (λ p. AreNumbers p.0 × ((length p.1 ≡ p.0.1 - p.0.0.0.1 + 1) × (AllByRecursion IsKey p.1 × IsTrue (any_hashes p.1)))) (both_at numbers_at roots_at)
    (list_bytes (live_bytes fmt)) (λ p. IsList any live_rise (λ x. IsName x.0 × IsNode fmt x.1 × (x.2 < 2 ^ 64))) (λ p. list_at any live_rise (live_at fmt)) front (λ p is. nodes)

pub whole_checkpoint : (fmt : Format) (p : Whole) → IsWholeCheckpoint fmt p → IsCheckpoint fmt p.0.0.0.0.0 p.0.0.0.0.1 p.0.0.0.1 p.0.0.1 p.0.1 p.1
whole_checkpoint fmt p is = record {
  generation_first = is.0.0.generation_first;
  generation_last = is.0.0.generation_last;
  base_low = is.0.0.base_low;
  floor_low = is.0.0.floor_low;
  head_last = is.0.0.head_last;
  root_each = is.0.1.0;
  hashes = is.0.1.1.0;
  nodes_fit = is.1.all;
  count = is.1.count;
  names_rise = is.1.passed;
}

pub checkpoint_whole : (fmt : Format) (p : Whole) → IsCheckpoint fmt p.0.0.0.0.0 p.0.0.0.0.1 p.0.0.0.1 p.0.0.1 p.0.1 p.1 → IsWholeCheckpoint fmt p
checkpoint_whole fmt p is =
    ((record { generation_first = is.generation_first; generation_last = is.generation_last; base_low = is.base_low; floor_low = is.floor_low; head_last = is.head_last }, (is.root_each, (is.hashes, refl))), record { count = is.count; inside = refl; all = is.nodes_fit; passed = is.names_rise })
