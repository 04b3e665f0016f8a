-- The honest proof of what a map says of a name fits into a block.
use Rattle.std.proofs.Common.{ℕ, List, zero, suc, ◌-◌, ◌<◌, [], ◌∷◌, slice_index, arith, true, false, cond, Some, IfSome, Option, sym, subst, None, ◌+◌, map, ◌++◌, ◌≤◌, length}
use Rattle.std.specs.FinMap.{find, entries}
use Rattle.std.specs.FinMap as fin
use Rattle.std.specs.List.{AllByRecursion}
use Rattle.hex.specs.Hex.{IsBytes}
use Rattle.jf_path.specs.Keys.{IsKey, key_cmp, bit}
use Rattle.jf_path.proofs.FilterLaws.{All-filter}
use Rattle.jf_path.proofs.ListLaws.{All-weaker}
use Rattle.jf_hash.specs.Maps.{same_key, Map, IsMap}
use Rattle.jf_hash.specs.Roots.{Leaf, zeros, ones, leaf_of, root_below, leaves_root}
use Rattle.jf_hash.specs.Hashes.{V, K}
use Rattle.jf_hash.proofs.HashLaws.{V-IsKey}
use Rattle.jf_hash.proofs.RootLaws.{root_below-IsKey}
use Rattle.jf_evidence.specs.Proofs.{near, honest_below, far, leaves, honest, honest_from}
use Rattle.jf_blocks.specs.Laws.{IsHash, FitsProofBlock}
use Rattle.jf_client.specs.Laws.{FitsLine}

pub hash_of_key : (k : List ℕ) → IsKey k → IsHash k
hash_of_key k h = (h.long, h.bytes)

-- ---- values
pub byte-at : (v : List ℕ) (i : ℕ) → AllByRecursion (λ b. b < 256) v → slice_index v i < 256
byte-at [] i h = omega arith
byte-at (b ∷ v) zero h = h.0
byte-at (b ∷ v) (suc i) h = byte-at v i h.1

-- what holds of the values of entries holds of one that is found
found-value : (P : List ℕ → Type 0) (key : List ℕ) (es : List (List ℕ × List ℕ)) → AllByRecursion (λ e. P e.1) es → IfSome (find key_cmp key es) P
found-value P key [] h = tt
found-value P key (e ∷ es) h = elim (same_key key e.0) as (λ b. IfSome (cond b (Some e.1) (find key_cmp key es)) P) [ true ↦ h.0 | false ↦ found-value P key es h.1 ]

got-value : (P : List ℕ → Type 0) (m : Map) (key : List ℕ) → AllByRecursion (λ e. P e.1) (entries m) → IfSome (fin.get m key) P
got-value P m key all = subst (λ (o : Option (List ℕ)). IfSome o P) (sym (fin.get-entries m key)) (found-value P key (entries m) all)

pub value_bytes : (m : Map) (key : List ℕ) → IsMap m → IfSome (fin.get m key) IsBytes
value_bytes m key is_map = got-value IsBytes m key (All-weaker (λ e. IsKey e.0 × AllByRecursion (λ b. b < 256) e.1) (λ e. IsBytes e.1) (λ e h i. byte-at e.1 i h.1) (entries m) is_map)

pub value_short : (m : Map) (key : List ℕ) → AllByRecursion (λ e. length e.1 ≤ 4096) (entries m) → IfSome (fin.get m key) (λ v. length v ≤ 4096)
value_short m key short = got-value (λ v. length v ≤ 4096) m key short

pub both_of : (P Q : List ℕ → Type 0) (o : Option (List ℕ)) → IfSome o P → IfSome o Q → IfSome o (λ v. P v × Q v)
both_of P Q None p q = tt
both_of P Q (Some v) p q = (p, q)

-- ---- leaves
near_all : (P : Leaf → Type 0) (d : ℕ) (key : List ℕ) (es : List Leaf) → AllByRecursion P es → AllByRecursion P (near key d es)
near_all P d key es all = elim (bit key d) as (λ b. AllByRecursion P (cond b (ones d es) (zeros d es))) [ true ↦ All-filter P _ es all | false ↦ All-filter P _ es all ]

honest_leaf : (P : Leaf → Type 0) (n d : ℕ) (key : List ℕ) (es : List Leaf) → AllByRecursion P es → IfSome (honest_below n d key es).leaf P
unfolding honest_below
honest_leaf P n d key [] all = tt
honest_leaf P n d key (e ∷ []) all = all.0
honest_leaf P zero d key (e ∷ f ∷ es) all = tt
honest_leaf P (suc n) d key (e ∷ f ∷ es) all = honest_leaf P n (d + 1) key (near key d (e ∷ f ∷ es)) (near_all P d key (e ∷ f ∷ es) all)

-- the leaf's key and the hash of its value are hashes
abbrev pub AreHashes : Leaf → Type 0
AreHashes l = IsHash l.0 × IsHash l.1

pub leaves_hashes : (es : List (List ℕ × List ℕ)) → AllByRecursion (λ e. IsKey e.0 × AllByRecursion (λ b. b < 256) e.1) es → AllByRecursion AreHashes (map leaf_of es)
leaves_hashes [] all = tt
leaves_hashes (e ∷ es) all = ((hash_of_key e.0 all.0.0, hash_of_key (V e.1) (V-IsKey e.1)), leaves_hashes es all.1)

-- ---- siblings
pub leaves_root-IsHash : (d : ℕ) (es : List Leaf) → IsHash (leaves_root d es)
unfolding leaves_root
leaves_root-IsHash d es = hash_of_key (root_below (256 - d) d es) (root_below-IsKey (256 - d) d es)

one_more : (hs : List (List ℕ)) (h : List ℕ) → AllByRecursion IsHash hs → IsHash h → AllByRecursion IsHash (hs ++ h ∷ [])
one_more [] h all is = (is, tt)
one_more (k ∷ hs) h all is = (all.0, one_more hs h all.1 is)

honest_siblings : (n d : ℕ) (key : List ℕ) (es : List Leaf) → AllByRecursion IsHash (honest_below n d key es).siblings
unfolding honest_below
honest_siblings n d key [] = tt
honest_siblings n d key (e ∷ []) = tt
honest_siblings zero d key (e ∷ f ∷ es) = tt
honest_siblings (suc n) d key (e ∷ f ∷ es) =
    one_more (honest_below n (d + 1) key (near key d (e ∷ f ∷ es))).siblings (leaves_root (d + 1) (far key d (e ∷ f ∷ es))) (honest_siblings n (d + 1) key (near key d (e ∷ f ∷ es)))
    (leaves_root-IsHash (d + 1) (far key d (e ∷ f ∷ es)))

pub honest-hashes : (m : Map) (key : List ℕ) → AllByRecursion IsHash (honest m key).siblings
unfolding honest honest_from
honest-hashes m key = honest_siblings (256 - 0) 0 key (leaves m)

-- ---- all of it
pub honest-told : (m : Map) (name : List ℕ) → IsMap m → FitsLine name (fin.get m (K name)) → FitsProofBlock name (fin.get m (K name)) (honest m (K name))
unfolding honest honest_from
honest-told m name is_map fits = record {
  bytes = fits.bytes;
  least = fits.least;
  most = fits.most;
  value = both_of IsBytes (λ v. length v ≤ 4096) (fin.get m (K name)) (value_bytes m (K name) is_map) fits.small;
  leaf = honest_leaf AreHashes (256 - 0) 0 (K name) (leaves m) (leaves_hashes (entries m) is_map);
  siblings = honest-hashes m (K name);
}
