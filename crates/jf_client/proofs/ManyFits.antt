-- What a map says of names, and the one proof of it, fit into a block of many claims.
use Rattle.std.proofs.Common.{◌≡◌, ℕ, zero, suc, ◌+◌, ◌-◌, not, ◌≤◌, List, [], ◌∷◌, length, None, IfSome, arith}
use Rattle.std.proofs.lemmas.List.{length-map}
use Rattle.std.specs.FinMap as fin
use Rattle.std.specs.FinMap.{entries}
use Rattle.std.specs.List.{AllByRecursion}
use Rattle.hex.specs.Hex.{IsBytes}
use Rattle.jf_path.specs.Keys.{bit}
use Rattle.jf_path.proofs.FilterLaws.{All-filter}
use Rattle.jf_path.proofs.ListLaws.{All-append}
use Rattle.jf_hash.specs.Maps.{Map, IsMap}
use Rattle.jf_hash.specs.Roots.{Leaf, zeros, ones}
use Rattle.jf_evidence.specs.Proofs.{leaves}
use Rattle.jf_blocks.specs.Laws.{IsHash}
use Rattle.jf_multi.specs.Trees.{Tree, Rest, End, Fork, preorder}
use Rattle.jf_multi.specs.SharedTrees.{zero_keys, one_keys, shared_below, shared_tree, shared_proof}
use Rattle.jf_multi.proofs.SharedLaws.{length-shared_proof}
use Rattle.jf_many_blocks.specs.ManyLaws.{IsNamedClaim, IsItem}
use Rattle.jf_names.specs.Names.{keys_in, claims_in}
use Rattle.jf_client.specs.Laws.{FitsLine}
use Rattle.jf_client.proofs.Told.{AreHashes, leaves_hashes, leaves_root-IsHash, value_bytes, value_short, both_of}

-- ---- items
-- the rests of a tree and the leaves at its ends have hashes of 32 bytes
abbrev HasHashes : Tree → Type 0
HasHashes (Rest hash) = IsHash hash
HasHashes (End leaf) = IfSome leaf AreHashes
HasHashes (Fork left right) = HasHashes left × HasHashes right

preorder-items : (tree : Tree) → HasHashes tree → AllByRecursion IsItem (preorder tree)
unfolding preorder
preorder-items (Rest hash) has = (has, tt)
preorder-items (End leaf) has = (has, tt)
preorder-items (Fork left right) has = (tt, All-append IsItem (preorder left) (preorder right) (preorder-items left has.0) (preorder-items right has.1))

shared_below-hashes : (n d : ℕ) (es : List Leaf) (keys : List (List ℕ)) → AllByRecursion AreHashes es → HasHashes (shared_below n d es keys)
unfolding shared_below
shared_below-hashes n d es [] all = leaves_root-IsHash d es
shared_below-hashes n d [] (k ∷ ks) all = tt
shared_below-hashes n d (e ∷ []) (k ∷ ks) all = all.0
shared_below-hashes zero d (e ∷ f ∷ es) (k ∷ ks) all = tt
shared_below-hashes (suc n) d (e ∷ f ∷ es) (k ∷ ks) all = (
  shared_below-hashes n (d + 1) (zeros d (e ∷ f ∷ es)) (zero_keys d (k ∷ ks)) (All-filter AreHashes (λ l. not (bit l.0 d)) (e ∷ f ∷ es) all),
  shared_below-hashes n (d + 1) (ones d (e ∷ f ∷ es)) (one_keys d (k ∷ ks)) (All-filter AreHashes (λ l. bit l.0 d) (e ∷ f ∷ es) all),
)

-- the honest items of a map have keys and hashes of 32 bytes
pub shared_proof-items : (m : Map) (keys : List (List ℕ)) → IsMap m → AllByRecursion IsItem (shared_proof m keys)
unfolding shared_proof shared_tree
shared_proof-items m keys is_map = preorder-items (shared_below (256 - 0) 0 (leaves m) keys) (shared_below-hashes (256 - 0) 0 (leaves m) keys (leaves_hashes (entries m) is_map))

-- ---- claims
-- what a map says of names are claims that lines can carry
pub claims_in-named : (m : Map) (es : List (List ℕ × List ℕ)) → IsMap m → AllByRecursion (λ e. length e.1 ≤ 4096) (entries m) → AllByRecursion (λ e. FitsLine e.1 None) es → AllByRecursion IsNamedClaim (claims_in m es)
claims_in-named m [] is_map short all = tt
claims_in-named m (e ∷ es) is_map short all = (
  record {
    bytes = all.0.bytes;
    least = all.0.least;
    most = all.0.most;
    value = both_of IsBytes (λ v. length v ≤ 4096) (fin.get m e.0) (value_bytes m e.0 is_map) (value_short m e.0 short);
  },
  claims_in-named m es is_map short all.1,
)

-- ---- how many there are
-- claims and items of at most 10,000 names are no more than a block may have
pub few_claims : (m : Map) (es : List (List ℕ × List ℕ)) → length es ≤ 10000 → length (claims_in m es) ≤ 10000
few_claims m es few = let many : length (claims_in m es) ≡ length es = length-map es (λ e. (e.1, fin.get m e.0)) in omega arith

pub few_items : (m : Map) (es : List (List ℕ × List ℕ)) → length es ≤ 10000 → length (shared_proof m (keys_in es)) ≤ 5120001
few_items m es few = let many : length (keys_in es) ≡ length es = length-map es (λ e. e.0) in omega (arith, length-shared_proof m (keys_in es))
