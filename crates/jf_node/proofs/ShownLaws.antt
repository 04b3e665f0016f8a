-- The entries, versions and keys of a node, from what is seen of it.
use Rattle.std.specs.Prelude.{◌≡◌, ℕ, List, Option, None, ◌∷◌, Some, ◌+◌, Bool, cond, ◌*◌}
use Rattle.std.proofs.Common.{ap, ◌∙◌, get_or, sym, arith}
use Rattle.std.specs.FinMap.{find}
use Rattle.std.specs.Ordering.{is_eq}
use Rattle.jf_path.specs.Keys.{key_cmp}
use Rattle.jf_path.specs.Nibbles.{nibble}
use Rattle.jf_path.proofs.NibbleLaws.{nibble-small}
use Rattle.jf_hash.specs.Slots.{with_nibble}
use Rattle.jf_hash.specs.Hashes.{L}
use Rattle.jf_hash.specs.Roots.{part_root}
use Rattle.jf_hash.proofs.RootLaws.{part_root-one}
use Rattle.jf_model.specs.Nodes.{Path}
use Rattle.jf_node.specs.LinkValue.{LinkValue, version_among, link_version_at}
use Rattle.jf_node.specs.Children.{content}
use Rattle.jf_node.specs.Shown.{ShowsInner, ShowsLeaf}
use Rattle.jf_node.proofs.ChildLaws.{with_nibble-child, find-child, child_depth}
use Rattle.jf_node.proofs.NodeVersions.{version-below}

-- the entries with a nibble are those of the child there
pub with_nibble-seen : (x : LinkValue) (links : List (Option LinkValue)) (n : ℕ) → ShowsInner x links → with_nibble x.depth n x.entries ≡ content (get_or links n None)
with_nibble-seen x links n shows = ap (with_nibble x.depth n) shows.entries ∙ with_nibble-child x.depth n links shows.children

-- the version of a node below a child is the one that the child has
pub version-seen : (x : LinkValue) (links : List (Option LinkValue)) (n : ℕ) (p : Path) → ShowsInner x links → link_version_at (n ∷ p) (Some x) ≡ link_version_at p (get_or links n None)
version-seen x links n p shows = ap (version_among (n ∷ p)) shows.versions ∙ version-below n p x.version links

-- the value of an inner node's key is that of the child at its nibble
pub find-seen : (x : LinkValue) (links : List (Option LinkValue)) (key : List ℕ) (n d : ℕ) (child : Option LinkValue) → ShowsInner x links → d ≡ x.depth → n ≡ nibble key d → child ≡ get_or links n None → find key_cmp key x.entries ≡ find key_cmp key (content child)
find-seen x links key n d child shows deep place is =
    ap (find key_cmp key) shows.entries ∙ find-child x.depth links key shows.children ∙ ap (λ k. find key_cmp key (content (get_or links k None))) (ap (nibble key) (sym deep) ∙ sym place)
    ∙ ap (λ y. find key_cmp key (content y)) (sym is)

-- the child at a nibble is one nibble deeper
pub depth-seen : (x : LinkValue) (links : List (Option LinkValue)) (key : List ℕ) (n d : ℕ) (child : LinkValue) → ShowsInner x links → n ≡ nibble key d → Some child ≡ get_or links n None → child.depth ≡ x.depth + 1
depth-seen x links key n d child shows place is = child_depth x.depth n links child shows.children (omega (arith, place, nibble-small key d)) (sym is)

-- a leaf has a value only for its own key
pub find-own : (x : LinkValue) (own value hash : List ℕ) (key : List ℕ) (b : Bool) → ShowsLeaf x own value hash → is_eq (key_cmp key own) ≡ b → find key_cmp key x.entries ≡ cond b (Some value) None
find-own x own value hash key b shows is = ap (find key_cmp key) shows.entries ∙ ap (λ t. cond t (Some value) None) is

-- the hash of a leaf is that of its key and the hash of its value
pub hash-own : (x : LinkValue) (key value value_hash : List ℕ) → ShowsLeaf x key value value_hash → part_root (4 * x.depth) x.entries ≡ L key value_hash
hash-own x key value value_hash shows = ap (part_root (4 * x.depth)) shows.entries ∙ part_root-one (4 * x.depth) key value ∙ ap (L key) (sym shows.hashed)
