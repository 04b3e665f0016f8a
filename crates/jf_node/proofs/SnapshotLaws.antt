-- A snapshot's map, from its top link.
use Rattle.std.specs.Prelude.{◌≡◌, ℕ, Option, Some, None, List, length, [], ◌∷◌, ◌≤◌}
use Rattle.std.proofs.Common.{refl, sym, ap, ◌∙◌, subst, arith, ap₂}
use Rattle.std.specs.FinMap.{entries, find}
use Rattle.std.specs.FinMap as fin
use Rattle.std.specs.List.{AllByRecursion}
use Rattle.std.specs.Option.{unwrap_or}
use Rattle.jf_path.specs.Keys.{key_cmp, IsKey, IsBytes}
use Rattle.jf_path.specs.Limits.{max_value}
use Rattle.jf_hash.specs.Roots.{root, part_root}
use Rattle.jf_hash.specs.Slots.{Part}
use Rattle.jf_hash.proofs.RootLaws.{entries-empty, root-part_root}
use Rattle.jf_model.specs.Nodes.{Path, is_node}
use Rattle.jf_node.specs.LinkValue.{LinkValue, version_among}
use Rattle.jf_node.specs.LinkFacts.{IsLinkIf}
use Rattle.jf_node.specs.Children.{content}
use Rattle.jf_node.specs.Snapshots.{snapshot_of, IsTopIf, IsTopOf, IsSnapshot}
use Rattle.jf_node.specs.SnapshotValue.{SnapshotValue}
use Rattle.jf_node.proofs.NodeVersions.{alone_versioned}

pub entries-snapshot_of : (version : ℕ) (link : Option LinkValue) → IsLinkIf link → entries (snapshot_of version link).map ≡ content link
entries-snapshot_of version None sound = entries-empty
entries-snapshot_of version (Some x) sound = fin.entries-from_sorted key_cmp x.entries sound.entries.sorted

version-snapshot_of : (version : ℕ) (link : Option LinkValue) → (snapshot_of version link).version ≡ version
version-snapshot_of version None = refl
version-snapshot_of version (Some x) = refl

-- the link of which a snapshot was made is its top
pub top_is : (version : ℕ) (link : Option LinkValue) (s : SnapshotValue) → snapshot_of version link ≡ s → IsTopIf version link → IsLinkIf link → IsTopOf s link
top_is version link s is top sound =
    let same : s.version ≡ version = ap (λ t. t.version) (sym is) ∙ version-snapshot_of version link in
    record {
      value = sym is ∙ ap (λ v. snapshot_of v link) (sym same);
      top = subst (λ v. IsTopIf v link) (sym same) top;
      same = ap (λ t. entries t.map) (sym is) ∙ entries-snapshot_of version link sound;
      sound = sound;
    }

-- the values, the count and the root of a map are those of the entries of its top
pub get-top : (s : SnapshotValue) (link : Option LinkValue) (q : List ℕ) → IsTopOf s link → fin.get s.map q ≡ find key_cmp q (content link)
get-top s link q top = fin.get-entries s.map q ∙ ap (find key_cmp q) top.same

pub len-top : (s : SnapshotValue) (link : Option LinkValue) → IsTopOf s link → fin.len s.map ≡ length (content link)
len-top s link top = fin.len-entries s.map ∙ ap length top.same

pub root-top : (s : SnapshotValue) (link : Option LinkValue) → IsTopOf s link → root s.map ≡ part_root 0 (content link)
root-top s link top = root-part_root s.map ∙ ap (part_root 0) top.same

map_entries : (es : Part) → AllByRecursion (λ e. IsKey e.0) es → AllByRecursion (λ e. IsBytes e.1) es → AllByRecursion (λ e. IsKey e.0 × IsBytes e.1) es
map_entries [] keys values = tt
map_entries (e ∷ es) keys values = ((keys.0, values.0), map_entries es keys.1 values.1)

no_greater : (version v : ℕ) (path : Path) → version_among path (([], version) ∷ []) ≡ Some v → v ≤ version
no_greater version v [] is = omega (arith, ap (λ o. unwrap_or o 0) is)
no_greater version v (n ∷ path) is = absurd (cc)

-- a snapshot over a top meets what holds of every snapshot
pub snapshot_is : (s : SnapshotValue) (link : Option LinkValue) → IsTopOf s link → IsSnapshot s
snapshot_is s link top = subst IsSnapshot (sym top.value) (sound link top.top top.sound)
  where
    sound : (link : Option LinkValue) → IsTopIf s.version link → IsLinkIf link → IsSnapshot (snapshot_of s.version link)
    sound None top link = record {
      map = subst (AllByRecursion (λ e. IsKey e.0 × IsBytes e.1)) (sym entries-empty) tt;
      short = subst (AllByRecursion (λ e. length e.1 ≤ max_value)) (sym entries-empty) tt;
      versioned = λ path. alone_versioned s.version 0 [] (omega arith) path ∙ ap (is_node 0 path) (sym entries-empty);
      root = refl;
      newest = λ path v is. no_greater s.version v path is;
    }
    sound (Some x) top link =
        let es : entries (fin.from_sorted {R = key_cmp} x.entries) ≡ x.entries = fin.entries-from_sorted key_cmp x.entries link.entries.sorted in
        record {
          map = subst (AllByRecursion (λ e. IsKey e.0 × IsBytes e.1)) (sym es) (map_entries x.entries link.entries.keys link.entries.values);
          short = subst (AllByRecursion (λ e. length e.1 ≤ max_value)) (sym es) link.entries.short;
          versioned = λ path. link.versioned.exact path ∙ ap₂ (λ d fs. is_node d path fs) top.depth (sym es);
          root = link.own ∙ ap Some top.version;
          newest = top.newest;
        }
