-- Walks over the nodes that a landing writes and makes stale.
use denote.Ref.{Bor}
use Rattle.std.proofs.Common.{ℕ, ◌-◌, List, ◌∷◌, length, sym, ap, arith, None, ◌+◌, ◌<◌, Option, Some, ◌≡◌, get_or, ◌∙◌, subst, [], inl, inr, ◌⊎◌, true, refl, ◌++◌, append-nil, ◌≤◌, ap₂, Bool, true≢false, false, append_assoc}
use Rattle.std.proofs.lemmas.Bool.{cases_lt}
use Rattle.std.proofs.lemmas.List.{get_or_past, length_push}
use Rattle.std.specs.Option.{option_copied}
use Rattle.jf_path.specs.declared.name.NodeName.{NodeName}
use Rattle.jf_hash.specs.Slots.{with_nibble, Part}
use Rattle.jf_model.specs.ChildEntries.{child_entries, sub}
use Rattle.jf_model.specs.Nodes.{Path}
use Rattle.jf_model.specs.Walk.{differs, list_of_new_nodes, with_root}
use Rattle.jf_model.specs.NodeVersions.{VersionsFollow}
use Rattle.jf_walk.proofs.ChildEntryLaws.{child_entries-few, child_entries-many, sub-none}
use Rattle.jf_walk.proofs.SameParts.{differs_or_same, not_empty, differs-other}
use Rattle.jf_walk.proofs.VersionLaws.{moved}
use Rattle.jf_walk.proofs.WalkLaws.{child_list, listed_to, listed-node, listed-same, listed-gone, listed_to-child, each-nil}
use Rattle.jf_node.specs.LinkValue.{LinkValue, version_among, link_version_at}
use Rattle.jf_node.specs.Shown.{ShowsLeaf, ShowsInner}
use Rattle.jf_node.specs.Children.{content}
use Rattle.jf_node.specs.LinkFacts.{IsLink, IsLinkIf}
use Rattle.jf_node.proofs.NodeVersions.{version-below}
use Rattle.jf_node.proofs.ChildLaws.{below-or-past}
use Rattle.jf_diff.specs.Below.{IsBelow, IsOneBelow, IsFreshBelow, TellsIfOlder, IsStaleBelow, IsBelowIf, from_node, listed_below, name_below}
use Rattle.jf_diff.specs.Landings.{version_or}
use Rattle.jf_diff.specs.OptionalNodes.{IsAtDepth, IsOfVersion}
use Rattle.jf_diff.proofs.ChildPlaces.{child_part, child_placed}

-- ---- what is gone into
-- a node that is gone into once and listed once
pub counted-own : {X : Type 0} (out now : List X) (x : X) (before after : ℕ) → now ≡ out ++ x ∷ [] → after ≡ before + 1 → after + length out ≡ before + length now
counted-own out now x before after is tick = omega (arith, tick, ap length is, length_push out x)

-- ---- children
-- a leaf has no child
pub leaf_below : (x : LinkValue) (n : ℕ) (k v h : List ℕ) → ShowsLeaf x k v h → IsBelow x n None
leaf_below x n k v h shows = record {
  entries = sym (child_entries-few x.depth n x.entries (omega (arith, ap length shows.entries)));
  placed = tt;
  versions = λ p. ap (version_among (n ∷ p)) shows.versions;
  sound = tt;
}

one_below : (d : ℕ) (c : Option LinkValue) → IsAtDepth (d + 1) c → d < 64 → IsOneBelow d c
one_below d None placed deep = tt
one_below d (Some c) placed deep = (deep, placed)

-- what stands at any place of sixteen children is sound
sound_at : (links : List (Option LinkValue)) (n : ℕ) → length links ≡ 16 → ((i : ℕ) → i < 16 → IsLinkIf (get_or links i None)) → IsLinkIf (get_or links n None)
sound_at links n long each = elim (below-or-past n) [
  | inl small ↦ each n small
  | inr past ↦ subst IsLinkIf (sym (get_or_past links n None (omega (arith, long)))) tt
]

-- an inner node has the children that it shows
pub inner_below : (x : LinkValue) (n : ℕ) (links : List (Option LinkValue)) (c : Option LinkValue) → ShowsInner x links → ((i : ℕ) → i < 16 → IsLinkIf (get_or links i None)) → c ≡ get_or links n None → IsBelow x n c
inner_below x n links c shows each is =
    let several = shows.children.several in
    let long = shows.children.long in
    record {
      entries = ap content is ∙ sym (child_part x.depth n links long shows.children.fit) ∙ ap (with_nibble x.depth n) (sym shows.entries) ∙ sym (child_entries-many x.depth n x.entries (omega (arith, ap length shows.entries)));
      placed = one_below x.depth c (subst (IsAtDepth (x.depth + 1)) (sym is) (child_placed x.depth n links long shows.children.fit)) shows.children.deep;
      versions = λ p. ap (version_among (n ∷ p)) shows.versions ∙ version-below n p x.version links ∙ ap (link_version_at p) (sym is);
      sound = subst IsLinkIf (sym is) (sound_at links n long each);
    }

pub child_entries_none : (x : LinkValue) (n k : ℕ) (r : Option (Bor LinkValue)) → IsBelow x n (option_copied r) → r ≡ None → n ≡ k → child_entries x.depth k x.entries ≡ []
child_entries_none x n k r is none at = ap (λ m. child_entries x.depth m x.entries) (sym at) ∙ sym is.entries ∙ ap (λ o. content (option_copied o)) none

pub child_entries_some : (x : LinkValue) (n k : ℕ) (r : Option (Bor LinkValue)) (c : Bor LinkValue) → IsBelow x n (option_copied r) → r ≡ Some c → n ≡ k → IsBelow x k (Some c.now)
child_entries_some x n k r c is some at = subst (λ m. IsBelow x m (Some c.now)) at (subst (λ o. IsBelow x n (option_copied o)) some is)

-- ---- one step of a walk
-- x stands, after the landing of `version`, where the entries es stood, and its own version too says whether they changed
pub record IsFreshOver (version : ℕ) (es : Part) (before : Path → Option ℕ) (x : LinkValue) : Type 0 where
  pub versioned : VersionsFollow x.depth version es x.entries before (λ p. link_version_at p (Some x))
  pub older : (path : Path) → ¬ (before path ≡ Some version)

-- y stands in the place of x after the landing of `version`, and its own version too says whether its entries changed
pub record IsStaleOver (version : ℕ) (x : LinkValue) (y : Option LinkValue) : Type 0 where
  pub versioned : VersionsFollow x.depth version x.entries (content y) (λ p. link_version_at p (Some x)) (λ p. link_version_at p y)
  pub older : (path : Path) → ¬ (link_version_at path (Some x) ≡ Some version)

fresh_below_of : (version : ℕ) (es : Part) (before : Path → Option ℕ) (x : LinkValue) → IsFreshOver version es before x → IsFreshBelow version es before x
fresh_below_of version es before x over = record { versioned = λ n p. over.versioned (n ∷ p); older = λ n p. over.older (n ∷ p) }

stale_below_of : (version : ℕ) (x : LinkValue) (y : Option LinkValue) → IsStaleOver version x y → IsStaleBelow version x y
stale_below_of version x y over = record { versioned = λ n p. over.versioned (n ∷ p); older = λ n p. over.older (n ∷ p) }

small_of : (x : LinkValue) → IsLink x → (x.depth < 64) ⊎ (length x.entries < 2)
small_of x link = elim (cases_lt (length x.entries) 2) [ inl few ↦ inr few | inr many ↦ inl (link.inner many) ]

pub some_is : (a b : ℕ) → Some a ≡ Some b → a ≡ b
some_is a b e = cc

-- a node has the new version exactly if its entries differ from before
is_new : (version : ℕ) (es : Part) (before : Path → Option ℕ) (x : LinkValue) → IsLink x → IsFreshOver version es before x → x.version ≡ version → differs es x.entries ≡ true
is_new version es before x link over is = elim (differs_or_same es x.entries link.entries.some) [
  | inl differ ↦ differ
  | inr same ↦ absurd (over.older [] (sym ((over.versioned []).kept (not_empty x.entries link.entries.some) same) ∙ link.own ∙ ap (λ v. Some v) is))
]

is_old : (version : ℕ) (es : Part) (before : Path → Option ℕ) (x : LinkValue) → IsLink x → IsFreshOver version es before x → ¬ (x.version ≡ version) → es ≡ x.entries
is_old version es before x link over other = elim (differs_or_same es x.entries link.entries.some) [
  | inl differ ↦ absurd (other (some_is x.version version (sym link.own ∙ (over.versioned []).fresh (not_empty x.entries link.entries.some) (differs-other es x.entries differ))))
  | inr same ↦ same
]

-- a landing over a node is a landing over each of its children
pub child_over : (version : ℕ) (es : Part) (before : Path → Option ℕ) (x : LinkValue) (n : ℕ) (c : LinkValue) → IsFreshBelow version es before x → IsBelow x n (Some c) → IsFreshOver version (child_entries x.depth n es) (λ p. before (n ∷ p)) c
child_over version es before x n c over is = record {
  versioned = λ p. moved version _ _ _ _ _ _ _ _ (over.versioned n p)
      (ap (λ d. sub d p (child_entries x.depth n es)) is.placed.1)
      (ap (λ d. sub d p c.entries) is.placed.1 ∙ ap (sub (x.depth + 1) p) is.entries)
      refl
      (sym (is.versions p));
  older = λ p. over.older n p;
}

-- from a node on, all sixteen children are listed
pub from_node-listed_to : {X : Type 0} (d : ℕ) (old new : Part) (f : Path → X) → from_node d old new f ≡ listed_to d 16 old new f
unfolding from_node listed_to child_list listed_below
from_node-listed_to d old new f = refl

module _ {X : Type 0} where
  -- a node as far as some child, and then that child, is the node as far as the next one
  pub listed_to-below : (d n : ℕ) (old new : Part) (f : Path → X) (start out more : List X) → out ≡ start ++ listed_to d n old new f → more ≡ out ++ listed_below d n old new f → more ≡ start ++ listed_to d (n + 1) old new f
  unfolding listed_below
  listed_to-below d n old new f start out more is made = listed_to-child d n (d + 1) old (child_entries d n old) new (child_entries d n new) f (λ p. f (n ∷ p)) start out more is refl refl refl (λ p. refl) made

  -- what is listed from a child on
  pub listed_below-child : (d n e : ℕ) (old old' new new' : Part) (f g : Path → X) → e ≡ d + 1 → old' ≡ child_entries d n old → new' ≡ child_entries d n new → ((p : Path) → g p ≡ f (n ∷ p)) → list_of_new_nodes (64 - e) e old' new' g ≡ listed_below d n old new f
  unfolding listed_below
  listed_below-child d n e old old' new new' f g at was now same =
      let fs : g ≡ (λ p. f (n ∷ p)) = λ i p. same p i in
      ap (λ k. list_of_new_nodes (64 - k) k old' new' g) at ∙ ap (λ a. list_of_new_nodes (64 - (d + 1)) (d + 1) a new' g) was ∙ ap (λ b. list_of_new_nodes (64 - (d + 1)) (d + 1) (child_entries d n old) b g) now
      ∙ ap (λ h. list_of_new_nodes (64 - (d + 1)) (d + 1) (child_entries d n old) (child_entries d n new) h) fs

  -- nothing is listed at a nibble without a child
  pub listed_below-none : (d n : ℕ) (old new : Part) (f : Path → X) → child_entries d n new ≡ [] → listed_below d n old new f ≡ []
  unfolding listed_below
  listed_below-none d n old new f none = ap (λ k. list_of_new_nodes (64 - (d + 1)) (d + 1) (child_entries d n old) k (λ p. f (n ∷ p))) none ∙ listed-gone (64 - (d + 1)) (d + 1) (child_entries d n old) (λ p. f (n ∷ p))

-- of a node without a child, the node alone is listed
pub from_node-few : {X : Type 0} (d : ℕ) (old new : Part) (f : Path → X) → length new < 2 → f [] ∷ [] ≡ from_node d old new f
unfolding from_node
from_node-few d old new f few = ap (λ t. f [] ∷ t) (sym (each-nil 16 0 (λ n. listed_below d n old new f) (λ n. listed_below-none d n old new f (child_entries-few d n new few))))

-- from the top on, the walk is that from the top
pub from_node-with_root : {X : Type 0} (old new : Part) (f : Path → X) → from_node 0 old new f ≡ with_root old new f
unfolding from_node with_root listed_below
from_node-with_root old new f = refl

pub with_root-from_node : {X : Type 0} (old : Part) (d : ℕ) (new : Part) (f g : Path → X) (names : List X) → d ≡ 0 → ((p : Path) → g p ≡ f p) → names ≡ from_node d old new g → names ≡ with_root old new f
with_root-from_node old d new f g names at same is =
    is ∙ ap (λ k. from_node k old new g) at ∙ ap (λ h. from_node 0 old new h) (let fs : g ≡ f = λ i p. same p i in fs) ∙ from_node-with_root old new f

-- a new node is listed, with the nodes below it that are new
fresh_node : {X : Type 0} (version : ℕ) (es : Part) (before : Path → Option ℕ) (x : LinkValue) (f : Path → X) → IsLink x → IsFreshOver version es before x → x.version ≡ version → list_of_new_nodes (64 - x.depth) x.depth es x.entries f ≡ from_node x.depth es x.entries f
fresh_node version es before x f link over own = listed-node x.depth es x.entries f (is_new version es before x link over own) (small_of x link) ∙ sym (from_node-listed_to x.depth es x.entries f)

-- what is appended for a new node is what the walk lists of it
pub fresh_own : {X : Type 0} (version : ℕ) (es : Part) (before : Path → Option ℕ) (x : LinkValue) (f : Path → X) (out now : List X) → IsLink x → IsFreshOver version es before x → x.version ≡ version
    → (IsFreshBelow version es before x → now ≡ out ++ from_node x.depth es x.entries f) → now ≡ out ++ list_of_new_nodes (64 - x.depth) x.depth es x.entries f
fresh_own version es before x f out now link over own made = made (fresh_below_of version es before x over) ∙ ap (λ l. out ++ l) (sym (fresh_node version es before x f link over own))

-- and for another one the walk lists nothing
pub fresh_others : {X : Type 0} (version : ℕ) (es : Part) (before : Path → Option ℕ) (x : LinkValue) (f : Path → X) (out : List X) → IsLink x → IsFreshOver version es before x → ¬ (x.version ≡ version) → out ≡ out ++ list_of_new_nodes (64 - x.depth) x.depth es x.entries f
fresh_others version es before x f out link over other =
    sym (append-nil out)
    ∙ ap (λ l. out ++ l) (sym (ap (λ a. list_of_new_nodes (64 - x.depth) x.depth a x.entries f) (is_old version es before x link over other) ∙ listed-same (64 - x.depth) x.depth x.entries f))

-- ---- what is stale
older_kept : (version : ℕ) (x : LinkValue) (y : Option LinkValue) → 1 ≤ length x.entries → IsLinkIf y → IsStaleOver version x y → content y ≡ x.entries → ¬ IsOfVersion version y
older_kept version x None some sound over same own = not_empty x.entries some (sym same)
older_kept version x (Some y) some sound over same own = over.older [] (sym ((over.versioned []).kept (not_empty y.entries sound.entries.some) (sym same)) ∙ sound.own ∙ ap (λ v. Some v) own)

new_made : (version : ℕ) (x : LinkValue) (y : Option LinkValue) → IsLinkIf y → IsStaleOver version x y → ¬ (content y ≡ x.entries) → IsOfVersion version y
new_made version x None sound over other = tt
new_made version x (Some y) sound over other = some_is y.version version (sym sound.own ∙ (over.versioned []).fresh (not_empty y.entries sound.entries.some) (λ same. other (sym same)))

-- what is appended for an old node is what the walk lists of it
pub stale_listed : {X : Type 0} (version : ℕ) (x : LinkValue) (y : Option LinkValue) (f : Path → X) (out now : List X) → IsLink x → IsLinkIf y → IsStaleOver version x y → (¬ IsOfVersion version y → now ≡ out)
    → (IsOfVersion version y → IsStaleBelow version x y → now ≡ out ++ from_node x.depth (content y) x.entries f) → now ≡ out ++ list_of_new_nodes (64 - x.depth) x.depth (content y) x.entries f
stale_listed version x y f out now link sound over kept made = elim (differs_or_same (content y) x.entries link.entries.some) [
  | inl differ ↦
      made (new_made version x y sound over (differs-other (content y) x.entries differ)) (stale_below_of version x y over)
      ∙ ap (λ l. out ++ l) (sym (listed-node x.depth (content y) x.entries f differ (small_of x link) ∙ sym (from_node-listed_to x.depth (content y) x.entries f)))
  | inr same ↦
      kept (older_kept version x y link.entries.some sound over same) ∙ sym (append-nil out)
      ∙ ap (λ l. out ++ l) (sym (ap (λ a. list_of_new_nodes (64 - x.depth) x.depth a x.entries f) same ∙ listed-same (64 - x.depth) x.depth x.entries f))
]

-- whether a node was there before
pub tells_kept : (version : ℕ) (y : Option LinkValue) (kept : Bool) → TellsIfOlder y version kept → kept ≡ true → ¬ IsOfVersion version y
tells_kept version None kept tells on own = true≢false (sym on ∙ tells)
tells_kept version (Some y) kept tells on own = tells.1 on own

pub tells_new : (version : ℕ) (y : Option LinkValue) (kept : Bool) → TellsIfOlder y version kept → kept ≡ false → IsOfVersion version y
tells_new version None kept tells off = tt
tells_new version (Some y) kept tells off = tells.2 off

pub stale_child : (version : ℕ) (x : LinkValue) (y : Option LinkValue) (n k : ℕ) (c : LinkValue) (d : Option LinkValue) → IsAtDepth x.depth y → IsStaleBelow version x y → IsBelow x k (Some c) → IsBelowIf y n d → n ≡ k → IsStaleOver version c d
stale_child version x None n k c d at over is in_y same = record {
  versioned = λ p. let gone = ap (λ o. sub c.depth p (content o)) in_y ∙ sub-none c.depth p in record { kept = λ some same. absurd (some gone); fresh = λ some differ. absurd (some gone) };
  older = λ p e. over.older k p (is.versions p ∙ e);
}
stale_child version x (Some y) n k c d at over is below same =
    let in_y : IsBelow y k d = subst (λ m. IsBelow y m d) same below in
    record {
      versioned = λ p. moved version _ _ _ _ _ _ _ _ (over.versioned k p)
          (ap (λ m. sub m p c.entries) is.placed.1 ∙ ap (sub (x.depth + 1) p) is.entries)
          (ap (λ m. sub m p (content d)) is.placed.1 ∙ ap (sub (x.depth + 1) p) (in_y.entries ∙ ap (λ m. child_entries m k y.entries) at))
          (sym (is.versions p))
          (sym (in_y.versions p));
      older = λ p e. over.older k p (is.versions p ∙ e);
    }

pub child_in_entries : (x : LinkValue) (y : Option LinkValue) (n k : ℕ) (d : Option LinkValue) → IsAtDepth x.depth y → IsBelowIf y n d → n ≡ k → content d ≡ child_entries x.depth k (content y)
child_in_entries x None n k d at in_y same = ap content in_y
child_in_entries x (Some y) n k d at in_y same = in_y.entries ∙ ap₂ (λ m j. child_entries m j y.entries) at same

-- what is listed from a child on, by the path that leads to it
pub stale-child : (front path : Path) (x : LinkValue) (y : Option LinkValue) (n : ℕ) (c : LinkValue) (d : Option LinkValue) → IsAtDepth x.depth y → IsBelow x n (Some c) → IsBelowIf y n d → path ≡ front ++ n ∷ []
    → list_of_new_nodes (64 - c.depth) c.depth (content d) c.entries (name_below path c) ≡ listed_below x.depth n (content y) x.entries (name_below front x)
stale-child front path x y n c d placed is in_y at =
    listed_below-child x.depth n c.depth (content y) (content d) x.entries c.entries (name_below front x) (name_below path c) is.placed.1 (child_in_entries x y n n d placed in_y refl) is.entries
    (λ p. ap₂ (λ v q. let name : NodeName = record { version = version_or v; path = q } in name) (sym (is.versions p)) (ap (λ q. q ++ p) at ∙ append_assoc front (n ∷ []) p))

placed_at : (d e : ℕ) (o : Option LinkValue) → IsOneBelow d o → e ≡ d + 1 → IsAtDepth e o
placed_at d e None h is = tt
placed_at d e (Some o) h is = h.1 ∙ sym is

pub child_in_placed : (x : LinkValue) (y : Option LinkValue) (n e : ℕ) (d : Option LinkValue) → IsAtDepth x.depth y → IsBelowIf y n d → e ≡ x.depth + 1 → IsAtDepth e d
child_in_placed x None n e d at in_y is = subst (IsAtDepth e) (sym in_y) tt
child_in_placed x (Some y) n e d at in_y is = placed_at y.depth e d in_y.placed (is ∙ ap (λ k. k + 1) (sym at))

-- the node at a nibble of an optional node is sound
pub child_in_sound : (y : Option LinkValue) (n : ℕ) (d : Option LinkValue) → IsBelowIf y n d → IsLinkIf d
child_in_sound None n d is = subst IsLinkIf (sym is) tt
child_in_sound (Some y) n d is = is.sound
