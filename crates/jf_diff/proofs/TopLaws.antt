-- What is listed from a top down.
use Rattle.std.proofs.Common.{Result, Ok, Err, IfOk, ◌≡◌, ℕ, List, [], ◌++◌, sym, ap, subst, Option, Some, ◌∷◌, ◌∙◌, None, T}
use Rattle.std.proofs.lemmas.List.Sorted.{IsPermutation-refl}
use Rattle.std.specs.FinMap.{is_sorted}
use Rattle.std.specs.List.{IsDistinct}
use Rattle.std.specs.List.Sorted.{IsPermutation}
use Rattle.std.specs.Ordering.{eq_by_cmp}
use Rattle.jf_path.specs.Names.{name_cmp}
use Rattle.jf_path.specs.declared.name.NodeName.{NodeName}
use Rattle.jf_path.specs.declared.node.PlainNode.{PlainNode}
use Rattle.jf_path.specs.Keys.{key_cmp}
use Rattle.jf_path.specs.declared.node.PlainNode.TheVariants as node
use Rattle.jf_hash.specs.Slots.{Part}
use Rattle.jf_model.specs.Nodes.{Path}
use Rattle.jf_model.specs.Walk.{with_root}
use Rattle.jf_walk.proofs.WalkLaws.{with_root-gone}
use Rattle.jf_node.specs.LinkValue.{LinkValue, link_version_at}
use Rattle.jf_node.specs.LinkFacts.{IsLink}
use Rattle.jf_node.specs.Children.{content}
use Rattle.jf_node.specs.Snapshots.{snapshot_of}
use Rattle.jf_diff.specs.OptionalNodes.{IsAtDepth}
use Rattle.jf_diff.specs.Plains.{fresh_below, fresh_under, plain_at}
use Rattle.jf_diff.specs.Tops.{IsFreshUnder, old_name, IsStaleUnder}
use Rattle.jf_diff.specs.Below.{IsFreshBelow, IsStaleBelow, from_node, name_below}
use Rattle.jf_diff.specs.Landings.{version_or, version_in}
use Rattle.jf_diff.proofs.Walks.{with_root-from_node}
use Rattle.jf_diff.proofs.PathNames.{name_of_path, distinct_walk}

pub ok_weaker : {X E : Type 0} (P Q : X → Type 0) → ((x : X) → P x → Q x) → (r : Result X E) → IfOk r P → IfOk r Q
ok_weaker P Q h (Ok x) p = h x p
ok_weaker P Q h (Err e) p = tt

-- ---- what is fresh
pub fresh_none : (version : ℕ) (top : Option LinkValue) (nodes : List (NodeName × PlainNode)) → top ≡ None → nodes ≡ (name_of_path version [], node.Null) ∷ [] → (es : Part) → nodes ≡ with_root es (content top) (fresh_under version top)
fresh_none version top nodes is at es = at ∙ sym (with_root-gone es (fresh_under version None)) ∙ ap (λ o. with_root es (content o) (fresh_under version o)) (sym is)

pub fresh_some : (version : ℕ) (top : Option LinkValue) (x : LinkValue) (front : Path) (out nodes : List (NodeName × PlainNode)) → top ≡ Some x → IsAtDepth 0 top → front ≡ [] → out ≡ []
    → ((es : Part) (before : Path → Option ℕ) → IsFreshBelow version es before x → nodes ≡ out ++ from_node x.depth es x.entries (fresh_below version front x))
    → (es : Part) (before : Path → Option ℕ) → IsFreshUnder version es before top → nodes ≡ with_root es (content top) (fresh_under version top)
fresh_some version top x front out nodes is placed bare none listing es before under =
    with_root-from_node es x.depth x.entries (fresh_under version (Some x)) (fresh_below version front x) nodes (subst (IsAtDepth 0) is placed) (λ p. ap (λ q. (name_of_path version (q ++ p), plain_at x p)) bare)
    (listing es before (subst (IsFreshUnder version es before) is under) ∙ ap (λ o. o ++ from_node x.depth es x.entries (fresh_below version front x)) none)
    ∙ ap (λ o. with_root es (content o) (fresh_under version o)) (sym is)

-- ---- what is stale
pub stale_none : (head : ℕ) (old top : Option LinkValue) (names : List NodeName) → old ≡ None → names ≡ name_of_path head [] ∷ [] → IsPermutation (with_root (content top) (content old) (old_name head old)) names
stale_none head old top names is at =
    subst (λ ns. IsPermutation ns names) (at ∙ sym (with_root-gone (content top) (old_name head None)) ∙ ap (λ o. with_root (content top) (content o) (old_name head o)) (sym is)) (IsPermutation-refl names)

pub stale_some : (head version : ℕ) (old top : Option LinkValue) (x : LinkValue) (front : Path) (out names : List NodeName) → old ≡ Some x → IsAtDepth 0 old → front ≡ [] → out ≡ []
    → (IsStaleBelow version x top → names ≡ out ++ from_node x.depth (content top) x.entries (name_below front x))
    → IsStaleUnder version old top → names ≡ with_root (content top) (content old) (old_name head old)
stale_some head version old top x front out names is placed bare none listing under =
    with_root-from_node (content top) x.depth x.entries (old_name head (Some x)) (name_below front x) names (subst (IsAtDepth 0) is placed) (λ p. ap (λ q. name_of_path (version_or (link_version_at p (Some x))) (q ++ p)) bare)
    (listing (subst (λ o. IsStaleUnder version o top) is under) ∙ ap (λ o. o ++ from_node x.depth (content top) x.entries (name_below front x)) none)
    ∙ ap (λ o. with_root (content top) (content o) (old_name head o)) (sym is)

-- the names of the stale nodes are distinct
pub stale_distinct : (head : ℕ) (old : Option LinkValue) (new : Part) (names : List NodeName) → names ≡ with_root new (content old) (old_name head old) → T (is_sorted key_cmp new) → T (is_sorted key_cmp (content old)) → IsDistinct (eq_by_cmp name_cmp) names
stale_distinct head old new names is a b = distinct_walk (version_in (snapshot_of head old)) new (content old) names is a b

pub sorted_link : (old : Option LinkValue) (x : LinkValue) → old ≡ Some x → IsLink x → T (is_sorted key_cmp (content old))
sorted_link old x is link = subst (λ o. T (is_sorted key_cmp (content o))) (sym is) link.entries.sorted
