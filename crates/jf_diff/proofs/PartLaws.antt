-- What is listed from the children of two tops at one nibble down, and all such parts one after another.
use Rattle.std.proofs.Common.{◌≡◌, ℕ, ◌+◌, ◌<◌, ◌∷◌, ◌++◌, [], List, length, Option, Some, None, sym, ap, ◌∙◌, subst, refl, arith, Result, IfOk, get_or, length-append, ◌==◌, true}
use Rattle.std.proofs.lemmas.Bool.{agree_below_at}
use Rattle.std.proofs.lemmas.Bool.Decides.{nat_tests}
use Rattle.jf_path.specs.declared.memory.Memory.{Memory}
use Rattle.jf_path.specs.declared.name.NodeName.{NodeName}
use Rattle.jf_path.specs.declared.node.PlainNode.{PlainNode}
use Rattle.jf_hash.specs.Slots.{Part, all_nibbles}
use Rattle.jf_model.specs.Nodes.{Path}
use Rattle.jf_model.specs.ChildEntries.{child_entries}
use Rattle.jf_model.specs.Walk.{with_root}
use Rattle.jf_walk.proofs.ChildEntryLaws.{child_entries-few}
use Rattle.jf_walk.proofs.WalkLaws.{listed_to, listed_to-none}
use Rattle.jf_node.specs.LinkValue.{LinkValue, link_version_at}
use Rattle.jf_node.specs.Children.{content}
use Rattle.jf_diff.specs.Landings.{version_or}
use Rattle.jf_diff.specs.OptionalNodes.{IsAtDepth}
use Rattle.jf_diff.specs.Below.{IsFreshBelow, IsStaleBelow, listed_below, name_below}
use Rattle.jf_diff.specs.declared.parts.PartLists.{PartLists}
use Rattle.jf_diff.specs.PartLists.{AreTopLists, ArePartLists, AreAllParts}
use Rattle.jf_diff.specs.Plains.{fresh_below, fresh_under, plain_at}
use Rattle.jf_diff.specs.Tops.{IsFreshUnder, IsStaleUnder, old_name}
use Rattle.jf_diff.proofs.Walks.{listed_below-none, listed_to-below, from_node-listed_to, from_node-with_root}
use Rattle.jf_diff.proofs.PathNames.{name_of_path}

-- the empty map has no child
none_below : (n : ℕ) → child_entries 0 n [] ≡ []
none_below n = child_entries-few 0 n [] (omega arith)

pub fresh_without : (version n : ℕ) (es : Part) (top : Option LinkValue) (nodes : List (NodeName × PlainNode)) → top ≡ None → nodes ≡ [] → nodes ≡ listed_below 0 n es (content top) (fresh_under version top)
fresh_without version n es top nodes is none =
    none ∙ sym (listed_below-none 0 n es [] (fresh_under version None) (none_below n)) ∙ ap (λ o. listed_below 0 n es (content o) (fresh_under version o)) (sym is)

pub stale_without : (head n : ℕ) (old top : Option LinkValue) (names : List NodeName) → old ≡ None → names ≡ [] → names ≡ listed_below 0 n (content top) (content old) (old_name head old)
stale_without head n old top names is none =
    none ∙ sym (listed_below-none 0 n (content top) [] (old_name head None) (none_below n)) ∙ ap (λ o. listed_below 0 n (content top) (content o) (old_name head o)) (sym is)

-- a list from a node on that is a top
from_top : {X : Type 0} (d n : ℕ) (old new : Part) (f g : Path → X) (out now : List X) → d ≡ 0 → out ≡ [] → ((p : Path) → g p ≡ f p) → now ≡ out ++ listed_below d n old new g → now ≡ listed_below 0 n old new f
from_top d n old new f g out now at none same is =
    let fs : g ≡ f = λ i p. same p i in
    is ∙ ap (λ o. o ++ listed_below d n old new g) none ∙ ap (λ k. listed_below k n old new g) at ∙ ap (listed_below 0 n old new) fs

pub fresh_part : (version n : ℕ) (es : Part) (before : Path → Option ℕ) (top : Option LinkValue) (x : LinkValue) (front : Path) (out nodes : List (NodeName × PlainNode)) → top ≡ Some x → IsAtDepth 0 top → front ≡ [] → out ≡ [] → IsFreshUnder version es before top
    → ((es : Part) (before : Path → Option ℕ) → IsFreshBelow version es before x → nodes ≡ out ++ listed_below x.depth n es x.entries (fresh_below version front x)) → nodes ≡ listed_below 0 n es (content top) (fresh_under version top)
fresh_part version n es before top x front out nodes is placed bare none under listing =
    from_top x.depth n es x.entries (fresh_under version (Some x)) (fresh_below version front x) out nodes (subst (IsAtDepth 0) is placed) none (λ p. ap (λ q. (name_of_path version (q ++ p), plain_at x p)) bare)
    (listing es before (subst (IsFreshUnder version es before) is under))
    ∙ ap (λ o. listed_below 0 n es (content o) (fresh_under version o)) (sym is)

pub stale_part : (head version n : ℕ) (old top : Option LinkValue) (x : LinkValue) (front : Path) (out names : List NodeName) → old ≡ Some x → IsAtDepth 0 old → front ≡ [] → out ≡ [] → IsStaleUnder version old top
    → (IsStaleBelow version x top → names ≡ out ++ listed_below x.depth n (content top) x.entries (name_below front x)) → names ≡ listed_below 0 n (content top) (content old) (old_name head old)
stale_part head version n old top x front out names is placed bare none under listing =
    from_top x.depth n (content top) x.entries (old_name head (Some x)) (name_below front x) out names (subst (IsAtDepth 0) is placed) none (λ p. ap (λ q. name_of_path (version_or (link_version_at p (Some x))) (q ++ p)) bare)
    (listing (subst (λ o. IsStaleUnder version o top) is under))
    ∙ ap (λ o. listed_below 0 n (content top) (content o) (old_name head o)) (sym is)

-- ---- all parts
-- what is listed of the two tops and of the first n parts
pub record IsGathered (version head : ℕ) (old top : Option LinkValue) (n : ℕ) (nodes : List (NodeName × PlainNode)) (names : List NodeName) : Type 0 where
  pub fresh : (es : Part) (before : Path → Option ℕ) → IsFreshUnder version es before top → nodes ≡ listed_to 0 n es (content top) (fresh_under version top)
  pub stale : IsStaleUnder version old top → names ≡ listed_to 0 n (content top) (content old) (old_name head old)

pub gathered_start : (version head : ℕ) (old top : Option LinkValue) (l : PartLists) → AreTopLists version head old top l → IsGathered version head old top 0 l.fresh l.stale.items
gathered_start version head old top l is = record {
  fresh = λ es before under. is.fresh ∙ sym (listed_to-none 0 es (content top) (fresh_under version top));
  stale = λ over. is.stale ∙ sym (listed_to-none 0 (content top) (content old) (old_name head old));
}

pub gathered_more : (version head n m : ℕ) (old top : Option LinkValue) (part : PartLists) (nodes nodes' : List (NodeName × PlainNode)) (names names' : List NodeName) → m ≡ n + 1 → IsGathered version head old top n nodes names → ArePartLists version old top n part
    → nodes' ≡ nodes ++ part.fresh → names' ≡ names ++ part.stale.items → IsGathered version head old top m nodes' names'
gathered_more version head n m old top part nodes nodes' names names' next is more longer further = subst (λ k. IsGathered version head old top k nodes' names') (sym next) record {
  fresh = λ es before under. listed_to-below 0 n es (content top) (fresh_under version top) [] nodes nodes' (is.fresh es before under) (longer ∙ ap (λ l. nodes ++ l) (more.fresh es before under));
  stale = λ over. listed_to-below 0 n (content top) (content old) (old_name head old) [] names names' (is.stale over) (further ∙ ap (λ l. names ++ l) (more.stale head over));
}

-- sixteen parts are all of them
whole : {X : Type 0} (n : ℕ) (old new : Part) (f : Path → X) → n ≡ 16 → listed_to 0 n old new f ≡ with_root old new f
whole n old new f all = ap (λ k. listed_to 0 k old new f) all ∙ sym (from_node-listed_to 0 old new f) ∙ from_node-with_root old new f

pub gathered_fresh : (version head n : ℕ) (old top : Option LinkValue) (nodes : List (NodeName × PlainNode)) (names : List NodeName) (es : Part) (before : Path → Option ℕ) → n ≡ 16 → IsGathered version head old top n nodes names → IsFreshUnder version es before top → nodes ≡ with_root es (content top) (fresh_under version top)
gathered_fresh version head n old top nodes names es before all is under = is.fresh es before under ∙ whole n es (content top) (fresh_under version top) all

pub gathered_stale : (version head n : ℕ) (old top : Option LinkValue) (nodes : List (NodeName × PlainNode)) (names : List NodeName) → n ≡ 16 → IsGathered version head old top n nodes names → IsStaleUnder version old top → names ≡ with_root (content top) (content old) (old_name head old)
gathered_stale version head n old top nodes names all is over = is.stale over ∙ whole n (content top) (content old) (old_name head old) all

-- the element after a front
get_or-after : {X : Type 0} (xs ys : List X) (x d : X) → get_or (xs ++ x ∷ ys) (length xs) d ≡ x
get_or-after [] ys x d = refl
get_or-after (z ∷ xs) ys x d = get_or-after xs ys x d

-- the next part in turn is what is listed at the nibble of its place
pub part_in_turn : (version : ℕ) (old top : Option LinkValue) (parts done left : List (Result PartLists Memory)) (part : Result PartLists Memory) → AreAllParts version old top parts → done ++ part ∷ left ≡ parts → IfOk part (ArePartLists version old top (length done))
part_in_turn version old top parts done left part all is =
    all.each (length done) part (omega (arith, ap length is, all.long, length-append done (part ∷ left))) (sym (ap (λ ps. get_or ps (length done) part) (sym is) ∙ get_or-after done left part part))

nibble_at : (i : ℕ) → i < 16 → get_or all_nibbles i 0 ≡ i
nibble_at i small = nat_is (get_or all_nibbles i 0) i (agree_below_at (λ n. get_or all_nibbles n 0 == n) (λ n. true) 16 i refl small)
  where
    nat_is : (a b : ℕ) → (a == b) ≡ true → a ≡ b
    nat_is a b h = grind (arith, nat_tests)

-- what holds of each nibble and its result holds of each place
pub all_parts : (version : ℕ) (old top : Option LinkValue) (ns : List ℕ) (parts : List (Result PartLists Memory)) → ns ≡ all_nibbles → length parts ≡ length ns
    → ((i d : ℕ) (r : Result PartLists Memory) → i < length ns → IfOk (get_or parts i r) (ArePartLists version old top (get_or ns i d))) → AreAllParts version old top parts
all_parts version old top ns parts are long each = record {
  long = long ∙ ap length are;
  each = λ n r small at.
      subst (λ z. IfOk z (ArePartLists version old top n)) (sym at)
      (subst (λ k. IfOk (get_or parts n r) (ArePartLists version old top k)) (ap (λ ks. get_or ks n 0) are ∙ nibble_at n small) (each n 0 r (omega (arith, small, ap length are))));
}
