-- A further element after the front of a list, in lists that rise.
use Rattle.std.specs.Prelude.{IsTrue}
use Rattle.std.proofs.Common.{◌≡◌, ℕ, ◌+◌, ◌<◌, Bool, true, false, cond, ◌==◌, List, [], ◌∷◌, ◌++◌, map, take, drop, length, get_or, refl, sym, ap, ◌∙◌, subst, arith, suc, take-suc, append-nil}
use Rattle.std.proofs.lemmas.List.{take-append-drop, map-append}
use Rattle.std.proofs.lemmas.List.Elements.{filter-append}
use Rattle.jf_path.specs.declared.children.Child.{Child}
use Rattle.jf_path.specs.declared.name.NodeName.{NodeName}
use Rattle.jf_path.specs.declared.node.PlainNode.{PlainNode}
use Rattle.jf_path.specs.Names.{are_rising}
use Rattle.jf_path.specs.Nodes.{ChildrenRiseFrom}
use Rattle.jf_path.proofs.NumberLaws.{same_number}
use Rattle.jf_standing.specs.Named.{NamedNode, is_stale, stale_nodes_at}
use Rattle.jf_standing.proofs.Rising.{rising-filter}
use Rattle.jf_diff.proofs.Names.{are_rising-front}
use Rattle.jf_replay.specs.Cuts.{without_since}

pub take-next : {X : Type 0} (xs : List X) (i : ℕ) (d x : X) → i < length xs → x ≡ get_or xs i d → take (i + 1) xs ≡ take i xs ++ x ∷ []
take-next xs i d x within at = ap (λ k. take k xs) (let e : i + 1 ≡ suc i = omega arith in e) ∙ take-suc xs i d within ∙ ap (λ y. take i xs ++ y ∷ []) (sym at)

-- ---- children
rise_front : (least : ℕ) (xs ys : List Child) → ChildrenRiseFrom least (xs ++ ys) → ChildrenRiseFrom least xs
rise_front least [] ys h = tt
rise_front least (x ∷ xs) ys h = (h.0, rise_front (x.nibble + 1) xs ys h.1)

pub children-next : (cs : List Child) (i : ℕ) (d c : Child) → i < length cs → c ≡ get_or cs i d → ChildrenRiseFrom 0 cs → ChildrenRiseFrom 0 (take i cs ++ c ∷ [])
children-next cs i d c within at rises = subst (ChildrenRiseFrom 0) (take-next cs i d c within at) (rise_front 0 (take (i + 1) cs) (drop (i + 1) cs) (subst (ChildrenRiseFrom 0) (sym (take-append-drop (i + 1) cs)) rises))

-- ---- named nodes
-- the names of nodes at the front still rise
pub rising-take : (i : ℕ) (ns : List NamedNode) → IsTrue (are_rising (map (λ n. n.0) ns)) → IsTrue (are_rising (map (λ n. n.0) (take i ns)))
rising-take i ns rises = are_rising-front (map (λ n. n.0) (take i ns)) (map (λ n. n.0) (drop i ns)) (subst (λ xs. IsTrue (are_rising xs)) (sym (sym (map-append (λ (n : NamedNode). n.0) (take i ns) (drop i ns)) ∙ ap (map (λ (n : NamedNode). n.0)) (take-append-drop i ns))) rises)

pub rising-next : (ns : List NamedNode) (i : ℕ) (d n : NamedNode) → i < length ns → n ≡ get_or ns i d → IsTrue (are_rising (map (λ n. n.0) ns)) → IsTrue (are_rising (map (λ (x : NodeName × PlainNode). x.0) (map without_since (take i ns) ++ without_since n ∷ [])))
rising-next ns i d n within at rises = subst (λ xs. IsTrue (are_rising xs)) (ap (map (λ (n : NamedNode). n.0)) (take-next ns i d n within at) ∙ named (take i ns)) (rising-take (i + 1) ns rises)
  where
    named : (xs : List NamedNode) → map (λ (n : NamedNode). n.0) (xs ++ n ∷ []) ≡ map (λ x. x.0) (map without_since xs ++ without_since n ∷ [])
    named [] = refl
    named (x ∷ xs) = ap (λ t. x.0 ∷ t) (named xs)

-- ---- names of stale nodes
-- one node more: its name comes last beside the version since which it is stale, and nothing else changes
pub stale-next : (w : ℕ) (ns : List NamedNode) (i : ℕ) (d n : NamedNode) → i < length ns → n ≡ get_or ns i d → map (λ (n : NamedNode). n.0) (stale_nodes_at w (take (i + 1) ns)) ≡ cond (n.2 == w) (map (λ n. n.0) (stale_nodes_at w (take i ns)) ++ n.0 ∷ []) (map (λ n. n.0) (stale_nodes_at w (take i ns)))
stale-next w ns i d n within at =
    ap (λ xs. map (λ (n : NamedNode). n.0) (stale_nodes_at w xs)) (take-next ns i d n within at)
    ∙ ap (map (λ (n : NamedNode). n.0)) (filter-append (is_stale w) (take i ns) (n ∷ []))
    ∙ map-append (λ (n : NamedNode). n.0) (stale_nodes_at w (take i ns)) (stale_nodes_at w (n ∷ []))
    ∙ last (n.2 == w)
  where
    last : (b : Bool) → map (λ (n : NamedNode). n.0) (stale_nodes_at w (take i ns)) ++ map (λ (n : NamedNode). n.0) (cond b (n ∷ []) []) ≡ cond b (map (λ n. n.0) (stale_nodes_at w (take i ns)) ++ n.0 ∷ []) (map (λ n. n.0) (stale_nodes_at w (take i ns)))
    last true = refl
    last false = append-nil (map (λ (n : NamedNode). n.0) (stale_nodes_at w (take i ns)))

pub stale-rising : (ns : List NamedNode) (i : ℕ) (d n : NamedNode) → i < length ns → n ≡ get_or ns i d → IsTrue (are_rising (map (λ n. n.0) ns)) → IsTrue (are_rising (map (λ n. n.0) (stale_nodes_at n.2 (take i ns)) ++ n.0 ∷ []))
stale-rising ns i d n within at rises =
    subst (λ xs. IsTrue (are_rising xs)) (stale-next n.2 ns i d n within at ∙ ap (λ b. cond b (map (λ n. n.0) (stale_nodes_at n.2 (take i ns)) ++ n.0 ∷ []) (map (λ n. n.0) (stale_nodes_at n.2 (take i ns)))) (same_number n.2 n.2 refl))
    (rising-filter (is_stale n.2) (take (i + 1) ns) (rising-take (i + 1) ns rises))
