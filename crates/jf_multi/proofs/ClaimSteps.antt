-- Claims judged one after another, by the ends of their keys' paths.
use Rattle.std.specs.Prelude.{◌≡◌, ℕ, ◌+◌, ◌<◌, true, false, cond, List, ◌∷◌, length, drop, Option, Some, None, option_map}
use Rattle.std.specs.Option.{is_some, option_or}
use Rattle.std.proofs.Common.{refl, sym, ap, ap₂, ◌∙◌, get_or}
use Rattle.std.proofs.lemmas.List.{at_drop_more}
use Rattle.std.proofs.lemmas.Option.{same_Some}
use Rattle.jf_evidence.specs.declared.proof.ProofFault.{ProofFault}
use Rattle.jf_multi.specs.declared.item.Item.{Item}
use Rattle.jf_multi.specs.declared.item.ManyFault.{ManyFault}
use Rattle.jf_multi.specs.declared.item.ManyFault.TheVariants as fault
use Rattle.jf_multi.specs.declared.path_end.PathEnd.{PathEnd}
use Rattle.jf_multi.specs.Trees.{Tree, tree_root, single_proof, first_tree, tree_of}
use Rattle.jf_multi.specs.Verdicts.{ClaimList, first_missing, first_single_refusal, tree_refusal, many_refusal}
use Rattle.jf_multi.specs.Ends.{end_in, end_in_first, end_refusal}
use Rattle.jf_multi.proofs.TreeLaws.{option_map-some, tree_of-first, tree_of-preorder}
use Rattle.jf_multi.proofs.EndLaws.{end_of_proof, end_in-single_proof, refusal_at, single_refusal-end}

-- the end in the tree that items spell
pub end_in-tree_of : (d : ℕ) (key : List ℕ) (items : List Item) (tree : Tree) → tree_of items ≡ Some tree → end_in_first d key (first_tree 256 items) ≡ end_in d key tree
end_in-tree_of d key items tree is = ap (end_in_first d key) (tree_of-first items tree is)

some_mapped : {A B : Type 0} (f : A → B) (o : Option A) → is_some o ≡ is_some (option_map f o)
some_mapped f None = refl
some_mapped f (Some x) = refl

-- a key has a single proof exactly if its path ends at an end
single_at_end : (key : List ℕ) (tree : Tree) → is_some (single_proof 0 key tree) ≡ is_some (end_in 0 key tree)
single_at_end key tree = some_mapped (end_of_proof 0) (single_proof 0 key tree) ∙ ap is_some (sym (end_in-single_proof 0 key tree))

next_claim : (i : ℕ) (claims : ClaimList) (x : List ℕ × Option (List ℕ)) → i < length claims → drop i claims ≡ get_or claims i x ∷ drop (i + 1) claims
next_claim i claims x lt = at_drop_more (λ (cs : ClaimList). cs) claims i x lt

-- ---- paths that end in a rest
missing_step : (i : ℕ) (tree : Tree) (claims : ClaimList) (x : List ℕ × Option (List ℕ)) (o : Option PathEnd) → i < length claims → o ≡ end_in 0 (get_or claims i x).0 tree
    → first_missing i tree (drop i claims) ≡ cond (is_some o) (first_missing (i + 1) tree (drop (i + 1) claims)) (Some (fault.Missing i))
missing_step i tree claims x o lt is =
    ap (first_missing i tree) (next_claim i claims x lt)
    ∙ ap (λ b. cond b (first_missing (i + 1) tree (drop (i + 1) claims)) (Some (fault.Missing i))) (single_at_end (get_or claims i x).0 tree ∙ ap is_some (sym is))

missing_here : (i : ℕ) (tree : Tree) (claims : ClaimList) (x : List ℕ × Option (List ℕ)) (o : Option PathEnd) → i < length claims → o ≡ end_in 0 (get_or claims i x).0 tree → is_some o ≡ false
    → first_missing i tree (drop i claims) ≡ Some (fault.Missing i)
missing_here i tree claims x o lt is none = missing_step i tree claims x o lt is ∙ ap (λ b. cond b (first_missing (i + 1) tree (drop (i + 1) claims)) (Some (fault.Missing i))) none

missing_later : (i : ℕ) (tree : Tree) (claims : ClaimList) (x : List ℕ × Option (List ℕ)) (o : Option PathEnd) → i < length claims → o ≡ end_in 0 (get_or claims i x).0 tree → is_some o ≡ true
    → first_missing i tree (drop i claims) ≡ first_missing (i + 1) tree (drop (i + 1) claims)
missing_later i tree claims x o lt is some = missing_step i tree claims x o lt is ∙ ap (λ b. cond b (first_missing (i + 1) tree (drop (i + 1) claims)) (Some (fault.Missing i))) some

-- ---- single proofs
refused_step : (r : List ℕ) (i : ℕ) (items : List Item) (tree : Tree) (claims : ClaimList) (x : List ℕ × Option (List ℕ)) (o : Option PathEnd) → tree_of items ≡ Some tree → i < length claims → o ≡ end_in 0 (get_or claims i x).0 tree
    → first_single_refusal r i tree (drop i claims) ≡ option_or (option_map (λ why. fault.Single i why) (refusal_at r (tree_root tree) (get_or claims i x) o)) (first_single_refusal r (i + 1) tree (drop (i + 1) claims))
refused_step r i items tree claims x o whole lt is =
    let low = (tree_of-preorder items tree whole).1 in
    ap (first_single_refusal r i tree) (next_claim i claims x lt)
    ∙ ap (λ (w : Option ProofFault). option_or (option_map (λ why. fault.Single i why) w) (first_single_refusal r (i + 1) tree (drop (i + 1) claims)))
    (single_refusal-end r tree (get_or claims i x) low ∙ ap (refusal_at r (tree_root tree) (get_or claims i x)) (sym is))

-- an end by which the claim at a place is judged
some_end : (r top : List ℕ) (i : ℕ) (items : List Item) (tree : Tree) (claims : ClaimList) (x : List ℕ × Option (List ℕ)) (o : Option PathEnd) (end : PathEnd) (value : Option (List ℕ)) → tree_of items ≡ Some tree
    → option_map tree_root (tree_of items) ≡ Some top → x ≡ get_or claims i x → o ≡ Some end → value ≡ x.1
    → end_refusal r top (x.0, value) end ≡ refusal_at r (tree_root tree) (get_or claims i x) o
some_end r top i items tree claims x o end value whole is_top at is given =
    let same : top ≡ tree_root tree = same_Some top (tree_root tree) (sym is_top ∙ ap (option_map tree_root) whole) in
    ap₂ (λ (t : List ℕ) (v : Option (List ℕ)). end_refusal r t (x.0, v) end) same given
    ∙ ap (λ (c : List ℕ × Option (List ℕ)). end_refusal r (tree_root tree) c end) at
    ∙ ap (refusal_at r (tree_root tree) (get_or claims i x)) (sym is)

end_at : (items : List Item) (tree : Tree) (claims : ClaimList) (i : ℕ) (x : List ℕ × Option (List ℕ)) (o : Option PathEnd) → tree_of items ≡ Some tree → x ≡ get_or claims i x → o ≡ end_in_first 0 x.0 (first_tree 256 items) → o ≡ end_in 0 (get_or claims i x).0 tree
end_at items tree claims i x o whole at is = is ∙ end_in-tree_of 0 x.0 items tree whole ∙ ap (λ (c : List ℕ × Option (List ℕ)). end_in 0 c.0 tree) at

pub missing_found : (items : List Item) (tree : Tree) (claims : ClaimList) (i : ℕ) (x : List ℕ × Option (List ℕ)) (o : Option PathEnd) → tree_of items ≡ Some tree → i < length claims → x ≡ get_or claims i x → o ≡ end_in_first 0 x.0 (first_tree 256 items) → is_some o ≡ false
    → Some (fault.Missing i) ≡ first_missing i tree (drop i claims)
missing_found items tree claims i x o whole lt at is none = sym (missing_here i tree claims x o lt (end_at items tree claims i x o whole at is) none)

pub missing_passed : (items : List Item) (tree : Tree) (claims : ClaimList) (i : ℕ) (x : List ℕ × Option (List ℕ)) (o : Option PathEnd) → tree_of items ≡ Some tree → i < length claims → x ≡ get_or claims i x → o ≡ end_in_first 0 x.0 (first_tree 256 items) → is_some o ≡ true
    → first_missing (i + 1) tree (drop (i + 1) claims) ≡ first_missing i tree (drop i claims)
missing_passed items tree claims i x o whole lt at is some = sym (missing_later i tree claims x o lt (end_at items tree claims i x o whole at is) some)

pub refused_found : (r top : List ℕ) (i : ℕ) (items : List Item) (tree : Tree) (claims : ClaimList) (x : List ℕ × Option (List ℕ)) (o : Option PathEnd) (end : PathEnd) (value : Option (List ℕ)) (why : ProofFault) → tree_of items ≡ Some tree
    → option_map tree_root (tree_of items) ≡ Some top → i < length claims → x ≡ get_or claims i x → o ≡ end_in_first 0 x.0 (first_tree 256 items) → o ≡ Some end → value ≡ x.1 → Some why ≡ end_refusal r top (x.0, value) end
    → Some (fault.Single i why) ≡ first_single_refusal r i tree (drop i claims)
refused_found r top i items tree claims x o end value why whole is_top lt at found is given judged =
    ap (λ (w : Option ProofFault). option_or (option_map (λ why. fault.Single i why) w) (first_single_refusal r (i + 1) tree (drop (i + 1) claims))) (judged ∙ some_end r top i items tree claims x o end value whole is_top at is given)
    ∙ sym (refused_step r i items tree claims x o whole lt (end_at items tree claims i x o whole at found))

pub refused_passed : (r top : List ℕ) (i : ℕ) (items : List Item) (tree : Tree) (claims : ClaimList) (x : List ℕ × Option (List ℕ)) (o : Option PathEnd) (end : PathEnd) (value : Option (List ℕ)) → tree_of items ≡ Some tree
    → option_map tree_root (tree_of items) ≡ Some top → i < length claims → x ≡ get_or claims i x → o ≡ end_in_first 0 x.0 (first_tree 256 items) → o ≡ Some end → value ≡ x.1 → None ≡ end_refusal r top (x.0, value) end
    → first_single_refusal r (i + 1) tree (drop (i + 1) claims) ≡ first_single_refusal r i tree (drop i claims)
refused_passed r top i items tree claims x o end value whole is_top lt at found is given judged =
    ap (λ (w : Option ProofFault). option_or (option_map (λ why. fault.Single i why) w) (first_single_refusal r (i + 1) tree (drop (i + 1) claims))) (judged ∙ some_end r top i items tree claims x o end value whole is_top at is given)
    ∙ sym (refused_step r i items tree claims x o whole lt (end_at items tree claims i x o whole at found))

pub refused_nowhere : (r : List ℕ) (i : ℕ) (items : List Item) (tree : Tree) (claims : ClaimList) (x : List ℕ × Option (List ℕ)) (o : Option PathEnd) → tree_of items ≡ Some tree
    → i < length claims → x ≡ get_or claims i x → o ≡ end_in_first 0 x.0 (first_tree 256 items) → o ≡ None
    → first_single_refusal r (i + 1) tree (drop (i + 1) claims) ≡ first_single_refusal r i tree (drop i claims)
refused_nowhere r i items tree claims x o whole lt at found is =
    ap (λ (w : Option ProofFault). option_or (option_map (λ why. fault.Single i why) w) (first_single_refusal r (i + 1) tree (drop (i + 1) claims))) (ap (refusal_at r (tree_root tree) (get_or claims i x)) (sym is))
    ∙ sym (refused_step r i items tree claims x o whole lt (end_at items tree claims i x o whole at found))

-- ---- all claims
pub verdict_shape : (r : List ℕ) (claims : ClaimList) (items : List Item) → None ≡ option_map tree_root (tree_of items) → Some fault.Shape ≡ many_refusal r claims items
unfolding many_refusal
verdict_shape r claims items none =
    elim (tree_of items) as (λ o. None ≡ option_map tree_root o → Some fault.Shape ≡ tree_refusal r claims o) [ None ↦ λ e. refl | Some tree ↦ λ e. absurd (cc) ] none

pub verdict_missing : (r top : List ℕ) (claims : ClaimList) (items : List Item) (why : ManyFault) → Some top ≡ option_map tree_root (tree_of items) → ((tree : Tree) → tree_of items ≡ Some tree → Some why ≡ first_missing 0 tree claims)
    → Some why ≡ many_refusal r claims items
unfolding many_refusal
verdict_missing r top claims items why some missing =
    let tree = option_map-some tree_root (tree_of items) top (sym some) in
    ap (λ (o : Option ManyFault). option_or o (first_single_refusal r 0 tree.0 claims)) (missing tree.0 tree.1)
    ∙ ap (tree_refusal r claims) (sym tree.1)

pub verdict_rest : (r top : List ℕ) (claims : ClaimList) (items : List Item) (o : Option ManyFault) → Some top ≡ option_map tree_root (tree_of items) → ((tree : Tree) → tree_of items ≡ Some tree → None ≡ first_missing 0 tree claims)
    → ((tree : Tree) → tree_of items ≡ Some tree → o ≡ first_single_refusal r 0 tree claims) → o ≡ many_refusal r claims items
unfolding many_refusal
verdict_rest r top claims items o some missing refused =
    let tree = option_map-some tree_root (tree_of items) top (sym some) in
    refused tree.0 tree.1
    ∙ ap (λ (m : Option ManyFault). option_or m (first_single_refusal r 0 tree.0 claims)) (missing tree.0 tree.1)
    ∙ ap (tree_refusal r claims) (sym tree.1)
