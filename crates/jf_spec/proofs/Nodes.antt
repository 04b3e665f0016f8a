-- What the nodes of each form have: entries, hash and values.
use Rattle.std.proofs.Common.{◌≡◌, ℕ, [], ◌∷◌, sym, ap, ◌∙◌, Global, subst, Bool, cond, List, None, Some, true, false, refl, not, ◌+◌, ◌++◌, append-nil, ap₂, true≢false, ◌≤◌, ◌<◌, length}
use Rattle.std.proofs.lemmas.List.Elements.{filter-append}
use Rattle.std.specs.FinMap.{find}
use Rattle.std.specs.Ordering.{is_eq}
use Rattle.std.specs.declared.sync.Arc.{Arc}
use Rattle.jf_path.specs.Keys.{key_cmp, bit}
use Rattle.jf_path.proofs.OrderLaws.{Equal-from_is_eq}
use Rattle.jf_hash.specs.Hashes.{L, V, N}
use Rattle.jf_hash.specs.Roots.{part_root, ones, zeros}
use Rattle.jf_hash.specs.Parts.{HaveBit}
use Rattle.jf_hash.specs.Slots.{Part}
use Rattle.jf_hash.proofs.RootLaws.{part_root-one, part_root-split}
use Rattle.jf_hash.proofs.KeyOrder.{same_key-exact}
use Rattle.jf_hash.proofs.Finds.{find-right, find-left}
use Rattle.jf_node.specs.RangeValue.{RangeValue}
use Rattle.jf_spec.specs.Forms.{node_value, IsSoundTreeForm, AreHalves}
use Rattle.jf_spec.specs.declared.node.Form.{Form}
use Rattle.jf_spec.specs.declared.node.Form.TheVariants.{Leaf, Branch}
use Rattle.jf_spec.specs.declared.node.LeafBody.{LeafBody}
use Rattle.jf_spec.specs.declared.node.BranchBody.{BranchBody}

-- ---- an entry
module _ (v : RangeValue) (depth : ℕ) (form : Form) (leaf : Arc LeafBody Global) (b : LeafBody) (seen : node_value depth form ≡ v) (is : form ≡ Leaf leaf) (inside : b ≡ leaf.value) where
  pub leaf_is : v ≡ record { depth = depth; entries = (b.key, b.value) ∷ [] }
  leaf_is = sym seen ∙ ap (node_value depth) is ∙ ap (λ (x : LeafBody). leaf_value x) (sym inside)
    where
      leaf_value : LeafBody → RangeValue
      leaf_value x = record { depth = depth; entries = (x.key, x.value) ∷ [] }

  pub leaf_hash : IsSoundTreeForm depth form → b.hash ≡ part_root v.depth v.entries
  leaf_hash sound =
      let own : leaf.value.hash ≡ L leaf.value.key (V leaf.value.value) = (subst (IsSoundTreeForm depth) is sound).1 in
      subst (λ (x : LeafBody). x.hash ≡ L x.key (V x.value)) (sym inside) own ∙ sym (part_root-one depth b.key b.value) ∙ ap (λ w. part_root w.depth w.entries) (sym leaf_is)

  -- a node of one entry has the value of that entry's key alone
  pub find_own : (key : List ℕ) (t : Bool) → is_eq (key_cmp key b.key) ≡ t → find key_cmp key v.entries ≡ cond t (Some b.value) None
  find_own key t test = ap (λ w. find key_cmp key w.entries) leaf_is ∙ ap (λ c. cond c (Some b.value) None) test

-- ---- halves
find-other : (d : ℕ) (b : Bool) (key : List ℕ) (es : Part) → HaveBit d b es → ¬ (bit key d ≡ b) → find key_cmp key es ≡ None
find-other d b key [] h other = refl
find-other d b key (e ∷ es) h other =
    elim (is_eq (key_cmp key e.0)) as (λ t. is_eq (key_cmp key e.0) ≡ t → cond t (Some e.1) (find key_cmp key es) ≡ None) [
      | true ↦ λ is. absurd (other (ap (λ k. bit k d) (same_key-exact key e.0 (Equal-from_is_eq _ is)) ∙ h.0))
      | false ↦ λ is. find-other d b key es h.1 other
    ] refl

-- all entries of a half have its bit
kept_all : (d : ℕ) (es : Part) → HaveBit d true es → ones d es ≡ es
kept_all d [] h = refl
kept_all d (e ∷ es) h = ap (λ b. cond b (e ∷ ones d es) (ones d es)) h.0 ∙ ap (λ t. e ∷ t) (kept_all d es h.1)

kept_none : (d : ℕ) (es : Part) → HaveBit d false es → ones d es ≡ []
kept_none d [] h = refl
kept_none d (e ∷ es) h = ap (λ b. cond b (e ∷ ones d es) (ones d es)) h.0 ∙ kept_none d es h.1

left_all : (d : ℕ) (es : Part) → HaveBit d false es → zeros d es ≡ es
left_all d [] h = refl
left_all d (e ∷ es) h = ap (λ b. cond (not b) (e ∷ zeros d es) (zeros d es)) h.0 ∙ ap (λ t. e ∷ t) (left_all d es h.1)

left_none : (d : ℕ) (es : Part) → HaveBit d true es → zeros d es ≡ []
left_none d [] h = refl
left_none d (e ∷ es) h = ap (λ b. cond (not b) (e ∷ zeros d es) (zeros d es)) h.0 ∙ left_none d es h.1

-- the halves of two halves joined are those halves
pub zeros_of : (d : ℕ) (es fs : Part) → HaveBit d false es → HaveBit d true fs → zeros d (es ++ fs) ≡ es
zeros_of d es fs z o = filter-append (λ e. not (bit e.0 d)) es fs ∙ ap₂ (λ a b. a ++ b) (left_all d es z) (left_none d fs o) ∙ append-nil es

pub ones_of : (d : ℕ) (es fs : Part) → HaveBit d false es → HaveBit d true fs → ones d (es ++ fs) ≡ fs
ones_of d es fs z o = filter-append (λ e. bit e.0 d) es fs ∙ ap₂ (λ a b. a ++ b) (kept_none d es z) (kept_all d fs o)

range_at : (d : ℕ) (v : RangeValue) → v.depth ≡ d → v ≡ record { depth = d; entries = v.entries }
range_at d v is = ap (λ k. record { depth = k; entries = v.entries }) is

module _ (v : RangeValue) (depth : ℕ) (form : Form) (branch : Arc BranchBody Global) (b : BranchBody) (seen : node_value depth form ≡ v) (is : form ≡ Branch branch) (inside : b ≡ branch.value) where
  pub branch_is : v ≡ record { depth = depth; entries = b.zeros.entries ++ b.ones.entries }
  branch_is = sym seen ∙ ap (node_value depth) is ∙ ap (λ (x : BranchBody). branch_value x) (sym inside)
    where
      branch_value : BranchBody → RangeValue
      branch_value x = record { depth = depth; entries = x.zeros.entries ++ x.ones.entries }

  pub branch_halves : IsSoundTreeForm depth form → AreHalves depth b.zeros b.ones b.hash
  branch_halves sound = subst (λ (x : BranchBody). AreHalves depth x.zeros x.ones x.hash) (sym inside) (subst (IsSoundTreeForm depth) is sound)

  -- a key is found in the half of its next bit
  pub find_ones : (key : List ℕ) → IsSoundTreeForm depth form → bit key depth ≡ true → find key_cmp key v.entries ≡ find key_cmp key b.ones.entries
  find_ones key sound one =
      ap (λ w. find key_cmp key w.entries) branch_is ∙ find-right key b.zeros.entries b.ones.entries (find-other depth false key b.zeros.entries (branch_halves sound).zeros (λ e. true≢false (sym one ∙ e)))

  pub find_zeros : (key : List ℕ) → IsSoundTreeForm depth form → bit key depth ≡ false → find key_cmp key v.entries ≡ find key_cmp key b.zeros.entries
  find_zeros key sound zero =
      ap (λ w. find key_cmp key w.entries) branch_is ∙ find-left key b.zeros.entries b.ones.entries (find-other depth true key b.ones.entries (branch_halves sound).ones (λ e. true≢false (sym e ∙ zero)))

  -- a branch's halves are the entries by their next bit
  pub zeros_is : IsSoundTreeForm depth form → b.zeros ≡ record { depth = v.depth + 1; entries = zeros v.depth v.entries }
  zeros_is sound =
      let h = branch_halves sound in
      range_at (depth + 1) b.zeros h.zeros_deep ∙ ap (λ es. record { depth = depth + 1; entries = es }) (sym (zeros_of depth b.zeros.entries b.ones.entries h.zeros h.ones))
      ∙ ap (λ w. record { depth = w.depth + 1; entries = zeros w.depth w.entries }) (sym branch_is)

  pub ones_is : IsSoundTreeForm depth form → b.ones ≡ record { depth = v.depth + 1; entries = ones v.depth v.entries }
  ones_is sound =
      let h = branch_halves sound in
      range_at (depth + 1) b.ones h.ones_deep ∙ ap (λ es. record { depth = depth + 1; entries = es }) (sym (ones_of depth b.zeros.entries b.ones.entries h.zeros h.ones))
      ∙ ap (λ w. record { depth = w.depth + 1; entries = ones w.depth w.entries }) (sym branch_is)

-- two halves with their hash make a branch
pub new_halves : (depth : ℕ) (left right : RangeValue) (hash l r : List ℕ) → depth < 256 → left.depth ≡ depth + 1 → right.depth ≡ depth + 1 → HaveBit depth false left.entries → HaveBit depth true right.entries
    → 2 ≤ length (left.entries ++ right.entries) → l ≡ part_root left.depth left.entries → r ≡ part_root right.depth right.entries → hash ≡ N l r → AreHalves depth left right hash
new_halves depth left right hash l r deep zd od z o two lh rh is = record {
  deep = deep;
  zeros_deep = zd;
  ones_deep = od;
  zeros = z;
  ones = o;
  several = two;
  hashed =
      is
      ∙ ap₂ N (lh ∙ ap (λ d. part_root d left.entries) zd ∙ ap (part_root (depth + 1)) (sym (zeros_of depth left.entries right.entries z o)))
      (rh ∙ ap (λ d. part_root d right.entries) od ∙ ap (part_root (depth + 1)) (sym (ones_of depth left.entries right.entries z o)))
      ∙ sym (part_root-split depth (left.entries ++ right.entries) deep two);
}
