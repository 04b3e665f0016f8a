-- The roots that batches make are those of the versions that they land as.
use Rattle.std.proofs.Common.{◌≡◌, ℕ, zero, suc, ◌+◌, ◌-◌, ◌≤◌, List, [], ◌∷◌, ◌++◌, length, slice_index_or, refl, ap, ap₂, ◌∙◌, arith}
use Rattle.jf_hash.specs.Maps.{Map, Batch, apply}
use Rattle.jf_hash.specs.Roots.{root}
use Rattle.jf_model.specs.Versions.{Versions, newest, versions_after_landing, land_all, root_of}
use Rattle.jf_model.proofs.VersionLaws.{land_all-head, root_of-land_all}
use Rattle.jf_store.specs.Landings.{landed_roots, roots_from}

-- one root more at the end
roots_from-push : (v : Versions) (first n : ℕ) → roots_from v first (suc n) ≡ roots_from v first n ++ root_of v (first + n) ∷ []
roots_from-push v first zero = ap (λ w. root_of v w ∷ []) (omega arith)
roots_from-push v first (suc n) =
    let here : first + 1 + n ≡ first + suc n = omega arith in
    ap (λ rs. root_of v first ∷ rs) (roots_from-push v (first + 1) n ∙ ap (λ w. roots_from v (first + 1) n ++ root_of v w ∷ []) here)

pub roots_from-next : (v : Versions) (first version : ℕ) → first ≤ version → roots_from v first (version + 1 - first) ≡ roots_from v first (version - first) ++ root_of v version ∷ []
roots_from-next v first version low =
    let more : version + 1 - first ≡ suc (version - first) = omega arith in
    let here : first + (version - first) ≡ version = omega arith in
    ap (roots_from v first) more ∙ roots_from-push v first (version - first) ∙ ap (λ w. roots_from v first (version - first) ++ root_of v w ∷ []) here

-- the version that a batch lands as has its root
root_of-next : (b : Batch) (v : Versions) → root_of (versions_after_landing b v) (v.head + 1) ≡ root (apply (newest v) b)
root_of-next b v = let e : v.head + 1 - (v.head + 1) ≡ 0 = omega arith in ap (λ i. slice_index_or (root (apply (newest v) b) ∷ v.roots) i []) e

landed_roots-from : (bs : List Batch) (v : Versions) → roots_from (land_all bs v) (v.head + 1) (length bs) ≡ landed_roots v bs
landed_roots-from [] v = refl
landed_roots-from (b ∷ bs) v = ap₂ (λ r rs. r ∷ rs) (root_of-land_all bs (versions_after_landing b v) (v.head + 1) (omega arith) ∙ root_of-next b v) (landed_roots-from bs (versions_after_landing b v))

-- of versions that batches landed as, those after the old head have the roots that the batches make
pub roots_from-landed : (bs : List Batch) (v w : Versions) (head : ℕ) → w ≡ land_all bs v → head ≡ v.head → roots_from w (head + 1) (w.head + 1 - (head + 1)) ≡ landed_roots v bs
roots_from-landed bs v w head lands is =
    let last : w.head ≡ v.head + length bs = ap (λ (u : Versions). u.head) lands ∙ land_all-head bs v in
    let many : w.head + 1 - (head + 1) ≡ length bs = omega (arith, last, is) in
    ap (roots_from w (head + 1)) many ∙ (λ i. roots_from (lands i) (is i + 1) (length bs)) ∙ landed_roots-from bs v

-- they depend on the newest map alone
pub landed_roots-newest : (bs : List Batch) (v w : Versions) → newest v ≡ newest w → landed_roots v bs ≡ landed_roots w bs
landed_roots-newest [] v w same = refl
landed_roots-newest (b ∷ bs) v w same =
    ap₂ (λ r rs. r ∷ rs) (ap (λ (m : Map). root (apply m b)) same) (landed_roots-newest bs (versions_after_landing b v) (versions_after_landing b w) (ap (λ (m : Map). apply m b) same))
