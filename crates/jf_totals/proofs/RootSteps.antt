-- The recorded roots, one after another.
use Rattle.std.specs.Prelude.{◌≡◌, ℕ, ◌+◌, ◌-◌, ◌<◌, ◌≤◌, List, [], ◌∷◌, ◌++◌, length, take}
use Rattle.std.proofs.Common.{arith, sym, ap, ◌∙◌, get_or}
use Rattle.std.proofs.lemmas.List.{take_more, take_all, get_or-reverse, length-reverse}
use Rattle.jf_model.specs.Versions.{Versions, IsVersions, root_of}
use Rattle.jf_totals.specs.Texts.{recorded_roots}

-- how many there are
pub recorded-count : (v : Versions) → IsVersions v → length (recorded_roots v) ≡ v.head - v.base + 1
recorded-count v sound = length-reverse v.roots ∙ sound.root_each

-- the root of a version stands at its place
pub recorded-root : (v : Versions) (i : ℕ) → IsVersions v → i ≤ v.head - v.base → get_or (recorded_roots v) i [] ≡ root_of v (v.base + i)
recorded-root v i sound within =
    let count = sound.root_each in
    let at : length v.roots - 1 - i ≡ v.head - (v.base + i) = omega arith in
    get_or-reverse v.roots i [] (omega arith) ∙ ap (λ n. get_or v.roots n []) at

pub recorded-more : (v : Versions) (i : ℕ) (hs new : List (List ℕ)) (root : List ℕ) → IsVersions v → i < v.head - v.base + 1 → hs ≡ take i (recorded_roots v) → root ≡ root_of v (v.base + i) → new ≡ hs ++ root ∷ [] → new ≡ take (i + 1) (recorded_roots v)
recorded-more v i hs new root sound within so_far is pushed =
    let count = recorded-count v sound in
    pushed ∙ ap (λ (h : List (List ℕ)). h ++ root ∷ []) so_far ∙ ap (λ (r : List ℕ). take i (recorded_roots v) ++ r ∷ []) (is ∙ sym (recorded-root v i sound (omega arith)))
    ∙ sym (take_more (recorded_roots v) i [] (omega arith))

pub recorded-all : (v : Versions) (i : ℕ) (hs : List (List ℕ)) → IsVersions v → v.head - v.base + 1 ≤ i → hs ≡ take i (recorded_roots v) → hs ≡ recorded_roots v
recorded-all v i hs sound past so_far = so_far ∙ take_all i (recorded_roots v) (omega (arith, recorded-count v sound))
