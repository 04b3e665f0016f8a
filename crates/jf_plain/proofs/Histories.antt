-- The versions that are kept: at which place each stands, and that they stay sound.
use Rattle.std.proofs.Common.{◌≡◌, ◌+◌, ◌-◌, ◌<◌, List, [], ◌∷◌, ◌++◌, length, map, reverse, ap, ◌∙◌, arith, length-append, sym, ◌^◌, subst, ℕ, get_or, ◌≤◌}
use Rattle.std.proofs.lemmas.List.{reverse-append, get_or-reverse, get_or-map, length-reverse}
use Rattle.std.specs.FinMap as fin
use Rattle.jf_hash.specs.Maps.{Batch, apply, IsMap}
use Rattle.jf_hash.specs.Roots.{root}
use Rattle.jf_model.specs.Versions.{Versions, newest, versions_after_landing, IsVersions, new_store, root_of, map_of}
use Rattle.jf_model.proofs.VersionLaws.{landed_map-IsVersions, new_store-IsVersions}
use Rattle.jf_plain.specs.declared.versions.Version.{Version}
use Rattle.jf_plain.specs.KeptMaps.{versions_of_list, AreKeptVersions}

-- the versions of a list with one more version
pub versions_of_list-push : (vs : List Version) (x : Version) → 0 < length vs → versions_of_list (vs ++ x ∷ []) ≡ record { base = 0; floor = 0; head = length vs - 1 + 1; roots = x.root ∷ map (λ v. v.root) (reverse vs); maps = x.map ∷ map (λ v. v.map) (reverse vs) }
versions_of_list-push vs x some =
    let long : length (vs ++ x ∷ []) - 1 ≡ length vs - 1 + 1 = omega (arith, length-append vs (x ∷ [])) in
    ap (λ n. record { base = 0; floor = 0; head = n; roots = map (λ v. v.root) (reverse (vs ++ x ∷ [])); maps = map (λ v. v.map) (reverse (vs ++ x ∷ [])) }) long
    ∙ ap (λ ws. record { base = 0; floor = 0; head = length vs - 1 + 1; roots = map (λ v. v.root) ws; maps = map (λ v. v.map) ws }) (reverse-append vs (x ∷ []))

pub versions_of_list-landed : (vs : List Version) (x : Version) (v : Versions) (b : Batch) → 0 < length vs → versions_of_list vs ≡ v → x.map ≡ apply (newest v) b → x.root ≡ root x.map → versions_of_list (vs ++ x ∷ []) ≡ versions_after_landing b v
versions_of_list-landed vs x v b some is made rooted =
    versions_of_list-push vs x some
    ∙ ap (λ n. record { base = 0; floor = 0; head = length vs - 1 + 1; roots = n ∷ map (λ v. v.root) (reverse vs); maps = x.map ∷ map (λ v. v.map) (reverse vs) }) rooted
    ∙ ap (λ m. record { base = 0; floor = 0; head = length vs - 1 + 1; roots = root m ∷ map (λ v. v.root) (reverse vs); maps = m ∷ map (λ v. v.map) (reverse vs) }) (made ∙ ap (λ w. apply (newest w) b) (sym is))
    ∙ ap (versions_after_landing b) is

pub are-landed : (vs : List Version) (x : Version) (v : Versions) (b : Batch) → AreKeptVersions vs → versions_of_list vs ≡ v → x.map ≡ apply (newest v) b → x.root ≡ root x.map → IsMap x.map → v.head < 2 ^ 64 - 2 → AreKeptVersions (vs ++ x ∷ [])
are-landed vs x v b h is made rooted sound low =
    let head : length vs - 1 ≡ v.head = ap (λ w. w.head) is in
    let some = h.some in
    record {
      some = omega (arith, length-append vs (x ∷ []));
      few = omega (arith, length-append vs (x ∷ []));
      sound = subst IsVersions (sym (versions_of_list-landed vs x v b some is made rooted)) (landed_map-IsVersions b v (subst IsVersions is h.sound) (subst IsMap made sound));
    }

-- the versions of a list of one are a new store
pub versions_of_list-one : (vs ws : List Version) (x : Version) → ws ≡ [] → vs ≡ ws ++ x ∷ [] → x.map ≡ fin.empty → x.root ≡ root x.map → versions_of_list vs ≡ new_store
versions_of_list-one vs ws x none is empty rooted =
    ap versions_of_list (is ∙ ap (λ us. us ++ x ∷ []) none) ∙ ap (λ n. record { base = 0; floor = 0; head = 0; roots = n ∷ []; maps = x.map ∷ [] }) rooted ∙ ap (λ m. record { base = 0; floor = 0; head = 0; roots = root m ∷ []; maps = m ∷ [] }) empty

pub are-one : (vs ws : List Version) (x : Version) → ws ≡ [] → vs ≡ ws ++ x ∷ [] → x.map ≡ fin.empty → x.root ≡ root x.map → AreKeptVersions vs
are-one vs ws x none is empty rooted = record {
  some = subst (λ (us : List Version). 0 < length us) (sym (is ∙ ap (λ us. us ++ x ∷ []) none)) (omega arith);
  few = subst (λ (us : List Version). length us < 2 ^ 64) (sym (is ∙ ap (λ us. us ++ x ∷ []) none)) (omega arith);
  sound = subst IsVersions (sym (versions_of_list-one vs ws x none is empty rooted)) new_store-IsVersions;
}

at_place : {X : Type 0} (f : Version → X) (vs : List Version) (w : ℕ) (d : Version) (e : X) → w < length vs → get_or (map f (reverse vs)) (length vs - 1 - w) e ≡ f (get_or vs w d)
at_place f vs w d e lt =
    let turned : length vs - 1 - (length vs - 1 - w) ≡ w = omega arith in
    let inside : length vs - 1 - w < length (reverse vs) = omega (arith, length-reverse vs) in
    get_or-map f (reverse vs) (length vs - 1 - w) d e inside ∙ ap f (get_or-reverse vs (length vs - 1 - w) d (omega arith) ∙ ap (λ i. get_or vs i d) turned)

pub root-at_place : (vs : List Version) (v : Versions) (w : ℕ) (x : Version) → versions_of_list vs ≡ v → w < length vs → x ≡ get_or vs w x → x.root ≡ root_of v w
root-at_place vs v w x is lt at = ap (λ y. y.root) at ∙ sym (at_place (λ y. y.root) vs w x [] lt) ∙ ap (λ u. root_of u w) is

pub map-at_place : (vs : List Version) (v : Versions) (w : ℕ) (x : Version) → versions_of_list vs ≡ v → w < length vs → x ≡ get_or vs w x → x.map ≡ map_of v w
map-at_place vs v w x is lt at = ap (λ y. y.map) at ∙ sym (at_place (λ y. y.map) vs w x fin.empty lt) ∙ ap (λ u. map_of u w) is

pub within-head : (vs : List Version) (v : Versions) (w : ℕ) → versions_of_list vs ≡ v → w < length vs → w ≤ v.head
within-head vs v w is lt = let head : length vs - 1 ≡ v.head = ap (λ u. u.head) is in omega arith
