-- Two sound standings with the same maps, and the same versions of nodes at the floor, have the same nodes.
use Rattle.std.proofs.Common.{◌≡◌, ℕ, zero, suc, ◌+◌, ◌-◌, ◌<◌, ◌≤◌, true, false, cond, inl, inr, refl, sym, ap, ap₂, ◌∙◌, subst, arith, true≢false, [], ◌∷◌, ◌++◌, length, Contains}
use Rattle.std.proofs.lemmas.Bool.{cases_lt}
use Rattle.std.specs.FinMap.{entries}
use Rattle.jf_path.proofs.FilterLaws.{Contains-filter, filter-Contains, filter-passes}
use Rattle.jf_path.proofs.ListLaws.{All-of}
use Rattle.jf_path.proofs.NumberLaws.{same_number, number_tells}
use Rattle.jf_model.specs.Nodes.{Path, is_node, is_fresh, under, plain_node}
use Rattle.jf_codec.specs.declared.format.Format.{Format}
use Rattle.jf_standing.specs.Named.{is_alive, is_written, is_at, written_nodes_at, version_at, map_at, NamedNode, is_stale, alive_nodes_at, stale_nodes_at}
use Rattle.jf_standing.specs.Standing.{Standing}
use Rattle.jf_standing.specs.Sound.{IsSound, is_counted}
use Rattle.jf_standing.proofs.Lists.{one-true}
use Rattle.jf_standing.proofs.Counts.{count-some, count-which, count-one}
use Rattle.jf_standing.proofs.Sinces.{alive-tells, alive-so, version-before, version-low, since-high}
use Rattle.jf_standing.proofs.Unmoved.{at-tells, at-so, alive-there}
use Rattle.jf_standing.proofs.Alive.{version-of, plain_node-same}
use Rattle.jf_standing.proofs.Unique.{few-alive}
use Rattle.jf_standing.proofs.Found.{test_so}
use Rattle.jf_standing.proofs.Freshness.{stale-node, child-node}
use Rattle.jf_standing.proofs.Stands.{stands}

-- the version of a node after a step: that of the step if it wrote the node, otherwise the version before
pub version-step : (fmt : Format) (s : Standing) → IsSound fmt s → (w : ℕ) → s.floor < w → w ≤ s.head → (p : Path) → is_node 0 p (entries (map_at w s.nodes)) ≡ true
    → version_at w s.nodes p ≡ cond (is_fresh (entries (map_at (w - 1) s.nodes)) (entries (map_at w s.nodes)) p) w (version_at (w - 1) s.nodes p)
version-step fmt s sound w late high p node =
    let step = sound.steps w late high in
    let few = few-alive fmt s sound w (omega arith) high p in
    let few_before = few-alive fmt s sound (w - 1) (omega arith) (omega arith) p in
    elim (is_fresh (entries (map_at (w - 1) s.nodes)) (entries (map_at w s.nodes)) p) as (λ b. is_fresh (entries (map_at (w - 1) s.nodes)) (entries (map_at w s.nodes)) p ≡ b → version_at w s.nodes p ≡ cond b w (version_at (w - 1) s.nodes p)) [
      | true ↦ λ is.
          let n = count-which (is_at p) (written_nodes_at w s.nodes) (omega (arith, step.fresh p, one-true _ is)) in
          let stood = filter-Contains (is_written w) s.nodes n.0 n.1 in
          let at = number_tells n.0.0.version w (filter-passes (is_written w) s.nodes n.0 n.1) in
          version-of w s.nodes p n.0 few (Contains-filter (is_alive w) s.nodes n.0 stood (alive-so w n.0 (omega arith) (let up = version-before fmt s sound n.0 stood in omega arith))) (at-tells p n.0 n.2) ∙ at
      | false ↦ λ is.
          let n = alive-there fmt s sound w (omega arith) high p node in
          let stood = filter-Contains (is_alive w) s.nodes n.0 n.1 in
          let tells = alive-tells w n.0 (filter-passes (is_alive w) s.nodes n.0 n.1) in
          let earlier : n.0.0.version < w = elim (cases_lt n.0.0.version w) [
            | inl lt ↦ lt
            | inr ge ↦ absurd (true≢false (sym (test_so _ _ (step.fresh p) (count-some (is_at p) (written_nodes_at w s.nodes) n.0 (Contains-filter (is_written w) s.nodes n.0 stood (same_number n.0.0.version w (let low = tells.0 in omega arith))) (at-so p n.0 n.2))) ∙ is))
          ] in
          let alive = Contains-filter (is_alive (w - 1)) s.nodes n.0 stood (alive-so (w - 1) n.0 (omega arith) (let up = tells.1 in omega arith)) in
          version-of w s.nodes p n.0 few n.1 n.2 ∙ sym (version-of (w - 1) s.nodes p n.0 few_before alive n.2)
    ] refl

module _ (fmt : Format) (s t : Standing) (s_sound : IsSound fmt s) (t_sound : IsSound fmt t) (same_floor : t.floor ≡ s.floor) (same_head : t.head ≡ s.head)
    (same_maps : (w : ℕ) → s.floor ≤ w → w ≤ s.head → map_at w t.nodes ≡ map_at w s.nodes)
    (same_versions : (p : Path) → is_node 0 p (entries (map_at s.floor s.nodes)) ≡ true → version_at s.floor t.nodes p ≡ version_at s.floor s.nodes p) where
  versions_from : (k w : ℕ) → w ≡ s.floor + k → w ≤ s.head → (p : Path) → is_node 0 p (entries (map_at w s.nodes)) ≡ true → version_at w t.nodes p ≡ version_at w s.nodes p
  versions_from zero w at high p node =
      let e : s.floor ≡ w = omega arith in
      subst (λ v. version_at v t.nodes p ≡ version_at v s.nodes p) e (same_versions p (ap (λ v. is_node 0 p (entries (map_at v s.nodes))) e ∙ node))
  versions_from (suc k) w at high p node =
      let here = same_maps w (omega arith) high in
      let before = same_maps (w - 1) (omega arith) (omega arith) in
      version-step fmt t t_sound w (omega arith) (omega arith) p (ap (λ m. is_node 0 p (entries m)) here ∙ node)
      ∙ ap₂ (λ a b. cond (is_fresh (entries a) (entries b) p) w (version_at (w - 1) t.nodes p)) before here
      ∙ (elim (is_fresh (entries (map_at (w - 1) s.nodes)) (entries (map_at w s.nodes)) p) as (λ b. is_fresh (entries (map_at (w - 1) s.nodes)) (entries (map_at w s.nodes)) p ≡ b → cond b w (version_at (w - 1) t.nodes p) ≡ cond b w (version_at (w - 1) s.nodes p)) [
        | true ↦ λ is. refl
        | false ↦ λ is. versions_from k (w - 1) (omega arith) (omega arith) p (stale-node (entries (map_at (w - 1) s.nodes)) (entries (map_at w s.nodes)) p node is).0
      ] refl)
      ∙ sym (version-step fmt s s_sound w (omega arith) high p node)

  -- at each version the nodes of both standings have the same versions
  pub same_version : (w : ℕ) → s.floor ≤ w → w ≤ s.head → (p : Path) → is_node 0 p (entries (map_at w s.nodes)) ≡ true → version_at w t.nodes p ≡ version_at w s.nodes p
  same_version w low high p node = versions_from (w - s.floor) w (omega arith) high p node

-- a node goes stale at the next version whose step makes the node at its path stale
stale_alike : (fmt : Format) (t : Standing) → IsSound fmt t → (k : NamedNode) → Contains t.nodes k → (x : ℕ) → t.floor < x → x ≤ t.head → k.0.version < x → x ≤ k.2 → is_fresh (entries (map_at x t.nodes)) (entries (map_at (x - 1) t.nodes)) k.0.path ≡ true → k.2 ≡ x
stale_alike fmt t sound k has x late high written up is =
    let step = sound.steps x late high in
    let p = k.0.path in
    let z = count-which (is_at p) (stale_nodes_at x t.nodes) (omega (arith, step.stale p, one-true _ is)) in
    let stood = filter-Contains (is_stale x) t.nodes z.0 z.1 in
    let at = number_tells z.0.2 x (filter-passes (is_stale x) t.nodes z.0 z.1) in
    let alive = All-of _ (stale_nodes_at x t.nodes) z.0 step.stood z.1 in
    let same = count-one (is_at p) (alive_nodes_at (x - 1) t.nodes) k z.0 (few-alive fmt t sound (x - 1) (omega arith) (omega arith) p)
    (Contains-filter (is_alive (x - 1)) t.nodes k has (alive-so (x - 1) k (omega arith) (omega arith))) (Contains-filter (is_alive (x - 1)) t.nodes z.0 stood alive) (at-so p k refl) z.2 in
    ap (λ (n : NamedNode). n.2) same ∙ at

module _ (fmt : Format) (s t : Standing) (s_sound : IsSound fmt s) (t_sound : IsSound fmt t) (same_floor : t.floor ≡ s.floor) (same_head : t.head ≡ s.head)
    (same_maps : (w : ℕ) → s.floor ≤ w → w ≤ s.head → map_at w t.nodes ≡ map_at w s.nodes)
    (same_versions : (p : Path) → is_node 0 p (entries (map_at s.floor s.nodes)) ≡ true → version_at s.floor t.nodes p ≡ version_at s.floor s.nodes p) where
  -- the node of the other standing with the same name and content
  twin : (n : NamedNode) → Contains s.nodes n → (w : ℕ) → s.floor ≤ w → w ≤ s.head → is_alive w n ≡ true → (k : NamedNode) × Contains (alive_nodes_at w t.nodes) k × (k.0 ≡ n.0) × (k.1 ≡ n.1)
  twin n has w low high alive =
      let p = n.0.path in
      let here = same_maps w low high in
      let n_in = Contains-filter (is_alive w) s.nodes n has alive in
      let node = test_so _ _ (stands fmt s s_sound w low high p) (count-some (is_at p) (alive_nodes_at w s.nodes) n n_in (at-so p n refl)) in
      let k = alive-there fmt t t_sound w (omega arith) (omega arith) p (ap (λ m. is_node 0 p (entries m)) here ∙ node) in
      let versions = same_version fmt s t s_sound t_sound same_floor same_head same_maps same_versions w low high in
      let v : k.0.0.version ≡ n.0.version =
      sym (version-of w t.nodes p k.0 (few-alive fmt t t_sound w (omega arith) (omega arith) p) k.1 k.2) ∙ versions p node ∙ version-of w s.nodes p n (few-alive fmt s s_sound w low high p) n_in refl in (
        k.0,
        k.1,
        ap₂ (λ v q. record { version = v; path = q }) v k.2,
        All-of _ (alive_nodes_at w t.nodes) k.0 (t_sound.versions w (omega arith) (omega arith)).nodes k.1
            ∙ ap (λ q. plain_node (is_counted fmt) (λ i. version_at w t.nodes (q ++ i ∷ [])) (length q) (under 0 q (entries (map_at w t.nodes)))) k.2
            ∙ ap (λ m. plain_node (is_counted fmt) (λ i. version_at w t.nodes (p ++ i ∷ [])) (length p) (under 0 p (entries m))) here
            ∙ plain_node-same (is_counted fmt) (λ i. version_at w t.nodes (p ++ i ∷ [])) (λ i. version_at w s.nodes (p ++ i ∷ [])) (length p) (under 0 p (entries (map_at w s.nodes))) (λ i some. versions (p ++ i ∷ []) (child-node (entries (map_at w s.nodes)) p i node some))
            ∙ sym (All-of _ (alive_nodes_at w s.nodes) n (s_sound.versions w low high).nodes n_in),
      )

  -- both nodes are stale since the same version
  twin_since : (n k : NamedNode) → Contains s.nodes n → Contains t.nodes k → k.0 ≡ n.0 → (w : ℕ) → s.floor ≤ w → w ≤ s.head → is_alive w n ≡ true → is_alive w k ≡ true → k.2 ≡ n.2
  twin_since n k has_n has_k same w low high alive_n alive_k =
      let tells_n = alive-tells w n alive_n in
      let tells_k = alive-tells w k alive_k in
      let up_n = tells_n.1 in
      let up_k = tells_k.1 in
      let down_n = tells_n.0 in
      let v : k.0.version ≡ n.0.version = ap (λ z. z.version) same in
      let p : k.0.path ≡ n.0.path = ap (λ z. z.path) same in
      elim (cases_lt n.2 k.2) [
        | inl sooner ↦ elim (All-of _ s.nodes n s_sound.gone has_n) [
          | inl none ↦ absurd (elim (All-of _ t.nodes k t_sound.gone has_k) [ inl none' ↦ omega arith | inr late' ↦ let top = late'.1 in let last = t_sound.head_last in omega arith ])
          | inr late ↦
              let x = n.2 in
              let above = late.0 in
              let below = late.1 in
              let here = same_maps x (omega arith) below in
              let before = same_maps (x - 1) (omega arith) (omega arith) in
              let stale : is_fresh (entries (map_at x s.nodes)) (entries (map_at (x - 1) s.nodes)) n.0.path ≡ true = test_so _ _ ((s_sound.steps x above below).stale n.0.path) (count-some (is_at n.0.path) (stale_nodes_at x s.nodes) n (Contains-filter (is_stale x) s.nodes n has_n (same_number x x refl)) (at-so n.0.path n refl)) in
              stale_alike fmt t t_sound k has_k x (omega arith) (omega arith) (omega arith) (omega arith) (ap₂ (λ a b. is_fresh (entries a) (entries b) k.0.path) here before ∙ ap (λ q. is_fresh (entries (map_at x s.nodes)) (entries (map_at (x - 1) s.nodes)) q) p ∙ stale)
        ]
        | inr later ↦ elim (cases_lt k.2 n.2) [
          | inr same_since ↦ omega arith
          | inl sooner ↦ elim (All-of _ t.nodes k t_sound.gone has_k) [
            | inl none ↦ absurd (elim (All-of _ s.nodes n s_sound.gone has_n) [ inl none' ↦ omega arith | inr late' ↦ let top = late'.1 in let last = s_sound.head_last in omega arith ])
            | inr late ↦
                let x = k.2 in
                let above = late.0 in
                let below = late.1 in
                let here = same_maps x (omega arith) (omega arith) in
                let before = same_maps (x - 1) (omega arith) (omega arith) in
                let stale : is_fresh (entries (map_at x t.nodes)) (entries (map_at (x - 1) t.nodes)) k.0.path ≡ true = test_so _ _ ((t_sound.steps x above below).stale k.0.path) (count-some (is_at k.0.path) (stale_nodes_at x t.nodes) k (Contains-filter (is_stale x) t.nodes k has_k (same_number x x refl)) (at-so k.0.path k refl)) in
                sym (stale_alike fmt s s_sound n has_n x (omega arith) (omega arith) (omega arith) (omega arith) (ap₂ (λ a b. is_fresh (entries a) (entries b) n.0.path) (sym here) (sym before) ∙ ap (λ q. is_fresh (entries (map_at x t.nodes)) (entries (map_at (x - 1) t.nodes)) q) (sym p) ∙ stale))
          ]
        ]
      ]

  -- each node of one standing is a node of the other
  pub same-standing : (n : NamedNode) → Contains s.nodes n → Contains t.nodes n
  same-standing n has = elim (cases_lt s.floor n.0.version) [
    | inl late ↦ at n.0.version (omega arith) (version-low fmt s s_sound n has) (alive-so n.0.version n (omega arith) (version-before fmt s s_sound n has))
    | inr early ↦ at s.floor (omega arith) s_sound.floor_low (alive-so s.floor n early (since-high fmt s s_sound n has))
  ]
    where
      at : (w : ℕ) → s.floor ≤ w → w ≤ s.head → is_alive w n ≡ true → Contains t.nodes n
      at w low high alive =
          let k = twin n has w low high alive in
          let k_in = filter-Contains (is_alive w) t.nodes k.0 k.1 in
          let since = twin_since n k.0 has k_in k.2 w low high alive (filter-passes (is_alive w) t.nodes k.0 k.1) in
          subst (λ z. Contains t.nodes z) (let e : k.0 ≡ n = λ i. (k.2 i, k.3 i, since i) in e) k_in
