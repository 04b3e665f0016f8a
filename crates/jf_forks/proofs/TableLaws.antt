-- The forks that stay in a table are those of the definition, and they keep their maps.
use Rattle.std.proofs.Common.{◌≡◌, ℕ, true, false, cond, ◌||◌, ◌==◌, List, [], ◌∷◌, refl, ap, sym, ◌∙◌, true≢false, ◌≤◌, subst, le_refl, Some}
use Rattle.std.proofs.lemmas.Bool.{eqb-true, ne_eqb, or_right}
use Rattle.jf_path.proofs.BoolLaws.{or_false_right}
use Rattle.jf_hash.specs.Maps.{Map, apply}
use Rattle.jf_model.specs.Forks.{descends, without, on_head, forks_after_landing, Fork, of_parent, is_among, chain, batches, parent_map, AreForks, fork_map}
use Rattle.jf_model.specs.Batches.{apply_all}
use Rattle.jf_model.specs.declared.entries.Parent.{Parent}
use Rattle.jf_model.specs.declared.entries.Parent.TheVariants as parent
use Rattle.jf_model.proofs.ForkLaws.{chain-without, fork_map-settled, fork_map-older}
use Rattle.jf_model.proofs.ForkLists.{none_above, below_parent, chain-among}
use Rattle.jf_forks.specs.Tables.{ForkWithMap, forks_of, grown_without, grown_settled, AreGrown, map_of_fork}

-- the forks that stay are those of the definition
pub forks_of-grown_without : (id : ℕ) (gs : List ForkWithMap) → forks_of (grown_without id gs) ≡ without id (forks_of gs)
forks_of-grown_without id [] = refl
forks_of-grown_without id (g ∷ gs) =
    elim (g.fork.id == id || descends id (forks_of gs) g.fork) as (λ b. forks_of (cond b (grown_without id gs) (g ∷ grown_without id gs)) ≡ cond b (without id (forks_of gs)) (g.fork ∷ without id (forks_of gs))) [
      | true ↦ forks_of-grown_without id gs
      | false ↦ ap (λ fs. g.fork ∷ fs) (forks_of-grown_without id gs)
    ]

pub forks_of-grown_settled : (id : ℕ) (gs : List ForkWithMap) → forks_of (grown_settled id gs) ≡ forks_after_landing id (forks_of gs)
forks_of-grown_settled id [] = refl
forks_of-grown_settled id (g ∷ gs) =
    elim (descends id (forks_of gs) g.fork) as (λ b. forks_of (cond b (record { fork = on_head id g.fork; map = g.map } ∷ grown_settled id gs) (grown_settled id gs)) ≡ cond b (on_head id g.fork ∷ forks_after_landing id (forks_of gs)) (forks_after_landing id (forks_of gs))) [
      | true ↦ ap (λ fs. on_head id g.fork ∷ fs) (forks_of-grown_settled id gs)
      | false ↦ forks_of-grown_settled id gs
    ]

-- ---- maps when one is dropped
parent_map-kept : (m : Map) (id : ℕ) (fs : List Fork) (p : Parent) → is_among id (of_parent [] (chain fs) p) ≡ false → parent_map m (without id fs) p ≡ parent_map m fs p
parent_map-kept m id fs parent.Head h = refl
parent_map-kept m id fs (parent.Fork q) h = ap (λ c. fork_map_of c) (chain-without id fs q h)
  where
    fork_map_of : List Fork → Map
    fork_map_of c = apply_all m (batches c)

-- forks that stay after a drop keep their maps
pub AreGrown-grown_without : (m : Map) (id : ℕ) (gs : List ForkWithMap) → AreGrown m gs → AreGrown m (grown_without id gs)
AreGrown-grown_without m id [] h = tt
AreGrown-grown_without m id (g ∷ gs) h =
    elim (g.fork.id == id || descends id (forks_of gs) g.fork) as (λ b. (g.fork.id == id || descends id (forks_of gs) g.fork) ≡ b → AreGrown m (cond b (grown_without id gs) (g ∷ grown_without id gs))) [
      | true ↦ λ is. AreGrown-grown_without m id gs h.1
      | false ↦ λ is. (
        h.0 ∙ ap (λ n. apply n g.fork.batch) (sym (ap (λ fs. parent_map m fs g.fork.parent) (forks_of-grown_without id gs) ∙ parent_map-kept m id (forks_of gs) g.fork.parent (or_false_right (g.fork.id == id) _ is))),
        AreGrown-grown_without m id gs h.1,
      )
    ] refl

-- ---- maps when one has landed
-- the parent's map of a fork that stays is the same over the new head
parent_map-landed : (m n : Map) (bound id : ℕ) (fs : List Fork) (p : Parent) → AreForks bound fs → is_among id (of_parent [] (chain fs) p) ≡ true → n ≡ fork_map m fs id
    → parent_map n (forks_after_landing id fs) (of_parent parent.Head (λ q. cond (q == id) parent.Head (parent.Fork q)) p) ≡ parent_map m fs p
parent_map-landed m n bound id fs parent.Head sound h is = absurd (true≢false (sym h))
parent_map-landed m n bound id fs (parent.Fork q) sound h is =
    elim (q == id) as (λ b. (q == id) ≡ b → parent_map n (forks_after_landing id fs) (cond b parent.Head (parent.Fork q)) ≡ fork_map m fs q) [
      | true ↦ λ same. is ∙ ap (fork_map m fs) (sym (eqb-true q id same))
      | false ↦ λ apart. ap (λ k. fork_map k (forks_after_landing id fs) q) is ∙ fork_map-settled m bound id fs sound q h apart
    ] refl

pub AreGrown-grown_settled : (m n : Map) (bound id : ℕ) (gs : List ForkWithMap) → AreForks bound (forks_of gs) → AreGrown m gs → (is_among id (forks_of gs) ≡ true → n ≡ fork_map m (forks_of gs) id) → AreGrown n (grown_settled id gs)
AreGrown-grown_settled m n bound id [] sound h is = tt
AreGrown-grown_settled m n bound id (g ∷ gs) sound h is =
    let older : is_among id (forks_of gs) ≡ true → n ≡ fork_map m (forks_of gs) id = λ among.
    let other : (g.fork.id == id) ≡ false = ne_eqb g.fork.id id (λ same. true≢false (sym among ∙ none_above g.fork.id id (forks_of gs) sound.2 (subst (λ k. g.fork.id ≤ k) same (le_refl g.fork.id)))) in
    is (ap (λ b. b || is_among id (forks_of gs)) other ∙ among) ∙ fork_map-older m g.fork (forks_of gs) id other in
    elim (descends id (forks_of gs) g.fork) as (λ b. descends id (forks_of gs) g.fork ≡ b → AreGrown n (cond b (record { fork = on_head id g.fork; map = g.map } ∷ grown_settled id gs) (grown_settled id gs))) [
      | true ↦ λ stands. (
        h.0
            ∙ ap (λ k. apply k g.fork.batch)
            (sym (ap (λ fs. parent_map n fs (on_head id g.fork).parent) (forks_of-grown_settled id gs)
            ∙ parent_map-landed m n g.fork.id id (forks_of gs) g.fork.parent sound.2 stands (older (below_parent id (forks_of gs) (chain-among id (forks_of gs)) g.fork.parent stands)))),
        AreGrown-grown_settled m n g.fork.id id gs sound.2 h.1 older,
      )
      | false ↦ λ gone. AreGrown-grown_settled m n g.fork.id id gs sound.2 h.1 older
    ] refl

-- ---- the maps in the table
-- a fork has another number than each older one
apart_from_older : (y : ℕ) (g : ForkWithMap) (gs : List ForkWithMap) → AreForks g.fork.id (forks_of gs) → is_among y (forks_of gs) ≡ true → (g.fork.id == y) ≡ false
apart_from_older y g gs sound among =
    ne_eqb g.fork.id y (λ same. true≢false (sym among ∙ none_above g.fork.id y (forks_of gs) sound (subst (λ k. g.fork.id ≤ k) same (le_refl g.fork.id))))

among-grown_without : (id y : ℕ) (gs : List ForkWithMap) → is_among y (forks_of (grown_without id gs)) ≡ true → is_among y (forks_of gs) ≡ true
among-grown_without id y [] = λ h. h
among-grown_without id y (g ∷ gs) =
    elim (g.fork.id == id || descends id (forks_of gs) g.fork) as (λ b. is_among y (forks_of (cond b (grown_without id gs) (g ∷ grown_without id gs))) ≡ true → is_among y (forks_of (g ∷ gs)) ≡ true) [
      | true ↦ λ h. or_right (g.fork.id == y) _ (among-grown_without id y gs h)
      | false ↦ elim (g.fork.id == y) as (λ b. (b || is_among y (forks_of (grown_without id gs))) ≡ true → (b || is_among y (forks_of gs)) ≡ true) [ true ↦ λ h. refl | false ↦ λ h. among-grown_without id y gs h ]
    ]

among-grown_settled : (id y : ℕ) (gs : List ForkWithMap) → is_among y (forks_of (grown_settled id gs)) ≡ true → is_among y (forks_of gs) ≡ true
among-grown_settled id y [] = λ h. h
among-grown_settled id y (g ∷ gs) =
    elim (descends id (forks_of gs) g.fork) as (λ b. is_among y (forks_of (cond b (record { fork = on_head id g.fork; map = g.map } ∷ grown_settled id gs) (grown_settled id gs))) ≡ true → is_among y (forks_of (g ∷ gs)) ≡ true) [
      | true ↦ elim (g.fork.id == y) as (λ b. (b || is_among y (forks_of (grown_settled id gs))) ≡ true → (b || is_among y (forks_of gs)) ≡ true) [ true ↦ λ h. refl | false ↦ λ h. among-grown_settled id y gs h ]
      | false ↦ λ h. or_right (g.fork.id == y) _ (among-grown_settled id y gs h)
    ]

-- each fork that stays when one is dropped has the map that it had
pub map_of_fork-grown_without : (bound id y : ℕ) (gs : List ForkWithMap) → AreForks bound (forks_of gs) → is_among y (forks_of (grown_without id gs)) ≡ true → map_of_fork y (grown_without id gs) ≡ map_of_fork y gs
map_of_fork-grown_without bound id y [] sound = λ h. refl
map_of_fork-grown_without bound id y (g ∷ gs) sound =
    let older = map_of_fork-grown_without g.fork.id id y gs sound.2 in
    elim (g.fork.id == id || descends id (forks_of gs) g.fork) as (λ b. is_among y (forks_of (cond b (grown_without id gs) (g ∷ grown_without id gs))) ≡ true → map_of_fork y (cond b (grown_without id gs) (g ∷ grown_without id gs)) ≡ map_of_fork y (g ∷ gs)) [
      | true ↦ λ h. older h ∙ ap (λ b. cond b (Some g.map) (map_of_fork y gs)) (sym (apart_from_older y g gs sound.2 (among-grown_without id y gs h)))
      | false ↦ elim (g.fork.id == y) as (λ b. (b || is_among y (forks_of (grown_without id gs))) ≡ true → cond b (Some g.map) (map_of_fork y (grown_without id gs)) ≡ cond b (Some g.map) (map_of_fork y gs)) [ true ↦ λ h. refl | false ↦ λ h. older h ]
    ]

-- each fork that stays when one has landed has the map that it had
pub map_of_fork-grown_settled : (bound id y : ℕ) (gs : List ForkWithMap) → AreForks bound (forks_of gs) → is_among y (forks_of (grown_settled id gs)) ≡ true → map_of_fork y (grown_settled id gs) ≡ map_of_fork y gs
map_of_fork-grown_settled bound id y [] sound = λ h. refl
map_of_fork-grown_settled bound id y (g ∷ gs) sound =
    let older = map_of_fork-grown_settled g.fork.id id y gs sound.2 in
    let there : ForkWithMap = record { fork = on_head id g.fork; map = g.map } in
    elim (descends id (forks_of gs) g.fork) as (λ b. is_among y (forks_of (cond b (there ∷ grown_settled id gs) (grown_settled id gs))) ≡ true → map_of_fork y (cond b (there ∷ grown_settled id gs) (grown_settled id gs)) ≡ map_of_fork y (g ∷ gs)) [
      | true ↦ elim (g.fork.id == y) as (λ b. (b || is_among y (forks_of (grown_settled id gs))) ≡ true → cond b (Some g.map) (map_of_fork y (grown_settled id gs)) ≡ cond b (Some g.map) (map_of_fork y gs)) [ true ↦ λ h. refl | false ↦ λ h. older h ]
      | false ↦ λ h. older h ∙ ap (λ b. cond b (Some g.map) (map_of_fork y gs)) (sym (apart_from_older y g gs sound.2 (among-grown_settled id y gs h)))
    ]
