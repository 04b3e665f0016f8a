-- A table after a drop, and after a landing.
use Rattle.std.proofs.Common.{◌≤◌, ℕ, true, false, cond, ◌||◌, ◌==◌, List, [], ◌∷◌, length, arith, sym, ap, ◌∙◌, subst, ◌≡◌, refl, Option, None, Some}
use Rattle.jf_hash.specs.Maps.{Map}
use Rattle.jf_model.specs.Forks.{descends, on_head, AreForks, fork_map, is_among}
use Rattle.jf_model.proofs.EntryLaws.{AreForks-without, AreForks-settled}
use Rattle.jf_forks.specs.Tables.{ForkWithMap, forks_of, grown_without, grown_settled, IsTable, Table, AreGrown, StandsOver, map_of_fork}
use Rattle.jf_forks.specs.Worked.{IsWorkedFrom}
use Rattle.jf_forks.proofs.TableLaws.{forks_of-grown_without, forks_of-grown_settled, AreGrown-grown_without, AreGrown-grown_settled, map_of_fork-grown_without, map_of_fork-grown_settled}

few_kept : (id : ℕ) (gs : List ForkWithMap) → length (grown_without id gs) ≤ length gs
few_kept id [] = omega arith
few_kept id (g ∷ gs) =
    let rest = few_kept id gs in
    elim (g.fork.id == id || descends id (forks_of gs) g.fork) as (λ b. length (cond b (grown_without id gs) (g ∷ grown_without id gs)) ≤ length (g ∷ gs)) [ true ↦ omega arith | false ↦ omega arith ]

few_landed : (id : ℕ) (gs : List ForkWithMap) → length (grown_settled id gs) ≤ length gs
few_landed id [] = omega arith
few_landed id (g ∷ gs) =
    let rest = few_landed id gs in
    elim (descends id (forks_of gs) g.fork) as (λ b. length (cond b (record { fork = on_head id g.fork; map = g.map } ∷ grown_settled id gs) (grown_settled id gs)) ≤ length (g ∷ gs)) [ true ↦ omega arith | false ↦ omega arith ]

pub table_kept : (made id : ℕ) (gs hs : List ForkWithMap) → IsWorkedFrom 0 (grown_without id) gs hs → IsTable (record { made = made; live = gs }) → IsTable (record { made = made; live = hs })
table_kept made id gs hs w t = record {
  forks = subst (AreForks made) (sym (ap forks_of w.back ∙ forks_of-grown_without id gs)) (AreForks-without made id (forks_of gs) t.forks);
  few = omega (arith, ap length w.back, few_kept id gs, t.few);
}

pub table_landed : (made id : ℕ) (gs hs : List ForkWithMap) → IsWorkedFrom 0 (grown_settled id) gs hs → IsTable (record { made = made; live = gs }) → IsTable (record { made = made; live = hs })
table_landed made id gs hs w t = record {
  forks = subst (AreForks made) (sym (ap forks_of w.back ∙ forks_of-grown_settled id gs)) (AreForks-settled made id (forks_of gs) t.forks);
  few = omega (arith, ap length w.back, few_landed id gs, t.few);
}

pub stands_kept : (made id : ℕ) (gs hs : List ForkWithMap) (old : Table) → record { made = made; live = gs } ≡ old → IsWorkedFrom 0 (grown_without id) gs hs → (m : Map) → StandsOver m old → AreGrown m hs
stands_kept made id gs hs old seen w m h = subst (AreGrown m) (sym w.back) (AreGrown-grown_without m id gs (subst (λ t. AreGrown m t.live) (sym seen) h))

pub stands_landed : (made id : ℕ) (gs hs : List ForkWithMap) (old : Table) → record { made = made; live = gs } ≡ old → IsWorkedFrom 0 (grown_settled id) gs hs → IsTable (record { made = made; live = gs })
    → (o : Option ℕ) → o ≡ Some id → (m : Map) (i : ℕ) → o ≡ Some i → StandsOver m old → AreGrown (fork_map m (forks_of old.live) i) hs
stands_landed made id gs hs old seen w t o is m i other h =
    let same : id ≡ i = ap (λ x. get_number x) (sym is ∙ other) in
    subst (λ k. AreGrown (fork_map m (forks_of old.live) k) hs) same
    (subst (λ (q : Table). AreGrown (fork_map m (forks_of q.live) id) hs) seen
    (subst (AreGrown (fork_map m (forks_of gs) id)) (sym w.back) (AreGrown-grown_settled m (fork_map m (forks_of gs) id) made id gs t.forks (subst (λ q. AreGrown m q.live) (sym seen) h) (λ _. refl))))
  where
    get_number : Option ℕ → ℕ
    get_number None = 0
    get_number (Some n) = n

pub same_kept : (made id : ℕ) (gs hs : List ForkWithMap) (old : Table) → record { made = made; live = gs } ≡ old → IsWorkedFrom 0 (grown_without id) gs hs → IsTable (record { made = made; live = gs })
    → (y : ℕ) → is_among y (forks_of hs) ≡ true → map_of_fork y hs ≡ map_of_fork y old.live
same_kept made id gs hs old seen w t y h =
    ap (map_of_fork y) w.back ∙ map_of_fork-grown_without made id y gs t.forks (subst (λ ks. is_among y (forks_of ks) ≡ true) w.back h) ∙ ap (λ (q : Table). map_of_fork y q.live) seen

pub same_landed : (made id : ℕ) (gs hs : List ForkWithMap) (old : Table) → record { made = made; live = gs } ≡ old → IsWorkedFrom 0 (grown_settled id) gs hs → IsTable (record { made = made; live = gs })
    → (y : ℕ) → is_among y (forks_of hs) ≡ true → map_of_fork y hs ≡ map_of_fork y old.live
same_landed made id gs hs old seen w t y h =
    ap (map_of_fork y) w.back ∙ map_of_fork-grown_settled made id y gs t.forks (subst (λ ks. is_among y (forks_of ks) ≡ true) w.back h) ∙ ap (λ (q : Table). map_of_fork y q.live) seen
