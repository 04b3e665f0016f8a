-- Lists of live forks whose back is worked from a place on, the oldest fork first.
use Rattle.std.proofs.Common.{◌≡◌, ℕ, zero, suc, List, [], ◌∷◌, take, refl, ap, ◌<◌, length, drop, arith, ◌+◌, ◌-◌, sym, ◌∙◌, add-one, ◌≤◌, map, get_or, ap₂, set, subst, true, false, cond, ◌||◌, ◌==◌, length-drop, take_all, Bool, not, ◌&&◌}
use Rattle.std.proofs.lemmas.Bool.{eq-eqb, ne_eqb}
use Rattle.std.proofs.lemmas.List.{take-take, get_or-take, drop_more, take-set, drop-set, drop-map, map-set}
use Rattle.std.specs.FinMap as fin
use Rattle.std.specs.List.{remove}
use Rattle.jf_model.specs.Forks.{AreForks, Fork, descends, drop_count, is_parent, is_among, on_head, of_parent}
use Rattle.jf_model.specs.declared.entries.Parent.{Parent}
use Rattle.jf_model.specs.declared.entries.Parent.TheVariants as parent
use Rattle.jf_forks.specs.Tables.{ForkWithMap, forks_of, grown_without, grown_settled}
use Rattle.jf_forks.specs.Worked.{IsWorkedFrom}
use Rattle.jf_forks.specs.declared.live.LiveFork.{LiveFork}
use Rattle.jf_forks.specs.Lives.{fork_with_map}
use Rattle.jf_forks.proofs.TableLaws.{forks_of-grown_without, forks_of-grown_settled}
use Rattle.jf_forks.proofs.Stays.{stays_is, on_none, on_it, on_other}

-- ---- lists
module _ {X : Type 0} where
  take_removed : (xs : List X) (i : ℕ) → take i (remove xs i) ≡ take i xs
  take_removed [] zero = refl
  take_removed [] (suc i) = refl
  take_removed (x ∷ xs) zero = refl
  take_removed (x ∷ xs) (suc i) = ap (λ t. x ∷ t) (take_removed xs i)

  drop_after : (xs : List X) (i : ℕ) → i < length xs → drop i (remove xs i) ≡ drop (suc i) xs
  drop_after [] i lt = absurd (omega arith)
  drop_after (x ∷ xs) zero lt = refl
  drop_after (x ∷ xs) (suc i) lt = drop_after xs i (omega arith)

  drop_removed : (xs : List X) (i : ℕ) → i < length xs → drop i (remove xs i) ≡ drop (i + 1) xs
  drop_removed xs i lt = drop_after xs i lt ∙ ap (λ k. drop k xs) (sym (add-one i))

  length_removed : (xs : List X) (i : ℕ) → i < length xs → i ≤ length (remove xs i)
  length_removed [] i lt = absurd (omega arith)
  length_removed (x ∷ xs) zero lt = omega arith
  length_removed (x ∷ xs) (suc i) lt = let e = length_removed xs i (omega arith) in omega arith

map_removed : {X : Type 0} (h : X → ForkWithMap) (xs : List X) (i : ℕ) → map h (remove xs i) ≡ remove (map h xs) i
map_removed h [] zero = refl
map_removed h [] (suc i) = refl
map_removed h (x ∷ xs) zero = refl
map_removed h (x ∷ xs) (suc i) = ap (λ t. h x ∷ t) (map_removed h xs i)

-- ---- one more fork
-- at the end of the list nothing is worked yet
pub worked_none : (at : ℕ) (work : List ForkWithMap → List ForkWithMap) (gs : List ForkWithMap) → at ≡ length gs → work [] ≡ [] → IsWorkedFrom at work gs gs
worked_none at work gs is none = record { front = refl; back = past at gs is ∙ sym none ∙ ap work (sym (past at gs is)); within = omega arith }
  where
    past : (at : ℕ) (gs : List ForkWithMap) → at ≡ length gs → drop at gs ≡ []
    past zero [] is = refl
    past zero (g ∷ gs) is = absurd (omega arith)
    past (suc at) [] is = refl
    past (suc at) (g ∷ gs) is = past at gs (omega arith)

module _ (at : ℕ) (work : List ForkWithMap → List ForkWithMap) (old new : List ForkWithMap) (w : IsWorkedFrom (at + 1) work old new) where
  front_more : take at new ≡ take at old
  front_more = sym (take-take at (at + 1) new (omega arith)) ∙ ap (take at) w.front ∙ take-take at (at + 1) old (omega arith)

  -- the fork at the place is the one that was there
  pub same_fork : (d : ForkWithMap) → get_or new at d ≡ get_or old at d
  same_fork d = sym (get_or-take (at + 1) new at d (omega arith)) ∙ ap (λ xs. get_or xs at d) w.front ∙ get_or-take (at + 1) old at d (omega arith)

  long : at < length new
  long = let e = w.within in omega arith

  -- the fork at the place stays
  pub worked_stays : (d : ForkWithMap) → at < length old → work (get_or old at d ∷ drop (at + 1) old) ≡ get_or old at d ∷ work (drop (at + 1) old) → IsWorkedFrom at work old new
  worked_stays d lt is = record {
    front = front_more;
    back = drop_more new at d long ∙ ap₂ (λ g gs. g ∷ gs) (same_fork d) w.back ∙ sym is ∙ ap work (sym (drop_more old at d lt));
    within = let e = long in omega arith;
  }

  -- the fork at the place goes
  pub worked_goes : (d : ForkWithMap) → at < length old → work (get_or old at d ∷ drop (at + 1) old) ≡ work (drop (at + 1) old) → IsWorkedFrom at work old (remove new at)
  worked_goes d lt is = record {
    front = take_removed new at ∙ front_more;
    back = drop_removed new at long ∙ w.back ∙ sym is ∙ ap work (sym (drop_more old at d lt));
    within = length_removed new at long;
  }

  -- the fork at the place stays, changed
  pub worked_set : (d g : ForkWithMap) → at < length old → work (get_or old at d ∷ drop (at + 1) old) ≡ g ∷ work (drop (at + 1) old) → IsWorkedFrom at work old (set new at g)
  worked_set d g lt is = record {
    front = take-set new at g ∙ front_more;
    back = drop-set new at g long ∙ ap (λ gs. g ∷ gs) w.back ∙ sym is ∙ ap work (sym (drop_more old at d lt));
    within = let e = long in omega (arith, long_set new at g);
  }
    where
      long_set : (gs : List ForkWithMap) (i : ℕ) (g : ForkWithMap) → length (set gs i g) ≡ length gs
      long_set [] i g = refl
      long_set (h ∷ gs) zero g = refl
      long_set (h ∷ gs) (suc i) g = ap suc (long_set gs i g)

-- ---- the forks after a place
pub length_map : {X Y : Type 0} (h : X → Y) (xs : List X) → length (map h xs) ≡ length xs
length_map h [] = refl
length_map h (x ∷ xs) = ap suc (length_map h xs)

no_fork : ForkWithMap
no_fork = record { fork = record { id = 0; parent = parent.Head; batch = [] }; map = fin.empty }

-- the forks after a place are forks too
pub forks_after : (at bound : ℕ) (gs : List ForkWithMap) → at < length gs → AreForks bound (forks_of (drop at gs)) → (b : ℕ) × AreForks b (forks_of (drop (at + 1) gs))
forks_after at bound gs lt sound =
    let h : AreForks bound (forks_of (get_or gs at no_fork ∷ drop (at + 1) gs)) = subst (λ hs. AreForks bound (forks_of hs)) (drop_more gs at no_fork lt) sound in
    (_, h.2)

pub drop_count-few : (id : ℕ) (fs : List Fork) → drop_count id fs ≤ length fs
drop_count-few id [] = omega arith
drop_count-few id (f ∷ fs) =
    let rest = drop_count-few id fs in
    elim (f.id == id || descends id fs f) as (λ b. cond b (1 + drop_count id fs) (drop_count id fs) ≤ length (f ∷ fs)) [ true ↦ omega arith | false ↦ omega arith ]

-- the fork at a place and those dropped after it are no more than there are
pub count_room : (at id n : ℕ) (gs : List ForkWithMap) → at < length gs → n ≡ drop_count id (forks_of (drop (at + 1) gs)) → n + 1 ≤ length gs
count_room at id n gs within is = omega (arith, is, drop_count-few id (forks_of (drop (at + 1) gs)), length_map (λ g. g.fork) (drop (at + 1) gs), length-drop (at + 1) gs)

any_default : (ls : List LiveFork) (i : ℕ) (d e : LiveFork) → i < length ls → get_or ls i d ≡ get_or ls i e
any_default [] i d e lt = absurd (omega arith)
any_default (l ∷ ls) zero d e lt = refl
any_default (l ∷ ls) (suc i) d e lt = any_default ls i d e (omega arith)

module _ (at id bound : ℕ) (xs ys : List LiveFork) (x : LiveFork) (work : List ForkWithMap → List ForkWithMap) (w : IsWorkedFrom (at + 1) work (map fork_with_map xs) (map fork_with_map ys)) (lt : at < length xs) (is : x ≡ get_or ys at x) (sound : AreForks bound (forks_of (drop at (map fork_with_map xs)))) where
  rest : List ForkWithMap
  rest = drop (at + 1) (map fork_with_map xs)

  within : at < length (map fork_with_map xs)
  within = omega (arith, lt, length_map fork_with_map xs)

  pub same_here : get_or (map fork_with_map xs) at (fork_with_map x) ≡ fork_with_map x
  same_here = sym (same_fork at work (map fork_with_map xs) (map fork_with_map ys) w (fork_with_map x)) ∙ get_or_mapped ys at ∙ ap fork_with_map (sym is)
    where
      get_or_mapped : (ls : List LiveFork) (i : ℕ) → get_or (map fork_with_map ls) i (fork_with_map x) ≡ fork_with_map (get_or ls i x)
      get_or_mapped [] zero = refl
      get_or_mapped [] (suc i) = refl
      get_or_mapped (l ∷ ls) zero = refl
      get_or_mapped (l ∷ ls) (suc i) = get_or_mapped ls i

  pub here : drop at (map fork_with_map xs) ≡ fork_with_map x ∷ drop (at + 1) (map fork_with_map xs)
  here = drop_more (map fork_with_map xs) at (fork_with_map x) within ∙ ap (λ g. g ∷ drop (at + 1) (map fork_with_map xs)) same_here

  pub forks_here : AreForks bound ((fork_with_map x).fork ∷ forks_of (drop (at + 1) (map fork_with_map xs)))
  forks_here = subst (λ gs. AreForks bound (forks_of gs)) here sound

  -- the forks after the place are worked
  pub worked_after : map fork_with_map (take (length ys - (at + 1)) (drop (at + 1) ys)) ≡ work (drop (at + 1) (map fork_with_map xs))
  worked_after = ap (map fork_with_map) (take_all (length ys - (at + 1)) (drop (at + 1) ys) (omega (arith, length-drop (at + 1) ys))) ∙ sym (drop-map fork_with_map (at + 1) ys) ∙ w.back

  -- the worked forks after the place are forks
  pub after_forks : (zs : List LiveFork) → zs ≡ ys → (b : ℕ) → AreForks b (forks_of (work (drop (at + 1) (map fork_with_map xs)))) → AreForks b (forks_of (map fork_with_map (take (length zs - (at + 1)) (drop (at + 1) zs))))
  after_forks zs same b h = subst (λ gs. AreForks b (forks_of gs)) (sym (ap (λ ls. map fork_with_map (take (length ls - (at + 1)) (drop (at + 1) ls))) same ∙ worked_after)) h

  -- the test of a fork by the forks after it in the list
  pub tested : (t : Bool) (p : Parent) (zs : List LiveFork) → zs ≡ ys → t ≡ (not (x.id == id) && is_parent p (forks_of (map fork_with_map (take (length zs - (at + 1)) (drop (at + 1) zs))))) → t ≡ (not (x.id == id) && is_parent p (forks_of (work (drop (at + 1) (map fork_with_map xs)))))
  tested t p zs same h =
      h ∙ ap (λ ls. not (x.id == id) && is_parent p (forks_of (map fork_with_map (take (length ls - (at + 1)) (drop (at + 1) ls))))) same ∙ ap (λ gs. not (x.id == id) && is_parent p (forks_of gs)) worked_after

  pub looked_up : (t : Bool) (q : ℕ) (zs : List LiveFork) → zs ≡ ys → t ≡ is_among q (forks_of (map fork_with_map (take (length zs - (at + 1)) (drop (at + 1) zs)))) → t ≡ is_among q (forks_of (work (drop (at + 1) (map fork_with_map xs))))
  looked_up t q zs same h =
      h ∙ ap (λ ls. is_among q (forks_of (map fork_with_map (take (length ls - (at + 1)) (drop (at + 1) ls))))) same ∙ ap (λ gs. is_among q (forks_of gs)) worked_after

  -- the fork looked at is the one at the place
  pub same_item : (m : LiveFork) → m ≡ get_or ys at m → m ≡ x
  same_item m h = h ∙ any_default ys at m x (let e = w.within in omega (arith, length_map fork_with_map ys)) ∙ sym is

  pub stays_worked : work (fork_with_map x ∷ drop (at + 1) (map fork_with_map xs)) ≡ fork_with_map x ∷ work (drop (at + 1) (map fork_with_map xs)) → IsWorkedFrom at work (map fork_with_map xs) (map fork_with_map ys)
  stays_worked h = worked_stays at work (map fork_with_map xs) (map fork_with_map ys) w (fork_with_map x) within (ap (λ g. work (g ∷ drop (at + 1) (map fork_with_map xs))) same_here ∙ h ∙ ap (λ g. g ∷ work (drop (at + 1) (map fork_with_map xs))) (sym same_here))

  pub goes_worked : work (fork_with_map x ∷ drop (at + 1) (map fork_with_map xs)) ≡ work (drop (at + 1) (map fork_with_map xs)) → IsWorkedFrom at work (map fork_with_map xs) (map fork_with_map (remove ys at))
  goes_worked h = subst (IsWorkedFrom at work (map fork_with_map xs)) (sym (map_removed fork_with_map ys at)) (worked_goes at work (map fork_with_map xs) (map fork_with_map ys) w (fork_with_map x) within (ap (λ g. work (g ∷ drop (at + 1) (map fork_with_map xs))) same_here ∙ h))

  pub set_worked : (y : LiveFork) → work (fork_with_map x ∷ drop (at + 1) (map fork_with_map xs)) ≡ fork_with_map y ∷ work (drop (at + 1) (map fork_with_map xs)) → IsWorkedFrom at work (map fork_with_map xs) (map fork_with_map (set ys at y))
  set_worked y h = subst (IsWorkedFrom at work (map fork_with_map xs)) (sym (map-set fork_with_map ys at y)) (worked_set at work (map fork_with_map xs) (map fork_with_map ys) w (fork_with_map x) (fork_with_map y) within (ap (λ g. work (g ∷ drop (at + 1) (map fork_with_map xs))) same_here ∙ h))

-- ---- one fork when id is dropped
module _ (id : ℕ) (g : ForkWithMap) (gs : List ForkWithMap) (bound : ℕ) (sound : AreForks bound (g.fork ∷ forks_of gs)) (t : Bool) (test : t ≡ (not (g.fork.id == id) && is_parent g.fork.parent (forks_of (grown_without id gs)))) where
  goes_is : (g.fork.id == id || descends id (forks_of gs) g.fork) ≡ not t
  goes_is =
      stays_is g.fork.id id g.fork (forks_of gs) sound.2 sound.1
      ∙ ap not (ap (λ fs. not (g.fork.id == id) && is_parent g.fork.parent fs) (sym (forks_of-grown_without id gs)) ∙ sym test)

  pub kept_stays : t ≡ true → grown_without id (g ∷ gs) ≡ g ∷ grown_without id gs
  kept_stays is = ap (λ b. cond b (grown_without id gs) (g ∷ grown_without id gs)) (goes_is ∙ ap not is)

  pub kept_goes : t ≡ false → grown_without id (g ∷ gs) ≡ grown_without id gs
  kept_goes is = ap (λ b. cond b (grown_without id gs) (g ∷ grown_without id gs)) (goes_is ∙ ap not is)

  pub count_stays : t ≡ true → drop_count id (g.fork ∷ forks_of gs) ≡ drop_count id (forks_of gs)
  count_stays is = ap (λ b. cond b (1 + drop_count id (forks_of gs)) (drop_count id (forks_of gs))) (goes_is ∙ ap not is)

  pub count_goes : t ≡ false → drop_count id (g.fork ∷ forks_of gs) ≡ 1 + drop_count id (forks_of gs)
  count_goes is = ap (λ b. cond b (1 + drop_count id (forks_of gs)) (drop_count id (forks_of gs))) (goes_is ∙ ap not is)

-- ---- one fork when id has landed
module _ (id : ℕ) (g : ForkWithMap) (gs : List ForkWithMap) (bound : ℕ) (sound : AreForks bound (g.fork ∷ forks_of gs)) where
  pub landed_head : g.fork.parent ≡ parent.Head → grown_settled id (g ∷ gs) ≡ grown_settled id gs
  landed_head is = ap (λ b. cond b (record { fork = on_head id g.fork; map = g.map } ∷ grown_settled id gs) (grown_settled id gs)) (on_none id g.fork (forks_of gs) is)

  pub landed_child : (q : ℕ) (h : ForkWithMap) → g.fork.parent ≡ parent.Fork q → q ≡ id → h ≡ record { fork = record { id = g.fork.id; parent = parent.Head; batch = g.fork.batch }; map = g.map } → grown_settled id (g ∷ gs) ≡ h ∷ grown_settled id gs
  landed_child q h is same new =
      ap (λ b. cond b (record { fork = on_head id g.fork; map = g.map } ∷ grown_settled id gs) (grown_settled id gs)) (on_it id q g.fork (forks_of gs) is same sound.1)
      ∙ ap (λ p. record { fork = record { id = g.fork.id; parent = p; batch = g.fork.batch }; map = g.map } ∷ grown_settled id gs)
      (ap (λ p. of_parent parent.Head (λ k. cond (k == id) parent.Head (parent.Fork k)) p) is ∙ ap (λ b. cond b parent.Head (parent.Fork q)) (eq-eqb q id same))
      ∙ ap (λ x. x ∷ grown_settled id gs) (sym new)

  stands_is : (q : ℕ) → g.fork.parent ≡ parent.Fork q → ¬ (q ≡ id) → descends id (forks_of gs) g.fork ≡ is_among q (forks_of (grown_settled id gs))
  stands_is q is other = on_other g.fork.id id q g.fork (forks_of gs) sound.2 is (ne_eqb q id other) sound.1 ∙ ap (is_among q) (sym (forks_of-grown_settled id gs))

  pub landed_stays : (q : ℕ) → g.fork.parent ≡ parent.Fork q → ¬ (q ≡ id) → is_among q (forks_of (grown_settled id gs)) ≡ true → grown_settled id (g ∷ gs) ≡ g ∷ grown_settled id gs
  landed_stays q is other among =
      ap (λ b. cond b (record { fork = on_head id g.fork; map = g.map } ∷ grown_settled id gs) (grown_settled id gs)) (stands_is q is other ∙ among)
      ∙ ap (λ p. record { fork = record { id = g.fork.id; parent = p; batch = g.fork.batch }; map = g.map } ∷ grown_settled id gs)
      (ap (λ p. of_parent parent.Head (λ k. cond (k == id) parent.Head (parent.Fork k)) p) is ∙ ap (λ b. cond b parent.Head (parent.Fork q)) (ne_eqb q id other) ∙ sym is)

  pub landed_goes : (q : ℕ) → g.fork.parent ≡ parent.Fork q → ¬ (q ≡ id) → is_among q (forks_of (grown_settled id gs)) ≡ false → grown_settled id (g ∷ gs) ≡ grown_settled id gs
  landed_goes q is other none = ap (λ b. cond b (record { fork = on_head id g.fork; map = g.map } ∷ grown_settled id gs) (grown_settled id gs)) (stands_is q is other ∙ none)

-- a fork, with the head as its parent
abbrev pub grown_on_head : LiveFork → ForkWithMap
grown_on_head f = record { fork = record { id = f.id; parent = parent.Head; batch = f.batch }; map = f.tree }
