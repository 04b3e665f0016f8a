-- The numbers of live forks fall, so that those above a number stand before all others.
use Rattle.std.proofs.Common.{◌<◌, ℕ, zero, suc, List, [], ◌∷◌, map, length, get_or, arith, ◌≤◌, ◌≡◌, true, ltb, ◌+◌, false, cond, ◌||◌, ◌==◌, Some, ◌++◌, drop, refl, sym, ap, ◌∙◌, subst}
use Rattle.std.proofs.lemmas.Bool.{ne_eqb}
use Rattle.std.proofs.lemmas.Bool.Decides.{nat_tests}
use Rattle.std.specs.List.Sorted.{IsPartitionedBy, IsPartitionPoint}
use Rattle.jf_model.specs.Forks.{AreForks, of_parent, is_among, chain}
use Rattle.jf_model.proofs.ForkLists.{none_above}
use Rattle.jf_forks.specs.Tables.{forks_of, map_of_fork}
use Rattle.jf_forks.specs.Lives.{fork_with_map, IsFrom}
use Rattle.jf_forks.specs.declared.live.LiveFork.{LiveFork}

below_bound : (bound : ℕ) (xs : List LiveFork) → AreForks bound (forks_of (map fork_with_map xs)) → (k : ℕ) (d : LiveFork) → k < length xs → (get_or xs k d).id < bound
below_bound bound [] sound k d lt = absurd (omega arith)
below_bound bound (x ∷ xs) sound zero d lt = sound.0
below_bound bound (x ∷ xs) sound (suc k) d lt = let small = below_bound x.id xs sound.2 k d (omega arith) in let first = sound.0 in omega arith

falling : (bound : ℕ) (xs : List LiveFork) → AreForks bound (forks_of (map fork_with_map xs)) → (i j : ℕ) (d : LiveFork) → i ≤ j → j < length xs → (get_or xs j d).id ≤ (get_or xs i d).id
falling bound [] sound i j d le lt = absurd (omega arith)
falling bound (x ∷ xs) sound zero zero d le lt = omega arith
falling bound (x ∷ xs) sound zero (suc j) d le lt = let small = below_bound x.id xs sound.2 j d (omega arith) in omega arith
falling bound (x ∷ xs) sound (suc i) zero d le lt = absurd (omega arith)
falling bound (x ∷ xs) sound (suc i) (suc j) d le lt = falling x.id xs sound.2 i j d (omega arith) (omega arith)

above_too : (id a b : ℕ) → a ≤ b → ltb id a ≡ true → ltb id b ≡ true
above_too id a b le is = grind (arith, nat_tests)

-- the forks above a number stand before all others
pub parted : (id bound : ℕ) (xs : List LiveFork) → AreForks bound (forks_of (map fork_with_map xs)) → IsPartitionedBy (λ (f : LiveFork). ltb id f.id) xs
parted id bound xs sound = λ i j d le lt is. above_too id (get_or xs j d).id (get_or xs i d).id (falling bound xs sound i j d le lt) is

above_is : (id a : ℕ) → ltb id a ≡ true → ¬ (a ≡ id)
above_is id a is = λ same. absurd (grind (arith, nat_tests))

not_above : (id a : ℕ) → ltb id a ≡ false → a < id + 1
not_above id a is = grind (arith, nat_tests)

-- the forks from the first on that isn't above the number
pub from_point : (id bound p : ℕ) (xs : List LiveFork) → AreForks bound (forks_of (map fork_with_map xs)) → p ≤ length xs → IsPartitionPoint (λ (f : LiveFork). ltb id f.id ≡ true) (λ (f : LiveFork). ltb id f.id ≡ false) xs p → IsFrom id xs (drop p xs)
from_point id bound zero [] sound within point = record { among = refl; chained = refl; mapped = refl; stands = λ m h. h; forks = tt; short = omega arith }
from_point id bound zero (x ∷ xs) sound within point = record {
  among = refl;
  chained = refl;
  mapped = refl;
  stands = λ m h. h;
  forks = (not_above id x.id (point.1 0 x (omega arith) (omega arith)), sound.1, sound.2);
  short = omega arith;
}
from_point id bound (suc p) [] sound within point = absurd (omega arith)
from_point id bound (suc p) (x ∷ xs) sound within point =
    let other : (x.id == id) ≡ false = ne_eqb x.id id (above_is id x.id (point.0 0 x (omega arith) (omega arith))) in
    let rest = from_point id x.id p xs sound.2 (omega arith) ((λ k d le lt. point.0 (suc k) d (omega arith) (omega arith)), (λ k d le lt. point.1 (suc k) d (omega arith) (omega arith))) in
    record {
      among = rest.among ∙ sym (ap (λ b. b || is_among id (forks_of (map fork_with_map xs))) other);
      chained = rest.chained ∙ sym (ap (λ b. cond b (of_parent [] (chain (forks_of (map fork_with_map xs))) x.parent ++ (fork_with_map x).fork ∷ []) (chain (forks_of (map fork_with_map xs)) id)) other);
      mapped = rest.mapped ∙ sym (ap (λ b. cond b (Some x.tree) (map_of_fork id (map fork_with_map xs))) other);
      stands = λ m h. rest.stands m h.1;
      forks = rest.forks;
      short = let e = rest.short in omega arith;
    }

-- the number is live exactly if the first of the forks from it on has it
pub first_among : (id : ℕ) (f : LiveFork) (fs ys : List LiveFork) → ys ≡ f ∷ fs → AreForks (id + 1) (forks_of (map fork_with_map ys)) → is_among id (forks_of (map fork_with_map ys)) ≡ (f.id == id)
first_among id f fs ys is sound =
    let here : AreForks (id + 1) (forks_of (map fork_with_map (f ∷ fs))) = subst (λ ls. AreForks (id + 1) (forks_of (map fork_with_map ls))) is sound in
    let small = here.0 in
    ap (λ ls. is_among id (forks_of (map fork_with_map ls))) is
    ∙ ap (λ b. (f.id == id) || b) (none_above f.id id (forks_of (map fork_with_map fs)) here.2 (omega arith))
    ∙ elim (f.id == id) as (λ b. (b || false) ≡ b) [ true ↦ refl | false ↦ refl ]
