-- What clauses see of seats that take, are joined, or are new.
use lib.ListN.{get_elem?}
use mathlib.Core.Option as maybe
use Rattle.std.proofs.Common.{◌≡◌, ℕ, List, [], Option, Some, None, refl, ◌∷◌, zero, suc, ◌+◌, drop, sym, subst, arith, ◌<◌, ◌≤◌, cond, leb, true, false, length, ap, ⊎_elim, Bool, ltb, ◌++◌, ◌∙◌}
use Rattle.std.proofs.lemmas.Bool.Decides.{leb_tells}
use Rattle.atomic_table.proofs.Lists.{at_longer}
use Rattle.atomic_table.specs.Seated.{TableId}
use Rattle.jf_turn.specs.declared.view.Stage.{Stage}
use Rattle.jf_turn.specs.declared.view.Stage.TheVariants.{Spent, Idle, Opening, Holding}
use Rattle.jf_turn.specs.Seats.{Carries, held_list, seat_state, OthersFollow, TurnState, IsMaker, new_seat, SeatState, AreNewSeats}
use Rattle.jf_turn.specs.Lists.{longer, StartsWith, shorter, HasElement}
use Rattle.jf_turn.specs.declared.view.SeatView.{SeatView}
use Rattle.jf_turn.specs.Rule.{OwnAreSeen}
use Rattle.jf_turn.specs.Steps.{views_joined}
use Rattle.jf_turn.proofs.Lists.{starts_self, within}

module _ {E V : Type 0} where
  -- a seat that holds nothing is idle, and has no slot
  pub idle_of : (stage : Stage E) (c : List (ℕ × Option V)) → Carries stage c → held_list stage ≡ None → (stage ≡ Idle) × (c ≡ [])
  idle_of Spent c carries none = absurd carries
  idle_of Idle c carries none = (refl, carries)
  idle_of Opening c carries none = absurd carries
  idle_of (Holding l) c carries none = absurd (let e : Some l ≡ None = none in cc)

  -- a seat that holds a list has the slot, which is empty
  pub holding_of : (stage : Stage E) (c : List (ℕ × Option V)) (l : List E) → Carries stage c → held_list stage ≡ Some l → (stage ≡ Holding l) × (c ≡ (0, None) ∷ [])
  holding_of Spent c l carries some = absurd carries
  holding_of Idle c l carries some = absurd (let e : None ≡ Some l = some in cc)
  holding_of Opening c l carries some = absurd carries
  holding_of (Holding k) c l carries some = ((let e : Some k ≡ Some l = some in cc), carries)

module _ {E : Type 0} where
  -- an element after the first n, by its place in the whole list
  at_drop : (xs : List E) (n k : ℕ) (e : E) → get_elem? (drop n xs) k ≡ maybe.some e → get_elem? xs (n + k) ≡ maybe.some e
  at_drop xs zero k e at = let same : k ≡ 0 + k = omega arith in subst (λ j. get_elem? xs j ≡ maybe.some e) same at
  at_drop [] (suc n) k e at = absurd (maybe.some-ne-none e (sym at))
  at_drop (x ∷ xs) (suc n) k e at = let same : suc (n + k) ≡ suc n + k = omega arith in subst (λ j. get_elem? (x ∷ xs) j ≡ maybe.some e) same (at_drop xs n k e at)

  pub longer_is : (xs ys : List E) → length xs < length ys → length ys ≡ length (longer xs ys)
  longer_is xs ys l = ⊎_elim (λ (t : (leb (suc (length xs)) (length ys) ≡ true) × (suc (length xs) ≤ length ys)). ap (λ b. length (cond b ys xs)) (sym t.0))
      (λ (t : (leb (suc (length xs)) (length ys) ≡ false) × (length ys < suc (length xs))). absurd (let m = t.1 in omega arith)) (leb_tells (suc (length xs)) (length ys))

  pub longer_is_first : (xs ys : List E) → length ys ≤ length xs → length xs ≡ length (longer xs ys)
  longer_is_first xs ys l = ⊎_elim (λ (t : (leb (suc (length xs)) (length ys) ≡ true) × (suc (length xs) ≤ length ys)). absurd (let m = t.1 in omega arith))
      (λ (t : (leb (suc (length xs)) (length ys) ≡ false) × (length ys < suc (length xs))). ap (λ b. length (cond b ys xs)) (sym t.0)) (leb_tells (suc (length xs)) (length ys))

  pick : (xs ys : List E) (b : Bool) → StartsWith (cond b ys xs) (cond b xs ys) → StartsWith (cond b ys xs) xs × StartsWith (cond b ys xs) ys
  pick xs ys true s = (s, starts_self ys)
  pick xs ys false s = (starts_self xs, s)

  -- the longer of two lists begins with both, if it begins with the shorter
  pub both_begin : (xs ys : List E) → StartsWith (longer xs ys) (shorter xs ys) → StartsWith (longer xs ys) xs × StartsWith (longer xs ys) ys
  both_begin xs ys s = pick xs ys (ltb (length xs) (length ys)) s

module _ {V E O : Type 0} (list : V → List E) (names : E → ℕ) (start_of : V → O) where
  -- no entry after those that the seat has seen is its own
  pub others_follow : (id : TableId) (v : SeatView E O) (entries : List E) → OwnAreSeen list names start_of entries v → OthersFollow names (seat_state id v) entries
  others_follow id v entries own = λ e has own_name. let less = own (length v.seen + has.0) e (at_drop entries (length v.seen) has.0 e has.1) own_name in omega arith

module _ {E O V : Type 0} where
  abbrev EntryList : SeatView E O × List (ℕ × Option V) → ℕ → ℕ → Type 0
  EntryList m number seen = (number ≡ m.0.number) × (seen ≡ length m.0.seen) × Carries m.0.stage m.1 × HasElement m.0.numbers m.0.number

  -- what a seat keeps beside its token, after the join
  pub told_joined : (v w : SeatView E O) (m : SeatView E O × List (ℕ × Option V)) (number seen : ℕ) → m ≡ (views_joined v w, []) → v.stage ≡ Idle → number ≡ v.number → HasElement v.numbers v.number → seen ≡ length (longer v.seen w.seen) → EntryList m number seen
  told_joined v w m number seen e idle n has s = subst (λ x. EntryList x number seen) (sym e) (n, s, subst (λ (st : Stage E). Carries {V = V} st []) (sym idle) refl, (has.0, at_longer v.numbers w.numbers has.0 v.number has.1))

module _ {E O : Type 0} where
  -- the maker, which has seen nothing, is shown as a new seat
  pub maker_is_new : (t : TurnState O) (id : TableId) (v : SeatView E O) (n : ℕ) → id ≡ t.id → IsMaker v t.start n → seat_state id v ≡ new_seat t n
  maker_is_new t id v n same m = λ i. record { turn = same i; start = m.6 i; number = m.2 i; numbers = m.3 i; seen = m.5 i; taken = held_list (m.0 i) }

  -- a list of new seats is longer by the next new seat
  pub new_longer : (t : TurnState O) (ss : List (SeatState E O)) (s : SeatState E O) (n m : ℕ) → AreNewSeats t ss n → m ≡ n + length ss → s ≡ new_seat t m → AreNewSeats t (ss ++ s ∷ []) n
  new_longer t [] s n m new at is = let same : m ≡ n = omega arith in (is ∙ ap (new_seat t) same, tt)
  new_longer t (x ∷ ss) s n m new at is = (new.0, new_longer t ss s (n + 1) m new.1 (omega arith) is)

module _ {E : Type 0} (names : E → ℕ) where
  -- what a joined seat knows of the numbers of the seat that had seen the shorter list
  abbrev NumbersAreKnown : Bool → List E → List E → List ℕ → List ℕ → Type 0
  NumbersAreKnown b xs ys ns ms = (n : ℕ) → HasElement (cond b ns ms) n → (k : ℕ) (e : E) → get_elem? (cond b ys xs) k ≡ maybe.some e → names e ≡ n → k < length (cond b xs ys)

  abbrev pub After : List E → List ℕ → List E → Type 0
  After seen ns entries = (e : E) → HasElement (drop (length seen) entries) e → ¬ (HasElement ns (names e))

  none_after : (xs : List E) (ns : List ℕ) → After xs ns xs
  none_after xs ns e has own =
      let at = at_drop xs (length xs) has.0 e has.1 in let in_it = within xs (length xs + has.0) e at in omega arith

  kept_after : (xs ys : List E) (ns : List ℕ) → ((n : ℕ) → HasElement ns n → (k : ℕ) (e : E) → get_elem? ys k ≡ maybe.some e → names e ≡ n → k < length xs) → After xs ns ys
  kept_after xs ys ns kept e has own = let less = kept (names e) own (length xs + has.0) e (at_drop ys (length xs) has.0 e has.1) refl in omega arith

  pub both_follow_by : (b : Bool) (xs ys : List E) (ns ms : List ℕ) → NumbersAreKnown b xs ys ns ms → After xs ns (cond b ys xs) × After ys ms (cond b ys xs)
  both_follow_by true xs ys ns ms kept = (kept_after xs ys ns kept, none_after ys ms)
  both_follow_by false xs ys ns ms kept = (none_after xs ns, kept_after ys xs ms kept)

module _ {E O : Type 0} (names : E → ℕ) where
  -- after what either of two joined seats has seen, no entry is its own
  pub both_follow : (v w : SeatView E O) → ((n : ℕ) → HasElement (views_joined v w).other_numbers n → (k : ℕ) (e : E) → get_elem? (views_joined v w).seen k ≡ maybe.some e → names e ≡ n → k < length (views_joined v w).other_seen)
      → After names v.seen v.numbers (views_joined v w).seen × After names w.seen w.numbers (views_joined v w).seen
  both_follow v w kept = both_follow_by names (ltb (length v.seen) (length w.seen)) v.seen w.seen v.numbers w.numbers kept
