-- New seats that are joined to one seat, one after another.
use mathlib.Core.Logic.{dite}
use mathlib.Core.Option as maybe
use native.Mathlib.Decide.{ℕ_discrete}
use Rattle.std.proofs.Common.{◌≡◌, ℕ, ◌+◌, List, [], ◌∷◌, ◌++◌, length, ap, ◌∙◌, arith, ◌<◌, ◌≤◌, None, refl, sym, subst, length-append, zero, suc}
use Rattle.jf_turn.specs.Seats.{SeatState, TurnState, AreNewSeats, new_seat, IsSeatOf, joining}
use Rattle.jf_turn.specs.Lists.{HasElement}
use Rattle.jf_turn.proofs.Lists.{has_left, has_right}

module _ {E O : Type 0} where
  -- the last of new seats
  pub new_last : (t : TurnState O) (ss : List (SeatState E O)) (s : SeatState E O) (n : ℕ) → AreNewSeats t (ss ++ s ∷ []) n → AreNewSeats t ss n × (s ≡ new_seat t (n + length ss))
  new_last t [] s n new = let same : n ≡ n + 0 = omega arith in (tt, new.0 ∙ ap (new_seat t) same)
  new_last t (x ∷ ss) s n new = let r = new_last t ss s (n + 1) new.1 in let same : (n + 1) + length ss ≡ n + length (x ∷ ss) = omega arith in ((new.0, r.0), r.1 ∙ ap (new_seat t) same)

-- the seats of `rest` are still to be joined to the seat
pub record Gathering {E O : Type 0} (t : TurnState O) (rest : List (SeatState E O)) (s : SeatState E O) : Type 0 where
  pub own : IsSeatOf s t
  pub idle : s.taken ≡ None
  pub new : AreNewSeats t rest 0
  pub numbers : (n : ℕ) → length rest ≤ n → n < t.seats → HasElement s.numbers n

module _ {E O : Type 0} where
  pub begins : (t : TurnState O) (whole rest : List (SeatState E O)) (s : SeatState E O) → whole ≡ rest ++ s ∷ [] → AreNewSeats t whole 0 → length whole ≡ t.seats → Gathering t rest s
  begins t whole rest s e new many =
      let b = new_last t rest s 0 (subst (λ xs. AreNewSeats t xs 0) e new) in let long : length whole ≡ length rest + 1 = ap length e ∙ length-append rest (s ∷ []) in subst (Gathering t rest) (sym b.1) record {
        own = (refl, refl);
        idle = refl;
        new = b.0;
        numbers = λ n above below. let here : 0 + length rest ≡ n = omega arith in (0, ap (λ (k : ℕ). maybe.some k) here);
      }

  pub goes_on : (t : TurnState O) (all rest : List (SeatState E O)) (s other s' : SeatState E O) → Gathering t all s → all ≡ rest ++ other ∷ [] → s' ≡ joining s other → Gathering t rest s'
  goes_on t all rest s other s' g e is =
      let b = new_last t rest other 0 (subst (λ xs. AreNewSeats t xs 0) e g.new) in let long : length all ≡ length rest + 1 = ap length e ∙ length-append rest (other ∷ []) in subst (Gathering t rest) (sym is) record {
        own = g.own;
        idle = g.idle;
        new = b.0;
        numbers = λ n above below. dite (ℕ_discrete n (length rest))
            (λ here. let same : 0 + length rest ≡ n = omega arith in has_right s.numbers other.numbers n (subst (λ ns. HasElement ns n) (sym (ap (λ (o : SeatState E O). o.numbers) b.1)) (0, ap (λ (k : ℕ). maybe.some k) same)))
            (λ there. has_left s.numbers other.numbers n (g.numbers n (omega arith) below));
      }

module _ {E O : Type 0} where
  -- the next seat is one of the turn's and holds nothing, like the one that it is joined to
  pub both_own : (t : TurnState O) (all rest : List (SeatState E O)) (s other : SeatState E O) → Gathering t all s → all ≡ rest ++ other ∷ [] → IsSeatOf s t × IsSeatOf other t
  both_own t all rest s other g e = let b = new_last t rest other 0 (subst (λ xs. AreNewSeats t xs 0) e g.new) in (g.own, subst (λ (o : SeatState E O). IsSeatOf o t) (sym b.1) (refl, refl))

  pub both_idle : (t : TurnState O) (all rest : List (SeatState E O)) (s other : SeatState E O) → Gathering t all s → all ≡ rest ++ other ∷ [] → (s.taken ≡ None) × (other.taken ≡ None)
  both_idle t all rest s other g e = let b = new_last t rest other 0 (subst (λ xs. AreNewSeats t xs 0) e g.new) in (g.idle, ap (λ (o : SeatState E O). o.taken) b.1)

below_three : (n : ℕ) → n < 3 → HasElement (0 ∷ 1 ∷ 2 ∷ []) n
below_three zero l = (0, refl)
below_three (suc zero) l = (1, refl)
below_three (suc (suc zero)) l = (2, refl)
below_three (suc (suc (suc n))) l = absurd (omega arith)

pub three_numbers : (ns : List ℕ) (seats n : ℕ) → ns ≡ 0 ∷ 1 ∷ 2 ∷ [] → seats ≡ 3 → n < seats → HasElement ns n
three_numbers ns seats n e three less = subst (λ xs. HasElement xs n) (sym e) (below_three n (omega arith))
