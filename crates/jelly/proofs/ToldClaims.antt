-- What an answer says.
use Rattle.std.specs.Prelude.{◌≡◌, ◌+◌, ◌<◌, ◌≤◌, ◌++◌, ℕ, List, length, take, drop, Option, Some, None, IfSome, option_map, Ok, Err}
use Rattle.std.proofs.Common.{refl, sym, ap, ap₂, ◌∙◌, subst, arith, inl, inr}
use Rattle.std.proofs.Math.Seq.{take-append_seam}
use Rattle.std.proofs.lemmas.Option.{none-some, same_Some}
use Rattle.std.proofs.lemmas.Bool.Decides.{nat_tests, leb_tells}
use Rattle.std.proofs.lemmas.List.{length-take-le, take-append-drop}
use Rattle.jf_ask.specs.Lookups.{lookup_number}
use Rattle.jelly.specs.Answers.{LookupResult, IsAnswer, claim_of_number, value_number, filled_room}

-- ---- a value that fits, or doesn't
pub value_number-fits : (room v : List ℕ) → length v ≤ length room → value_number room v ≡ 0
value_number-fits room v fits = grind (arith, nat_tests)

pub value_number-wide : (room v : List ℕ) → length room < length v → value_number room v ≡ 2
value_number-wide room v wide = grind (arith, nat_tests)

pub filled_room-fits : (room v : List ℕ) → length v ≤ length room → filled_room room v ≡ v ++ drop (length v) room
filled_room-fits room v fits = grind (arith, nat_tests)

pub filled_room-wide : (room v : List ℕ) → length room < length v → filled_room room v ≡ room
filled_room-wide room v wide = grind (arith, nat_tests)

-- room with a value at its front, after which it is as it was
pub filled : (n : Option ℕ) (room room' v : List ℕ) → IfSome n (λ k. k ≤ length room') → option_map (λ k. take k room') n ≡ Some v → drop (length v) room' ≡ drop (length v) room
    → room' ≡ v ++ drop (length v) room
filled None room room' v within is rest = absurd (cc)
filled (Some k) room room' v within is rest =
    let front : take k room' ≡ v = same_Some _ _ is in
    let long : k ≡ length v = sym (length-take-le k room' within) ∙ ap length front in
    sym (take-append-drop k room') ∙ ap₂ (λ (x y : List ℕ). x ++ y) front (ap (λ (i : ℕ). drop i room') long ∙ rest)

-- ---- what was shown
-- what is said after a value that fits, and after one that doesn't
claim_of_number-fits : (room v : List ℕ) → length v ≤ length room → claim_of_number (filled_room room v) (length v) (value_number room v) ≡ Some (Some v)
claim_of_number-fits room v fits = rw (value_number-fits room v fits, filled_room-fits room v fits) (ap (λ (x : List ℕ). Some (Some x)) (take-append_seam v (drop (length v) room)))

claim_of_number-wide : (room v : List ℕ) (n : ℕ) → length room < length v → claim_of_number (filled_room room v) n (value_number room v) ≡ None
claim_of_number-wide room v n wide = rw (value_number-wide room v wide) refl

-- nothing is said after a refusal
claim_of_number-refused : (room : List ℕ) (n k : ℕ) → claim_of_number room n (16 + k) ≡ None
claim_of_number-refused room n k = grind (arith, nat_tests)

-- what an answer says was shown
pub claim_of_number-shown : (shown : LookupResult) (room room' : List ℕ) (n n' number : ℕ) (claim : Option (List ℕ)) → IsAnswer shown room room' n n' number → claim_of_number room' n' number ≡ Some claim → shown ≡ Ok claim
claim_of_number-shown (Err why) room room' n n' number claim answer is = absurd (none-some claim (sym (claim_of_number-refused room' n' (lookup_number why)) ∙ subst (λ k. claim_of_number room' n' k ≡ Some claim) answer.number_is is))
claim_of_number-shown (Ok None) room room' n n' number claim answer is = ap Ok (same_Some None claim (subst (λ k. claim_of_number room' n' k ≡ Some claim) answer.number_is is))
claim_of_number-shown (Ok (Some v)) room room' n n' number claim answer is =
    let says : claim_of_number (filled_room room v) (length v) (value_number room v) ≡ Some claim = subst (λ k. claim_of_number (filled_room room v) (length v) k ≡ Some claim) answer.number_is (subst (λ r. claim_of_number r (length v) number ≡ Some claim) answer.room_is (subst (λ k. claim_of_number room' k number ≡ Some claim) answer.length_is is)) in
    elim (leb_tells (length v) (length room)) [
      | inl t ↦ ap Ok (same_Some (Some v) claim (sym (claim_of_number-fits room v t.1) ∙ says))
      | inr t ↦ absurd (none-some claim (sym (claim_of_number-wide room v (length v) t.1) ∙ says))
    ]

-- an answer of 2 says that a value was shown, and how long it is
pub value-shown : {C : Type 0} (shown : LookupResult) (room room' : List ℕ) (n n' number : ℕ) → IsAnswer shown room room' n n' number → number ≡ 2 → ((v : List ℕ) → shown ≡ Ok (Some v) → n' ≡ length v → C) → C
value-shown (Err why) room room' n n' number answer two then = absurd (omega (arith, answer.number_is, two))
value-shown (Ok None) room room' n n' number answer two then = absurd (omega (arith, answer.number_is, two))
value-shown (Ok (Some v)) room room' n n' number answer two then = then v refl answer.length_is
