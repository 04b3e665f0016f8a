-- Reading values one after the other, as the loops do.
use Rattle.std.proofs.Common.{◌≡◌, ℕ, suc, ◌-◌, ◌+◌, ◌<◌, Bool, true, List, [], ◌∷◌, ◌++◌, Option, Some, refl, sym, ◌∙◌, arith, None, false, ◌≤◌}
use Rattle.jf_payload.specs.Reading.{Front, many_at, FailsToRead}
use Rattle.jf_payload.specs.declared.fault.RecordFault.{RecordFault}
use Rattle.jf_payload.specs.declared.fault.RecordFault.TheVariants as fault

module _ {X : Type 0} (test : List X → Bool) (one : Front X) (front : List X) (count i : ℕ) (bytes : List ℕ) (total : Option (List X × List ℕ)) (so_far : many_at test one (count - i) front bytes ≡ total) where
  pub goes_on : (x : X) (after : List ℕ) → i < count → one bytes ≡ Some (x, after) → test (front ++ x ∷ []) ≡ true → many_at test one (count - (i + 1)) (front ++ x ∷ []) after ≡ total
  unfolding many_at
  goes_on x after lt read passed =
      let k : count - i ≡ suc (count - (i + 1)) = omega arith in
      let step : many_at test one (count - i) front bytes ≡ many_at test one (count - (i + 1)) (front ++ x ∷ []) after = rw (k, read, passed) refl in
      sym step ∙ so_far

  pub ends : (f : RecordFault) → i < count → FailsToRead f (one bytes) → FailsToRead f total
  unfolding many_at
  ends fault.Memory lt read = tt
  ends fault.Bad lt read =
      let k : count - i ≡ suc (count - (i + 1)) = omega arith in
      let step : many_at test one (count - i) front bytes ≡ None = rw (k, read) refl in
      sym so_far ∙ step

  pub ends_after : (f : RecordFault) (x : X) (after : List ℕ) → i < count → one bytes ≡ Some (x, after) → (f ≡ fault.Bad → test (front ++ x ∷ []) ≡ false) → FailsToRead f total
  unfolding many_at
  ends_after fault.Memory x after lt read failed = tt
  ends_after fault.Bad x after lt read failed =
      let k : count - i ≡ suc (count - (i + 1)) = omega arith in
      let step : many_at test one (count - i) front bytes ≡ None = rw (k, read, failed refl) refl in
      sym so_far ∙ step

  pub is_done : count ≤ i → total ≡ Some (front, bytes)
  unfolding many_at
  is_done le =
      let k : count - i ≡ 0 = omega arith in
      let step : many_at test one (count - i) front bytes ≡ Some (front, bytes) = rw k refl in
      sym so_far ∙ step
