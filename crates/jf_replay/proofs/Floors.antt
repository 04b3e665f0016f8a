-- A later floor is taken by what a format keeps of a sound standing.
use Rattle.std.proofs.Common.{◌≡◌, ℕ, ◌≤◌, [], subst, sym}
use Rattle.jf_codec.specs.declared.format.Format.{Format}
use Rattle.jf_codec.specs.declared.format.Format.TheVariants as format
use Rattle.jf_payload.specs.declared.records.Commit.{Commit}
use Rattle.jf_standing.specs.Standing.{Standing, with_floor}
use Rattle.jf_standing.specs.Sound.{IsSound}
use Rattle.jf_standing.specs.Taking.{TakesFloor}
use Rattle.jf_standing.specs.Laws.{FloorsPrune}
use Rattle.jf_standing.specs.FormatLaws.{standing_in, FormatsAreSound, FormatsFollow}

no_commit : Commit
no_commit = record { version = 0; root = []; fresh = []; stale = [] }

pub floor_taken : FloorsPrune → FormatsAreSound → FormatsFollow → (fmt : Format) (s t : Standing) (floor : ℕ) → IsSound format.Two s → s.floor ≤ floor → floor ≤ s.head → t ≡ with_floor floor s
    → TakesFloor fmt (standing_in fmt s) floor (standing_in fmt t)
floor_taken prunes sound follow fmt s t floor is low high same =
    let kept : with_floor floor (standing_in fmt s) ≡ standing_in fmt (with_floor floor s) = (follow fmt s no_commit floor).1 in
    let floored = (prunes fmt (standing_in fmt s) floor (sound fmt s is).0 low high).0 in
    subst
    (λ u. TakesFloor fmt (standing_in fmt s) floor (standing_in fmt u))
    (sym same)
    (low, high, subst (λ u. IsSound fmt u) kept floored, sym kept)
