-- The map of a version is that of the leaves alive at it.
use Rattle.std.specs.Prelude.{slice_index_or, Option, Some, None, IsSome, IfSome, ◌↔◌, option_map}
use Rattle.std.specs.Option.{SomeIff, option_copied}
use Rattle.std.specs.FinMap as fin
use Rattle.std.proofs.Common.{◌≡◌, refl, sym, ◌∙◌, ap, ℕ, zero, suc, ◌+◌, ◌-◌, ◌≤◌, ◌<◌, map, arith, Bor}
use Rattle.jf_model.specs.Versions.{map_of}
use Rattle.jf_node.specs.SnapshotValue.{SnapshotValue}
use Rattle.jf_standing.specs.Named.{map_at}
use Rattle.jf_standing.specs.Standing.{Standing, versions_of, down_from}
use Rattle.jf_dir.specs.Directories.{IsSnapshotAt}

at_down : {X : Type 0} (f : ℕ → X) (h n i : ℕ) (d : X) → i < n → slice_index_or (map f (down_from h n)) i d ≡ f (h - i)
at_down f h zero i d below = absurd (omega (arith, below))
at_down f h (suc n) zero d below = ap f (let e : h ≡ h - 0 = omega arith in e)
at_down f h (suc n) (suc i) d below = at_down f (h - 1) n i d (omega (arith, below)) ∙ ap f (let e : h - 1 - i ≡ h - suc i = omega arith in e)

pub map_of_version : (s : Standing) (w : ℕ) → s.floor ≤ w → w ≤ s.head → map_of (versions_of s) w ≡ map_at w s.nodes
map_of_version s w low high =
    at_down (λ v. map_at v s.nodes) s.head (s.head - s.floor + 1) (s.head - w) fin.empty (omega (arith, low, high)) ∙ ap (λ v. map_at v s.nodes) (let e : s.head - (s.head - w) ≡ w = omega (arith, high) in e)

-- the map of the snapshot that a directory has of a version
pub found_map : (s : Standing) (w : ℕ) (x : Option (Bor SnapshotValue)) → (IsSome x ↔ ((s.floor ≤ w) × (w ≤ s.head))) → IfSome x (λ b. IsSnapshotAt s w b.now)
    → SomeIff (option_map (λ (t : SnapshotValue). t.map) (option_copied x)) ((s.floor ≤ w) × (w ≤ s.head)) (map_of (versions_of s) w)
found_map s w None kept at = λ within. absurd (let e = kept.1 within in cc)
found_map s w (Some b) kept at = let within = kept.0 refl in (within, at.map ∙ sym (map_of_version s w within.0 within.1))
