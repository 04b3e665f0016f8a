-- In a sound standing each node was written before it goes stale.
use Rattle.std.proofs.Common.{◌≡◌, ℕ, ◌-◌, ◌<◌, ◌≤◌, true, arith, false, Contains, inl, inr, refl}
use Rattle.std.proofs.lemmas.Bool.Decides.{nat_tests}
use Rattle.std.specs.List.{AllByRecursion}
use Rattle.jf_path.proofs.ListLaws.{All-of}
use Rattle.jf_path.proofs.FilterLaws.{Contains-filter}
use Rattle.jf_path.proofs.NumberLaws.{same_number}
use Rattle.jf_codec.specs.declared.format.Format.{Format}
use Rattle.jf_standing.specs.Named.{NamedNode, is_alive, is_stale}
use Rattle.jf_standing.specs.Standing.{Standing}
use Rattle.jf_standing.specs.Sound.{IsSound}
use Rattle.jf_standing.proofs.Lists.{All-each_element}

-- ---- tests on the two versions of a node
pub alive-tells : (w : ℕ) (n : NamedNode) → is_alive w n ≡ true → (n.0.version ≤ w) × (w < n.2)
alive-tells w n is = (grind (arith, nat_tests), grind (arith, nat_tests))

pub alive-so : (w : ℕ) (n : NamedNode) → n.0.version ≤ w → w < n.2 → is_alive w n ≡ true
alive-so w n low high = grind (arith, nat_tests)

pub alive-not : (w : ℕ) (n : NamedNode) → n.2 ≤ w → is_alive w n ≡ false
alive-not w n low = grind (arith, nat_tests)

pub alive-not_yet : (w : ℕ) (n : NamedNode) → w < n.0.version → is_alive w n ≡ false
alive-not_yet w n low = grind (arith, nat_tests)

-- ---- a sound standing
-- no node has a version above the head
pub version-low : (fmt : Format) (s : Standing) → IsSound fmt s → (n : NamedNode) → Contains s.nodes n → n.0.version ≤ s.head
version-low fmt s sound n has = All-of (λ n. n.0.version ≤ s.head) s.nodes n sound.written has

-- no node went stale at the floor or before
pub since-high : (fmt : Format) (s : Standing) → IsSound fmt s → (n : NamedNode) → Contains s.nodes n → s.floor < n.2
since-high fmt s sound n has = elim (All-of _ s.nodes n sound.gone has) [
  | inl none ↦ let low = sound.floor_low in let last = sound.head_last in omega arith
  | inr late ↦ late.0
]

-- a node goes stale after the version that wrote it
pub version-before : (fmt : Format) (s : Standing) → IsSound fmt s → (n : NamedNode) → Contains s.nodes n → n.0.version < n.2
version-before fmt s sound n has = elim (All-of _ s.nodes n sound.gone has) [
  | inl none ↦ let low = version-low fmt s sound n has in let last = sound.head_last in omega arith
  | inr late ↦
      let stood = All-of _ _ n (sound.steps n.2 late.0 late.1).stood (Contains-filter (is_stale n.2) s.nodes n has (same_number n.2 n.2 refl)) in
      let first = alive-tells (n.2 - 1) n stood in
      let low = first.0 in let up = late.0 in omega arith
]

pub versions-before : (fmt : Format) (s : Standing) → IsSound fmt s → AllByRecursion (λ n. n.0.version < n.2) s.nodes
versions-before fmt s sound = All-each_element (λ n. n.0.version < n.2) s.nodes (version-before fmt s sound)
