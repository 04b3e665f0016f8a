-- The order of marks is total, and marks tie only if they are equal.
use Rattle.std.proofs.Common.{◌≡◌, ap₂, Equal, nat_cmp}
use Rattle.std.proofs.lemmas.Cmp.{nat_cmp_total, on_total, then_total}
use Rattle.std.specs.Cmp.{IsTotalOrder}
use Rattle.std.specs.Cmp.Lexicographic.{slice_cmp}
use Rattle.std.specs.FinMap as fin
use Rattle.jf_path.specs.NameLaws.{name_cmp_total}
use Rattle.jf_path.specs.Names.{name_cmp}
use Rattle.jf_path.specs.declared.name.NodeName.{NodeName}
use Rattle.jf_path.proofs.OrderLaws.{both_equal}
use Rattle.jf_stale.specs.Marks.{Mark, mark_cmp}

pub mark_cmp_total : IsTotalOrder mark_cmp
mark_cmp_total = then_total (on_total (λ (m : Mark). m.0) nat_cmp_total) (on_total (λ (m : Mark). m.1) name_cmp_total)

-- names tie only if they are equal
pub name_cmp-exact : (a b : NodeName) → name_cmp a b ≡ Equal → a ≡ b
name_cmp-exact a b is =
    let both = both_equal (nat_cmp a.version b.version) (slice_cmp nat_cmp a.path b.path) is in
    ap₂ (λ v p. record { version = v; path = p }) (fin.nat_cmp-IsAntisymmetric a.version b.version both.0) (fin.slice_cmp-IsAntisymmetric fin.nat_cmp-IsAntisymmetric a.path b.path both.1)

pub mark_cmp-exact : (a b : Mark) → mark_cmp a b ≡ Equal → a ≡ b
mark_cmp-exact a b is =
    let both = both_equal (nat_cmp a.0 b.0) (name_cmp a.1 b.1) is in
    ap₂ (λ v n. (v, n)) (fin.nat_cmp-IsAntisymmetric a.0 b.0 both.0) (name_cmp-exact a.1 b.1 both.1)
