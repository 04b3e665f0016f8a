-- The order of node names is total, and only equal names tie.
use Rattle.std.proofs.Common.{◌≡◌, Bool, ◌&&◌, ◌==◌, ap, ap₂, Ordering, Less, Equal, Greater, is_eq, nat_cmp}
use Rattle.std.specs.Ordering.{ordering_then}
use Rattle.std.specs.Cmp.{IsTotalOrder, unsigned_ties}
use Rattle.std.specs.Cmp.Lexicographic.{slice_cmp, pointwise, texts_ties}
use Rattle.std.proofs.lemmas.Cmp.{nat_cmp_total, nat_list_cmp_total, on_total, then_total}
use Rattle.jf_path.specs.declared.name.NodeName.{NodeName}
use Rattle.jf_path.specs.Names.{name_cmp}

pub name_cmp_total : IsTotalOrder name_cmp
name_cmp_total = then_total (on_total (λ (n : NodeName). n.version) nat_cmp_total) (on_total (λ (n : NodeName). n.path) nat_list_cmp_total)

pub both_ties : (a b : Bool) (r s : Ordering) → a ≡ is_eq r → b ≡ is_eq s → (a && b) ≡ is_eq (ordering_then r s)
both_ties a b Less s ea eb = ap (λ t. t && b) ea
both_ties a b Equal s ea eb = ap₂ (λ t u. t && u) ea eb
both_ties a b Greater s ea eb = ap (λ t. t && b) ea

pub name_ties : (a b : NodeName) → ((a.version == b.version) && pointwise (λ n m. n == m) a.path b.path) ≡ is_eq (name_cmp a b)
name_ties a b = both_ties (a.version == b.version) (pointwise (λ n m. n == m) a.path b.path) (nat_cmp a.version b.version) (slice_cmp nat_cmp a.path b.path) (unsigned_ties a.version b.version) (texts_ties a.path b.path)
