-- Ascending names with one more, and without the first.
use Rattle.std.proofs.Common.{◌≡◌, ◌≤◌, ℕ, List, [], ◌∷◌, length, drop, sym, subst, ◌∙◌, Less, Greater}
use Rattle.std.specs.List.{insert}
use Rattle.std.specs.List.Sorted.{IsPartitionPoint, IsStrictlySortedBy}
use Rattle.jf_path.specs.NameLaws.{name_cmp_total}
use Rattle.jf_path.specs.Names.{name_cmp}
use Rattle.jf_path.specs.declared.name.NodeName.{NodeName}
use Rattle.jf_stale.specs.Groups.{AreAscendingNames, with_name}
use Rattle.jf_stale.proofs.Places.{insert-gap, insert_key-ascends}

-- a name that is put into its gap
pub name-added : (name : NodeName) (old new : List NodeName) (i : ℕ) → i ≤ length old → IsPartitionPoint (λ n. name_cmp n name ≡ Less) (λ n. name_cmp n name ≡ Greater) old i → new ≡ insert old i name → new ≡ with_name name old
name-added name old new i le cut made = made ∙ sym (insert-gap name_cmp_total name old i le cut)

pub added-ascends : (name : NodeName) (old new : List NodeName) (i : ℕ) → AreAscendingNames old → i ≤ length old → IsPartitionPoint (λ n. name_cmp n name ≡ Less) (λ n. name_cmp n name ≡ Greater) old i → new ≡ insert old i name → AreAscendingNames new
added-ascends name old new i ascending le cut made = subst AreAscendingNames (sym (name-added name old new i le cut made)) (insert_key-ascends name_cmp_total name old ascending)

pub rest_ascends : (names : List NodeName) → AreAscendingNames names → AreAscendingNames (drop 1 names)
unfolding IsStrictlySortedBy
rest_ascends [] ascending = tt
rest_ascends (name ∷ names) ascending = ascending.1
