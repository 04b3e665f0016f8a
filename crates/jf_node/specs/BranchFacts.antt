-- How an inner node keeps its children: which places have a child, which of them are leaves, and the links there.
use Rattle.std.specs.Prelude.{◌≡◌, ◌==◌, Bool, false, List, Option, Some, None, length, map}
use Rattle.std.specs.List.{AllByRecursion, count_by}
use Rattle.jf_path.specs.Bitmaps.{spread_items}
use Rattle.jf_node.specs.LinkValue.{LinkValue}
use Rattle.jf_node.specs.LinkFacts.{IsLink}

-- whether there is a child that is a leaf, which has one entry
abbrev pub is_leaf_child : Option LinkValue → Bool
is_leaf_child None = false
is_leaf_child (Some x) = length x.entries == 1

-- sixteen places: as many bits as links, the bits of the leaves are those of the children with one entry, and each child meets what holds of every link
pub record AreBranches (there leaves : List Bool) (links : List LinkValue) : Type 0 where
  pub long : length there ≡ 16
  pub many : count_by (λ bit. bit) there ≡ length links
  pub lone : leaves ≡ map is_leaf_child (spread_items there links)
  pub each : AllByRecursion IsLink links
