-- What is listed of a part of two trees, one of which stands in the place of the other after a landing.
use Rattle.std.specs.Prelude.{◌≡◌, ℕ, ◌<◌, Option, List, [], ◌∷◌, length, slice_index_or, Result, IfOk}
use Rattle.jf_path.specs.declared.memory.Memory.{Memory}
use Rattle.jf_hash.specs.Slots.{Part}
use Rattle.jf_model.specs.Nodes.{Path}
use Rattle.jf_node.specs.LinkValue.{LinkValue}
use Rattle.jf_node.specs.Children.{content}
use Rattle.jf_diff.specs.declared.parts.PartLists.{PartLists}
use Rattle.jf_diff.specs.Below.{listed_below}
use Rattle.jf_diff.specs.Plains.{fresh_under}
use Rattle.jf_diff.specs.Tops.{IsFreshUnder, IsStaleUnder, old_name}

-- the two tops alone
pub record AreTopLists (version head : ℕ) (old top : Option LinkValue) (l : PartLists) : Type 0 where
  pub fresh : l.fresh ≡ fresh_under version top [] ∷ []
  pub stale : l.stale.items ≡ old_name head old [] ∷ []

-- what is listed from the children of the tops at nibble n down
pub record ArePartLists (version : ℕ) (old top : Option LinkValue) (n : ℕ) (l : PartLists) : Type 0 where
  pub fresh : (es : Part) (before : Path → Option ℕ) → IsFreshUnder version es before top → l.fresh ≡ listed_below 0 n es (content top) (fresh_under version top)
  pub stale : (head : ℕ) → IsStaleUnder version old top → l.stale.items ≡ listed_below 0 n (content top) (content old) (old_name head old)

-- sixteen parts, each with what is listed at the nibble of its place
pub record AreAllParts (version : ℕ) (old top : Option LinkValue) (parts : List (Result PartLists Memory)) : Type 0 where
  pub long : length parts ≡ 16
  pub each : (n : ℕ) (r : Result PartLists Memory) → n < 16 → r ≡ slice_index_or parts n r → IfOk r (ArePartLists version old top n)
