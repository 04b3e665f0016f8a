-- A proof block part by part, each from the front of the lines that are left.
use Rattle.std.specs.Prelude.{◌≡◌, ◌≤◌, ℕ, zero, suc, List, [], ◌∷◌, take, Option, Some, None, IfSome, option_and_then, option_map}
use Rattle.jf_blocks.specs.Reading.{Block, line_read, named_of, claim_of, leaf_line_of, side_of}
use Rattle.jf_text.specs.Words.{unhex}
use Rattle.jf_ask.specs.declared.block.BlockParts.{BlockParts}
use Rattle.jf_ask.specs.Lookups.{siblings_of}

-- what the first line says, and the lines after it
abbrev pub first_by : {X : Type 0} → (List ℕ → Option X) → List (List ℕ) → Option (X × List (List ℕ))
first_by f [] = None
first_by f (l ∷ ls) = option_map (λ x. (x, ls)) (f l)

-- n siblings, and the lines after them
unfoldable pub sides_of : ℕ → List (List ℕ) → Option (List (List ℕ) × List (List ℕ))
sides_of zero ls = Some ([], ls)
sides_of (suc n) ls = option_and_then (λ a. option_map (λ b. (a.0 ∷ b.0, b.1)) (sides_of n a.1)) (first_by (line_read side_of) ls)

-- a block, if no line comes after it
abbrev pub with_end : Block → List (List ℕ) → Option Block
with_end b [] = Some b
with_end b (l ∷ ls) = None

-- the block that lines are, from its first line on
unfoldable pub block_by_parts : List (List ℕ) → Option Block
block_by_parts ls =
    option_and_then (λ a. option_and_then (λ b. option_and_then (λ c. option_and_then (λ d. option_and_then (λ e. with_end (b.0, c.0, record { leaf = d.0; siblings = e.0 }) e.1) (sides_of a.0 d.1))
    (first_by (line_read leaf_line_of) c.1)) (first_by (line_read claim_of) b.1)) (first_by (line_read named_of) a.1)) (first_by siblings_of ls)

-- ---- what code keeps of a block
-- the block of parts that were read, whose name, value and siblings stand at the front of the room that the caller gave
abbrev pub block_held : List ℕ → List ℕ → List (List ℕ) → BlockParts → Block
block_held name value siblings parts = (take parts.name name, option_map (λ v. take v.0 value) parts.value, record { leaf = parts.leaf; siblings = take parts.siblings siblings })

-- parts say no more than fits into the room, and their digits are those of the value
pub record FitsRoom (value : List ℕ) (parts : BlockParts) : Type 0 where
  pub name : parts.name ≤ 128
  pub length : IfSome parts.value (λ v. v.0 ≤ 4096)
  pub digits : IfSome parts.value (λ v. unhex v.1.now ≡ Some (take v.0 value))
  pub siblings : parts.siblings ≤ 256
