-- The lines of a block of many claims are written one by one.
use Rattle.std.proofs.Common.{◌≡◌, ℕ, ◌+◌, ◌<◌, false, refl, List, ◌∷◌, ◌++◌, ◌∙◌, length, take, get_or}
use Rattle.std.proofs.lemmas.List.{take_more, append_assoc, flat_map_more}
use Rattle.jf_multi.specs.declared.item.Item.{Item}
use Rattle.jf_text.specs.Words.{words}
use Rattle.jf_text.proofs.Spaces.{words-some}
use Rattle.jf_many_blocks.specs.ManyReading.{is_lone}
use Rattle.jf_many_blocks.specs.ManyBlocks.{NamedClaim, many_line_text, named_claim_text, named_claim_lines, item_text, item_lines, many_block}

-- one more line of a claim
pub named_claim_lines-more : (before out line : List ℕ) (cs : List NamedClaim) (i : ℕ) (d : NamedClaim) → i < length cs → out ≡ before ++ named_claim_lines (take i cs)
    → line ≡ named_claim_text (get_or cs i d) → out ++ line ≡ before ++ named_claim_lines (take (i + 1) cs)
named_claim_lines-more before out line cs i d h e is = rw (e, is, take_more cs i d h) (flat_map_more named_claim_text before (take i cs) (get_or cs i d))

-- one more line of an item
pub item_lines-more : (before out line : List ℕ) (is : List Item) (i : ℕ) (d : Item) → i < length is → out ≡ before ++ item_lines (take i is)
    → line ≡ item_text (get_or is i d) → out ++ line ≡ before ++ item_lines (take (i + 1) is)
item_lines-more before out line is i d h e eq = rw (e, eq, take_more is i d h) (flat_map_more item_text before (take i is) (get_or is i d))

-- a block is its first line, its claims and its items, written one after another
pub many_block-pieces : (out : List ℕ) (cs : List NamedClaim) (is : List Item) → ((out ++ many_line_text (length cs) (length is)) ++ named_claim_lines cs) ++ item_lines is ≡ out ++ many_block cs is
unfolding many_block
many_block-pieces out cs is =
    append_assoc (out ++ many_line_text (length cs) (length is)) (named_claim_lines cs) (item_lines is)
    ∙ append_assoc out (many_line_text (length cs) (length is)) (named_claim_lines cs ++ item_lines is)

-- a line of two words or more is no keyword alone
pub is_lone-more : (keyword text rest w : List ℕ) → words text ≡ w ∷ words rest → false ≡ is_lone keyword (words text)
is_lone-more keyword text rest w e = let more = words-some rest in rw (e, more.2) refl
