-- How a block of many claims is read (docs/FORMATS.md, Blocks of many claims).
use Rattle.std.specs.Prelude.{ℕ, if◌then◌else◌, Bool, false, List, [], ◌∷◌, Option, Some, None, codes, option_and_then, option_map}
use Rattle.jf_text.specs.Words.{is_word, hash_of, number_upto, name_of, both}
use Rattle.jf_blocks.specs.Reading.{LinePlace, ReadResult, and_then, gives, lines_by, word_after, two_after, claim_of_word, pair_of}
use Rattle.jf_multi.specs.declared.item.Item.{Item}
use Rattle.jf_multi.specs.declared.item.Item.TheVariants as item
use Rattle.jf_many_blocks.specs.declared.head.ManyHead.{ManyHead}
use Rattle.jf_many_blocks.specs.ManyBlocks.{NamedClaim}

-- the most claims of a block
abbrev pub max_claims : ℕ
max_claims = 10000

-- the most items of a block: 512 for each claim, and one more
abbrev pub max_items : ℕ
max_items = 5120001

-- two words as the numbers of claims and items
abbrev pub many_head_of : List ℕ × List ℕ → Option ManyHead
many_head_of p = both (λ c i. record { claims = c; items = i }) (number_upto max_claims p.0) (number_upto max_items p.1)

-- the first line: `many` and its two numbers
abbrev pub many_of : List (List ℕ) → Option ManyHead
many_of ws = option_and_then many_head_of (two_after (codes "many") ws)

-- two words as a name and what is claimed of it
abbrev pub named_claim_from : List ℕ × List ℕ → Option NamedClaim
named_claim_from p = both (λ name claim. (name, claim)) (name_of p.0) (claim_of_word p.1)

-- the line of a claim: `claim`, a name, and a value or `none`
abbrev pub named_claim_of : List (List ℕ) → Option NamedClaim
named_claim_of ws = option_and_then named_claim_from (two_after (codes "claim") ws)

-- whether a line is this keyword alone
abbrev pub is_lone : List ℕ → List (List ℕ) → Bool
is_lone keyword [] = false
is_lone keyword (w ∷ []) = is_word w keyword
is_lone keyword (w ∷ a ∷ ws) = false

-- the line of an end: `end`, and `none` or a key and a hash
abbrev pub end_line_of : List (List ℕ) → Option (Option (List ℕ × List ℕ))
end_line_of ws =
    elim (word_after (codes "end") ws) [
      | Some w ↦ if is_word w (codes "none") then Some None else None
      | None ↦ option_map (λ leaf. Some leaf) (option_and_then pair_of (two_after (codes "end") ws))
    ]

-- the line of an item: `fork`, `rest` and a hash, or an end
abbrev pub item_of : List (List ℕ) → Option Item
item_of ws =
    if is_lone (codes "fork") ws then Some item.Fork
    else (elim (word_after (codes "rest") ws) [
      | Some w ↦ option_map (λ hash. item.Rest hash) (hash_of w)
      | None ↦ option_map (λ leaf. item.End leaf) (end_line_of ws)
    ])

-- what a block of many claims holds: the claims on names, and the items of the proof
abbrev pub ManyBlock : Type 0
ManyBlock = List NamedClaim × List Item

-- a block of many claims after its first line, which says how many claims and items follow
unfoldable pub many_body : ManyHead → LinePlace → ReadResult ManyBlock
many_body head p = and_then (lines_by named_claim_of head.claims p) (λ cs q. and_then (lines_by item_of head.items q) (λ is r. gives (cs, is) r))
