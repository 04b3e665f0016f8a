-- An input that is judged line by line: what is known between two lines, and the effect of one line on it.
use Rattle.std.specs.Prelude.{ℕ, List, ◌≡◌, ◌+◌, ◌++◌, [], Option, Some, None, ◌==◌, if◌then◌else◌, ◌∷◌, ◌-◌, Result, Ok, Err}
use Rattle.jf_hash.specs.Hashes.{K}
use Rattle.jf_collide.specs.declared.judged.Judged.{Judged}
use Rattle.jf_multi.specs.Verdicts.{ClaimList, many_refusal}
use Rattle.jf_multi.specs.declared.item.Item.{Item}
use Rattle.jf_text.specs.Words.{Extends}
use Rattle.jf_blocks.specs.Reading.{line_read, named_of, claim_of, leaf_line_of, side_of}
use Rattle.jf_blocks.specs.Sides.{with_kept}
use Rattle.jf_many_blocks.specs.ManyBlocks.{NamedClaim}
use Rattle.jf_many_blocks.specs.ManyReading.{named_claim_of, item_of}
use Rattle.jf_many_blocks.specs.declared.head.ManyHead.{ManyHead}
use Rattle.jf_verify.specs.Openings.{opening_of}
use Rattle.jf_verify.specs.declared.opening.Opening.{Opening}
use Rattle.jf_verify.specs.declared.opening.Opening.TheVariants as opening
use Rattle.jf_verify.specs.declared.many_stage.ManyHeading.{ManyHeading}
use Rattle.jf_verify.specs.declared.stage.Stage.{Stage}
use Rattle.jf_verify.specs.Verdicts.{syntax_text, many_verdict_text}
use Rattle.jf_verify.specs.Kept.{ClaimsBySubject, nothing_kept, judged_by}
use Rattle.jf_verify.specs.declared.stage.Heading.{Heading}
use Rattle.jf_verify.specs.declared.stage.Stage.TheVariants as stage

-- what is known: the root that was set, and the accepted claims that are kept
pub record Knowledge : Type 0 where
  pub root : Option (List ℕ)
  pub kept : ClaimsBySubject

-- no root is set, and no claim is accepted
abbrev pub no_knowledge : Knowledge
no_knowledge = record { root = None; kept = nothing_kept }

-- what is known between two lines: the number of the next one, what was set and accepted, and how far a block is read
pub record StreamState : Type 0 where
  pub at : ℕ
  pub known : Knowledge
  pub stage : Stage

-- nothing is read yet
abbrev pub first_stream_state : StreamState
first_stream_state = record { at = 1; known = no_knowledge; stage = stage.Between }

-- the text that answers a line, and after the line what is known and how far a block is read
pub record StreamStep : Type 0 where
  pub text : List ℕ
  pub known : Knowledge
  pub stage : Stage

-- a step was made: its text is appended, and what is known and how far a block is read are as it says. Or memory ran out, and a part of the text may have been appended
abbrev pub IsMade : {E : Type 0} → StreamStep → Result Stage E → List ℕ → List ℕ → Knowledge → Type 0
IsMade step (Ok next) before written known = (written ≡ before ++ step.text) × (known ≡ step.known) × (next ≡ step.stage)
IsMade step (Err why) before written known = Extends before written

-- ---- lines that add nothing to what is known
-- the text that answers a line, and how far a block is read after it
pub record Turn : Type 0 where
  pub text : List ℕ
  pub stage : Stage

-- a turn was taken: its text is appended, and the block is read as far as it says. Or memory ran out, and a part of the text may have been appended
abbrev pub IsTaken : {E : Type 0} → Turn → Result Stage E → List ℕ → List ℕ → Type 0
IsTaken turn (Ok next) before written = (written ≡ before ++ turn.text) × (next ≡ turn.stage)
IsTaken turn (Err why) before written = Extends before written

-- a turn as a step that adds nothing to what is known
abbrev pub keeps : Knowledge → Turn → StreamStep
keeps j turn = record { text = turn.text; known = j; stage = turn.stage }

-- the line doesn't match: it is named, and reading goes on between blocks
abbrev pub no_match : ℕ → Turn
no_match at = record { text = syntax_text at; stage = stage.Between }

-- nothing is written, and reading goes on
abbrev pub silent : Stage → Turn
silent s = record { text = []; stage = s }

-- a block begins if a root was set; if not, its first line doesn't match
abbrev pub begins : ℕ → ℕ → Option (List ℕ) → Turn
begins at n None = no_match at
begins at n (Some root) = silent (stage.Name (record { root = root; missing = n }))

-- the line of a name
abbrev pub name_turn : ℕ → Heading → Option (List ℕ) → Turn
name_turn at heading None = no_match at
name_turn at heading (Some name) = silent (stage.Claim heading (K name))

-- the line of a claim
abbrev pub claim_turn : ℕ → Heading → List ℕ → Option (Option (List ℕ)) → Turn
claim_turn at heading key None = no_match at
claim_turn at heading key (Some claim) = silent (stage.Leaf heading key claim)

-- ---- lines of a block of many claims
-- a whole block is judged
abbrev pub many_whole : List ℕ → ClaimList → List Item → Turn
many_whole root claims items = record { text = many_verdict_text (many_refusal root claims items); stage = stage.Between }

-- after items, the block is whole if no item is missing
abbrev pub items_turn : ManyHeading → ClaimList → List Item → Turn
items_turn heading claims items = if heading.items == 0 then many_whole heading.root claims items else silent (stage.ManyItems heading claims items)

-- after claims, items come if no claim is missing
abbrev pub claims_turn : ManyHeading → ClaimList → Turn
claims_turn heading claims = if heading.claims == 0 then items_turn heading claims [] else silent (stage.ManyClaims heading claims)

-- a block begins if a root was set; if not, its first line doesn't match
abbrev pub many_begins : ℕ → ManyHead → Option (List ℕ) → Turn
many_begins at head None = no_match at
many_begins at head (Some root) = claims_turn (record { root = root; claims = head.claims; items = head.items }) []

-- one claim less to come, and one item less
abbrev pub one_claim_less : ManyHeading → ManyHeading
one_claim_less heading = record { root = heading.root; claims = heading.claims - 1; items = heading.items }

abbrev pub one_item_less : ManyHeading → ManyHeading
one_item_less heading = record { root = heading.root; claims = heading.claims; items = heading.items - 1 }

-- the line of a claim
abbrev pub many_claim_turn : ℕ → ManyHeading → ClaimList → Option NamedClaim → Turn
many_claim_turn at heading claims None = no_match at
many_claim_turn at heading claims (Some c) = claims_turn (one_claim_less heading) (claims ++ (K c.0, c.1) ∷ [])

-- the line of an item
abbrev pub many_item_turn : ℕ → ManyHeading → ClaimList → List Item → Option Item → Turn
many_item_turn at heading claims items None = no_match at
many_item_turn at heading claims items (Some i) = items_turn (one_item_less heading) claims (items ++ i ∷ [])

-- ---- other lines
-- a line between blocks
abbrev pub first_step : ℕ → Knowledge → Option Opening → StreamStep
first_step at j None = keeps j (no_match at)
first_step at j (Some (opening.Root root)) = record { text = []; known = record { root = Some root; kept = j.kept }; stage = stage.Between }
first_step at j (Some (opening.Proof n)) = keeps j (begins at n j.root)
first_step at j (Some (opening.Many head)) = keeps j (many_begins at head j.root)

-- a whole block is judged
abbrev pub whole : Knowledge → List ℕ → Judged → StreamStep
whole j root block = let a = judged_by root j.kept block in record { text = a.0; known = record { root = j.root; kept = a.1 }; stage = stage.Between }

-- what was read of a block: it is whole if no sibling is missing
abbrev pub step_of_block : Knowledge → Heading → Judged → StreamStep
step_of_block j heading block = if heading.missing == 0 then whole j heading.root block else keeps j (silent (stage.Sides heading block))

-- the line of a leaf
abbrev pub leaf_step : ℕ → Knowledge → Heading → List ℕ → Option (List ℕ) → Option (Option (List ℕ × List ℕ)) → StreamStep
leaf_step at j heading key claim None = keeps j (no_match at)
leaf_step at j heading key claim (Some leaf) = step_of_block j heading (record { key = key; claim = claim; proof = record { leaf = leaf; siblings = [] } })

-- one sibling more; of more than 256 the first 257 are kept
abbrev pub with_side : Judged → List ℕ → Judged
with_side block h = record { key = block.key; claim = block.claim; proof = record { leaf = block.proof.leaf; siblings = with_kept block.proof.siblings h } }

-- one sibling less to come
abbrev pub one_less : Heading → Heading
one_less heading = record { root = heading.root; missing = heading.missing - 1 }

-- the line of a sibling
abbrev pub side_step : ℕ → Knowledge → Heading → Judged → Option (List ℕ) → StreamStep
side_step at j heading block None = keeps j (no_match at)
side_step at j heading block (Some h) = step_of_block j (one_less heading) (with_side block h)

-- what a line makes, by how far a block is read
unfoldable pub line_step : ℕ → Knowledge → Stage → List ℕ → StreamStep
line_step at j stage.Between line = first_step at j (line_read opening_of line)
line_step at j (stage.Name heading) line = keeps j (name_turn at heading (line_read named_of line))
line_step at j (stage.Claim heading key) line = keeps j (claim_turn at heading key (line_read claim_of line))
line_step at j (stage.Leaf heading key claim) line = leaf_step at j heading key claim (line_read leaf_line_of line)
line_step at j (stage.Sides heading block) line = side_step at j heading block (line_read side_of line)
line_step at j (stage.ManyClaims heading claims) line = keeps j (many_claim_turn at heading claims (line_read named_claim_of line))
line_step at j (stage.ManyItems heading claims items) line = keeps j (many_item_turn at heading claims items (line_read item_of line))

-- the text that answers one line
abbrev pub text_for_line : StreamState → List ℕ → List ℕ
text_for_line s line = (line_step s.at s.known s.stage line).text

-- what is known after one line
abbrev pub after_line : StreamState → List ℕ → StreamState
after_line s line = let a = line_step s.at s.known s.stage line in record { at = s.at + 1; known = a.known; stage = a.stage }

-- the text that answers the end of the input: nothing between blocks
abbrev pub end_text : ℕ → Stage → List ℕ
end_text at stage.Between = []
end_text at (stage.Name heading) = syntax_text at
end_text at (stage.Claim heading key) = syntax_text at
end_text at (stage.Leaf heading key claim) = syntax_text at
end_text at (stage.Sides heading block) = syntax_text at
end_text at (stage.ManyClaims heading claims) = syntax_text at
end_text at (stage.ManyItems heading claims items) = syntax_text at

-- the text that answers the lines still to come
unfoldable pub said_to_end : StreamState → List (List ℕ) → List ℕ
said_to_end s [] = end_text s.at s.stage
said_to_end s (line ∷ ls) = text_for_line s line ++ said_to_end (after_line s line) ls

-- ---- a machine that takes lines
-- the effect of a line on it, and what it adds; after a refusal nothing is known of it
abbrev pub JudgesLine : {F : Type 0} → StreamState → List ℕ → StreamState → Result (List ℕ) F → Type 0
JudgesLine s line next (Ok text) = (next ≡ after_line s line) × (text ≡ text_for_line s line)
JudgesLine s line next (Err why) = Unit {0}

-- what the end adds
abbrev pub JudgesEnd : {F : Type 0} → StreamState → StreamState → Result (List ℕ) F → Type 0
JudgesEnd s next (Ok text) = text ≡ said_to_end s []
JudgesEnd s next (Err why) = Unit {0}
