-- The text that answers an input of roots, proof blocks and blocks of many claims (docs/FORMATS.md, "Judging proofs").
use Rattle.std.specs.Prelude.{◌≡◌, ℕ, List, Option, Result, [], ◌∷◌, codes, decimal, Bool, true, false, Some, None, bytes_eq, not, ◌&&◌, find, ◌+◌, ◌<◌, ◌++◌, ◌-◌, drop, Ok, Err, zero, suc, length}
use Rattle.hex.specs.Hex.{encode_lower}
use Rattle.jf_hash.specs.Hashes.{K}
use Rattle.jf_io.specs.Lines.{lines}
use Rattle.jf_evidence.specs.declared.proof.ProofFault.{ProofFault}
use Rattle.jf_evidence.specs.Clashes.{clash}
use Rattle.jf_evidence.specs.Proofs.{refusal}
use Rattle.jf_evidence.specs.declared.proof.ProofFault.TheVariants as fault
use Rattle.jf_collide.specs.declared.judged.Judged.{Judged}
use Rattle.jf_text.specs.Words.{line_text, Extends}
use Rattle.jf_blocks.specs.Reading.{Block, LinePlace, ReadResult, proof_block, line_read, first_place}
use Rattle.jf_many_blocks.specs.ManyBlocks.{on_keys}
use Rattle.jf_many_blocks.specs.ManyReading.{ManyBlock, many_body}
use Rattle.jf_multi.specs.Verdicts.{many_refusal}
use Rattle.jf_multi.specs.declared.item.ManyFault.{ManyFault}
use Rattle.jf_multi.specs.declared.item.ManyFault.TheVariants as many_fault
use Rattle.jf_verify.specs.declared.opening.Opening.{Opening}
use Rattle.jf_verify.specs.declared.opening.Opening.TheVariants as opening
use Rattle.jf_verify.specs.Openings.{opening_of}
use Rattle.jf_verify.specs.declared.accepted.Accepted.{Accepted}

-- the root that was set, and the accepted claims in order
pub record Judging : Type 0 where
  pub root : Option (List ℕ)
  pub claims : List Accepted

-- a text was appended; or memory ran out, and a part of it may have been
abbrev pub HasWritten : {T E : Type 0} → Result T E → List ℕ → List ℕ → List ℕ → Type 0
HasWritten (Ok value) old new text = new ≡ old ++ text
HasWritten (Err why) old new text = Extends old new

-- ---- one block
-- the number of the check that failed
abbrev pub fault_number : ProofFault → ℕ
fault_number fault.TooDeep = 1
fault_number fault.WrongLeaf = 2
fault_number fault.WrongPrefix = 3
fault_number fault.WrongRoot = 4

-- the line `refused`, with the number of the check
abbrev pub refused_text : ProofFault → List ℕ
refused_text why = line_text (codes "refused" ∷ decimal (fault_number why) ∷ [])

-- the line of the verdict on a block of many claims, in which claims are counted from 1
abbrev pub many_verdict_text : Option ManyFault → List ℕ
many_verdict_text None = line_text (codes "accepted" ∷ [])
many_verdict_text (Some many_fault.Shape) = line_text (codes "refused" ∷ codes "1" ∷ [])
many_verdict_text (Some (many_fault.Missing i)) = line_text (codes "refused" ∷ codes "2" ∷ decimal (i + 1) ∷ [])
many_verdict_text (Some (many_fault.Single i why)) = line_text (codes "refused" ∷ codes "3" ∷ decimal (i + 1) ∷ decimal (fault_number why) ∷ [])

-- the claim that a refusal names, if it names one, is one of n
abbrev pub NamesOneOf : ℕ → Option ManyFault → Type 0
NamesOneOf n None = Unit {0}
NamesOneOf n (Some many_fault.Shape) = Unit {0}
NamesOneOf n (Some (many_fault.Missing i)) = i < n
NamesOneOf n (Some (many_fault.Single i why)) = i < n

-- whether two claims say the same
abbrev pub same_claim : Option (List ℕ) → Option (List ℕ) → Bool
same_claim None None = true
same_claim None (Some w) = false
same_claim (Some v) None = false
same_claim (Some v) (Some w) = bytes_eq v w

-- whether another claim is on the same root and key and claims another thing
abbrev pub contradicts : Accepted → Accepted → Bool
contradicts a b = bytes_eq b.root a.root && bytes_eq b.judged.key a.judged.key && not (same_claim b.judged.claim a.judged.claim)

-- the first accepted claim that contradicts this one
abbrev pub contradicted_claim : Accepted → List Accepted → Option Accepted
contradicted_claim a claims = find (contradicts a) claims

-- the line `collision` with two lists of bytes, or nothing
abbrev pub collision_text : Option (List ℕ × List ℕ) → List ℕ
collision_text None = []
collision_text (Some pair) = line_text (codes "collision" ∷ encode_lower pair.0 ∷ encode_lower pair.1 ∷ [])

-- the line with the first lists in which a claim and an earlier one differ
abbrev pub contradiction_text : Accepted → Option Accepted → List ℕ
contradiction_text a None = []
contradiction_text a (Some b) = collision_text (clash a.judged.key b.judged.claim b.judged.proof a.judged.claim a.judged.proof)

-- a proof block is a claim on the key of its name
abbrev pub judged_of : Block → Judged
judged_of block = record { key = K block.0; claim = block.1; proof = block.2 }

-- what a claim is answered under a root, and the accepted claims after it
unfoldable pub judgement_under : List ℕ → List Accepted → Judged → List ℕ × List Accepted
judgement_under root claims j =
    let a : Accepted = record { root = root; judged = j } in
    elim (refusal root j.key j.claim j.proof) [
      | Some why ↦ (refused_text why, claims)
      | None ↦ (line_text (codes "accepted" ∷ []) ++ contradiction_text a (contradicted_claim a claims), claims ++ a ∷ [])
    ]

-- ---- what comes next
-- the line `syntax`, with the number of a line
abbrev pub syntax_text : ℕ → List ℕ
syntax_text at = line_text (codes "syntax" ∷ decimal at ∷ [])

-- the place after line `at`
abbrev pub place_after : ℕ → LinePlace → LinePlace
place_after at p = record { at = at + 1; left = drop (at + 1 - p.at) p.left }

-- the text that answers a root or a block, what is known after it, and the place after it
pub record BlockAnswer : Type 0 where
  pub text : List ℕ
  pub known : Judging
  pub place : LinePlace

-- line `at` is the first that doesn't match: it is named, and reading goes on after it
abbrev pub wrong_at : ℕ → Judging → LinePlace → BlockAnswer
wrong_at at j p = record { text = syntax_text at; known = j; place = place_after at p }

-- a proof block was read and is judged, or one of its lines doesn't match
abbrev pub say_block : List ℕ → Judging → LinePlace → ReadResult Block → BlockAnswer
say_block root j p (Err at) = wrong_at at j p
say_block root j p (Ok b) = let a = judgement_under root j.claims (judged_of b.0) in record { text = a.0; known = record { root = j.root; claims = a.1 }; place = b.1 }

-- a block of many claims was read and is judged, or one of its lines doesn't match. Its claims are not among the accepted ones after it
abbrev pub say_many : List ℕ → Judging → LinePlace → ReadResult ManyBlock → BlockAnswer
say_many root j p (Err at) = wrong_at at j p
say_many root j p (Ok b) = record { text = many_verdict_text (many_refusal root (on_keys b.0.0) b.0.1); known = j; place = b.1 }

-- what a line between blocks makes: a root, a block, or no match. Its place is p, and q is the one after it
abbrev pub say : Judging → LinePlace → LinePlace → Option Opening → BlockAnswer
say j p q None = wrong_at p.at j p
say j p q (Some (opening.Root root)) = record { text = []; known = record { root = Some root; claims = j.claims }; place = q }
say j p q (Some (opening.Proof n)) = elim j.root [ None ↦ wrong_at p.at j p | Some root ↦ say_block root j p (proof_block n q) ]
say j p q (Some (opening.Many head)) = elim j.root [ None ↦ wrong_at p.at j p | Some root ↦ say_many root j p (many_body head q) ]

-- ---- all of the input
-- the text that answers the lines from a place on; n is at least their number
unfoldable pub verdicts_from : ℕ → Judging → LinePlace → List ℕ
verdicts_from zero j p = []
verdicts_from (suc n) j p =
    elim p.left [ [] ↦ [] | line ∷ rest ↦ let s = say j p (record { at = p.at + 1; left = rest }) (line_read opening_of line) in s.text ++ verdicts_from n s.known s.place ]

-- no root is set, and no claim is accepted
abbrev pub nothing_known : Judging
nothing_known = record { root = None; claims = [] }

-- the text that answers an input
unfoldable pub verdicts : List ℕ → List ℕ
verdicts input = verdicts_from (length (lines input)) nothing_known (first_place (lines input))
