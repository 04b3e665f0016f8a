-- Judging one block after a root was set.
use Rattle.std.proofs.Common.{◌≡◌, ℕ, suc, ◌+◌, List, ◌∷◌, ◌++◌, Some, ap, Option, Ok, ◌∙◌, zero, [], refl, None, codes, length, append-nil}
use Rattle.jf_hash.specs.Hashes.{K}
use Rattle.jf_io.specs.Lines.{lines}
use Rattle.jf_evidence.specs.declared.proof.Proof.{Proof}
use Rattle.jf_evidence.specs.Proofs.{refusal}
use Rattle.jf_evidence.specs.declared.proof.ProofFault.{ProofFault}
use Rattle.jf_collide.specs.declared.judged.Judged.{Judged}
use Rattle.jf_text.specs.Words.{line_text}
use Rattle.jf_blocks.specs.Reading.{line_read, first_line_of, LinePlace, proof_block, first_place}
use Rattle.jf_blocks.specs.declared.first.FirstLine.TheVariants as first
use Rattle.jf_multi.specs.Verdicts.{many_refusal}
use Rattle.jf_many_blocks.specs.ManyBlocks.{on_keys}
use Rattle.jf_many_blocks.specs.ManyReading.{ManyBlock, many_of, many_body}
use Rattle.jf_many_blocks.specs.declared.head.ManyHead.{ManyHead}
use Rattle.jf_verify.specs.Verdicts.{Judging, say, verdicts_from, say_block, say_many, many_verdict_text, judgement_under, judged_of, refused_text, contradicted_claim, contradiction_text, nothing_known, verdicts}
use Rattle.jf_verify.specs.declared.accepted.Accepted.{Accepted}
use Rattle.jf_client.proofs.Openings.{opening-first, opening-many}

pub root_step : (n at : ℕ) (j : Judging) (line : List ℕ) (ls : List (List ℕ)) (root : List ℕ) → line_read first_line_of line ≡ Some (first.Root root)
    → verdicts_from (suc n) j (record { at = at; left = line ∷ ls }) ≡ verdicts_from n (record { root = Some root; claims = j.claims }) (record { at = at + 1; left = ls })
unfolding verdicts_from
root_step n at j line ls root e =
    ap (λ o. let s = say j (record { at = at; left = line ∷ ls }) (record { at = at + 1; left = ls }) o in s.text ++ verdicts_from n s.known s.place) (opening-first line (first.Root root) e)

-- the judging after a root was set and these claims were accepted
abbrev pub knows : List ℕ → List Accepted → Judging
knows root claims = record { root = Some root; claims = claims }

pub block_step : (n at : ℕ) (root : List ℕ) (claims : List Accepted) (line : List ℕ) (ls : List (List ℕ)) (k : ℕ) (name : List ℕ) (claim : Option (List ℕ)) (proof : Proof) (place : LinePlace)
    → line_read first_line_of line ≡ Some (first.Proof k) → proof_block k (record { at = at + 1; left = ls }) ≡ Ok ((name, claim, proof), place)
    → verdicts_from (suc n) (knows root claims) (record { at = at; left = line ∷ ls })
    ≡ (judgement_under root claims (judged_of (name, claim, proof))).0 ++ verdicts_from n (knows root (judgement_under root claims (judged_of (name, claim, proof))).1) place
unfolding verdicts_from
block_step n at root claims line ls k name claim proof place e read =
    ap (λ o. let s = say (knows root claims) (record { at = at; left = line ∷ ls }) (record { at = at + 1; left = ls }) o in s.text ++ verdicts_from n s.known s.place) (opening-first line (first.Proof k) e)
    ∙ ap (λ r. let s = say_block root (knows root claims) (record { at = at; left = line ∷ ls }) r in s.text ++ verdicts_from n s.known s.place) read

pub many_step : (n at : ℕ) (root : List ℕ) (claims : List Accepted) (line : List ℕ) (ls : List (List ℕ)) (head : ManyHead) (block : ManyBlock) (place : LinePlace)
    → line_read many_of line ≡ Some head → many_body head (record { at = at + 1; left = ls }) ≡ Ok (block, place)
    → verdicts_from (suc n) (knows root claims) (record { at = at; left = line ∷ ls }) ≡ many_verdict_text (many_refusal root (on_keys block.0) block.1) ++ verdicts_from n (knows root claims) place
unfolding verdicts_from
many_step n at root claims line ls head block place e read =
    ap (λ o. let s = say (knows root claims) (record { at = at; left = line ∷ ls }) (record { at = at + 1; left = ls }) o in s.text ++ verdicts_from n s.known s.place) (opening-many line head e)
    ∙ ap (λ r. let s = say_many root (knows root claims) (record { at = at; left = line ∷ ls }) r in s.text ++ verdicts_from n s.known s.place) read

pub end_step : (n : ℕ) (j : Judging) (at : ℕ) → verdicts_from n j (record { at = at; left = [] }) ≡ []
unfolding verdicts_from
end_step zero j at = refl
end_step (suc n) j at = refl

-- a first claim that no check refuses is judged accepted
judged-first : (root : List ℕ) (j : Judged) → refusal root j.key j.claim j.proof ≡ None → (judgement_under root [] j).0 ≡ codes "accepted\n"
unfolding judgement_under
judged-first root j e =
    let a : Accepted = record { root = root; judged = j } in
    ap (λ (o : Option ProofFault). let r : List ℕ × List Accepted = elim o as (λ x. List ℕ × List Accepted) [
      | Some why ↦ (refused_text why, [])
      | None ↦ (line_text (codes "accepted" ∷ []) ++ contradiction_text a (contradicted_claim a []), [] ++ a ∷ [])
    ] in r.0) e

pub verdicts-of_one : (input first_line second_line : List ℕ) (ls : List (List ℕ)) (root : List ℕ) (k : ℕ) (name : List ℕ) (claim : Option (List ℕ)) (proof : Proof) (at : ℕ)
    → lines input ≡ first_line ∷ second_line ∷ ls → line_read first_line_of first_line ≡ Some (first.Root root) → line_read first_line_of second_line ≡ Some (first.Proof k)
    → proof_block k (record { at = 3; left = ls }) ≡ Ok ((name, claim, proof), record { at = at; left = [] }) → refusal root (K name) claim proof ≡ None
    → verdicts input ≡ codes "accepted\n"
unfolding verdicts
verdicts-of_one input first_line second_line ls root k name claim proof at is sets begins read accepted =
    let j : Judged = judged_of (name, claim, proof) in
    ap (λ xs. verdicts_from (length xs) nothing_known (first_place xs)) is ∙ root_step (length (second_line ∷ ls)) 1 nothing_known first_line (second_line ∷ ls) root sets
    ∙ block_step (length ls) 2 root [] second_line ls k name claim proof (record { at = at; left = [] }) begins read
    ∙ ap (λ t. (judgement_under root [] j).0 ++ t) (end_step (length ls) (knows root (judgement_under root [] j).1) at) ∙ append-nil (judgement_under root [] j).0 ∙ judged-first root j accepted
