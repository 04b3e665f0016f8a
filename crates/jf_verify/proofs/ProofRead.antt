-- A proof block is judged line by line as it is when it was read whole.
use Rattle.std.proofs.Common.{ℕ, ◌+◌, List, ◌++◌, ◌≡◌, ◌-◌, ◌∷◌, ap, ◌∙◌, arith, sym, [], Option, Ok, refl, suc, zero, cond}
use Rattle.std.proofs.lemmas.List.{append-nil}
use Rattle.jf_hash.specs.Hashes.{K}
use Rattle.jf_collide.specs.declared.judged.Judged.{Judged}
use Rattle.jf_blocks.specs.Reading.{LinePlace, ReadResult, Block, and_then, line_by, gives, lines_by, side_of, named_of, claim_of, leaf_line_of, proof_block}
use Rattle.jf_blocks.specs.Sides.{kept_sides}
use Rattle.jf_blocks.proofs.SideLaws.{with_kept-kept_sides}
use Rattle.jf_verify.specs.Kept.{ClaimsBySubject, judged_by}
use Rattle.jf_verify.specs.Steps.{with_side, said_to_end, keeps, line_step, silent, whole, step_of_block, side_step, name_turn, claim_turn, leaf_step}
use Rattle.jf_verify.specs.Verdicts.{judgement_under, Judging, say_block}
use Rattle.jf_verify.specs.declared.stage.Heading.{Heading}
use Rattle.jf_verify.specs.declared.stage.Stage.TheVariants as stage
use Rattle.jf_verify.proofs.KeptLaws.{kept_claims, with_kept_claims, judged_by-kept_claims, judged-kept_sides}
use Rattle.jf_verify.proofs.LineRead.{knowledge_of, goes, goes_from, IsPlaceAfter, by_line, lines_by-after, some_left}

-- the text of a block that was read or not, and then of the lines after it
abbrev pub answered : List ℕ → Judging → LinePlace → ReadResult Block → List ℕ
answered root j p r = goes_from (say_block root j p r)

-- ---- siblings
module _ (root name : List ℕ) (claim : Option (List ℕ)) (leaf : Option (List ℕ × List ℕ)) (j : Judging) (p : LinePlace) where
  -- with this many siblings to come
  abbrev heading_with : ℕ → Heading
  heading_with n = record { root = root; missing = n }

  -- a block with these siblings
  abbrev block : List (List ℕ) → Judged
  block siblings = record { key = K name; claim = claim; proof = record { leaf = leaf; siblings = siblings } }

  -- a block that was read with these siblings
  abbrev block_read : List (List ℕ) → LinePlace → ReadResult Block
  block_read siblings t = gives (name, claim, record { leaf = leaf; siblings = siblings }) t

  -- what is known of the block after these siblings
  abbrev part : List (List ℕ) → Judged
  part siblings = block (kept_sides siblings)

  side_kept : (siblings : List (List ℕ)) (h : List ℕ) → with_side (part siblings) h ≡ part (siblings ++ h ∷ [])
  side_kept siblings h = ap block (with_kept-kept_sides siblings h)

  -- the whole block is judged as it would be with all siblings and all claims
  whole_judged : (siblings : List (List ℕ)) (at : ℕ) (ls : List (List ℕ))
      → goes (whole (knowledge_of j) root (part siblings)) at ls ≡ answered root j p (block_read siblings (record { at = at + 1; left = ls }))
  whole_judged siblings at ls =
      let same : judged_by root (kept_claims j.claims) (part siblings) ≡ with_kept_claims (judgement_under root j.claims (block siblings)) =
      judged_by-kept_claims root j.claims (part siblings) ∙ ap with_kept_claims (judged-kept_sides root j.claims (block siblings)) in
      ap (λ (v : List ℕ × ClaimsBySubject). v.0 ++ said_to_end (record { at = at + 1; known = record { root = j.root; kept = v.1 }; stage = stage.Between }) ls) same

  sides_read : (n : ℕ) (siblings : List (List ℕ)) (at : ℕ) (ls : List (List ℕ)) → IsPlaceAfter p (at + 1) ls
      → goes (step_of_block (knowledge_of j) (heading_with n) (part siblings)) at ls
      ≡ answered root j p (and_then (lines_by side_of n (record { at = at + 1; left = ls })) (λ more t. block_read (siblings ++ more) t))
  unfolding lines_by line_step
  sides_read zero siblings at ls follows =
      whole_judged siblings at ls
      ∙ ap (λ hs. answered root j p (block_read hs (record { at = at + 1; left = ls }))) (sym (append-nil siblings))
  sides_read (suc m) siblings at ls follows =
      let one_less : suc m - 1 ≡ m = omega arith in
      ap (λ b. goes (cond b (whole (knowledge_of j) root (part siblings)) (keeps (knowledge_of j) (silent (stage.Sides (heading_with (suc m)) (part siblings))))) at ls) (some_left m)
      ∙ by_line (answered root j p) j p (λ e. refl) side_of (λ h q. and_then (lines_by side_of m q) (λ more t. block_read ((siblings ++ h ∷ []) ++ more) t))
      (side_step (at + 1) (knowledge_of j) (heading_with (suc m)) (part siblings)) (stage.Sides (heading_with (suc m)) (part siblings)) (at + 1) ls follows refl (λ line. refl) refl
      (λ h more further.
      ap (λ b. goes (step_of_block (knowledge_of j) (heading_with (suc m - 1)) b) (at + 1) more) (side_kept siblings h)
      ∙ ap (λ n. goes (step_of_block (knowledge_of j) (heading_with n) (part (siblings ++ h ∷ []))) (at + 1) more) one_less
      ∙ sides_read m (siblings ++ h ∷ []) (at + 1) more further)
      ∙ ap (answered root j p) (lines_by-after (line_by side_of (record { at = at + 1; left = ls })) (lines_by side_of m) block_read siblings)

-- ---- the block
pub block_reads : (n : ℕ) (root : List ℕ) (j : Judging) (p : LinePlace) (at : ℕ) (left : List (List ℕ)) → IsPlaceAfter p at left
    → said_to_end (record { at = at; known = knowledge_of j; stage = stage.Name (record { root = root; missing = n }) }) left ≡ answered root j p (proof_block n (record { at = at; left = left }))
unfolding proof_block line_step
block_reads n root j p at left follows =
    let o : Heading = record { root = root; missing = n } in
    by_line (answered root j p) j p (λ e. refl) named_of _ (λ name. keeps (knowledge_of j) (name_turn at o name)) (stage.Name o) at left follows refl (λ line. refl) refl (λ name ls then_claim.
    by_line (answered root j p) j p (λ e. refl) claim_of _ (λ claim. keeps (knowledge_of j) (claim_turn (at + 1) o (K name) claim)) (stage.Claim o (K name)) (at + 1) ls then_claim refl (λ line. refl) refl (λ claim ls then_leaf.
    by_line (answered root j p) j p (λ e. refl) leaf_line_of _ (leaf_step (at + 1 + 1) (knowledge_of j) o (K name) claim) (stage.Leaf o (K name) claim) (at + 1 + 1) ls then_leaf refl (λ line. refl) refl (λ leaf ls then_sides.
    sides_read root name claim leaf j p n [] (at + 1 + 1) ls then_sides)))
