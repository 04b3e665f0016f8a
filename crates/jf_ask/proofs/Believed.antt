-- A map's own reply shows what the map says.
use Rattle.std.proofs.Common.{◌≡◌, ℕ, ◌+◌, ◌<◌, ◌≤◌, ◌^◌, ◌&&◌, Bool, true, List, [], ◌∷◌, ◌++◌, length, Option, None, Some, IfSome, is_some, option_map, option_and_then, refl, sym, ap, ◌∙◌, arith, if◌then◌else◌, nat_le, append-nil, append_assoc, length-append, codes, decimal}
use Rattle.std.proofs.lemmas.Bool.Decides.{nat_tests}
use Rattle.std.proofs.lemmas.Slice.Eq.{bytes_eq-Decides}
use Rattle.std.specs.Prelude.{Ok, Err, bytes_eq}
use Rattle.std.specs.Fmt.{digits}
use Rattle.std.specs.FinMap.{get}
use Rattle.std.specs.List.{join_with_byte}
use Rattle.jf_hash.specs.Hashes.{K}
use Rattle.jf_io.specs.Lines.{lines}
use Rattle.jf_io.proofs.EndedLines.{lines-none}
use Rattle.jf_evidence.specs.declared.proof.Proof.{Proof}
use Rattle.jf_evidence.specs.declared.proof.ProofFault.{ProofFault}
use Rattle.jf_evidence.specs.Proofs.{honest, refusal}
use Rattle.jf_evidence.specs.Laws.{HonestClaimsAreAccepted}
use Rattle.jf_evidence.proofs.ProofLaws.{honest-short}
use Rattle.jf_text.specs.Words.{is_word, number, number_upto, hash_of}
use Rattle.jf_text.proofs.Plain.{all_plain, is_plain-decimal}
use Rattle.jf_text.proofs.NumbersBack.{number_upto-back, length-decimal}
use Rattle.jf_blocks.specs.Blocks.{proof_lines}
use Rattle.jf_blocks.specs.Reading.{line_read, first_line_of, proof_block, word_after}
use Rattle.jf_blocks.specs.declared.first.FirstLine.{FirstLine}
use Rattle.jf_blocks.specs.declared.first.FirstLine.TheVariants as first
use Rattle.jf_blocks.specs.Laws.{FitsProofBlock, BlocksAreReadBack, RepliesBeginBlocks}
use Rattle.jf_blocks.proofs.LinesJoined.{lines-join}
use Rattle.jf_blocks.proofs.LinesReadBack.{line_read-join}
use Rattle.jf_ask.specs.declared.lookup.LookupFault.TheVariants as fault
use Rattle.jf_ask.specs.Lookups.{siblings_in, siblings_of, block_alone, block_of, lookup_in, lookup, proof_line_text, HonestBlocksAreBelieved}

-- ---- the first line
-- the word `proof` is no number
proof-number : number (codes "proof") ≡ None
unfolding number digits
proof-number = refl

-- what words say that don't begin with `n ok`
abbrev first_from : List (List ℕ) → Option FirstLine
first_from ws =
    elim (option_and_then hash_of (word_after (codes "root") ws)) [
      | Some hash ↦ Some (first.Root hash)
      | None ↦ option_map (λ n. first.Proof n) (option_and_then (number_upto 65535) (word_after (codes "proof") ws))
    ]

proof_words-first : (k : ℕ) → k ≤ 65535 → first_line_of (codes "proof" ∷ decimal k ∷ []) ≡ Some (first.Proof k)
proof_words-first k few =
    let ws : List (List ℕ) = codes "proof" ∷ decimal k ∷ [] in
    ap (λ (o : Option ℕ). first_from (if is_some o && is_word (decimal k) (codes "ok") then [] else ws)) proof-number
    ∙ ap (option_map (λ n. first.Proof n)) (number_upto-back 65535 k (omega (arith, few)) few)

-- it is read as the first line of its block, whether it has a number or not
proof_line_text-first : RepliesBeginBlocks → (number : Option ℕ) (k : ℕ) (rest : List ℕ) → IfSome number (λ n. n < 2 ^ 64) → k ≤ 65535
    → (line : List ℕ) × (lines (proof_line_text number k ++ rest) ≡ line ∷ lines rest) × (line_read first_line_of line ≡ Some (first.Proof k))
proof_line_text-first begins (Some n) k rest small few = begins n k rest small few
proof_line_text-first begins None k rest small few =
    let ws : List (List ℕ) = decimal k ∷ [] in
    let line : List ℕ = join_with_byte 32 (codes "proof" ∷ ws) in
    let fits : k < 2 ^ 64 = omega (arith, few) in
    let plain : all_plain ws ≡ true = rw (is_plain-decimal k fits) refl in
    let short : length line ≤ 8500 = omega (arith, length-append (codes "proof ") (decimal k), length-decimal k fits) in (
      line,
      ap lines (append_assoc line (10 ∷ []) rest) ∙ lines-join (codes "proof") ws rest refl plain,
      line_read-join first_line_of (first.Proof k) (codes "proof") ws refl plain short (proof_words-first k few),
    )

-- ---- the block
siblings-back : (line : List ℕ) (k : ℕ) → line_read first_line_of line ≡ Some (first.Proof k) → k ≤ 256 → siblings_of line ≡ Some k
siblings-back line k e small =
    let fits : nat_le k 256 ≡ true = grind (arith, nat_tests) in
    ap siblings_in e ∙ ap (λ (b : Bool). if b then Some k else None) fits

module _ (back : BlocksAreReadBack) (begins : RepliesBeginBlocks) where
  block-back : (number : Option ℕ) (name : List ℕ) (claim : Option (List ℕ)) (proof : Proof) → IfSome number (λ n. n < 2 ^ 64) → length proof.siblings ≤ 256 → FitsProofBlock name claim proof
      → block_of (lines (proof_line_text number (length proof.siblings) ++ proof_lines name claim proof)) ≡ Some (name, claim, proof)
  unfolding block_of
  block-back number name claim proof small few is_told =
      let k = length proof.siblings in
      let block = proof_lines name claim proof in
      let head = proof_line_text-first begins number k block small (omega (arith, few)) in
      ap block_of head.1
      ∙ ap (λ o. option_and_then (λ i. block_alone (proof_block i (record { at = 2; left = lines block }))) o) (siblings-back head.0 k head.2 few)
      ∙ ap (λ t. block_alone (proof_block k (record { at = 2; left = lines t }))) (sym (append-nil block))
      ∙ ap block_alone (back name claim proof 2 [] is_told)
      ∙ ap (λ ls. block_alone (Ok ((name, claim, proof), record { at = 2 + 3 + k; left = ls }))) lines-none

-- ---- what it shows
-- a block on this name whose claim no check refuses
on_name : (t : Bool) (r : Option ProofFault) (v : Option (List ℕ)) → t ≡ true → r ≡ None → (if t then elim r [ None ↦ Ok v | Some why ↦ Err (fault.Claim why) ] else Err fault.OtherName) ≡ Ok v
on_name t r v e f = rw (e, f) refl

lookup_in-shown : (top name : List ℕ) (claim : Option (List ℕ)) (proof : Proof) → refusal top (K name) claim proof ≡ None → lookup_in top name (Some (name, claim, proof)) ≡ Ok claim
lookup_in-shown top name claim proof shown = on_name (bytes_eq name name) (refusal top (K name) claim proof) claim ((bytes_eq-Decides name name).1 refl) shown

pub honest-believed : BlocksAreReadBack → RepliesBeginBlocks → HonestClaimsAreAccepted → HonestBlocksAreBelieved
unfolding lookup
honest-believed back begins accepted top name text m number is_map root_is is_told small text_is =
    let claim = get m (K name) in
    let proof = honest m (K name) in
    ap (λ t. lookup_in top name (block_of (lines t))) text_is
    ∙ ap (lookup_in top name) (block-back back begins number name claim proof small (honest-short m (K name)) is_told)
    ∙ lookup_in-shown top name claim proof (ap (λ r. refusal r (K name) claim proof) (sym root_is) ∙ accepted m (K name) is_map)
