-- What the mode `many` writes of a map, judged after the line that sets the map's root.
use Rattle.std.proofs.Common.{◌≡◌, ℕ, ◌+◌, ◌^◌, ◌<◌, ◌≤◌, true, List, [], ◌∷◌, ◌++◌, length, Option, IfSome, Some, None, is_some, option_map, option_and_then, cond, ◌&&◌, Ok, codes, refl, sym, ap, ◌∙◌, arith, append_assoc, append-nil, length-append}
use Rattle.std.specs.List.{AllByRecursion, join_with_byte}
use Rattle.hex.specs.Hex.{encode_lower}
use Rattle.jf_hash.specs.Roots.{root}
use Rattle.jf_model.proofs.VersionLaws.{root-IsKey}
use Rattle.jf_io.specs.Lines.{lines}
use Rattle.jf_io.proofs.EndedLines.{lines-none}
use Rattle.jf_text.specs.Words.{is_word, number_upto}
use Rattle.jf_text.proofs.Plain.{all_plain}
use Rattle.jf_text.proofs.HexReadBack.{is_plain-hex}
use Rattle.jf_blocks.specs.Reading.{line_read, first_line_of, first_place, word_after}
use Rattle.jf_blocks.specs.Laws.{IsHash, RepliesSetRoots}
use Rattle.jf_blocks.specs.declared.first.FirstLine.{FirstLine}
use Rattle.jf_blocks.specs.declared.first.FirstLine.TheVariants as first
use Rattle.jf_blocks.proofs.LinesJoined.{lines-join}
use Rattle.jf_blocks.proofs.LinesReadBack.{line_read-join, hash-back, length-hex}
use Rattle.jf_multi.specs.declared.item.Item.{Item}
use Rattle.jf_multi.specs.SharedTrees.{shared_proof}
use Rattle.jf_multi.specs.Verdicts.{many_refusal}
use Rattle.jf_many_blocks.specs.ManyBlocks.{NamedClaim, on_keys, many_line_text, named_claim_lines, item_lines, many_block}
use Rattle.jf_many_blocks.specs.ManyReading.{many_body}
use Rattle.jf_many_blocks.specs.ManyLaws.{IsNamedClaim, IsItem, ManyBlocksAreReadBack, ManyLinesBeginBlocks}
use Rattle.jf_many_blocks.specs.declared.head.ManyHead.{ManyHead}
use Rattle.jf_names.specs.Names.{names_by_key, keys_in, claims_in, names_block}
use Rattle.jf_names.specs.Laws.{AnswersAreAccepted}
use Rattle.jf_verify.specs.Verdicts.{verdicts, verdicts_from, nothing_known, many_verdict_text}
use Rattle.jf_client.specs.ManyLaws.{root_line_text, ManyAnswersAreAccepted}
use Rattle.jf_client.proofs.Told.{hash_of_key}
use Rattle.jf_client.proofs.Openings.{first_from, number-letter}
use Rattle.jf_client.proofs.Judged.{root_step, many_step, end_step, knows}
use Rattle.jf_client.proofs.NamesFit.{names_of-AreNames, names_by_key-names, length-names_by_key}
use Rattle.jf_client.proofs.ManyFits.{shared_proof-items, claims_in-named, few_claims, few_items}

-- ---- the line that sets the root
-- it is the first line, and sets the root
abbrev IsFirst : List ℕ → List ℕ → List ℕ → Type 0
IsFirst text hash rest = (line : List ℕ) × (lines (text ++ rest) ≡ line ∷ lines rest) × (line_read first_line_of line ≡ Some (first.Root hash))

root_words-first : (hash : List ℕ) → IsHash hash → first_line_of (codes "root" ∷ encode_lower hash ∷ []) ≡ Some (first.Root hash)
root_words-first hash is =
    let ws : List (List ℕ) = codes "root" ∷ encode_lower hash ∷ [] in
    ap (λ (o : Option ℕ). first_from (cond (is_some o && is_word (encode_lower hash) (codes "ok")) [] ws)) (number-letter 114 (codes "oot") (omega arith))
    ∙ ap (λ (o : Option (List ℕ)). elim o as (λ x. Option FirstLine) [
      | Some h ↦ Some (first.Root h)
      | None ↦ option_map (λ n. first.Proof n) (option_and_then (number_upto 65535) (word_after (codes "proof") ws))
    ]) (hash-back hash is)

root_line_text-first : RepliesSetRoots → (number : Option ℕ) (hash rest : List ℕ) → IfSome number (λ n. n < 2 ^ 64) → IsHash hash → IsFirst (root_line_text number hash) hash rest
root_line_text-first sets (Some n) hash rest small is = sets n hash rest small is
root_line_text-first sets None hash rest small is =
    let ws : List (List ℕ) = encode_lower hash ∷ [] in
    let line : List ℕ = join_with_byte 32 (codes "root" ∷ ws) in
    let plain : all_plain ws ≡ true = rw (is_plain-hex hash is.1) refl in
    let short : length line ≤ 8500 = omega (arith, length-append (codes "root ") (encode_lower hash), length-hex hash, is.0) in (
      line,
      ap lines (append_assoc line (10 ∷ []) rest) ∙ lines-join (codes "root") ws rest refl plain,
      line_read-join first_line_of (first.Root hash) (codes "root") ws refl plain short (root_words-first hash is),
    )

-- ---- the block
module _ (back : ManyBlocksAreReadBack) (begins : ManyLinesBeginBlocks) (sets : RepliesSetRoots) (accepted : AnswersAreAccepted) where
  -- one block of many claims after a line that sets a root, if nothing refuses the claims
  block_after_root : (hash before : List ℕ) (claims : List NamedClaim) (items : List Item) → ((rest : List ℕ) → IsFirst before hash rest)
      → length claims ≤ 10000 → length items ≤ 5120001 → AllByRecursion IsNamedClaim claims → AllByRecursion IsItem items → many_refusal hash (on_keys claims) items ≡ None
      → verdicts (before ++ many_block claims items) ≡ codes "accepted\n"
  unfolding verdicts many_block
  block_after_root hash before claims items first few low named fit granted =
      let body : List ℕ = named_claim_lines claims ++ item_lines items in
      let text : List ℕ = many_line_text (length claims) (length items) ++ body in
      let head : ManyHead = record { claims = length claims; items = length items } in
      let one = first text in
      let two = begins (length claims) (length items) body few low in
      let all : lines (before ++ text) ≡ one.0 ∷ two.0 ∷ lines body = one.1 ∙ ap (λ (ls : List (List ℕ)). one.0 ∷ ls) two.1 in
      let at : ℕ = 3 + length claims + length items in
      let read : many_body head (record { at = 3; left = lines body }) ≡ Ok ((claims, items), record { at = at; left = lines [] }) =
      ap (λ (t : List ℕ). many_body head (record { at = 3; left = lines t })) (sym (append-nil body)) ∙ back claims items 3 [] named fit in
      ap (λ (ls : List (List ℕ)). verdicts_from (length ls) nothing_known (first_place ls)) all
      ∙ root_step (length (two.0 ∷ lines body)) 1 nothing_known one.0 (two.0 ∷ lines body) hash one.2
      ∙ many_step (length (lines body)) 2 hash [] two.0 (lines body) head (claims, items) (record { at = at; left = lines [] }) two.2 read
      ∙ ap (λ (ls : List (List ℕ)). many_verdict_text (many_refusal hash (on_keys claims) items) ++ verdicts_from (length (lines body)) (knows hash []) (record { at = at; left = ls })) lines-none
      ∙ ap (λ (t : List ℕ). many_verdict_text (many_refusal hash (on_keys claims) items) ++ t) (end_step (length (lines body)) (knows hash []) at)
      ∙ append-nil (many_verdict_text (many_refusal hash (on_keys claims) items))
      ∙ ap many_verdict_text granted

  pub many_answers-accepted : ManyAnswersAreAccepted
  unfolding names_block
  many_answers-accepted m input names number is_map short are small =
      let fit = names_of-AreNames input names are in
      let es : List (List ℕ × List ℕ) = names_by_key names in
      let few : length es ≤ 10000 = omega (arith, length-names_by_key names, fit.most) in
      block_after_root (root m) (root_line_text number (root m)) (claims_in m es) (shared_proof m (keys_in es))
      (λ rest. root_line_text-first sets number (root m) rest small (hash_of_key (root m) (root-IsKey m)))
      (few_claims m es few) (few_items m es few)
      (claims_in-named m es is_map short (names_by_key-names names fit.each)) (shared_proof-items m (keys_in es) is_map) (accepted m names is_map)
