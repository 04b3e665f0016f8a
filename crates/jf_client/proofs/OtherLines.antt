-- The lines of replies that set no root and begin no block that is judged.
use Rattle.std.specs.List.{AllByRecursion, join_with_byte}
use Rattle.std.proofs.lemmas.Slice.Eq.{bytes_eq-Decides}
use Rattle.std.proofs.Common.{◌≡◌, Bool, inl, inr, ℕ, ◌^◌, ◌<◌, ◌≤◌, ◌&&◌, true, false, cond, is_some, List, [], ◌∷◌, ◌++◌, length, Option, Some, None, codes, decimal, refl, sym, ap, ap₂, ◌∙◌, subst, append_assoc, append-nil, option_map, option_and_then}
use Rattle.hex.specs.Hex.{encode_lower, IsBytes}
use Rattle.jf_io.specs.Lines.{lines}
use Rattle.jf_evidence.specs.Ranges.{Entries}
use Rattle.jf_evidence.specs.declared.range_proof.RangeProof.{RangeProof}
use Rattle.jf_text.specs.Words.{line_text, value_word, words, number, number_upto, hash_of, is_word, is_long}
use Rattle.jf_text.proofs.Plain.{all_plain, is_plain, is_plain-decimal, words-join}
use Rattle.jf_text.proofs.NumbersBack.{number-back}
use Rattle.jf_text.proofs.HexReadBack.{is_plain-hex}
use Rattle.jf_script.specs.Replies.{reply_words, reply_text, is_refusal, IsInRange}
use Rattle.jf_script.specs.declared.reply.Reply.{Reply}
use Rattle.jf_blocks.specs.Blocks.{chunk_lines, entry_lines, side_lines}
use Rattle.jf_blocks.specs.Reading.{line_read, first_line_of}
use Rattle.jf_blocks.specs.Laws.{IsHash, IsChunkBlock}
use Rattle.jf_blocks.specs.declared.first.FirstLine.{FirstLine}
use Rattle.jf_blocks.specs.declared.first.FirstLine.TheVariants as first
use Rattle.jf_blocks.proofs.BlocksReadBack.{left_out}
use Rattle.jf_blocks.proofs.LinesJoined.{lines-join}
use Rattle.jf_verify.specs.Openings.{opening_of}
use Rattle.jf_client.specs.RunLaws.{LineInState, answer_heard, text_heard, verdict_with_block, IsOther}
use Rattle.jf_client.proofs.Openings.{first_from, opening-none, number-many}
use Rattle.jf_script.proofs.ReplyTexts.{all_plain-words, reply_words-front, reply_words-root, reply_words-proof}

-- ---- lines that set no root and begin no block
abbrev pub IsNoFirst : List ℕ → Type 0
IsNoFirst line = line_read opening_of line ≡ None

-- a line joined from words that don't say so
no_first-join : (w : List ℕ) (ws : List (List ℕ)) → is_plain w ≡ true → all_plain ws ≡ true → opening_of (w ∷ ws) ≡ None → IsNoFirst (join_with_byte 32 (w ∷ ws))
no_first-join w ws plain others none =
    let line : List ℕ = join_with_byte 32 (w ∷ ws) in
    elim (is_long line) as (λ b. cond b None (opening_of (words line)) ≡ None) [ true ↦ refl | false ↦ ap opening_of (words-join w ws plain others) ∙ none ]

-- lines of a text, whatever comes after it
pub record AreLinesOf (text : List ℕ) (xs : List (List ℕ)) : Type 0 where
  pub whole : (rest : List ℕ) → lines (text ++ rest) ≡ xs ++ lines rest
  pub none : AllByRecursion IsNoFirst xs

all_joined : (xs ys : List (List ℕ)) → AllByRecursion IsNoFirst xs → AllByRecursion IsNoFirst ys → AllByRecursion IsNoFirst (xs ++ ys)
all_joined [] ys h k = k
all_joined (x ∷ xs) ys h k = (h.0, all_joined xs ys h.1 k)

lines_joined : (t u : List ℕ) (xs ys : List (List ℕ)) → AreLinesOf t xs → AreLinesOf u ys → AreLinesOf (t ++ u) (xs ++ ys)
lines_joined t u xs ys a b = record {
  whole = λ rest. ap lines (append_assoc t u rest) ∙ a.whole (u ++ rest) ∙ ap (λ (ls : List (List ℕ)). xs ++ ls) (b.whole rest) ∙ sym (append_assoc xs ys (lines rest));
  none = all_joined xs ys a.none b.none;
}

one_line_of : (w : List ℕ) (ws : List (List ℕ)) → is_plain w ≡ true → all_plain ws ≡ true → is_word w (codes "many") ≡ false → first_line_of (w ∷ ws) ≡ None → AreLinesOf (line_text (w ∷ ws)) (join_with_byte 32 (w ∷ ws) ∷ [])
one_line_of w ws plain others other none = record {
  whole = λ rest. ap lines (append_assoc (join_with_byte 32 (w ∷ ws)) (10 ∷ []) rest) ∙ lines-join w ws rest plain others;
  none = (no_first-join w ws plain others (opening-none w ws other none), tt);
}

-- ---- the lines of chunk blocks
entry_first : (k v : List ℕ) → first_line_of (codes "entry" ∷ k ∷ v ∷ []) ≡ None
entry_first k v = elim (is_some (number (codes "entry")) && is_word k (codes "ok")) as (λ b. first_from (cond b (v ∷ []) (codes "entry" ∷ k ∷ v ∷ [])) ≡ None) [ true ↦ refl | false ↦ refl ]

side_first : (h : List ℕ) → first_line_of (codes "side" ∷ h ∷ []) ≡ None
side_first h = elim (is_some (number (codes "side")) && is_word h (codes "ok")) as (λ b. first_from (cond b [] (codes "side" ∷ h ∷ [])) ≡ None) [ true ↦ refl | false ↦ refl ]

entry_lines_of : (es : Entries) → AllByRecursion (λ e. IsHash e.0 × IsBytes e.1 × (length e.1 ≤ 4096)) es → (xs : List (List ℕ)) × AreLinesOf (entry_lines es) xs
entry_lines_of [] fit = ([], record { whole = λ rest. refl; none = tt })
entry_lines_of (e ∷ es) fit =
    let more = entry_lines_of es fit.1 in
    let ws : List (List ℕ) = encode_lower e.0 ∷ value_word e.1 ∷ [] in
    let plain : all_plain ws ≡ true = rw (is_plain-hex e.0 fit.0.0.1, is_plain-hex e.1 fit.0.1) refl in
    (join_with_byte 32 (codes "entry" ∷ ws) ∷ more.0, lines_joined (line_text (codes "entry" ∷ ws)) (entry_lines es) (join_with_byte 32 (codes "entry" ∷ ws) ∷ []) more.0 (one_line_of (codes "entry") ws refl plain refl (entry_first (encode_lower e.0) (value_word e.1))) more.1)

side_lines_of : (hs : List (List ℕ)) → AllByRecursion IsHash hs → (xs : List (List ℕ)) × AreLinesOf (side_lines hs) xs
side_lines_of [] fit = ([], record { whole = λ rest. refl; none = tt })
side_lines_of (h ∷ hs) fit =
    let more = side_lines_of hs fit.1 in
    let ws : List (List ℕ) = encode_lower h ∷ [] in
    let plain : all_plain ws ≡ true = rw (is_plain-hex h fit.0.1) refl in
    (join_with_byte 32 (codes "side" ∷ ws) ∷ more.0, lines_joined (line_text (codes "side" ∷ ws)) (side_lines hs) (join_with_byte 32 (codes "side" ∷ ws) ∷ []) more.0 (one_line_of (codes "side") ws refl plain refl (side_first (encode_lower h))) more.1)

chunk_lines_of : (es : Entries) (proof : RangeProof) → IsChunkBlock es proof → (xs : List (List ℕ)) × AreLinesOf (chunk_lines es proof) xs
unfolding chunk_lines
chunk_lines_of es proof fit =
    let a = entry_lines_of es fit.entries in
    let b = side_lines_of proof.siblings fit.siblings in
    (a.0 ++ b.0, lines_joined (entry_lines es) (side_lines proof.siblings) a.0 b.0 a.1 b.1)

-- ---- the lines of other replies
ok_first : (n : ℕ) (ws : List (List ℕ)) → n < 2 ^ 64 → first_from ws ≡ None → first_line_of (decimal n ∷ codes "ok" ∷ ws) ≡ None
ok_first n ws small none = ap first_from (left_out (number (decimal n)) n (decimal n ∷ codes "ok" ∷ ws) ws (number-back n small)) ∙ none

not_ok : (o : Option ℕ) → (is_some o && is_word (codes "no") (codes "ok")) ≡ false
not_ok None = refl
not_ok (Some n) = refl

no_first : (n : ℕ) (r : List ℕ) (rs : List (List ℕ)) → first_line_of (decimal n ∷ codes "no" ∷ r ∷ rs) ≡ None
no_first n r rs = ap (λ b. first_from (cond b (r ∷ rs) (decimal n ∷ codes "no" ∷ r ∷ rs))) (not_ok (number (decimal n)))

-- a reply of which a judge says nothing is no root and no proof
no_root : (r : Reply) (kind : List ℕ) (ws : List (List ℕ)) → IsInRange r → verdict_with_block r ≡ None → reply_words r ≡ codes "ok" ∷ kind ∷ ws → is_word kind (codes "root") ≡ false
no_root r kind ws range unjudged e = elim (is_word kind (codes "root")) as (λ b. is_word kind (codes "root") ≡ b → b ≡ false) [
  | false ↦ λ is. refl
  | true ↦ λ is.
      let same : kind ≡ codes "root" = (bytes_eq-Decides kind (codes "root")).0 is in
      let root = reply_words-root r ws range (e ∙ ap (λ (w : List ℕ). codes "ok" ∷ w ∷ ws) same) in
      absurd (let both : None ≡ Some [] = sym unjudged ∙ ap verdict_with_block root in cc)
] refl

no_proof : (r : Reply) (kind : List ℕ) (ws : List (List ℕ)) → IsInRange r → verdict_with_block r ≡ None → reply_words r ≡ codes "ok" ∷ kind ∷ ws → is_word kind (codes "proof") ≡ false
no_proof r kind ws range unjudged e = elim (is_word kind (codes "proof")) as (λ b. is_word kind (codes "proof") ≡ b → b ≡ false) [
  | false ↦ λ is. refl
  | true ↦ λ is.
      let same : kind ≡ codes "proof" = (bytes_eq-Decides kind (codes "proof")).0 is in
      let proof = reply_words-proof r ws range (e ∙ ap (λ (w : List ℕ). codes "ok" ∷ w ∷ ws) same) in
      absurd (let both : None ≡ Some (codes "accepted\n") = sym unjudged ∙ ap verdict_with_block proof in cc)
] refl

-- two words of which the first is none of these begin nothing
neither_from : (kind : List ℕ) (ws : List (List ℕ)) → is_word kind (codes "root") ≡ false → is_word kind (codes "proof") ≡ false → first_from (kind ∷ ws) ≡ None
neither_from kind [] other another = refl
neither_from kind (w ∷ []) other another = ap₂ (λ (b c : Bool). elim (option_and_then hash_of (cond b (Some w) None)) as (λ x. Option FirstLine) [
  | Some h ↦ Some (first.Root h)
  | None ↦ option_map (λ n. first.Proof n) (option_and_then (number_upto 65535) (cond c (Some w) None))
]) other another
neither_from kind (w ∷ v ∷ ws) other another = refl

begun_with : (n : ℕ) (r : Reply) (b : Bool) (kind : List ℕ) (ws : List (List ℕ)) → n < 2 ^ 64 → verdict_with_block r ≡ None → IsInRange r
    → reply_words r ≡ cond b (codes "no") (codes "ok") ∷ kind ∷ ws → first_line_of (decimal n ∷ reply_words r) ≡ None
begun_with n r true kind ws small unjudged range e = ap (λ (v : List (List ℕ)). first_line_of (decimal n ∷ v)) e ∙ no_first n kind ws
begun_with n r false kind ws small unjudged range e =
    ap (λ (v : List (List ℕ)). first_line_of (decimal n ∷ v)) e ∙ ok_first n (kind ∷ ws) small (neither_from kind ws (no_root r kind ws range unjudged e) (no_proof r kind ws range unjudged e))

other_first : (n : ℕ) (r : Reply) → n < 2 ^ 64 → verdict_with_block r ≡ None → IsInRange r → first_line_of (decimal n ∷ reply_words r) ≡ None
other_first n r small unjudged range = let front = reply_words-front r in begun_with n r (is_refusal r) front.0 front.1 small unjudged range front.2

reply_lines_of : (n : ℕ) (r : Reply) → n < 2 ^ 64 → verdict_with_block r ≡ None → IsInRange r → AreLinesOf (reply_text n r) (join_with_byte 32 (decimal n ∷ reply_words r) ∷ [])
unfolding reply_text
reply_lines_of n r small unjudged range = one_line_of (decimal n) (reply_words r) (is_plain-decimal n small) (all_plain-words r range) (number-many n small) (other_first n r small unjudged range)

pub other_lines_of : (h : LineInState) → h.number < 2 ^ 64 → IsOther h → (xs : List (List ℕ)) × AreLinesOf (text_heard h) xs
other_lines_of h small o =
    let a = answer_heard h in
    let line : List (List ℕ) = join_with_byte 32 (decimal h.number ∷ reply_words a.reply) ∷ [] in
    let first = reply_lines_of h.number a.reply small o.unjudged o.in_range in
    elim o.block_is as (λ x. (xs : List (List ℕ)) × AreLinesOf (text_heard h) xs) [
      | inl none ↦ (line, subst (λ (t : List ℕ). AreLinesOf t line) (sym (append-nil (reply_text h.number a.reply)) ∙ ap (λ (b : List ℕ). reply_text h.number a.reply ++ b) (sym none)) first)
      | inr c ↦
          let block = chunk_lines_of c.0 c.1 c.2 in
          (line ++ block.0, subst (λ (b : List ℕ). AreLinesOf (reply_text h.number a.reply ++ b) (line ++ block.0)) (sym c.3) (lines_joined (reply_text h.number a.reply) (chunk_lines c.0 c.1) line block.0 first block.1))
    ]
