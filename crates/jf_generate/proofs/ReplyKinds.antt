-- A reply's text has `no` as its second word exactly if the reply is a refusal.
use Rattle.std.proofs.Common.{ℕ, ◌<◌, ◌^◌, ◌≡◌, ◌==◌, Bool, true, false, List, [], ◌∷◌, ◌++◌, codes, decimal, cond, refl, sym, subst, ap, ◌∙◌}
use Rattle.std.proofs.lemmas.List.{append_assoc}
use Rattle.jf_path.proofs.BoolLaws.{not_and_passes, both_pass}
use Rattle.jf_text.specs.Words.{words, is_word, spaced_words}
use Rattle.jf_text.proofs.Plain.{is_without, is_plain-decimal}
use Rattle.jf_script.proofs.Texts.{reply_text-pieces}
use Rattle.jf_script.proofs.ReplyTexts.{reply_words-front}
use Rattle.jf_script.specs.Replies.{reply_text, reply_words, is_refusal}
use Rattle.jf_script.specs.declared.reply.Reply.{Reply}
use Rattle.jf_generate.specs.Reports.{is_refused, second_word}

-- the words of a text that begins with a word and a space
words-first : (w text : List ℕ) → is_without 32 w ≡ true → words (w ++ 32 ∷ text) ≡ w ∷ words text
unfolding words
words-first [] text h = refl
words-first (b ∷ w) text h = let parts = not_and_passes (b == 32) (is_without 32 w) h in rw (parts.0, words-first w text parts.1) refl

abbrev first_word : List (List ℕ) → List ℕ
first_word [] = []
first_word (w ∷ ws) = w

abbrev has_two : List (List ℕ) → Bool
has_two [] = false
has_two (w ∷ []) = false
has_two (w ∷ v ∷ ws) = true

-- the second word of the text of two words or more after another one is the first of them
second_word-text : (d : List ℕ) (ws : List (List ℕ)) → is_without 32 d ≡ true → has_two ws ≡ true → is_without 32 (first_word ws) ≡ true
    → second_word (words ((d ++ spaced_words ws) ++ 10 ∷ [])) ≡ first_word ws
second_word-text d [] hd two hw = absurd (cc)
second_word-text d (w ∷ []) hd two hw = absurd (cc)
second_word-text d (w ∷ v ∷ ws) hd two hw =
    let pieces : (d ++ spaced_words (w ∷ v ∷ ws)) ++ 10 ∷ [] ≡ d ++ 32 ∷ (w ++ 32 ∷ ((v ++ spaced_words ws) ++ 10 ∷ [])) =
    append_assoc d (spaced_words (w ∷ v ∷ ws)) (10 ∷ []) ∙ ap (λ text. d ++ 32 ∷ text) (append_assoc w (spaced_words (v ∷ ws)) (10 ∷ [])) in
    rw (pieces, words-first d (w ++ 32 ∷ ((v ++ spaced_words ws) ++ 10 ∷ [])) hd, words-first w ((v ++ spaced_words ws) ++ 10 ∷ []) hw) refl

-- the words of a reply are two or more, and the first of them is `no` exactly if it is a refusal
abbrev IsFront : Bool → List (List ℕ) → Type 0
IsFront b ws = (has_two ws ≡ true) × (is_without 32 (first_word ws) ≡ true) × (is_word (first_word ws) (codes "no") ≡ b)

front_of : (b : Bool) (kind : List ℕ) (ws : List (List ℕ)) → IsFront b (cond b (codes "no") (codes "ok") ∷ kind ∷ ws)
front_of true kind ws = (refl, refl, refl)
front_of false kind ws = (refl, refl, refl)

front : (r : Reply) → IsFront (is_refusal r) (reply_words r)
front r = let words = reply_words-front r in subst (IsFront (is_refusal r)) (sym words.2) (front_of (is_refusal r) words.0 words.1)

-- the text of a reply counts as refused exactly if the reply is a refusal
pub is_refused-reply_text : (n : ℕ) (r : Reply) → n < 2 ^ 64 → is_refused (reply_text n r) ≡ is_refusal r
is_refused-reply_text n r h =
    let front = front r in
    let plain = (both_pass (is_without 32 (decimal n)) (is_without 10 (decimal n)) (is_plain-decimal n h)).0 in
    ap is_refused (reply_text-pieces n r) ∙ ap (λ w. is_word w (codes "no")) (second_word-text (decimal n) (reply_words r) plain front.0 front.1) ∙ front.2
