-- Texts are written piece by piece.
use Rattle.std.proofs.Common.{◌≡◌, ℕ, List, [], ◌∷◌, ◌++◌, sym, ap, ◌∙◌, decimal, ◌≤◌, length, take, arith, length-append, take_all}
use Rattle.std.proofs.lemmas.List.{append-nil, append_assoc, take-append-le, take-take}
use Rattle.std.specs.List.{join_with_byte}
use Rattle.jf_text.specs.Words.{spaced_words, Extends}
use Rattle.jf_text.proofs.Spaces.{spaced-append}
use Rattle.jf_script.specs.Replies.{reply_text, reply_words}
use Rattle.jf_script.specs.declared.reply.Reply.{Reply}

join-spaced : (w : List ℕ) (ws : List (List ℕ)) → join_with_byte 32 (w ∷ ws) ≡ w ++ spaced_words ws
join-spaced w [] = sym (append-nil w)
join-spaced w (x ∷ ws) = ap (λ rest. w ++ 32 ∷ rest) (join-spaced x ws)

-- a reply's text is its number, its words with a space before each, and 0A
pub reply_text-pieces : (n : ℕ) (r : Reply) → reply_text n r ≡ (decimal n ++ spaced_words (reply_words r)) ++ 10 ∷ []
unfolding reply_text
reply_text-pieces n r = ap (λ text. text ++ 10 ∷ []) (join-spaced (decimal n) (reply_words r))

-- what begins with a longer text begins with its front
pub Extends-after : (before more middle after : List ℕ) → middle ≡ before ++ more → Extends middle after → Extends before after
Extends-after before more middle after e h =
    let long : length before ≤ length middle = omega (arith, ap length e, length-append before more) in
    sym (take-take (length before) (length middle) after long)
    ∙ ap (take (length before)) (h ∙ e)
    ∙ take-append-le (length before) before more (omega arith)
    ∙ take_all (length before) before (omega arith)

-- words are spaced in two parts as they are in one
pub spaced-two : (before : List ℕ) (ws vs : List (List ℕ)) → (before ++ spaced_words ws) ++ spaced_words vs ≡ before ++ spaced_words (ws ++ vs)
spaced-two before ws vs = append_assoc before (spaced_words ws) (spaced_words vs) ∙ ap (λ text. before ++ text) (sym (spaced-append ws vs))
