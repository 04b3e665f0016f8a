-- Replies are read back from their words, so distinct replies have distinct texts.
use Rattle.std.proofs.Common.{ℕ, List, [], slice_index_or, drop, ◌≡◌, ◌^◌, ◌<◌, decimal, ap, if◌then◌else◌, cond, codes, Some, None, refl, true, ◌∷◌, sym, ◌∙◌}
use Rattle.std.proofs.lemmas.Fmt.{decimal_is_IsNumeral}
use Rattle.std.proofs.lemmas.List.{append_cancel_right}
use Rattle.std.specs.List.{join_with_byte}
use Rattle.std.specs.Result.{result_unwrap_or}
use Rattle.std.specs.Str.Parse.{digits_value}
use Rattle.hex.proofs.HexLemmas.{decode_of-encode_lower}
use Rattle.hex.specs.Hex.{decode_of, encode_lower, IsBytes}
use Rattle.jf_text.specs.Words.{is_word, words}
use Rattle.jf_text.proofs.Plain.{all_plain, is_plain-decimal, words-join}
use Rattle.jf_text.proofs.HexReadBack.{is_plain-hex}
use Rattle.jf_script.specs.declared.reply.Refusal.{Refusal}
use Rattle.jf_script.specs.declared.reply.Reply.{Reply}
use Rattle.jf_script.specs.Replies.{reply_words, is_refusal, IsInRange, reply_text}
use Rattle.jf_script.specs.declared.reply.Refusal.TheVariants as refusal
use Rattle.jf_script.specs.declared.reply.Reply.TheVariants as reply

-- ---- what stands at a place among words
abbrev word_at : ℕ → List (List ℕ) → List ℕ
word_at k ws = slice_index_or ws k []

abbrev number_in : List ℕ → ℕ
number_in w = digits_value 10 w

abbrev bytes_in : List ℕ → List ℕ
bytes_in w = result_unwrap_or (decode_of w) []

abbrev number_in_word : ℕ → List (List ℕ) → ℕ
number_in_word k ws = number_in (word_at k ws)

abbrev fork_at : ℕ → List (List ℕ) → ℕ
fork_at k ws = number_in (drop 1 (word_at k ws))

abbrev bytes_in_word : ℕ → List (List ℕ) → List ℕ
bytes_in_word k ws = bytes_in (word_at k ws)

abbrev value_in_word : ℕ → List (List ℕ) → List ℕ
value_in_word k ws = bytes_in (drop 1 (word_at k ws))

number-back : (n : ℕ) → n < 2 ^ 64 → number_in (decimal n) ≡ n
number-back n h = (decimal_is_IsNumeral n h).1

bytes-back : (bytes : List ℕ) → IsBytes bytes → bytes_in (encode_lower bytes) ≡ bytes
bytes-back bytes h = ap (λ r. result_unwrap_or r []) (decode_of-encode_lower bytes h)

-- ---- replies read back
abbrev refusal_in : List ℕ → List (List ℕ) → Refusal
refusal_in kind ws =
    if is_word kind (codes "syntax") then refusal.Syntax else
    if is_word kind (codes "long") then refusal.Long else
    if is_word kind (codes "pending") then refusal.Pending else
    if is_word kind (codes "unknown") then refusal.Unknown else
    if is_word kind (codes "gone") then refusal.Gone else
    if is_word kind (codes "keys") then refusal.Keys (number_in_word 0 ws) else
    if is_word kind (codes "future") then refusal.Future (number_in_word 0 ws) else
    if is_word kind (codes "retired") then refusal.Retired (number_in_word 0 ws) else
    if is_word kind (codes "pinsfull") then refusal.PinsFull else
    if is_word kind (codes "nopin") then refusal.NoPin else
    if is_word kind (codes "forksfull") then refusal.ForksFull else
    if is_word kind (codes "range") then refusal.Range (number_in_word 0 ws) else
    if is_word kind (codes "last") then refusal.Last else
    refusal.Syntax

abbrev done_in : List ℕ → List (List ℕ) → Reply
done_in kind ws =
    if is_word kind (codes "pending") then reply.Pending (number_in_word 0 ws) else
    if is_word kind (codes "commit") then reply.Commit (number_in_word 0 ws) (bytes_in_word 1 ws) else
    if is_word kind (codes "fork") then reply.Fork (fork_at 0 ws) (bytes_in_word 1 ws) else
    if is_word kind (codes "land") then reply.Land (number_in_word 0 ws) (bytes_in_word 1 ws) else
    if is_word kind (codes "drop") then reply.Drop (number_in_word 0 ws) else
    if is_word kind (codes "root") then reply.Root (bytes_in_word 0 ws) else
    if is_word kind (codes "proof") then reply.Proof (number_in_word 0 ws) else
    if is_word kind (codes "chunk") then reply.Chunk (number_in_word 0 ws) (number_in_word 1 ws) (number_in_word 2 ws) else
    if is_word kind (codes "count") then reply.Count (number_in_word 0 ws) else
    if is_word kind (codes "nth") then reply.Nth (bytes_in_word 0 ws) (value_in_word 1 ws) else
    if is_word kind (codes "pin") then reply.Pin (number_in_word 0 ws) else
    if is_word kind (codes "unpin") then reply.Unpin (number_in_word 0 ws) else
    if is_word kind (codes "prune") then reply.Prune (number_in_word 0 ws) (number_in_word 1 ws) else
    if is_word kind (codes "compact") then reply.Compact (number_in_word 0 ws) else
    if is_word kind (codes "none") then reply.Value None else
    if is_word kind (codes "value") then reply.Value (Some (value_in_word 0 ws)) else
    if is_word kind (codes "status") then reply.Status (number_in_word 1 ws) (number_in_word 3 ws) (number_in_word 5 ws) (number_in_word 7 ws) (number_in_word 9 ws) (number_in_word 11 ws) (number_in_word 13 ws) else
    reply.No refusal.Syntax

reply_in : List (List ℕ) → Reply
reply_in ws = if is_word (word_at 0 ws) (codes "no") then reply.No (refusal_in (word_at 1 ws) (drop 2 ws)) else done_in (word_at 1 ws) (drop 2 ws)

reply_in-words : (r : Reply) → IsInRange r → reply_in (reply_words r) ≡ r
unfolding reply_in
reply_in-words (reply.Pending count) h = rw (number-back count h) refl
reply_in-words (reply.Commit version root) h = rw (number-back version h.0, bytes-back root h.1) refl
reply_in-words (reply.Fork id root) h = rw (number-back id h.0, bytes-back root h.1) refl
reply_in-words (reply.Land version root) h = rw (number-back version h.0, bytes-back root h.1) refl
reply_in-words (reply.Drop count) h = rw (number-back count h) refl
reply_in-words (reply.Root root) h = rw (bytes-back root h) refl
reply_in-words (reply.Proof siblings) h = rw (number-back siblings h) refl
reply_in-words (reply.Chunk entries depth siblings) h = rw (number-back entries h.0, number-back depth h.1, number-back siblings h.2) refl
reply_in-words (reply.Count count) h = rw (number-back count h) refl
reply_in-words (reply.Nth key value) h = rw (bytes-back key h.0, bytes-back value h.1) refl
reply_in-words (reply.Pin place) h = rw (number-back place h) refl
reply_in-words (reply.Unpin version) h = rw (number-back version h) refl
reply_in-words (reply.Prune bound floor) h = rw (number-back bound h.0, number-back floor h.1) refl
reply_in-words (reply.Compact generation) h = rw (number-back generation h) refl
reply_in-words (reply.Value None) h = refl
reply_in-words (reply.Value (Some value)) h = rw (bytes-back value h) refl
reply_in-words (reply.Status base floor retired head kept forks generation) h =
    rw (number-back base h.0, number-back floor h.1, number-back retired h.2, number-back head h.3, number-back kept h.4, number-back forks h.5, number-back generation h.6) refl
reply_in-words (reply.No refusal.Syntax) h = refl
reply_in-words (reply.No refusal.Long) h = refl
reply_in-words (reply.No refusal.Pending) h = refl
reply_in-words (reply.No refusal.Unknown) h = refl
reply_in-words (reply.No refusal.Gone) h = refl
reply_in-words (reply.No (refusal.Keys count)) h = rw (number-back count h) refl
reply_in-words (reply.No (refusal.Future head)) h = rw (number-back head h) refl
reply_in-words (reply.No (refusal.Retired bound)) h = rw (number-back bound h) refl
reply_in-words (reply.No refusal.PinsFull) h = refl
reply_in-words (reply.No refusal.NoPin) h = refl
reply_in-words (reply.No refusal.ForksFull) h = refl
reply_in-words (reply.No (refusal.Range count)) h = rw (number-back count h) refl
reply_in-words (reply.No refusal.Last) h = refl

-- ---- how a reply begins
-- `no` or `ok`, a word for the kind, and what the reply says
pub reply_words-front : (r : Reply) → (kind : List ℕ) × (ws : List (List ℕ)) × (reply_words r ≡ cond (is_refusal r) (codes "no") (codes "ok") ∷ kind ∷ ws)
reply_words-front (reply.Pending count) = (_, _, refl)
reply_words-front (reply.Commit version root) = (_, _, refl)
reply_words-front (reply.Fork id root) = (_, _, refl)
reply_words-front (reply.Land version root) = (_, _, refl)
reply_words-front (reply.Drop count) = (_, _, refl)
reply_words-front (reply.Value None) = (_, _, refl)
reply_words-front (reply.Value (Some value)) = (_, _, refl)
reply_words-front (reply.Root root) = (_, _, refl)
reply_words-front (reply.Proof siblings) = (_, _, refl)
reply_words-front (reply.Chunk entries depth siblings) = (_, _, refl)
reply_words-front (reply.Count count) = (_, _, refl)
reply_words-front (reply.Nth key value) = (_, _, refl)
reply_words-front (reply.Pin place) = (_, _, refl)
reply_words-front (reply.Unpin version) = (_, _, refl)
reply_words-front (reply.Prune bound floor) = (_, _, refl)
reply_words-front (reply.Compact generation) = (_, _, refl)
reply_words-front (reply.Status base floor retired head kept forks generation) = (_, _, refl)
reply_words-front (reply.No refusal.Syntax) = (_, _, refl)
reply_words-front (reply.No refusal.Long) = (_, _, refl)
reply_words-front (reply.No refusal.Pending) = (_, _, refl)
reply_words-front (reply.No refusal.Unknown) = (_, _, refl)
reply_words-front (reply.No refusal.Gone) = (_, _, refl)
reply_words-front (reply.No (refusal.Keys count)) = (_, _, refl)
reply_words-front (reply.No (refusal.Future head)) = (_, _, refl)
reply_words-front (reply.No (refusal.Retired bound)) = (_, _, refl)
reply_words-front (reply.No refusal.PinsFull) = (_, _, refl)
reply_words-front (reply.No refusal.NoPin) = (_, _, refl)
reply_words-front (reply.No refusal.ForksFull) = (_, _, refl)
reply_words-front (reply.No (refusal.Range count)) = (_, _, refl)
reply_words-front (reply.No refusal.Last) = (_, _, refl)

-- words of the kind `root` are those of a root
pub reply_words-root : (r : Reply) (ws : List (List ℕ)) → IsInRange r → reply_words r ≡ codes "ok" ∷ codes "root" ∷ ws → r ≡ reply.Root (bytes_in_word 0 ws)
unfolding reply_in
reply_words-root r ws range e = sym (reply_in-words r range) ∙ ap reply_in e

-- words of the kind `proof` are those of a proof
pub reply_words-proof : (r : Reply) (ws : List (List ℕ)) → IsInRange r → reply_words r ≡ codes "ok" ∷ codes "proof" ∷ ws → r ≡ reply.Proof (number_in_word 0 ws)
unfolding reply_in
reply_words-proof r ws range e = sym (reply_in-words r range) ∙ ap reply_in e

-- ---- texts read back
pub all_plain-words : (r : Reply) → IsInRange r → all_plain (reply_words r) ≡ true
all_plain-words (reply.Pending count) h = rw (is_plain-decimal count h) refl
all_plain-words (reply.Commit version root) h = rw (is_plain-decimal version h.0, is_plain-hex root h.1) refl
all_plain-words (reply.Fork id root) h = rw (is_plain-decimal id h.0, is_plain-hex root h.1) refl
all_plain-words (reply.Land version root) h = rw (is_plain-decimal version h.0, is_plain-hex root h.1) refl
all_plain-words (reply.Drop count) h = rw (is_plain-decimal count h) refl
all_plain-words (reply.Root root) h = rw (is_plain-hex root h) refl
all_plain-words (reply.Proof siblings) h = rw (is_plain-decimal siblings h) refl
all_plain-words (reply.Chunk entries depth siblings) h = rw (is_plain-decimal entries h.0, is_plain-decimal depth h.1, is_plain-decimal siblings h.2) refl
all_plain-words (reply.Count count) h = rw (is_plain-decimal count h) refl
all_plain-words (reply.Nth key value) h = rw (is_plain-hex key h.0, is_plain-hex value h.1) refl
all_plain-words (reply.Pin place) h = rw (is_plain-decimal place h) refl
all_plain-words (reply.Unpin version) h = rw (is_plain-decimal version h) refl
all_plain-words (reply.Prune bound floor) h = rw (is_plain-decimal bound h.0, is_plain-decimal floor h.1) refl
all_plain-words (reply.Compact generation) h = rw (is_plain-decimal generation h) refl
all_plain-words (reply.Value None) h = refl
all_plain-words (reply.Value (Some value)) h = rw (is_plain-hex value h) refl
all_plain-words (reply.Status base floor retired head kept forks generation) h =
    rw (is_plain-decimal base h.0, is_plain-decimal floor h.1, is_plain-decimal retired h.2, is_plain-decimal head h.3, is_plain-decimal kept h.4, is_plain-decimal forks h.5, is_plain-decimal generation h.6) refl
all_plain-words (reply.No refusal.Syntax) h = refl
all_plain-words (reply.No refusal.Long) h = refl
all_plain-words (reply.No refusal.Pending) h = refl
all_plain-words (reply.No refusal.Unknown) h = refl
all_plain-words (reply.No refusal.Gone) h = refl
all_plain-words (reply.No (refusal.Keys count)) h = rw (is_plain-decimal count h) refl
all_plain-words (reply.No (refusal.Future head)) h = rw (is_plain-decimal head h) refl
all_plain-words (reply.No (refusal.Retired bound)) h = rw (is_plain-decimal bound h) refl
all_plain-words (reply.No refusal.PinsFull) h = refl
all_plain-words (reply.No refusal.NoPin) h = refl
all_plain-words (reply.No refusal.ForksFull) h = refl
all_plain-words (reply.No (refusal.Range count)) h = rw (is_plain-decimal count h) refl
all_plain-words (reply.No refusal.Last) h = refl

-- the words of a text, but for its 0A
text_words : (n : ℕ) (r : Reply) → n < 2 ^ 64 → IsInRange r → words (join_with_byte 32 (decimal n ∷ reply_words r)) ≡ decimal n ∷ reply_words r
text_words n r small range = words-join (decimal n) (reply_words r) (is_plain-decimal n small) (all_plain-words r range)

-- equal texts have equal numbers and equal replies
pub reply_text-distinct : (n m : ℕ) (r q : Reply) → n < 2 ^ 64 → m < 2 ^ 64 → IsInRange r → IsInRange q → reply_text n r ≡ reply_text m q → (n ≡ m) × (r ≡ q)
unfolding reply_text
reply_text-distinct n m r q hn hm hr hq e =
    let lines : join_with_byte 32 (decimal n ∷ reply_words r) ≡ join_with_byte 32 (decimal m ∷ reply_words q) = append_cancel_right _ _ (10 ∷ []) e in
    let same : decimal n ∷ reply_words r ≡ decimal m ∷ reply_words q = sym (text_words n r hn hr) ∙ ap words lines ∙ text_words m q hm hq in (
      sym (number-back n hn) ∙ ap (number_in_word 0) same ∙ number-back m hm,
      sym (reply_in-words r hr) ∙ ap (λ ws. reply_in (drop 1 ws)) same ∙ reply_in-words q hq,
    )
