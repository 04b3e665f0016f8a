-- What the mode writes of the replies to a generated script (docs/FORMATS.md, Generated scripts).
use Rattle.std.specs.Prelude.{ℕ, ◌+◌, Bool, true, false, if◌then◌else◌, List, [], ◌∷◌, ◌++◌, reverse, slice_index_or, codes, decimal}
use Rattle.std.specs.List.{count_by}
use Rattle.jf_text.specs.Words.{words, is_word}

-- the second of these words, and an empty one if there is none
abbrev pub second_word : List (List ℕ) → List ℕ
second_word [] = []
second_word (w ∷ []) = []
second_word (w ∷ v ∷ ws) = v

-- whether the second word of a reply's text is `no`
abbrev pub is_refused : List ℕ → Bool
is_refused text = is_word (second_word (words text)) (codes "no")

-- how many of these replies are refused
abbrev pub refused_in : List (List ℕ) → ℕ
refused_in replies = count_by is_refused replies

-- the reply before the last of these, and nothing if there is none
abbrev pub last_but_one : List (List ℕ) → List ℕ
last_but_one replies = slice_index_or (reverse replies) 1 []

-- the last of these replies, and nothing if there is none
abbrev pub last_reply : List (List ℕ) → List ℕ
last_reply replies = slice_index_or (reverse replies) 0 []

-- what is kept of replies: how many are refused, and the texts of the last two
pub record Tally : Type 0 where
  pub refused : ℕ
  pub before : List ℕ
  pub last : List ℕ

-- what is kept of these replies
abbrev pub tally_of : List (List ℕ) → Tally
tally_of replies = record { refused = refused_in replies; before = last_but_one replies; last = last_reply replies }

-- what is kept after one reply more
abbrev pub tally_more : Tally → List ℕ → Tally
tally_more t text = record { refused = if is_refused text then t.refused + 1 else t.refused; before = t.last; last = text }

-- the line `refused C`, with its line feed, and the last two replies
abbrev pub tally_text : Tally → List ℕ
tally_text t = codes "refused " ++ (decimal t.refused ++ 10 ∷ (t.before ++ t.last))

-- what the mode writes of these replies, which are texts that end in 0A
abbrev pub generate_output : List (List ℕ) → List ℕ
generate_output replies = tally_text (tally_of replies)
