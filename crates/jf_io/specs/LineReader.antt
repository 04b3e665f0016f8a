-- Lines of input: what ends a line, how far a search for its end has come, how much is held, and what is held of a long line.
use Rattle.std.specs.Prelude.{◌≡◌, ℕ, ◌+◌, ◌<◌, ◌≤◌, Bool, ◌==◌, List, ◌++◌, length, drop, Option, Some}
use Rattle.std.specs.List.{position_or_len, after_first}
use Rattle.jf_io.specs.declared.piece.TheConstants.{MAX_PIECE}

-- this byte is a line feed
abbrev pub is_line_feed : ℕ → Bool
is_line_feed b = b == 10

-- no line feed stands from `start` up to `searched`
pub record IsSearched (bytes : List ℕ) (start searched : ℕ) : Type 0 where
  pub from_start : start ≤ searched
  pub within : searched ≤ length bytes
  pub without_feed : searched ≤ start + position_or_len is_line_feed (drop start bytes)

-- no more is kept than the front of a long line and a piece, and after the first line from `start` on fewer bytes than a piece
pub record HoldsFew (bytes : List ℕ) (start limit piece : ℕ) : Type 0 where
  pub small : length bytes ≤ limit + 1 + piece
  pub few : length (after_first is_line_feed (drop start bytes)) < piece

-- a piece is at most `MAX_PIECE`, and no more than a piece is asked for, but at least a byte
pub record AsksFew (piece most : ℕ) : Type 0 where
  pub small : piece ≤ MAX_PIECE
  pub least : 1 ≤ most
  pub within : most ≤ piece

-- what a reader holds: `bytes`, the most bytes of a line that is held whole, and the most bytes of a piece of input
pub record ReaderState : Type 0 where
  pub limit : ℕ
  pub piece : ℕ
  pub bytes : List ℕ

-- `held` is `text`, but bytes of its first line may be gone after a front longer than the limit; `behind` is the rest
pub record IsShortened (limit : ℕ) (text held : List ℕ) : Type 0 where
  pub front : List ℕ
  pub gone : List ℕ
  pub behind : List ℕ
  pub text_is : text ≡ front ++ gone ++ behind
  pub held_is : held ≡ front ++ behind
  pub is_plain : position_or_len is_line_feed (front ++ gone) ≡ length (front ++ gone)
  pub is_long : 0 < length gone → limit < length front

-- `held` is `text` followed by the bytes `taken` from a source, shortened as above
pub record IsFetched (limit : ℕ) (text held : List ℕ) (before after : Option (List ℕ)) : Type 0 where
  pub taken : List ℕ
  pub shortened : IsShortened limit (text ++ taken) held
  pub given : (rest : List ℕ) → before ≡ Some rest → (left : List ℕ) × (after ≡ Some left) × (rest ≡ taken ++ left)
