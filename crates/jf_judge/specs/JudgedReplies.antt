-- What is taken from a source and written into a sink if a reply to `prove` is judged.
use Rattle.std.specs.Prelude.{◌≡◌, ◌≢◌, ℕ, ◌+◌, ◌*◌, ◌≤◌, List, [], ◌∷◌, ◌++◌, length, Option, Some, None, option_map, Result, Ok, Err, codes, decimal}
use Rattle.jf_io.specs.Sink.{IsCutShort}
use Rattle.jf_io.specs.declared.piece.TheConstants.{USUAL_PIECE}
use Rattle.jf_text.specs.Words.{line_text, max_line, value_word}
use Rattle.jf_ask.specs.Lookups.{lookup, lookup_number, IsSoundLookup, IsFairLookup}
use Rattle.jf_ask.specs.declared.lookup.LookupFault.{LookupFault}
use Rattle.jf_judge.specs.declared.judging.Judged.{Judged}
use Rattle.jf_judge.specs.declared.judging.Judged.TheVariants as judged

-- ---- what is written
-- the line of what a reply shows of a name: `value` and the value, `none`, or `refused` and the number of why nothing is shown
abbrev pub lookup_text : Result (Option (List ℕ)) LookupFault → List ℕ
lookup_text (Ok (Some value)) = line_text (codes "value" ∷ value_word value ∷ [])
lookup_text (Ok None) = line_text (codes "none" ∷ [])
lookup_text (Err why) = line_text (codes "refused" ∷ decimal (lookup_number why) ∷ [])

-- what was written of what a reply shows, by how judging ended: its line, a front of it, or nothing
abbrev pub WritesLookup : Judged → Result (Option (List ℕ)) LookupFault → Option (List ℕ) → Option (List ℕ) → Type 0
WritesLookup judged.Shown shown text text' = ((claim : Option (List ℕ)) × (shown ≡ Ok claim)) × (text' ≡ option_map (λ t. t ++ lookup_text shown) text)
WritesLookup (judged.Refused why) shown text text' = (shown ≡ Err why) × (text' ≡ option_map (λ t. t ++ lookup_text shown) text)
WritesLookup judged.ReadFault shown text text' = text' ≡ text
WritesLookup judged.WriteFault shown text text' = IsCutShort text text' (lookup_text shown)
WritesLookup judged.Memory shown text text' = text' ≡ text

-- ---- what is read
-- the most bytes of a proof block: 260 lines of 8,500 bytes, each with its line feed
abbrev pub max_reply : ℕ
max_reply = 260 * (max_line + 1)

-- a front of an input was taken, at most a piece longer than any proof block. The input is what the source had, if known
pub record HasTaken (rest rest' : Option (List ℕ)) (taken : List ℕ) : Type 0 where
  pub input : List ℕ
  pub left : List ℕ
  pub split : taken ++ left ≡ input
  pub told : (text : List ℕ) → rest ≡ Some text → (text ≡ input) × (rest' ≡ Some left)
  pub few : length taken ≤ max_reply + USUAL_PIECE

-- so it was, up to the end of the input unless it is longer than any proof block
abbrev pub TakesReply : Option (List ℕ) → Option (List ℕ) → List ℕ → Type 0
TakesReply rest rest' taken = (front : HasTaken rest rest' taken) × (length taken ≤ max_reply → front.left ≡ [])

-- ---- the whole
-- the result of judging is what the reply shows: the source didn't fail, and memory didn't run out
abbrev pub IsVerdict : Judged → Type 0
IsVerdict how = (how ≢ judged.ReadFault) × (how ≢ judged.Memory)

-- a reply to `prove` was judged, as far as `how` says. Of the input this was taken: up to its end, unless it is longer than any proof
-- block (`whole`). What the input shows of the name under the root was written (`written`). If it is a value or an absence, every map
-- with that root says so too, or two different lists with one SHA-256 are at hand (`sound`); and a map's own reply shows what the map
-- says (`fair`)
pub record HasJudgedReply (how : Judged) (top name : List ℕ) (rest rest' text text' : Option (List ℕ)) : Type 0 where
  pub taken : List ℕ
  pub front : HasTaken rest rest' taken
  pub whole : IsVerdict how → length taken ≤ max_reply → front.left ≡ []
  pub written : WritesLookup how (lookup top name front.input) text text'
  pub sound : IsVerdict how → IsSoundLookup top name front.input
  pub fair : IsVerdict how → IsFairLookup top name front.input
