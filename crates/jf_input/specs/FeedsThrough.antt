-- The effect of the lines of an input on a machine, and what a sink takes of that which can't end it.
use Rattle.std.specs.Prelude.{ℕ, List, ◌≡◌, ◌++◌, [], Result, Ok, Option, None, Bool, true, false}
use Rattle.jf_io.specs.Sink.{IsCutShort}
use Rattle.jf_input.specs.Feeds.{Appends, HasFed}
use Rattle.jf_input.specs.declared.feeding.Feeding.{Feeding}
use Rattle.jf_input.specs.declared.feeding.Feeding.TheVariants as feeding

-- this was put into a sink: all of it; or, if a fault cut it, a front alone
abbrev pub IsPutThrough : Bool → Option (List ℕ) → Option (List ℕ) → List ℕ → Type 0
IsPutThrough false old new text = Appends old new text
IsPutThrough true old new text = IsCutShort old new text

-- this came next: the same, or nothing if a fault had cut what came before
abbrev pub IsPutNext : Bool → Bool → Option (List ℕ) → Option (List ℕ) → List ℕ → Type 0
IsPutNext false is_cut old new text = IsPutThrough is_cut old new text
IsPutNext true is_cut old new text = (is_cut ≡ true) × (new ≡ old)

-- what the end of the input adds, by how a machine was fed: nothing, unless the end was reached
abbrev pub AddsAtEnd : {M F : Type 0} → (M → M → Result (List ℕ) F → Type 0) → Feeding F → M → M → List ℕ → Type 0
AddsAtEnd ends feeding.Done old new text = ends old new (Ok text)
AddsAtEnd ends feeding.ReadFault old new text = text ≡ []
AddsAtEnd ends feeding.WriteFault old new text = text ≡ []
AddsAtEnd ends feeding.Memory old new text = text ≡ []
AddsAtEnd ends (feeding.Stopped why) old new text = text ≡ []

-- the lines of a source were taken as over a sink of which nothing is known, and what they and the end add was put through
pub record GoesThrough {M F : Type 0} (takes : M → List ℕ → M → Result (List ℕ) F → Type 0) (ends : M → M → Result (List ℕ) F → Type 0) (quiet : M → M → Type 0) (piece : ℕ) (how : Feeding F) (is_cut : Bool) (old new : M) (source source' text text' : Option (List ℕ)) : Type 0 where
  pub fed : HasFed takes ends quiet piece how old new source source' None None
  pub last : List ℕ
  pub at_end : AddsAtEnd ends how fed.mid new last
  pub written : IsPutThrough is_cut text text' (fed.said ++ last)
