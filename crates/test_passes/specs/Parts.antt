-- What one of two passes does while the other does its part.
use Rattle.std.specs.Prelude.{◌≡◌, Bool}
use denote.Ref.{Bor, MutBor}
use Rattle.jf_store.specs.Passes.{Store, Pass, IsPassOf}

-- after a call the pass is one of the store, with its number
abbrev pub StaysPass : Store → Pass → Pass → Type 0
StaysPass s old new = IsPassOf new s × (new.number ≡ old.number)

-- each pass of the store may do the part, and stays one of it
pub record IsPart {S P : Type 0} (store : S → Store) (pass : P → Pass) (s : Store) (pre : Bor S → MutBor P → Type 0) (post : Bor S → MutBor P → Bool → MutBor P → Type 0) : Type 0 where
  pub ready : (t : Bor S) (p : MutBor P) → store t.now ≡ s → IsPassOf (pass p.now) s → pre t p
  pub own : (t : Bor S) (p : MutBor P) (r : Bool) (p' : MutBor P) → store t.now ≡ s → post t p r p' → StaysPass s (pass p.now) (pass p'.now)
