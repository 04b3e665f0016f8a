-- What is left untouched in a mode, told of what words ask for.
use Rattle.std.proofs.Common.{◌≡◌, refl, sym, subst, Option, Some}
use Rattle.jf_words.specs.Shapes.{asked_shape, shape_of}
use Rattle.jf_words.specs.declared.modes.Mode.{Mode}
use Rattle.jf_run.specs.Untouched.{LeavesUntouched}
use Rattle.jf_run.specs.declared.status.Status.{Status}

-- the same in a mode that is this one
pub untouched_as : {S K : Type 0} (m m' : Mode) (how : Status) (s s' : S) (k k' : K) → m ≡ m' → LeavesUntouched (shape_of m') how s s' k k' → LeavesUntouched (shape_of m) how s s' k k'
untouched_as m m' how s s' k k' is h = subst (λ (x : Mode). LeavesUntouched (shape_of x) how s s' k k') (sym is) h

-- the same of what words ask for, if that is this mode
pub asked_untouched : {S K : Type 0} (asks : Option Mode) (m : Mode) (how : Status) (s s' : S) (k k' : K) → asks ≡ Some m → LeavesUntouched (shape_of m) how s s' k k' → LeavesUntouched (asked_shape asks) how s s' k k'
asked_untouched asks m how s s' k k' is h = subst (λ (o : Option Mode). LeavesUntouched (asked_shape o) how s s' k k') (sym is) h

-- a mode that was not done left both as they were
pub all_untouched : {S K : Type 0} (m : Mode) (how : Status) (s : S) (k : K) → LeavesUntouched (shape_of m) how s s k k
all_untouched m how s k = record { unread = λ e. refl; unwritten = λ e t. refl; occupied = λ e head t. (refl, refl); outside = λ e least head t. (refl, refl); elsewhere = λ head root t. (refl, refl) }
