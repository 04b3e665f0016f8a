-- The effect of the lines of an input on a machine that takes lines, and what it adds to a text.
use Rattle.std.specs.Prelude.{ℕ, ◌+◌, ◌<◌, List, take, ◌≡◌, [], ◌∷◌, ◌++◌, Result, Ok, Option, option_map, Some, length, Err, ◌⊎◌}
use Rattle.jf_io.specs.Lines.{lines, whole_lines, bytes_after}
use Rattle.jf_io.specs.LinesRead.{AreFirst}
use Rattle.jf_io.specs.Sink.{IsCutShort}
use Rattle.jf_text.specs.Words.{max_line}
use Rattle.jf_input.specs.declared.feeding.Feeding.{Feeding}
use Rattle.jf_input.specs.declared.feeding.Feeding.TheVariants as feeding

-- what a machine is given of a line: of a long one so much of its front that it is seen to be long
abbrev pub front_of_line : List ℕ → List ℕ
front_of_line line = take (max_line + 1) line

-- these lines were taken one after another, and this text is what they add
abbrev pub TakesLines : {M F : Type 0} → (M → List ℕ → M → Result (List ℕ) F → Type 0) → M → List (List ℕ) → M → List ℕ → Type 0
TakesLines takes old [] new text = (new ≡ old) × (text ≡ [])
TakesLines takes old (line ∷ ls) new text = (mid : _) × (t : List ℕ) × (more : List ℕ) × takes old line mid (Ok t) × TakesLines takes mid ls new more × (text ≡ t ++ more)

-- whatever the effect on the machine of a line of which this is given, it is quiet
abbrev pub IsQuietLine : {M F : Type 0} → (M → List ℕ → M → Result (List ℕ) F → Type 0) → (M → M → Type 0) → M → List ℕ → Type 0
IsQuietLine {M} {F} takes quiet old line = (whole : List ℕ) → line ≡ front_of_line whole → (new : M) (r : Result (List ℕ) F) → takes old whole new r → quiet old new

-- these lines were taken too, and all were quiet
abbrev pub GoesOnQuietly : {M F : Type 0} → (M → List ℕ → M → Result (List ℕ) F → Type 0) → (M → M → Type 0) → M → List (List ℕ) → M → Type 0
GoesOnQuietly takes quiet old [] new = new ≡ old
GoesOnQuietly {M} {F} takes quiet old (line ∷ ls) new = (mid : M) × (r : Result (List ℕ) F) × takes old line mid r × quiet old mid × GoesOnQuietly takes quiet mid ls new

-- this was appended to a text, if the text is known
abbrev pub Appends : Option (List ℕ) → Option (List ℕ) → List ℕ → Type 0
Appends old new text = new ≡ option_map (λ t. t ++ text) old

-- ---- what is gathered
-- all that was gathered was written, or nothing was
abbrev pub HandsOn : Option (List ℕ) → Option (List ℕ) → List ℕ → List ℕ → Type 0
HandsOn text text' out out' = (Appends text text' out × (out' ≡ [])) ⊎ ((text' ≡ text) × (out' ≡ out))

-- no line is taken when so many bytes are gathered
abbrev pub max_gathered : ℕ
max_gathered = 65536

-- a line was taken, and what it adds was gathered: alone, after all that was gathered before was written; or, if the line is
-- quiet and less than `max_gathered` was gathered before, behind that
abbrev pub Gathers : {M : Type 0} → (M → M → Type 0) → M → M → Option (List ℕ) → Option (List ℕ) → List ℕ → List ℕ → List ℕ → Type 0
Gathers quiet old new text text' out out' t = (Appends text text' out × (out' ≡ t)) ⊎ ((text' ≡ text) × (out' ≡ out ++ t) × quiet old new × (length out < max_gathered))

-- nothing is gathered, or what one line adds, the last one that was taken, and before it less than `max_gathered`
abbrev pub IsGathered : {M F : Type 0} → (M → List ℕ → M → Result (List ℕ) F → Type 0) → M → List ℕ → Type 0
IsGathered {M} takes now out = (out ≡ []) ⊎ ((old : M) × (line before t : List ℕ) × takes old line now (Ok t) × (out ≡ before ++ t) × (length before < max_gathered))

-- no more lines are taken: of what was gathered before a line not all was written, and the line wasn't taken, or the machine
-- stopped quietly in it; or all was written, and the machine stopped in the line
abbrev pub StopsGathering : {M F : Type 0} → (M → List ℕ → M → Result (List ℕ) F → Type 0) → (M → M → Type 0) → Feeding F → M → List ℕ → M → Option (List ℕ) → Option (List ℕ) → List ℕ → Type 0
StopsGathering {M} {F} takes quiet feeding.WriteFault old line new text text' out = IsCutShort text text' out × ((new ≡ old) ⊎ ((r : Result (List ℕ) F) × takes old line new r × quiet old new))
StopsGathering takes quiet (feeding.Stopped why) old line new text text' out = takes old line new (Err why) × Appends text text' out
StopsGathering takes quiet feeding.Done old line new text text' out = ⊥
StopsGathering takes quiet feeding.ReadFault old line new text text' out = ⊥
StopsGathering takes quiet feeding.Memory old line new text text' out = ⊥

-- ---- how far an input was read
-- this was taken of an input, and these lines are the first of it, each read to its end
pub record HasRead (input left : List ℕ) (ls : List (List ℕ)) : Type 0 where
  pub taken : List ℕ
  pub split : input ≡ taken ++ left
  pub first : AreFirst taken left ls
  pub behind : List (List ℕ)
  pub lines_are : lines input ≡ ls ++ behind

-- the same of a source, if it tells its bytes
abbrev pub ReadsLinesOf : Option (List ℕ) → Option (List ℕ) → List (List ℕ) → Type 0
ReadsLinesOf source source' ls = (input : List ℕ) → source ≡ Some input → (left : List ℕ) × (source' ≡ Some left) × HasRead input left ls

-- and of what was taken, fewer bytes than a piece come after these lines
pub record HasReadFew (piece : ℕ) (input left : List ℕ) (ls : List (List ℕ)) : Type 0 where
  pub read : HasRead input left ls
  pub few : length (bytes_after (length ls) read.taken) < piece

-- the same of a source, if it tells its bytes
abbrev pub ReadsFew : ℕ → Option (List ℕ) → Option (List ℕ) → List (List ℕ) → Type 0
ReadsFew piece source source' ls = (input : List ℕ) → source ≡ Some input → (left : List ℕ) × (source' ≡ Some left) × HasReadFew piece input left ls

-- nothing is left, and these are all lines
abbrev pub ReadsAll : Option (List ℕ) → Option (List ℕ) → List (List ℕ) → Type 0
ReadsAll source source' ls = (input : List ℕ) → source ≡ Some input → (source' ≡ Some []) × (lines input ≡ ls)

-- these are all lines whose ends were taken
abbrev pub ReadsWhole : Option (List ℕ) → Option (List ℕ) → List (List ℕ) → Type 0
ReadsWhole source source' ls = (input : List ℕ) → source ≡ Some input → (left : List ℕ) × (source' ≡ Some left) × (r : HasRead input left ls) × (length ls ≡ whole_lines r.taken)

-- ---- how it ended
-- at a line: what it adds was cut short, and the later lines had been taken too, and were quiet; or the machine stopped in it
abbrev pub EndsAtLine : {M F : Type 0} → (M → List ℕ → M → Result (List ℕ) F → Type 0) → (M → M → Type 0) → Feeding F → M → List ℕ → List (List ℕ) → M → Option (List ℕ) → Option (List ℕ) → Type 0
EndsAtLine {M} takes quiet feeding.WriteFault old line later new text text' = (mid : M) × (t : List ℕ) × takes old line mid (Ok t) × IsCutShort text text' t × GoesOnQuietly takes quiet mid later new
EndsAtLine takes quiet (feeding.Stopped why) old line later new text text' = takes old line new (Err why) × (text' ≡ text) × (later ≡ [])
EndsAtLine takes quiet feeding.Done old line later new text text' = ⊥
EndsAtLine takes quiet feeding.ReadFault old line later new text text' = ⊥
EndsAtLine takes quiet feeding.Memory old line later new text text' = ⊥

-- these lines were read, and if the machine stopped in the last of them, less than a piece beyond it
abbrev pub ReadsToLine : {F : Type 0} → Feeding F → ℕ → Option (List ℕ) → Option (List ℕ) → List (List ℕ) → Type 0
ReadsToLine (feeding.Stopped why) piece source source' ls = ReadsFew piece source source' ls
ReadsToLine feeding.Done piece source source' ls = ReadsLinesOf source source' ls
ReadsToLine feeding.ReadFault piece source source' ls = ReadsLinesOf source source' ls
ReadsToLine feeding.WriteFault piece source source' ls = ReadsLinesOf source source' ls
ReadsToLine feeding.Memory piece source source' ls = ReadsLinesOf source source' ls

-- behind the last line: all was added, or the same
abbrev pub EndsAfter : {M F : Type 0} → (M → M → Result (List ℕ) F → Type 0) → Feeding F → M → M → Option (List ℕ) → Option (List ℕ) → Type 0
EndsAfter ends feeding.Done old new text text' = (t : List ℕ) × ends old new (Ok t) × Appends text text' t
EndsAfter ends feeding.WriteFault old new text text' = (t : List ℕ) × ends old new (Ok t) × IsCutShort text text' t
EndsAfter ends (feeding.Stopped why) old new text text' = ends old new (Err why) × (text' ≡ text)
EndsAfter ends feeding.ReadFault old new text text' = ⊥
EndsAfter ends feeding.Memory old new text text' = ⊥

-- between two lines: the source failed, or there was no memory for the next line
abbrev pub EndsBetween : {F : Type 0} → Feeding F → Option (List ℕ) → Option (List ℕ) → List (List ℕ) → Type 0
EndsBetween feeding.ReadFault source source' done = ReadsWhole source source' done
EndsBetween feeding.Memory source source' done = ReadsLinesOf source source' done
EndsBetween feeding.Done source source' done = ⊥
EndsBetween feeding.WriteFault source source' done = ⊥
EndsBetween (feeding.Stopped why) source source' done = ⊥

-- the lines of a source, read in pieces of at most so many bytes, were taken by a machine and what they add written, up to where
-- it ended
pub record HasFed {M F : Type 0} (takes : M → List ℕ → M → Result (List ℕ) F → Type 0) (ends : M → M → Result (List ℕ) F → Type 0) (quiet : M → M → Type 0) (piece : ℕ) (how : Feeding F) (old new : M) (source source' text text' : Option (List ℕ)) : Type 0 where
  pub done : List (List ℕ)
  pub mid : M
  pub said : List ℕ
  pub took : TakesLines takes old done mid said
  pub text_so_far : Option (List ℕ)
  pub written : Appends text text_so_far said
  pub ended : ((new ≡ mid) × (text' ≡ text_so_far) × EndsBetween how source source' done)
      ⊎ ((line : List ℕ) × (later : List (List ℕ)) × EndsAtLine takes quiet how mid line later new text_so_far text' × ReadsToLine how piece source source' (done ++ line ∷ later))
      ⊎ (EndsAfter ends how mid new text_so_far text' × ReadsAll source source' done)
