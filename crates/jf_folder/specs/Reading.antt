-- What is seen of files by their bytes, and files that are only read.
use Rattle.std.specs.Prelude.{⊤, ℕ, List, length, slice_index, Option, Some, None}
use Rattle.jf_folder.specs.Calls.{FileCalls, ReadsAlone}
use Rattle.jf_folder.specs.declared.seen.Seen.{Seen}
use Rattle.jf_folder.specs.declared.seen.Seen.TheVariants as seen

-- what is seen of a file of these bytes, or of none
abbrev pub seen_file : Option (List ℕ) → Seen
seen_file None = seen.Missing
seen_file (Some bytes) = seen.There (length bytes) (slice_index bytes 0)

-- the calls on a file, if there is one: it was read, and nothing else
abbrev pub IsReadAlone : Option FileCalls → Option FileCalls → Type 0
IsReadAlone None None = ⊤
IsReadAlone None (Some _) = ⊥
IsReadAlone (Some _) None = ⊥
IsReadAlone (Some c) (Some c') = ReadsAlone c c'
