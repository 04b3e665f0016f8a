-- The names of an input, and the text of what a map says of them (docs/FORMATS.md, Blocks of many claims).
use Rattle.std.specs.Prelude.{ℕ, ◌+◌, if◌then◌else◌, nat_le, List, [], ◌∷◌, map, fold, Option, Some, None, is_some, Result, Ok, Err}
use Rattle.std.specs.FinMap as fin
use Rattle.std.specs.FinMap.{find, put}
use Rattle.jf_path.specs.Keys.{key_cmp}
use Rattle.jf_hash.specs.Hashes.{K}
use Rattle.jf_hash.specs.Maps.{Map}
use Rattle.jf_io.specs.Lines.{lines}
use Rattle.jf_text.specs.Words.{name_of}
use Rattle.jf_multi.specs.SharedTrees.{shared_proof}
use Rattle.jf_many_blocks.specs.ManyBlocks.{NamedClaim, many_block}
use Rattle.jf_many_blocks.specs.ManyReading.{max_claims}

-- ---- the names of an input
-- the most lines of an input of names: each may be a claim of the one block
abbrev pub max_names : ℕ
max_names = max_claims

-- a name before those of later lines, if these are names
abbrev pub name_before : List ℕ → Result (List (List ℕ)) ℕ → Result (List (List ℕ)) ℕ
name_before name (Ok names) = Ok (name ∷ names)
name_before name (Err at) = Err at

-- a line's name before those of later lines, or the line's number if it is no name
abbrev pub line_before : ℕ → Option (List ℕ) → Result (List (List ℕ)) ℕ → Result (List (List ℕ)) ℕ
line_before at None later = Err at
line_before at (Some name) later = name_before name later

-- the names of lines that are numbered from `at` on, or the number of the first line that is no name or comes after 10,000
unfoldable pub names_from : ℕ → List (List ℕ) → Result (List (List ℕ)) ℕ
names_from at [] = Ok []
names_from at (line ∷ ls) = if nat_le at max_names then line_before at (name_of line) (names_from (at + 1) ls) else Err at

-- the names of an input, one on each line, or the number of the first line that is refused, counted from 1
abbrev pub names_of : List ℕ → Result (List (List ℕ)) ℕ
names_of input = names_from 1 (lines input)

-- ---- names in the order of their keys
-- each name after its key, and one name more, unless its key is there already
abbrev pub with_new_name : List (List ℕ × List ℕ) → List ℕ → List (List ℕ × List ℕ)
with_new_name es name = if is_some (find key_cmp (K name) es) then es else put key_cmp (K name) name es

-- names in the order of their keys, each after its key: of names with one key the first stays
unfoldable pub names_by_key : List (List ℕ) → List (List ℕ × List ℕ)
names_by_key names = fold with_new_name [] names

-- their keys
abbrev pub keys_in : List (List ℕ × List ℕ) → List (List ℕ)
keys_in es = map (λ e. e.0) es

-- ---- what a map says of them
-- what a map says of each name
abbrev pub claims_in : Map → List (List ℕ × List ℕ) → List NamedClaim
claims_in m es = map (λ e. (e.1, fin.get m e.0)) es

-- the block of what a map says of names in the order of their keys, with the one proof of it all
unfoldable pub names_block : Map → List (List ℕ × List ℕ) → List ℕ
names_block m es = many_block (claims_in m es) (shared_proof m (keys_in es))

-- the block of what a map says of names, given in any order
abbrev pub many_text : Map → List (List ℕ) → List ℕ
many_text m names = names_block m (names_by_key names)
