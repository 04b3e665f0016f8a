-- What the program says of itself: how it is called, its help and its version (docs/FORMATS.md, "Calling the program").
use Rattle.std.specs.Prelude.{ℕ, List, [], ◌∷◌, ◌++◌, codes}
use Rattle.jf_io.specs.Inputs.{text_of_lines}
use Rattle.jf_main.specs.declared.help.OwnText.{OwnText}
use Rattle.jf_main.specs.declared.help.OwnText.TheVariants as own

-- the first line about faulty words
abbrev pub usage_text : List ℕ
usage_text = codes "usage: jellystore FOLDER run|serve|restore VERSION ROOT|verify|generate SEED BATCHES SIZE [--workers N]"

-- the second one: the words that the first lacks
abbrev pub more_usage_text : List ℕ
more_usage_text = codes "also: jellystore FOLDER resume VERSION ROOT|lead|follow|trim|history VERSION|many VERSION|judge ROOT NAME|check; jellystore --help|--version"

-- one line that can be typed
abbrev pub example_text : List ℕ
example_text = codes "example: printf 'put 61 =31\\ncommit\\nget head 61\\n' | jellystore - run"

-- what the folder is, and what each word after it does
abbrev pub mode_lines : List (List ℕ)
mode_lines =
    codes "FOLDER has the store's two files; `-` is a store in memory, which is gone at the end. After it:"
    ∷ codes "  run                         does the script on standard input, and writes a reply for each line"
    ∷ codes "  resume VERSION ROOT         as run, if ROOT is the root of VERSION, and else nothing"
    ∷ codes "  serve                       does the scripts of several sessions side by side"
    ∷ codes "  lead                        does a script, and writes each version that it lands as a block"
    ∷ codes "  follow                      lands the blocks that a leader wrote"
    ∷ codes "  generate SEED BATCHES SIZE  does a script drawn from SEED, which changes the store"
    ∷ codes "  restore VERSION ROOT        makes a new store hold VERSION, from chunks"
    ∷ codes "  trim                        cuts the file that isn't live"
    ∷ codes "  history VERSION             writes the total of all roots, with proofs for VERSION's"
    ∷ codes "  many VERSION                writes what VERSION says of many names, with one proof"
    ∷ codes "  verify                      judges proofs, without a store"
    ∷ codes "  judge ROOT NAME             says what one proof shows of NAME under ROOT, without a store"
    ∷ codes "  check                       says what the files hold, and changes nothing"
    ∷ codes "N, from 1 to 64, is how many threads may work at once; 4 without the option."
    ∷ []

-- what `--help` writes
unfoldable pub help_text : List ℕ
help_text = text_of_lines (usage_text ∷ more_usage_text ∷ mode_lines) ++ text_of_lines (example_text ∷ codes "docs/FORMATS.md has all words, replies and statuses, docs/OPERATING.md what operators do." ∷ [])

-- what `--version` writes
abbrev pub version_text : List ℕ
version_text = codes "jellystore 1.0.0 (files: formats 1 and 2)\n"

-- the words of a text of the program's own
abbrev pub own_text : OwnText → List ℕ
own_text own.Help = help_text
own_text own.Version = version_text
