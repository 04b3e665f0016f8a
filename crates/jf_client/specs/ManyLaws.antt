-- A client that judges what is said of many names without a map, as a statement for a call that does nothing and ensures it.
use Rattle.std.specs.Prelude.{◌≡◌, ℕ, ◌^◌, ◌<◌, ◌≤◌, List, [], ◌∷◌, ◌++◌, length, Option, Some, None, IfSome, Ok, codes}
use Rattle.std.specs.FinMap.{entries}
use Rattle.std.specs.List.{AllByRecursion}
use Rattle.hex.specs.Hex.{encode_lower}
use Rattle.jf_path.specs.Limits.{max_value}
use Rattle.jf_hash.specs.Maps.{Map, IsMap}
use Rattle.jf_hash.specs.Roots.{root}
use Rattle.jf_text.specs.Words.{line_text}
use Rattle.jf_script.specs.Replies.{reply_text}
use Rattle.jf_script.specs.declared.reply.Reply.TheVariants as reply
use Rattle.jf_names.specs.Names.{names_of, many_text}
use Rattle.jf_verify.specs.Verdicts.{verdicts}

-- the line that sets a root: as the reply with a number to `root`, or the words alone
abbrev pub root_line_text : Option ℕ → List ℕ → List ℕ
root_line_text (Some n) hash = reply_text n (reply.Root hash)
root_line_text None hash = line_text (codes "root" ∷ encode_lower hash ∷ [])

-- for each map, each input of names, whether the map has them or not, and any number: after the line that sets the map's root, what the mode `many` writes of these names is judged accepted, and nothing else is said
abbrev pub ManyAnswersAreAccepted : Type 0
ManyAnswersAreAccepted = (m : Map) (input : List ℕ) (names : List (List ℕ)) (number : Option ℕ)
    → IsMap m → AllByRecursion (λ e. length e.1 ≤ max_value) (entries m) → names_of input ≡ Ok names → IfSome number (λ n. n < 2 ^ 64)
    → verdicts (root_line_text number (root m) ++ many_text m names) ≡ codes "accepted\n"
