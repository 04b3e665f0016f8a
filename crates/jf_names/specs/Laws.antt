-- What holds of all answers to names, as statements for calls that do nothing and ensure them.
use Rattle.std.specs.Prelude.{◌≡◌, ℕ, List, None}
use Rattle.jf_hash.specs.Maps.{Map, IsMap}
use Rattle.jf_hash.specs.Roots.{root}
use Rattle.jf_multi.specs.SharedTrees.{shared_proof}
use Rattle.jf_multi.specs.Verdicts.{many_refusal}
use Rattle.jf_many_blocks.specs.ManyBlocks.{on_keys}
use Rattle.jf_names.specs.Names.{names_by_key, keys_in, claims_in}

-- what a map says of names is accepted under its root, with the proof of their keys
abbrev pub AnswersAreAccepted : Type 0
AnswersAreAccepted = (m : Map) (names : List (List ℕ)) → IsMap m
    → many_refusal (root m) (on_keys (claims_in m (names_by_key names))) (shared_proof m (keys_in (names_by_key names))) ≡ None
