-- The walk over two maps that lists the nodes of the new one that the old one doesn't have, in the order of their paths.
use Rattle.std.specs.Prelude.{Bool, not, ◌&&◌, ℕ, zero, suc, ◌+◌, List, [], ◌++◌, cond, ◌∷◌}
use Rattle.jf_hash.specs.Slots.{Part}
use Rattle.jf_model.specs.Nodes.{has_one, same_part, Path}
use Rattle.jf_model.specs.ChildEntries.{child_entries}

-- whether there is a node with the new part, and it is not that of the old part
abbrev pub differs : Part → Part → Bool
differs old new = has_one new && not (same_part old new)

-- the lists that g gives at `count` nibbles from n on, one after another
abbrev pub each_from : {X : Type 0} → ℕ → ℕ → (ℕ → List X) → List X
each_from zero n g = []
each_from (suc count) n g = g n ++ each_from count (n + 1) g

-- f of the path of each node of the new part that the old one doesn't have, if so many levels follow: nothing if the two parts are the same
unfoldable pub list_of_new_nodes : {X : Type 0} → ℕ → ℕ → Part → Part → (Path → X) → List X
list_of_new_nodes zero depth old new f = cond (differs old new) (f [] ∷ []) []
list_of_new_nodes (suc levels) depth old new f =
    cond (differs old new) (f [] ∷ each_from 16 0 (λ n. list_of_new_nodes levels (depth + 1) (child_entries depth n old) (child_entries depth n new) (λ path. f (n ∷ path)))) []

-- f of the top in any case, and then of the nodes below it that are new
unfoldable pub with_root : {X : Type 0} → Part → Part → (Path → X) → List X
with_root old new f = f [] ∷ each_from 16 0 (λ n. list_of_new_nodes 63 1 (child_entries 0 n old) (child_entries 0 n new) (λ path. f (n ∷ path)))
