-- The nodes before the present one are read, and the others are still at the front.
use Rattle.std.proofs.Common.{◌≡◌, ◌++◌, List, ℕ, length, take, drop}
use Rattle.std.specs.List.{flat_map, AllByRecursion}
use Rattle.jf_path.specs.Names.{IsName}
use Rattle.jf_path.specs.declared.name.NodeName.{NodeName}
use Rattle.jf_path.specs.declared.node.PlainNode.{PlainNode}
use Rattle.jf_codec.specs.Spelling.{IsNode}
use Rattle.jf_payload.specs.Spelling.{fresh_bytes}
use Rattle.jf_landing.specs.Scanned.{AreReadEntries}
use Rattle.jf_landing.proofs.Rounds.{alone_at}
use Rattle.jf_landing.proofs.leaves.leaves_of.Given as goal

abbrev pub invariant-loop : goal.invariant-loop
invariant-loop l =
    AreReadEntries l.leaves.items
    × ((xs : List (NodeName × PlainNode)) (tail : List ℕ) → length xs ≡ l.count → AllByRecursion (λ x. IsName x.0 × IsNode l.format x.1) xs → l.bytes ≡ flat_map (fresh_bytes l.format) xs ++ tail
    → (l.rest ≡ flat_map (fresh_bytes l.format) (drop l.counter xs) ++ tail) × (l.leaves.items ≡ flat_map alone_at (take l.counter xs)))
