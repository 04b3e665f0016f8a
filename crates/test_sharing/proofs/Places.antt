-- New places of a board.
use Rattle.std.proofs.Common.{◌≡◌, ℕ, ◌+◌, List, [], ◌∷◌, ◌++◌, length, ap, ◌∙◌, arith}
use Rattle.atomic_table.specs.Seated.{TableId}
use Rattle.jf_board.specs.States.{AreNewPlaces, PlaceState}
use Rattle.jf_board.specs.Steps.{newly_numbered}

-- the last of new places
pub last_place : (board : TableId) (ps : List PlaceState) (p : PlaceState) (n : ℕ) → AreNewPlaces board (ps ++ p ∷ []) n → AreNewPlaces board ps n × (p.board ≡ board) × (p.known ≡ newly_numbered (n + length ps))
last_place board [] p n new = (tt, new.0, new.1 ∙ ap newly_numbered (omega arith))
last_place board (q ∷ ps) p n new = let r = last_place board ps p (n + 1) new.2 in ((new.0, new.1, r.0), r.1, r.2 ∙ ap newly_numbered (omega arith))
