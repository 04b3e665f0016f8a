-- Two passes of one store.
use Rattle.std.specs.Prelude.{◌≡◌}
use Rattle.jf_store.specs.Passes.{IsPassOf}
use Rattle.test_passes.specs.declared.scene.Scene.{Scene}

-- both passes are of the store
abbrev pub IsScene : Scene → Type 0
IsScene s = IsPassOf s.first.now s.store.now × IsPassOf s.second.now s.store.now

-- after a call both are of the same store, each with its number, and they are the passes that were lent
abbrev pub StaysScene : Scene → Scene → Type 0
StaysScene old new =
    IsScene new × (new.store ≡ old.store) ×
    (new.first.now.number ≡ old.first.now.number) × (new.second.now.number ≡ old.second.now.number) ×
    (new.first.ghost_name ≡ old.first.ghost_name) × (new.second.ghost_name ≡ old.second.ghost_name)
