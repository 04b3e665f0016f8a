-- What a crash leaves, against what a session pins.
use Rattle.std.specs.Prelude.{ℕ, ◌≤◌}
use Rattle.jf_model.specs.Versions.{Versions}
use Rattle.jf_disk.specs.Disk.{Files, History, LeftSince}
use Rattle.jf_files.specs.Files.{StandsFor}
use Rattle.jf_answers.specs.Own.{Own}
use Rattle.jf_answers.specs.Laws.{SparesPins}

-- each image left since a moment represents versions of which the floor is above no version that a session has pinned
abbrev pub SparesPinsSince : ℕ → History → Own → Type 0
SparesPinsSince moment h own = (t : ℕ) (f : Files) → moment ≤ t → LeftSince h t f → (v : Versions) × StandsFor f v × SparesPins own v.floor
