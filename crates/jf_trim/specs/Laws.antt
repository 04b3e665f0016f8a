-- A law of what trimming keeps.
use Rattle.jf_model.specs.Versions.{Versions}
use Rattle.jf_disk.specs.Disk.{History, reads}
use Rattle.jf_disk.specs.Crashes.{LeavesNow}
use Rattle.jf_files.specs.Files.{StandsFor}
use Rattle.jf_files.specs.Steps.{Opens, StopsWell}
use Rattle.jf_trim.specs.Trims.{KeepsStore}

-- if a store is kept, and a crash before the calls left only files of its versions, so does one at any moment of them, or now
abbrev pub KeptStoresStopWell : Type 0
KeptStoresStopWell =
    (old new : History) (v : Versions) → KeepsStore old new → StandsFor (reads old) v → LeavesNow old (λ f. StandsFor f v) → StopsWell Opens old new v × LeavesNow new (λ f. StandsFor f v)
