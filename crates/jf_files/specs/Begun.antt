-- A store is initialised on two files that hold no record.
use Rattle.std.specs.Prelude.{◌⊎◌, []}
use Rattle.jf_model.specs.Versions.{new_store}
use Rattle.jf_disk.specs.Disk.{History, IsImage, reads}
use Rattle.jf_disk.specs.Crashes.{GoesOn}
use Rattle.jf_pair.specs.Files.{HoldsLive}
use Rattle.jf_files.specs.Files.{StandsFor}

-- files without a record were initialised: they still represent a new store, and a crash leaves what it could have left
-- before, or files that represent a new store
pub record IsBegunOver (old new : History) : Type 0 where
  pub none : HoldsLive (reads old) []
  pub stands : StandsFor (reads new) new_store
  pub images : GoesOn old new (λ f. IsImage old.now f ⊎ StandsFor f new_store)
