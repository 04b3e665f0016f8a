-- What was reported of the files of a disk.
use Rattle.std.specs.Prelude.{IfOk, if◌then◌else◌}
use Rattle.std.specs.Option.{ForSome}
use Rattle.std.proofs.Common.{◌≡◌, ◌∙◌, ap, ap₂, refl, sym, subst, Bool, true, false, ℕ, List, [], Option, Some, None, Result, Ok, Err}
use Rattle.jf_disk.specs.Disk.{Files, History, content_on, reads}
use Rattle.jf_disk.specs.Missing.{bytes_found, file_on, files_found}
use Rattle.jf_disk.specs.declared.side.Side.{Side}
use Rattle.jf_disk.specs.declared.side.Side.TheVariants as side
use Rattle.jf_check.specs.declared.fault.Unchecked.{Unchecked}
use Rattle.jf_check.specs.declared.fault.Unchecked.TheVariants as unchecked
use Rattle.jf_check.specs.declared.store_check.StoreCheck.{StoreCheck}
use Rattle.jf_check.specs.Stores.{IsStoreCheck}
use Rattle.jf_check.specs.Reading.{AreFilesOf}
use Rattle.jf_check.specs.Written.{ChecksDisk, WritesCheck}

-- the files that a read gives, if the history is known
known_files : (told : Option History) → (files : Files) × ForSome told (λ h. files ≡ reads h)
known_files None = (record { a = []; b = [] }, λ h told. absurd (cc))
known_files (Some g) = (reads g, λ h told. let same : g ≡ h = cc in ap reads same)

-- nothing was written, and the sink did not fail
pub unchecked_disk : (e : Unchecked) (missing : Side → Bool) (told : Option History) (text : Option (List ℕ)) → (e ≡ unchecked.WriteFault → ⊥) → ChecksDisk (Err e) missing told text text
unchecked_disk unchecked.DiskFault missing told text other = let k = known_files told in record { files = k.0; read = k.1; written = refl }
unchecked_disk unchecked.WriteFault missing told text other = absurd (other refl)
unchecked_disk unchecked.Memory missing told text other = let k = known_files told in record { files = k.0; read = k.1; written = refl }

-- the lines of the files found were written
pub checked_disk : (r : Result StoreCheck Unchecked) (missing : Side → Bool) (told : Option History) (a b text text' : Option (List ℕ)) → AreFilesOf missing told a b → WritesCheck r a b text text' → ChecksDisk r missing told text text'
checked_disk r missing told a b text text' found writes = record {
  files = found.files;
  read = found.read;
  written = subst (λ (x : Option (List ℕ)). WritesCheck r (file_on missing found.files side.A) x text text') found.b_is
      (subst (λ (x : Option (List ℕ)). WritesCheck r x b text text') found.a_is writes);
}

-- a missing file has no bytes
one_found : (missing : Bool) (bytes : List ℕ) → (missing ≡ true → bytes ≡ []) → bytes_found (if missing then None else Some bytes) ≡ bytes
one_found true bytes none = sym (none refl)
one_found false bytes none = refl

both_found : (missing : Side → Bool) (h : History) → ((w : Side) → missing w ≡ true → (content_on w h.now).bytes ≡ []) → files_found (file_on missing (reads h) side.A) (file_on missing (reads h) side.B) ≡ reads h
both_found missing h none =
    ap₂ (λ (p q : List ℕ). let r : Files = record { a = p; b = q } in r) (one_found (missing side.A) h.now.a.bytes (none side.A)) (one_found (missing side.B) h.now.b.bytes (none side.B))

-- what both files represent
pub store_of_disk : (r : Result StoreCheck Unchecked) (missing : Side → Bool) (told : Option History) (a b text text' : Option (List ℕ)) (h : History) → told ≡ Some h → ((w : Side) → missing w ≡ true → (content_on w h.now).bytes ≡ [])
    → AreFilesOf missing told a b → WritesCheck r a b text text' → IfOk r (IsStoreCheck (reads h))
store_of_disk (Err e) missing told a b text text' h is none found writes = tt
store_of_disk (Ok store) missing told a b text text' h is none found writes =
    let same = found.read h is in
    let files : files_found a b ≡ reads h =
    ap₂ files_found (found.a_is ∙ ap (λ (f : Files). file_on missing f side.A) same) (found.b_is ∙ ap (λ (f : Files). file_on missing f side.B) same) ∙ both_found missing h none in
    subst (λ (s : StoreCheck). IsStoreCheck (reads h) s) (sym writes.2) (subst (λ (f : Files). IsStoreCheck f writes.0.store) files writes.1.store_found)
