-- What is found of the files of a disk, side by side.
use Rattle.std.proofs.Common.{◌≡◌, ◌∙◌, ap, ap₂, refl, Bool, true, false, ℕ, List, [], Option, Some, None}
use Rattle.jf_disk.specs.Disk.{DiskState, Files, History, content_on}
use Rattle.jf_disk.specs.Crashes.{Idles}
use Rattle.jf_disk.specs.declared.side.Side.{Side}
use Rattle.jf_disk.specs.declared.side.Side.TheVariants as side
use Rattle.jf_disk.proofs.CrashLaws.{idle_now}
use Rattle.jf_check.specs.Reading.{AreFilesOf, IsFileOf}

pub missing_file : (told : Option History) (w : Side) → IsFileOf told w true None
missing_file None w = record { bytes = []; read = λ h told. absurd (cc); file_is = refl }
missing_file (Some g) w = record { bytes = (content_on w g.now).bytes; read = λ h told. let same : g ≡ h = cc in ap (λ (x : History). (content_on w x.now).bytes) same; file_is = refl }

pub found_file : (told : Option History) (w : Side) (bytes : List ℕ) → ((h : History) → told ≡ Some h → bytes ≡ (content_on w h.now).bytes) → IsFileOf told w false (Some bytes)
found_file told w bytes read = record { bytes = bytes; read = read; file_is = refl }

-- the second file is read after the first
pub files_found_so : (missing : Side → Bool) (d e : Option History) (a b : Option (List ℕ)) → IsFileOf d side.A (missing side.A) a → IsFileOf e side.B (missing side.B) b
    → ((h : History) → d ≡ Some h → (g : History) × (e ≡ Some g) × Idles h g) → AreFilesOf missing d a b
files_found_so missing d e a b x y idle = record {
  files = record { a = x.bytes; b = y.bytes };
  read = λ h told.
      let i = idle h told in
      ap₂ (λ (p q : List ℕ). let r : Files = record { a = p; b = q } in r) (x.read h told) (y.read i.0 i.1 ∙ ap (λ (s : DiskState). s.b.bytes) (idle_now h i.0 i.2));
  a_is = x.file_is;
  b_is = y.file_is;
}
