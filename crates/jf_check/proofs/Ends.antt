-- The gate after the last record.
use Rattle.std.specs.Prelude.{slice_get}
use Rattle.std.proofs.Common.{◌≡◌, ℕ, ◌+◌, ◌-◌, ◌≤◌, List, [], ◌∷◌, length, refl, arith, ap, ◌∙◌, Some, Ok}
use Rattle.std.proofs.lemmas.Option.{same_Some}
use Rattle.jf_disk.specs.Disk.{History}
use Rattle.jf_disk.specs.Crashes.{Idles}
use Rattle.jf_disk.proofs.CrashLaws.{by_now}
use Rattle.jf_frame.specs.Framed.{LogRecord}
use Rattle.jf_frame.specs.Framing.{records, end_from, end_of}
use Rattle.jf_frame.proofs.FramingLaws.{some_end}

pub end_none : (rs : List LogRecord) → length rs ≡ 0 → 0 ≡ end_of rs
end_none [] none = refl
end_none (r ∷ rs) none = absurd (omega arith)

-- the records from one on end after the last of them
end_last : (at : ℕ) (x : LogRecord) (rs : List LogRecord) (r : LogRecord) → slice_get (x ∷ rs) (length rs) ≡ Some r → r.offset + (10 + length r.payload) ≡ end_from at (x ∷ rs)
end_last at x [] r some = let e : x ≡ r = (let e : Some x ≡ Some r = some in cc) in rw (← e) (omega arith)
end_last at x (y ∷ rs) r some = end_last (x.offset + 10 + length x.payload) y rs r some

pub end_some : (rs : List LogRecord) (r : LogRecord) (i : ℕ) → i + 1 ≡ length rs → slice_get rs i ≡ Some r → r.offset + (10 + length r.payload) ≡ end_of rs
end_some [] r i is some = absurd (omega arith)
end_some (x ∷ rs) r i is some = let e : i ≡ length rs = omega arith in end_last 0 x rs r (rw e at some)

-- the records of a file end before it does
pub end_within : (bytes : List ℕ) (rs : List LogRecord) → records bytes ≡ Ok rs → end_of rs ≤ length bytes - 1
end_within bytes [] held = omega arith
end_within bytes (r ∷ rs) held = let lt = (some_end bytes r rs held).0 in omega arith

-- calls that change nothing leave the present state
pub still_now : (h k : History) → ((g : History) × (Some k ≡ Some g) × Idles h g) → k.now ≡ h.now
still_now h k idle = let e : k ≡ idle.0 = same_Some k idle.0 idle.1 in ap (λ (x : History). x.now) e ∙ by_now (λ s. s ≡ h.now) h idle.0 idle.2 refl
