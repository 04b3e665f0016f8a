-- A side that is cut to its closed gate.
use Rattle.std.proofs.Common.{◌≡◌, ℕ, ◌<◌, ◌≤◌, List, [], ◌∷◌, length, take, refl, ap, arith, inl}
use Rattle.jf_disk.specs.Disk.{History, DiskState, content_on, durable}
use Rattle.jf_disk.specs.Crashes.{Idles}
use Rattle.jf_disk.specs.declared.side.Side.{Side}
use Rattle.jf_disk.proofs.CrashLaws.{idle_now}
use Rattle.jf_frame.specs.Framing.{records}
use Rattle.jf_frame.specs.Logs.{StopsInBegin, with_closed}
use Rattle.jf_frame.proofs.Beginning.{idle_stops, stops_further}
use Rattle.jf_trim.specs.Trims.{trimmed_side}

pub trimmed-short : (bytes : List ℕ) → length bytes ≤ 1 → trimmed_side bytes ≡ bytes
trimmed-short [] short = refl
trimmed-short (gate ∷ []) short = refl
trimmed-short (gate ∷ next ∷ rest) short = absurd (omega arith)

pub trimmed-long : (bytes : List ℕ) → 1 < length bytes → trimmed_side bytes ≡ take 1 (with_closed bytes)
trimmed-long [] long = absurd (omega arith)
trimmed-long (gate ∷ []) long = absurd (omega arith)
trimmed-long (gate ∷ next ∷ rest) long = refl

pub length-trimmed : (bytes : List ℕ) → 1 < length bytes → length (trimmed_side bytes) ≡ 1
length-trimmed [] long = absurd (omega arith)
length-trimmed (gate ∷ []) long = absurd (omega arith)
length-trimmed (gate ∷ next ∷ rest) long = refl

-- calls that change nothing may come before those that begin a side
pub stops_after_idle : (w : Side) (h m g : History) → content_on w h.now ≡ durable (content_on w h.now).bytes → Idles h m → StopsInBegin w m g → StopsInBegin w h g
stops_after_idle w h m g quiet idle stops =
    stops_further w h m g (inl (ap (λ (s : DiskState). records (content_on w s).bytes) (idle_now h m idle))) (idle_stops w h m quiet idle) stops
