use Rattle.std.proofs.Common.{◌≡◌, Err, inl, inr, subst}
use Rattle.std.proofs.lemmas.Result.{err_from_is_err_and}
use Rattle.jf_disk.specs.Crashes.{Idles, LeavesFiles}
use Rattle.jf_disk.proofs.CrashLaws.{leaves_further, leaves_idle, told_same}
use Rattle.jf_frame.specs.Logs.{StopsInBegin}
use Rattle.jf_trim.proofs.Keeping.{has_trimmed, kept_by_cutting}
use Rattle.jf_trim.proofs.trimming.trim.Goals as goal

pub returns-in_err-cut-clause-kept : goal.returns-in_err-cut-clause-kept
returns-in_err-cut-clause-kept g c = λ h told.
    let r = c.in_ok-side.ensures.at_rest h told in
    let l = c.find_spare.ensures.left h told in
    let s = c.cut_side-cut.ensures.stop r.1 r.2 in
    (s.0, s.1, kept_by_cutting c.in_ok-side.side r.0 h r.1 s.0 r.3 (c.in_ok-side.ensures.found h told) (subst (λ m. LeavesFiles h m) (told_same l.0 r.1 _ l.1 r.2) l.2) s.2 (c.know_readable.ensures s.0 s.1))

pub returns-in_err-cut-clause-err : goal.returns-in_err-cut-clause-err
returns-in_err-cut-clause-err g c = λ h why told e.
    let l = c.find_spare.ensures.left h told in
    let p = err_from_is_err_and c.from_residual-in_err-cut.result c.from_residual-in_err-cut.ensures.1 in
    let was : c.cut_side-cut.result ≡ Err why = (let was = c.in_err-cut.was in cc) in
    elim (c.cut_side-cut.ensures.err l.0 why l.1 was) [
      | inl fault ↦ inl fault
      | inr y ↦ inr (y.0, y.1, leaves_further h l.0 y.0 l.2 (leaves_idle l.0 y.0 y.2))
    ]

pub returns-clause-trimmed : goal.returns-clause-trimmed
returns-clause-trimmed g c = λ h told.
    let r = c.in_ok-side.ensures.at_rest h told in
    let l = c.find_spare.ensures.left h told in
    let s = c.cut_side-cut.ensures.stop r.1 r.2 in
    let y = c.in_ok-cut.ensures.cut r.1 r.2 in (
      y.0,
      y.1,
      has_trimmed (record { side = c.in_ok-side.side; bytes = c.in_ok-cut.field-0 }) r.0 h r.1 y.0 r.3 r.4 (c.in_ok-side.ensures.found h told)
          (subst (λ m. LeavesFiles h m) (told_same l.0 r.1 _ l.1 r.2) l.2) (subst (λ k. StopsInBegin c.in_ok-side.side r.1 k) (told_same s.0 y.0 _ s.1 y.1) s.2) y.2 y.3
          (λ none. let z = c.in_ok-cut.ensures.uncut r.1 r.2 none in subst (λ k. Idles r.1 k) (told_same z.0 y.0 _ z.1 y.1) z.2),
    )

pub returns-clause-kept : goal.returns-clause-kept
returns-clause-kept g c = λ h told.
    let r = c.in_ok-side.ensures.at_rest h told in
    let l = c.find_spare.ensures.left h told in
    let s = c.cut_side-cut.ensures.stop r.1 r.2 in
    (s.0, s.1, kept_by_cutting c.in_ok-side.side r.0 h r.1 s.0 r.3 (c.in_ok-side.ensures.found h told) (subst (λ m. LeavesFiles h m) (told_same l.0 r.1 _ l.1 r.2) l.2) s.2 (c.know_readable.ensures s.0 s.1))
