use Rattle.std.proofs.Common.{◌≡◌, [], ◌∷◌, ◌++◌, sym, ap, ◌∙◌, subst, Some}
use Rattle.std.proofs.lemmas.Result.{on_ok_weaker}
use Rattle.jf_disk.specs.Disk.{History}
use Rattle.jf_disk.specs.Crashes.{KeepsOther}
use Rattle.jf_disk.proofs.CrashLaws.{told_same}
use Rattle.jf_frame.specs.Logs.{IsReady, StopsInAppend, appended_record}
use Rattle.jf_pair.specs.Pairs.{Pair, IsInStep}
use Rattle.jf_pair.proofs.Appended.{append_stops, append_in_step}
use Rattle.jf_pair.proofs.pair.Pair.append.Goals as goal

pub returns-clause-ok : goal.returns-clause-ok
returns-clause-ok g c = λ h rs kind payload told kept is.
    let p = c.args.self.now in
    let side : c.self.inside.live.side ≡ p.side = ap (λ (p : Pair). p.side) c.self.view_is in
    let at : c.self.inside.live.offset ≡ p.offset = ap (λ (p : Pair). p.offset) c.self.view_is in
    let live = c.requires.live in
    let ready = subst (λ s. IsReady s c.self.inside.live.offset rs h.now) (sym side) (subst (λ n. IsReady p.side n rs h.now) (sym at) (kept.ready live)) in
    let s = c.append.ensures.stop h rs kind payload told ready is in
    let stop = subst (λ w. StopsInAppend w h s.0 rs (appended_record p.offset kind payload)) side (subst (λ n. StopsInAppend c.self.inside.live.side h s.0 rs (appended_record n kind payload)) at s.2) in
    on_ok_weaker
    {P = (k : History) × (g.D.Disk.history c.append.new.disk ≡ Some k) × IsReady c.self.inside.live.side c.append.new.self.offset (rs ++ appended_record c.self.inside.live.offset kind payload ∷ []) k.now}
    {Q = (k : History) × (g.D.Disk.history c.append.new.disk ≡ Some k) × IsInStep _ (rs ++ appended_record p.offset kind payload ∷ []) k.now}
    c.append.result
    (λ y.
    let same : s.0 ≡ y.0 = told_same s.0 y.0 _ s.1 y.1 in
    let then_ = subst (λ w. IsReady w c.append.new.self.offset (rs ++ appended_record p.offset kind payload ∷ []) y.0.now) side (subst (λ n. IsReady c.self.inside.live.side c.append.new.self.offset (rs ++ appended_record n kind payload ∷ []) y.0.now) at y.2) in
    (y.0, y.1, append_in_step p _ rs h y.0 (appended_record p.offset kind payload) kept live (subst (λ k. StopsInAppend p.side h k rs (appended_record p.offset kind payload)) same stop) (c.append.ensures.rest.side ∙ side) (ap (λ (p : Pair). p.is_live) c.self.view_is) then_))
    (c.append.ensures.ok h rs kind payload told ready is)

pub returns-clause-stop : goal.returns-clause-stop
returns-clause-stop g c = λ h rs kind payload told kept is.
    let p = c.args.self.now in
    let side : c.self.inside.live.side ≡ p.side = ap (λ (p : Pair). p.side) c.self.view_is in
    let at : c.self.inside.live.offset ≡ p.offset = ap (λ (p : Pair). p.offset) c.self.view_is in
    let live = c.requires.live in
    let ready = subst (λ s. IsReady s c.self.inside.live.offset rs h.now) (sym side) (subst (λ n. IsReady p.side n rs h.now) (sym at) (kept.ready live)) in
    let s = c.append.ensures.stop h rs kind payload told ready is in
    let stop = subst (λ w. StopsInAppend w h s.0 rs (appended_record p.offset kind payload)) side (subst (λ n. StopsInAppend c.self.inside.live.side h s.0 rs (appended_record n kind payload)) at s.2) in
    (s.0, s.1, append_stops p rs h s.0 (appended_record p.offset kind payload) kept live stop)

pub returns-clause-other : goal.returns-clause-other
returns-clause-other g c = λ h rs told kept.
    let p = c.args.self.now in
    let side : c.self.inside.live.side ≡ p.side = ap (λ (p : Pair). p.side) c.self.view_is in
    let at : c.self.inside.live.offset ≡ p.offset = ap (λ (p : Pair). p.offset) c.self.view_is in
    let ready = subst (λ s. IsReady s c.self.inside.live.offset rs h.now) (sym side) (subst (λ n. IsReady p.side n rs h.now) (sym at) (kept.ready c.requires.live)) in
    let s = c.append.ensures.stop h rs c.requires.framed.0 c.requires.framed.1 told ready c.requires.framed.2 in
    (s.0, s.1, subst (λ w. KeepsOther w h s.0) side s.2.other)
