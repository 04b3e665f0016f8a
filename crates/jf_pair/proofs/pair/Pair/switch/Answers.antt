use Rattle.std.proofs.Common.{◌≡◌, [], ◌∷◌, refl, sym, ap, ◌∙◌, subst}
use Rattle.jf_disk.specs.Disk.{History, content_on}
use Rattle.jf_disk.specs.Crashes.{GoesOn, KeepsOther, opposite}
use Rattle.jf_disk.proofs.CrashLaws.{told_same}
use Rattle.jf_frame.specs.Logs.{Log, IsReady, appended_record}
use Rattle.jf_pair.specs.Pairs.{Pair}
use Rattle.jf_pair.proofs.FirstRecord.{SameNoneOrOne}
use Rattle.jf_pair.proofs.Switched.{is_newer, switch_stops, switch_in_step}
use Rattle.jf_pair.proofs.pair.Pair.switch.Goals as goal

pub returns-in_err-write_first-clause-stop : goal.returns-in_err-write_first-clause-stop
returns-in_err-write_first-clause-stop g c = λ h rs kind payload told kept is.
    let p = c.args.self.now in
    let r = appended_record 0 kind payload in
    let to : c.self.inside.other.side ≡ opposite p.side = c.self.invariant ∙ ap (λ (p : Pair). opposite p.side) c.self.view_is in
    let x = c.write_first.ensures.stop h kind payload told is in
    let n = is_newer kind payload rs p h.now kept (c.requires.checkpoint kind payload is) (c.requires.newer h rs kind payload told kept is) in
    (x.0, x.1, switch_stops p rs h x.0 r kept n (subst (λ w. GoesOn h x.0 (SameNoneOrOne w (content_on w h.now).bytes r)) to x.2) (subst (λ w. KeepsOther w h x.0) to x.3))

pub returns-in_err-write_first-clause-other : goal.returns-in_err-write_first-clause-other
returns-in_err-write_first-clause-other g c = λ h told.
    let to : c.self.inside.other.side ≡ opposite c.args.self.now.side = c.self.invariant ∙ ap (λ (p : Pair). opposite p.side) c.self.view_is in
    let x = c.write_first.ensures.stop h c.requires.framed.0 c.requires.framed.1 told c.requires.framed.2 in
    (x.0, x.1, subst (λ w. KeepsOther w h x.0) to x.3)

pub returns-clause-stop : goal.returns-clause-stop
returns-clause-stop g c = λ h rs kind payload told kept is.
    let p = c.args.self.now in
    let r = appended_record 0 kind payload in
    let to : c.self.inside.other.side ≡ opposite p.side = c.self.invariant ∙ ap (λ (p : Pair). opposite p.side) c.self.view_is in
    let x = c.write_first.ensures.stop h kind payload told is in
    let n = is_newer kind payload rs p h.now kept (c.requires.checkpoint kind payload is) (c.requires.newer h rs kind payload told kept is) in
    (x.0, x.1, switch_stops p rs h x.0 r kept n (subst (λ w. GoesOn h x.0 (SameNoneOrOne w (content_on w h.now).bytes r)) to x.2) (subst (λ w. KeepsOther w h x.0) to x.3))

pub returns-clause-other : goal.returns-clause-other
returns-clause-other g c = λ h told.
    let to : c.self.inside.other.side ≡ opposite c.args.self.now.side = c.self.invariant ∙ ap (λ (p : Pair). opposite p.side) c.self.view_is in
    let x = c.write_first.ensures.stop h c.requires.framed.0 c.requires.framed.1 told c.requires.framed.2 in
    (x.0, x.1, subst (λ w. KeepsOther w h x.0) to x.3)

pub returns-clause-ok : goal.returns-clause-ok
returns-clause-ok g c = λ h kind payload told is.
    let p = c.args.self.now in
    let r = appended_record 0 kind payload in
    let k = c.requires.in_step h told in
    let to : c.self.inside.other.side ≡ opposite p.side = c.self.invariant ∙ ap (λ (p : Pair). opposite p.side) c.self.view_is in
    let x = c.write_first.ensures.stop h kind payload told is in
    let y = c.in_ok-write_first.ensures.ok h kind payload told is in
    let same : x.0 ≡ y.0 = told_same x.0 y.0 _ x.1 y.1 in
    let n = is_newer kind payload k.0 p h.now k.1 (c.requires.checkpoint kind payload is) (c.requires.newer h k.0 kind payload told k.1 is) in
    let other : KeepsOther (opposite p.side) h y.0 = subst (λ w. KeepsOther w h y.0) to (subst (λ (z : History). KeepsOther c.self.inside.other.side h z) same x.3) in
    let ready : IsReady (opposite p.side) c.swap.new.x.offset (r ∷ []) y.0.now = subst (λ w. IsReady w c.swap.new.x.offset (r ∷ []) y.0.now) to (subst (λ (l : Log). IsReady c.self.inside.other.side l.offset (r ∷ []) y.0.now) (sym c.swap.ensures.x_after) y.2) in
    (y.0, y.1, switch_in_step p _ k.0 h y.0 r k.1 n other (ap (λ (l : Log). l.side) c.swap.ensures.x_after ∙ c.in_ok-write_first.ensures.side ∙ to) refl ready)
