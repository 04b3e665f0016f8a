use Rattle.std.proofs.Common.{◌≡◌, ◌≤◌, ◌∙◌, length, ap, sym, subst, Some}
use Rattle.jf_store.specs.Passes.{Pass, pass_of, Sees}
use Rattle.jf_store.proofs.NewsLaws.{HasLearned, Sees-learned, IsLook-learned, granted_learned, IsCounted-learned, IsPass-learned}
use Rattle.jf_store.proofs.pass.Pass.learn.Goals as goal

pub invariant_of-self : goal.invariant_of-self
invariant_of-self g c =
    let s = c.self.inside.seat in
    let starts : s.start ≡ Some c.args.store.now.start = ap (λ (p : Pass). p.start) c.self.view_is ∙ c.requires.own.1 in
    let h : HasLearned s c.learn.new.self c.args.shown.note = record { after = c.learn.ensures.learns; more = subst (λ (p : Pass). length p.seen ≤ length c.args.shown.note.seen) (sym c.self.view_is) c.requires.least; begins = c.learn.ensures.begins; note_begins = c.learn.ensures.note_begins; others = c.learn.ensures.others } in
    (IsPass-learned s c.learn.new.self c.args.shown.note c.self.inside.pins c.args.store.now c.args.shown.look c.self.invariant.0 h c.requires.shown starts, IsCounted-learned s c.learn.new.self c.args.shown.note c.self.inside.pins c.args.store.now c.args.shown.look c.self.invariant.0 h c.requires.shown)

pub returns-clause-sees : goal.returns-clause-sees
returns-clause-sees g c =
    let s = c.self.inside.seat in
    let h : HasLearned s c.learn.new.self c.args.shown.note = record { after = c.learn.ensures.learns; more = subst (λ (p : Pass). length p.seen ≤ length c.args.shown.note.seen) (sym c.self.view_is) c.requires.least; begins = c.learn.ensures.begins; note_begins = c.learn.ensures.note_begins; others = c.learn.ensures.others } in
    subst (λ (p : Pass). Sees p (pass_of c.learn.new.self c.self.inside.pins)) c.self.view_is (Sees-learned s c.learn.new.self c.args.shown.note c.self.inside.pins c.args.store.now c.args.shown.look c.self.invariant.0 h c.requires.shown)

pub returns-clause-look : goal.returns-clause-look
returns-clause-look g c =
    let s = c.self.inside.seat in
    let h : HasLearned s c.learn.new.self c.args.shown.note = record { after = c.learn.ensures.learns; more = subst (λ (p : Pass). length p.seen ≤ length c.args.shown.note.seen) (sym c.self.view_is) c.requires.least; begins = c.learn.ensures.begins; note_begins = c.learn.ensures.note_begins; others = c.learn.ensures.others } in
    IsLook-learned s c.learn.new.self c.args.shown.note c.self.inside.pins c.args.store.now c.args.shown.look c.self.invariant.0 h c.requires.shown

pub returns-clause-granted : goal.returns-clause-granted
returns-clause-granted g c =
    let s = c.self.inside.seat in
    let h : HasLearned s c.learn.new.self c.args.shown.note = record { after = c.learn.ensures.learns; more = subst (λ (p : Pass). length p.seen ≤ length c.args.shown.note.seen) (sym c.self.view_is) c.requires.least; begins = c.learn.ensures.begins; note_begins = c.learn.ensures.note_begins; others = c.learn.ensures.others } in
    granted_learned s c.learn.new.self c.args.shown.note c.self.inside.pins c.args.store.now c.args.shown.look c.self.invariant.0 h c.requires.shown
