use Rattle.std.proofs.Common.{◌≡◌, ◌∙◌, ap, sym, subst, None}
use Rattle.std.specs.Prelude.{IfSome}
use Rattle.jf_path.specs.Checks.{first_of}
use Rattle.jf_store.specs.declared.look.Look.{Look}
use Rattle.jf_store.specs.Ledgers.{state_after_events}
use Rattle.jf_store.specs.Looks.{IsLook}
use Rattle.jf_store.specs.Refusals.{look_faults}
use Rattle.jf_store.specs.Passes.{Pass}
use Rattle.jf_store.proofs.NewsLaws.{IsShownLook-note_of}
use Rattle.jf_store.proofs.pass.Pass.show.Goals as goal

pub show-requires-2-after_bounds : goal.show-requires-2-after_bounds
show-requires-2-after_bounds g c κs within =
    let start = c.args.store.now.start in
    let s = c.self.inside.seat in
    let P = λ (l : Look). IsLook (state_after_events start c.args.self.now.seen) l × (first_of (look_faults start c.args.self.now.seen) ≡ None) in
    let both = subst (λ o. IfSome o P) c.in-Some.is c.requires.look in
    let seen = ap (λ (p : Pass). p.seen) c.self.view_is in
    IsShownLook-note_of s c.self.inside.pins c.args.store.now c.note-note.result c.in-Some.look c.self.invariant.0 (ap (λ (p : Pass). p.store) c.self.view_is ∙ c.requires.own.0) (ap (λ (p : Pass). p.start) c.self.view_is ∙ c.requires.own.1) c.note-note.ensures.note
    (subst (λ es. IsLook (state_after_events start es) c.in-Some.look) (sym seen) both.0) (subst (λ es. first_of (look_faults start es) ≡ None) (sym seen) both.1)
