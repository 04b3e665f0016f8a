use Rattle.std.proofs.Common.{get_or, ap, sym, ◌∙◌, Some}
use Rattle.std.specs.Option.{option_copied}
use Rattle.std.specs.FinMap as fin
use Rattle.jf_path.specs.Keys.{key_cmp}
use Rattle.jf_plain.proofs.Views.{get-of}
use Rattle.jf_plain.proofs.map.PlainMap.get.Goals as goal

pub returns-in_err-place : goal.returns-in_err-place
returns-in_err-place c =
    ap option_copied c.from_residual.ensures ∙ sym c.in_err-place.ensures ∙ ap (fin.find key_cmp c.args.key.now) c.deref.ensures.value
    ∙ get-of _ c.args.key.now c.self.invariant ∙ ap (λ m. fin.get m c.args.key.now) c.self.view_is

pub returns : goal.returns
returns c =
    let at = c.in_ok-place.ensures.1 c.index.result.now in
    ap Some (c.as_slice.ensures ∙ ap (λ e. e.1) (c.index.ensures ∙ ap (λ es. get_or es c.in_ok-place.place c.index.result.now) (sym c.deref.ensures.value))) ∙ sym at ∙ ap (fin.find key_cmp c.args.key.now) c.deref.ensures.value
    ∙ get-of _ c.args.key.now c.self.invariant ∙ ap (λ m. fin.get m c.args.key.now) c.self.view_is
