-- The byte after the last whole one takes one more nibble.
use Rattle.std.proofs.Common.{◌/◌, ◌<◌, ◌∙◌, ◌++◌, ◌∷◌, [], ap, ap₂, length, arith, rules}
use Rattle.jf_path.specs.PackedPath.{kept_count}
use Rattle.jf_path.proofs.PackedPaths.{IsByteWith, ArePackedNibbles-push, pushed_nibbles, low_half_after}
use Rattle.jf_path.proofs.path.NibblePath.push.Goals as goal

pub overflow_add-self : goal.overflow_add-self
overflow_add-self c = omega (arith, c.self.invariant.small (c.self.inside.count / 2), low_half_after c.self.inside.count c.self.inside.nibbles c.self.invariant, c.get-number.ensures.small)

pub bounds-self-inside-last-2 : goal.bounds-self-inside-last-2
bounds-self-inside-last-2 c = omega (arith, c.requires, ap length c.self.view_is, kept_count c.self.inside.count c.self.inside.nibbles c.self.invariant)

pub invariant_of-self : goal.invariant_of-self
invariant_of-self c =
    let room : c.self.inside.count < 64 = omega (arith, c.requires, ap length c.self.view_is, kept_count c.self.inside.count c.self.inside.nibbles c.self.invariant) in
    let with : IsByteWith c.self.inside.count c.self.inside.nibbles c.get-number.result c.if-self-eq0.self = record { high = λ even. search rules; low = λ odd. search rules } in
    ArePackedNibbles-push c.self.inside.count c.self.inside.nibbles c.get-number.result c.if-self-eq0.self room c.get-number.ensures.small c.self.invariant with

pub returns : goal.returns
returns c =
    let room : c.self.inside.count < 64 = omega (arith, c.requires, ap length c.self.view_is, kept_count c.self.inside.count c.self.inside.nibbles c.self.invariant) in
    let with : IsByteWith c.self.inside.count c.self.inside.nibbles c.get-number.result c.if-self-eq0.self = record { high = λ even. search rules; low = λ odd. search rules } in
    pushed_nibbles c.self.inside.count c.self.inside.nibbles c.get-number.result c.if-self-eq0.self room c.get-number.ensures.small c.self.invariant with
    ∙ ap₂ (λ p n. p ++ n ∷ []) c.self.view_is c.get-number.ensures.value
