-- The whole bytes of the front are compared, and then an odd nibble after them.
use Rattle.std.proofs.Common.{◌≡◌, ◌==◌, Bool, true, false, ap₂, sym, ◌∙◌}
use Rattle.std.proofs.lemmas.Bool.{lt-leb}
use Rattle.std.specs.List.{starts_with}
use Rattle.jf_path.proofs.PackedOrder.{begins_even, begins_odd, begins_otherwise, begins_short}
use Rattle.jf_path.proofs.path.NibblePath.starts_with.Goals.{then-self-front, else-self-front}
use Rattle.jf_path.proofs.path.NibblePath.starts_with.Goals as goal

not_both : {G : Type 0} (b : Bool) → b ≡ true → b ≡ false → G
not_both b yes_is no_is = absurd (let e : true ≡ false = sym yes_is ∙ no_is in cc)

pub returns-then-front-eq0 : goal.returns-then-front-eq0
returns-then-front-eq0 c =
    elim c.if-self-front.branch [
      | then-self-front w ↦
          begins_even c.front.inside.count c.self.inside.count c.front.inside.nibbles c.self.inside.nibbles c.front.invariant c.self.invariant w.if-self-front.true (sym c.if-eq.true ∙ w.value-is ∙ w.eq.ensures) c.if-front-eq0.true
          ∙ ap₂ (starts_with (λ n m. n == m)) c.self.view_is c.front.view_is
      | else-self-front w ↦ not_both c.if-self-front.value c.if-eq.true (w.value-is ∙ lt-leb c.front.inside.count c.self.inside.count w.if-self-front.false)
    ]

pub returns-else-front-eq0 : goal.returns-else-front-eq0
returns-else-front-eq0 c =
    elim c.if-self-front.branch [
      | then-self-front w ↦
          begins_odd c.front.inside.count c.self.inside.count c.front.inside.nibbles c.self.inside.nibbles c.front.invariant c.self.invariant w.if-self-front.true (sym c.if-eq.true ∙ w.value-is ∙ w.eq.ensures) c.if-front-eq0.false
          ∙ ap₂ (starts_with (λ n m. n == m)) c.self.view_is c.front.view_is
      | else-self-front w ↦ not_both c.if-self-front.value c.if-eq.true (w.value-is ∙ lt-leb c.front.inside.count c.self.inside.count w.if-self-front.false)
    ]

pub returns-else-eq : goal.returns-else-eq
returns-else-eq c =
    elim c.if-self-front.branch [
      | then-self-front w ↦
          c.if-eq.false
          ∙ begins_otherwise c.front.inside.count c.self.inside.count c.front.inside.nibbles c.self.inside.nibbles c.front.invariant c.self.invariant w.if-self-front.true (sym c.if-eq.false ∙ w.value-is ∙ w.eq.ensures)
          ∙ ap₂ (starts_with (λ n m. n == m)) c.self.view_is c.front.view_is
      | else-self-front w ↦
          c.if-eq.false
          ∙ begins_short c.front.inside.count c.self.inside.count c.front.inside.nibbles c.self.inside.nibbles c.front.invariant c.self.invariant w.if-self-front.false
          ∙ ap₂ (starts_with (λ n m. n == m)) c.self.view_is c.front.view_is
    ]
