-- The bytes and the counts are equal if the nibbles are.
use Rattle.std.proofs.Common.{ap, ap₂, sym, ◌∙◌, ◌&&◌, ◌==◌}
use Rattle.std.specs.Cmp.Lexicographic.{pointwise}
use Rattle.jf_path.proofs.PackedOrder.{kept_same}
use Rattle.jf_path.proofs.path.NibblePathPartialEq.eq.Goals as goal

pub returns-then-eq : goal.returns-then-eq
returns-then-eq c =
    ap (λ t. t && (c.self.inside.count == c.other.inside.count)) (sym c.if-eq.true ∙ c.eq.ensures)
    ∙ kept_same c.self.inside.count c.other.inside.count c.self.inside.nibbles c.other.inside.nibbles c.self.invariant c.other.invariant
    ∙ ap₂ (pointwise (λ n m. n == m)) c.self.view_is c.other.view_is

pub returns-else-eq : goal.returns-else-eq
returns-else-eq c =
    c.if-eq.false
    ∙ ap (λ t. t && (c.self.inside.count == c.other.inside.count)) (sym c.if-eq.false ∙ c.eq.ensures)
    ∙ kept_same c.self.inside.count c.other.inside.count c.self.inside.nibbles c.other.inside.nibbles c.self.invariant c.other.invariant
    ∙ ap₂ (pointwise (λ n m. n == m)) c.self.view_is c.other.view_is
