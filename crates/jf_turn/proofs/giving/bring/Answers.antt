use Rattle.std.proofs.Common.{rules, ◌+◌, ◌*◌, ap, sym, ◌∙◌, subst, arith}
use Rattle.jf_turn.specs.Lists.{HasElement}
use Rattle.jf_turn.proofs.Keeps.{moves, releases}
use Rattle.jf_turn.proofs.giving.bring.Goals as goal

pub store-requires : goal.store-requires
store-requires g c =
    let words = c.turn.invariant.0 in let h = c.requires.holds in let same = ap (λ m. m.0) c.put_in.ensures.1 in let n = ap (λ v. v.number) same in (
      search rules,
      omega arith,
      moves _ _ _ _ _ _ _ _ h.0 c.args.value h.1 _ (ap (λ v. v.stage) same ∙ h.2) (ap (λ m. m.1) c.put_in.ensures.1) h.3 (λ e has. h.4 e has ∙ sym n) (subst (λ v. HasElement v.numbers v.number) (sym same) c.requires.empty.1) (ap (λ n. 2 * n + 1) c.entry_count-count.ensures) c.requires.bounded,
    )

pub store-requires-2 : goal.store-requires-2
store-requires-2 g c =
    let words = c.turn.invariant.0 in let slots = c.turn.invariant.1 in let before = ap (λ m. m.0.start) c.put_in.ensures.1 ∙ c.requires.start in let e = c.store.ensures.2 c.args.value (ap (λ m. m.1) c.put_in.ensures.1) in (
      search rules,
      omega arith,
      releases _ _ _ _ _ _ _ _ c.args.value _ (ap (λ m. m.0.stage) e) (ap (λ m. m.1) e ∙ ap (λ m. m.1) c.put_in.ensures.1) (ap (λ m. m.0.start) e ∙ before) (ap (λ n. 2 * n) c.entry_count-count.ensures) (omega arith),
    )
