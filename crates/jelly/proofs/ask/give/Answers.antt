use Rattle.std.proofs.Common.{◌≡◌, ◌∙◌, ◌/◌, ◌≤◌, List, ℕ, Some, length, drop, sym, subst, arith}
use Rattle.jf_text.specs.Words.{unhex}
use Rattle.jf_text.proofs.HexText.{unhex-length}
use Rattle.jelly.proofs.ToldClaims.{filled, filled_room-fits, filled_room-wide, value_number-wide}
use Rattle.jelly.proofs.ask.give.Goals as goal

half : (w v : List ℕ) → unhex w ≡ Some v → length w / 2 ≡ length v
half w v is = omega (arith, unhex-length w v is)

pub returns-then-out-count-clause-number : goal.returns-then-out-count-clause-number
returns-then-out-count-clause-number c v is = sym (value_number-wide c.args.out.now v (omega (arith, half c.args.digits.now v is)))

pub returns-then-out-count-clause-value : goal.returns-then-out-count-clause-value
returns-then-out-count-clause-value c v is = sym (filled_room-wide c.args.out.now v (omega (arith, half c.args.digits.now v is)))

pub returns-then-out-count-clause-length : goal.returns-then-out-count-clause-length
returns-then-out-count-clause-length c v is = half c.args.digits.now v is

pub returns-clause-length : goal.returns-clause-length
returns-clause-length c v is = half c.args.digits.now v is

pub returns-clause-value : goal.returns-clause-value
returns-clause-value c v is =
    let fits : length v ≤ length c.args.out.now = omega (arith, half c.args.digits.now v is) in
    let rest : drop (length v) c.unhexed_count.new.out ≡ drop (length v) c.args.out.now = subst (λ n. drop n c.unhexed_count.new.out ≡ drop n c.args.out.now) (half c.args.digits.now v is) c.unhexed_count.ensures.rest in
    filled c.unhexed_count.result c.args.out.now c.unhexed_count.new.out v c.unhexed_count.ensures.within (c.unhexed_count.ensures.bytes ∙ is) rest ∙ sym (filled_room-fits c.args.out.now v fits)
