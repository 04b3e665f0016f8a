use Rattle.std.proofs.Common.{◌≡◌, ◌+◌, ◌-◌, ◌∙◌, ap, ap₂, arith, length, take, drop, cond}
use Rattle.std.proofs.lemmas.List.Sums.{sum_by-take-drop, sum_by-take-le}
use Rattle.jf_path.specs.Bitmaps.{present}
use Rattle.jf_hash.proofs.Present.{present-run}
use Rattle.jf_hash.proofs.ranges.Ranges.run.Goals as goal

pub slice_bounds-result-end : goal.slice_bounds-result-end
slice_bounds-result-end c =
    let bits = c.self.inside.kept in
    omega (
      arith,
      c.rank-start.ensures,
      c.count.ensures,
      sum_by-take-drop (λ bit. cond bit 1 0) bits c.args.first,
      sum_by-take-le (λ bit. cond bit 1 0) (drop c.args.first bits) c.args.count,
      c.self.invariant,
      ap length c.deref.ensures.value,
    )

pub returns : goal.returns
returns c =
    let start = c.rank-start.result in
    ap₂ (λ n xs. take n (drop start xs)) (let e : start + c.count.result - start ≡ c.count.result = omega arith in e) c.deref.ensures.value
    ∙ ap₂ (λ n m. take n (drop m c.self.inside.hashes.items)) c.count.ensures c.rank-start.ensures
    ∙ present-run c.args.first c.args.count c.self.inside.kept c.self.inside.hashes.items
    ∙ ap (λ hs. present (take c.args.count (drop c.args.first hs))) c.self.view_is
