-- Each round reads the child at one nibble, if there is one.
use Rattle.std.proofs.Common.{◌≡◌, ◌∷◌, [], ◌++◌, inr, sym, ap₂, ◌∙◌}
use Rattle.jf_codec.specs.Reading.{child_at, children_at}
use Rattle.jf_codec.proofs.Loop.{passes, goes_on, ends, is_done, rise_push, between_push, between_next, child_named}
use Rattle.jf_codec.proofs.reading.children_of.Goals as goal

pub loop-i-preserved-then-not-has : goal.loop-i-preserved-then-not-has
loop-i-preserved-then-not-has c = record {
  same = passes c.args.format c.args.bits.exist c.args.bits.leaf c.loop-i.children c.loop-i.i c.loop-i.rest.now (children_at c.args.format c.args.bits.exist c.args.bits.leaf 16 0 c.args.bytes.now)
      c.loop-i-test.true c.loop-i.invariant.same (sym c.has.ensures ∙ c.if-not-has.true);
  rise = between_next 0 c.loop-i.i c.loop-i.children c.loop-i.invariant.rise;
}

pub push-requires : goal.push-requires
push-requires c =
    let named = child_named c.args.format c.in-Some.nibble c.has-in-loop-i.result c.loop-i.rest.now (c.in-Ok.child, c.in-Ok.after.now) c.in-Ok.ensures in
    rise_push 0 c.loop-i.i c.loop-i.children c.in-Ok.child (named ∙ c.in-Some.ensures.value) c.loop-i.invariant.rise

pub returns-in-Err : goal.returns-in-Err
returns-in-Err c =
    inr (ends c.args.format c.args.bits.exist c.args.bits.leaf c.loop-i.children c.loop-i.i c.loop-i.rest.now (children_at c.args.format c.args.bits.exist c.args.bits.leaf 16 0 c.args.bytes.now)
    c.loop-i-test.true c.loop-i.invariant.same c.in-Err.fault (sym c.has.ensures ∙ c.if-not-has.false)
    (ap₂ (λ n l. child_at c.args.format n l c.loop-i.rest.now) (sym c.in-Some.ensures.value) (sym c.has-in-loop-i.ensures) ∙ c.in-Err.ensures))

pub loop-i-preserved : goal.loop-i-preserved
loop-i-preserved c =
    let named = child_named c.args.format c.in-Some.nibble c.has-in-loop-i.result c.loop-i.rest.now (c.in-Ok.child, c.in-Ok.after.now) c.in-Ok.ensures in
    let pushed : c.push.new.self ≡ c.loop-i.children ++ c.in-Ok.child ∷ [] = c.in_ok-push-in-Ok.ensures.ok in
    record {
      same = rw pushed (goes_on c.args.format c.args.bits.exist c.args.bits.leaf c.loop-i.children c.loop-i.i c.loop-i.rest.now (children_at c.args.format c.args.bits.exist c.args.bits.leaf 16 0 c.args.bytes.now)
          c.loop-i-test.true c.loop-i.invariant.same c.in-Ok.child c.in-Ok.after.now (sym c.has.ensures ∙ c.if-not-has.false)
          (ap₂ (λ n l. child_at c.args.format n l c.loop-i.rest.now) (sym c.in-Some.ensures.value) (sym c.has-in-loop-i.ensures) ∙ c.in-Ok.ensures));
      rise = rw pushed (between_push 0 c.loop-i.i c.loop-i.children c.in-Ok.child (named ∙ c.in-Some.ensures.value) c.loop-i.invariant.rise);
    }

pub returns : goal.returns
returns c = is_done c.args.format c.args.bits.exist c.args.bits.leaf c.loop-i.children c.loop-i.i c.loop-i.rest.now (children_at c.args.format c.args.bits.exist c.args.bits.leaf 16 0 c.args.bytes.now) c.loop-i-test.false c.loop-i.invariant.same
