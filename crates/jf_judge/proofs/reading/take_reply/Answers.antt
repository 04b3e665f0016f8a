use Rattle.std.proofs.Common.{◌+◌, ◌≤◌, length, sym, subst, arith}
use Rattle.jf_io.specs.declared.piece.TheConstants.{USUAL_PIECE}
use Rattle.jf_judge.specs.JudgedReplies.{max_reply, HasTaken}
use Rattle.jf_judge.proofs.Taken.{taken-none, taken-more, taken-all, taken-long}
use Rattle.jf_judge.proofs.reading.take_reply.Goals.{else-branch-gt0, then-branch-gt0+then-len-gt-MAX_REPLY}
use Rattle.jf_judge.proofs.reading.take_reply.Goals as goal

pub loop-bytes-init : goal.loop-bytes-init
loop-bytes-init g c =
    let rest = g.S.Source.rest c.args.source.now in
    record {
      small = omega (arith, c.new-bytes.ensures.len);
      taken = subst (λ bytes. HasTaken rest rest bytes) (sym c.new-bytes.ensures.items) (taken-none rest);
      grows = omega arith;
    }

pub returns-in_err-append_piece-clause-front : goal.returns-in_err-append_piece-clause-front
returns-in_err-append_piece-clause-front g c =
    let few : length c.append_piece.new.bytes.items ≤ max_reply + USUAL_PIECE = omega (arith, c.append_piece.ensures.short, c.loop-bytes.invariant.small) in
    (c.append_piece.new.bytes.items, taken-more _ _ _ _ _ c.loop-bytes.invariant.taken c.append_piece.ensures.kept few)

pub returns-clause-ok : goal.returns-clause-ok
returns-clause-ok g c =
    let rest = g.S.Source.rest c.args.source.now in
    let rest' = g.S.Source.rest c.append_piece.new.source in
    let bytes = c.append_piece.new.bytes.items in
    let few : length bytes ≤ max_reply + USUAL_PIECE = omega (arith, c.append_piece.ensures.short, c.loop-bytes.invariant.small) in
    let taken : HasTaken rest rest' bytes = taken-more rest (g.S.Source.rest c.loop-bytes.source) rest' c.loop-bytes.bytes.items bytes c.loop-bytes.invariant.taken c.append_piece.ensures.kept few in
    elim c.if-branch-gt0.branch [
      | else-branch-gt0 w ↦ taken-all rest rest' bytes taken (c.in_ok-append_piece.ensures.end (omega (arith, w.if-branch-gt0.false))).1
      | then-branch-gt0+then-len-gt-MAX_REPLY w ↦ taken-long rest rest' bytes taken (omega (arith, w.len.ensures, w.if-len-gt-MAX_REPLY.true))
    ]

pub returns-clause-front : goal.returns-clause-front
returns-clause-front g c = let all = returns-clause-ok g c in (c.append_piece.new.bytes.items, all.0)
