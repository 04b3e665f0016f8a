use Rattle.std.proofs.Common.{rules, ℕ, ◌+◌, ◌∙◌, Option, ap, arith, subst, sym}
use Rattle.jf_board.specs.declared.scan.Held.{Held}
use Rattle.jf_board.specs.States.{pruner_of}
use Rattle.jf_board.specs.Scans.{Scans}
use Rattle.jf_board.proofs.Scanning.{scans_lower, scans_same}
use Rattle.jf_board.proofs.scan_words.scan_words.Goals as goal
use Rattle.jf_board.proofs.scan_words.scan_words.Goals.{then-word-gt0+then-word-low, else-word-gt0, else-word-gt0-via-then-word-gt0+else-word-low, else-word-gt0-via-else-word-gt0}

pub loop-k-preserved : goal.loop-k-preserved
loop-k-preserved c =
    let h = c.load_pin-word.ensures in let i = c.loop-k.invariant in let q = pruner_of c.loop-k.seat.me.0 in let e = ap (λ m. pruner_of m.0) h.seat.1 in record {
      table = h.seat.0 ∙ i.table;
      pruner = search rules;
      scans = elim c.if-word-gt0.branch [
        | then-word-gt0+then-word-low w ↦ subst (λ (z : ℕ × Option Held). Scans (pruner_of c.args.seat.now.me.0) (pruner_of c.load_pin-word.new.seat.me.0) (c.loop-k.k + 1) z.0 z.1) (λ j. (sym w.low-is j, sym w.held-is j)) (scans_lower _ q _ _ _ _ _ i.scans h.joined h.below e w.if-word-gt0.true w.if-word-low.true)
        | else-word-gt0 w ↦ subst (λ (z : ℕ × Option Held). Scans (pruner_of c.args.seat.now.me.0) (pruner_of c.load_pin-word.new.seat.me.0) (c.loop-k.k + 1) z.0 z.1) (λ j. (sym w.low-is j, sym w.held-is j)) (scans_same _ q _ _ _ _ _ i.scans h.joined h.below e (elim w.else-word-gt0.branch [
          | else-word-gt0-via-then-word-gt0+else-word-low w' ↦ λ _. w'.if-word-low.false
          | else-word-gt0-via-else-word-gt0 w' ↦ λ some_word. absurd (let none = w'.if-word-gt0.false in omega arith)
        ]))
      ];
    }
