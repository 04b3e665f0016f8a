use Rattle.std.proofs.Common.{◌≡◌, true, false, drop, sym, ◌∙◌, length-drop, arith}
use Rattle.std.specs.List.{before_first, after_first}
use Rattle.jf_io.specs.LineReader.{is_line_feed}
use Rattle.jf_io.proofs.Found.{lines-split}
use Rattle.jf_serve.specs.SessionScripts.{is_session_line}
use Rattle.jf_serve.proofs.ScriptCuts.{before-none, before-more, cut_all, cut_there, rest_is}
use Rattle.jf_serve.proofs.cutting.cut_script.Goals as goal

pub loop-start-init : goal.loop-start-init
loop-start-init c = before-none c.args.bytes.now

pub loop-start-preserved : goal.loop-start-preserved
loop-start-preserved c =
    let bytes = c.args.bytes.now in
    let start = c.loop-start.start in
    let line : c.split_line.result.0.now ≡ before_first is_line_feed (drop start bytes) = rw (rest_is bytes start) at c.split_line.ensures.line in
    let after : c.split_line.result.1.now ≡ after_first is_line_feed (drop start bytes) = rw (rest_is bytes start) at c.split_line.ensures.after in
    let other : is_session_line (before_first is_line_feed (drop start bytes)) ≡ false = rw line at (sym c.is_session_line.ensures ∙ c.if-is_session_line.false) in
    rw after (before-more bytes start c.loop-start.invariant (omega (arith, c.loop-start-test.true)) other)

pub returns-then-is_session_line : goal.returns-then-is_session_line
returns-then-is_session_line c =
    let bytes = c.args.bytes.now in
    let start = c.loop-start.start in
    let line : c.split_line.result.0.now ≡ before_first is_line_feed (drop start bytes) = rw (rest_is bytes start) at c.split_line.ensures.line in
    let after : c.split_line.result.1.now ≡ after_first is_line_feed (drop start bytes) = rw (rest_is bytes start) at c.split_line.ensures.after in
    let session : is_session_line (before_first is_line_feed (drop start bytes)) ≡ true = rw line at (sym c.is_session_line.ensures ∙ c.if-is_session_line.true) in
    rw after (cut_there bytes start c.loop-start.invariant (omega (arith, c.loop-start-test.true)) _ _ (lines-split (drop start bytes) (omega (arith, length-drop start bytes, c.loop-start-test.true))) session)

pub returns : goal.returns
returns c = cut_all c.args.bytes.now c.loop-start.start c.loop-start.invariant (omega (arith, c.loop-start.invariant.within, c.loop-start-test.false))
