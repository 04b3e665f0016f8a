use Rattle.jf_receive.proofs.Outcomes.{ends-not_empty, refused-ends, accepted-ends}
use Rattle.jf_receive.proofs.receiving.receive.Goals as goal

pub returns-in-Err-clause-untouched : goal.returns-in-Err-clause-untouched
returns-in-Err-clause-untouched g c = λ head is. absurd (ends-not_empty _ _ _ _ _ _ _ _ c.in_default.ensures.none c.in-Err.how head (c.in-Err.ensures.err (g.K.Sink.text c.args.sink.now)) is)

pub returns-in-Err-clause-refused : goal.returns-in-Err-clause-refused
returns-in-Err-clause-refused g c = λ input why told new is. refused-ends _ _ _ _ _ _ _ _ new input told c.in-Err.how why (c.in-Err.ensures.err (g.K.Sink.text c.args.sink.now)) is

pub returns-in-Err-clause-accepted : goal.returns-in-Err-clause-accepted
returns-in-Err-clause-accepted g c = λ input es why told new is refused. accepted-ends _ _ _ _ _ _ _ _ new input told c.in-Err.how es why (c.in-Err.ensures.err (g.K.Sink.text c.args.sink.now)) is refused
