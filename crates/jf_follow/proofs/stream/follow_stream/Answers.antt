use Rattle.jf_follow.specs.Lines.{follow_state}
use Rattle.jf_follow.proofs.Streamed.{fed_so, came_so, followed_whole, starts, no_cause}
use Rattle.jf_follow.proofs.stream.follow_stream.Goals as goal

pub how_ended-how-requires-clause-unstopped : goal.how_ended-how-requires-clause-unstopped
how_ended-how-requires-clause-unstopped g c = λ _ _ is. no_cause (c.feed-fed.ensures.write is)

pub returns-clause-followed : goal.returns-clause-followed
returns-clause-followed g c =
    let source = g.S.Source.rest c.args.source.now in
    let source' = g.S.Source.rest c.feed-fed.new.source in
    let text = g.K.Sink.text c.args.sink.now in
    let text' = g.K.Sink.text c.how_ended-how.new.sink in
    let first = starts c.args.engine c.new.result c.new-2.result c.new-3.result.items c.new.ensures c.new-2.ensures c.new-3.ensures.items in
    came_so c.how_ended-how.result c.args.engine _ c.into_engine.result _ c.of.result source source' text text' c.into_engine.ensures c.of.ensures
    (fed_so c.args.engine source source' text text' (λ t. follow_state t.following.reader t.following.follower t.following.entries.items) _ c.feed-fed.new.machine first c.feed-fed.result c.feed-fed.ensures.fed
    (λ is. no_cause (c.feed-fed.ensures.write is)) c.how_ended-how.result c.how_ended-how.ensures.ended)

pub returns-clause-whole : goal.returns-clause-whole
returns-clause-whole g c =
    followed_whole c.how_ended-how.result c.args.engine c.into_engine.result c.of.result (g.S.Source.rest c.args.source.now) (g.S.Source.rest c.feed-fed.new.source) (g.K.Sink.text c.args.sink.now) (g.K.Sink.text c.how_ended-how.new.sink) c.requires.whole (returns-clause-followed g c)
