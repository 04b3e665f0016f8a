use Rattle.std.proofs.Common.{◌∙◌, refl, sym, ap, subst, List}
use Rattle.jf_model.specs.declared.entries.Entry.{Entry}
use Rattle.jf_follow.specs.Streams.{HasFollowed}
use Rattle.jf_run.proofs.Followed.{came_keeps}
use Rattle.std.specs.Prelude.{IsTrue}
use Rattle.jf_run.specs.Statuses.{is_input_fault}
use Rattle.jf_run.proofs.Following.{followed_here, followed_inside, followed_keeps, followed_silently}
use Rattle.jf_run.proofs.KeptInTurn.{IsSettledEngine}
use Rattle.jf_run.proofs.follow_over.follow_over.Goals as goal

pub returns : goal.returns
returns g c = record {
  unwritten = λ refused. let silent = followed_silently c.follow_stream-engine.result.how (subst (λ s. IsTrue (is_input_fault s)) (c.of_engine.ensures.status ∙ c.of_followed.ensures) refused) in c.follow_stream-engine.ensures.silent silent.0 silent.1;
  inside = λ least head ends. followed_inside c.follow_stream-engine.result.how least head (sym (c.of_engine.ensures.status ∙ c.of_followed.ensures) ∙ ends);
  here = λ head root ends. followed_here c.follow_stream-engine.result.how head root (sym (c.of_engine.ensures.status ∙ c.of_followed.ensures) ∙ ends);
  kept = λ missing before head begun dated held.
      let old = c.args.engine in
      let known = c.know.ensures in
      let fresh : IsSettledEngine old = record { sound = known.sound; dated = known.dated; settled = λ h told. known.settled h told c.requires.whole; whole = c.requires.whole } in
      let step = c.follow_stream-engine in
      let did = step.ensures in
      let new = step.result.engine in
      let out = c.of_engine.ensures in
      let rest = g.S.Source.rest c.args.source.now in
      let rest' = g.S.Source.rest step.new.source in
      let text = g.K.Sink.text c.args.sink.now in
      let text' = g.K.Sink.text step.new.sink in
      let came : HasFollowed step.result.how old new c.of_engine.result.entries rest rest' text text' =
      subst (λ (es : List Entry). HasFollowed step.result.how old new es rest rest' text text') (sym out.entries) did.followed in
      let keeps = came_keeps old fresh c.landing_blocks_are_sound.ensures c.followed_is_history.ensures c.following_is_legal.ensures new c.know-2.ensures.bounded.0 c.of_engine.result.entries rest rest' text text' step.result.how came in
      followed_keeps _ head c.args.workers old new step.result.how begun (out.status ∙ c.of_followed.ensures) out.resting came keeps.0 keeps.1 keeps.2
      c.files_stand_for_one.ensures c.damage_is_no_versions.ensures c.inputs_decide.ensures dated refl refl (λ done write. ap g.K.Sink.faults (did.silent done write)) did.read did.write did.source_counts did.sink_counts;
}
