-- The reply to a line that asks for a proof, looked up.
use Rattle.std.proofs.Common.{Some, refl, ap}
use Rattle.jf_hash.specs.Roots.{root}
use Rattle.jf_script.specs.declared.command.Question.TheVariants as question
use Rattle.jf_answers.specs.Answers.{Answer}
use Rattle.jf_answers.specs.Runs.{answer_text}
use Rattle.jf_ask.specs.Lookups.{HonestBlocksAreBelieved}
use Rattle.jf_client.specs.RunLaws.{text_heard}
use Rattle.jf_client.specs.LookupLaws.{HonestProofsAreBelieved}
use Rattle.jf_client.proofs.Told.{honest-told}
use Rattle.jf_client.proofs.RunJudged.{answer_asked}

pub proofs-believed : HonestBlocksAreBelieved → HonestProofsAreBelieved
proofs-believed believed m h asks is_map small =
    believed (root m) asks.name (text_heard h) m (Some h.number) is_map refl (honest-told m asks.name is_map asks.fits) small
    (ap (λ (x : Answer). answer_text h.number x) (answer_asked (question.Prove asks.name) m h asks.asks))
