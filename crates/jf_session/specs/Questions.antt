-- What a question is answered over a map.
use Rattle.std.specs.Prelude.{◌≡◌, ℕ, List, [], ◌++◌, Some, None, Result, Ok, Err}
use Rattle.jf_path.specs.Checks.{first_of}
use Rattle.jf_hash.specs.Maps.{Map}
use Rattle.jf_script.specs.declared.command.Question.{Question}
use Rattle.jf_script.specs.declared.reply.Reply.{Reply}
use Rattle.jf_script.specs.declared.reply.Reply.TheVariants as reply
use Rattle.jf_answers.specs.Refusals.{question_causes}
use Rattle.jf_answers.specs.Answers.{answer_of}
use Rattle.jf_session.specs.declared.stop.Stop.{Stop}
use Rattle.jf_session.specs.declared.stop.Stop.TheVariants as stop

-- the reply to a question over a map, and the block after it: the first refusal, or otherwise the answer
abbrev pub question_reply : Question → Map → Reply × List ℕ
question_reply q m = elim (first_of (question_causes q m)) [ Some why ↦ (reply.No why, []) | None ↦ answer_of q m ]

-- the reply to a question, which has no block; or memory ran out
abbrev pub IsReplyTo : Question → Map → Result Reply Stop → Type 0
IsReplyTo q m (Ok r) = (r, []) ≡ question_reply q m
IsReplyTo q m (Err why) = why ≡ stop.Memory

-- the reply to a question, of which the block was appended to these lines; or memory ran out
abbrev pub IsAnswerTo : Question → Map → List ℕ → List ℕ → Result Reply Stop → Type 0
IsAnswerTo q m lines lines' (Ok r) = (block : List ℕ) × (lines' ≡ lines ++ block) × ((r, block) ≡ question_reply q m)
IsAnswerTo q m lines lines' (Err why) = why ≡ stop.Memory
