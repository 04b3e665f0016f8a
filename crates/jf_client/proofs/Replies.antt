-- The replies to `root` and to `prove`, and how they are judged.
use Rattle.std.proofs.Common.{◌≡◌, ℕ, false, nat_lt, List, None, refl, arith, cond, Some, ap, ◌∙◌, Option, [], ◌-◌, ◌∷◌, ◌+◌, ◌^◌, ◌<◌, ◌++◌, length, Ok, codes, sym, append-nil, ap₂, is_none, unwrap_or}
use Rattle.std.proofs.lemmas.Bool.Decides.{nat_tests}
use Rattle.std.specs.FinMap as fin
use Rattle.jf_path.specs.Checks.{first_of}
use Rattle.jf_hash.specs.Roots.{root}
use Rattle.jf_hash.specs.Maps.{Map, IsMap}
use Rattle.jf_hash.specs.Hashes.{K}
use Rattle.jf_model.specs.States.{State}
use Rattle.jf_model.specs.Versions.{IsVersions}
use Rattle.jf_model.proofs.VersionLaws.{newest-IsMap, root-IsKey, place-IsMap}
use Rattle.jf_io.specs.Lines.{lines}
use Rattle.jf_io.proofs.EndedLines.{lines-none}
use Rattle.jf_evidence.specs.Proofs.{honest}
use Rattle.jf_evidence.specs.Laws.{HonestClaimsAreAccepted}
use Rattle.jf_evidence.proofs.ProofLaws.{honest-short}
use Rattle.jf_text.specs.Words.{is_long}
use Rattle.jf_script.specs.declared.command.Base.{Base}
use Rattle.jf_script.specs.Commands.{command_of}
use Rattle.jf_script.specs.declared.command.Command.{Command}
use Rattle.jf_script.specs.Replies.{reply_text}
use Rattle.jf_script.specs.declared.command.Base.TheVariants as base
use Rattle.jf_script.specs.declared.command.Question.{Question}
use Rattle.jf_script.specs.declared.command.Question.TheVariants as question
use Rattle.jf_script.specs.declared.command.Command.TheVariants as command
use Rattle.jf_script.specs.declared.reply.Reply.TheVariants as reply
use Rattle.jf_blocks.specs.Blocks.{proof_lines}
use Rattle.jf_blocks.specs.Reading.{proof_block}
use Rattle.jf_blocks.specs.Laws.{BlocksAreReadBack, RepliesBeginBlocks, RepliesSetRoots}
use Rattle.jf_verify.specs.Verdicts.{verdicts}
use Rattle.jf_answers.specs.Own.{Own, version_pinned_at}
use Rattle.jf_answers.specs.Refusals.{refused_by, base_map, question_causes}
use Rattle.jf_answers.specs.Answers.{answer, answer_to, too_long, Answer, read_answer}
use Rattle.jf_answers.specs.Runs.{answer_text}
use Rattle.jf_answers.proofs.AnswerLaws.{unrefused}
use Rattle.jf_client.specs.Laws.{IsKeptBase, FitsLine, HonestRepliesAreAccepted}
use Rattle.jf_client.proofs.Told.{hash_of_key, honest-told}
use Rattle.jf_client.proofs.Judged.{verdicts-of_one}

-- ---- the answers to the two lines
-- a read of a kept base is refused only for what its question says of the map
kept_read : (s : State) (own : Own) (on : Base) (q : Question) → IsKeptBase s own on → first_of (question_causes q (base_map s own on)) ≡ None → refused_by s own (command.Read on q) ≡ None
unfolding refused_by
kept_read s own base.Head q kept free = free
kept_read s own (base.Version w) q kept free =
    let low = kept.0 in
    let high = kept.1 in
    let there : nat_lt s.all.head w ≡ false = grind (arith, nat_tests) in
    let live : nat_lt w s.retired ≡ false = grind (arith, nat_tests) in
    rw (there, live) free
kept_read s own (base.Place place) q kept free =
    let held : is_none (version_pinned_at own place) ≡ false = ap (λ (o : Option ℕ). is_none o) kept.1 in
    rw held free

pub answered : (s : State) (own : Own) (line : List ℕ) (c : Command) → is_long line ≡ false → command_of line ≡ Some c → answer s own line ≡ answer_to (Some c) s own
unfolding answer
answered s own line c short read = ap (λ b. cond b (too_long s own) (answer_to (command_of line) s own)) short ∙ ap (λ o. answer_to o s own) read

-- a question that its map doesn't refuse is answered
pub question_to : (s : State) (own : Own) (on : Base) (q : Question) → IsKeptBase s own on → first_of (question_causes q (base_map s own on)) ≡ None
    → answer_to (Some (command.Read on q)) s own ≡ read_answer q (base_map s own on) s own
question_to s own on q kept free = unrefused s own (command.Read on q) (kept_read s own on q kept free)

-- ---- the maps of versions
base-IsMap : (s : State) (own : Own) (on : Base) → IsVersions s.all → IsKeptBase s own on → IsMap (base_map s own on)
base-IsMap s own base.Head sound kept = newest-IsMap s.all sound
base-IsMap s own (base.Version w) sound kept = place-IsMap (s.all.head - w) s.all.maps sound.sound
base-IsMap s own (base.Place place) sound kept = place-IsMap (s.all.head - unwrap_or (version_pinned_at own place) 0) s.all.maps sound.sound

-- ---- the two replies
module _ (back : BlocksAreReadBack) (begins : RepliesBeginBlocks) (sets : RepliesSetRoots) (accepted : HonestClaimsAreAccepted) where
  -- the replies over any map
  map_replies : (m : Map) (name : List ℕ) (a b : ℕ) → IsMap m → FitsLine name (fin.get m (K name)) → a < 2 ^ 64 → b < 2 ^ 64
      → verdicts (reply_text a (reply.Root (root m)) ++ (reply_text b (reply.Proof (length (honest m (K name)).siblings)) ++ proof_lines name (fin.get m (K name)) (honest m (K name)))) ≡ codes "accepted\n"
  map_replies m name a b is_map fits small small' =
      let claim = fin.get m (K name) in
      let proof = honest m (K name) in
      let k = length proof.siblings in
      let block = proof_lines name claim proof in
      let more = reply_text b (reply.Proof k) ++ block in
      let one = sets a (root m) more small (hash_of_key (root m) (root-IsKey m)) in
      let two = begins b k block small' (omega (arith, honest-short m (K name))) in
      verdicts-of_one (reply_text a (reply.Root (root m)) ++ more) one.0 two.0 (lines block) (root m) k name claim proof (3 + 3 + k)
      (one.1 ∙ ap (λ ls. one.0 ∷ ls) two.1) one.2 two.2
      (ap (λ t. proof_block k (record { at = 3; left = lines t })) (sym (append-nil block)) ∙ back name claim proof 3 [] (honest-told m name is_map fits)
      ∙ ap (λ ls. Ok ((name, claim, proof), record { at = 3 + 3 + k; left = ls })) lines-none)
      (accepted m (K name) is_map)

  pub replies-accepted : HonestRepliesAreAccepted
  replies-accepted s own on name root_line prove_line m n sound kept fits asks small small' =
      let at_root = answered s own root_line (command.Read on question.Root) asks.root_short asks.root_is ∙ question_to s own on question.Root kept refl in
      let at_prove = answered s own prove_line (command.Read on (question.Prove name)) asks.prove_short asks.prove_is ∙ question_to s own on (question.Prove name) kept refl in
      let r = reply_text m (reply.Root (root (base_map s own on))) in
      ap₂ (λ (x y : Answer). verdicts (answer_text m x ++ answer_text n y)) at_root at_prove
      ∙ ap (λ t. verdicts (t ++ answer_text n (read_answer (question.Prove name) (base_map s own on) s own))) (append-nil r)
      ∙ map_replies (base_map s own on) name m n (base-IsMap s own on sound kept) fits small small'
