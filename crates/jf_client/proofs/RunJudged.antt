-- All that a session was answered, judged as it is.
use Rattle.std.specs.Prelude.{unwrap_or}
use Rattle.std.specs.List.{AllByRecursion}
use Rattle.std.proofs.Common.{◌≡◌, inl, inr, ℕ, zero, suc, ◌+◌, ◌-◌, ◌^◌, ◌<◌, ◌≤◌, List, [], ◌∷◌, ◌++◌, length, drop, flat_map, Option, IfSome, Some, None, Ok, codes, refl, sym, ap, ap₂, ◌∙◌, subst, arith, append_assoc, append-nil, length-append}
use Rattle.std.specs.FinMap as fin
use Rattle.jf_hash.specs.Hashes.{K}
use Rattle.jf_hash.specs.Maps.{Map, IsMap}
use Rattle.jf_hash.specs.Roots.{root}
use Rattle.jf_model.specs.States.{State}
use Rattle.jf_model.specs.Versions.{newest}
use Rattle.jf_model.specs.Forks.{fork_map}
use Rattle.jf_model.proofs.VersionLaws.{root-IsKey}
use Rattle.jf_io.specs.Lines.{lines}
use Rattle.jf_io.proofs.EndedLines.{lines-none}
use Rattle.jf_evidence.specs.Proofs.{honest}
use Rattle.jf_evidence.specs.Laws.{HonestClaimsAreAccepted}
use Rattle.jf_evidence.specs.declared.proof.Proof.{Proof}
use Rattle.jf_evidence.proofs.ProofLaws.{honest-short}
use Rattle.jf_script.specs.Replies.{reply_text}
use Rattle.jf_script.specs.declared.command.Question.{Question}
use Rattle.jf_script.specs.declared.command.Question.TheVariants as question
use Rattle.jf_script.specs.declared.command.Command.{Command}
use Rattle.jf_script.specs.declared.command.Command.TheVariants as command
use Rattle.jf_script.specs.declared.reply.Reply.TheVariants as reply
use Rattle.jf_blocks.specs.Blocks.{proof_lines}
use Rattle.jf_blocks.specs.Reading.{LinePlace, line_read, first_line_of, proof_block}
use Rattle.jf_blocks.specs.Laws.{BlocksAreReadBack, RepliesBeginBlocks, RepliesSetRoots}
use Rattle.jf_blocks.proofs.Bounds.{IsCounted, proof_block-counted}
use Rattle.jf_blocks.specs.declared.first.FirstLine.TheVariants as first
use Rattle.jf_verify.specs.Verdicts.{Judging, say, syntax_text, verdicts_from, verdicts, judged_of, nothing_known}
use Rattle.jf_verify.specs.declared.accepted.Accepted.{Accepted}
use Rattle.jf_answers.specs.Own.{Own}
use Rattle.jf_answers.specs.Refusals.{base_map}
use Rattle.jf_answers.specs.Answers.{Answer, granted_answer, own_answer, read_answer}
use Rattle.jf_answers.specs.Runs.{answer_text}
use Rattle.jf_answers.proofs.AnswerLaws.{unrefused}
use Rattle.jf_client.specs.RunLaws.{LineInState, answer_heard, text_heard, verdict_with_block, syntax_lines, judged_from, question_in, map_in, Asks, AsksRoot, AsksProof, IsOther, AreHeardOn, IsAskedOf, WholeRunsAreJudged}
use Rattle.jf_client.proofs.Told.{hash_of_key, honest-told}
use Rattle.jf_client.proofs.Judged.{root_step, block_step, end_step, knows}
use Rattle.jf_client.proofs.Replies.{answered}
use Rattle.jf_client.proofs.OtherLines.{IsNoFirst, other_lines_of}
use Rattle.jf_client.proofs.HonestClaims.{IsOf, all_more, judged-honest}

-- ---- such lines, judged
syntax_step : (n at : ℕ) (j : Judging) (line : List ℕ) (ls : List (List ℕ)) → IsNoFirst line
    → verdicts_from (suc n) j (record { at = at; left = line ∷ ls }) ≡ syntax_text at ++ verdicts_from n j (record { at = at + 1; left = ls })
unfolding verdicts_from
syntax_step n at j line ls none =
    let one : at + 1 - at ≡ 1 = omega arith in
    ap (λ o. let s = say j (record { at = at; left = line ∷ ls }) (record { at = at + 1; left = ls }) o in s.text ++ verdicts_from n s.known s.place) none
    ∙ ap (λ k. syntax_text at ++ verdicts_from n j (record { at = at + 1; left = drop k (line ∷ ls) })) one

syntax_steps : (n at : ℕ) (j : Judging) (xs ls : List (List ℕ)) → AllByRecursion IsNoFirst xs
    → verdicts_from (length xs + n) j (record { at = at; left = xs ++ ls }) ≡ syntax_lines at (length xs) ++ verdicts_from n j (record { at = at + length xs; left = ls })
syntax_steps n at j [] ls none = ap₂ (λ f k. verdicts_from f j (record { at = k; left = ls })) (let e : 0 + n ≡ n = omega arith in e) (let e : at ≡ at + 0 = omega arith in e)
syntax_steps n at j (x ∷ xs) ls none =
    ap (λ f. verdicts_from f j (record { at = at; left = x ∷ xs ++ ls })) (let e : length (x ∷ xs) + n ≡ suc (length xs + n) = omega arith in e)
    ∙ syntax_step (length xs + n) at j x (xs ++ ls) none.0
    ∙ ap (λ t. syntax_text at ++ t) (syntax_steps n (at + 1) j xs ls none.1)
    ∙ ap (λ k. syntax_text at ++ (syntax_lines (at + 1) (length xs) ++ verdicts_from n j (record { at = k; left = ls }))) (let e : at + 1 + length xs ≡ at + length (x ∷ xs) = omega arith in e)
    ∙ sym (append_assoc (syntax_text at) (syntax_lines (at + 1) (length xs)) (verdicts_from n j (record { at = at + length (x ∷ xs); left = ls })))

-- a read that nothing refuses
granted-read : (c : Command) (q : Question) (s : State) (own : Own) → question_in c ≡ Some q → granted_answer c s own ≡ read_answer q (map_in s own c) s own
granted-read (command.Own c) q s own e = absurd (cc)
granted-read (command.Read on p) q s own e = ap (λ (o : Option Question). read_answer (unwrap_or o q) (base_map s own on) s own) e
granted-read (command.ReadFork id p) q s own e = ap (λ (o : Option Question). read_answer (unwrap_or o q) (fork_map (newest s.all) s.forks id) s own) e
granted-read command.Look q s own e = absurd (cc)
granted-read (command.Pin version) q s own e = absurd (cc)
granted-read (command.Change c) q s own e = absurd (cc)

-- the answer to a line that asks a question
pub answer_asked : (q : Question) (m : Map) (h : LineInState) → Asks q m h → answer_heard h ≡ read_answer q m h.state h.own
answer_asked q m h a =
    answered h.state h.own h.line a.read a.short a.is ∙ unrefused h.state h.own a.read a.granted ∙ granted-read a.read q h.state h.own a.reads
    ∙ ap (λ (w : Map). read_answer q w h.state h.own) a.map_is

-- ---- all replies
-- `asked` holds of the maps whose roots all lines ask for, those judged before included
module _ (back : BlocksAreReadBack) (begins : RepliesBeginBlocks) (sets : RepliesSetRoots) (accepted : HonestClaimsAreAccepted) (asked : Map → Type 0)
    (one_map : (m m' : Map) → asked m → asked m' → root m ≡ root m' → m ≡ m') where
  root_text : (m : Map) (h : LineInState) → AsksRoot m h → answer_heard h ≡ own_answer (reply.Root (root m)) h.state h.own
  root_text m h a = answer_asked question.Root m h a.asks

  proof_text : (m : Map) (h : LineInState) (a : AsksProof m h) → answer_heard h ≡ read_answer (question.Prove a.name) m h.state h.own
  proof_text m h a = answer_asked (question.Prove a.name) m h a.asks

  -- this map's root is set, and was asked for
  record IsSet (j : Judging) (m : Map) : Type 0 where
    root_is : j.root ≡ Some (root m)
    is_map : IsMap m
    among : asked m

  -- what is known after some replies
  record Knows (last : Option Map) (j : Judging) : Type 0 where
    set : IfSome last (IsSet j)
    claims : AllByRecursion (IsOf asked) j.claims

  abbrev texts : List LineInState → List ℕ
  texts hs = flat_map text_heard hs

  abbrev Goal : List LineInState → Type 0
  Goal hs = (last : Option Map) (n at : ℕ) (j : Judging) → AreHeardOn last hs → Knows last j → length (lines (texts hs)) ≤ n → verdicts_from n j (record { at = at; left = lines (texts hs) }) ≡ judged_from at hs

  -- all maps whose roots these lines ask for are among the maps
  abbrev AreAmong : List LineInState → Type 0
  AreAmong hs = (m : Map) → IsAskedOf hs m → asked m

  -- from a text of so many lines, and what is returned for it
  told_more : (h : LineInState) (hs : List LineInState) (at many : ℕ) (told text : List ℕ) → many ≡ length (lines (text_heard h)) → unwrap_or (verdict_with_block (answer_heard h).reply) (syntax_lines at (length (lines (text_heard h)))) ≡ told → text ≡ judged_from (at + many) hs
      → told ++ text ≡ judged_from at (h ∷ hs)
  told_more h hs at many told text many_is told_is later = ap₂ (λ (t u : List ℕ). t ++ u) (sym told_is) (later ∙ ap (λ k. judged_from (at + k) hs) many_is)

  -- the lines of a text by itself
  lines_alone : (h : LineInState) (xs : List (List ℕ)) → ((rest : List ℕ) → lines (text_heard h ++ rest) ≡ xs ++ lines rest) → length xs ≡ length (lines (text_heard h))
  lines_alone h xs whole = sym (ap length (ap lines (sym (append-nil (text_heard h))) ∙ whole [] ∙ ap (λ (ls : List (List ℕ)). xs ++ ls) lines-none ∙ append-nil xs))

  -- ---- a root
  root_lines : (m : Map) (h : LineInState) → h.number < 2 ^ 64 → AsksRoot m h → (rest : List ℕ) → (line : List ℕ) × (lines (text_heard h ++ rest) ≡ line ∷ lines rest) × (line_read first_line_of line ≡ Some (first.Root (root m)))
  root_lines m h small a rest =
      let one = sets h.number (root m) rest small (hash_of_key (root m) (root-IsKey m)) in
      (one.0, ap (λ (x : Answer). lines (answer_text h.number x ++ rest)) (root_text m h a) ∙ ap (λ (t : List ℕ). lines (t ++ rest)) (append-nil (reply_text h.number (reply.Root (root m)))) ∙ one.1, one.2)

  root_first : (m : Map) (h : LineInState) (hs : List LineInState) → Goal hs → h.number < 2 ^ 64 → AsksRoot m h → asked m → AreHeardOn (Some m) hs → (n at : ℕ) (j : Judging) → AllByRecursion (IsOf asked) j.claims → length (lines (texts (h ∷ hs))) ≤ n
      → verdicts_from n j (record { at = at; left = lines (texts (h ∷ hs)) }) ≡ judged_from at (h ∷ hs)
  root_first m h hs later small a among more zero at j claims enough = let one = root_lines m h small a (texts hs) in let many = ap length one.1 in absurd (omega arith)
  root_first m h hs later small a among more (suc n) at j claims enough =
      let one = root_lines m h small a (texts hs) in
      let alone = root_lines m h small a [] in
      let many = ap length one.1 in
      let single : 1 ≡ length (lines (text_heard h)) = sym (ap length (ap lines (sym (append-nil (text_heard h))) ∙ alone.1 ∙ ap (λ (ls : List (List ℕ)). alone.0 ∷ ls) lines-none)) in
      ap (λ (ls : List (List ℕ)). verdicts_from (suc n) j (record { at = at; left = ls })) one.1
      ∙ root_step n at j one.0 (lines (texts hs)) (root m) one.2
      ∙ told_more h hs at 1 [] (verdicts_from n (record { root = Some (root m); claims = j.claims }) (record { at = at + 1; left = lines (texts hs) })) single
      (ap (λ (x : Answer). unwrap_or (verdict_with_block x.reply) (syntax_lines at (length (lines (text_heard h))))) (root_text m h a))
      (later (Some m) n (at + 1) (record { root = Some (root m); claims = j.claims }) more (record { set = record { root_is = refl; is_map = a.sound; among = among }; claims = claims }) (omega arith))

  -- ---- another reply
  other_reply : (h : LineInState) (hs : List LineInState) → Goal hs → h.number < 2 ^ 64 → IsOther h → (last : Option Map) → AreHeardOn last hs → (n at : ℕ) (j : Judging) → Knows last j → length (lines (texts (h ∷ hs))) ≤ n
      → verdicts_from n j (record { at = at; left = lines (texts (h ∷ hs)) }) ≡ judged_from at (h ∷ hs)
  other_reply h hs later small o last more n at j known enough =
      let of = other_lines_of h small o in
      let xs : List (List ℕ) = of.0 in
      let all : lines (texts (h ∷ hs)) ≡ xs ++ lines (texts hs) = of.1.whole (texts hs) in
      let many : length (lines (texts (h ∷ hs))) ≡ length xs + length (lines (texts hs)) = ap length all ∙ length-append xs (lines (texts hs)) in
      let k : ℕ = n - length xs in
      let fuel : n ≡ length xs + k = omega arith in
      let single : length xs ≡ length (lines (text_heard h)) = lines_alone h xs of.1.whole in
      ap₂ (λ (f : ℕ) (ls : List (List ℕ)). verdicts_from f j (record { at = at; left = ls })) fuel all
      ∙ syntax_steps k at j xs (lines (texts hs)) of.1.none
      ∙ told_more h hs at (length xs) (syntax_lines at (length xs)) (verdicts_from k j (record { at = at + length xs; left = lines (texts hs) })) single
      (ap (λ (r : Option (List ℕ)). unwrap_or r (syntax_lines at (length (lines (text_heard h))))) o.unjudged ∙ ap (syntax_lines at) (sym single))
      (later last k (at + length xs) j more known (omega arith))

  -- ---- a proof
  module _ (m : Map) (h : LineInState) (small : h.number < 2 ^ 64) (a : AsksProof m h) (is_map : IsMap m) where
    abbrev claim : Option (List ℕ)
    claim = fin.get m (K a.name)

    abbrev proof : Proof
    proof = honest m (K a.name)

    abbrev k : ℕ
    k = length proof.siblings

    abbrev block : List ℕ
    block = proof_lines a.name claim proof

    proof_first : (rest : List ℕ) → (line : List ℕ) × (lines (text_heard h ++ rest) ≡ line ∷ lines (block ++ rest)) × (line_read first_line_of line ≡ Some (first.Proof k))
    proof_first rest =
        let one = begins h.number k (block ++ rest) small (omega (arith, honest-short m (K a.name))) in
        (one.0, ap (λ (x : Answer). lines (answer_text h.number x ++ rest)) (proof_text m h a) ∙ ap lines (append_assoc (reply_text h.number (reply.Proof k)) block rest) ∙ one.1, one.2)

    block_read : (at : ℕ) (rest : List ℕ) → proof_block k (record { at = at; left = lines (block ++ rest) }) ≡ Ok ((a.name, claim, proof), record { at = at + 3 + k; left = lines rest })
    block_read at rest = back a.name claim proof at rest (honest-told m a.name is_map a.fits)

    block_counted : (at : ℕ) (rest : List ℕ) → at + 3 + k + length (lines rest) ≡ at + length (lines (block ++ rest))
    block_counted at rest = (subst (IsCounted (record { at = at; left = lines (block ++ rest) })) (block_read at rest) (proof_block-counted k (record { at = at; left = lines (block ++ rest) }))).1

    -- its own lines
    proof_alone : 4 + k ≡ length (lines (text_heard h))
    proof_alone =
        let alone = proof_first [] in
        let counted = block_counted 0 [] in
        let none = ap length lines-none in
        let own : length (lines (text_heard h)) ≡ suc (length (lines (block ++ []))) = ap length (ap lines (sym (append-nil (text_heard h))) ∙ alone.1) in
        omega arith

    proof_reply : (hs : List LineInState) → Goal hs → (last : Option Map) → last ≡ Some m → asked m → AreHeardOn last hs → (n at : ℕ) (j : Judging) → j.root ≡ Some (root m) → AllByRecursion (IsOf asked) j.claims → length (lines (texts (h ∷ hs))) ≤ n
        → verdicts_from n j (record { at = at; left = lines (texts (h ∷ hs)) }) ≡ judged_from at (h ∷ hs)
    proof_reply hs later last is among more zero at j rooted claims enough = let one = proof_first (texts hs) in let many = ap length one.1 in absurd (omega arith)
    proof_reply hs later last is among more (suc n) at j rooted claims enough =
        let rest = texts hs in
        let one = proof_first rest in
        let many = ap length one.1 in
        let counted = block_counted 0 rest in
        let place : LinePlace = record { at = at + 1 + 3 + k; left = lines rest } in
        let x : Accepted = record { root = root m; judged = judged_of (a.name, claim, proof) } in
        let next : Judging = knows (root m) (j.claims ++ x ∷ []) in
        let here = judged-honest asked one_map m j.claims (judged_of (a.name, claim, proof)) among (accepted m (K a.name) is_map) refl claims in
        ap₂ (λ (r : Option (List ℕ)) (ls : List (List ℕ)). verdicts_from (suc n) (record { root = r; claims = j.claims }) (record { at = at; left = ls })) rooted one.1
        ∙ block_step n at (root m) j.claims one.0 (lines (block ++ rest)) k a.name claim proof place one.2 (block_read (at + 1) rest)
        ∙ ap (λ (p : List ℕ × List Accepted). p.0 ++ verdicts_from n (knows (root m) p.1) place) here
        ∙ ap (λ q. codes "accepted\n" ++ verdicts_from n next (record { at = q; left = lines rest })) (let e : at + 1 + 3 + k ≡ at + (4 + k) = omega arith in e)
        ∙ told_more h hs at (4 + k) (codes "accepted\n") (verdicts_from n next (record { at = at + (4 + k); left = lines rest })) proof_alone
        (ap (λ (y : Answer). unwrap_or (verdict_with_block y.reply) (syntax_lines at (length (lines (text_heard h))))) (proof_text m h a))
        (later last n (at + (4 + k)) next more
        (record { set = subst (λ (o : Option Map). IfSome o (IsSet next)) (sym is) (record { root_is = refl; is_map = is_map; among = among }); claims = all_more (IsOf asked) j.claims x claims (m, among, refl, refl) })
        (omega arith))

  -- ---- all of them
  all_judged : (hs : List LineInState) → AreAmong hs → Goal hs
  all_judged [] among last n at j heard known enough = ap (λ (ls : List (List ℕ)). verdicts_from n j (record { at = at; left = ls })) lines-none ∙ end_step n j at
  all_judged (h ∷ hs) among last n at j heard known enough =
      let later : Goal hs = all_judged hs (λ m is. among m (inr is)) in
      elim heard.1 as (λ x. verdicts_from n j (record { at = at; left = lines (texts (h ∷ hs)) }) ≡ judged_from at (h ∷ hs)) [
        | inl r ↦ root_first r.0 h hs later heard.0 r.1 (among r.0 (inl r.1)) r.2 n at j known.claims enough
        | inr x ↦ elim x as (λ y. verdicts_from n j (record { at = at; left = lines (texts (h ∷ hs)) }) ≡ judged_from at (h ∷ hs)) [
          | inl p ↦
              let set : IsSet j p.0 = subst (λ (o : Option Map). IfSome o (IsSet j)) p.1 known.set in
              proof_reply p.0 h heard.0 p.2 set.is_map hs later last p.1 set.among p.3 n at j set.root_is known.claims enough
          | inr o ↦ other_reply h hs later heard.0 o.0 last o.1 n at j known enough
        ]
      ]

pub runs-judged : BlocksAreReadBack → RepliesBeginBlocks → RepliesSetRoots → HonestClaimsAreAccepted → WholeRunsAreJudged
unfolding verdicts
runs-judged back begins sets accepted hs one_map heard =
    all_judged back begins sets accepted (IsAskedOf hs) one_map hs (λ m is. is) None (length (lines (flat_map text_heard hs))) 1 nothing_known heard (record { set = tt; claims = tt }) (omega arith)
