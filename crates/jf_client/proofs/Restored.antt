-- The replies to `chunk`, and what they restore.
use Rattle.std.proofs.Common.{◌≡◌, ℕ, zero, suc, ◌+◌, ◌-◌, ◌^◌, ◌<◌, ◌≤◌, ◌==◌, nat_le, nat_lt, bytes_eq, true, false, cond, List, [], ◌∷◌, ◌++◌, length, take, drop, Option, Some, None, Result, Ok, Err, refl, sym, ap, ◌∙◌, subst, arith, append_assoc, length-take, take_all}
use Rattle.std.proofs.lemmas.Bool.Decides.{nat_tests}
use Rattle.std.proofs.lemmas.Slice.Eq.{bytes_eq-Decides}
use Rattle.std.specs.FinMap as fin
use Rattle.std.specs.FinMap.{entries, len}
use Rattle.std.specs.List.{AllByRecursion}
use Rattle.jf_path.specs.Keys.{IsKey, bit}
use Rattle.jf_path.specs.Limits.{max_value}
use Rattle.jf_path.proofs.ListLaws.{all_take, all_drop}
use Rattle.jf_hash.specs.Maps.{Map, IsMap}
use Rattle.jf_hash.specs.Roots.{root, part_root}
use Rattle.jf_hash.proofs.RootLaws.{root-part_root}
use Rattle.jf_io.specs.Lines.{lines}
use Rattle.jf_io.proofs.EndedLines.{lines-none}
use Rattle.jf_evidence.specs.Ranges.{Entries, chunk_entries, honest_chunk, right_siblings, last_key}
use Rattle.jf_evidence.specs.Proofs.{honest}
use Rattle.jf_evidence.specs.declared.range_proof.RangeFault.{RangeFault}
use Rattle.jf_evidence.specs.declared.range_proof.RangeProof.{RangeProof}
use Rattle.jf_evidence.specs.Laws.{HonestChunksAreAccepted, HonestChunksGoOn}
use Rattle.jf_evidence.proofs.ProofLaws.{honest-short}
use Rattle.jf_script.specs.declared.command.Question.TheVariants as question
use Rattle.jf_script.specs.declared.command.Command.TheVariants as command
use Rattle.jf_script.specs.declared.reply.Reply.TheVariants as reply
use Rattle.jf_script.specs.Replies.{reply_text}
use Rattle.jf_blocks.specs.Blocks.{chunk_lines}
use Rattle.jf_blocks.specs.Reading.{ReadResult, Chunk, LinePlace, and_then, one_line_read, line_read, chunk_of, chunk_body}
use Rattle.jf_blocks.specs.Laws.{IsHash, IsChunkBlock, ChunksAreReadBack, RepliesBeginChunks, head}
use Rattle.jf_blocks.specs.declared.chunk.ChunkHead.{ChunkHead}
use Rattle.jf_blocks.proofs.Bounds.{IsCounted, chunk_body-counted}
use Rattle.hex.specs.Hex.{IsBytes}
use Rattle.jf_receive.specs.Chunks.{chunks_from, accepted_chunk}
use Rattle.jf_receive.specs.declared.fault.BlockFault.{BlockFault}
use Rattle.jf_receive.specs.declared.fault.BlockFault.TheVariants as block_fault
use Rattle.jf_receive.specs.Restored.{restore_result, restored_entries, of_block}
use Rattle.jf_receive.specs.declared.received.RestoreFault.{RestoreFault}
use Rattle.jf_answers.specs.Refusals.{base_map}
use Rattle.jf_answers.specs.Answers.{answer, Answer, read_answer}
use Rattle.jf_answers.specs.Runs.{answer_text}
use Rattle.jf_client.specs.ChunkLaws.{ChunkLine, AsksChunk, AskInTurn, chunk_replies, HonestChunksAreRestored}
use Rattle.jf_client.proofs.Told.{hash_of_key, byte-at, honest-hashes}
use Rattle.jf_client.proofs.Replies.{answered, question_to}

-- ---- what a block holds
entries-fit : (es : Entries) → AllByRecursion (λ e. IsKey e.0 × AllByRecursion (λ b. b < 256) e.1) es → AllByRecursion (λ e. length e.1 ≤ max_value) es → AllByRecursion (λ e. IsHash e.0 × IsBytes e.1 × (length e.1 ≤ max_value)) es
entries-fit [] keys small = tt
entries-fit (e ∷ es) keys small = ((hash_of_key e.0 keys.0.0, (λ i. byte-at e.1 i keys.0.1), small.0), entries-fit es keys.1 small.1)

right-hashes : (key : List ℕ) (hs : List (List ℕ)) → AllByRecursion IsHash hs → AllByRecursion IsHash (right_siblings key hs)
unfolding right_siblings
right-hashes key [] all = tt
right-hashes key (h ∷ hs) all =
    elim (bit key (length hs)) as (λ b. AllByRecursion IsHash (cond b (right_siblings key hs) (h ∷ right_siblings key hs))) [ true ↦ right-hashes key hs all.1 | false ↦ (all.0, right-hashes key hs all.1) ]

right-fewer : (key : List ℕ) (hs : List (List ℕ)) → length (right_siblings key hs) ≤ length hs
unfolding right_siblings
right-fewer key [] = omega arith
right-fewer key (h ∷ hs) =
    let less = right-fewer key hs in
    elim (bit key (length hs)) as (λ b. length (cond b (right_siblings key hs) (h ∷ right_siblings key hs)) ≤ length (h ∷ hs)) [ true ↦ omega arith | false ↦ omega arith ]

module _ (m : Map) (start count : ℕ) where
  abbrev es : Entries
  es = chunk_entries m start count

  abbrev proof : RangeProof
  proof = honest_chunk m start count

  block-fits : IsMap m → AllByRecursion (λ e. length e.1 ≤ max_value) (entries m) → IsChunkBlock es proof
  unfolding honest_chunk
  block-fits is_map small = record {
    entries = all_take _ count (drop start (entries m)) (all_drop _ start (entries m) (entries-fit (entries m) is_map small));
    siblings = right-hashes (last_key es) (honest m (last_key es)).siblings (honest-hashes m (last_key es));
  }

  deep : proof.depth ≤ 256
  unfolding honest_chunk
  deep = honest-short m (last_key es)

  wide : length proof.siblings ≤ 256
  unfolding honest_chunk
  wide = let low = honest-short m (last_key es) in let less = right-fewer (last_key es) (honest m (last_key es)).siblings in omega arith

  few : length es ≤ count
  few = omega (arith, length-take count (drop start (entries m)))

-- ---- the answer to a line
not_far : (m : Map) (start : ℕ) → start < length (entries m) → nat_le (len m) start ≡ false
not_far m start within = let many = fin.len-entries m in grind (arith, nat_tests)

chunk_to : (m : Map) (start : ℕ) (c : ChunkLine) → AsksChunk m start c → answer c.state c.own c.line ≡ read_answer (question.Chunk start c.count) m c.state c.own
chunk_to m start c asks =
    let near : nat_le (len (base_map c.state c.own c.on)) start ≡ false = ap (λ (w : Map). nat_le (len w) start) asks.map_is ∙ not_far m start asks.within in
    answered c.state c.own c.line (command.Read c.on (question.Chunk start c.count)) asks.short asks.is
    ∙ question_to c.state c.own c.on (question.Chunk start c.count) asks.kept (rw near refl)
    ∙ ap (λ (w : Map). read_answer (question.Chunk start c.count) w c.state c.own) asks.map_is

-- ---- the replies
module _ (back : ChunksAreReadBack) (begins : RepliesBeginChunks) (accepted : HonestChunksAreAccepted) (goes_on : HonestChunksGoOn) (m : Map) (is_map : IsMap m) (small : AllByRecursion (λ e. length e.1 ≤ max_value) (entries m)) where
  -- a block more, and lines after it
  module _ (number start count : ℕ) (rest : List ℕ) (number_fits : number < 2 ^ 64) (within : start < length (entries m)) (least : 1 ≤ count) (most : count ≤ 1000) where
    abbrev block : List ℕ
    block = chunk_lines (es m start count) (proof m start count)

    abbrev text : List ℕ
    text = reply_text number (reply.Chunk (length (es m start count)) (proof m start count).depth (length (proof m start count).siblings)) ++ (block ++ rest)

    first : (line : List ℕ) × (lines text ≡ line ∷ lines (block ++ rest)) × (line_read chunk_of line ≡ Some (head (es m start count) (proof m start count)))
    first =
        let low = deep m start count in let less = wide m start count in let fewer = few m start count in
        begins number (length (es m start count)) (proof m start count).depth (length (proof m start count).siblings) (block ++ rest) number_fits (omega arith) (omega arith) (omega arith)

    read : (at : ℕ) → chunk_body (head (es m start count) (proof m start count)) (record { at = at; left = lines (block ++ rest) })
        ≡ Ok ((es m start count, proof m start count), record { at = at + length (es m start count) + length (proof m start count).siblings; left = lines rest })
    read at = back (es m start count) (proof m start count) at rest (block-fits m start count is_map small)

    fewer_left : length (lines rest) ≤ length (lines (block ++ rest))
    fewer_left =
        let counted = subst (IsCounted (record { at = 0; left = lines (block ++ rest) })) (read 0) (chunk_body-counted (head (es m start count) (proof m start count)) (record { at = 0; left = lines (block ++ rest) })) in
        let same = counted.1 in
        omega arith

    -- the lines of a reply are read as its block, which is accepted
    block_taken : (n at : ℕ) → chunks_from (suc n) (root m) (take start (entries m)) (record { at = at; left = lines text })
        ≡ chunks_from n (root m) (take (start + count) (entries m)) (record { at = at + 1 + length (es m start count) + length (proof m start count).siblings; left = lines rest })
    unfolding chunks_from
    block_taken n at =
        let known : Entries = take start (entries m) in
        let after : LinePlace = record { at = at + 1 + length (es m start count) + length (proof m start count).siblings; left = lines rest } in
        let goes : Entries → Result Entries BlockFault = λ all. chunks_from n (root m) all after in
        ap (λ (ls : List (List ℕ)). chunks_from (suc n) (root m) known (record { at = at; left = ls })) first.1
        ∙ ap (λ (o : Option ChunkHead). elim (and_then (one_line_read at (lines (block ++ rest)) o) chunk_body) as (λ x. Result Entries BlockFault) [
          | Err e ↦ Err (block_fault.Line e)
          | Ok b ↦ elim (accepted_chunk (root m) at known b.0) as (λ x. Result Entries BlockFault) [ Err why ↦ Err why | Ok all ↦ chunks_from n (root m) all b.1 ]
        ]) first.2
        ∙ ap (λ (r : ReadResult Chunk). elim r as (λ x. Result Entries BlockFault) [
          | Err e ↦ Err (block_fault.Line e)
          | Ok b ↦ elim (accepted_chunk (root m) at known b.0) as (λ x. Result Entries BlockFault) [ Err why ↦ Err why | Ok all ↦ chunks_from n (root m) all b.1 ]
        ]) (read (at + 1))
        ∙ ap (λ (o : Option RangeFault). elim (elim o as (λ x. Result Entries BlockFault) [ None ↦ Ok (known ++ es m start count) | Some why ↦ Err (block_fault.Chunk at why) ]) as (λ x. Result Entries BlockFault) [ Err why ↦ Err why | Ok all ↦ goes all ]) (accepted m start count is_map within least)
        ∙ ap goes (goes_on m start count)

  -- the text of the first reply, and of those after it
  reply_is : (start : ℕ) (c : ChunkLine) (rest : List ℕ) → AsksChunk m start c → answer_text c.number (answer c.state c.own c.line) ++ rest
      ≡ reply_text c.number (reply.Chunk (length (es m start c.count)) (proof m start c.count).depth (length (proof m start c.count).siblings)) ++ (chunk_lines (es m start c.count) (proof m start c.count) ++ rest)
  reply_is start c rest asks =
      ap (λ (a : Answer). answer_text c.number a ++ rest) (chunk_to m start c asks)
      ∙ append_assoc (reply_text c.number (reply.Chunk (length (es m start c.count)) (proof m start c.count).depth (length (proof m start c.count).siblings))) (chunk_lines (es m start c.count) (proof m start c.count)) rest

  -- from a place on, lines that go on from there yield all entries
  taken : (cs : List ChunkLine) (n at start : ℕ) → AskInTurn m start cs → length (lines (chunk_replies cs)) ≤ n → chunks_from n (root m) (take start (entries m)) (record { at = at; left = lines (chunk_replies cs) }) ≡ Ok (entries m)
  unfolding chunks_from
  taken [] zero at start asks enough = ap (λ (all : Entries). Ok all) (take_all start (entries m) asks)
  taken [] (suc n) at start asks enough = ap (λ (ls : List (List ℕ)). chunks_from (suc n) (root m) (take start (entries m)) (record { at = at; left = ls })) lines-none ∙ ap (λ (all : Entries). Ok all) (take_all start (entries m) asks)
  taken (c ∷ cs) zero at start asks enough =
      let a = asks.0 in
      let rest = chunk_replies cs in
      let one = first c.number start c.count rest a.number_fits a.within a.least a.most in
      let many : length (lines (chunk_replies (c ∷ cs))) ≡ suc (length (lines (chunk_lines (es m start c.count) (proof m start c.count) ++ rest))) = ap (λ (t : List ℕ). length (lines t)) (reply_is start c rest a) ∙ ap length one.1 in
      absurd (omega arith)
  taken (c ∷ cs) (suc n) at start asks enough =
      let a = asks.0 in
      let rest = chunk_replies cs in
      let one = first c.number start c.count rest a.number_fits a.within a.least a.most in
      let many : length (lines (chunk_replies (c ∷ cs))) ≡ suc (length (lines (chunk_lines (es m start c.count) (proof m start c.count) ++ rest))) = ap (λ (t : List ℕ). length (lines t)) (reply_is start c rest a) ∙ ap length one.1 in
      let less = fewer_left c.number start c.count rest a.number_fits a.within a.least a.most in
      ap (λ (t : List ℕ). chunks_from (suc n) (root m) (take start (entries m)) (record { at = at; left = lines t })) (reply_is start c rest a)
      ∙ block_taken c.number start c.count rest a.number_fits a.within a.least a.most n at
      ∙ taken cs n (at + 1 + length (es m start c.count) + length (proof m start c.count).siblings) (start + c.count) asks.1 (omega arith)

  -- all entries yield the root
  whole : (generation : ℕ) → length (entries m) ≤ 2 ^ 62 → generation < 2 ^ 64 - 2 → restored_entries generation (root m) (entries m) ≡ Ok (entries m)
  whole generation many room =
      let same : bytes_eq (part_root 0 (entries m)) (root m) ≡ true = (bytes_eq-Decides (part_root 0 (entries m)) (root m)).1 (sym (root-part_root m)) in
      let early : (generation == 2 ^ 64 - 2) ≡ false = grind (arith, nat_tests) in
      let fits : nat_lt (2 ^ 62) (length (entries m)) ≡ false = grind (arith, nat_tests) in
      rw (same, early, fits) refl

  pub all_restored : (generation : ℕ) (cs : List ChunkLine) → length (entries m) ≤ 2 ^ 62 → generation < 2 ^ 64 - 2 → AskInTurn m 0 cs → restore_result generation (root m) (chunk_replies cs) ≡ Ok (entries m)
  all_restored generation cs many room asks =
      ap (λ (r : Result Entries BlockFault). elim r as (λ x. Result Entries RestoreFault) [ Ok es ↦ restored_entries generation (root m) es | Err why ↦ Err (of_block why) ])
      (taken cs (length (lines (chunk_replies cs))) 1 0 asks (omega arith))
      ∙ whole generation many room

pub chunks-restored : ChunksAreReadBack → RepliesBeginChunks → HonestChunksAreAccepted → HonestChunksGoOn → HonestChunksAreRestored
chunks-restored back begins accepted goes_on m generation cs is_map small many room asks = all_restored back begins accepted goes_on m is_map small generation cs many room asks
