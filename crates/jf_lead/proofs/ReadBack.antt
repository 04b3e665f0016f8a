-- Landing blocks that were written are read back as what was written.
use Rattle.std.proofs.Common.{◌≡◌, ℕ, suc, ◌+◌, ◌-◌, ◌^◌, ◌<◌, ◌≤◌, T, Bool, true, cond, is_lt, List, [], ◌∷◌, ◌++◌, length, length-append, slice_get, Option, Some, None, IfSome, Ok, option_and_then, codes, decimal, refl, ap, sym, ◌∙◌, subst, arith}
use Rattle.std.specs.List.{AllByRecursion, join_with_byte}
use Rattle.std.specs.FinMap.{is_sorted}
use Rattle.std.proofs.lemmas.List.{append_assoc, append-nil}
use Rattle.hex.specs.Hex.{encode_lower}
use Rattle.jf_path.specs.Keys.{key_cmp, IsKey}
use Rattle.jf_path.proofs.ByteLaws.{AreBytes-at_places}
use Rattle.jf_hash.specs.Maps.{Batch}
use Rattle.jf_hash.proofs.KeyOrder.{below-rest, below-first, sorted-rest}
use Rattle.jf_model.specs.Puts.{Change}
use Rattle.jf_io.specs.Lines.{lines}
use Rattle.jf_text.specs.Words.{line_text, value_of}
use Rattle.jf_text.proofs.Plain.{all_plain, is_plain-decimal}
use Rattle.jf_text.proofs.NumbersBack.{number-back, number_upto-back, length-decimal}
use Rattle.jf_text.proofs.HexReadBack.{is_plain-hex, bytes_within-back}
use Rattle.jf_blocks.specs.Reading.{line_by}
use Rattle.jf_blocks.specs.Laws.{IsHash}
use Rattle.jf_blocks.proofs.LinesJoined.{lines-join}
use Rattle.jf_blocks.proofs.LinesReadBack.{line_by-join, hash-back, length-hex}
use Rattle.jf_blocks.proofs.BlocksReadBack.{joined}
use Rattle.jf_lead.specs.declared.block.LandingBlock.{LandingBlock}
use Rattle.jf_lead.specs.declared.head.LandingHead.{LandingHead}
use Rattle.jf_lead.specs.declared.stage.Stage.TheVariants as stage
use Rattle.jf_lead.specs.Landings.{change_words, change_lines, landing_head_line, landing_text, landings_text}
use Rattle.jf_lead.specs.Reading.{with_block, landing_line_of, is_above, put_line_of, del_line_of, change_line_of, change_after, changes_after, landing_block}
use Rattle.jf_lead.specs.Steps.{ended_blocks, reading_after_all}
use Rattle.jf_lead.specs.Laws.{IsLandingBlock, with_first_lines, LandingsAreReadBack}
use Rattle.jf_lead.proofs.LineByLine.{blocks_at, answered, block_read, landing_blocks-lines}

-- ---- keys that rise
one_more : (n : ℕ) → suc (suc n) - 1 ≡ suc (suc n - 1)
one_more n = omega arith

-- in a batch whose keys rise, each key is above those before it
above-sorted : (b cs : Batch) (c : Change) → T (is_sorted key_cmp (b ++ c ∷ cs)) → is_above c.0 b ≡ true
above-sorted [] cs c sorted = refl
above-sorted (e ∷ []) cs c sorted = ap is_lt (below-first e.0 c cs (below-rest e (c ∷ cs) sorted))
above-sorted (e ∷ f ∷ b) cs c sorted =
    ap (λ i. elim (slice_get (e ∷ f ∷ b) i) as (λ x. Bool) [ Some last ↦ is_lt (key_cmp last.0 c.0) | None ↦ true ]) (one_more (length b))
    ∙ above-sorted (f ∷ b) cs c (sorted-rest e (f ∷ b ++ c ∷ cs) sorted)

-- ---- the line of a change
-- a change that can be written: a key of 32 bytes, and a value of at most 4,096 bytes or none
abbrev IsPlainValue : Option (List ℕ) → Type 0
IsPlainValue None = Unit {0}
IsPlainValue (Some v) = AllByRecursion (λ b. b < 256) v × (length v ≤ 4096)

hash_of_key : (k : List ℕ) → IsKey k → IsHash k
hash_of_key k key = (key.long, key.bytes)

-- a line is read by its words
change_line_of-put : (ws : List (List ℕ)) (c : Change) → put_line_of ws ≡ Some c → change_line_of ws ≡ Some c
change_line_of-put ws c e = ap (λ o. elim o as (λ x. Option Change) [ Some d ↦ Some d | None ↦ del_line_of ws ]) e

change_line_of-del : (ws : List (List ℕ)) (c : Change) → put_line_of ws ≡ None → del_line_of ws ≡ Some c → change_line_of ws ≡ Some c
change_line_of-del ws c none e = ap (λ o. elim o as (λ x. Option Change) [ Some d ↦ Some d | None ↦ del_line_of ws ]) none ∙ e

change_after-of : (b : Batch) (ws : List (List ℕ)) (c : Change) → change_line_of ws ≡ Some c → is_above c.0 b ≡ true → change_after b ws ≡ Some c
change_after-of b ws c e above = ap (option_and_then (λ (d : Change). cond (is_above d.0 b) (Some d) None)) e ∙ ap (λ t. cond t (Some c) None) above

change-back : (b : Batch) (key : List ℕ) (value : Option (List ℕ)) (at : ℕ) (rest : List ℕ) → IsKey key → IsPlainValue value → is_above key b ≡ true
    → line_by (change_after b) (record { at = at; left = lines (line_text (change_words key value) ++ rest) }) ≡ Ok ((key, value), record { at = at + 1; left = lines rest })
change-back b key None at rest is plain above =
    let k : List ℕ = encode_lower key in
    let bytes = hash_of_key key is in
    let simple : all_plain (k ∷ []) ≡ true = rw (is_plain-hex key bytes.1) refl in
    line_by-join (change_after b) (key, None) at (codes "del") (k ∷ []) rest refl simple
    (omega (arith, length-append (codes "del ") k, length-hex key, is.long))
    (change_after-of b (codes "del" ∷ k ∷ []) (key, None) (change_line_of-del (codes "del" ∷ k ∷ []) (key, None) refl (rw (hash-back key bytes) refl)) above)
change-back b key (Some value) at rest is plain above =
    let k : List ℕ = encode_lower key in
    let v : List ℕ = 61 ∷ encode_lower value in
    let bytes = hash_of_key key is in
    let simple : all_plain (k ∷ v ∷ []) ≡ true = rw (is_plain-hex key bytes.1, is_plain-hex value (AreBytes-at_places value plain.0)) refl in
    let back : value_of v ≡ Some value = bytes_within-back 0 4096 value (AreBytes-at_places value plain.0) (omega arith) plain.1 in
    line_by-join (change_after b) (key, Some value) at (codes "put") (k ∷ v ∷ []) rest refl simple
    (omega (arith, length-append (codes "put ") (k ++ 32 ∷ v), length-append k (32 ∷ v), length-hex key, length-hex value, is.long, plain.1))
    (change_after-of b (codes "put" ∷ k ∷ v ∷ []) (key, Some value) (change_line_of-put (codes "put" ∷ k ∷ v ∷ []) (key, Some value) (rw (hash-back key bytes, back) refl)) above)

-- ---- the lines of changes
abbrev ArePlain : Batch → Type 0
ArePlain cs = AllByRecursion (λ (c : Change). IsKey c.0 × IsPlainValue c.1) cs

changes-back : (cs b : Batch) (at : ℕ) (rest : List ℕ) → T (is_sorted key_cmp (b ++ cs)) → ArePlain cs
    → changes_after b (length cs) (record { at = at; left = lines (change_lines cs ++ rest) }) ≡ Ok (b ++ cs, record { at = at + length cs; left = lines rest })
unfolding changes_after
changes-back [] b at rest sorted plain =
    let e : at ≡ at + 0 = omega arith in
    rw (append-nil b) (ap (λ n. Ok (b, record { at = n; left = lines rest })) e)
changes-back (c ∷ cs) b at rest sorted plain =
    let line : List ℕ = line_text (change_words c.0 c.1) in
    let one = change-back b c.0 c.1 at (change_lines cs ++ rest) plain.0.0 plain.0.1 (above-sorted b cs c sorted) in
    let same : (b ++ c ∷ []) ++ cs ≡ b ++ c ∷ cs = append_assoc b (c ∷ []) cs in
    let others = changes-back cs (b ++ c ∷ []) (at + 1) rest (subst (λ es. T (is_sorted key_cmp es)) (sym same) sorted) plain.1 in
    let e : at + 1 + length cs ≡ at + length (c ∷ cs) = omega arith in
    rw (append_assoc line (change_lines cs) rest, one, others, e, same) refl

plain-value : (v : Option (List ℕ)) → IfSome v (λ x. AllByRecursion (λ y. y < 256) x) → IfSome v (λ x. length x ≤ 4096) → IsPlainValue v
plain-value None h k = tt
plain-value (Some x) h k = (h, k)

plain-batch : (b : Batch) → AllByRecursion (λ (c : Change). IsKey c.0) b → AllByRecursion (λ (c : Change). IfSome c.1 (λ v. AllByRecursion (λ x. x < 256) v)) b → AllByRecursion (λ (c : Change). IfSome c.1 (λ v. length v ≤ 4096)) b → ArePlain b
plain-batch [] keys bytes short = tt
plain-batch (c ∷ b) keys bytes short = ((keys.0, plain-value c.1 bytes.0 short.0), plain-batch b keys.1 bytes.1 short.1)

-- ---- a block
-- the words of a block's first line after its keyword
abbrev later_words : LandingBlock → List (List ℕ)
later_words b = decimal b.version ∷ encode_lower b.root ∷ decimal (length b.batch) ∷ []

abbrev head_of_block : LandingBlock → LandingHead
head_of_block b = record { version = b.version; root = b.root; changes = length b.batch }

few_changes : (b : LandingBlock) → IsLandingBlock b → length b.batch < 2 ^ 64
few_changes b is = let few = is.limits.keys in omega arith

head-back : (b : LandingBlock) → IsLandingBlock b → landing_line_of (codes "landing" ∷ later_words b) ≡ Some (head_of_block b)
head-back b is =
    let few = is.limits.keys in
    rw (number-back b.version is.version, hash-back b.root is.root, number_upto-back 10000 (length b.batch) (few_changes b is) few) refl

later_words-plain : (b : LandingBlock) → IsLandingBlock b → all_plain (later_words b) ≡ true
later_words-plain b is = rw (is_plain-decimal b.version is.version, is_plain-hex b.root is.root.1, is_plain-decimal (length b.batch) (few_changes b is)) refl

head-short : (b : LandingBlock) → IsLandingBlock b → length (join_with_byte 32 (codes "landing" ∷ later_words b)) ≤ 8500
head-short b is =
    let last : List ℕ = encode_lower b.root ++ 32 ∷ decimal (length b.batch) in
    omega (
      arith,
      length-append (codes "landing ") (decimal b.version ++ 32 ∷ last),
      length-append (decimal b.version) (32 ∷ last),
      length-append (encode_lower b.root) (32 ∷ decimal (length b.batch)),
      length-decimal b.version is.version,
      length-hex b.root,
      length-decimal (length b.batch) (few_changes b is),
      is.root.0,
    )

landing-back : (b : LandingBlock) (at : ℕ) (rest : List ℕ) → IsLandingBlock b
    → landing_block (record { at = at; left = lines (landing_text b.version b.root b.batch ++ rest) }) ≡ Ok (b, record { at = at + 1 + length b.batch; left = lines rest })
unfolding landing_text
landing-back b at rest is =
    let changes : List ℕ = change_lines b.batch ++ rest in
    let plain : ArePlain b.batch = plain-batch b.batch is.batch.keys is.batch.values is.limits.values in
    ap (λ t. landing_block (record { at = at; left = lines t })) (append_assoc (landing_head_line b.version b.root (length b.batch)) (change_lines b.batch) rest)
    ∙ joined _ _ (head_of_block b) _ _ (line_by-join landing_line_of (head_of_block b) at (codes "landing") (later_words b) changes refl (later_words-plain b is) (head-short b is) (head-back b is))
    (joined _ _ b.batch _ _ (changes-back b.batch [] (at + 1) rest is.batch.sorted plain) refl)

-- the lines of a block, the first one apart
first_line_apart : (b : LandingBlock) (rest : List ℕ) → IsLandingBlock b
    → lines (landing_text b.version b.root b.batch ++ rest) ≡ join_with_byte 32 (codes "landing" ∷ later_words b) ∷ lines (change_lines b.batch ++ rest)
unfolding landing_text
first_line_apart b rest is =
    let first : List ℕ = join_with_byte 32 (codes "landing" ∷ later_words b) in
    ap lines (append_assoc (first ++ 10 ∷ []) (change_lines b.batch) rest ∙ append_assoc first (10 ∷ []) (change_lines b.batch ++ rest))
    ∙ lines-join (codes "landing") (later_words b) (change_lines b.batch ++ rest) refl (later_words-plain b is)

block-at : (b : LandingBlock) (at : ℕ) (rest : List ℕ) → IsLandingBlock b
    → blocks_at at stage.Between (lines (landing_text b.version b.root b.batch ++ rest)) ≡ with_block (at, b) (blocks_at (at + 1 + length b.batch) stage.Between (lines rest))
block-at b at rest is =
    let first : List ℕ = join_with_byte 32 (codes "landing" ∷ later_words b) in
    let apart = first_line_apart b rest is in
    ap (blocks_at at stage.Between) apart
    ∙ block_read at first (lines (change_lines b.batch ++ rest))
    ∙ ap (answered at) (ap (λ left. landing_block (record { at = at; left = left })) (sym apart) ∙ landing-back b at rest is)

-- ---- all blocks
blocks-at : (bs : List LandingBlock) (at : ℕ) → AllByRecursion IsLandingBlock bs → blocks_at at stage.Between (lines (landings_text bs)) ≡ record { whole = with_first_lines at bs; bad = None }
unfolding lines ended_blocks reading_after_all
blocks-at [] at all = refl
blocks-at (b ∷ bs) at all = block-at b at (landings_text bs) all.0 ∙ ap (with_block (at, b)) (blocks-at bs (at + 1 + length b.batch) all.1)

pub landing_blocks-back : LandingsAreReadBack
landing_blocks-back bs all = landing_blocks-lines (lines (landings_text bs)) ∙ blocks-at bs 1 all
