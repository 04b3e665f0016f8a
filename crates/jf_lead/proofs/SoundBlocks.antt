-- Blocks that are read can be written: what is read of each line is within its limits.
use Rattle.std.proofs.Common.{◌≡◌, ℕ, zero, suc, ◌+◌, ◌^◌, ◌<◌, ◌≤◌, ◌==◌, ◌&&◌, nat_le, nat_lt, Bool, true, false, cond, List, [], ◌∷◌, ◌++◌, length, length-append, Option, Some, None, IfSome, IfOk, Ok, Err, option_and_then, option_map, bytes_eq, decimal, codes, refl, subst, arith}
use Rattle.std.specs.List.{AllByRecursion}
use Rattle.std.proofs.lemmas.Bool.{and_parts}
use Rattle.std.proofs.lemmas.Bool.Decides.{nat_tests}
use Rattle.std.proofs.lemmas.Option.{IfSome_then}
use Rattle.jf_path.specs.Keys.{IsKey, IsBytes}
use Rattle.jf_path.specs.Limits.{max_value}
use Rattle.jf_path.proofs.ByteLaws.{AreBytes-at_places}
use Rattle.jf_path.proofs.ListLaws.{All-append}
use Rattle.jf_hash.specs.Maps.{Batch, IsBatch}
use Rattle.jf_model.specs.Puts.{Change}
use Rattle.jf_split.specs.Limits.{max_keys}
use Rattle.jf_split.proofs.BatchLaws.{IsBatch-none, IsBatch-put}
use Rattle.jf_text.specs.Words.{words, is_long, both, digits_value, number, number_upto, unhex, bytes_within, hash_of, value_of}
use Rattle.jf_text.proofs.HexBytes.{unhex-IsBytes}
use Rattle.jf_blocks.specs.Laws.{IsHash}
use Rattle.jf_blocks.specs.Reading.{word_after, two_after, three_after, keyed_of, LinePlace, ReadResult, and_then, one_line_read, line_read, line_by}
use Rattle.jf_lead.specs.declared.block.LandingBlock.{LandingBlock}
use Rattle.jf_lead.specs.declared.head.LandingHead.{LandingHead}
use Rattle.jf_lead.specs.Reading.{LandingBlocks, with_block, landing_head_of, landing_line_of, put_line_of, del_line_of, change_line_of, is_above, change_after, changes_after, landing_body, landing_block, blocks_from}
use Rattle.jf_lead.specs.Laws.{IsLandingBlock, LandingBlocksAreSound}
use Rattle.jf_lead.proofs.Changes.{put-above}

-- ---- values that may be missing
IfSome-and_then : {X Y : Type 0} (P : X → Type 0) (Q : Y → Type 0) (f : X → Option Y) (o : Option X) → IfSome o P → ((x : X) → P x → IfSome (f x) Q) → IfSome (option_and_then f o) Q
IfSome-and_then P Q f None h more = tt
IfSome-and_then P Q f (Some x) h more = more x h

IfSome-and_then_each : {X Y : Type 0} (Q : Y → Type 0) (f : X → Option Y) (o : Option X) → ((x : X) → IfSome (f x) Q) → IfSome (option_and_then f o) Q
IfSome-and_then_each Q f None more = tt
IfSome-and_then_each Q f (Some x) more = more x

IfSome-map : {X Y : Type 0} (P : X → Type 0) (Q : Y → Type 0) (f : X → Y) (o : Option X) → IfSome o P → ((x : X) → P x → Q (f x)) → IfSome (option_map f o) Q
IfSome-map P Q f None h more = tt
IfSome-map P Q f (Some x) h more = more x h

IfSome-both : {X Y Z : Type 0} (P : X → Type 0) (Q : Y → Type 0) (R : Z → Type 0) (f : X → Y → Z) (a : Option X) (b : Option Y) → IfSome a P → IfSome b Q
    → ((x : X) (y : Y) → P x → Q y → R (f x y)) → IfSome (both f a b) R
IfSome-both P Q R f (Some x) (Some y) p q more = more x y p q
IfSome-both P Q R f (Some x) None p q more = tt
IfSome-both P Q R f None b p q more = tt

IfSome-cond : {X : Type 0} (P : X → Type 0) (t : Bool) (x : X) → (t ≡ true → P x) → IfSome (cond t (Some x) None) P
IfSome-cond P true x h = h refl
IfSome-cond P false x h = tt

-- ---- words
within : (least most n : ℕ) → (nat_le least n && nat_le n most) ≡ true → (least ≤ n) × (n ≤ most)
within least most n h = let p = and_parts (nat_le least n) (nat_le n most) h in let a = p.0 in let b = p.1 in (grind (arith, nat_tests), grind (arith, nat_tests))

bytes_within-sound : (least most : ℕ) (w : List ℕ) → IfSome (bytes_within least most w) (λ bs. IsBytes bs × (least ≤ length bs) × (length bs ≤ most))
bytes_within-sound least most w =
    IfSome-and_then IsBytes (λ bs. IsBytes bs × (least ≤ length bs) × (length bs ≤ most)) (λ bs. cond (nat_le least (length bs) && nat_le (length bs) most) (Some bs) None) (unhex w) (unhex-IsBytes w) (λ bs is.
    IfSome-cond (λ cs. IsBytes cs × (least ≤ length cs) × (length cs ≤ most)) (nat_le least (length bs) && nat_le (length bs) most) bs (λ e. let p = within least most (length bs) e in (is, p.0, p.1)))

hash_of-sound : (w : List ℕ) → IfSome (hash_of w) IsKey
hash_of-sound w = IfSome_then (hash_of w) (bytes_within-sound 32 32 w) (λ k is. let low = is.1 in let high = is.2 in record { long = omega arith; bytes = AreBytes-at_places k is.0 })

-- a value that can be written
abbrev IsValue : List ℕ → Type 0
IsValue v = IsBytes v × (length v ≤ max_value)

value_of-sound : (w : List ℕ) → IfSome (value_of w) IsValue
value_of-sound [] = tt
value_of-sound (sign ∷ digits) =
    elim (sign == 61) as (λ t. IfSome (cond t (bytes_within 0 max_value digits) None) IsValue) [
      | true ↦ IfSome_then (bytes_within 0 max_value digits) (bytes_within-sound 0 max_value digits) (λ v is. (is.0, is.2))
      | false ↦ tt
    ]

fits : (n : ℕ) → nat_lt n (2 ^ 64) ≡ true → n < 2 ^ 64
fits n h = grind (arith, nat_tests)

number-sound : (w : List ℕ) → IfSome (number w) (λ n. n < 2 ^ 64)
unfolding number
number-sound w =
    let same : Bool = bytes_eq w (decimal (digits_value w)) in
    IfSome-cond (λ n. n < 2 ^ 64) (same && nat_lt (digits_value w) (2 ^ 64)) (digits_value w) (λ e. fits (digits_value w) (and_parts same (nat_lt (digits_value w) (2 ^ 64)) e).1)

at_most : (n most : ℕ) → nat_le n most ≡ true → n ≤ most
at_most n most h = grind (arith, nat_tests)

number_upto-sound : (most : ℕ) (w : List ℕ) → IfSome (number_upto most w) (λ n. n ≤ most)
number_upto-sound most w =
    IfSome-and_then_each (λ n. n ≤ most) (λ n. cond (nat_le n most) (Some n) None) (number w) (λ n. IfSome-cond (λ m. m ≤ most) (nat_le n most) n (at_most n most))

-- ---- lines by their words
-- a first line that can be written
abbrev IsHead : LandingHead → Type 0
IsHead head = (head.version < 2 ^ 64) × IsHash head.root × (head.changes ≤ max_keys)

landing_head_of-sound : (p : List ℕ × List ℕ × List ℕ) → IfSome (landing_head_of p) IsHead
landing_head_of-sound p =
    IfSome-and_then (λ v. v < 2 ^ 64) IsHead _ (number p.0) (number-sound p.0) (λ v low.
    IfSome-both IsKey (λ n. n ≤ max_keys) IsHead (λ r n. record { version = v; root = r; changes = n }) (hash_of p.1) (number_upto max_keys p.2) (hash_of-sound p.1) (number_upto-sound max_keys p.2) (λ r n key within.
    (low, (key.long, key.bytes), within)))

landing_line_of-sound : (ws : List (List ℕ)) → IfSome (landing_line_of ws) IsHead
landing_line_of-sound ws = IfSome-and_then_each IsHead landing_head_of (three_after (codes "landing") ws) landing_head_of-sound

-- a change that can be written
abbrev IsChange : Change → Type 0
IsChange c = IsKey c.0 × IfSome c.1 IsValue

put_line_of-sound : (ws : List (List ℕ)) → IfSome (put_line_of ws) IsChange
put_line_of-sound ws =
    IfSome-map (λ (e : List ℕ × List ℕ). IsKey e.0 × IsValue e.1) IsChange (λ e. (e.0, Some e.1)) (option_and_then keyed_of (two_after (codes "put") ws)) (IfSome-and_then_each (λ (e : List ℕ × List ℕ). IsKey e.0 × IsValue e.1) keyed_of (two_after (codes "put") ws) (λ p.
    IfSome-both IsKey IsValue (λ (e : List ℕ × List ℕ). IsKey e.0 × IsValue e.1) (λ key value. (key, value)) (hash_of p.0) (value_of p.1) (hash_of-sound p.0) (value_of-sound p.1) (λ k v a b. (a, b)))) (λ e is. (is.0, is.1))

del_line_of-sound : (ws : List (List ℕ)) → IfSome (del_line_of ws) IsChange
del_line_of-sound ws =
    IfSome-map IsKey IsChange (λ key. (key, None)) (option_and_then hash_of (word_after (codes "del") ws)) (IfSome-and_then_each IsKey hash_of (word_after (codes "del") ws) hash_of-sound) (λ k is. (is, tt))

one_of : (a b : Option Change) → IfSome a IsChange → IfSome b IsChange → IfSome (elim a as (λ x. Option Change) [ Some c ↦ Some c | None ↦ b ]) IsChange
one_of (Some c) b p q = p
one_of None b p q = q

change_after-sound : (b : Batch) (ws : List (List ℕ)) → IfSome (change_after b ws) (λ c. IsChange c × (is_above c.0 b ≡ true))
change_after-sound b ws =
    IfSome-and_then IsChange (λ c. IsChange c × (is_above c.0 b ≡ true)) (λ (c : Change). cond (is_above c.0 b) (Some c) None) (change_line_of ws) (one_of (put_line_of ws) (del_line_of ws) (put_line_of-sound ws) (del_line_of-sound ws)) (λ c is.
    IfSome-cond (λ (d : Change). IsChange d × (is_above d.0 b ≡ true)) (is_above c.0 b) c (λ above. (is, above)))

-- ---- lines one after another
IfSome-line_read : {X : Type 0} (P : X → Type 0) (f : List (List ℕ) → Option X) (line : List ℕ) → ((ws : List (List ℕ)) → IfSome (f ws) P) → IfSome (line_read f line) P
IfSome-line_read P f line more = elim (is_long line) as (λ t. IfSome (cond t None (f (words line))) P) [ true ↦ tt | false ↦ more (words line) ]

IfOk-matched : {X : Type 0} (P : X → Type 0) (at : ℕ) (rest : List (List ℕ)) (o : Option X) → IfSome o P → IfOk (one_line_read at rest o) (λ r. P r.0)
IfOk-matched P at rest None h = tt
IfOk-matched P at rest (Some x) h = h

IfOk-line_by_at : {X : Type 0} (P : X → Type 0) (f : List (List ℕ) → Option X) (at : ℕ) (left : List (List ℕ)) → ((ws : List (List ℕ)) → IfSome (f ws) P) → IfOk (line_by f (record { at = at; left = left })) (λ r. P r.0)
IfOk-line_by_at P f at [] more = tt
IfOk-line_by_at P f at (line ∷ ls) more = IfOk-matched P at ls (line_read f line) (IfSome-line_read P f line more)

IfOk-line_by : {X : Type 0} (P : X → Type 0) (f : List (List ℕ) → Option X) (p : LinePlace) → ((ws : List (List ℕ)) → IfSome (f ws) P) → IfOk (line_by f p) (λ r. P r.0)
IfOk-line_by P f p more = IfOk-line_by_at P f p.at p.left more

IfOk-and_then : {X Y : Type 0} (P : X → Type 0) (Q : Y → Type 0) (r : ReadResult X) (f : X → LinePlace → ReadResult Y) → IfOk r (λ p. P p.0) → ((x : X) (q : LinePlace) → P x → IfOk (f x q) (λ p. Q p.0)) → IfOk (and_then r f) (λ p. Q p.0)
IfOk-and_then P Q (Ok p) f h more = more p.0 p.1 h
IfOk-and_then P Q (Err at) f h more = tt

-- ---- blocks
-- a batch of so many changes that can be written, but for their number
record IsPart (b : Batch) (n : ℕ) : Type 0 where
  batch : IsBatch b
  values : AllByRecursion (λ (e : Change). IfSome e.1 (λ v. length v ≤ max_value)) b
  long : length b ≡ n

IsPart-push : (b : Batch) (c : Change) (n : ℕ) → IsPart b n → IsChange c → is_above c.0 b ≡ true → IsPart (b ++ c ∷ []) (n + 1)
IsPart-push b c n part is above =
    let long = part.long in
    record {
      batch = subst IsBatch (put-above c.0 c.1 b part.batch.sorted above) (IsBatch-put c.0 c.1 b is.0 (IfSome_then c.1 is.1 (λ v w. w.0)) part.batch);
      values = All-append (λ (e : Change). IfSome e.1 (λ v. length v ≤ max_value)) b (c ∷ []) part.values (IfSome_then c.1 is.1 (λ v w. w.1), tt);
      long = omega (arith, length-append b (c ∷ []));
    }

changes_after-sound : (n m : ℕ) (b : Batch) (p : LinePlace) → IsPart b m → IfOk (changes_after b n p) (λ r. IsPart r.0 (m + n))
unfolding changes_after
changes_after-sound zero m b p part = let e : m ≡ m + 0 = omega arith in subst (IsPart b) e part
changes_after-sound (suc n) m b p part =
    let e : m + 1 + n ≡ m + suc n = omega arith in
    IfOk-and_then (λ (c : Change). IsChange c × (is_above c.0 b ≡ true)) (λ d. IsPart d (m + suc n)) (line_by (change_after b) p) _ (IfOk-line_by (λ (c : Change). IsChange c × (is_above c.0 b ≡ true)) (change_after b) p (change_after-sound b)) (λ c q is.
    subst (λ k. IfOk (changes_after (b ++ c ∷ []) n q) (λ r. IsPart r.0 k)) e (changes_after-sound n (m + 1) (b ++ c ∷ []) q (IsPart-push b c m part is.0 is.1)))

none : IsPart [] 0
none = record { batch = IsBatch-none; values = tt; long = refl }

landing_body-sound : (head : LandingHead) (p : LinePlace) → IsHead head → IfOk (landing_body head p) (λ r. IsLandingBlock r.0)
landing_body-sound head p is =
    IfOk-and_then (λ b. IsPart b (0 + head.changes)) IsLandingBlock (changes_after [] head.changes p) _ (changes_after-sound head.changes 0 [] p none) (λ b q part.
    let long = part.long in let count = is.2 in
    record { version = is.0; root = is.1; batch = part.batch; limits = record { keys = omega arith; values = part.values } })

landing_block-sound : (p : LinePlace) → IfOk (landing_block p) (λ r. IsLandingBlock r.0)
landing_block-sound p = IfOk-and_then IsHead IsLandingBlock (line_by landing_line_of p) landing_body (IfOk-line_by IsHead landing_line_of p landing_line_of-sound) landing_body-sound

-- ---- all lines
block_taken : (n at : ℕ) (o : ReadResult LandingBlock) → ((p : LinePlace) → AllByRecursion (λ (b : ℕ × LandingBlock). IsLandingBlock b.1) (blocks_from n p).whole) → IfOk o (λ r. IsLandingBlock r.0)
    → AllByRecursion (λ (b : ℕ × LandingBlock). IsLandingBlock b.1) (elim o as (λ x. LandingBlocks) [ Err i ↦ record { whole = []; bad = Some i } | Ok b ↦ with_block (at, b.0) (blocks_from n b.1) ]).whole
block_taken n at (Err i) others h = tt
block_taken n at (Ok b) others h = (h, others b.1)

blocks_from-sound : (n at : ℕ) (left : List (List ℕ)) → AllByRecursion (λ (b : ℕ × LandingBlock). IsLandingBlock b.1) (blocks_from n (record { at = at; left = left })).whole
unfolding blocks_from
blocks_from-sound zero at left = tt
blocks_from-sound (suc n) at [] = tt
blocks_from-sound (suc n) at (line ∷ ls) =
    let p : LinePlace = record { at = at; left = line ∷ ls } in block_taken n at (landing_block p) (λ q. blocks_from-sound n q.at q.left) (landing_block-sound p)

pub landing_blocks-sound : LandingBlocksAreSound
landing_blocks-sound ls = blocks_from-sound (length ls) 1 ls
