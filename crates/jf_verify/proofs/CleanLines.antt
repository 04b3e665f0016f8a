-- What matches has no line feed in it: words, lines between blocks, and lines of blocks.
use Rattle.std.proofs.Common.{◌≡◌, ℕ, ◌+◌, ◌*◌, ◌==◌, Bool, true, false, cond, List, [], ◌∷◌, ◌++◌, codes, decimal, nat_lt, ◌^◌, ◌&&◌, bytes_eq, Option, Some, None, option_and_then, option_map, refl, sym, subst, ap, eqb-true, ltb-true}
use Rattle.std.specs.Option.{is_some}
use Rattle.std.specs.List.{AllByRecursion, join_with_byte, slice_split}
use Rattle.std.proofs.lemmas.Bool.{and_parts}
use Rattle.std.proofs.lemmas.List.Splits.{join_with_byte-slice_split}
use Rattle.std.proofs.lemmas.Slice.Eq.{bytes_eq-Decides}
use Rattle.jf_path.proofs.BoolLaws.{not_and_passes, both_pass}
use Rattle.jf_text.specs.Words.{words, is_word, is_long, both, number, number_upto, digits_value, digit, byte_of, unhex, bytes_within, hash_of, name_of, value_of}
use Rattle.jf_text.proofs.Plain.{is_without, is_plain-decimal}
use Rattle.jf_blocks.specs.Reading.{max_siblings, word_after, two_after, without_number, root_line_of, count_of, first_line_of, named_of, claim_of_word, claim_of, pair_of, leaf_line_of, side_of, line_read}
use Rattle.jf_blocks.specs.declared.first.FirstLine.{FirstLine}
use Rattle.jf_blocks.specs.declared.first.FirstLine.TheVariants as first
use Rattle.jf_multi.specs.declared.item.Item.{Item}
use Rattle.jf_multi.specs.declared.item.Item.TheVariants as item
use Rattle.jf_many_blocks.specs.ManyBlocks.{NamedClaim}
use Rattle.jf_many_blocks.specs.ManyReading.{max_claims, max_items, many_head_of, many_of, named_claim_from, named_claim_of, is_lone, end_line_of, item_of}
use Rattle.jf_many_blocks.specs.declared.head.ManyHead.{ManyHead}
use Rattle.jf_verify.specs.Openings.{opening_from, opening_of}
use Rattle.jf_verify.specs.declared.opening.Opening.{Opening}
use Rattle.jf_verify.specs.declared.opening.Opening.TheVariants as opening

-- no byte is a line feed
abbrev pub IsClean : List ℕ → Type 0
IsClean w = is_without 10 w ≡ true

abbrev AreClean : List (List ℕ) → Type 0
AreClean ws = AllByRecursion IsClean ws

-- ---- parts of what gives something
then_some : {X Y : Type 0} (f : X → Option Y) (o : Option X) (y : Y) → option_and_then f o ≡ Some y → (x : X) × (o ≡ Some x) × (f x ≡ Some y)
then_some f None y h = absurd cc
then_some f (Some x) y h = (x, refl, h)

both_some : {X Y Z : Type 0} (f : X → Y → Z) (o : Option X) (p : Option Y) (z : Z) → both f o p ≡ Some z → (x : X) × (y : Y) × (o ≡ Some x) × (p ≡ Some y)
both_some f (Some x) (Some y) z h = (x, y, refl, refl)
both_some f (Some x) None z h = absurd cc
both_some f None p z h = absurd cc

cond_some : {X : Type 0} (t : Bool) (o : Option X) (x : X) → cond t o None ≡ Some x → (t ≡ true) × (o ≡ Some x)
cond_some true o x h = (refl, h)
cond_some false o x h = absurd cc

map_some : {X Y : Type 0} (f : X → Y) (o : Option X) (y : Y) → option_map f o ≡ Some y → (x : X) × (o ≡ Some x)
map_some f None y h = absurd cc
map_some f (Some x) y h = (x, refl)

-- ---- words that say something
clean_more : (b : ℕ) (w : List ℕ) → (b == 10) ≡ false → IsClean w → IsClean (b ∷ w)
clean_more b w e h = rw e h

digit_clean : (c a : ℕ) (t : Bool) → (c == 10) ≡ t → digit c ≡ Some a → (c == 10) ≡ false
digit_clean c a true e h = absurd (let is : c ≡ 10 = eqb-true c 10 e in let none = subst (λ x. digit x ≡ Some a) is h in cc)
digit_clean c a false e h = e

unhex_clean : (w bytes : List ℕ) → unhex w ≡ Some bytes → IsClean w
unfolding unhex
unhex_clean [] bytes h = refl
unhex_clean (high ∷ []) bytes h = absurd cc
unhex_clean (high ∷ low ∷ rest) bytes h =
    let parts = both_some ◌∷◌ (byte_of high low) (unhex rest) bytes h in
    let digits = both_some (λ h l. h * 16 + l) (digit high) (digit low) parts.0 parts.2 in
    clean_more high (low ∷ rest) (digit_clean high digits.0 (high == 10) refl digits.2) (clean_more low rest (digit_clean low digits.1 (low == 10) refl digits.3) (unhex_clean rest parts.1 parts.3))

within_clean : (least most : ℕ) (w bytes : List ℕ) → bytes_within least most w ≡ Some bytes → IsClean w
within_clean least most w bytes h = let read = then_some _ (unhex w) bytes h in unhex_clean w read.0 read.1

value_clean : (w value : List ℕ) → value_of w ≡ Some value → IsClean w
value_clean [] value h = absurd cc
value_clean (sign ∷ digits) value h =
    let parts = cond_some (sign == 61) (bytes_within 0 4096 digits) value h in
    let is : sign ≡ 61 = eqb-true sign 61 parts.0 in
    clean_more sign digits (ap (λ b. b == 10) is) (within_clean 0 4096 digits value parts.1)

number_clean : (w : List ℕ) (n : ℕ) → number w ≡ Some n → IsClean w
unfolding number
number_clean w n h =
    let parts = cond_some (bytes_eq w (decimal (digits_value w)) && nat_lt (digits_value w) (2 ^ 64)) (Some (digits_value w)) n h in
    let two = and_parts (bytes_eq w (decimal (digits_value w))) (nat_lt (digits_value w) (2 ^ 64)) parts.0 in
    let is : w ≡ decimal (digits_value w) = (bytes_eq-Decides w (decimal (digits_value w))).0 two.0 in
    let plain = is_plain-decimal (digits_value w) (ltb-true (digits_value w) (2 ^ 64) two.1) in
    subst IsClean (sym is) (both_pass (is_without 32 (decimal (digits_value w))) (is_without 10 (decimal (digits_value w))) plain).1

word_clean : (w k : List ℕ) → is_word w k ≡ true → IsClean k → IsClean w
word_clean w k h clean = subst IsClean (sym ((bytes_eq-Decides w k).0 h)) clean

-- ---- words of a line that matches
word_after_clean : (k : List ℕ) (ws : List (List ℕ)) (a : List ℕ) → IsClean k → word_after k ws ≡ Some a → IsClean a → AreClean ws
word_after_clean k [] a keyword h clean = absurd cc
word_after_clean k (w ∷ []) a keyword h clean = absurd cc
word_after_clean k (w ∷ b ∷ []) a keyword h clean =
    let parts = cond_some (is_word w k) (Some b) a h in
    let is : b ≡ a = cc parts.1 in
    (word_clean w k parts.0 keyword, (subst IsClean (sym is) clean, tt))
word_after_clean k (w ∷ b ∷ c ∷ ws) a keyword h clean = absurd cc

two_after_clean : (k : List ℕ) (ws : List (List ℕ)) (p : List ℕ × List ℕ) → IsClean k → two_after k ws ≡ Some p → IsClean p.0 → IsClean p.1 → AreClean ws
two_after_clean k [] p keyword h one two = absurd cc
two_after_clean k (w ∷ []) p keyword h one two = absurd cc
two_after_clean k (w ∷ a ∷ []) p keyword h one two = absurd cc
two_after_clean k (w ∷ a ∷ b ∷ []) p keyword h one two =
    let parts = cond_some (is_word w k) (Some (a, b)) p h in
    let is : (a, b) ≡ p = cc parts.1 in
    (word_clean w k parts.0 keyword, (subst IsClean (sym (ap (λ q. q.0) is)) one, (subst IsClean (sym (ap (λ q. q.1) is)) two, tt)))
two_after_clean k (w ∷ a ∷ b ∷ c ∷ ws) p keyword h one two = absurd cc

some_number_clean : (n : List ℕ) (o : Option ℕ) → number n ≡ o → is_some o ≡ true → IsClean n
some_number_clean n None is h = absurd cc
some_number_clean n (Some m) is h = number_clean n m is

numbered_clean : (n ok : List ℕ) (ws : List (List ℕ)) (t : Bool) → (is_some (number n) && is_word ok (codes "ok")) ≡ t → AreClean (cond t ws (n ∷ ok ∷ ws)) → AreClean (n ∷ ok ∷ ws)
numbered_clean n ok ws true e clean =
    let parts = and_parts (is_some (number n)) (is_word ok (codes "ok")) e in (some_number_clean n (number n) refl parts.0, (word_clean ok (codes "ok") parts.1 refl, clean))
numbered_clean n ok ws false e clean = clean

without_number_clean : (ws : List (List ℕ)) → AreClean (without_number ws) → AreClean ws
without_number_clean [] clean = clean
without_number_clean (n ∷ []) clean = clean
without_number_clean (n ∷ ok ∷ ws) clean = numbered_clean n ok ws (is_some (number n) && is_word ok (codes "ok")) refl clean

-- ---- lines that match
root_clean : (ws : List (List ℕ)) (root : List ℕ) → root_line_of ws ≡ Some root → AreClean ws
root_clean ws root h =
    let word = then_some hash_of (word_after (codes "root") (without_number ws)) root h in
    without_number_clean ws (word_after_clean (codes "root") (without_number ws) word.0 refl word.1 (within_clean 32 32 word.0 root word.2))

count_clean : (ws : List (List ℕ)) (n : ℕ) → count_of ws ≡ Some n → AreClean ws
count_clean ws n h =
    let word = then_some (number_upto max_siblings) (word_after (codes "proof") (without_number ws)) n h in
    let count = then_some _ (number word.0) n word.2 in
    without_number_clean ws (word_after_clean (codes "proof") (without_number ws) word.0 refl word.1 (number_clean word.0 count.0 count.1))

first_clean : (ws : List (List ℕ)) (x : FirstLine) (o : Option (List ℕ)) → root_line_of ws ≡ o
    → elim o as (λ p. Option FirstLine) [ Some root ↦ Some (first.Root root) | None ↦ option_map (λ n. first.Proof n) (count_of ws) ] ≡ Some x → AreClean ws
first_clean ws x (Some root) is h = root_clean ws root is
first_clean ws x None is h = let count = map_some (λ n. first.Proof n) (count_of ws) x h in count_clean ws count.0 count.1

pub named_clean : (ws : List (List ℕ)) (name : List ℕ) → named_of ws ≡ Some name → AreClean ws
named_clean ws name h =
    let word = then_some name_of (word_after (codes "name") ws) name h in word_after_clean (codes "name") ws word.0 refl word.1 (within_clean 1 128 word.0 name word.2)

claimed_clean : (w : List ℕ) (claim : Option (List ℕ)) (t : Bool) → is_word w (codes "none") ≡ t → cond t (Some None) (option_map (λ v. Some v) (value_of w)) ≡ Some claim → IsClean w
claimed_clean w claim true e h = word_clean w (codes "none") e refl
claimed_clean w claim false e h = let value = map_some (λ v. Some v) (value_of w) claim h in value_clean w value.0 value.1

pub claim_clean : (ws : List (List ℕ)) (claim : Option (List ℕ)) → claim_of ws ≡ Some claim → AreClean ws
claim_clean ws claim h =
    let word = then_some claim_of_word (word_after (codes "claim") ws) claim h in
    word_after_clean (codes "claim") ws word.0 refl word.1 (claimed_clean word.0 claim (is_word word.0 (codes "none")) refl word.2)

-- a keyword, and `none` or a key and a hash
pub pair_clean : (k : List ℕ) → IsClean k → (ws : List (List ℕ)) (pair : Option (List ℕ × List ℕ)) (o : Option (List ℕ)) → word_after k ws ≡ o
    → elim o as (λ p. Option (Option (List ℕ × List ℕ))) [
      | Some w ↦ cond (is_word w (codes "none")) (Some None) None
      | None ↦ option_map (λ leaf. Some leaf) (option_and_then pair_of (two_after k ws))
    ] ≡ Some pair → AreClean ws
pair_clean k keyword ws pair (Some w) is h = let none = cond_some (is_word w (codes "none")) (Some None) pair h in word_after_clean k ws w keyword is (word_clean w (codes "none") none.0 refl)
pair_clean k keyword ws pair None is h =
    let leaf = map_some (λ leaf. Some leaf) (option_and_then pair_of (two_after k ws)) pair h in
    let two = then_some pair_of (two_after k ws) leaf.0 leaf.1 in
    let hashes = both_some (λ key hash. (key, hash)) (hash_of two.0.0) (hash_of two.0.1) leaf.0 two.2 in
    two_after_clean k ws two.0 keyword two.1 (within_clean 32 32 two.0.0 hashes.0 hashes.2) (within_clean 32 32 two.0.1 hashes.1 hashes.3)

pub leaf_clean : (ws : List (List ℕ)) (leaf : Option (List ℕ × List ℕ)) → leaf_line_of ws ≡ Some leaf → AreClean ws
leaf_clean ws leaf h = pair_clean (codes "leaf") refl ws leaf (word_after (codes "leaf") ws) refl h

pub side_clean : (ws : List (List ℕ)) (h : List ℕ) → side_of ws ≡ Some h → AreClean ws
side_clean ws hash h = let word = then_some hash_of (word_after (codes "side") ws) hash h in word_after_clean (codes "side") ws word.0 refl word.1 (within_clean 32 32 word.0 hash word.2)

-- ---- lines of a block of many claims that match
many_clean : (ws : List (List ℕ)) (head : ManyHead) → many_of ws ≡ Some head → AreClean ws
many_clean ws head h =
    let two = then_some many_head_of (two_after (codes "many") ws) head h in
    let numbers = both_some _ (number_upto max_claims two.0.0) (number_upto max_items two.0.1) head two.2 in
    let claims = then_some _ (number two.0.0) numbers.0 numbers.2 in
    let items = then_some _ (number two.0.1) numbers.1 numbers.3 in
    two_after_clean (codes "many") ws two.0 refl two.1 (number_clean two.0.0 claims.0 claims.1) (number_clean two.0.1 items.0 items.1)

pub named_claim_clean : (ws : List (List ℕ)) (c : NamedClaim) → named_claim_of ws ≡ Some c → AreClean ws
named_claim_clean ws c h =
    let two = then_some named_claim_from (two_after (codes "claim") ws) c h in
    let parts = both_some (λ name claim. (name, claim)) (name_of two.0.0) (claim_of_word two.0.1) c two.2 in
    two_after_clean (codes "claim") ws two.0 refl two.1 (within_clean 1 128 two.0.0 parts.0 parts.2) (claimed_clean two.0.1 parts.1 (is_word two.0.1 (codes "none")) refl parts.3)

lone_clean : (k : List ℕ) (ws : List (List ℕ)) → IsClean k → is_lone k ws ≡ true → AreClean ws
lone_clean k [] keyword h = absurd cc
lone_clean k (w ∷ []) keyword h = (word_clean w k h keyword, tt)
lone_clean k (w ∷ a ∷ ws) keyword h = absurd cc

item_by : (ws : List (List ℕ)) (i : Item) (t : Bool) → is_lone (codes "fork") ws ≡ t → (o : Option (List ℕ)) → word_after (codes "rest") ws ≡ o
    → cond t (Some item.Fork) (elim o as (λ p. Option Item) [ Some w ↦ option_map (λ hash. item.Rest hash) (hash_of w) | None ↦ option_map (λ leaf. item.End leaf) (end_line_of ws) ]) ≡ Some i → AreClean ws
item_by ws i true e o is h = lone_clean (codes "fork") ws refl e
item_by ws i false e (Some w) is h = let hash = map_some (λ hash. item.Rest hash) (hash_of w) i h in word_after_clean (codes "rest") ws w refl is (within_clean 32 32 w hash.0 hash.1)
item_by ws i false e None is h = let leaf = map_some (λ leaf. item.End leaf) (end_line_of ws) i h in pair_clean (codes "end") refl ws leaf.0 (word_after (codes "end") ws) refl leaf.1

pub item_clean : (ws : List (List ℕ)) (i : Item) → item_of ws ≡ Some i → AreClean ws
item_clean ws i h = item_by ws i (is_lone (codes "fork") ws) refl (word_after (codes "rest") ws) refl h

-- ---- lines between blocks that match
opening_by : (ws : List (List ℕ)) (x : Opening) (o : Option FirstLine) → first_line_of ws ≡ o → opening_from o (many_of ws) ≡ Some x → AreClean ws
opening_by ws x (Some f) is h = first_clean ws f (root_line_of ws) refl is
opening_by ws x None is h = let head = map_some (λ head. opening.Many head) (many_of ws) x h in many_clean ws head.0 head.1

pub opening_clean : (ws : List (List ℕ)) (x : Opening) → opening_of ws ≡ Some x → AreClean ws
opening_clean ws x h = opening_by ws x (first_line_of ws) refl h

-- ---- a line with a line feed in it
clean_append : (v w : List ℕ) → IsClean v → IsClean w → IsClean (v ++ w)
clean_append [] w one two = two
clean_append (b ∷ v) w one two = let parts = not_and_passes (b == 10) (is_without 10 v) one in clean_more b (v ++ w) parts.0 (clean_append v w parts.1 two)

joined_clean : (ws : List (List ℕ)) → AreClean ws → IsClean (join_with_byte 32 ws)
joined_clean [] clean = refl
joined_clean (w ∷ []) clean = clean.0
joined_clean (w ∷ v ∷ vs) clean = clean_append w (32 ∷ join_with_byte 32 (v ∷ vs)) clean.0 (joined_clean (v ∷ vs) clean.1)

words_clean : (line : List ℕ) → AreClean (words line) → IsClean line
unfolding words
words_clean line clean = subst IsClean (join_with_byte-slice_split 32 line) (joined_clean (slice_split (λ b. b == 32) line) clean)

module _ {X : Type 0} (f : List (List ℕ) → Option X) (clean : (ws : List (List ℕ)) (x : X) → f ws ≡ Some x → AreClean ws) (line : List ℕ) (dirty : is_without 10 line ≡ false) where
  says_nothing : (o : Option X) → f (words line) ≡ o → o ≡ None
  says_nothing None is = refl
  says_nothing (Some x) is = absurd (let whole = words_clean line (clean (words line) x is) in cc)

  long_or_not : (t : Bool) → cond t None (f (words line)) ≡ None
  long_or_not true = refl
  long_or_not false = says_nothing (f (words line)) refl

  -- nothing is read of it
  pub unread : line_read f line ≡ None
  unread = long_or_not (is_long line)
