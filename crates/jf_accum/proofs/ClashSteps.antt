-- Where two ways to one total come apart: what hashes to the same is the same, or two inputs collide.
use Rattle.std.specs.Prelude.{◌≡◌, ◌≢◌, ℕ, ◌+◌, ◌-◌, ◌<◌, ◌≤◌, Bool, true, false, not, ◌||◌, ◌==◌, nat_le, nat_lt, bytes_eq, List, [], ◌∷◌, ◌++◌, length, reverse, take, drop, None}
use Rattle.std.proofs.Common.{arith, sym, ap, ap₂, ◌∙◌, refl, get_or, length-take, length-drop, take-append-drop, true≢false}
use Rattle.std.proofs.lemmas.List.{append-nil, take_at, drop_at}
use Rattle.std.proofs.lemmas.Bool.{not-false}
use Rattle.std.proofs.lemmas.Bool.Decides.{nat_tests}
use Rattle.std.proofs.lemmas.Slice.Eq.{bytes_eq-Decides, slice_eq-Decides}
use Rattle.std.specs.Cmp.Lexicographic.{pointwise}
use Rattle.sha2.specs.Sha256.{sha256}
use Rattle.jf_path.specs.Checks.{first_of}
use Rattle.jf_path.proofs.BoolLaws.{neither}
use Rattle.jf_hash.specs.Hashes.{IsCollision}
use Rattle.jf_accum.specs.Totals.{A, B, left_count, total}
use Rattle.jf_accum.specs.Members.{member_count, member_total, member_refusal}
use Rattle.jf_accum.specs.Extensions.{extension_count_in, extension_count, extension_totals, extension_refusal}
use Rattle.jf_accum.specs.Outcomes.{IsFront}
use Rattle.jf_accum.proofs.Counts.{left_count-tells}
use Rattle.jf_accum.proofs.TotalLaws.{A-input, B-input, total-one, total-split}
use Rattle.jf_accum.proofs.MemberLaws.{Path, member_count-left, member_count-right, member_total-none, member_total-left, member_total-right, turned}

-- ---- inputs
-- two lists that are joined from two parts, the first of one length, have the same parts
pub same-parts : (a b c d : List ℕ) → length a ≡ length c → a ++ b ≡ c ++ d → (a ≡ c) × (b ≡ d)
same-parts a b c d long same = (
  sym (take_at a b (length a) refl) ∙ ap (take (length a)) same ∙ take_at c d (length a) (sym long),
  sym (drop_at a b (length a) refl) ∙ ap (drop (length a)) same ∙ drop_at c d (length a) (sym long),
)

pub single-collides : (x y f s : List ℕ) → x ≡ 5 ∷ f ++ [] → y ≡ 5 ∷ s ++ [] → A f ≡ A s → f ≢ s → IsCollision x y
single-collides x y f s is_x is_y meet apart =
    let x_is : x ≡ 5 ∷ f = is_x ∙ ap (λ (t : List ℕ). 5 ∷ t) (append-nil f) in
    let y_is : y ≡ 5 ∷ s = is_y ∙ ap (λ (t : List ℕ). 5 ∷ t) (append-nil s) in
    record { differ = λ same. apart (ap (drop 1) (sym x_is ∙ same ∙ y_is)); meet = ap sha256 x_is ∙ sym (A-input f) ∙ meet ∙ A-input s ∙ ap sha256 (sym y_is) }

pub not-same : (b : Bool) (x y : List ℕ) → b ≡ bytes_eq x y → b ≡ false → x ≢ y
not-same b x y is none same = absurd (let yes = (bytes_eq-Decides x y).1 same in cc)

pub pair-collides : (x y l r l' r' : List ℕ) → length l ≡ 32 → length l' ≡ 32 → x ≡ 6 ∷ l ++ r → y ≡ 6 ∷ l' ++ r' → B l r ≡ B l' r' → (l ≡ l' → r ≢ r') → IsCollision x y
pair-collides x y l r l' r' long long' is_x is_y meet apart =
    record {
      differ = λ same. let parts = same-parts l r l' r' (long ∙ sym long') (ap (drop 1) (sym is_x ∙ same ∙ is_y)) in apart parts.0 parts.1;
      meet = ap sha256 is_x ∙ sym (B-input l r) ∙ meet ∙ B-input l' r' ∙ ap sha256 (sym is_y);
    }

-- what a test of two lists of hashes tells
pub lists-differ : (xs ys : Path) (r : Bool) → r ≡ not (pointwise bytes_eq xs ys) → r ≡ true → xs ≢ ys
lists-differ xs ys r is told same = let alike = (slice_eq-Decides bytes_eq-Decides xs ys (pointwise bytes_eq xs ys) refl).1 same in absurd (true≢false (sym told ∙ is ∙ ap not alike))

pub lists-same : (xs ys : Path) (r : Bool) → r ≡ not (pointwise bytes_eq xs ys) → r ≡ false → xs ≡ ys
lists-same xs ys r is none = (slice_eq-Decides bytes_eq-Decides xs ys (pointwise bytes_eq xs ys) refl).0 (not-false _ (sym is ∙ none))

-- what the test of a front tells
pub front-same : (old list olds hashes front : Path) (r : Bool) → olds ≡ old → hashes ≡ list → front ≡ take (length olds) hashes → r ≡ pointwise bytes_eq front olds → r ≡ true → IsFront old list
front-same old list olds hashes front r is_o is_h is_f is told =
    let alike : front ≡ olds = (slice_eq-Decides bytes_eq-Decides front olds r is).0 told in
    ap₂ (λ (o h : Path). take (length o) h) (sym is_o) (sym is_h) ∙ sym is_f ∙ alike ∙ is_o

pub front-differs : (old list olds hashes front : Path) (r : Bool) → olds ≡ old → hashes ≡ list → front ≡ take (length olds) hashes → r ≡ pointwise bytes_eq front olds → r ≡ false → IsFront old list → ⊥
front-differs old list olds hashes front r is_o is_h is_f is told same =
    let alike : front ≡ olds = is_f ∙ ap₂ (λ (o h : Path). take (length o) h) is_o is_h ∙ same ∙ sym is_o in
    true≢false (sym ((slice_eq-Decides bytes_eq-Decides front olds r is).1 alike) ∙ told)

-- ---- two lists of one length
pub short-meet : (xs ys : Path) → length xs ≡ length ys → length xs < 2 → xs ≢ ys → total xs ≡ total ys → A (get_or xs 0 []) ≡ A (get_or ys 0 [])
short-meet [] [] long short apart meet = absurd (apart refl)
short-meet [] (y ∷ ys) long short apart meet = absurd (omega arith)
short-meet (x ∷ xs) [] long short apart meet = absurd (omega arith)
short-meet (x ∷ []) (y ∷ []) long short apart meet = sym (total-one x) ∙ meet ∙ total-one y
short-meet (x ∷ z ∷ xs) ys long short apart meet = absurd (omega arith)
short-meet (x ∷ []) (y ∷ z ∷ ys) long short apart meet = absurd (omega arith)

pub cut-count : (n k : ℕ) → 1 < n → k ≡ left_count n → k ≤ n
cut-count n k two count = let tells = left_count-tells n two in let below = tells.below in omega arith

-- the total of a list from those of the parts into which it is cut
pub cut-total : (xs l r : Path) (k : ℕ) → 1 < length xs → k ≡ left_count (length xs) → l ≡ take k xs → r ≡ drop k xs → total xs ≡ B (total l) (total r)
cut-total xs l r k two count is_l is_r =
    total-split xs two ∙ ap₂ (λ (a b : Path). B (total a) (total b)) (ap (λ n. take n xs) (sym count) ∙ sym is_l) (ap (λ n. drop n xs) (sym count) ∙ sym is_r)

pub parts-meet : (xs ys l r l' r' : Path) (k : ℕ) (a b c d : List ℕ) → length xs ≡ length ys → 1 < length xs → k ≡ left_count (length xs) → l ≡ take k xs → r ≡ drop k xs → l' ≡ take k ys → r' ≡ drop k ys
    → a ≡ total l → b ≡ total r → c ≡ total l' → d ≡ total r' → total xs ≡ total ys → B a b ≡ B c d
parts-meet xs ys l r l' r' k a b c d long two count is_l is_r is_l' is_r' is_a is_b is_c is_d meet =
    ap₂ B is_a is_b ∙ sym (cut-total xs l r k two count is_l is_r) ∙ meet
    ∙ cut-total ys l' r' k (omega arith) (count ∙ ap left_count long) is_l' is_r' ∙ sym (ap₂ B is_c is_d)

-- lists whose parts are the same are the same
pub parts-apart : (xs ys l r l' r' : Path) (k : ℕ) → l ≡ take k xs → r ≡ drop k xs → l' ≡ take k ys → r' ≡ drop k ys → xs ≢ ys → l ≡ l' → r ≢ r'
parts-apart xs ys l r l' r' k is_l is_r is_l' is_r' apart left right =
    apart (sym (take-append-drop k xs) ∙ ap₂ (λ (a b : Path). a ++ b) (sym is_l ∙ left ∙ is_l') (sym is_r ∙ right ∙ is_r') ∙ take-append-drop k ys)

pub cut-long : (xs ys l l' : Path) (k : ℕ) → length xs ≡ length ys → l ≡ take k xs → l' ≡ take k ys → length l ≡ length l'
cut-long xs ys l l' k long is_l is_l' = omega (arith, ap length is_l, ap length is_l', length-take k xs, length-take k ys)

pub rest-long : (xs ys r r' : Path) (k : ℕ) → length xs ≡ length ys → r ≡ drop k xs → r' ≡ drop k ys → length r ≡ length r'
rest-long xs ys r r' k long is_r is_r' = omega (arith, ap length is_r, ap length is_r', length-drop k xs, length-drop k ys)

-- ---- two ways up to one total
up_left : (len i k : ℕ) (f a x : List ℕ) (ours lower : Path) → k ≡ left_count len → i < k → ours ≡ lower ++ a ∷ [] → x ≡ member_total k i f (reverse lower) → B x a ≡ member_total len i f (reverse ours)
up_left len i k f a x ours lower count lo is_ours is_x =
    let lt : i < left_count len = omega arith in
    ap (λ t. B t a) (is_x ∙ ap (λ n. member_total n i f (reverse lower)) count)
    ∙ sym (ap (λ (p : Path). member_total len i f (reverse p)) is_ours ∙ ap (member_total len i f) (turned lower a) ∙ member_total-left len i f a (reverse lower) lt)

pub ways-meet_left : (len i k : ℕ) (f s a b x y : List ℕ) (ours theirs lower others : Path) → k ≡ left_count len → i < k → ours ≡ lower ++ a ∷ [] → theirs ≡ others ++ b ∷ []
    → x ≡ member_total k i f (reverse lower) → y ≡ member_total k i s (reverse others) → member_total len i f (reverse ours) ≡ member_total len i s (reverse theirs) → B x a ≡ B y b
ways-meet_left len i k f s a b x y ours theirs lower others count lo is_ours is_theirs is_x is_y meet =
    up_left len i k f a x ours lower count lo is_ours is_x ∙ meet ∙ sym (up_left len i k s b y theirs others count lo is_theirs is_y)

up_right : (len i k : ℕ) (f a x : List ℕ) (ours lower : Path) → k ≡ left_count len → k ≤ i → ours ≡ lower ++ a ∷ [] → x ≡ member_total (len - k) (i - k) f (reverse lower) → B a x ≡ member_total len i f (reverse ours)
up_right len i k f a x ours lower count hi is_ours is_x =
    let ge : left_count len ≤ i = omega arith in
    ap (λ t. B a t) (is_x ∙ ap (λ n. member_total (len - n) (i - n) f (reverse lower)) count)
    ∙ sym (ap (λ (p : Path). member_total len i f (reverse p)) is_ours ∙ ap (member_total len i f) (turned lower a) ∙ member_total-right len i f a (reverse lower) ge)

pub ways-meet_right : (len i k : ℕ) (f s a b x y : List ℕ) (ours theirs lower others : Path) → k ≡ left_count len → k ≤ i → ours ≡ lower ++ a ∷ [] → theirs ≡ others ++ b ∷ []
    → x ≡ member_total (len - k) (i - k) f (reverse lower) → y ≡ member_total (len - k) (i - k) s (reverse others) → member_total len i f (reverse ours) ≡ member_total len i s (reverse theirs) → B a x ≡ B b y
ways-meet_right len i k f s a b x y ours theirs lower others count hi is_ours is_theirs is_x is_y meet =
    up_right len i k f a x ours lower count hi is_ours is_x ∙ meet ∙ sym (up_right len i k s b y theirs others count hi is_theirs is_y)

-- two ways without a total beside them
pub ways-alone : (len i : ℕ) (f s : List ℕ) (ours theirs : Path) → length ours ≡ 0 → length ours ≡ member_count len i → length theirs ≡ member_count len i → member_total len i f (reverse ours) ≡ member_total len i s (reverse theirs) → A f ≡ A s
ways-alone len i f s [] [] none count count' meet = sym (member_total-none len i f) ∙ meet ∙ member_total-none len i s
ways-alone len i f s [] (t ∷ theirs) none count count' meet = absurd (omega arith)
ways-alone len i f s (t ∷ ours) theirs none count count' meet = absurd (omega arith)

pub cut-below : (len i k : ℕ) → 1 < len → k ≡ left_count len → i < len → i - k < len - k
cut-below len i k two count place = let tells = left_count-tells len two in let below = tells.below in omega arith

-- how many totals are left below
pub count-left : (len i k n m : ℕ) → 1 < len → k ≡ left_count len → i < k → n + 1 ≡ m → m ≡ member_count len i → n ≡ member_count k i
count-left len i k n m two count lo more is =
    let same : member_count k i ≡ member_count (left_count len) i = ap (λ j. member_count j i) count in
    omega (arith, member_count-left len i two (omega arith))

pub count-right : (len i k n m : ℕ) → 1 < len → k ≡ left_count len → k ≤ i → n + 1 ≡ m → m ≡ member_count len i → n ≡ member_count (len - k) (i - k)
count-right len i k n m two count hi more is =
    let same : member_count (len - k) (i - k) ≡ member_count (len - left_count len) (i - left_count len) = ap (λ j. member_count (len - j) (i - j)) count in
    omega (arith, member_count-right len i two (omega arith))

-- ---- accepted paths
three : {X : Type 0} (a b d : Bool) (w x z : X) → first_of ((a, w) ∷ (b, x) ∷ (d, z) ∷ []) ≡ None → (a ≡ false) × (b ≡ false) × (d ≡ false)
three true b d w x z h = absurd (cc)
three false true d w x z h = absurd (cc)
three false false true w x z h = absurd (cc)
three false false false w x z h = (refl, refl, refl)

-- a path that is accepted is at a place, is as long as it should be and results in the total
pub record IsAcceptedMember (t : List ℕ) (len i : ℕ) (h : List ℕ) (path : Path) : Type 0 where
  pub place : i < len
  pub count : length path ≡ member_count len i
  pub top : member_total len i h (reverse path) ≡ t

pub member-accepted : (t : List ℕ) (len i : ℕ) (h : List ℕ) (path : Path) → member_refusal t len i h path ≡ None → IsAcceptedMember t len i h path
unfolding member_refusal
member-accepted t len i h path ok =
    let tests = three (nat_le len i) (not (length path == member_count len i)) (not (bytes_eq (member_total len i h (reverse path)) t)) _ _ _ ok in
    let place : nat_le len i ≡ false = tests.0 in
    let count : (length path == member_count len i) ≡ true = not-false _ tests.1 in
    record { place = grind (arith, nat_tests); count = grind (arith, nat_tests); top = (bytes_eq-Decides _ _).0 (not-false _ tests.2) }

four : {X : Type 0} (a b c d : Bool) (w x y z : X) → first_of ((a, w) ∷ (b, x) ∷ (c, y) ∷ (d, z) ∷ []) ≡ None → (a ≡ false) × (b ≡ false) × (c ≡ false) × (d ≡ false)
four true b c d w x y z h = absurd (cc)
four false true c d w x y z h = absurd (cc)
four false false true d w x y z h = absurd (cc)
four false false false true w x y z h = absurd (cc)
four false false false false w x y z h = (refl, refl, refl, refl)

pub record IsAcceptedExtension (o : List ℕ) (m : ℕ) (t : List ℕ) (len : ℕ) (path : Path) : Type 0 where
  pub positive : 0 < m
  pub within : m ≤ len
  pub count : length path ≡ extension_count_in len m true
  pub old_top : (extension_totals o m len (reverse path)).0 ≡ o
  pub top : (extension_totals o m len (reverse path)).1 ≡ t

pub extension-accepted : (o : List ℕ) (m : ℕ) (t : List ℕ) (len : ℕ) (path : Path) → extension_refusal o m t len path ≡ None → IsAcceptedExtension o m t len path
unfolding extension_refusal
extension-accepted o m t len path ok =
    let both = extension_totals o m len (reverse path) in
    let tests = four (m == 0 || nat_lt len m) (not (length path == extension_count len m)) (not (bytes_eq both.0 o)) (not (bytes_eq both.1 t)) _ _ _ _ ok in
    let range = neither (m == 0) (nat_lt len m) tests.0 in
    let zero_not : (m == 0) ≡ false = range.0 in
    let above_not : nat_lt len m ≡ false = range.1 in
    let count : (length path == extension_count len m) ≡ true = not-false _ tests.1 in
    record { positive = grind (arith, nat_tests); within = grind (arith, nat_tests); count = grind (arith, nat_tests); old_top = (bytes_eq-Decides _ _).0 (not-false _ tests.2); top = (bytes_eq-Decides _ _).0 (not-false _ tests.3) }

-- the result of an accepted extension, from slices of the lists
pub accepted-totals : (old list proof olds hashes path : Path) (o : List ℕ) → olds ≡ old → hashes ≡ list → path ≡ proof → o ≡ total olds
    → extension_totals o (length olds) (length hashes) (reverse path) ≡ extension_totals (total old) (length old) (length list) (reverse proof)
accepted-totals old list proof olds hashes path o is_o is_h is_p is =
    ap₂ (λ (t : List ℕ) (p : Path). extension_totals t (length olds) (length hashes) (reverse p)) (is ∙ ap total is_o) is_p
    ∙ ap₂ (λ (x y : Path). extension_totals (total old) (length x) (length y) (reverse proof)) is_o is_h
