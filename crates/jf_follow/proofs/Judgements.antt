-- How versions judge a landing, row by row.
use Rattle.std.proofs.Common.{◌≡◌, ℕ, ◌+◌, ◌-◌, ◌≤◌, ◌<◌, ◌^◌, Bool, true, false, cond, not, ◌&&◌, ◌||◌, nat_le, nat_lt, bytes_eq, List, [], ◌∷◌, Some, unwrap_or, refl, ap, ap₂, ◌∙◌, subst, arith}
use Rattle.std.proofs.lemmas.Bool.Decides.{nat_tests}
use Rattle.std.proofs.lemmas.Slice.Eq.{bytes_eq-Decides}
use Rattle.std.specs.List.{AllByRecursion}
use Rattle.std.specs.FinMap.{len}
use Rattle.jf_path.specs.Checks.{first_of}
use Rattle.jf_path.proofs.BoolLaws.{neither, not_false}
use Rattle.jf_hash.specs.Maps.{Batch}
use Rattle.jf_model.specs.Versions.{Versions, newest, root_of}
use Rattle.jf_lead.specs.declared.block.LandingBlock.{LandingBlock}
use Rattle.jf_follow.specs.declared.fault.FollowFault.{FollowFault}
use Rattle.jf_follow.specs.declared.fault.FollowFault.TheVariants as fault
use Rattle.jf_follow.specs.declared.judging.Judgement.{Judgement}
use Rattle.jf_follow.specs.declared.judging.Judgement.TheVariants as judged
use Rattle.jf_lead.specs.Landings.{landed_block}
use Rattle.jf_follow.specs.Following.{judgement, announced_landing, is_at_limit}

-- ---- the first row that holds
abbrev first_row : List (Bool × Judgement) → Judgement
first_row cs = unwrap_or (first_of cs) judged.Next

pick : (t : Bool) (A : Judgement) (cs : List (Bool × Judgement)) → t ≡ true → first_row ((t, A) ∷ cs) ≡ A
pick t A cs e = ap (λ x. unwrap_or (cond x (Some A) (first_of cs)) judged.Next) e

skip : (t : Bool) (A : Judgement) (cs : List (Bool × Judgement)) → t ≡ false → first_row ((t, A) ∷ cs) ≡ first_row cs
skip t A cs e = ap (λ x. unwrap_or (cond x (Some A) (first_of cs)) judged.Next) e

-- a row that says otherwise is passed by
passed : (J : Judgement) (t : Bool) (A : Judgement) (cs : List (Bool × Judgement)) → (A ≡ J → ⊥) → first_row ((t, A) ∷ cs) ≡ J → (t ≡ false) × (first_row cs ≡ J)
passed J true A cs other e = absurd (other e)
passed J false A cs other e = (refl, e)

-- what holds of each row, and of the next version, holds of the first row that holds
of_rows : (P : Judgement → Type 0) (cs : List (Bool × Judgement)) → AllByRecursion (λ c. P c.1) cs → P judged.Next → P (first_row cs)
of_rows P [] all next = next
of_rows P ((true, A) ∷ cs) all next = all.0
of_rows P ((false, A) ∷ cs) all next = of_rows P cs all.1 next

refused_not_next : (why : FollowFault) → judged.Refused why ≡ judged.Next → ⊥
refused_not_next why e = absurd (cc)

known_not_next : judged.Known ≡ judged.Next → ⊥
known_not_next e = absurd (cc)

refused_not_known : (why : FollowFault) → judged.Refused why ≡ judged.Known → ⊥
refused_not_known why e = absurd (cc)

next_not_known : judged.Next ≡ judged.Known → ⊥
next_not_known e = absurd (cc)

other_root : (r q : List ℕ) → (r ≡ q → ⊥) → bytes_eq r q ≡ false
other_root r q differ = elim (bytes_eq r q) as (λ t. bytes_eq r q ≡ t → t ≡ false) [ true ↦ λ e. absurd (differ ((bytes_eq-Decides r q).0 e)) | false ↦ λ e. refl ] refl

both_yes : (a b : Bool) → (a && b) ≡ true → (a ≡ true) × (b ≡ true)
both_yes true b e = (refl, e)
both_yes false b e = absurd (cc)

-- ---- what each row tells
-- what is to be landed is the next version, with its own root
pub record IsNext (v : Versions) (b : LandingBlock) : Type 0 where
  pub low : v.base ≤ b.version
  pub follows : b.version ≡ v.head + 1
  pub more : is_at_limit v ≡ false
  pub rooted : (landed_block v b.batch).root ≡ b.root

-- what is known is a version that is there, with this root
pub record IsKnown (v : Versions) (version : ℕ) (r : List ℕ) : Type 0 where
  pub low : v.base ≤ version
  pub high : version ≤ v.head
  pub same : root_of v version ≡ r

-- a fault that the table can give
abbrev pub IsOfTable : FollowFault → Type 0
IsOfTable fault.Broken = ⊥
IsOfTable fault.DiskFault = ⊥
IsOfTable fault.Memory = ⊥
IsOfTable why = Unit {0}

abbrev RefusesByTable : Judgement → Type 0
RefusesByTable judged.Known = Unit {0}
RefusesByTable judged.Next = Unit {0}
RefusesByTable (judged.Refused why) = IsOfTable why

module _ (v : Versions) (b : LandingBlock) where
  abbrev row_six : List (Bool × Judgement)
  row_six = (not (bytes_eq (landed_block v b.batch).root b.root), judged.Refused (fault.Differs b.version b.root (landed_block v b.batch).root)) ∷ []

  abbrev row_five : List (Bool × Judgement)
  row_five = (is_at_limit v, judged.Refused fault.Last) ∷ row_six

  abbrev row_four : List (Bool × Judgement)
  row_four = (nat_lt (v.head + 1) b.version, judged.Refused (fault.Gap v.head)) ∷ row_five

  abbrev row_three : List (Bool × Judgement)
  row_three = (nat_le b.version v.head, judged.Refused (fault.Differs b.version b.root (root_of v b.version))) ∷ row_four

  abbrev row_two : List (Bool × Judgement)
  row_two = (nat_le b.version v.head && bytes_eq (root_of v b.version) b.root, judged.Known) ∷ row_three

  abbrev row_one : List (Bool × Judgement)
  row_one = (nat_lt b.version v.base, judged.Refused (fault.Below v.base)) ∷ row_two

  -- the table refuses for causes of its own alone
  refuses_by_table : RefusesByTable (judgement v b)
  unfolding judgement
  refuses_by_table = of_rows RefusesByTable row_one (tt, (tt, (tt, (tt, (tt, (tt, tt)))))) tt

  pub of_table : (why : FollowFault) → judgement v b ≡ judged.Refused why → IsOfTable why
  of_table why is = subst RefusesByTable is refuses_by_table

  -- the version is below the base
  pub row_below : b.version < v.base → judgement v b ≡ judged.Refused (fault.Below v.base)
  unfolding judgement
  row_below lt = pick (nat_lt b.version v.base) _ row_two (grind (arith, nat_tests))

  not_below : v.base ≤ b.version → nat_lt b.version v.base ≡ false
  not_below le = grind (arith, nat_tests)

  there : b.version ≤ v.head → nat_le b.version v.head ≡ true
  there le = grind (arith, nat_tests)

  not_there : v.head < b.version → nat_le b.version v.head ≡ false
  not_there lt = grind (arith, nat_tests)

  -- the version is there, with this root
  pub row_known : v.base ≤ b.version → b.version ≤ v.head → root_of v b.version ≡ b.root → judgement v b ≡ judged.Known
  unfolding judgement
  row_known low high same =
      skip (nat_lt b.version v.base) _ row_two (not_below low)
      ∙ pick (nat_le b.version v.head && bytes_eq (root_of v b.version) b.root) _ row_three (ap₂ (λ s t. s && t) (there high) ((bytes_eq-Decides (root_of v b.version) b.root).1 same))

  -- the version is there, with another root
  pub row_other : v.base ≤ b.version → b.version ≤ v.head → (root_of v b.version ≡ b.root → ⊥) → judgement v b ≡ judged.Refused (fault.Differs b.version b.root (root_of v b.version))
  unfolding judgement
  row_other low high differ =
      skip (nat_lt b.version v.base) _ row_two (not_below low)
      ∙ skip (nat_le b.version v.head && bytes_eq (root_of v b.version) b.root) _ row_three (ap₂ (λ s t. s && t) (there high) (other_root (root_of v b.version) b.root differ))
      ∙ pick (nat_le b.version v.head) _ row_four (there high)

  -- a version above the head reaches the rows after the third
  above : v.base ≤ v.head → v.head < b.version → judgement v b ≡ first_row row_four
  unfolding judgement
  above low lt =
      skip (nat_lt b.version v.base) _ row_two (not_below (omega arith))
      ∙ skip (nat_le b.version v.head && bytes_eq (root_of v b.version) b.root) _ row_three (ap (λ t. t && bytes_eq (root_of v b.version) b.root) (not_there lt))
      ∙ skip (nat_le b.version v.head) _ row_four (not_there lt)

  -- the version is above the next
  pub row_gap : v.base ≤ v.head → v.head + 1 < b.version → judgement v b ≡ judged.Refused (fault.Gap v.head)
  row_gap low lt = above low (omega arith) ∙ pick (nat_lt (v.head + 1) b.version) _ row_five (grind (arith, nat_tests))

  -- the next version reaches the last two rows
  next : v.base ≤ v.head → b.version ≡ v.head + 1 → judgement v b ≡ first_row row_five
  next low is = above low (omega arith) ∙ skip (nat_lt (v.head + 1) b.version) _ row_five (grind (arith, nat_tests))

  -- no version may follow
  pub row_last : v.base ≤ v.head → b.version ≡ v.head + 1 → is_at_limit v ≡ true → judgement v b ≡ judged.Refused fault.Last
  row_last low is last = next low is ∙ pick (is_at_limit v) _ row_six last

  -- the batch results in another root
  pub row_differs : v.base ≤ v.head → b.version ≡ v.head + 1 → is_at_limit v ≡ false → ((landed_block v b.batch).root ≡ b.root → ⊥) → judgement v b ≡ judged.Refused (fault.Differs b.version b.root (landed_block v b.batch).root)
  row_differs low is more differ =
      next low is ∙ skip (is_at_limit v) _ row_six more ∙ pick (not (bytes_eq (landed_block v b.batch).root b.root)) _ [] (ap not (other_root (landed_block v b.batch).root b.root differ))

  -- it is the next version
  pub row_next : v.base ≤ v.head → b.version ≡ v.head + 1 → is_at_limit v ≡ false → (landed_block v b.batch).root ≡ b.root → judgement v b ≡ judged.Next
  row_next low is more same =
      next low is ∙ skip (is_at_limit v) _ row_six more ∙ skip (not (bytes_eq (landed_block v b.batch).root b.root)) _ [] (ap not ((bytes_eq-Decides (landed_block v b.batch).root b.root).1 same))

  follows_head : nat_le b.version v.head ≡ false → nat_lt (v.head + 1) b.version ≡ false → b.version ≡ v.head + 1
  follows_head h k = grind (arith, nat_tests)

  is_above_base : nat_lt b.version v.base ≡ false → v.base ≤ b.version
  is_above_base h = grind (arith, nat_tests)

  is_there : nat_le b.version v.head ≡ true → b.version ≤ v.head
  is_there h = grind (arith, nat_tests)

  pub judged_next : judgement v b ≡ judged.Next → IsNext v b
  unfolding judgement
  judged_next e =
      let one = passed judged.Next (nat_lt b.version v.base) _ row_two (refused_not_next (fault.Below v.base)) e in
      let two = passed judged.Next (nat_le b.version v.head && bytes_eq (root_of v b.version) b.root) _ row_three known_not_next one.1 in
      let three = passed judged.Next (nat_le b.version v.head) _ row_four (refused_not_next (fault.Differs b.version b.root (root_of v b.version))) two.1 in
      let four = passed judged.Next (nat_lt (v.head + 1) b.version) _ row_five (refused_not_next (fault.Gap v.head)) three.1 in
      let five = passed judged.Next (is_at_limit v) _ row_six (refused_not_next fault.Last) four.1 in
      let six = passed judged.Next (not (bytes_eq (landed_block v b.batch).root b.root)) _ [] (refused_not_next (fault.Differs b.version b.root (landed_block v b.batch).root)) five.1 in
      record {
        low = is_above_base one.0;
        follows = follows_head three.0 four.0;
        more = five.0;
        rooted = (bytes_eq-Decides (landed_block v b.batch).root b.root).0 (not_false (bytes_eq (landed_block v b.batch).root b.root) six.0);
      }

  -- the rows after the second one never say that it is known
  not_later : first_row row_three ≡ judged.Known → ⊥
  not_later e =
      let three = passed judged.Known (nat_le b.version v.head) _ row_four (refused_not_known (fault.Differs b.version b.root (root_of v b.version))) e in
      let four = passed judged.Known (nat_lt (v.head + 1) b.version) _ row_five (refused_not_known (fault.Gap v.head)) three.1 in
      let five = passed judged.Known (is_at_limit v) _ row_six (refused_not_known fault.Last) four.1 in
      let six = passed judged.Known (not (bytes_eq (landed_block v b.batch).root b.root)) _ [] (refused_not_known (fault.Differs b.version b.root (landed_block v b.batch).root)) five.1 in
      next_not_known six.1

  second : (t : Bool) → nat_le b.version v.head && bytes_eq (root_of v b.version) b.root ≡ t → first_row ((t, judged.Known) ∷ row_three) ≡ judged.Known → nat_le b.version v.head && bytes_eq (root_of v b.version) b.root ≡ true
  second true is e = is
  second false is e = absurd (not_later e)

  pub judged_known : judgement v b ≡ judged.Known → IsKnown v b.version b.root
  unfolding judgement
  judged_known e =
      let one = passed judged.Known (nat_lt b.version v.base) _ row_two (refused_not_known (fault.Below v.base)) e in
      let t : Bool = nat_le b.version v.head && bytes_eq (root_of v b.version) b.root in
      let both = both_yes (nat_le b.version v.head) (bytes_eq (root_of v b.version) b.root) (second t refl one.1) in
      record { low = is_above_base one.0; high = is_there both.0; same = (bytes_eq-Decides (root_of v b.version) b.root).0 both.1 }

-- ---- the next version
-- with its own root it is to be landed, unless no version may follow
pub next_judgement : (v : Versions) (batch : Batch) → v.base ≤ v.head → judgement v (announced_landing (v.head + 1) (landed_block v batch).root batch) ≡ cond (is_at_limit v) (judged.Refused fault.Last) judged.Next
next_judgement v batch low =
    let b : LandingBlock = announced_landing (v.head + 1) (landed_block v batch).root batch in
    elim (is_at_limit v) as (λ t. is_at_limit v ≡ t → judgement v b ≡ cond t (judged.Refused fault.Last) judged.Next) [ true ↦ λ last. row_last v b low refl last | false ↦ λ more. row_next v b low refl more refl ] refl

head_small : (head : ℕ) → nat_le (2 ^ 64 - 2) head ≡ false → head + 1 ≤ 2 ^ 64 - 2
head_small head e = grind (arith, nat_tests)

map_small : (n : ℕ) → nat_lt (2 ^ 62) n ≡ false → n ≤ 2 ^ 62
map_small n e = grind (arith, nat_tests)

-- what isn't at its limit may be followed by a version
pub not_at_limit : (v : Versions) → is_at_limit v ≡ false → (v.head + 1 ≤ 2 ^ 64 - 2) × (len (newest v) ≤ 2 ^ 62)
not_at_limit v e =
    let parts = neither (nat_le (2 ^ 64 - 2) v.head) (nat_lt (2 ^ 62) (len (newest v))) e in
    (head_small v.head parts.0, map_small (len (newest v)) parts.1)

-- the limit, by its two numbers
pub limit_of_head : (v : Versions) → 2 ^ 64 - 2 ≤ v.head → is_at_limit v ≡ true
limit_of_head v le = let e : nat_le (2 ^ 64 - 2) v.head ≡ true = grind (arith, nat_tests) in ap (λ t. t || nat_lt (2 ^ 62) (len (newest v))) e

or_yes : (a b : Bool) → b ≡ true → (a || b) ≡ true
or_yes true b e = refl
or_yes false b e = e

pub limit_of_map : (v : Versions) → 2 ^ 62 < len (newest v) → is_at_limit v ≡ true
limit_of_map v lt = or_yes (nat_le (2 ^ 64 - 2) v.head) (nat_lt (2 ^ 62) (len (newest v))) (grind (arith, nat_tests))

pub no_limit : (v : Versions) → v.head < 2 ^ 64 - 2 → len (newest v) ≤ 2 ^ 62 → is_at_limit v ≡ false
no_limit v low small =
    let head : nat_le (2 ^ 64 - 2) v.head ≡ false = grind (arith, nat_tests) in
    let map : nat_lt (2 ^ 62) (len (newest v)) ≡ false = grind (arith, nat_tests) in
    ap₂ (λ s t. s || t) head map
