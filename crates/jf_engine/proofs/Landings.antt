-- Landings in memory, one after another: what they write, and how they are taken back.
use Rattle.std.specs.Prelude.{IsTrue, slice_index_or}
use Rattle.std.proofs.Common.{◌≡◌, refl, sym, ◌∙◌, ap, ap₂, subst, ℕ, suc, ◌+◌, ◌-◌, ◌≤◌, ◌<◌, ◌^◌, List, [], ◌∷◌, ◌++◌, length, take, drop, reverse, arith, length-append, length-take-le, eq-eqb}
use Rattle.std.proofs.lemmas.Bool.{and_from}
use Rattle.std.proofs.lemmas.List.{reverse-append, drop_more, take_all}
use Rattle.std.proofs.Math.Seq.{take-suc, take-append_seam}
use Rattle.std.specs.FinMap.{len}
use Rattle.std.specs.List.{AllByRecursion}
use Rattle.jf_path.specs.Limits.{max_forks}
use Rattle.jf_path.proofs.ListLaws.{All-append}
use Rattle.jf_hash.specs.Maps.{Batch, IsMap, IsBatch, apply}
use Rattle.jf_model.specs.Batches.{key_count}
use Rattle.jf_codec.specs.declared.format.Format.{Format}
use Rattle.jf_codec.specs.declared.format.Format.TheVariants as format
use Rattle.jf_payload.specs.declared.records.Commit.{Commit}
use Rattle.jf_payload.specs.Spelling.{IsCommit, IsRecord, are_consecutive}
use Rattle.jf_standing.specs.Named.{not_stale}
use Rattle.jf_standing.specs.Standing.{Standing}
use Rattle.jf_standing.specs.Sound.{IsSound}
use Rattle.jf_standing.specs.Next.{IsReadStanding}
use Rattle.jf_standing.specs.Landing.{head_map, landing_of}
use Rattle.jf_standing.specs.Building.{landed_on, landings_of, all_landed}
use Rattle.jf_files.specs.StepLaws.{landed_record}
use Rattle.jf_engine.specs.Landings.{LandsCommits}

-- ---- what landings write
landings-push : (fmt : Format) (s : Standing) (bs : List Batch) (b : Batch) → landings_of fmt s (bs ++ b ∷ []) ≡ landings_of fmt s bs ++ landing_of fmt (all_landed fmt s bs) (apply (head_map (all_landed fmt s bs)) b) ∷ []
landings-push fmt s [] b = refl
landings-push fmt s (x ∷ bs) b = ap (λ cs. landing_of fmt s (apply (head_map s) x) ∷ cs) (landings-push fmt (landed_on fmt (apply (head_map s) x) s) bs b)

all_landed-push : (fmt : Format) (s : Standing) (bs : List Batch) (b : Batch) → all_landed fmt s (bs ++ b ∷ []) ≡ landed_on fmt (apply (head_map (all_landed fmt s bs)) b) (all_landed fmt s bs)
all_landed-push fmt s [] b = refl
all_landed-push fmt s (x ∷ bs) b = all_landed-push fmt (landed_on fmt (apply (head_map s) x) s) bs b

length-landings : (fmt : Format) (s : Standing) (bs : List Batch) → length (landings_of fmt s bs) ≡ length bs
length-landings fmt s [] = refl
length-landings fmt s (b ∷ bs) = ap suc (length-landings fmt (landed_on fmt (apply (head_map s) b) s) bs)

-- the versions of landings rise by one
landings-follow : (fmt : Format) (s : Standing) (bs : List Batch) → IsTrue (are_consecutive (landings_of fmt s bs))
landings-follow fmt s [] = refl
landings-follow fmt s (b ∷ []) = refl
landings-follow fmt s (b ∷ x ∷ bs) = and_from _ _ (eq-eqb _ _ refl) (landings-follow fmt (landed_on fmt (apply (head_map s) b) s) (x ∷ bs))

-- landings that have a spelling are a record that has one
landed_record-spelled : (cs : List Commit) → AllByRecursion (IsCommit format.Two) cs → IsTrue (are_consecutive cs) → 1 ≤ length cs → length cs ≤ max_forks → IsRecord format.Two (landed_record cs)
landed_record-spelled [] each versions any few = absurd (omega (arith, any))
landed_record-spelled (c ∷ []) each versions any few = each.0
landed_record-spelled (c ∷ d ∷ cs) each versions any few = record { many = omega arith; few = few; commits = each; versions = versions }

pub record-spelled : (s : Standing) (bs : List Batch) → AllByRecursion (IsCommit format.Two) (landings_of format.Two s bs) → 1 ≤ length bs → length bs ≤ max_forks → IsRecord format.Two (landed_record (landings_of format.Two s bs))
record-spelled s bs each any few =
    let e = sym (length-landings format.Two s bs) in
    landed_record-spelled (landings_of format.Two s bs) each (landings-follow format.Two s bs) (subst (λ n. 1 ≤ n) e any) (subst (λ n. n ≤ max_forks) e few)

-- ---- landings so far
-- of some batches the first are landed; `from` is the standing before all of them, and `to` the present one
pub record AreLandedSoFar (from : Standing) (landed rest : List Batch) (cs : List Commit) (to : Standing) : Type 0 where
  pub sound : AllByRecursion IsBatch landed
  pub written : cs ≡ landings_of format.Two from landed
  pub spelled : AllByRecursion (IsCommit format.Two) cs
  pub leads : to ≡ all_landed format.Two from landed
  pub back : LandsCommits from (reverse cs) to
  pub head : to.head ≡ from.head + length landed
  pub room : len (head_map to) + key_count rest ≤ 2 ^ 63

pub landed_none : (from : Standing) (rest : List Batch) → len (head_map from) + key_count rest ≤ 2 ^ 63 → AreLandedSoFar from [] rest [] from
landed_none from rest room = record { sound = tt; written = refl; spelled = tt; leads = refl; back = refl; head = omega arith; room = room }

pub landed_more : (from : Standing) (landed rest : List Batch) (cs cs' : List Commit) (to to' : Standing) (b : Batch) → AreLandedSoFar from landed (b ∷ rest) cs to
    → IsBatch b → IsReadStanding to → IsSound format.Two to → IsMap (apply (head_map to) b) → cs' ≡ cs ++ landing_of format.Two to (apply (head_map to) b) ∷ [] → IsCommit format.Two (landing_of format.Two to (apply (head_map to) b))
    → to' ≡ landed_on format.Two (apply (head_map to) b) to → len (head_map to') ≤ len (head_map to) + length b → AreLandedSoFar from (landed ++ b ∷ []) rest cs' to'
landed_more from landed rest cs cs' to to' b so batch read sound sorted written spelled is grown =
    let m = apply (head_map to) b in
    let c = landing_of format.Two to m in
    let back : LandsCommits from (c ∷ reverse cs) to' = (to, m, read, sound, sorted, refl, is, so.back) in
    let room = so.room in
    record {
      sound = All-append IsBatch landed (b ∷ []) so.sound (batch, tt);
      written = written ∙ ap₂ (λ xs (t : Standing). xs ++ landing_of format.Two t (apply (head_map t) b) ∷ []) so.written so.leads ∙ sym (landings-push format.Two from landed b);
      spelled = subst (AllByRecursion (IsCommit format.Two)) (sym written) (All-append (IsCommit format.Two) cs (c ∷ []) so.spelled (spelled, tt));
      leads = is ∙ ap (λ (t : Standing). landed_on format.Two (apply (head_map t) b) t) so.leads ∙ sym (all_landed-push format.Two from landed b);
      back = subst (λ xs. LandsCommits from xs to') (sym (reverse-append cs (c ∷ [])) ∙ ap reverse (sym written)) back;
      head = ap (λ (t : Standing). t.head) is ∙ (let h = so.head in let l = length-append landed (b ∷ []) in omega (arith, h, l));
      room = omega (arith, room, grown);
    }

-- ---- landings that are taken back
-- one more of the first landings is the newest of them
left_less : (from : Standing) (cs : List Commit) (n : ℕ) (d : Commit) (to : Standing) → n < length cs → LandsCommits from (reverse (take (suc n) cs)) to → LandsCommits from (slice_index_or cs n d ∷ reverse (take n cs)) to
left_less from cs n d to within by = subst (λ xs. LandsCommits from xs to) (ap reverse (take-suc cs n d within) ∙ reverse-append (take n cs) (slice_index_or cs n d ∷ [])) by

-- the last of the landings that are left is the next to be taken back
pub next_left : (from : Standing) (cs : List Commit) (left : ℕ) (x d : Commit) (to : Standing) → 0 < left → left ≤ length cs → x ≡ slice_index_or cs (left - 1) d → LandsCommits from (reverse (take left cs)) to → LandsCommits from (x ∷ reverse (take (left - 1) cs)) to
next_left from cs left x d to some within is by =
    let e : suc (left - 1) ≡ left = omega arith in
    let step = left_less from cs (left - 1) d to (omega arith) (subst (λ (k : ℕ). LandsCommits from (reverse (take k cs)) to) (sym e) by) in
    subst (λ (c : Commit). LandsCommits from (c ∷ reverse (take (left - 1) cs)) to) (sym is) step

pub taken_back : (from : Standing) (cs : List Commit) (left : ℕ) (s to : Standing) → to ≡ s → LandsCommits from (reverse (take (left - 1) cs)) s → LandsCommits from (reverse (take (left - 1) cs)) to
taken_back from cs left s to is by = subst (LandsCommits from (reverse (take (left - 1) cs))) (sym is) by

-- ---- landings of the batches of a slice
module _ (from : Standing) (bs : List Batch) (i : ℕ) (cs : List Commit) (to : Standing) (so : AreLandedSoFar from (take i bs) (drop i bs) cs to) where
  pub at_next : (b d : Batch) → i < length bs → b ≡ slice_index_or bs i d → AreLandedSoFar from (take i bs) (b ∷ drop (i + 1) bs) cs to
  at_next b d within is = subst (λ rest. AreLandedSoFar from (take i bs) rest cs to) (drop_more bs i d within ∙ ap (λ x. x ∷ drop (i + 1) bs) (sym is)) so

  -- the next batch can be landed
  pub next_fits : (b d : Batch) → i < length bs → b ≡ slice_index_or bs i d → from.head + length bs < not_stale → (to.head + 1 < not_stale) × (len (head_map to) + length b ≤ 2 ^ 63)
  next_fits b d within is last =
      let next = at_next b d within is in
      let room = next.room in
      let head = so.head in
      let there = length-take-le i bs (omega arith) in
      (omega (arith, head, there, last), omega (arith, room))

  pub after_next : (b d : Batch) → i < length bs → b ≡ slice_index_or bs i d → (cs' : List Commit) (to' : Standing)
      → IsBatch b → IsReadStanding to → IsSound format.Two to → IsMap (apply (head_map to) b) → cs' ≡ cs ++ landing_of format.Two to (apply (head_map to) b) ∷ [] → IsCommit format.Two (landing_of format.Two to (apply (head_map to) b))
      → to' ≡ landed_on format.Two (apply (head_map to) b) to → len (head_map to') ≤ len (head_map to) + length b → AreLandedSoFar from (take (i + 1) bs) (drop (i + 1) bs) cs' to'
  after_next b d within is cs' to' batch read sound sorted written spelled lands grown =
      let one : suc i ≡ i + 1 = omega arith in
      subst (λ done. AreLandedSoFar from done (drop (i + 1) bs) cs' to') (ap (λ x. take i bs ++ x ∷ []) is ∙ sym (take-suc bs i d within) ∙ ap (λ (k : ℕ). take k bs) one)
      (landed_more from (take i bs) (drop (i + 1) bs) cs cs' to to' b (at_next b d within is) batch read sound sorted written spelled lands grown)

  -- all are landed
  pub at_end : length bs ≤ i → AreLandedSoFar from bs (drop i bs) cs to
  at_end past = subst (λ done. AreLandedSoFar from done (drop i bs) cs to) (take_all i bs past) so

-- the landings before a refused one are still the first of the list
pub first_kept : (from to : Standing) (cs cs' more : List Commit) (n : ℕ) → cs' ≡ cs ++ more → n ≡ length cs → LandsCommits from (reverse cs) to → LandsCommits from (reverse (take n cs')) to
first_kept from to cs cs' more n is count by = subst (λ xs. LandsCommits from (reverse xs) to) (sym (ap₂ take count is ∙ take-append_seam cs more)) by
