-- The honest chunk of a map is accepted after the entries before it.
use Rattle.std.specs.Prelude.{◌≡◌, ℕ, ◌+◌, ◌≤◌, false, List, ◌∷◌, ◌++◌, length, ◌-◌, [], suc, true, cond, drop, zero, ◌<◌, reverse, ◌==◌, T, None, take}
use Rattle.std.proofs.Common.{refl, sym, arith, ap, ap₂, ◌∙◌, subst, inl, inr, append_assoc, length-append, length-take, length-drop, take-append-drop}
use Rattle.std.proofs.lemmas.Bool.Decides.{nat_tests}
use Rattle.std.proofs.lemmas.List.{length-reverse, reverse-reverse}
use Rattle.std.specs.FinMap.{entries, is_sorted}
use Rattle.std.specs.FinMap as fin
use Rattle.jf_path.specs.Keys.{bit, key_cmp}
use Rattle.jf_hash.specs.Roots.{part_root, zeros, ones, root}
use Rattle.jf_hash.specs.Hashes.{N}
use Rattle.jf_hash.specs.Parts.{IsPart}
use Rattle.jf_hash.specs.Maps.{Map, IsMap}
use Rattle.jf_hash.proofs.RootLaws.{part_root-one, part_root-split, root-part_root}
use Rattle.jf_hash.proofs.Split.{deeper}
use Rattle.jf_evidence.specs.Ranges.{KeyAndValue, Entries, zero_bits, first_hash, range_proof_of, is_miscounted, is_crowded, range_root, range_refusal, last_key, chunk_entries, honest_chunk}
use Rattle.jf_evidence.specs.Proofs.{honest, honest_from}
use Rattle.jf_evidence.specs.declared.range_proof.RangeProof.{RangeProof}
use Rattle.jf_evidence.proofs.SiblingLaws.{rights, siblings_down, near_half, far_half, siblings_down-split, alone_or_more, siblings-down, right_siblings-rights}
use Rattle.jf_evidence.proofs.ChainLaws.{chain_root}
use Rattle.jf_evidence.proofs.CrowdLaws.{is_near, is_near-one, is_near-zero}
use Rattle.jf_evidence.proofs.PartLaws.{around-one, around-zero}
use Rattle.jf_evidence.proofs.MapClashLaws.{whole-IsPart, keys-of_map}
use Rattle.jf_evidence.proofs.RangeChecks.{chunk-accepted, sorted-front, sorted-from_last, last-of_some}
use Rattle.jf_evidence.proofs.WrongChunkLaws.{last_key-push, is_crowded-near, range_root-chain}

-- ---- the way to an entry
-- what the honest proof of an entry gives a chunk that ends with it
record HonestWay (n d : ℕ) (xs : Entries) (x : KeyAndValue) (ys : Entries) (ts : List (List ℕ)) : Type 0 where
  short : length ts ≤ n
  top : chain_root (length ts) d xs x (rights d x.0 ts) ≡ part_root d (xs ++ x ∷ ys)
  count : length (rights d x.0 ts) ≡ zero_bits (length ts) d x.0
  lone : is_near (length ts) n d x.0 xs ≡ false

alone_way : (n d : ℕ) (xs : Entries) (x : KeyAndValue) (ys : Entries) → xs ≡ [] → ys ≡ [] → HonestWay n d xs x ys (siblings_down n d x.0 (xs ++ x ∷ ys))
unfolding siblings_down chain_root zero_bits
alone_way n d [] x [] e f = record { short = omega arith; top = sym (part_root-one d x.0 x.1); count = refl; lone = refl }
alone_way n d (y ∷ xs) x ys e f = absurd (cc)
alone_way n d [] x (y ∷ ys) e f = absurd (cc)

one_way : (n d : ℕ) (xs : Entries) (x : KeyAndValue) (ys : Entries) → IsPart d (xs ++ x ∷ ys) → 2 ≤ length (xs ++ x ∷ ys) → bit x.0 d ≡ true
    → HonestWay n (d + 1) (ones d xs) x ys (siblings_down n (d + 1) x.0 (ones d xs ++ x ∷ ys)) → HonestWay (suc n) d xs x ys (siblings_down (suc n) d x.0 (xs ++ x ∷ ys))
unfolding chain_root zero_bits
one_way n d xs x ys part two is below =
    let around = around-one d xs x ys part is in
    let all : Entries = xs ++ x ∷ ys in
    let ts = siblings_down n (d + 1) x.0 (ones d xs ++ x ∷ ys) in
    let far_is : far_half x.0 d all ≡ zeros d xs = ap (λ b. cond b (zeros d all) (ones d all)) is ∙ around.low in
    let near_is : near_half x.0 d all ≡ ones d xs ++ x ∷ ys = ap (λ b. cond b (ones d all) (zeros d all)) is ∙ around.high in
    let down_is : siblings_down (suc n) d x.0 all ≡ part_root (d + 1) (zeros d xs) ∷ ts =
    siblings_down-split n d x.0 all two ∙ ap₂ (λ (far near : Entries). part_root (d + 1) far ∷ siblings_down n (d + 1) x.0 near) far_is near_is in
    let rights_are : rights d x.0 (part_root (d + 1) (zeros d xs) ∷ ts) ≡ rights (d + 1) x.0 ts = ap (λ b. cond b (rights (d + 1) x.0 ts) (part_root (d + 1) (zeros d xs) ∷ rights (d + 1) x.0 ts)) is in
    subst (λ (us : List (List ℕ)). HonestWay (suc n) d xs x ys us) (sym down_is)
    (record {
      short = let s = below.short in omega arith;
      top =
          ap (λ (us : List (List ℕ)). chain_root (suc (length ts)) d xs x us) rights_are
          ∙ ap (λ b. cond b (N (part_root (d + 1) (zeros d xs)) (chain_root (length ts) (d + 1) (ones d xs) x (rights (d + 1) x.0 ts))) (N (chain_root (length ts) (d + 1) xs x (drop 1 (rights (d + 1) x.0 ts))) (first_hash (rights (d + 1) x.0 ts)))) is
          ∙ ap (N (part_root (d + 1) (zeros d xs))) below.top
          ∙ ap₂ (λ (a b : Entries). N (part_root (d + 1) a) (part_root (d + 1) b)) (sym around.low) (sym around.high)
          ∙ sym (part_root-split d all (deeper d all part two) two);
      count = ap length rights_are ∙ below.count ∙ ap (λ b. cond b (zero_bits (length ts) (d + 1) x.0) (1 + zero_bits (length ts) (d + 1) x.0)) (sym is);
      lone = is_near-one (length ts) n d x.0 xs is ∙ below.lone;
    })

zero_way : (n d : ℕ) (xs : Entries) (x : KeyAndValue) (ys : Entries) → IsPart d (xs ++ x ∷ ys) → 2 ≤ length (xs ++ x ∷ ys) → bit x.0 d ≡ false
    → HonestWay n (d + 1) xs x (zeros d ys) (siblings_down n (d + 1) x.0 (xs ++ x ∷ zeros d ys)) → HonestWay (suc n) d xs x ys (siblings_down (suc n) d x.0 (xs ++ x ∷ ys))
unfolding chain_root zero_bits
zero_way n d xs x ys part two is below =
    let around = around-zero d xs x ys part is in
    let all : Entries = xs ++ x ∷ ys in
    let ts = siblings_down n (d + 1) x.0 (xs ++ x ∷ zeros d ys) in
    let t = part_root (d + 1) (ones d ys) in
    let far_is : far_half x.0 d all ≡ ones d ys = ap (λ b. cond b (zeros d all) (ones d all)) is ∙ around.high in
    let near_is : near_half x.0 d all ≡ xs ++ x ∷ zeros d ys = ap (λ b. cond b (ones d all) (zeros d all)) is ∙ around.low in
    let down_is : siblings_down (suc n) d x.0 all ≡ t ∷ ts =
    siblings_down-split n d x.0 all two ∙ ap₂ (λ (far near : Entries). part_root (d + 1) far ∷ siblings_down n (d + 1) x.0 near) far_is near_is in
    let rights_are : rights d x.0 (t ∷ ts) ≡ t ∷ rights (d + 1) x.0 ts = ap (λ b. cond b (rights (d + 1) x.0 ts) (t ∷ rights (d + 1) x.0 ts)) is in
    subst (λ (us : List (List ℕ)). HonestWay (suc n) d xs x ys us) (sym down_is)
    (record {
      short = let s = below.short in omega arith;
      top =
          ap (λ (us : List (List ℕ)). chain_root (suc (length ts)) d xs x us) rights_are
          ∙ ap (λ b. cond b (N (part_root (d + 1) (zeros d xs)) (chain_root (length ts) (d + 1) (ones d xs) x (t ∷ rights (d + 1) x.0 ts))) (N (chain_root (length ts) (d + 1) xs x (rights (d + 1) x.0 ts)) t)) is
          ∙ ap (λ (h : List ℕ). N h t) below.top
          ∙ ap₂ (λ (a b : Entries). N (part_root (d + 1) a) (part_root (d + 1) b)) (sym around.low) (sym around.high)
          ∙ sym (part_root-split d all (deeper d all part two) two);
      count = ap length rights_are ∙ (let c : suc (length (rights (d + 1) x.0 ts)) ≡ 1 + zero_bits (length ts) (d + 1) x.0 = let e = below.count in omega arith in c)
          ∙ ap (λ b. cond b (zero_bits (length ts) (d + 1) x.0) (1 + zero_bits (length ts) (d + 1) x.0)) (sym is);
      lone = is_near-zero (length ts) n d x.0 xs is ∙ ap (is_near (length ts) n (d + 1) x.0) around.before ∙ below.lone;
    })

honest_way : (n d : ℕ) (xs : Entries) (x : KeyAndValue) (ys : Entries) → n ≡ 256 - d → IsPart d (xs ++ x ∷ ys) → HonestWay n d xs x ys (siblings_down n d x.0 (xs ++ x ∷ ys))
honest_way zero d xs x ys fuel part =
    elim (alone_or_more xs x ys) [ inl one ↦ alone_way zero d xs x ys one.0 one.1 | inr two ↦ absurd (let lt : d < 256 = deeper d (xs ++ x ∷ ys) part two in omega arith) ]
honest_way (suc n) d xs x ys fuel part =
    let more : n ≡ 256 - (d + 1) = omega arith in
    elim (alone_or_more xs x ys) [
      | inl one ↦ alone_way (suc n) d xs x ys one.0 one.1
      | inr two ↦ elim (bit x.0 d) as (λ b. bit x.0 d ≡ b → HonestWay (suc n) d xs x ys (siblings_down (suc n) d x.0 (xs ++ x ∷ ys))) [
        | true ↦ λ is. one_way n d xs x ys part two is (honest_way n (d + 1) (ones d xs) x ys more (around-one d xs x ys part is).part)
        | false ↦ λ is. zero_way n d xs x ys part two is (honest_way n (d + 1) xs x (zeros d ys) more (around-zero d xs x ys part is).part)
      ] refl
    ]

-- ---- the checks
down_of : (m : Map) (key : List ℕ) → reverse (honest m key).siblings ≡ siblings_down 256 0 key (entries m)
unfolding honest honest_from
down_of m key = siblings-down 256 0 key (entries m)

depth_is : (m : Map) (key : List ℕ) → length (honest m key).siblings ≡ length (siblings_down 256 0 key (entries m))
depth_is m key = sym (length-reverse (honest m key).siblings) ∙ ap length (down_of m key)

siblings_are : (m : Map) (key : List ℕ) → reverse (range_proof_of m key).siblings ≡ rights 0 key (siblings_down 256 0 key (entries m))
siblings_are m key =
    ap reverse (right_siblings-rights key (honest m key).siblings) ∙ reverse-reverse (rights 0 key (reverse (honest m key).siblings)) ∙ ap (rights 0 key) (down_of m key)

not_miscounted : (key : List ℕ) (proof : RangeProof) → proof.depth ≤ 256 → length proof.siblings ≡ zero_bits proof.depth 0 key → is_miscounted key proof ≡ false
not_miscounted key proof short count = grind (arith, nat_tests)

pub some_entry : (es : Entries) → 0 < length es → (length es == 0) ≡ false
some_entry es some = grind (arith, nat_tests)

accepted_by_last : (m : Map) (known fs ys : Entries) (x : KeyAndValue) → IsMap m → entries m ≡ (known ++ fs) ++ x ∷ ys → range_refusal (root m) known (fs ++ x ∷ []) (range_proof_of m x.0) ≡ None
accepted_by_last m known fs ys x is_map is =
    let xs : Entries = known ++ fs in
    let proof = range_proof_of m x.0 in
    let ts = siblings_down 256 0 x.0 (entries m) in
    let fresh : Entries = fs ++ x ∷ [] in
    let front : known ++ fresh ≡ xs ++ x ∷ [] = sym (append_assoc known fs (x ∷ [])) in
    let whole : entries m ≡ (known ++ fresh) ++ ys = is ∙ sym (append_assoc xs (x ∷ []) ys) ∙ ap (λ (es : Entries). es ++ ys) (sym front) in
    let way : HonestWay 256 0 xs x ys ts =
    subst (λ (es : Entries). HonestWay 256 0 xs x ys (siblings_down 256 0 x.0 es)) (sym is)
    (honest_way 256 0 xs x ys refl (subst (IsPart 0) is (whole-IsPart (entries m) (fin.entries_sorted m) (keys-of_map (entries m) is_map)))) in
    let depth : proof.depth ≡ length ts = depth_is m x.0 in
    let turned : reverse proof.siblings ≡ rights 0 x.0 ts = siblings_are m x.0 in
    let count : length proof.siblings ≡ zero_bits proof.depth 0 x.0 = sym (length-reverse proof.siblings) ∙ ap length turned ∙ way.count ∙ ap (λ n. zero_bits n 0 x.0) (sym depth) in
    chunk-accepted (root m) known fresh proof (record {
      some = some_entry fresh (omega (arith, length-append fs (x ∷ [])));
      ordered = sorted-from_last known fresh (sorted-front (known ++ fresh) ys (subst (λ (es : Entries). T (is_sorted key_cmp es)) whole (fin.entries_sorted m)));
      counted = ap (λ k. is_miscounted k proof) (last_key-push fs x) ∙ not_miscounted x.0 proof (let s = way.short in omega arith) count;
      lone = ap (λ (es : Entries). is_crowded es proof) front ∙ is_crowded-near xs x proof ∙ ap (λ n. is_near n 256 0 x.0 xs) depth ∙ way.lone;
      top = ap (λ (es : Entries). range_root es proof) front ∙ range_root-chain xs x proof ∙ ap₂ (λ n (us : List (List ℕ)). chain_root n 0 xs x us) depth turned ∙ way.top ∙ ap (part_root 0) (sym is) ∙ sym (root-part_root m);
    })

-- entries of a map are accepted after those before them, with the proof of their last one
pub honest-front : (m : Map) (known fresh rest : Entries) → IsMap m → (length fresh == 0) ≡ false → entries m ≡ known ++ (fresh ++ rest) → range_refusal (root m) known fresh (range_proof_of m (last_key fresh)) ≡ None
honest-front m known fresh rest is_map some is =
    let found = last-of_some fresh some in
    let fs = found.0 in
    let x = found.1 in
    let whole : entries m ≡ (known ++ fs) ++ x ∷ rest =
    is ∙ ap (λ (es : Entries). known ++ (es ++ rest)) found.2 ∙ ap (λ (es : Entries). known ++ es) (append_assoc fs (x ∷ []) rest) ∙ sym (append_assoc known fs (x ∷ rest)) in
    let accepted = accepted_by_last m known fs rest x is_map whole in
    ap₂ (λ (es : Entries) (k : List ℕ). range_refusal (root m) known es (range_proof_of m k)) found.2 (ap last_key found.2 ∙ last_key-push fs x) ∙ accepted

-- the honest chunk from a place on is accepted after the entries before that place
pub honest-chunk : (m : Map) (start count : ℕ) → IsMap m → start < length (entries m) → 1 ≤ count → range_refusal (root m) (take start (entries m)) (chunk_entries m start count) (honest_chunk m start count) ≡ None
unfolding honest_chunk
honest-chunk m start count is_map lt some =
    let es = entries m in
    let fresh = chunk_entries m start count in
    let n : 0 < length fresh = omega (arith, length-take count (drop start es), length-drop start es) in
    honest-front m (take start es) fresh (drop count (drop start es)) is_map (some_entry fresh n)
    (sym (take-append-drop start es) ∙ ap (λ (fs : Entries). take start es ++ fs) (sym (take-append-drop count (drop start es))))
