-- The names of an input are not too many, and each is a name of a line; so they are in the order of their keys.
use Rattle.std.proofs.Common.{◌≡◌, ℕ, ◌+◌, ◌<◌, ◌≤◌, Bool, true, false, cond, ◌&&◌, nat_le, List, [], ◌∷◌, length, fold, Option, Some, None, Result, Ok, Err, option_and_then, if◌then◌else◌, refl, sym, arith, is_some, Less, Equal, Greater}
use Rattle.std.proofs.lemmas.Bool.Decides.{nat_tests}
use Rattle.std.specs.FinMap.{find, put}
use Rattle.std.specs.FinMap.Entries.{by_order}
use Rattle.std.specs.List.{AllByRecursion}
use Rattle.jf_path.specs.Keys.{key_cmp}
use Rattle.jf_hash.specs.Hashes.{K}
use Rattle.jf_io.specs.Lines.{lines}
use Rattle.jf_text.specs.Words.{unhex, name_of}
use Rattle.jf_text.proofs.HexBytes.{unhex-bytes}
use Rattle.jf_names.specs.Names.{names_from, names_of, name_before, line_before, with_new_name, names_by_key}
use Rattle.jf_client.specs.Laws.{FitsLine}
use Rattle.jf_client.proofs.Told.{byte-at}

-- ---- one name
name-within : (o : Option (List ℕ)) (name : List ℕ) → ((bytes : List ℕ) → o ≡ Some bytes → AllByRecursion (λ b. b < 256) bytes)
    → option_and_then (λ bytes. if nat_le 1 (length bytes) && nat_le (length bytes) 128 then Some bytes else None) o ≡ Some name → FitsLine name None
name-within None name all h = cc h
name-within (Some bytes) name all h = by_test (nat_le 1 (length bytes) && nat_le (length bytes) 128) refl h
  where
    by_test : (b : Bool) → (nat_le 1 (length bytes) && nat_le (length bytes) 128) ≡ b → cond b (Some bytes) None ≡ Some name → FitsLine name None
    by_test true is k =
        let same : bytes ≡ name = cc k in
        rw (sym same) (record { bytes = λ i. byte-at bytes i (all bytes refl); least = grind (arith, nat_tests); most = grind (arith, nat_tests); small = tt })
    by_test false is k = cc k

name_of-FitsLine : (w name : List ℕ) → name_of w ≡ Some name → FitsLine name None
name_of-FitsLine w name h = name-within (unhex w) name (unhex-bytes w) h

-- ---- the names of an input
-- the names of lines from a number on: each is a name, and they end by line 10,000
pub record AreNames (at : ℕ) (names : List (List ℕ)) : Type 0 where
  pub each : AllByRecursion (λ name. FitsLine name None) names
  pub most : at + length names ≤ 10001

names_from-AreNames : (at : ℕ) (ls names : List (List ℕ)) → at ≤ 10001 → names_from at ls ≡ Ok names → AreNames at names
unfolding names_from
names_from-AreNames at [] names low h = let is : [] ≡ names = cc h in rw (sym is) (record { each = tt; most = omega arith })
names_from-AreNames at (line ∷ ls) names low h = by_test (λ more later e. names_from-AreNames (at + 1) ls later more e) (nat_le at 10000) refl h
  where
    by_later : (name : List ℕ) (r : Result (List (List ℕ)) ℕ) → FitsLine name None → ((later : List (List ℕ)) → r ≡ Ok later → AreNames (at + 1) later) → name_before name r ≡ Ok names → AreNames at names
    by_later name (Ok later) one more k =
        let is : name ∷ later ≡ names = cc k in
        let rest = more later refl in
        rw (sym is) (record { each = (one, rest.each); most = omega (arith, rest.most) })
    by_later name (Err n) one more k = cc k

    by_name : (o : Option (List ℕ)) → name_of line ≡ o → ((later : List (List ℕ)) → names_from (at + 1) ls ≡ Ok later → AreNames (at + 1) later) → line_before at o (names_from (at + 1) ls) ≡ Ok names → AreNames at names
    by_name None is more k = cc k
    by_name (Some name) is more k = by_later name (names_from (at + 1) ls) (name_of-FitsLine line name is) more k

    by_test : (at + 1 ≤ 10001 → (later : List (List ℕ)) → names_from (at + 1) ls ≡ Ok later → AreNames (at + 1) later) → (b : Bool) → nat_le at 10000 ≡ b → cond b (line_before at (name_of line) (names_from (at + 1) ls)) (Err at) ≡ Ok names → AreNames at names
    by_test more true is k = by_name (name_of line) refl (more (let few : at ≤ 10000 = grind (arith, nat_tests) in omega arith)) k
    by_test more false is k = cc k

pub names_of-AreNames : (input : List ℕ) (names : List (List ℕ)) → names_of input ≡ Ok names → AreNames 1 names
names_of-AreNames input names h = names_from-AreNames 1 (lines input) names (omega arith) h

-- ---- names in the order of their keys
abbrev Keyed : Type 0
Keyed = List (List ℕ × List ℕ)

put-names : (k name : List ℕ) (es : Keyed) → FitsLine name None → AllByRecursion (λ e. FitsLine e.1 None) es → AllByRecursion (λ e. FitsLine e.1 None) (put key_cmp k name es)
put-names k name [] one all = (one, tt)
put-names k name (e ∷ es) one all =
    elim (key_cmp k e.0) as (λ r. AllByRecursion (λ e. FitsLine e.1 None) (by_order r ((k, name) ∷ e ∷ es) ((e.0, name) ∷ es) (e ∷ put key_cmp k name es))) [
      | Less ↦ (one, all)
      | Equal ↦ (one, all.1)
      | Greater ↦ (all.0, put-names k name es one all.1)
    ]

length-put_most : (k name : List ℕ) (es : Keyed) → length (put key_cmp k name es) ≤ length es + 1
length-put_most k name [] = omega arith
length-put_most k name (e ∷ es) =
    let more = length-put_most k name es in
    elim (key_cmp k e.0) as (λ r. length (by_order r ((k, name) ∷ e ∷ es) ((e.0, name) ∷ es) (e ∷ put key_cmp k name es)) ≤ length (e ∷ es) + 1) [ Less ↦ omega arith | Equal ↦ omega arith | Greater ↦ omega arith ]

fold-names : (names : List (List ℕ)) (es : Keyed) → AllByRecursion (λ name. FitsLine name None) names → AllByRecursion (λ e. FitsLine e.1 None) es → AllByRecursion (λ e. FitsLine e.1 None) (fold with_new_name es names)
fold-names [] es all fit = fit
fold-names (n ∷ names) es all fit =
    let one : AllByRecursion (λ e. FitsLine e.1 None) (with_new_name es n) =
    elim (is_some (find key_cmp (K n) es)) as (λ b. AllByRecursion (λ e. FitsLine e.1 None) (cond b es (put key_cmp (K n) n es))) [ true ↦ fit | false ↦ put-names (K n) n es all.0 fit ] in
    fold-names names (with_new_name es n) all.1 one

length-fold : (names : List (List ℕ)) (es : Keyed) → length (fold with_new_name es names) ≤ length es + length names
length-fold [] es = omega arith
length-fold (n ∷ names) es =
    let one : length (with_new_name es n) ≤ length es + 1 =
    elim (is_some (find key_cmp (K n) es)) as (λ b. length (cond b es (put key_cmp (K n) n es)) ≤ length es + 1) [ true ↦ omega arith | false ↦ length-put_most (K n) n es ] in
    omega (arith, length-fold names (with_new_name es n), one)

pub names_by_key-names : (names : List (List ℕ)) → AllByRecursion (λ name. FitsLine name None) names → AllByRecursion (λ e. FitsLine e.1 None) (names_by_key names)
unfolding names_by_key
names_by_key-names names all = fold-names names [] all tt

pub length-names_by_key : (names : List (List ℕ)) → length (names_by_key names) ≤ length names
unfolding names_by_key
length-names_by_key names = omega (arith, length-fold names [])
