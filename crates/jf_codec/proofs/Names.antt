-- Reading a name gives the name that was written, and only that.
use Rattle.std.proofs.Common.{ℕ, ◌/◌, ◌<◌, arith, zero, suc, ◌-◌, List, [], ◌∷◌, take, ◌≡◌, ◌%◌, Bool, true, false, not, ◌==◌, get_or, refl, sym, ◌∙◌, inl, inr, eq-eqb, ◌+◌, ◌≤◌, length, ap₂, subst, cond, Ok, Err, ◌||◌, Some, None, ap, Result, ltb, drop, ◌++◌, ◌*◌, ◌&&◌, append_assoc, IfOk}
use Rattle.std.proofs.lemmas.Bool.{and_cases, eqb-true, le-ltb, ltb-false, cases_eq, ne_eqb}
use Rattle.std.proofs.lemmas.List.{length-take, get_or_past, length-append, drop_at}
use Rattle.std.specs.List.{AllByRecursion}
use Rattle.std.specs.Result.{result_err}
use Rattle.jf_path.specs.Paths.{halves, has_padding, IsPath, path_bytes, path_fault, has_wrong_length, packed_nibbles}
use Rattle.jf_path.specs.declared.fault.PathFault.{PathFault}
use Rattle.jf_path.specs.Numbers.{eight_bytes}
use Rattle.jf_path.specs.Names.{IsName}
use Rattle.jf_path.specs.declared.name.NodeName.{NodeName}
use Rattle.jf_path.specs.declared.fault.PathFault.TheVariants as why
use Rattle.jf_path.proofs.ByteLaws.{AreBytes, AreBytes-rest, Takes, Takes-then}
use Rattle.jf_path.proofs.PathLaws.{length-halves, packed-take-halves, get_or-packed, length-packed, take-halves-packed}
use Rattle.jf_codec.specs.Reading.{bytes_at, nibbles_at, path_at, ◌>>=◌, eight_at, name_at, reading_with_length, Reads}
use Rattle.jf_codec.specs.declared.fault.CodecFault.{CodecFault}
use Rattle.jf_codec.specs.Spelling.{name_bytes}
use Rattle.jf_codec.specs.declared.fault.CodecFault.TheVariants as fault
use Rattle.jf_codec.proofs.FieldLaws.{bytes_take, guard_ok, ok_is, bind_ok, bytes_again, eight_takes, eight_again}

half_of_byte : (b : ℕ) → b < 256 → b / 16 < 16
half_of_byte b lt = omega arith

small_halves : (n : ℕ) (bytes : List ℕ) → AreBytes bytes → AllByRecursion (λ h. h < 16) (take n (halves bytes))
small_halves zero bytes fits = tt
small_halves (suc n) [] fits = tt
small_halves (suc zero) (b ∷ bytes) fits = (half_of_byte b (fits 0), tt)
small_halves (suc (suc n)) (b ∷ bytes) fits = (half_of_byte b (fits 0), (omega arith, small_halves n bytes (AreBytes-rest b bytes fits)))

no_padding : (count : ℕ) (bytes : List ℕ) → has_padding (count ∷ bytes) ≡ false → count % 2 ≡ 1 → get_or bytes (count / 2) 0 % 16 ≡ 0
no_padding count bytes none odd =
    elim (and_cases (count % 2 == 1) (not (get_or bytes (count / 2) 0 % 16 == 0)) none) [
      | inl even ↦ absurd (let e = sym (eq-eqb (count % 2) 1 odd) ∙ even in cc)
      | inr zero_end ↦ eqb-true _ _ (unturned (get_or bytes (count / 2) 0 % 16 == 0) zero_end)
    ]
  where
    unturned : (b : Bool) → not b ≡ false → b ≡ true
    unturned true e = refl
    unturned false e = absurd cc

-- nibbles that were read are a path's
record AreNibbles (count : ℕ) (bytes : List ℕ) : Type 0 where
  path : IsPath (take count (halves bytes))
  same : count ∷ bytes ≡ path_bytes (take count (halves bytes))

nibbles_read : (count : ℕ) (bytes : List ℕ) → count ≤ 64 → length bytes ≡ (count + 1) / 2 → AreBytes bytes → has_padding (count ∷ bytes) ≡ false → AreNibbles count bytes
unfolding path_bytes
nibbles_read count bytes short long fits none =
    let len : length (take count (halves bytes)) ≡ count = let l = length-take count (halves bytes) in let h = length-halves bytes in omega arith in
    record {
      path = record { short = subst (λ n. n ≤ 64) (sym len) short; nibbles = small_halves count bytes fits };
      same = ap₂ (λ (n : ℕ) (bs : List ℕ). n ∷ bs) (sym len) (sym (packed-take-halves count bytes long (no_padding count bytes none)));
    }

path_by_padding : (count : ℕ) (bytes : List ℕ) (x : List ℕ × List ℕ) → count ≤ 64 → bytes_at ((count + 1) / 2) bytes ≡ Ok x
    → path_at (count ∷ bytes) ≡ cond (has_padding (count ∷ x.0)) (Err fault.Path) (Ok (take count (halves x.0), x.1))
unfolding path_at nibbles_at
path_by_padding count bytes x short read = rw (le-ltb 64 count short, read) refl

fault_by_padding : (count : ℕ) (bytes : List ℕ) → count ≤ 64 → length bytes ≡ (count + 1) / 2 → path_fault (count ∷ bytes) ≡ cond (has_padding (count ∷ bytes)) (Some why.Padding) None
unfolding path_fault
fault_by_padding count bytes short long =
    let right : has_wrong_length (count ∷ bytes) ≡ false = ap₂ (λ a b. a || not b) (le-ltb 64 count short) (eq-eqb _ _ long) in
    ap (λ w. cond w (Some why.Length) (cond (has_padding (count ∷ bytes)) (Some why.Padding) None)) right

-- what reading gives, from the result of reading the path alone
abbrev pub answer_by_path : Result (List ℕ) PathFault → List ℕ → Result (List ℕ × List ℕ) CodecFault
answer_by_path (Ok path) rest = Ok (path, rest)
answer_by_path (Err e) rest = Err fault.Path

when_err : (s : Result (List ℕ) PathFault) (rest : List ℕ) → result_err s ≡ Some why.Padding → answer_by_path s rest ≡ Err fault.Path
when_err (Ok path) rest e = absurd cc
when_err (Err f) rest e = refl

pub path_answer : (count : ℕ) (bytes front : List ℕ) (r : Result (List ℕ) PathFault) (x : List ℕ × List ℕ) → count ≤ 64 → bytes_at ((count + 1) / 2) bytes ≡ Ok x → front ≡ count ∷ x.0 → AreBytes bytes
    → ((path : List ℕ) → IsPath path → front ≡ path_bytes path → r ≡ Ok path) → result_err r ≡ path_fault front → path_at (count ∷ bytes) ≡ answer_by_path r x.1
path_answer count bytes front r x short read is fits found refused =
    let t = bytes_take ((count + 1) / 2) bytes x fits read in
    path_by_padding count bytes x short read ∙ (elim (has_padding (count ∷ x.0)) as (λ b. has_padding (count ∷ x.0) ≡ b → cond b (Err fault.Path) (Ok (take count (halves x.0), x.1)) ≡ answer_by_path r x.1) [
      | true ↦ λ p. sym (when_err r x.1 (refused ∙ ap path_fault is ∙ fault_by_padding count x.0 short t.1 ∙ ap (λ b. cond b (Some why.Padding) None) p))
      | false ↦ λ p. let good = nibbles_read count x.0 short t.1 t.2 p in sym (ap (λ s. answer_by_path s x.1) (found _ good.path (is ∙ good.same)))
    ] refl)

pub in_front : (bytes : List ℕ) (count : ℕ) (rest : List ℕ) → bytes ≡ count ∷ rest → AreBytes bytes → AreBytes rest
in_front bytes count rest parts fits = AreBytes-rest count rest (subst AreBytes parts fits)

pub front_is : (bytes : List ℕ) (count : ℕ) (rest : List ℕ) (k : ℕ) (x : List ℕ × List ℕ) → bytes ≡ count ∷ rest → bytes_at k rest ≡ Ok x → take (k + 1) bytes ≡ count ∷ x.0
front_is bytes count rest k x parts read =
    let g = guard_ok (ltb (length rest) k) fault.Short (Ok (take k rest, drop k rest)) x read in
    let front : take k rest ≡ x.0 = ap (λ (y : List ℕ × List ℕ). y.0) (ok_is (take k rest, drop k rest) x g.1) in
    ap₂ (λ n (bs : List ℕ). take n bs) (let e : k + 1 ≡ suc k = omega arith in e) parts ∙ ap (λ (bs : List ℕ). count ∷ bs) front

pub path_takes : (bytes : List ℕ) (x : List ℕ × List ℕ) → AreBytes bytes → path_at bytes ≡ Ok x → Takes bytes (path_bytes x.0) x.1 × IsPath x.0
unfolding path_at nibbles_at
path_takes [] x fits e = absurd cc
path_takes (count ∷ bytes) x fits e =
    let g = guard_ok (ltb 64 count) fault.Path (nibbles_at count bytes) x e in
    let p = bind_ok (bytes_at ((count + 1) / 2) bytes) (λ packed. cond (has_padding (count ∷ packed.0)) (Err fault.Path) (Ok (take count (halves packed.0), packed.1))) x g.1 in
    let h = guard_ok (has_padding (count ∷ p.0.0)) fault.Path (Ok (take count (halves p.0.0), p.0.1)) x p.2 in
    let t = bytes_take ((count + 1) / 2) bytes p.0 (AreBytes-rest count bytes fits) p.1 in
    let good = nibbles_read count p.0.0 (ltb-false 64 count g.0) t.1 t.2 h.0 in
    subst (λ (y : List ℕ × List ℕ). Takes (count ∷ bytes) (path_bytes y.0) y.1 × IsPath y.0) (ok_is (take count (halves p.0.0), p.0.1) x h.1)
    (record { parts = ap (λ (bs : List ℕ). count ∷ bs) t.0.parts ∙ ap (λ (bs : List ℕ). bs ++ p.0.1) good.same; rest_fits = t.0.rest_fits }, good.path)

has_padding-packed : (path : List ℕ) → has_padding (length path ∷ packed_nibbles path) ≡ false
has_padding-packed path =
    elim (cases_eq (length path % 2) 1) [
      | inl odd ↦
          let end : get_or (packed_nibbles path) (length path / 2) 0 % 16 ≡ 0 = let past = get_or_past path (length path) 0 (omega arith) in omega (arith, get_or-packed path (length path / 2) (2 * (length path / 2)) (length path) refl (omega arith)) in
          ap₂ (λ a b. a && not b) (eq-eqb (length path % 2) 1 odd) (eq-eqb _ _ end)
      | inr even ↦ ap (λ a. a && not (get_or (packed_nibbles path) (length path / 2) 0 % 16 == 0)) (ne_eqb _ _ even)
    ]

pub path_again : (path rest : List ℕ) → IsPath path → path_at (path_bytes path ++ rest) ≡ Ok (path, rest)
unfolding path_bytes
path_again path rest is =
    path_by_padding (length path) (packed_nibbles path ++ rest) (packed_nibbles path, rest) is.short (bytes_again ((length path + 1) / 2) (packed_nibbles path) rest (length-packed path))
    ∙ ap (λ b. cond b (Err fault.Path) (Ok (take (length path) (halves (packed_nibbles path)), rest))) (has_padding-packed path)
    ∙ ap (λ (p : List ℕ). Ok (p, rest)) (take-halves-packed path is.nibbles)

pub name_takes : (bytes : List ℕ) (x : NodeName × List ℕ) → AreBytes bytes → name_at bytes ≡ Ok x → Takes bytes (name_bytes x.0) x.1 × IsName x.0
unfolding name_at
name_takes bytes x fits e =
    let version = bind_ok (eight_at bytes) (λ version. path_at version.1 >>= λ path. Ok (record { version = version.0; path = path.0 }, path.1)) x e in
    let path = bind_ok (path_at version.0.1) (λ path. Ok (record { version = version.0.0; path = path.0 }, path.1)) x version.2 in
    let first = eight_takes bytes version.0 fits version.1 in
    let second = path_takes version.0.1 path.0 first.0.rest_fits path.1 in
    subst (λ (y : NodeName × List ℕ). Takes bytes (name_bytes y.0) y.1 × IsName y.0) (ok_is (record { version = version.0.0; path = path.0.0 }, path.0.1) x path.2)
    (Takes-then bytes (eight_bytes version.0.0) version.0.1 (path_bytes path.0.0) path.0.1 first.0 second.0, record { version = first.1; path = second.1 })

pub name_again : (name : NodeName) (rest : List ℕ) → IsName name → name_at (name_bytes name ++ rest) ≡ Ok (name, rest)
unfolding name_at
name_again name rest is =
    ap name_at (append_assoc (eight_bytes name.version) (path_bytes name.path) rest) ∙ rw (eight_again name.version (path_bytes name.path ++ rest) is.version, path_again name.path rest is.path) refl

-- ---- names with their length in bytes
pub taken : (bytes text rest : List ℕ) → bytes ≡ text ++ rest → length bytes - length rest ≡ length text
taken bytes text rest e = let l = ap length e ∙ length-append text rest in omega arith

pub left : (bytes text rest : List ℕ) → bytes ≡ text ++ rest → bytes ≡ text ++ drop (length bytes - length rest) bytes
left bytes text rest e = e ∙ ap (λ (t : List ℕ). text ++ t) (sym (ap₂ (λ n (bs : List ℕ). drop n bs) (taken bytes text rest e) e ∙ drop_at text rest (length text) refl))

-- bytes begin with the spelling of a name of this length
pub record BeginsWithName (bytes : List ℕ) (x : NodeName × ℕ) : Type 0 where
  pub name : IsName x.0
  pub front : bytes ≡ name_bytes x.0 ++ drop x.1 bytes
  pub count : x.1 ≡ length (name_bytes x.0)

pub name_found : (bytes : List ℕ) (x : NodeName × ℕ) → AreBytes bytes → reading_with_length bytes (name_at bytes) ≡ Ok x → BeginsWithName bytes x
name_found bytes x fits e =
    let n = bind_ok (name_at bytes) (λ y. Ok (y.0, length bytes - length y.1)) x e in
    let t = name_takes bytes n.0 fits n.1 in
    subst (λ (y : NodeName × ℕ). BeginsWithName bytes y) (ok_is (n.0.0, length bytes - length n.0.1) x n.2)
    (record { name = t.1; front = left bytes (name_bytes n.0.0) n.0.1 t.0.parts; count = taken bytes (name_bytes n.0.0) n.0.1 t.0.parts })

pub name_counted : (bytes : List ℕ) (name : NodeName) (rest : List ℕ) → IsName name → bytes ≡ name_bytes name ++ rest → reading_with_length bytes (name_at bytes) ≡ Ok (name, length (name_bytes name))
name_counted bytes name rest is e =
    ap (reading_with_length bytes) (ap name_at e ∙ name_again name rest is) ∙ ap (λ (n : ℕ). Ok (name, n)) (taken bytes (name_bytes name) rest e)

pub name_short : (bytes : List ℕ) (x : NodeName × List ℕ) → AreBytes bytes → name_at bytes ≡ Ok x → length x.1 ≤ length bytes
name_short bytes x fits e = let t = name_takes bytes x fits e in let l = ap length t.0.parts ∙ length-append (name_bytes x.0) x.1 in omega arith

-- the name that a function returns is at the front of the bytes
pub is_name_found : (bytes : List ℕ) (r : Result (NodeName × ℕ) CodecFault) → AreBytes bytes → Reads (λ x. x) r (reading_with_length bytes (name_at bytes))
    → IfOk r (λ x. IsName x.0 × (bytes ≡ name_bytes x.0 ++ drop x.1 bytes) × (x.1 ≡ length (name_bytes x.0)))
is_name_found bytes (Ok x) fits reads = let f = name_found bytes x fits reads in (f.name, f.front, f.count)
is_name_found bytes (Err e) fits reads = tt

pub is_only_name : (bytes : List ℕ) (r : Result (NodeName × ℕ) CodecFault) → Reads (λ x. x) r (reading_with_length bytes (name_at bytes))
    → (name : NodeName) (rest : List ℕ) → IsName name → bytes ≡ name_bytes name ++ rest → r ≡ Ok (name, length (name_bytes name))
is_only_name bytes (Ok x) reads name rest is e = sym reads ∙ name_counted bytes name rest is e
is_only_name bytes (Err d) reads name rest is e = absurd (let both = sym reads ∙ name_counted bytes name rest is e in cc)
