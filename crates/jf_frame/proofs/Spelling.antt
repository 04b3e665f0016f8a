-- A file of records, made of their bodies, reads back as these records; and records that were read come from bodies.
use Rattle.std.proofs.Common.{◌≡◌, ℕ, ◌+◌, List, length, [], ◌∷◌, ◌++◌, get_or, Result, ◌≢◌, ◌≤◌, take, drop, sym, ap, ◌∙◌, arith, append_assoc, length-take-le, take_at, take-append-drop, drop_at, ap₂, append-nil, length-drop, refl, suc, ◌<◌, nat_lt, lt-ltb, true, false, cond, Err, ltb-true, length-append, ◌==◌, Ok, ne_eqb, zero, le_refl, get_or-append-add, subst, ltb-false, eqb-true, eq-eqb, true≢false, le-ltb, ◌^◌}
use Rattle.std.proofs.lemmas.Bool.{cond-true, cond-false}
use Rattle.std.proofs.lemmas.Nat.{from_be_bytes-to_be_bytes_8}
use Rattle.std.specs.Int.{from_be_bytes, w64}
use Rattle.std.specs.List.{AllByRecursion}
use Rattle.jf_path.specs.Numbers.{eight_bytes}
use Rattle.jf_frame.specs.Framing.{size_of, payload_of, with_record, number_of, after_record, records_from, records, end_from, end_of, body}
use Rattle.jf_frame.specs.Framed.{LogRecord}

-- a whole body: a kind, a length and a payload of that length
abbrev pub IsWholeBody : List ℕ → Type 0
IsWholeBody b = length b ≡ 9 + size_of b

-- the bytes of records, each with an open gate before its body
unfoldable pub journal : List (List ℕ) → List ℕ
journal [] = []
journal (b ∷ bs) = 1 ∷ (b ++ journal bs)

-- the record whose gate is at an offset and whose body these bytes are
abbrev pub shown : ℕ → List ℕ → LogRecord
shown at b = record { kind = get_or b 0 0; offset = at; payload = payload_of b }

-- the records of bodies that follow one another from an offset on
unfoldable pub shown_all : ℕ → List (List ℕ) → List LogRecord
shown_all at [] = []
shown_all at (b ∷ bs) = shown at b ∷ shown_all (at + 10 + size_of b) bs

-- records put before a result of reading
abbrev pub prepend : List LogRecord → Result (List LogRecord) ℕ → Result (List LogRecord) ℕ
prepend [] x = x
prepend (r ∷ rs) x = with_record r (prepend rs x)

-- the file is the records of these bodies, then a closed gate, then bytes that aren't read
pub record IsJournal (bytes : List ℕ) (bs : List (List ℕ)) : Type 0 where
  pub gate : ℕ
  pub rest : List ℕ
  pub closed : gate ≢ 1
  pub is : bytes ≡ journal bs ++ gate ∷ rest

-- each body is whole
abbrev pub AllWhole : List (List ℕ) → Type 0
AllWhole bs = AllByRecursion (λ b. IsWholeBody b) bs

-- ---- the parts of a body that others follow
front8 : (b tail : List ℕ) → 9 ≤ length b → take 8 (drop 1 (b ++ tail)) ≡ take 8 (drop 1 b)
front8 [] tail long = absurd (omega arith)
front8 (k ∷ b) tail long =
    let e : b ++ tail ≡ take 8 b ++ (drop 8 b ++ tail) = ap (λ x. x ++ tail) (sym (take-append-drop 8 b)) ∙ append_assoc (take 8 b) (drop 8 b) tail in
    ap (take 8) e ∙ take_at (take 8 b) (drop 8 b ++ tail) 8 (length-take-le 8 b (omega arith))

pub size_of-append : (b tail : List ℕ) → 9 ≤ length b → size_of (b ++ tail) ≡ size_of b
unfolding size_of number_of
size_of-append b tail long = ap (λ x. from_be_bytes w64 x) (front8 b tail long)

pub after_record-append : (b tail : List ℕ) → IsWholeBody b → after_record (b ++ tail) ≡ tail
unfolding after_record
after_record-append b tail whole = drop_at b tail (9 + size_of (b ++ tail)) (omega (arith, size_of-append b tail (omega arith)))

pub payload_of-append : (b tail : List ℕ) → IsWholeBody b → payload_of (b ++ tail) ≡ payload_of b
unfolding payload_of
payload_of-append b tail whole =
    let regrouped : b ++ tail ≡ take 9 b ++ (drop 9 b ++ tail) = ap (λ x. x ++ tail) (sym (take-append-drop 9 b)) ∙ append_assoc (take 9 b) (drop 9 b) tail in
    let nine : length (take 9 b) ≡ 9 = length-take-le 9 b (omega arith) in
    let long : length (drop 9 b) ≡ size_of b = omega (arith, length-drop 9 b) in
    let all : take (size_of b) (drop 9 b) ≡ drop 9 b = ap (take (size_of b)) (sym (append-nil (drop 9 b))) ∙ take_at (drop 9 b) [] (size_of b) long in
    ap₂ (λ n t. take n (drop 9 t)) (size_of-append b tail (omega arith)) regrouped
    ∙ ap (take (size_of b)) (drop_at (take 9 b) (drop 9 b ++ tail) 9 nine)
    ∙ take_at (drop 9 b) tail (size_of b) long
    ∙ sym all

kind-append : (b tail : List ℕ) → 9 ≤ length b → get_or (b ++ tail) 0 0 ≡ get_or b 0 0
kind-append [] tail long = absurd (omega arith)
kind-append (k ∷ b) tail long = refl

-- ---- one record
-- an open gate, a whole record and a next gate: the record is read, and reading goes on at the next gate
pub read_rest : (n at : ℕ) (rest : List ℕ) → 9 + size_of rest < length rest → records_from (suc n) at (1 ∷ rest) ≡ with_record (shown at rest) (records_from n (at + 10 + size_of rest) (after_record rest))
unfolding records_from
read_rest n at rest long = cond-true (nat_lt (9 + size_of rest) (length rest)) _ _ (lt-ltb _ _ long)

-- an open gate without a whole record and a next gate is damage
pub read_cut : (n at : ℕ) (rest : List ℕ) → length rest ≤ 9 + size_of rest → records_from (suc n) at (1 ∷ rest) ≡ Err at
unfolding records_from
read_cut n at rest short =
    elim (nat_lt (9 + size_of rest) (length rest)) as (λ b. nat_lt (9 + size_of rest) (length rest) ≡ b → cond b (with_record (shown at rest) (records_from n (at + 10 + size_of rest) (after_record rest))) (Err at) ≡ Err at) [
      | true ↦ λ e. absurd (let lt : 9 + size_of rest < length rest = ltb-true _ _ e in omega arith)
      | false ↦ λ e. refl
    ] refl

pub read_one : (n at : ℕ) (b tail : List ℕ) → IsWholeBody b → 0 < length tail → records_from (suc n) at (1 ∷ (b ++ tail)) ≡ with_record (shown at b) (records_from n (at + 10 + size_of b) tail)
read_one n at b tail whole more =
    let same : size_of (b ++ tail) ≡ size_of b = size_of-append b tail (omega arith) in
    read_rest n at (b ++ tail) (omega (arith, length-append b tail))
    ∙ ap₂ (λ r x. with_record r x)
    (ap₂ (λ k p. let r : LogRecord = record { kind = k; offset = at; payload = p } in r) (kind-append b tail (omega arith)) (payload_of-append b tail whole))
    (ap₂ (λ m t. records_from n (at + 10 + m) t) same (after_record-append b tail whole))

pub read_closed : (n at gate : ℕ) (rest : List ℕ) → gate ≢ 1 → records_from (suc n) at (gate ∷ rest) ≡ Ok []
unfolding records_from
read_closed n at gate rest closed = cond-false (gate == 1) _ _ (ne_eqb _ _ closed)

pub read_all : (bs : List (List ℕ)) (n at gate : ℕ) (rest : List ℕ) → gate ≢ 1 → AllWhole bs → length (journal bs ++ gate ∷ rest) ≤ n → records_from n at (journal bs ++ gate ∷ rest) ≡ Ok (shown_all at bs)
unfolding journal shown_all
read_all [] zero at gate rest closed whole long = absurd (omega arith)
read_all [] (suc n) at gate rest closed whole long = read_closed n at gate rest closed
read_all (b ∷ bs) zero at gate rest closed whole long = absurd (omega arith)
read_all (b ∷ bs) (suc n) at gate rest closed whole long =
    let tail = journal bs ++ gate ∷ rest in
    let grouped : (b ++ journal bs) ++ gate ∷ rest ≡ b ++ tail = append_assoc b (journal bs) (gate ∷ rest) in
    let some : 0 < length tail = omega (arith, length-append (journal bs) (gate ∷ rest)) in
    let shorter : length tail ≤ n = omega (arith, ap length grouped, length-append b tail) in
    ap (λ t. records_from (suc n) at (1 ∷ t)) grouped ∙ read_one n at b tail whole.0 some ∙ ap (λ x. with_record (shown at b) x) (read_all bs n (at + 10 + size_of b) gate rest closed whole.1 shorter)

short_is_none : (bs : List (List ℕ)) (gate : ℕ) (rest : List ℕ) → length (journal bs ++ gate ∷ rest) < 2 → bs ≡ []
unfolding journal
short_is_none [] gate rest short = refl
short_is_none (b ∷ bs) gate rest short = absurd (omega (arith, length-append (b ++ journal bs) (gate ∷ rest)))

-- a file of whole bodies reads as their records
pub records_are : (bytes : List ℕ) (bs : List (List ℕ)) → IsJournal bytes bs → AllWhole bs → records bytes ≡ Ok (shown_all 0 bs)
unfolding records shown_all
records_are bytes bs j whole =
    ap (λ b. cond (nat_lt (length b) 2) (Ok []) (records_from (length b) 0 b)) j.is
    ∙ elim (nat_lt (length (journal bs ++ j.gate ∷ j.rest)) 2) as (λ b. nat_lt (length (journal bs ++ j.gate ∷ j.rest)) 2 ≡ b → cond b (Ok []) (records_from (length (journal bs ++ j.gate ∷ j.rest)) 0 (journal bs ++ j.gate ∷ j.rest)) ≡ Ok (shown_all 0 bs)) [
      | true ↦ λ e. ap (λ bs. Ok (shown_all 0 bs)) (sym (short_is_none bs j.gate j.rest (ltb-true _ _ e)))
      | false ↦ λ e. read_all bs _ 0 j.gate j.rest j.closed whole (le_refl _)
    ] refl

-- the byte at the end of the bodies is the closed gate
pub gate_of : (b : List ℕ) (bs : List (List ℕ)) (j : IsJournal b bs) → get_or b (length (journal bs)) 0 ≡ j.gate
gate_of b bs j =
    ap (λ b. get_or b (length (journal bs)) 0) j.is
    ∙ ap (λ n. get_or (journal bs ++ j.gate ∷ j.rest) n 0) (let e : length (journal bs) ≡ length (journal bs) + 0 = omega arith in e)
    ∙ get_or-append-add (journal bs) (j.gate ∷ j.rest) 0 0

pub room : (b : List ℕ) (bs : List (List ℕ)) → IsJournal b bs → length (journal bs) < length b
room b bs j = omega (arith, ap length j.is, length-append (journal bs) (j.gate ∷ j.rest))

-- ---- one more body
pub journal-push : (bs : List (List ℕ)) (b : List ℕ) → journal (bs ++ b ∷ []) ≡ journal bs ++ 1 ∷ b
unfolding journal
journal-push [] b = ap (λ t. 1 ∷ t) (append-nil b)
journal-push (q ∷ bs) b = ap (λ t. 1 ∷ (q ++ t)) (journal-push bs b) ∙ ap (λ t. 1 ∷ t) (sym (append_assoc q (journal bs) (1 ∷ b)))

pub whole-push : (bs : List (List ℕ)) (b : List ℕ) → AllWhole bs → IsWholeBody b → AllWhole (bs ++ b ∷ [])
whole-push [] b all whole = (whole, tt)
whole-push (q ∷ bs) b all whole = (all.0, whole-push bs b all.1 whole)

pub shown-push : (bs : List (List ℕ)) (at : ℕ) (b : List ℕ) → AllWhole bs → shown_all at (bs ++ b ∷ []) ≡ shown_all at bs ++ shown (at + length (journal bs)) b ∷ []
unfolding journal shown_all
shown-push [] at b all = ap (λ n. shown n b ∷ []) (let e : at ≡ at + 0 = omega arith in e)
shown-push (q ∷ bs) at b all =
    let e : at + 10 + size_of q + length (journal bs) ≡ at + length (1 ∷ (q ++ journal bs)) = omega (arith, all.0, length-append q (journal bs)) in
    ap (λ t. shown at q ∷ t) (shown-push bs (at + 10 + size_of q) b all.1 ∙ ap (λ n. shown_all (at + 10 + size_of q) bs ++ shown n b ∷ []) e)

-- ---- where bodies end
length-payload : (b : List ℕ) → IsWholeBody b → length (payload_of b) ≡ size_of b
unfolding payload_of
length-payload b whole = length-take-le (size_of b) (drop 9 b) (omega (arith, length-drop 9 b))

pub end-shown : (bs : List (List ℕ)) (at : ℕ) → AllWhole bs → end_from at (shown_all at bs) ≡ at + length (journal bs)
unfolding journal shown_all
end-shown [] at all = let e : at ≡ at + 0 = omega arith in e
end-shown (b ∷ bs) at all =
    let e : at + 10 + length (payload_of b) ≡ at + 10 + size_of b = omega (arith, length-payload b all.0) in
    ap (λ n. end_from n (shown_all (at + 10 + size_of b) bs)) e ∙ end-shown bs (at + 10 + size_of b) all.1 ∙ omega (arith, all.0, length-append b (journal bs))

-- ---- bytes that were read are bodies
-- bytes that are bodies, whose records are `rs`, before a closed gate
pub record IsSpelled (bytes : List ℕ) (at : ℕ) (rs : List LogRecord) : Type 0 where
  pub bodies : List (List ℕ)
  pub whole : AllWhole bodies
  pub are : shown_all at bodies ≡ rs
  pub journaled : IsJournal bytes bodies

-- records that were read after one that is put before them
HasHead : LogRecord → List LogRecord → Result (List LogRecord) ℕ → Type 0
HasHead r rs x = (qs : List LogRecord) × (x ≡ Ok qs) × (r ∷ qs ≡ rs)

unfold_head : (r : LogRecord) (rs : List LogRecord) (x : Result (List LogRecord) ℕ) → with_record r x ≡ Ok rs → HasHead r rs x
unfolding HasHead
unfold_head r rs (Ok qs) e = (qs, refl, cc)
unfold_head r rs (Err at) e = absurd (cc)

-- the first bytes after an open gate are a whole body
size_of-take : (rest : List ℕ) → 9 + size_of rest < length rest → IsWholeBody (take (9 + size_of rest) rest)
size_of-take rest long =
    let n = 9 + size_of rest in
    let k : length (take n rest) ≡ n = length-take-le n rest (omega arith) in
    let e : size_of rest ≡ size_of (take n rest) = ap size_of (sym (take-append-drop n rest)) ∙ size_of-append (take n rest) (drop n rest) (omega arith) in
    omega arith

spelled_more : (at : ℕ) (rest : List ℕ) (qs : List LogRecord) → 9 + size_of rest < length rest → IsSpelled (after_record rest) (at + 10 + size_of rest) qs → IsSpelled (1 ∷ rest) at (shown at rest ∷ qs)
unfolding after_record journal shown_all
spelled_more at rest qs long s =
    let n = 9 + size_of rest in
    let b = take n rest in
    let whole : IsWholeBody b = size_of-take rest long in
    let k : length b ≡ n = length-take-le n rest (omega arith) in
    let split : rest ≡ b ++ drop n rest = sym (take-append-drop n rest) in
    let same : size_of rest ≡ size_of b = omega arith in
    let kinds : get_or rest 0 0 ≡ get_or b 0 0 = ap (λ t. get_or t 0 0) split ∙ kind-append b (drop n rest) (omega arith) in
    let payloads : payload_of rest ≡ payload_of b = ap payload_of split ∙ payload_of-append b (drop n rest) whole in
    record {
      bodies = b ∷ s.bodies;
      whole = (whole, s.whole);
      are = ap₂ (λ r qs. r ∷ qs) (ap₂ (λ k p. let r : LogRecord = record { kind = k; offset = at; payload = p } in r) (sym kinds) (sym payloads)) (ap (λ m. shown_all (at + 10 + m) s.bodies) (sym same) ∙ s.are);
      journaled = record {
        gate = s.journaled.gate;
        rest = s.journaled.rest;
        closed = s.journaled.closed;
        is = ap (λ t. 1 ∷ t) (split ∙ ap (λ t. b ++ t) s.journaled.is ∙ sym (append_assoc b (journal s.bodies) (s.journaled.gate ∷ s.journaled.rest)));
      };
    }

spelled_none : (at gate : ℕ) (rest : List ℕ) (rs : List LogRecord) → gate ≢ 1 → [] ≡ rs → IsSpelled (gate ∷ rest) at rs
unfolding journal shown_all
spelled_none at gate rest rs closed e = record { bodies = []; whole = tt; are = e; journaled = record { gate = gate; rest = rest; closed = closed; is = refl } }

-- records that were read from a gate on come from bodies
pub was_spelled : (n at : ℕ) (bytes : List ℕ) (rs : List LogRecord) → records_from n at bytes ≡ Ok rs → IsSpelled bytes at rs
unfolding records_from HasHead
was_spelled zero at bytes rs e = absurd (cc)
was_spelled (suc n) at [] rs e = absurd (cc)
was_spelled (suc n) at (gate ∷ rest) rs e =
    elim (gate == 1) as (λ b. (gate == 1) ≡ b → IsSpelled (gate ∷ rest) at rs) [
      | true ↦ λ open_.
          let one : gate ≡ 1 = eqb-true gate 1 open_ in
          elim (nat_lt (9 + size_of rest) (length rest)) as (λ b. nat_lt (9 + size_of rest) (length rest) ≡ b → IsSpelled (gate ∷ rest) at rs) [
            | true ↦ λ lt.
                let long : 9 + size_of rest < length rest = ltb-true _ _ lt in
                let read : with_record (shown at rest) (records_from n (at + 10 + size_of rest) (after_record rest)) ≡ Ok rs = sym (read_rest n at rest long) ∙ ap (λ g. records_from (suc n) at (g ∷ rest)) (sym one) ∙ e in
                let head = unfold_head (shown at rest) rs (records_from n (at + 10 + size_of rest) (after_record rest)) read in
                subst (λ g. IsSpelled (g ∷ rest) at rs) (sym one)
                (subst (λ qs. IsSpelled (1 ∷ rest) at qs) head.2 (spelled_more at rest head.0 long (was_spelled n (at + 10 + size_of rest) (after_record rest) head.0 head.1)))
            | false ↦ λ ge.
                let short : length rest ≤ 9 + size_of rest = ltb-false _ _ ge in
                let read : Err at ≡ Ok rs = sym (read_cut n at rest short) ∙ ap (λ g. records_from (suc n) at (g ∷ rest)) (sym one) ∙ e in
                absurd (cc)
          ] refl
      | false ↦ λ shut.
          let closed : gate ≢ 1 = λ one. absurd (true≢false (sym (eq-eqb gate 1 one) ∙ shut)) in
          let read : Ok [] ≡ Ok rs = sym (read_closed n at gate rest closed) ∙ e in
          spelled_none at gate rest rs closed (cc)
    ] refl

-- the records of a file of two bytes or more are read from its first gate
pub records-long : (file : List ℕ) → 2 ≤ length file → records file ≡ records_from (length file) 0 file
unfolding records
records-long file long = cond-false (nat_lt (length file) 2) _ _ (le-ltb _ _ long)

pub records-short : (file : List ℕ) → length file < 2 → records file ≡ Ok []
unfolding records
records-short file short = cond-true (nat_lt (length file) 2) _ _ (lt-ltb _ _ short)

-- the records of a file of two bytes or more come from bodies
pub file_spelled : (file : List ℕ) (rs : List LogRecord) → records file ≡ Ok rs → 2 ≤ length file → IsSpelled file 0 rs
file_spelled file rs e long = was_spelled (length file) 0 file rs (sym (records-long file long) ∙ e)

pub none_of_short : (file : List ℕ) (rs : List LogRecord) → records file ≡ Ok rs → length file < 2 → [] ≡ rs
none_of_short file rs e short = let x : Ok [] ≡ Ok rs = sym (records-short file short) ∙ e in cc

one_byte : (file : List ℕ) (rs : List LogRecord) → [] ≡ rs → end_of rs < length file → get_or file (end_of rs) 0 ≢ 1 → IsSpelled file 0 rs
one_byte file [] e lt closed =
    elim file as (λ file. 0 < length file → get_or file 0 0 ≢ 1 → IsSpelled file 0 []) [
      | [] ↦ λ lt closed. absurd (omega arith)
      | gate ∷ rest ↦ λ lt closed. spelled_none 0 gate rest [] closed refl
    ] lt closed
one_byte file (r ∷ rs) e lt closed = absurd (cc)

-- the records of a file come from bodies if they end at a closed gate
pub closed_spelled : (file : List ℕ) (rs : List LogRecord) → records file ≡ Ok rs → end_of rs < length file → get_or file (end_of rs) 0 ≢ 1 → IsSpelled file 0 rs
closed_spelled file rs e lt closed =
    elim (nat_lt (length file) 2) as (λ b. nat_lt (length file) 2 ≡ b → IsSpelled file 0 rs) [
      | true ↦ λ short. one_byte file rs (none_of_short file rs e (ltb-true _ _ short)) lt closed
      | false ↦ λ long. file_spelled file rs e (ltb-false _ _ long)
    ] refl

-- the bodies end at the offset of the closed gate
pub end_spelled : (file : List ℕ) (rs : List LogRecord) (s : IsSpelled file 0 rs) → end_of rs ≡ length (journal s.bodies)
end_spelled file rs s = ap end_of (sym s.are) ∙ end-shown s.bodies 0 s.whole ∙ omega arith

-- ---- frames
pub length-eight : (n : ℕ) → length (eight_bytes n) ≡ 8
unfolding eight_bytes
length-eight n = refl

pub length-body : (kind : ℕ) (payload : List ℕ) → length (body kind payload) ≡ 9 + length payload
length-body kind payload = omega (arith, length-append (eight_bytes (length payload)) payload, length-eight (length payload))

pub size_of-body : (kind : ℕ) (payload : List ℕ) → length payload < 2 ^ 64 → size_of (body kind payload) ≡ length payload
unfolding size_of number_of eight_bytes
size_of-body kind payload fits = ap (λ b. from_be_bytes w64 b) (take_at (eight_bytes (length payload)) payload 8 (length-eight (length payload))) ∙ from_be_bytes-to_be_bytes_8 (length payload) fits

pub whole-body : (kind : ℕ) (payload : List ℕ) → length payload < 2 ^ 64 → IsWholeBody (body kind payload)
whole-body kind payload fits = omega (arith, length-body kind payload, size_of-body kind payload fits)

pub payload_of-body : (kind : ℕ) (payload : List ℕ) → length payload < 2 ^ 64 → payload_of (body kind payload) ≡ payload
unfolding payload_of
payload_of-body kind payload fits =
    let nine : length (kind ∷ eight_bytes (length payload)) ≡ 9 = omega (arith, length-eight (length payload)) in
    ap₂ (λ n t. take n t) (size_of-body kind payload fits) (drop_at (kind ∷ eight_bytes (length payload)) payload 9 nine)
    ∙ ap (take (length payload)) (sym (append-nil payload)) ∙ take_at payload [] (length payload) refl

-- the record of a frame's body
pub shown-body : (at kind : ℕ) (payload : List ℕ) → length payload < 2 ^ 64 → shown at (body kind payload) ≡ record { kind = kind; offset = at; payload = payload }
shown-body at kind payload fits = ap (λ p. let r : LogRecord = record { kind = kind; offset = at; payload = p } in r) (payload_of-body kind payload fits)

-- ---- where the records of a file end
-- records that come from bodies end at a closed gate
pub spelled_end : (file : List ℕ) (rs : List LogRecord) → IsSpelled file 0 rs → (end_of rs < length file) × (get_or file (end_of rs) 0 ≢ 1)
spelled_end file rs s =
    let e = end_spelled file rs s in
    (subst (λ n. n < length file) (sym e) (room file s.bodies s.journaled), λ one. s.journaled.closed (sym (gate_of file s.bodies s.journaled) ∙ ap (λ n. get_or file n 0) (sym e) ∙ one))

-- a file with a closed first gate holds no record
pub none_of_closed : (file : List ℕ) → get_or file 0 0 ≢ 1 → records file ≡ Ok []
none_of_closed [] closed = records-short [] (omega arith)
none_of_closed (gate ∷ rest) closed =
    elim (nat_lt (length (gate ∷ rest)) 2) as (λ b. nat_lt (length (gate ∷ rest)) 2 ≡ b → records (gate ∷ rest) ≡ Ok []) [
      | true ↦ λ short. records-short (gate ∷ rest) (ltb-true _ _ short)
      | false ↦ λ long. records-long (gate ∷ rest) (ltb-false _ _ long) ∙ read_closed (length rest) 0 gate rest closed
    ] refl

-- a file of two bytes or more that holds no record has a closed first gate
pub closed_of_none : (file : List ℕ) → records file ≡ Ok [] → 2 ≤ length file → get_or file 0 0 ≢ 1
closed_of_none file e long = (spelled_end file [] (file_spelled file [] e long)).1
