-- Reading a payload gives exactly the record that it spells.
use Rattle.std.specs.Prelude.{nat_lt, IfOk}
use Rattle.std.proofs.Common.{◌≡◌, ℕ, List, Some, sym, ap, subst, ◌∙◌, ◌^◌, ◌<◌, true, false, cond, ◌==◌, Option, None, refl, ◌++◌, length, [], ap₂, ◌∷◌, ◌&&◌, ◌⊎◌, inl, inr, Result, Ok, Err}
use Rattle.std.proofs.lemmas.Bool.{eqb-true, ltb-true, lt-ltb}
use Rattle.std.proofs.lemmas.List.{append-nil, nil_from_length}
use Rattle.std.proofs.lemmas.Option.{same_Some}
use Rattle.std.specs.List.{list_all}
use Rattle.jf_path.specs.Numbers.{eight_bytes}
use Rattle.jf_path.specs.Keys.{IsBytes}
use Rattle.jf_path.proofs.ByteLaws.{Takes, AreBytes, AreBytes-at_places, IsBytes-from_places}
use Rattle.jf_path.proofs.OptionLaws.{guard_kept}
use Rattle.jf_path.proofs.BoolLaws.{left_true, right_true}
use Rattle.jf_codec.specs.declared.format.Format.{Format}
use Rattle.jf_codec.specs.declared.format.Format.TheVariants as format
use Rattle.jf_payload.specs.declared.records.Record.{Record}
use Rattle.jf_payload.specs.Reading.{Front, seen_as, checkpoint_from, checkpoint_at, long_at, commit_at, group_at, record_at, whole_record_in, ◌>>=◌, spelled_record, Gives}
use Rattle.jf_payload.specs.Spelling.{record_bytes, kind_of, IsRecord, checkpoint_kind, list_bytes, commit_bytes, IsCommit, IsGroup, IsSpelling}
use Rattle.jf_payload.specs.declared.fault.RecordFault.{RecordFault}
use Rattle.jf_payload.specs.declared.records.Record.TheVariants as «record»
use Rattle.jf_payload.specs.declared.fault.RecordFault.TheVariants as fault
use Rattle.jf_payload.proofs.Spells.{Spells, bind_some}
use Rattle.jf_payload.proofs.RecordSpells.{IsWholeCheckpoint, whole_bytes, whole_at, whole_spells, whole_checkpoint, commit_spells, group_spells, Whole, checkpoint_whole}
use Rattle.jf_payload.proofs.FieldSpells.{number_spells}

-- the content of a record that was read, and the record built from it
record TakesLines {X : Type 0} (s : X → List ℕ) (I : X → Type 0) (view : X → Record) (bytes : List ℕ) (x : Record × List ℕ) : Type 0 where
  value : X
  text : Takes bytes (s value) x.1
  sound : I value
  is : x.0 ≡ view value

took : {X : Type 0} (s : X → List ℕ) (I : X → Type 0) (o : Front X) (view : X → Record) (bytes : List ℕ) (x : Record × List ℕ) → Spells s I o → AreBytes bytes → seen_as view o bytes ≡ Some x → TakesLines s I view bytes x
took s I o view bytes x one bs e =
    let y = bind_some (o bytes) (λ y. Some (view y.0, y.1)) x e in
    let t = one.takes bytes y.0 bs y.1 in
    let same = same_Some (view y.0.0, y.0.1) x y.2 in
    record { value = y.0.0; text = subst (λ (q : Record × List ℕ). Takes bytes (s y.0.0) q.1) same t.0; sound = t.1; is = sym (ap (λ (q : Record × List ℕ). q.0) same) }

-- a record that was read
record IsRecordRead (fmt : Format) (kind : ℕ) (bytes : List ℕ) (x : Record × List ℕ) : Type 0 where
  text : Takes bytes (record_bytes fmt x.0) x.1
  sound : IsRecord fmt x.0
  kind_is : kind ≡ kind_of fmt x.0

read_of : (fmt : Format) (kind : ℕ) (bytes : List ℕ) (x : Record × List ℕ) (r : Record) → x.0 ≡ r → Takes bytes (record_bytes fmt r) x.1 → IsRecord fmt r → kind ≡ kind_of fmt r → IsRecordRead fmt kind bytes x
read_of fmt kind bytes x r e text sound kind_is = record {
  text = subst (λ (s : Record). Takes bytes (record_bytes fmt s) x.1) (sym e) text;
  sound = subst (IsRecord fmt) (sym e) sound;
  kind_is = kind_is ∙ ap (kind_of fmt) (sym e);
}

checkpoint_takes : (fmt : Format) (kind : ℕ) (bytes : List ℕ) (x : Record × List ℕ) → AreBytes bytes → kind ≡ checkpoint_kind fmt → checkpoint_at fmt bytes ≡ Some x → IsRecordRead fmt kind bytes x
unfolding checkpoint_at record_bytes
checkpoint_takes fmt kind bytes x bs is e =
    let t = took (whole_bytes fmt) (IsWholeCheckpoint fmt) (whole_at fmt) checkpoint_from bytes x (whole_spells fmt) bs e in
    read_of fmt kind bytes x (checkpoint_from t.value) t.is t.text (whole_checkpoint fmt t.value t.sound) is

record_takes : (fmt : Format) (kind : ℕ) (bytes : List ℕ) (x : Record × List ℕ) → AreBytes bytes → record_at fmt kind bytes ≡ Some x → IsRecordRead fmt kind bytes x
unfolding record_at record_bytes
record_takes fmt kind bytes x bs e =
    elim (kind == 2) as (λ b. (kind == 2) ≡ b → cond b (seen_as (λ floor. «record».Floor floor) long_at bytes) (not_floor) ≡ Some x → IsRecordRead fmt kind bytes x) [
      | true ↦ λ is f.
          let t = took eight_bytes (λ n. n < 2 ^ 64) long_at (λ floor. «record».Floor floor) bytes x number_spells bs f in
          read_of fmt kind bytes x («record».Floor t.value) t.is t.text t.sound (eqb-true _ _ is)
      | false ↦ λ no_floor f. elim (kind == 3) as (λ b. (kind == 3) ≡ b → cond b (seen_as (λ c. «record».NodeCommit c) (commit_at fmt) bytes) not_commit ≡ Some x → IsRecordRead fmt kind bytes x) [
        | true ↦ λ is g.
            let t = took (commit_bytes fmt) (IsCommit fmt) (commit_at fmt) (λ c. «record».NodeCommit c) bytes x (commit_spells fmt) bs g in
            read_of fmt kind bytes x («record».NodeCommit t.value) t.is t.text t.sound (eqb-true _ _ is)
        | false ↦ λ no_commit g. elim (kind == 6) as (λ b. (kind == 6) ≡ b → cond b (seen_as (λ cs. «record».Group cs) (group_at fmt) bytes) not_group ≡ Some x → IsRecordRead fmt kind bytes x) [
          | true ↦ λ is h.
              let t = took (list_bytes (commit_bytes fmt)) (IsGroup fmt) (group_at fmt) (λ cs. «record».Group cs) bytes x (group_spells fmt) bs h in
              read_of fmt kind bytes x («record».Group t.value) t.is t.text t.sound (eqb-true _ _ is)
          | false ↦ λ no_group h. let k = guard_kept (kind == checkpoint_kind fmt) (checkpoint_at fmt bytes) x h in checkpoint_takes fmt kind bytes x bs (eqb-true _ _ k.0) k.1
        ] refl g
      ] refl f
    ] refl e
  where
    not_group : Option (Record × List ℕ)
    not_group = cond (kind == checkpoint_kind fmt) (checkpoint_at fmt bytes) None

    not_commit : Option (Record × List ℕ)
    not_commit = cond (kind == 6) (seen_as (λ cs. «record».Group cs) (group_at fmt) bytes) not_group

    not_floor : Option (Record × List ℕ)
    not_floor = cond (kind == 3) (seen_as (λ c. «record».NodeCommit c) (commit_at fmt) bytes) not_commit

-- ---- the spelling of a record is read
seen_again : {X : Type 0} (s : X → List ℕ) (I : X → Type 0) (o : Front X) (view : X → Record) → Spells s I o → (x : X) (rest : List ℕ) → I x → seen_as view o (s x ++ rest) ≡ Some (view x, rest)
seen_again s I o view one x rest is = rw (one.again x rest is) refl

record_again : (fmt : Format) (r : Record) (rest : List ℕ) → IsRecord fmt r → record_at fmt (kind_of fmt r) (record_bytes fmt r ++ rest) ≡ Some (r, rest)
unfolding record_at record_bytes checkpoint_at
record_again fmt («record».Floor floor) rest is = seen_again eight_bytes (λ n. n < 2 ^ 64) long_at (λ floor. «record».Floor floor) number_spells floor rest is
record_again fmt («record».NodeCommit c) rest is = seen_again (commit_bytes fmt) (IsCommit fmt) (commit_at fmt) (λ c. «record».NodeCommit c) (commit_spells fmt) c rest is
record_again fmt («record».Group cs) rest is = seen_again (list_bytes (commit_bytes fmt)) (IsGroup fmt) (group_at fmt) (λ cs. «record».Group cs) (group_spells fmt) cs rest is
record_again format.One («record».Checkpoint generation base floor head roots nodes) rest is =
    let p : Whole = (((((generation, base), floor), head), roots), nodes) in
    seen_again (whole_bytes format.One) (IsWholeCheckpoint format.One) (whole_at format.One) checkpoint_from (whole_spells format.One) p rest (checkpoint_whole format.One p is)
record_again format.Two («record».Checkpoint generation base floor head roots nodes) rest is =
    let p : Whole = (((((generation, base), floor), head), roots), nodes) in
    seen_again (whole_bytes format.Two) (IsWholeCheckpoint format.Two) (whole_at format.Two) checkpoint_from (whole_spells format.Two) p rest (checkpoint_whole format.Two p is)

-- ---- all of a payload
whole_takes : (fmt : Format) (kind : ℕ) (payload : List ℕ) (r : Record) → AreBytes payload → whole_record_in fmt kind payload ≡ Some r → IsSpelling fmt r kind payload
unfolding whole_record_in
whole_takes fmt kind payload r bs e =
    let x = bind_some (record_at fmt kind payload) (λ x. cond (length x.1 == 0) (Some x.0) None) r e in
    let g = guard_kept (length x.0.1 == 0) (Some x.0.0) r x.2 in
    let t = record_takes fmt kind payload x.0 bs x.1 in
    let same = same_Some x.0.0 r g.1 in
    subst (λ (s : Record). IsSpelling fmt s kind payload) same (record {
      sound = t.sound;
      kind_is = t.kind_is;
      payload_is = t.text.parts ∙ ap (λ (rest : List ℕ). record_bytes fmt x.0.0 ++ rest) (nil_from_length x.0.1 (eqb-true _ _ g.0)) ∙ append-nil (record_bytes fmt x.0.0);
    })

whole_again : (fmt : Format) (kind : ℕ) (payload : List ℕ) (r : Record) → IsSpelling fmt r kind payload → whole_record_in fmt kind payload ≡ Some r
unfolding whole_record_in
whole_again fmt kind payload r s =
    let all : record_at fmt kind payload ≡ Some (r, []) =
    ap₂ (λ (k : ℕ) (t : List ℕ). record_at fmt k t) s.kind_is (s.payload_is ∙ sym (append-nil (record_bytes fmt r))) ∙ record_again fmt r [] s.sound
    in
    ap (λ q. q >>= λ x. cond (length x.1 == 0) (Some x.0) None) all

-- ---- spellings are bytes
record_fits : (fmt : Format) (r : Record) → IsRecord fmt r → IsBytes (record_bytes fmt r)
unfolding record_bytes
record_fits fmt («record».Floor floor) is = number_spells.fits floor is
record_fits fmt («record».NodeCommit c) is = (commit_spells fmt).fits c is
record_fits fmt («record».Group cs) is = (group_spells fmt).fits cs is
record_fits fmt («record».Checkpoint generation base floor head roots nodes) is =
    let p : Whole = (((((generation, base), floor), head), roots), nodes) in (whole_spells fmt).fits p (checkpoint_whole fmt p is)

bytes_tested : (bytes : List ℕ) → list_all (λ b. nat_lt b 256) bytes ≡ true → IsBytes bytes
bytes_tested [] e = tt
bytes_tested (b ∷ bytes) e = (ltb-true _ _ (left_true _ _ e), bytes_tested bytes (right_true _ _ e))

pub tested_bytes : (bytes : List ℕ) → IsBytes bytes → list_all (λ b. nat_lt b 256) bytes ≡ true
tested_bytes [] h = refl
tested_bytes (b ∷ bytes) h = ap₂ (λ x y. x && y) (lt-ltb _ _ h.0) (tested_bytes bytes h.1)

-- ---- the laws
pub spelled_takes : (fmt : Format) (kind : ℕ) (payload : List ℕ) (r : Record) → spelled_record fmt kind payload ≡ Some r → IsSpelling fmt r kind payload
unfolding spelled_record
spelled_takes fmt kind payload r e =
    let g = guard_kept (list_all (λ b. nat_lt b 256) payload) (whole_record_in fmt kind payload) r e in
    whole_takes fmt kind payload r (AreBytes-at_places payload (bytes_tested payload g.0)) g.1

pub spelled_again : (fmt : Format) (kind : ℕ) (payload : List ℕ) (r : Record) → IsSpelling fmt r kind payload → spelled_record fmt kind payload ≡ Some r
unfolding spelled_record
spelled_again fmt kind payload r s =
    let bytes = tested_bytes payload (subst IsBytes (sym s.payload_is) (record_fits fmt r s.sound)) in
    rw bytes (whole_again fmt kind payload r s)

pub one_record : (fmt : Format) (kind : ℕ) (payload : List ℕ) (r s : Record) → IsSpelling fmt r kind payload → IsSpelling fmt s kind payload → r ≡ s
one_record fmt kind payload r s first second = same_Some r s (sym (spelled_again fmt kind payload r first) ∙ spelled_again fmt kind payload s second)

decided_by : (fmt : Format) (kind : ℕ) (payload : List ℕ) (read : Option Record) → spelled_record fmt kind payload ≡ read → ((r : Record) × IsSpelling fmt r kind payload) ⊎ ((r : Record) → IsSpelling fmt r kind payload → ⊥)
decided_by fmt kind payload (Some r) e = inl (r, spelled_takes fmt kind payload r e)
decided_by fmt kind payload None e = inr (λ r s. absurd (let both = sym e ∙ spelled_again fmt kind payload r s in cc))

pub record_or_not : (fmt : Format) (kind : ℕ) (payload : List ℕ) → ((r : Record) × IsSpelling fmt r kind payload) ⊎ ((r : Record) → IsSpelling fmt r kind payload → ⊥)
record_or_not fmt kind payload = decided_by fmt kind payload (spelled_record fmt kind payload) refl

-- ---- decoding
pub is_exact : (fmt : Format) (kind : ℕ) (payload : List ℕ) (result : Result Record RecordFault) → AreBytes payload → Gives (λ r. r) result (whole_record_in fmt kind payload) → Gives (λ r. r) result (spelled_record fmt kind payload)
unfolding spelled_record
is_exact fmt kind payload result bs given = rw (tested_bytes payload (IsBytes-from_places payload bs)) given

pub is_found : (fmt : Format) (kind : ℕ) (payload : List ℕ) (result : Result Record RecordFault) → Gives (λ r. r) result (spelled_record fmt kind payload) → IfOk result (λ r. IsSpelling fmt r kind payload)
is_found fmt kind payload (Ok r) given = spelled_takes fmt kind payload r given
is_found fmt kind payload (Err e) given = tt

pub is_bad : (fmt : Format) (kind : ℕ) (payload : List ℕ) (result : Result Record RecordFault) → Gives (λ r. r) result (spelled_record fmt kind payload) → result ≡ Err fault.Bad → (r : Record) → IsSpelling fmt r kind payload → ⊥
is_bad fmt kind payload (Ok s) given e r spells = absurd cc
is_bad fmt kind payload (Err fault.Memory) given e r spells = absurd cc
is_bad fmt kind payload (Err fault.Bad) given e r spells = absurd (let both = sym given ∙ spelled_again fmt kind payload r spells in cc)

pub is_only : (fmt : Format) (kind : ℕ) (payload : List ℕ) (result : Result Record RecordFault) → Gives (λ r. r) result (spelled_record fmt kind payload) → (r : Record) → IsSpelling fmt r kind payload → (result ≡ Ok r) ⊎ (result ≡ Err fault.Memory)
is_only fmt kind payload (Ok s) given r spells = inl (ap Ok (same_Some s r (sym given ∙ spelled_again fmt kind payload r spells)))
is_only fmt kind payload (Err fault.Memory) given r spells = inr refl
is_only fmt kind payload (Err fault.Bad) given r spells = absurd (let both = sym given ∙ spelled_again fmt kind payload r spells in cc)
