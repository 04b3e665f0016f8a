-- The numbers that sound records tell are those of what they lead to.
use Rattle.std.specs.Prelude.{flat_map, slice_get}
use Rattle.std.proofs.Common.{◌≡◌, ℕ, zero, suc, ◌+◌, ◌-◌, ◌≤◌, ◌^◌, nat_le, min, List, [], ◌∷◌, ◌++◌, length, drop, ap, ap₂, sym, ◌∙◌, arith, subst, append_assoc, Option, Some, None, option_map, true, le-leb, le-ltb, cond}
use Rattle.std.proofs.lemmas.List.{append-nil}
use Rattle.std.proofs.lemmas.Bool.{and_from}
use Rattle.jf_path.specs.Numbers.{eight_bytes}
use Rattle.jf_frame.specs.Framed.{LogRecord}
use Rattle.jf_frame.specs.Framing.{number_of}
use Rattle.jf_pair.specs.Files.{is_checkpoint}
use Rattle.jf_codec.specs.declared.format.Format.{Format}
use Rattle.jf_codec.specs.Spelling.{name_bytes}
use Rattle.jf_payload.specs.declared.records.Commit.{Commit}
use Rattle.jf_payload.specs.declared.records.Record.{Record}
use Rattle.jf_payload.specs.declared.records.Record.TheVariants as «record»
use Rattle.jf_payload.specs.Spelling.{IsSpelling, IsCommit, record_bytes, commit_bytes, list_bytes, live_bytes, fresh_bytes}
use Rattle.jf_payload.specs.Laws.{SpelledIsSpelling}
use Rattle.jf_standing.specs.Named.{NamedNode}
use Rattle.jf_standing.specs.Standing.{Standing, with_commit}
use Rattle.jf_standing.specs.Sound.{IsSound}
use Rattle.jf_standing.specs.Taking.{TakesRecord, TakesCommits, GivesStanding}
use Rattle.jf_standing.specs.Leading.{AllLead, Leads}
use Rattle.jf_files.specs.Files.{item, items}
use Rattle.jf_files.proofs.Numbered.{is_kind}
use Rattle.jf_check.specs.declared.numbers.SideNumbers.{SideNumbers}
use Rattle.jf_check.specs.Numbers.{checkpoint_numbers, numbers_by, numbers_after, numbers_through, numbers_in}
use Rattle.jf_check.proofs.Fronts.{HasFour, four_numbers, number_of-eight, length-eight_front}

-- the numbers of a standing in a generation
abbrev pub numbers_at : ℕ → Standing → SideNumbers
numbers_at g s = record { generation = g; base = s.base; floor = s.floor; head = s.head }

-- ---- the checkpoint
four_front : (g b f h : ℕ) (roots rest : List ℕ) → eight_bytes g ++ eight_bytes b ++ eight_bytes f ++ eight_bytes h ++ roots ++ rest ≡ eight_bytes g ++ (eight_bytes b ++ (eight_bytes f ++ (eight_bytes h ++ (roots ++ rest))))
four_front g b f h roots rest = simp append_assoc

-- the payload of a checkpoint begins with its numbers
checkpoint_four : (fmt : Format) (g b f h : ℕ) (roots : List (List ℕ)) (nodes : List NamedNode) (kind : ℕ) (payload : List ℕ) → IsSpelling fmt («record».Checkpoint g b f h roots nodes) kind payload → HasFour payload g b f h
unfolding record_bytes
checkpoint_four fmt g b f h roots nodes kind payload is =
    let s = is.sound in
    let low = s.base_low in let mid = s.floor_low in let high = s.head_last in let last = s.generation_last in
    subst (λ p. HasFour p g b f h) (sym (is.payload_is ∙ four_front g b f h (flat_map (λ h. h) roots) (list_bytes (live_bytes fmt) nodes)))
    (four_numbers g b f h (flat_map (λ h. h) roots ++ list_bytes (live_bytes fmt) nodes) (omega arith) (omega arith) (omega arith) (omega arith))

four_told : (x : LogRecord) (g b f h : ℕ) → is_checkpoint x.kind ≡ true → HasFour x.payload g b f h → checkpoint_numbers x ≡ Some (record { generation = g; base = b; floor = f; head = h })
four_told x g b f h kind has =
    ap (λ t. let o : Option SideNumbers = cond t (Some (record { generation = number_of x.payload; base = number_of (drop 8 x.payload); floor = number_of (drop 16 x.payload); head = number_of (drop 24 x.payload) })) None in o)
    (and_from (is_checkpoint x.kind) (nat_le 32 (length x.payload)) kind (le-leb 32 (length x.payload) has.long))
    ∙ (λ i. Some (record { generation = has.one i; base = has.two i; floor = has.three i; head = has.four i }))

first_told : (fmt : Format) (x : LogRecord) (r : Record) (s : Standing) → IsSpelling fmt r x.kind x.payload → GivesStanding fmt r s → checkpoint_numbers x ≡ Some (numbers_at (number_of x.payload) s)
first_told fmt x («record».Floor floor) s is gives = absurd gives
first_told fmt x («record».NodeCommit c) s is gives = absurd gives
first_told fmt x («record».Checkpoint g b f h roots nodes) s is gives =
    let has = checkpoint_four fmt g b f h roots nodes x.kind x.payload is in
    four_told x g b f h (ap is_checkpoint is.kind_is ∙ is_kind fmt) has
    ∙ (λ i. Some (record { generation = (sym has.one) i; base = (sym gives.1 i).base; floor = (sym gives.1 i).floor; head = (sym gives.1 i).head }))
first_told fmt x («record».Group cs) s is gives = absurd gives

-- ---- later records
told_by : (n : SideNumbers) (y : LogRecord) (kind number : ℕ) → y.kind ≡ kind → 8 ≤ length y.payload → number_of y.payload ≡ number → numbers_after n y ≡ numbers_by kind number n
told_by n y kind number is long tells =
    ap (λ t. cond t n (numbers_by y.kind (number_of y.payload) n)) (le-ltb (length y.payload) 8 long) ∙ ap₂ (λ k m. numbers_by k m n) is tells

-- the payload of a landing begins with its version
landing_front : (fmt : Format) (c : Commit) → IsCommit fmt c → (number_of (commit_bytes fmt c) ≡ c.version) × (8 ≤ length (commit_bytes fmt c))
unfolding commit_bytes
landing_front fmt c is =
    let rest = c.root ++ (list_bytes (fresh_bytes fmt) c.fresh ++ list_bytes name_bytes c.stale) in
    let e : eight_bytes c.version ++ c.root ++ list_bytes (fresh_bytes fmt) c.fresh ++ list_bytes name_bytes c.stale ≡ eight_bytes c.version ++ rest = simp append_assoc in
    (ap number_of e ∙ number_of-eight c.version rest is.version, omega (arith, ap length e, length-eight_front c.version rest))

-- landings move the head by one each, and nothing else
record Moves (s s' : Standing) (n : ℕ) : Type 0 where
  base : s'.base ≡ s.base
  floor : s'.floor ≡ s.floor
  head : s'.head ≡ s.head + n

commits_move : (fmt : Format) (s : Standing) (cs : List Commit) (s' : Standing) → TakesCommits fmt s cs s' → Moves s s' (length cs)
commits_move fmt s [] s' takes = record { base = ap (λ (t : Standing). t.base) takes; floor = ap (λ (t : Standing). t.floor) takes; head = omega (arith, ap (λ (t : Standing). t.head) takes) }
commits_move fmt s (c ∷ cs) s' takes =
    let m = commits_move fmt (with_commit c s) cs s' takes.2 in
    let next = takes.0.next in
    record { base = m.base; floor = m.floor; head = omega (arith, m.head, next) }

-- the standing after landings is sound
commits_sound : (fmt : Format) (s : Standing) (c : Commit) (cs : List Commit) (s' : Standing) → TakesCommits fmt s (c ∷ cs) s' → IsSound fmt s'
commits_sound fmt s c [] s' takes = subst (IsSound fmt) (sym takes.2) takes.1
commits_sound fmt s c (d ∷ cs) s' takes = commits_sound fmt (with_commit c s) d cs s' takes.2

moved_told : (g : ℕ) (s s' : Standing) (n : ℕ) → Moves s s' n → s'.head ≤ 2 ^ 64 - 1 → numbers_by 6 n (numbers_at g s) ≡ numbers_at g s'
moved_told g s s' n m last =
    let h : min (s.head + n) (2 ^ 64 - 1) ≡ s'.head = omega (arith, m.head) in
    λ i. record { generation = g; base = (sym m.base) i; floor = (sym m.floor) i; head = h i }

later_told : (fmt : Format) (g : ℕ) (s s' : Standing) (y : LogRecord) (r : Record) → IsSpelling fmt r y.kind y.payload → TakesRecord fmt s r s' → numbers_after (numbers_at g s) y ≡ numbers_at g s'
unfolding record_bytes
later_told fmt g s s' y («record».Floor floor) is takes =
    let e : eight_bytes floor ++ [] ≡ y.payload = append-nil (eight_bytes floor) ∙ sym is.payload_is in
    told_by (numbers_at g s) y 2 floor is.kind_is (omega (arith, ap length e, length-eight_front floor [])) (ap number_of (sym e) ∙ number_of-eight floor [] is.sound) ∙ ap (numbers_at g) (sym takes.3)
later_told fmt g s s' y («record».NodeCommit c) is takes =
    let front = landing_front fmt c is.sound in
    told_by (numbers_at g s) y 3 c.version is.kind_is (subst (λ p. 8 ≤ length p) (sym is.payload_is) front.1) (ap number_of is.payload_is ∙ front.0) ∙ ap (numbers_at g) (sym takes.2)
later_told fmt g s s' y («record».Checkpoint h b f d roots nodes) is takes = absurd takes
later_told fmt g s s' y («record».Group []) is takes = absurd (let many = is.sound.many in omega arith)
later_told fmt g s s' y («record».Group (c ∷ cs)) is takes =
    let few = is.sound.few in
    let n = length (c ∷ cs) in
    let rest = flat_map (commit_bytes fmt) (c ∷ cs) in
    told_by (numbers_at g s) y 6 n is.kind_is (omega (arith, ap length is.payload_is, length-eight_front n rest)) (ap number_of is.payload_is ∙ number_of-eight n rest (omega arith))
    ∙ moved_told g s s' n (commits_move fmt s (c ∷ cs) s' takes) (let last = (commits_sound fmt s c cs s' takes).head_last in omega arith)

-- ---- all records
module _ (spelling : SpelledIsSpelling) (fmt : Format) where
  through_told : (g : ℕ) (s : Standing) (ys : List LogRecord) (s' : Standing) → Leads fmt s (items fmt ys) s' → numbers_through (numbers_at g s) ys ≡ numbers_at g s'
  through_told g s [] s' leads = ap (numbers_at g) (sym leads)
  through_told g s (y ∷ ys) s' leads =
      let f = leads.1 in
      ap (λ n. numbers_through n ys) (later_told fmt g s leads.0 y f.0 ((spelling fmt y.kind y.payload f.0).0 f.1) f.2) ∙ through_told g leads.0 ys s' leads.2

  -- records that lead to a standing tell its numbers
  pub led_told : (x : LogRecord) (xs : List LogRecord) (s : Standing) → AllLead fmt (item fmt x) (items fmt xs) s → numbers_in (x ∷ xs) ≡ Some (numbers_at (number_of x.payload) s)
  led_told x xs s leads =
      let b = leads.1 in
      ap (option_map (λ n. numbers_through n xs)) (first_told fmt x b.0 leads.0 ((spelling fmt x.kind x.payload b.0).0 b.1) b.2) ∙ ap Some (through_told (number_of x.payload) leads.0 xs s leads.2)

-- one record after another
pub go_through : (n : SideNumbers) (rs : List LogRecord) (i : ℕ) (r : LogRecord) → slice_get rs i ≡ Some r → numbers_through n (drop i rs) ≡ numbers_through (numbers_after n r) (drop (i + 1) rs)
go_through n [] i r some = absurd (cc)
go_through n (x ∷ rs) zero r some = let e : x ≡ r = (let e : Some x ≡ Some r = some in cc) in ap (λ y. numbers_through (numbers_after n y) rs) e
go_through n (x ∷ rs) (suc i) r some = let e : suc i + 1 ≡ suc (i + 1) = omega arith in rw e (go_through n rs i r some)
