-- Landings that bytes spell, one after another, and the records that they are.
use Rattle.std.proofs.Common.{◌≡◌, ℕ, ◌+◌, ◌<◌, ◌≤◌, List, [], ◌∷◌, ◌++◌, length, Some, Ok, IsTrue, refl, sym, ap, ◌∙◌, subst, append_assoc, arith}
use Rattle.std.proofs.lemmas.Bool.{and_from, eq-eqb}
use Rattle.std.proofs.lemmas.List.{append-nil, length-append}
use Rattle.std.proofs.lemmas.List.Concat.{flat_map-append}
use Rattle.std.proofs.lemmas.Option.{same_Some}
use Rattle.std.specs.List.{flat_map, AllByRecursion}
use Rattle.jf_path.specs.Limits.{max_forks}
use Rattle.jf_path.specs.Numbers.{eight_bytes}
use Rattle.jf_path.proofs.ByteLaws.{AreBytes}
use Rattle.jf_path.proofs.ListLaws.{All-after}
use Rattle.jf_codec.specs.declared.format.Format.{Format}
use Rattle.jf_codec.specs.Reading.{eight_at}
use Rattle.jf_codec.proofs.FieldLaws.{eight_takes, eight_again}
use Rattle.jf_payload.specs.declared.records.Commit.{Commit}
use Rattle.jf_payload.specs.declared.records.Record.{Record}
use Rattle.jf_payload.specs.declared.records.Record.TheVariants as «record»
use Rattle.jf_payload.specs.Spelling.{IsCommit, IsGroup, IsSpelling, commit_bytes, list_bytes, record_bytes, are_consecutive}
use Rattle.jf_payload.specs.Laws.{SpelledIsSpelling}
use Rattle.jf_payload.specs.Reading.{commit_at, spelled_record}
use Rattle.jf_payload.proofs.RecordSpells.{commit_spells}
use Rattle.jf_standing.specs.Sound.{IsSound}
use Rattle.jf_standing.specs.Standing.{Standing, with_commit}
use Rattle.jf_standing.specs.Taking.{Continues, TakesCommits, TakesRecord}
use Rattle.jf_replay.proofs.Written.{IsTakenAs}

-- bytes begin with one landing
one_front : (fmt : Format) (c d : Commit) (a b : List ℕ) → IsCommit fmt c → IsCommit fmt d → commit_bytes fmt c ++ a ≡ commit_bytes fmt d ++ b → (c ≡ d) × (a ≡ b)
one_front fmt c d a b is other e =
    let same = same_Some (c, a) (d, b) (sym ((commit_spells fmt).again c a is) ∙ ap (commit_at fmt) e ∙ (commit_spells fmt).again d b other) in
    (ap (λ (p : Commit × List ℕ). p.0) same, ap (λ (p : Commit × List ℕ). p.1) same)

-- so many landings were taken, whose bytes stand before the rest of bytes
abbrev pub AreTakenAs : Format → Standing → List ℕ → ℕ → List ℕ → Standing → Type 0
AreTakenAs fmt s bytes count rest s' = (cs : List Commit) × (length cs ≡ count) × AllByRecursion (IsCommit fmt) cs × (bytes ≡ flat_map (commit_bytes fmt) cs ++ rest) × TakesCommits fmt s cs s'

-- one more landing is taken
takes_on : (fmt : Format) (cs : List Commit) (s a : Standing) (c : Commit) → TakesCommits fmt s cs a → Continues a c → IsSound fmt (with_commit c a) → TakesCommits fmt s (cs ++ c ∷ []) (with_commit c a)
takes_on fmt [] s a c is goes sound = (subst (λ m. Continues m c) is goes, subst (λ m. IsSound fmt (with_commit c m)) is sound, ap (with_commit c) is)
takes_on fmt (d ∷ cs) s a c is goes sound = (is.0, is.1, takes_on fmt cs (with_commit d s) a c is.2 goes sound)

-- so one more is taken off the bytes
pub one_more_taken : (fmt : Format) (s a b : Standing) (bytes rest after : List ℕ) (count : ℕ) → AreTakenAs fmt s bytes count rest a → IsTakenAs fmt a rest after b → AreTakenAs fmt s bytes (count + 1) after b
one_more_taken fmt s a b bytes rest after count t n =
    let c = n.0 in (
      t.0 ++ c ∷ [],
      omega (arith, length-append t.0 (c ∷ []), t.1),
      All-after (IsCommit fmt) t.0 c t.2 n.1,
      t.3 ∙ ap (λ (x : List ℕ). flat_map (commit_bytes fmt) t.0 ++ x) n.2 ∙ sym (append_assoc (flat_map (commit_bytes fmt) t.0) (commit_bytes fmt c) after)
          ∙ ap (λ (x : List ℕ). x ++ after) (sym (flat_map-append (commit_bytes fmt) t.0 (c ∷ []) ∙ ap (λ (x : List ℕ). flat_map (commit_bytes fmt) t.0 ++ x) (append-nil (commit_bytes fmt c)))),
      subst (λ (m : Standing). TakesCommits fmt s (t.0 ++ c ∷ []) m) (sym n.5) (takes_on fmt t.0 s a c t.4 n.3 n.4),
    )

-- ---- what the landings are that bytes spell
-- the one after those that were taken is at the front of the rest, and is taken
next_there : (fmt : Format) (ds cs : List Commit) (s a b : Standing) (rest : List ℕ) → length ds < length cs → AllByRecursion (IsCommit fmt) ds → AllByRecursion (IsCommit fmt) cs
    → flat_map (commit_bytes fmt) ds ++ rest ≡ flat_map (commit_bytes fmt) cs → TakesCommits fmt s ds a → TakesCommits fmt s cs b
    → (c : Commit) × (more : List ℕ) × IsCommit fmt c × (rest ≡ commit_bytes fmt c ++ more) × Continues a c × IsSound fmt (with_commit c a)
next_there fmt [] [] s a b rest lt ds_are are e done whole = absurd (omega (arith, lt))
next_there fmt [] (c ∷ cs) s a b rest lt ds_are are e done whole =
    (c, flat_map (commit_bytes fmt) cs, are.0, e, subst (λ (m : Standing). Continues m c) (sym done) whole.0, subst (λ (m : Standing). IsSound fmt (with_commit c m)) (sym done) whole.1)
next_there fmt (d ∷ ds) [] s a b rest lt ds_are are e done whole = absurd (omega (arith, lt))
next_there fmt (d ∷ ds) (c ∷ cs) s a b rest lt ds_are are e done whole =
    let one = one_front fmt d c (flat_map (commit_bytes fmt) ds ++ rest) (flat_map (commit_bytes fmt) cs) ds_are.0 are.0 (sym (append_assoc (commit_bytes fmt d) (flat_map (commit_bytes fmt) ds) rest) ∙ e) in
    next_there fmt ds cs (with_commit d s) a b rest (omega (arith, lt)) ds_are.1 are.1 one.1 done.2 (subst (λ (k : Commit). TakesCommits fmt (with_commit k s) cs b) (sym one.0) whole.2)

-- nothing is behind as many as were taken
none_there : (fmt : Format) (ds cs : List Commit) (rest : List ℕ) → length ds ≡ length cs → AllByRecursion (IsCommit fmt) ds → AllByRecursion (IsCommit fmt) cs → flat_map (commit_bytes fmt) ds ++ rest ≡ flat_map (commit_bytes fmt) cs → rest ≡ []
none_there fmt [] [] rest same ds_are are e = e
none_there fmt [] (c ∷ cs) rest same ds_are are e = absurd (omega (arith, same))
none_there fmt (d ∷ ds) [] rest same ds_are are e = absurd (omega (arith, same))
none_there fmt (d ∷ ds) (c ∷ cs) rest same ds_are are e =
    let one = one_front fmt d c (flat_map (commit_bytes fmt) ds ++ rest) (flat_map (commit_bytes fmt) cs) ds_are.0 are.0 (sym (append_assoc (commit_bytes fmt d) (flat_map (commit_bytes fmt) ds) rest) ∙ e) in
    none_there fmt ds cs rest (omega (arith, same)) ds_are.1 are.1 one.1

module _ (fmt : Format) (s a b : Standing) (bytes rest : List ℕ) (count : ℕ) (t : AreTakenAs fmt s bytes count rest a) (cs : List Commit) (are : AllByRecursion (IsCommit fmt) cs) (spelled : bytes ≡ flat_map (commit_bytes fmt) cs) where
  pub next_of_taken : count < length cs → TakesCommits fmt s cs b → (c : Commit) × (more : List ℕ) × IsCommit fmt c × (rest ≡ commit_bytes fmt c ++ more) × Continues a c × IsSound fmt (with_commit c a)
  next_of_taken lt whole = next_there fmt t.0 cs s a b rest (let n = t.1 in omega (arith, n, lt)) t.2 are (sym t.3 ∙ spelled) t.4 whole

  pub none_after_taken : count ≡ length cs → rest ≡ []
  none_after_taken same = none_there fmt t.0 cs rest (t.1 ∙ same) t.2 are (sym t.3 ∙ spelled)

-- the versions of landings that are taken one after another rise by one
pub taken-consecutive : (fmt : Format) (s b : Standing) (cs : List Commit) → TakesCommits fmt s cs b → IsTrue (are_consecutive cs)
taken-consecutive fmt s b [] whole = refl
taken-consecutive fmt s b (c ∷ []) whole = refl
taken-consecutive fmt s b (c ∷ d ∷ cs) whole = and_from _ _ (eq-eqb d.version (c.version + 1) whole.2.0.next) (taken-consecutive fmt (with_commit c s) b (d ∷ cs) whole.2)

-- ---- a group, which is the number of its landings and then the landings
pub group_read : (fmt : Format) (bytes : List ℕ) (cs : List Commit) → IsGroup fmt cs → bytes ≡ list_bytes (commit_bytes fmt) cs → eight_at bytes ≡ Ok (length cs, flat_map (commit_bytes fmt) cs)
group_read fmt bytes cs is e = ap eight_at e ∙ eight_again (length cs) (flat_map (commit_bytes fmt) cs) (let few = is.few in omega (arith, few))

pub group_taken : (fmt : Format) (s s' : Standing) (bytes landings : List ℕ) (count : ℕ) → AreBytes bytes → eight_at bytes ≡ Ok (count, landings) → 2 ≤ count → count ≤ max_forks
    → (cs : List Commit) × (length cs ≡ count) × AllByRecursion (IsCommit fmt) cs × (landings ≡ flat_map (commit_bytes fmt) cs) × TakesCommits fmt s cs s' → (cs : List Commit) × IsGroup fmt cs × (bytes ≡ list_bytes (commit_bytes fmt) cs) × TakesCommits fmt s cs s'
group_taken fmt s s' bytes landings count fits read many few t =
    let n = t.1 in (
      t.0,
      record { many = omega (arith, n, many); few = omega (arith, n, few); commits = t.2; versions = taken-consecutive fmt s s' t.0 t.4 },
      (eight_takes bytes (count, landings) fits read).0.parts ∙ ap (λ (k : ℕ). eight_bytes k ++ landings) (sym n) ∙ ap (λ (x : List ℕ). eight_bytes (length t.0) ++ x) t.3,
      t.4,
    )

-- ---- records
-- the record that is one landing
pub one-follows : SpelledIsSpelling → (fmt : Format) (s s' : Standing) (kind : ℕ) (payload : List ℕ) → kind ≡ 3
    → (cs : List Commit) × (length cs ≡ 1) × AllByRecursion (IsCommit fmt) cs × (payload ≡ flat_map (commit_bytes fmt) cs) × TakesCommits fmt s cs s' → (r : Record) × (spelled_record fmt kind payload ≡ Some r) × TakesRecord fmt s r s'
unfolding record_bytes
one-follows spells fmt s s' kind payload is t = at t.0 t.1 t.2 t.3 t.4
  where
    at : (cs : List Commit) → length cs ≡ 1 → AllByRecursion (IsCommit fmt) cs → payload ≡ flat_map (commit_bytes fmt) cs → TakesCommits fmt s cs s' → (r : Record) × (spelled_record fmt kind payload ≡ Some r) × TakesRecord fmt s r s'
    at [] one are e takes = absurd (omega (arith, one))
    at (c ∷ d ∷ cs) one are e takes = absurd (omega (arith, one))
    at (c ∷ []) one are e takes =
        («record».NodeCommit c, (spells fmt kind payload («record».NodeCommit c)).1 (record { sound = are.0; kind_is = is; payload_is = e ∙ append-nil (commit_bytes fmt c) }), takes)

-- the record that is a group
pub group-follows : SpelledIsSpelling → (fmt : Format) (s s' : Standing) (kind : ℕ) (payload : List ℕ) → kind ≡ 6
    → (cs : List Commit) × IsGroup fmt cs × (payload ≡ list_bytes (commit_bytes fmt) cs) × TakesCommits fmt s cs s' → (r : Record) × (spelled_record fmt kind payload ≡ Some r) × TakesRecord fmt s r s'
unfolding record_bytes
group-follows spells fmt s s' kind payload is t = («record».Group t.0, (spells fmt kind payload («record».Group t.0)).1 (record { sound = t.1; kind_is = is; payload_is = t.2 }), t.3)

differs : (kind k n : ℕ) → kind ≡ k → (n ≡ k → ⊥) → kind ≡ n → ⊥
differs kind k n is apart e = apart (sym e ∙ is)

-- no record of one landing is taken
pub one-refused : SpelledIsSpelling → (fmt : Format) (s : Standing) (kind : ℕ) (payload : List ℕ) → kind ≡ 3
    → ((cs : List Commit) (s' : Standing) → length cs ≡ 1 → AllByRecursion (IsCommit fmt) cs → payload ≡ flat_map (commit_bytes fmt) cs → TakesCommits fmt s cs s' → ⊥)
    → (r : Record) (s' : Standing) → spelled_record fmt kind payload ≡ Some r → TakesRecord fmt s r s' → ⊥
unfolding record_bytes
one-refused spells fmt s kind payload is none r s' read = at r ((spells fmt kind payload r).0 read)
  where
    at : (x : Record) → IsSpelling fmt x kind payload → TakesRecord fmt s x s' → ⊥
    at («record».Floor floor) spelling takes = differs kind 3 2 is (λ q. omega (arith, q)) spelling.kind_is
    at («record».NodeCommit c) spelling takes = none (c ∷ []) s' refl (spelling.sound, tt) (spelling.payload_is ∙ sym (append-nil (commit_bytes fmt c))) takes
    at («record».Checkpoint generation base floor head roots nodes) spelling takes = takes
    at («record».Group cs) spelling takes = differs kind 3 6 is (λ q. omega (arith, q)) spelling.kind_is

-- no record of a group is taken
pub group-refused : SpelledIsSpelling → (fmt : Format) (s : Standing) (kind : ℕ) (payload : List ℕ) → kind ≡ 6
    → ((cs : List Commit) (s' : Standing) → IsGroup fmt cs → payload ≡ list_bytes (commit_bytes fmt) cs → TakesCommits fmt s cs s' → ⊥) → (r : Record) (s' : Standing) → spelled_record fmt kind payload ≡ Some r → TakesRecord fmt s r s' → ⊥
unfolding record_bytes
group-refused spells fmt s kind payload is none r s' read = at r ((spells fmt kind payload r).0 read)
  where
    at : (x : Record) → IsSpelling fmt x kind payload → TakesRecord fmt s x s' → ⊥
    at («record».Floor floor) spelling takes = differs kind 6 2 is (λ q. omega (arith, q)) spelling.kind_is
    at («record».NodeCommit c) spelling takes = differs kind 6 3 is (λ q. omega (arith, q)) spelling.kind_is
    at («record».Checkpoint generation base floor head roots nodes) spelling takes = takes
    at («record».Group cs) spelling takes = none cs s' spelling.sound spelling.payload_is takes
