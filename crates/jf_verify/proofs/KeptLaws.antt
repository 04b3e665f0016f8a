-- The kept claims represent all accepted ones: the first of all to contradict a claim is one of the two kept on its subject.
use Rattle.std.proofs.Common.{◌≡◌, ℕ, length, codes, Bool, true, false, cond, List, [], ◌∷◌, ◌++◌, not, ◌&&◌, Option, Some, None, refl, sym, subst, ap, ◌∙◌, nat_lt, append_assoc, append-nil}
use Rattle.std.specs.List.{find}
use Rattle.std.specs.Option.{is_some}
use Rattle.std.proofs.lemmas.Bool.{and_parts}
use Rattle.jf_evidence.specs.declared.proof.Proof.{Proof}
use Rattle.jf_evidence.specs.declared.proof.ProofFault.{ProofFault}
use Rattle.jf_evidence.specs.declared.proof.ProofFault.TheVariants as fault
use Rattle.jf_evidence.specs.Proofs.{refusal}
use Rattle.jf_collide.specs.declared.judged.Judged.{Judged}
use Rattle.jf_blocks.specs.Sides.{kept_sides}
use Rattle.jf_text.specs.Words.{line_text}
use Rattle.jf_blocks.proofs.SideLaws.{kept_sides-deep, kept_sides-shallow}
use Rattle.jf_verify.specs.declared.accepted.Accepted.{Accepted}
use Rattle.jf_verify.specs.Verdicts.{contradicts, contradicted_claim, judgement_under, contradiction_text, refused_text}
use Rattle.jf_verify.specs.Kept.{Subject, subject_of, claim_on, table_with_claim, ClaimsBySubject, nothing_kept, list_of_claim, claims_on, is_first_to_differ, with_claim, judged_by}
use Rattle.jf_verify.proofs.Finding.{find-same, find-first, find-stays, find-alike, Passes, found-passes, find-none, find-hit}
use Rattle.jf_verify.proofs.Subjects.{is_on, on-subject, claim_on-entered}
use Rattle.jf_verify.proofs.Contradictions.{contradicts-on, apart, contradicts-self, contradicts-swap, alike}

-- the first claim that contradicts a first one, if there is one
abbrev pub differing : Option Accepted → List Accepted → Option Accepted
differing None claims = None
differing (Some f) claims = find (contradicts f) claims

-- of all these claims, the first on each subject is kept, and the first that differs from it
pub record Keeps (k : ClaimsBySubject) (claims : List Accepted) : Type 0 where
  pub firsts : (s : Subject) → claim_on k.firsts s ≡ find (is_on s) claims
  pub others : (s : Subject) → claim_on k.others s ≡ differing (find (is_on s) claims) claims

keeps_nothing : Keeps nothing_kept []
unfolding claim_on
keeps_nothing = record { firsts = λ s. refl; others = λ s. refl }

-- ---- a claim that contradicts one of all
listed-found : (a : Accepted) (claims : List Accepted) (p : Accepted → Bool) → ((x : Accepted) → contradicts a x ≡ p x) → (o : Option Accepted) → find p claims ≡ o → Passes p o → find (contradicts a) (list_of_claim o) ≡ find (contradicts a) claims
listed-found a claims p same None is passes = sym (find-alike (contradicts a) p same claims ∙ is)
listed-found a claims p same (Some x) is passes =
    ap (λ t. cond t (Some x) None) (same x ∙ passes) ∙ sym (find-alike (contradicts a) p same claims ∙ is)

first_contradicts : (a f : Accepted) (claims : List Accepted) → find (is_on (subject_of a)) claims ≡ Some f → is_on (subject_of a) f ≡ true → (t : Bool) → contradicts a f ≡ t
    → cond t (Some f) (find (contradicts a) (list_of_claim (find (contradicts f) claims))) ≡ find (contradicts a) claims
first_contradicts a f claims is on true e = sym (find-hit (contradicts a) (is_on (subject_of a)) (contradicts-on a) claims f is e)
first_contradicts a f claims is on false e = listed-found a claims (contradicts f) (alike a f on e) (find (contradicts f) claims) refl (found-passes (contradicts f) claims)

of_two : (a : Accepted) (claims : List Accepted) (o : Option Accepted) → find (is_on (subject_of a)) claims ≡ o → Passes (is_on (subject_of a)) o
    → contradicted_claim a (list_of_claim o ++ list_of_claim (differing o claims)) ≡ contradicted_claim a claims
of_two a claims None is passes = sym (find-none (contradicts a) (is_on (subject_of a)) (contradicts-on a) claims is)
of_two a claims (Some f) is passes = first_contradicts a f claims is passes (contradicts a f) refl

-- the first claim of all that contradicts this one is one of the two that are kept on its subject
pub contradicted-kept : (a : Accepted) (k : ClaimsBySubject) (claims : List Accepted) → Keeps k claims → contradicted_claim a (claims_on k (subject_of a)) ≡ contradicted_claim a claims
contradicted-kept a k claims keeps =
    let s = subject_of a in
    ap (λ o. contradicted_claim a (list_of_claim o ++ list_of_claim (claim_on k.others s))) (keeps.firsts s)
    ∙ ap (λ o. contradicted_claim a (list_of_claim (find (is_on s) claims) ++ list_of_claim o)) (keeps.others s)
    ∙ of_two a claims (find (is_on s) claims) refl (found-passes (is_on s) claims)

-- ---- one claim more
differing_elsewhere : (s : Subject) (a : Accepted) (claims : List Accepted) → is_on s a ≡ false → (o : Option Accepted) → Passes (is_on s) o → differing o (claims ++ a ∷ []) ≡ differing o claims
differing_elsewhere s a claims off None passes = refl
differing_elsewhere s a claims off (Some f) passes = find-same (contradicts f) claims a (apart s f a passes off)

-- on another subject nothing changes
elsewhere : (s : Subject) (a : Accepted) (claims : List Accepted) → is_on s a ≡ false
    → differing (find (is_on s) (claims ++ a ∷ [])) (claims ++ a ∷ []) ≡ differing (find (is_on s) claims) claims
elsewhere s a claims off =
    ap (λ o. differing o (claims ++ a ∷ [])) (find-same (is_on s) claims a off) ∙ differing_elsewhere s a claims off (find (is_on s) claims) (found-passes (is_on s) claims)

module _ (k : ClaimsBySubject) (claims : List Accepted) (keeps : Keeps k claims) (a : Accepted) where
  abbrev more : List Accepted
  more = claims ++ a ∷ []

  abbrev own : Subject
  own = subject_of a

  -- the claim is the first on its subject
  enters_first : (s : Subject) (t : Bool) → is_on s a ≡ t → find (is_on own) claims ≡ None → cond t (Some a) (claim_on k.firsts s) ≡ find (is_on s) more
  enters_first s true on none =
      let none' : find (is_on s) claims ≡ None = subst (λ r. find (is_on r) claims ≡ None) (on-subject s a on) none in
      sym (find-first (is_on s) claims a none' on)
  enters_first s false off none = keeps.firsts s ∙ sym (find-same (is_on s) claims a off)

  none_differs : (s : Subject) (t : Bool) → is_on s a ≡ t → find (is_on own) claims ≡ None → claim_on k.others s ≡ differing (find (is_on s) more) more
  none_differs s true on none =
      let same = on-subject s a on in
      let none' : find (is_on s) claims ≡ None = subst (λ r. find (is_on r) claims ≡ None) same none in
      let quiet : find (contradicts a) claims ≡ None = find-none (contradicts a) (is_on own) (contradicts-on a) claims none in
      keeps.others s ∙ ap (λ o. differing o claims) none'
      ∙ sym (ap (λ o. differing o more) (find-first (is_on s) claims a none' on) ∙ find-same (contradicts a) claims a (contradicts-self a) ∙ quiet)
  none_differs s false off none = keeps.others s ∙ sym (elsewhere s a claims off)

  as_first : find (is_on own) claims ≡ None → Keeps (record { firsts = table_with_claim k.firsts a; others = k.others }) more
  as_first none = record {
    firsts = λ s. claim_on-entered k.firsts a s ∙ enters_first s (is_on s a) refl none;
    others = λ s. none_differs s (is_on s a) refl none;
  }

  -- there is a first one on its subject
  first_stays : (f : Accepted) → find (is_on own) claims ≡ Some f → (s : Subject) (t : Bool) → is_on s a ≡ t → claim_on k.firsts s ≡ find (is_on s) more
  first_stays f is s true on =
      let is' : find (is_on s) claims ≡ Some f = subst (λ r. find (is_on r) claims ≡ Some f) (on-subject s a on) is in
      keeps.firsts s ∙ is' ∙ sym (find-stays (is_on s) claims a f is')
  first_stays f is s false off = keeps.firsts s ∙ sym (find-same (is_on s) claims a off)

  -- and this one is the first to differ from it
  enters_other : (f : Accepted) → find (is_on own) claims ≡ Some f → contradicts a f ≡ true → claim_on k.others own ≡ None → (s : Subject) (t : Bool) → is_on s a ≡ t
      → cond t (Some a) (claim_on k.others s) ≡ differing (find (is_on s) more) more
  enters_other f is differs none s true on =
      let same = on-subject s a on in
      let is' : find (is_on s) claims ≡ Some f = subst (λ r. find (is_on r) claims ≡ Some f) same is in
      let quiet : find (contradicts f) claims ≡ None = sym (keeps.others own ∙ ap (λ o. differing o claims) is) ∙ none in
      sym (ap (λ o. differing o more) (find-stays (is_on s) claims a f is') ∙ find-first (contradicts f) claims a quiet (sym (contradicts-swap a f) ∙ differs))
  enters_other f is differs none s false off = keeps.others s ∙ sym (elsewhere s a claims off)

  as_other : (f : Accepted) → find (is_on own) claims ≡ Some f → contradicts a f ≡ true → claim_on k.others own ≡ None → Keeps (record { firsts = k.firsts; others = table_with_claim k.others a }) more
  as_other f is differs none = record {
    firsts = λ s. first_stays f is s (is_on s a) refl;
    others = λ s. claim_on-entered k.others a s ∙ enters_other f is differs none s (is_on s a) refl;
  }

  -- or it isn't needed
  unneeded : (f : Accepted) (t : Bool) (o : Option Accepted) → contradicts a f ≡ t → find (contradicts f) claims ≡ o → (t && not (is_some o)) ≡ false → find (contradicts f) more ≡ find (contradicts f) claims
  unneeded f true None e is spare = absurd cc
  unneeded f true (Some x) e is spare = find-stays (contradicts f) claims a x is ∙ sym is
  unneeded f false o e is spare = find-same (contradicts f) claims a (sym (contradicts-swap a f) ∙ e)

  other_stays : (f : Accepted) → find (is_on own) claims ≡ Some f → is_first_to_differ k a f ≡ false → (s : Subject) (t : Bool) → is_on s a ≡ t → claim_on k.others s ≡ differing (find (is_on s) more) more
  other_stays f is spare s true on =
      let is' : find (is_on s) claims ≡ Some f = subst (λ r. find (is_on r) claims ≡ Some f) (on-subject s a on) is in
      let kept : claim_on k.others own ≡ find (contradicts f) claims = keeps.others own ∙ ap (λ o. differing o claims) is in
      let enough : (contradicts a f && not (is_some (find (contradicts f) claims))) ≡ false = sym (ap (λ o. contradicts a f && not (is_some o)) kept) ∙ spare in
      keeps.others s ∙ ap (λ o. differing o claims) is'
      ∙ sym (ap (λ o. differing o more) (find-stays (is_on s) claims a f is') ∙ unneeded f (contradicts a f) (find (contradicts f) claims) refl refl enough)
  other_stays f is spare s false off = keeps.others s ∙ sym (elsewhere s a claims off)

  as_neither : (f : Accepted) → find (is_on own) claims ≡ Some f → is_first_to_differ k a f ≡ false → Keeps k more
  as_neither f is spare = record { firsts = λ s. first_stays f is s (is_on s a) refl; others = λ s. other_stays f is spare s (is_on s a) refl }

  is_none : (o : Option Accepted) → not (is_some o) ≡ true → o ≡ None
  is_none None e = refl
  is_none (Some x) e = absurd cc

  by_difference : (f : Accepted) → find (is_on own) claims ≡ Some f → (t : Bool) → is_first_to_differ k a f ≡ t → Keeps (cond t (record { firsts = k.firsts; others = table_with_claim k.others a }) k) more
  by_difference f is true e = let parts = and_parts (contradicts a f) (not (is_some (claim_on k.others own))) e in as_other f is parts.0 (is_none (claim_on k.others own) parts.1)
  by_difference f is false e = as_neither f is e

  by_first : (o : Option Accepted) → claim_on k.firsts own ≡ o
      → Keeps (elim o as (λ x. ClaimsBySubject) [ None ↦ record { firsts = table_with_claim k.firsts a; others = k.others } | Some first ↦ cond (is_first_to_differ k a first) (record { firsts = k.firsts; others = table_with_claim k.others a }) k ]) more
  by_first None is = as_first (sym (keeps.firsts own) ∙ is)
  by_first (Some f) is = by_difference f (sym (keeps.firsts own) ∙ is) (is_first_to_differ k a f) refl

  keeps_more : Keeps (with_claim k a) more
  keeps_more = by_first (claim_on k.firsts own) refl

-- ---- all claims
-- what is kept after claims one after another
unfoldable pub kept_from : ClaimsBySubject → List Accepted → ClaimsBySubject
kept_from k [] = k
kept_from k (a ∷ claims) = kept_from (with_claim k a) claims

-- what is kept of claims
abbrev pub kept_claims : List Accepted → ClaimsBySubject
kept_claims claims = kept_from nothing_kept claims

keeps_from : (k : ClaimsBySubject) (before claims : List Accepted) → Keeps k before → Keeps (kept_from k claims) (before ++ claims)
unfolding kept_from
keeps_from k before [] keeps = subst (Keeps k) (sym (append-nil before)) keeps
keeps_from k before (a ∷ claims) keeps =
    subst (Keeps (kept_from (with_claim k a) claims)) (append_assoc before (a ∷ []) claims) (keeps_from (with_claim k a) (before ++ a ∷ []) claims (keeps_more k before keeps a))

-- of all claims those are kept that represent them
pub keeps-kept_claims : (claims : List Accepted) → Keeps (kept_claims claims) claims
keeps-kept_claims claims = keeps_from nothing_kept [] claims keeps_nothing

pub kept_from-more : (k : ClaimsBySubject) (claims : List Accepted) (a : Accepted) → kept_from k (claims ++ a ∷ []) ≡ with_claim (kept_from k claims) a
unfolding kept_from
kept_from-more k [] a = refl
kept_from-more k (b ∷ claims) a = kept_from-more (with_claim k b) claims a

-- ---- verdicts
-- the line of a claim that is accepted
abbrev accepted_text : List ℕ
accepted_text = line_text (codes "accepted" ∷ [])

-- a verdict and what is kept after it, of a verdict and all accepted claims after it
abbrev pub with_kept_claims : List ℕ × List Accepted → List ℕ × ClaimsBySubject
with_kept_claims p = (p.0, kept_claims p.1)

-- a claim with the siblings that are kept
abbrev pub with_kept_sides : Judged → Judged
with_kept_sides j = record { key = j.key; claim = j.claim; proof = record { leaf = j.proof.leaf; siblings = kept_sides j.proof.siblings } }

judged_kept : (root : List ℕ) (claims : List Accepted) (j : Judged) (o : Option ProofFault)
    → (let a : Accepted = record { root = root; judged = j } in
    elim o as (λ x. List ℕ × ClaimsBySubject) [
      | Some why ↦ (refused_text why, kept_claims claims)
      | None ↦ (accepted_text ++ contradiction_text a (contradicted_claim a (claims_on (kept_claims claims) (subject_of a))), with_claim (kept_claims claims) a)
    ])
    ≡ (let a : Accepted = record { root = root; judged = j } in
    with_kept_claims (elim o as (λ x. List ℕ × List Accepted) [
      | Some why ↦ (refused_text why, claims)
      | None ↦ (accepted_text ++ contradiction_text a (contradicted_claim a claims), claims ++ a ∷ [])
    ]))
judged_kept root claims j (Some why) = refl
judged_kept root claims j None =
    let a : Accepted = record { root = root; judged = j } in
    ap (λ o. (accepted_text ++ contradiction_text a o, with_claim (kept_claims claims) a)) (contradicted-kept a (kept_claims claims) claims (keeps-kept_claims claims))
    ∙ ap (λ k. (accepted_text ++ contradiction_text a (contradicted_claim a claims), k)) (sym (kept_from-more nothing_kept claims a))

-- a claim is judged by the claims that are kept as by all
pub judged_by-kept_claims : (root : List ℕ) (claims : List Accepted) (j : Judged) → judged_by root (kept_claims claims) j ≡ with_kept_claims (judgement_under root claims j)
unfolding judgement_under judged_by
judged_by-kept_claims root claims j = judged_kept root claims j (refusal root j.key j.claim j.proof)

-- more than 256 siblings are too many, whatever they are
refusal-deep : (root key : List ℕ) (claim : Option (List ℕ)) (proof : Proof) → nat_lt 256 (length proof.siblings) ≡ true → refusal root key claim proof ≡ Some fault.TooDeep
unfolding refusal
refusal-deep root key claim proof deep = rw deep refl

judged-refused : (root : List ℕ) (claims : List Accepted) (j : Judged) (why : ProofFault) → refusal root j.key j.claim j.proof ≡ Some why → judgement_under root claims j ≡ (refused_text why, claims)
unfolding judgement_under
judged-refused root claims j why is =
    let a : Accepted = record { root = root; judged = j } in
    ap (λ (o : Option ProofFault). elim o as (λ x. List ℕ × List Accepted) [ Some why' ↦ (refused_text why', claims) | None ↦ (accepted_text ++ contradiction_text a (contradicted_claim a claims), claims ++ a ∷ []) ]) is

deep_alike : (root : List ℕ) (claims : List Accepted) (j : Judged) (t : Bool) → nat_lt 256 (length j.proof.siblings) ≡ t → judgement_under root claims (with_kept_sides j) ≡ judgement_under root claims j
deep_alike root claims j true deep =
    let kept : Judged = with_kept_sides j in
    judged-refused root claims kept fault.TooDeep (refusal-deep root j.key j.claim kept.proof (kept_sides-deep j.proof.siblings deep))
    ∙ sym (judged-refused root claims j fault.TooDeep (refusal-deep root j.key j.claim j.proof deep))
deep_alike root claims j false shallow =
    ap (λ ss. judgement_under root claims (record { key = j.key; claim = j.claim; proof = record { leaf = j.proof.leaf; siblings = ss } })) (kept_sides-shallow j.proof.siblings shallow)

-- a claim is judged by the siblings that are kept as by all
pub judged-kept_sides : (root : List ℕ) (claims : List Accepted) (j : Judged) → judgement_under root claims (with_kept_sides j) ≡ judgement_under root claims j
judged-kept_sides root claims j = deep_alike root claims j (nat_lt 256 (length j.proof.siblings)) refl
