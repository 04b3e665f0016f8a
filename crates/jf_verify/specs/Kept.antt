-- The accepted claims that are kept: of each root and key the first one, and the first that differs from it. A later claim contradicts some accepted one exactly if it contradicts one of these.
use Rattle.std.specs.Prelude.{ℕ, List, [], ◌∷◌, ◌++◌, Option, Some, None, Bool, if◌then◌else◌, is_some, not, ◌&&◌, codes}
use Rattle.std.specs.Ordering.{nat_cmp, ordering_then}
use Rattle.std.specs.Cmp.Lexicographic.{slice_cmp}
use Rattle.std.specs.BTreeMap.{is_at, insert_entry}
use Rattle.std.specs.Map.{lookup}
use Rattle.std.specs.declared.cmp.Ordering.{Ordering}
use Rattle.jf_evidence.specs.Proofs.{refusal}
use Rattle.jf_collide.specs.declared.judged.Judged.{Judged}
use Rattle.jf_text.specs.Words.{line_text}
use Rattle.jf_verify.specs.Verdicts.{refused_text, contradicts, contradicted_claim, contradiction_text}
use Rattle.jf_verify.specs.declared.accepted.Accepted.{Accepted}

-- ---- what claims are on
-- a root and a key
abbrev pub Subject : Type 0
Subject = List ℕ × List ℕ

-- the order of subjects: by the root, and then by the key
abbrev pub subject_cmp : Subject → Subject → Ordering
subject_cmp a b = ordering_then (slice_cmp nat_cmp a.0 b.0) (slice_cmp nat_cmp a.1 b.1)

-- the subject of a claim
abbrev pub subject_of : Accepted → Subject
subject_of a = (a.root, a.judged.key)

-- claims by their subjects, in the order of these: at most one on each
abbrev pub AcceptedClaims : Type 0
AcceptedClaims = List (Subject × Accepted)

-- the claim on a subject
unfoldable pub claim_on : AcceptedClaims → Subject → Option Accepted
claim_on table s = lookup (is_at (subject_cmp s)) table

-- the table with this claim on its subject
unfoldable pub table_with_claim : AcceptedClaims → Accepted → AcceptedClaims
table_with_claim table a = insert_entry subject_cmp table (subject_of a) a

-- ---- at most two claims on a subject
-- the claims that are kept
pub record ClaimsBySubject : Type 0 where
  -- the first on each subject
  pub firsts : AcceptedClaims
  -- the first on each subject that differs from the first one
  pub others : AcceptedClaims

-- no claim
abbrev pub nothing_kept : ClaimsBySubject
nothing_kept = record { firsts = []; others = [] }

-- a claim, if there is one, as a list
abbrev pub list_of_claim : Option Accepted → List Accepted
list_of_claim None = []
list_of_claim (Some a) = a ∷ []

-- the claims on a subject: the first, and the first that differs from it
abbrev pub claims_on : ClaimsBySubject → Subject → List Accepted
claims_on k s = list_of_claim (claim_on k.firsts s) ++ list_of_claim (claim_on k.others s)

-- whether a claim is the first on its subject that differs from the first one
abbrev pub is_first_to_differ : ClaimsBySubject → Accepted → Accepted → Bool
is_first_to_differ k a first = contradicts a first && not (is_some (claim_on k.others (subject_of a)))

-- what is kept after one claim more
abbrev pub with_claim : ClaimsBySubject → Accepted → ClaimsBySubject
with_claim k a =
    elim (claim_on k.firsts (subject_of a)) [
      | None ↦ record { firsts = table_with_claim k.firsts a; others = k.others }
      | Some first ↦ if is_first_to_differ k a first then record { firsts = k.firsts; others = table_with_claim k.others a } else k
    ]

-- what a claim is answered under a root, and what is kept after it
unfoldable pub judged_by : List ℕ → ClaimsBySubject → Judged → List ℕ × ClaimsBySubject
judged_by root kept j =
    let a : Accepted = record { root = root; judged = j } in
    elim (refusal root j.key j.claim j.proof) [
      | Some why ↦ (refused_text why, kept)
      | None ↦ (line_text (codes "accepted" ∷ []) ++ contradiction_text a (contradicted_claim a (claims_on kept (subject_of a))), with_claim kept a)
    ]
