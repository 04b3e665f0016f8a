-- An honest claim is accepted, and contradicts none on maps of which any two with one root are one.
use Rattle.std.specs.List.{AllByRecursion}
use Rattle.std.proofs.Common.{◌≡◌, ℕ, ◌&&◌, Bool, true, false, cond, not, bytes_eq, find, List, [], ◌∷◌, ◌++◌, Option, Some, None, codes, refl, sym, ap, ap₂, ◌∙◌}
use Rattle.std.proofs.lemmas.Slice.Eq.{bytes_eq-Decides}
use Rattle.std.specs.FinMap as fin
use Rattle.jf_hash.specs.Maps.{Map}
use Rattle.jf_hash.specs.Roots.{root}
use Rattle.jf_evidence.specs.Proofs.{refusal}
use Rattle.jf_evidence.specs.declared.proof.ProofFault.{ProofFault}
use Rattle.jf_collide.specs.declared.judged.Judged.{Judged}
use Rattle.jf_text.specs.Words.{line_text}
use Rattle.jf_verify.specs.Verdicts.{judgement_under, contradicts, contradicted_claim, contradiction_text, same_claim, refused_text}
use Rattle.jf_verify.specs.declared.accepted.Accepted.{Accepted}

-- ---- lists of claims
pub all_more : (P : Accepted → Type 0) (claims : List Accepted) (a : Accepted) → AllByRecursion P claims → P a → AllByRecursion P (claims ++ a ∷ [])
all_more P [] a all ha = (ha, tt)
all_more P (b ∷ claims) a all ha = (all.0, all_more P claims a all.1 ha)

same_claim-self : (c : Option (List ℕ)) → same_claim c c ≡ true
same_claim-self None = refl
same_claim-self (Some v) = (bytes_eq-Decides v v).1 refl

-- ---- honest claims
-- an accepted claim has the root of one of these maps, and says what that map says
abbrev pub IsOf : (Map → Type 0) → Accepted → Type 0
IsOf asked a = (m : Map) × asked m × (a.root ≡ root m) × (a.judged.claim ≡ fin.get m a.judged.key)

module _ (asked : Map → Type 0) (one : (m m' : Map) → asked m → asked m' → root m ≡ root m' → m ≡ m') where
  agree_of : (a b : Accepted) (r k : Bool) → IsOf asked a → IsOf asked b → bytes_eq b.root a.root ≡ r → bytes_eq b.judged.key a.judged.key ≡ k
      → (r && k && not (same_claim b.judged.claim a.judged.claim)) ≡ false
  agree_of a b false false ha hb on same = refl
  agree_of a b false true ha hb on same = refl
  agree_of a b true false ha hb on same = refl
  agree_of a b true true ha hb on same =
      let roots : b.root ≡ a.root = (bytes_eq-Decides b.root a.root).0 on in
      let maps : hb.0 ≡ ha.0 = one hb.0 ha.0 hb.1 ha.1 (sym hb.2 ∙ roots ∙ ha.2) in
      let key : b.judged.key ≡ a.judged.key = (bytes_eq-Decides b.judged.key a.judged.key).0 same in
      let claim : b.judged.claim ≡ a.judged.claim = hb.3 ∙ ap₂ (λ (m : Map) (key : List ℕ). fin.get m key) maps key ∙ sym ha.3 in
      ap (λ b. not b) (ap (λ (c : Option (List ℕ)). same_claim c a.judged.claim) claim ∙ same_claim-self a.judged.claim)

  none_contradicted : (a : Accepted) (claims : List Accepted) → IsOf asked a → AllByRecursion (IsOf asked) claims → contradicted_claim a claims ≡ None
  none_contradicted a [] ha all = refl
  none_contradicted a (b ∷ claims) ha all =
      ap (λ t. cond t (Some b) (find (contradicts a) claims)) (agree_of a b (bytes_eq b.root a.root) (bytes_eq b.judged.key a.judged.key) ha all.0 refl refl) ∙ none_contradicted a claims ha all.1

  pub judged-honest : (m : Map) (claims : List Accepted) (j : Judged) → asked m → refusal (root m) j.key j.claim j.proof ≡ None → j.claim ≡ fin.get m j.key → AllByRecursion (IsOf asked) claims
      → judgement_under (root m) claims j ≡ (codes "accepted\n", claims ++ (record { root = root m; judged = j }) ∷ [])
  unfolding judgement_under
  judged-honest m claims j among accepted is all =
      let a : Accepted = record { root = root m; judged = j } in
      ap (λ (o : Option ProofFault). elim o as (λ x. List ℕ × List Accepted) [
        | Some why ↦ (refused_text why, claims)
        | None ↦ (line_text (codes "accepted" ∷ []) ++ contradiction_text a (contradicted_claim a claims), claims ++ a ∷ [])
      ]) accepted
      ∙ ap (λ (o : Option Accepted). (line_text (codes "accepted" ∷ []) ++ contradiction_text a o, claims ++ a ∷ [])) (none_contradicted a claims (m, among, refl, is) all)
