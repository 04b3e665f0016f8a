-- An audit has one answer, and a claim that isn't the map's is caught by the honest one.
use Rattle.std.specs.Prelude.{ℕ, Option, Some, None, List, ◌≡◌}
use Rattle.std.proofs.Common.{sym, ap, ◌∙◌, refl}
use Rattle.jf_hash.specs.Roots.{root}
use Rattle.jf_evidence.specs.declared.proof.ProofFault.{ProofFault}
use Rattle.jf_evidence.specs.Clashes.{clash}
use Rattle.jf_evidence.proofs.HonestLaws.{honest-accepted}
use Rattle.jf_collide.specs.declared.outcome.Audit.{Audit}
use Rattle.jf_collide.specs.Audits.{first_refused, first_of_two, refusal_of}
use Rattle.jf_collide.specs.AuditLaws.{AuditsHaveOneAnswer, honest_judged, WrongClaimsAreCaught}
use Rattle.jf_collide.specs.declared.outcome.Audit.TheVariants as audit

-- ---- proofs
abbrev refused_as : Option (ℕ × ProofFault) → Audit
refused_as None = audit.Agree
refused_as (Some r) = audit.Refused r.0 r.1

abbrev collision_as : Option (List ℕ × List ℕ) → Audit
collision_as None = audit.Agree
collision_as (Some c) = audit.Collision c.0 c.1

one_refused : (o : Option (ℕ × ProofFault)) (which other : ℕ) (why reason : ProofFault) → o ≡ Some (which, why) → o ≡ Some (other, reason) → audit.Refused which why ≡ audit.Refused other reason
one_refused o which other why reason e f = ap refused_as (sym e ∙ f)

one_collision : (o : Option (List ℕ × List ℕ)) (x y a b : List ℕ) → o ≡ Some (x, y) → o ≡ Some (a, b) → audit.Collision x y ≡ audit.Collision a b
one_collision o x y a b e f = ap collision_as (sym e ∙ f)

pub audits-one : AuditsHaveOneAnswer
audits-one root first second (audit.Refused which why) (audit.Refused other reason) h k = one_refused (first_refused root first second) which other why reason h k
audits-one root first second (audit.Refused which why) (audit.Collision x y) h k = absurd (let none = k.accepted in cc)
audits-one root first second (audit.Refused which why) audit.Agree h k = absurd (let none = k.accepted in cc)
audits-one root first second (audit.Collision x y) (audit.Refused which why) h k = absurd (let none = h.accepted in cc)
audits-one root first second (audit.Collision x y) (audit.Collision a b) h k = one_collision (clash first.key first.claim first.proof second.claim second.proof) x y a b h.apart k.apart
audits-one root first second (audit.Collision x y) audit.Agree h k = absurd (k.at_one h.contradict)
audits-one root first second audit.Agree (audit.Refused which why) h k = absurd (let none = h.accepted in cc)
audits-one root first second audit.Agree (audit.Collision x y) h k = absurd (h.at_one k.contradict)
audits-one root first second audit.Agree audit.Agree h k = refl

none_refused : (a b : Option ProofFault) → a ≡ None → b ≡ None → first_of_two a b ≡ None
none_refused None None ea eb = refl
none_refused (Some a) b ea eb = absurd (cc)
none_refused None (Some b) ea eb = absurd (cc)

pub wrong-caught : WrongClaimsAreCaught
wrong-caught m judged (audit.Refused which why) is_map ok differ h =
    absurd (let none = none_refused (refusal_of (root m) judged) (refusal_of (root m) (honest_judged m judged.key)) ok (honest-accepted m judged.key is_map) in cc)
wrong-caught m judged (audit.Collision x y) is_map ok differ h = h.collision
wrong-caught m judged audit.Agree is_map ok differ h = absurd (h.at_one (record { same_key = refl; other_claim = differ }))
