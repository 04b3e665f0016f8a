-- What was taken of an input, and what of it is still to come.
use Rattle.std.proofs.Common.{◌≡◌, ℕ, ◌+◌, ◌<◌, ◌≤◌, List, [], ◌++◌, Option, Some, None, length, refl, sym, ap, subst, ◌∙◌, inl, inr, append-nil, length-append, arith}
use Rattle.std.proofs.lemmas.Bool.{cases_lt}
use Rattle.jf_io.specs.declared.piece.TheConstants.{USUAL_PIECE}
use Rattle.jf_ask.specs.Lookups.{lookup, IsSoundLookup, HonestBlocksAreBelieved}
use Rattle.jf_judge.specs.JudgedReplies.{max_reply, HasTaken, TakesReply, WritesLookup, HasJudgedReply}
use Rattle.jf_judge.specs.declared.judging.Judged.{Judged}
use Rattle.jf_judge.proofs.LongTexts.{lookup-long}

-- nothing was taken yet
pub taken-none : (rest : Option (List ℕ)) → HasTaken rest rest []
taken-none None = record { input = []; left = []; split = refl; told = λ text e. absurd (cc); few = omega arith }
taken-none (Some t) = record { input = t; left = t; split = refl; told = λ text e. (cc, refl); few = omega arith }

pub taken-more : (rest rest' rest'' : Option (List ℕ)) (bytes bytes' : List ℕ) → HasTaken rest rest' bytes → ((to_come : List ℕ) → rest' ≡ Some to_come → (left : List ℕ) × (rest'' ≡ Some left) × (bytes' ++ left ≡ bytes ++ to_come)) → length bytes' ≤ max_reply + USUAL_PIECE → HasTaken rest rest'' bytes'
taken-more None rest' rest'' bytes bytes' h more few = record { input = bytes'; left = []; split = append-nil bytes'; told = λ text e. absurd (cc); few = few }
taken-more (Some t) rest' rest'' bytes bytes' h more few =
    let now = h.told t refl in
    let after = more h.left now.1 in
    record {
      input = t;
      left = after.0;
      split = after.2 ∙ h.split ∙ sym now.0;
      told = λ text e. (cc, after.1);
      few = few;
    }

-- all was taken
pub taken-all : (rest rest' : Option (List ℕ)) (bytes : List ℕ) → HasTaken rest rest' bytes → ((left : List ℕ) → rest' ≡ Some left → left ≡ []) → TakesReply rest rest' bytes
taken-all None rest' bytes h over = (record { input = bytes; left = []; split = append-nil bytes; told = λ text e. absurd (cc); few = h.few }, λ small. refl)
taken-all (Some t) rest' bytes h over = (h, λ small. over h.left (h.told t refl).1)

-- more was taken than a block can have
pub taken-long : (rest rest' : Option (List ℕ)) (bytes : List ℕ) → HasTaken rest rest' bytes → max_reply < length bytes → TakesReply rest rest' bytes
taken-long rest rest' bytes h long = (h, λ small. absurd (omega arith))

-- ---- what it shows
module _ (top name : List ℕ) (rest rest' : Option (List ℕ)) (bytes : List ℕ) (r : TakesReply rest rest' bytes) where
  abbrev IsWhole : Type 0
  IsWhole = r.0.input ≡ bytes

  whole : length bytes ≤ max_reply → IsWhole
  whole small = sym r.0.split ∙ ap (λ left. bytes ++ left) (r.1 small) ∙ append-nil bytes

  longer : max_reply < length bytes → max_reply < length r.0.input
  longer long = omega (arith, long, ap length r.0.split, length-append bytes r.0.left)

  pub lookup-taken : lookup top name bytes ≡ lookup top name r.0.input
  lookup-taken =
      elim (cases_lt max_reply (length bytes)) [
        | inl long ↦ lookup-long top name bytes long ∙ sym (lookup-long top name r.0.input (longer long))
        | inr small ↦ ap (lookup top name) (sym (whole small))
      ]

  sound-long : max_reply < length bytes → IsSoundLookup top name r.0.input
  sound-long long = λ m claim is top_is shown other. absurd (let e = sym shown ∙ lookup-long top name r.0.input (longer long) in cc)

  pub sound-taken : IsSoundLookup top name bytes → IsSoundLookup top name r.0.input
  sound-taken sound =
      elim (cases_lt max_reply (length bytes)) [
        | inl long ↦ sound-long long
        | inr small ↦ subst (λ t. IsSoundLookup top name t) (sym (whole small)) sound
      ]

  -- the line of what was taken is that of the input
  pub verdict-taken : (how : Judged) (text text' : Option (List ℕ)) → IsSoundLookup top name bytes → HonestBlocksAreBelieved → WritesLookup how (lookup top name bytes) text text' → HasJudgedReply how top name rest rest' text text'
  verdict-taken how text text' sound honest written = record {
    taken = bytes;
    front = r.0;
    whole = λ came. r.1;
    written = subst (λ shown. WritesLookup how shown text text') lookup-taken written;
    sound = λ came. sound-taken sound;
    fair = λ came. honest top name r.0.input;
  }
