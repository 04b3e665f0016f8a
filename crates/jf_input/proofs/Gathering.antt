-- What lines add, some of it written and the rest gathered.
use Rattle.std.specs.Prelude.{Result, Ok, Err, OnOk, OnErr}
use Rattle.std.specs.Result.{is_err}
use Rattle.std.proofs.Common.{◌≡◌, ◌⊎◌, Bool, true, false, not, ℕ, ◌≤◌, List, ◌++◌, Option, [], ◌∷◌, refl, sym, ap, ◌∙◌, subst, append_assoc, append-nil, inl, inr, length, ◌<◌, option_map, take, drop, arith, length-append, length-drop, take-append-drop}
use Rattle.std.proofs.lemmas.Bool.{cases_lt}
use Rattle.std.proofs.lemmas.List.{take-append-le, drop-append-le}
use Rattle.std.proofs.Math.Seq.{take-append_seam, drop-append_seam}
use Rattle.jf_io.specs.Sink.{IsCutShort}
use Rattle.jf_io.proofs.Written.{nothing_written, written_more}
use Rattle.jf_input.specs.Feeds.{max_gathered, TakesLines, GoesOnQuietly, Appends, HandsOn, Gathers, IsGathered, StopsGathering, EndsAtLine}
use Rattle.jf_input.specs.declared.feeding.Feeding.TheVariants as feeding

-- ---- lines taken one after another
took_append : {M F : Type 0} (takes : M → List ℕ → M → Result (List ℕ) F → Type 0) (old mid new : M) (ls ms : List (List ℕ)) (said more : List ℕ) → TakesLines takes old ls mid said → TakesLines takes mid ms new more
    → TakesLines takes old (ls ++ ms) new (said ++ more)
took_append takes old mid new [] ms said more w v = subst (λ (x : List ℕ). TakesLines takes old ms new (x ++ more)) (sym w.1) (subst (λ m. TakesLines takes m ms new more) w.0 v)
took_append takes old mid new (line ∷ ls) ms said more w v = (
  w.0,
  w.1,
  w.2 ++ more,
  w.3,
  took_append takes w.0 mid new ls ms w.2 more w.4 v,
  ap (λ x. x ++ more) w.5 ∙ append_assoc w.1 w.2 more,
)

-- one line more
took_more : {M F : Type 0} (takes : M → List ℕ → M → Result (List ℕ) F → Type 0) (old mid new : M) (ls : List (List ℕ)) (line said t : List ℕ) → TakesLines takes old ls mid said
    → takes mid line new (Ok t) → TakesLines takes old (ls ++ line ∷ []) new (said ++ t)
took_more takes old mid new ls line said t w step = took_append takes old mid new ls (line ∷ []) said t w (new, t, [], step, (refl, refl), sym (append-nil t))

-- ---- lines of which what they add is gathered
-- a line was taken, and it was quiet
abbrev Quietly : {M F : Type 0} → (M → List ℕ → M → Result (List ℕ) F → Type 0) → (M → M → Type 0) → M → List ℕ → M → Result (List ℕ) F → Type 0
Quietly takes quiet old line new r = takes old line new r × quiet old new

-- these lines were taken one after another, all but the first of them quiet, and this is what they add
abbrev pub Gathered : {M F : Type 0} → (M → List ℕ → M → Result (List ℕ) F → Type 0) → (M → M → Type 0) → M → List (List ℕ) → M → List ℕ → Type 0
Gathered takes quiet old [] new text = (new ≡ old) × (text ≡ [])
Gathered {M} takes quiet old (line ∷ ls) new text = (mid : M) × (t : List ℕ) × (more : List ℕ) × takes old line mid (Ok t) × TakesLines (Quietly takes quiet) mid ls new more × (text ≡ t ++ more)

module _ {M F : Type 0} (takes : M → List ℕ → M → Result (List ℕ) F → Type 0) (quiet : M → M → Type 0) where
  took_quietly : (old new : M) (ls : List (List ℕ)) (text : List ℕ) → TakesLines (Quietly takes quiet) old ls new text → TakesLines takes old ls new text
  took_quietly old new [] text w = w
  took_quietly old new (line ∷ ls) text w = (w.0, w.1, w.2, w.3.0, took_quietly w.0 new ls w.2 w.4, w.5)

  took_gathered : (old new : M) (ls : List (List ℕ)) (text : List ℕ) → Gathered takes quiet old ls new text → TakesLines takes old ls new text
  took_gathered old new [] text w = w
  took_gathered old new (line ∷ ls) text w = (w.0, w.1, w.2, w.3, took_quietly w.0 new ls w.2 w.4, w.5)

  gathered_quietly : (old new : M) (ls : List (List ℕ)) (text : List ℕ) → TakesLines (Quietly takes quiet) old ls new text → Gathered takes quiet old ls new text
  gathered_quietly old new [] text w = w
  gathered_quietly old new (line ∷ ls) text w = (w.0, w.1, w.2, w.3.0, w.4, w.5)

  goes_quietly : (old new : M) (ls : List (List ℕ)) (text : List ℕ) → TakesLines (Quietly takes quiet) old ls new text → GoesOnQuietly takes quiet old ls new
  goes_quietly old new [] text w = w.0
  goes_quietly old new (line ∷ ls) text w = (w.0, Ok w.1, w.3.0, w.3.1, goes_quietly w.0 new ls w.2 w.4)

  goes_further : (old mid new : M) (ls ms : List (List ℕ)) → GoesOnQuietly takes quiet old ls mid → GoesOnQuietly takes quiet mid ms new → GoesOnQuietly takes quiet old (ls ++ ms) new
  goes_further old mid new [] ms w v = subst (λ m. GoesOnQuietly takes quiet m ms new) w v
  goes_further old mid new (line ∷ ls) ms w v = (w.0, w.1, w.2, w.3, goes_further w.0 mid new ls ms w.4 v)

  -- one quiet line more
  gathered_more : (old mid new : M) (ls : List (List ℕ)) (line out t : List ℕ) → Gathered takes quiet old ls mid out → takes mid line new (Ok t) → quiet mid new → Gathered takes quiet old (ls ++ line ∷ []) new (out ++ t)
  gathered_more old mid new [] line out t w step q = (new, t, [], subst (λ m. takes m line new (Ok t)) w.0 step, (refl, refl), ap (λ x. x ++ t) w.1 ∙ sym (append-nil t))
  gathered_more old mid new (l ∷ ls) line out t w step q = (
    w.0,
    w.1,
    w.2 ++ t,
    w.3,
    took_more (Quietly takes quiet) w.0 mid new ls line w.2 t w.4 (step, q),
    ap (λ x. x ++ t) w.5 ∙ append_assoc w.1 w.2 t,
  )

  -- ---- what was gathered is cut
  -- it is cut in what this line adds, and the lines after it were quiet
  record Cut (old : M) (ls : List (List ℕ)) (new : M) (front : List ℕ) : Type 0 where
    before : List (List ℕ)
    mid : M
    said : List ℕ
    took : TakesLines takes old before mid said
    line : List ℕ
    later : List (List ℕ)
    lines_are : ls ≡ before ++ line ∷ later
    next : M
    text : List ℕ
    step : takes mid line next (Ok text)
    part : List ℕ
    missing : List ℕ
    front_is : front ≡ said ++ part
    whole : part ++ missing ≡ text
    is_short : 0 < length missing
    goes_on : GoesOnQuietly takes quiet next later new

  -- it is cut in what the first line adds, or behind that
  cut_first : (front missing t more : List ℕ) → front ++ missing ≡ t ++ more → length front ≤ length t → front ++ drop (length front) t ≡ t
  cut_first front missing t more is le =
      let n = length front in
      let same : front ≡ take n t = sym (take-append_seam front missing) ∙ ap (take n) is ∙ take-append-le n t more le in
      ap (λ x. x ++ drop n t) same ∙ take-append-drop n t

  cut_behind : (front missing t more : List ℕ) → front ++ missing ≡ t ++ more → length t ≤ length front → (front ≡ t ++ drop (length t) front) × (drop (length t) front ++ missing ≡ more)
  cut_behind front missing t more is le =
      let n = length t in
      let same : take n front ≡ t = sym (take-append-le n front missing le) ∙ ap (take n) is ∙ take-append_seam t more in
      (sym (take-append-drop n front) ∙ ap (λ x. x ++ drop n front) same, sym (drop-append-le n front missing le) ∙ ap (drop n) is ∙ drop-append_seam t more)

  find_cut : (old new : M) (ls : List (List ℕ)) (text front missing : List ℕ) → Gathered takes quiet old ls new text → front ++ missing ≡ text → 0 < length missing → Cut old ls new front
  find_cut old new [] text front missing w is some = absurd (omega (arith, some, length-append front missing, ap length is, ap length w.1))
  find_cut old new (line ∷ ls) text front missing w is some =
      let t = w.1 in
      elim (cases_lt (length front) (length t)) [
        | inl lt ↦ record {
          before = [];
          mid = old;
          said = [];
          took = (refl, refl);
          line = line;
          later = ls;
          lines_are = refl;
          next = w.0;
          text = t;
          step = w.3;
          part = front;
          missing = drop (length front) t;
          front_is = refl;
          whole = cut_first front missing t w.2 (is ∙ w.5) (omega arith);
          is_short = omega (arith, length-drop (length front) t);
          goes_on = goes_quietly w.0 new ls w.2 w.4;
        }
        | inr le ↦
            let b = cut_behind front missing t w.2 (is ∙ w.5) (omega arith) in
            let r = find_cut w.0 new ls w.2 (drop (length t) front) missing (gathered_quietly w.0 new ls w.2 w.4) b.1 some in
            record {
              before = line ∷ r.before;
              mid = r.mid;
              said = t ++ r.said;
              took = (w.0, t, r.said, w.3, r.took, refl);
              line = r.line;
              later = r.later;
              lines_are = ap (λ x. line ∷ x) r.lines_are;
              next = r.next;
              text = r.text;
              step = r.step;
              part = r.part;
              missing = r.missing;
              front_is = b.0 ∙ ap (λ x. t ++ x) r.front_is ∙ sym (append_assoc t r.said r.part);
              whole = r.whole;
              is_short = r.is_short;
              goes_on = r.goes_on;
            }
      ]

-- ---- lines of which what they add is written, and then lines of which it is gathered
pub record Keeps {M F : Type 0} (takes : M → List ℕ → M → Result (List ℕ) F → Type 0) (quiet : M → M → Type 0) (old now : M) (text text' : Option (List ℕ)) (out : List ℕ) (ls : List (List ℕ)) : Type 0 where
  pub done : List (List ℕ)
  pub mid : M
  pub said : List ℕ
  pub took : TakesLines takes old done mid said
  pub written : Appends text text' said
  pub kept : List (List ℕ)
  pub lines_are : ls ≡ done ++ kept
  pub gathered : Gathered takes quiet mid kept now out

-- these lines were taken, and all that they add is written
pub record Written {M F : Type 0} (takes : M → List ℕ → M → Result (List ℕ) F → Type 0) (old now : M) (text text' : Option (List ℕ)) (ls : List (List ℕ)) : Type 0 where
  pub said : List ℕ
  pub took : TakesLines takes old ls now said
  pub put : Appends text text' said

-- what was gathered is cut in what a line adds
pub record KeptCut {M F : Type 0} (takes : M → List ℕ → M → Result (List ℕ) F → Type 0) (quiet : M → M → Type 0) (old new : M) (text text' : Option (List ℕ)) (ls : List (List ℕ)) : Type 0 where
  pub done : List (List ℕ)
  pub mid : M
  pub text_so_far : Option (List ℕ)
  pub all : Written takes old mid text text_so_far done
  pub line : List ℕ
  pub later : List (List ℕ)
  pub lines_are : ls ≡ done ++ line ∷ later
  pub ends : EndsAtLine takes quiet feeding.WriteFault mid line later new text_so_far text'

module _ {M F : Type 0} {takes : M → List ℕ → M → Result (List ℕ) F → Type 0} {quiet : M → M → Type 0} {old : M} {text : Option (List ℕ)} where
  pub keeps_written : {now : M} {text' : Option (List ℕ)} {ls : List (List ℕ)} → Written takes old now text text' ls → Keeps takes quiet old now text text' [] ls
  keeps_written {now = now} {ls = ls} w = record { done = ls; mid = now; said = w.said; took = w.took; written = w.put; kept = []; lines_are = sym (append-nil ls); gathered = (refl, refl) }

  pub keeps_none : Keeps takes quiet old old text text [] []
  keeps_none = keeps_written (record { said = []; took = (refl, refl); put = nothing_written text })

  -- what was gathered is written
  pub written_all : {now : M} {text' text'' : Option (List ℕ)} {out : List ℕ} {ls : List (List ℕ)} → Keeps takes quiet old now text text' out ls → Appends text' text'' out → Written takes old now text text'' ls
  written_all {now = now} {out = out} k put = record {
    said = k.said ++ out;
    took = subst (λ (x : List (List ℕ)). TakesLines takes old x now (k.said ++ out)) (sym k.lines_are) (took_append takes old k.mid now k.done k.kept k.said out k.took (took_gathered takes quiet k.mid now k.kept out k.gathered));
    put = put ∙ ap (option_map (λ x. x ++ out)) k.written ∙ written_more text k.said out;
  }

  -- nothing is gathered
  pub written_none : {now : M} {text' : Option (List ℕ)} {out : List ℕ} {ls : List (List ℕ)} → Keeps takes quiet old now text text' out ls → out ≡ [] → Written takes old now text text' ls
  written_none {text' = text'} k none = written_all k (nothing_written text' ∙ ap (λ o. option_map (λ t. t ++ o) text') (sym none))

  pub keeps_handed : {now : M} {text' text'' : Option (List ℕ)} {out out' : List ℕ} {ls : List (List ℕ)} → Keeps takes quiet old now text text' out ls → HandsOn text' text'' out out' → Keeps takes quiet old now text text'' out' ls
  keeps_handed {now = now} {text'' = text''} {ls = ls} k (inl all) = subst (λ (o : List ℕ). Keeps takes quiet old now text text'' o ls) (sym all.1) (keeps_written (written_all k all.0))
  keeps_handed {now = now} {text' = text'} {out' = out'} {ls = ls} k (inr none) =
      subst (λ (t : Option (List ℕ)). Keeps takes quiet old now text t out' ls) (sym none.0) (subst (λ (o : List ℕ). Keeps takes quiet old now text text' o ls) (sym none.1) k)

  -- one line more
  pub keeps_line : {now next : M} {text' text'' : Option (List ℕ)} {out out' : List ℕ} {ls : List (List ℕ)} (line t : List ℕ) → Keeps takes quiet old now text text' out ls → takes now line next (Ok t) → Gathers quiet now next text' text'' out out' t
      → Keeps takes quiet old next text text'' out' (ls ++ line ∷ [])
  keeps_line {now = now} {next = next} {ls = ls} line t k step (inl all) =
      let w = written_all k all.0 in
      record {
        done = ls;
        mid = now;
        said = w.said;
        took = w.took;
        written = w.put;
        kept = line ∷ [];
        lines_are = refl;
        gathered = (next, t, [], step, (refl, refl), all.1 ∙ sym (append-nil t));
      }
  keeps_line {now = now} {next = next} {out = out} {ls = ls} line t k step (inr more) = record {
    done = k.done;
    mid = k.mid;
    said = k.said;
    took = k.took;
    written = more.0 ∙ k.written;
    kept = k.kept ++ line ∷ [];
    lines_are = ap (λ x. x ++ line ∷ []) k.lines_are ∙ append_assoc k.done k.kept (line ∷ []);
    gathered = subst (λ o. Gathered takes quiet k.mid (k.kept ++ line ∷ []) next o) (sym more.1) (gathered_more takes quiet k.mid now next k.kept line out t k.gathered step more.2);
  }

  -- not all that was gathered is written, and quiet lines may have been taken after it
  pub keeps_cut : {now new : M} {text' text'' : Option (List ℕ)} {out : List ℕ} {ls : List (List ℕ)} (more : List (List ℕ)) → Keeps takes quiet old now text text' out ls → IsCutShort text' text'' out → GoesOnQuietly takes quiet now more new
      → KeptCut takes quiet old new text text'' (ls ++ more)
  keeps_cut {now = now} {new = new} {text' = text'} {out = out} {ls = ls} more k c on =
      let r = find_cut takes quiet k.mid now k.kept out c.front c.missing k.gathered c.whole c.is_short in
      record {
        done = k.done ++ r.before;
        mid = r.mid;
        text_so_far = option_map (λ t. t ++ r.said) text';
        all = record {
          said = k.said ++ r.said;
          took = took_append takes old k.mid r.mid k.done r.before k.said r.said k.took r.took;
          put = ap (option_map (λ t. t ++ r.said)) k.written ∙ written_more text k.said r.said;
        };
        line = r.line;
        later = r.later ++ more;
        lines_are = ap (λ x. x ++ more) (k.lines_are ∙ ap (λ x. k.done ++ x) r.lines_are ∙ sym (append_assoc k.done r.before (r.line ∷ r.later))) ∙ append_assoc (k.done ++ r.before) (r.line ∷ r.later) more;
        ends = (
          r.next,
          r.text,
          r.step,
          record {
            front = r.part;
            missing = r.missing;
            whole = r.whole;
            is_short = r.is_short;
            appended = c.appended ∙ ap (λ f. option_map (λ t. t ++ f) text') r.front_is ∙ sym (written_more text' r.said r.part);
          },
          goes_further takes quiet r.next now new r.later more r.goes_on on,
        );
      }

-- ---- one line, after what was gathered before was written, or not
module _ {M : Type 0} (quiet : M → M → Type 0) {old new : M} {text text' : Option (List ℕ)} {out mid : List ℕ} (on : HandsOn text text' out mid) (known : (quiet old new × (length out < max_gathered)) ⊎ (mid ≡ [])) where
  handed : ((mid ≡ []) × Appends text text' out) ⊎ ((text' ≡ text) × (mid ≡ out) × quiet old new × (length out < max_gathered))
  handed = elim on [
    | inl all ↦ inl (all.1, all.0)
    | inr none ↦ elim known [
      | inl q ↦ inr (none.0, none.1, q.0, q.1)
      | inr e ↦ inl (e, none.0 ∙ nothing_written text ∙ ap (λ o. option_map (λ t. t ++ o) text) (sym e ∙ none.1))
    ]
  ]

  pub gathers_line : {out' t : List ℕ} → out' ≡ mid ++ t → Gathers quiet old new text text' out out' t
  gathers_line {t = t} is = elim handed [
    | inl all ↦ inl (all.1, is ∙ ap (λ x. x ++ t) all.0)
    | inr none ↦ inr (none.0, is ∙ ap (λ x. x ++ t) none.1, none.2, none.3)
  ]

  -- the machine stopped in it, and then not all could be written
  pub stops_cut : {F : Type 0} (takes : M → List ℕ → M → Result (List ℕ) F → Type 0) {text'' : Option (List ℕ)} {out' : List ℕ} (line : List ℕ) (r : Result (List ℕ) F) → out' ≡ mid → IsCutShort text' text'' out' → takes old line new r
      → StopsGathering takes quiet feeding.WriteFault old line new text text'' out
  stops_cut takes {text'' = text''} line r same c step = elim handed [
    | inl all ↦ absurd (omega (arith, c.is_short, length-append c.front c.missing, ap length c.whole, ap length (same ∙ all.0)))
    | inr none ↦ (subst (λ (t : Option (List ℕ)). IsCutShort t text'' out) none.0 (subst (λ (o : List ℕ). IsCutShort text' text'' o) (same ∙ none.1) c), inr (r, step, none.2))
  ]

-- ---- how much is gathered
module _ {M F : Type 0} (takes : M → List ℕ → M → Result (List ℕ) F → Type 0) where
  -- one line more
  pub is_gathered_line : (quiet : M → M → Type 0) {old new : M} {text text' : Option (List ℕ)} (out : List ℕ) {out' : List ℕ} (line t : List ℕ) → takes old line new (Ok t) → Gathers quiet old new text text' out out' t → IsGathered takes new out'
  is_gathered_line quiet {old = old} out line t step (inl all) = inr (old, line, [], t, step, all.1, omega arith)
  is_gathered_line quiet {old = old} out line t step (inr more) = inr (old, line, out, t, step, more.1, more.3)

-- ---- what a call ensures, by the test of its result
pub from_ok : {T E P : Type 0} (r : Result T E) → is_err r ≡ false → OnOk r P → P
from_ok (Ok x) e p = p
from_ok (Err x) e p = absurd (cc)

pub from_err : {T E P : Type 0} (r : Result T E) → is_err r ≡ true → OnErr r P → P
from_err (Ok x) e p = absurd (cc)
from_err (Err x) e p = p

-- what follows if a test fails, where it can't pass
pub from_not : {P : Type 0} (b : Bool) → (b ≡ true → ⊥) → (not b ≡ true → P) → P
from_not true never p = absurd (never refl)
from_not false never p = p refl

-- what a test decides
pub from_test : {P Q : Type 0} (b : Bool) → (b ≡ false → P) → (b ≡ true → Q) → P ⊎ Q
from_test true p q = inr (q refl)
from_test false p q = inl (p refl)
