-- Claims by what they are on: a root and a key.
use Rattle.std.proofs.Common.{◌≡◌, ℕ, Bool, true, false, cond, List, [], ◌∷◌, bytes_eq, ◌&&◌, Option, Some, None, refl, sym, subst, ap, ◌∙◌}
use Rattle.std.specs.Ordering.{is_eq, nat_cmp, ordering_then, match_ordering}
use Rattle.std.specs.Cmp.Lexicographic.{slice_cmp}
use Rattle.std.specs.BTreeMap.{is_at, insert_entry}
use Rattle.std.specs.Map.{lookup}
use Rattle.std.specs.declared.cmp.Ordering.{Ordering}
use Rattle.std.specs.declared.cmp.Ordering.TheVariants.{Less, Equal, Greater}
use Rattle.std.proofs.lemmas.Bool.{and_parts}
use Rattle.std.proofs.lemmas.Map.Text.{is_eq-slice_cmp}
use Rattle.std.proofs.lemmas.Slice.Eq.{bytes_eq-Decides}
use Rattle.jf_verify.specs.declared.accepted.Accepted.{Accepted}
use Rattle.jf_verify.specs.Kept.{Subject, subject_cmp, subject_of, AcceptedClaims, claim_on, table_with_claim}

-- ---- subjects
-- whether a claim is on a subject
abbrev pub is_on : Subject → Accepted → Bool
is_on s a = bytes_eq a.root s.0 && bytes_eq a.judged.key s.1

is_eq-then : (r s : Ordering) → is_eq (ordering_then r s) ≡ (is_eq r && is_eq s)
is_eq-then Less s = refl
is_eq-then Equal s = refl
is_eq-then Greater s = refl

-- a subject ties with another if both parts are equal
is_at-parts : (p q : Subject) → is_at (subject_cmp p) q ≡ (bytes_eq p.0 q.0 && bytes_eq p.1 q.1)
is_at-parts p q =
    is_eq-then (slice_cmp nat_cmp p.0 q.0) (slice_cmp nat_cmp p.1 q.1)
    ∙ ap (λ b. b && is_eq (slice_cmp nat_cmp p.1 q.1)) (is_eq-slice_cmp p.0 q.0)
    ∙ ap (λ b. bytes_eq p.0 q.0 && b) (is_eq-slice_cmp p.1 q.1)

pub both_equal : (a b c d : List ℕ) → (bytes_eq a b && bytes_eq c d) ≡ true → (a ≡ b) × (c ≡ d)
both_equal a b c d h = let parts = and_parts (bytes_eq a b) (bytes_eq c d) h in ((bytes_eq-Decides a b).0 parts.0, (bytes_eq-Decides c d).0 parts.1)

-- a claim on a subject has it
pub on-subject : (s : Subject) (a : Accepted) → is_on s a ≡ true → subject_of a ≡ s
on-subject s a h = let e = both_equal a.root s.0 a.judged.key s.1 h in rw (e.0, e.1) refl

pub on_own : (a : Accepted) → is_on (subject_of a) a ≡ true
on_own a = ap (λ b. b && bytes_eq a.judged.key a.judged.key) ((bytes_eq-Decides a.root a.root).1 refl) ∙ (bytes_eq-Decides a.judged.key a.judged.key).1 refl

tied : (p q : Subject) → is_at (subject_cmp p) q ≡ true → p ≡ q
tied p q h = let e = both_equal p.0 q.0 p.1 q.1 (sym (is_at-parts p q) ∙ h) in rw (e.0, e.1) refl

tied_self : (p : Subject) → is_at (subject_cmp p) p ≡ true
tied_self p = is_at-parts p p ∙ ap (λ b. b && bytes_eq p.1 p.1) ((bytes_eq-Decides p.0 p.0).1 refl) ∙ (bytes_eq-Decides p.1 p.1).1 refl

tied_both : (p q : Subject) (a b : Bool) → is_at (subject_cmp p) q ≡ a → is_at (subject_cmp q) p ≡ b → a ≡ b
tied_both p q true true e h = refl
tied_both p q false false e h = refl
tied_both p q true false e h = let same = tied p q e in absurd (let self = subst (λ r. is_at (subject_cmp r) p ≡ false) (sym same) h in let own = tied_self p in cc)
tied_both p q false true e h = let same = tied q p h in absurd (let self = subst (λ r. is_at (subject_cmp p) r ≡ false) same e in let own = tied_self p in cc)

is_at-sym : (p q : Subject) → is_at (subject_cmp p) q ≡ is_at (subject_cmp q) p
is_at-sym p q = tied_both p q (is_at (subject_cmp p) q) (is_at (subject_cmp q) p) refl refl

-- ---- a table with one claim more
at_same : (v w : Option Accepted) (u : Accepted) (t : Bool) → cond t (Some u) v ≡ cond t (Some u) (cond t w v)
at_same v w u true = refl
at_same v w u false = refl

at_other : (q k e : Subject) (u v : Accepted) (rest : Option Accepted) (here there : Bool) → is_eq (subject_cmp k e) ≡ false → is_at (subject_cmp k) q ≡ here → is_at (subject_cmp q) e ≡ there
    → cond there (Some u) (cond here (Some v) rest) ≡ cond here (Some v) (cond there (Some u) rest)
at_other q k e u v rest true true apart h t = absurd (let one = tied k q h in let two = tied q e t in let self = subst (λ r. is_at (subject_cmp k) r ≡ true) (one ∙ two) (tied_self k) in cc)
at_other q k e u v rest true false apart h t = refl
at_other q k e u v rest false true apart h t = refl
at_other q k e u v rest false false apart h t = refl

module _ (k : Subject) (v : Accepted) (q : Subject) where
  at_entry : (e : Subject × Accepted) (es : AcceptedClaims) (o : Ordering) → subject_cmp k e.0 ≡ o
      → lookup (is_at (subject_cmp q)) (insert_entry subject_cmp es k v) ≡ cond (is_at (subject_cmp k) q) (Some v) (lookup (is_at (subject_cmp q)) es)
      → lookup (is_at (subject_cmp q)) (match_ordering o ((k, v) ∷ e ∷ es) ((e.0, v) ∷ es) (e ∷ insert_entry subject_cmp es k v)) ≡ cond (is_at (subject_cmp k) q) (Some v) (lookup (is_at (subject_cmp q)) (e ∷ es))
  at_entry e es Less is others = ap (λ t. cond t (Some v) (lookup (is_at (subject_cmp q)) (e ∷ es))) (is_at-sym q k)
  at_entry e es Equal is others =
      let same : k ≡ e.0 = tied k e.0 (ap is_eq is) in
      let here : is_at (subject_cmp q) e.0 ≡ is_at (subject_cmp k) q = ap (is_at (subject_cmp q)) (sym same) ∙ is_at-sym q k in
      at_same (lookup (is_at (subject_cmp q)) es) (Some e.1) v (is_at (subject_cmp q) e.0)
      ∙ ap (λ t. cond t (Some v) (cond (is_at (subject_cmp q) e.0) (Some e.1) (lookup (is_at (subject_cmp q)) es))) here
  at_entry e es Greater is others =
      ap (λ r. cond (is_at (subject_cmp q) e.0) (Some e.1) r) others
      ∙ at_other q k e.0 e.1 v (lookup (is_at (subject_cmp q)) es) (is_at (subject_cmp k) q) (is_at (subject_cmp q) e.0) (ap is_eq is) refl refl

  lookup-inserted : (es : AcceptedClaims) → lookup (is_at (subject_cmp q)) (insert_entry subject_cmp es k v) ≡ cond (is_at (subject_cmp k) q) (Some v) (lookup (is_at (subject_cmp q)) es)
  lookup-inserted [] = ap (λ t. cond t (Some v) None) (is_at-sym q k)
  lookup-inserted (e ∷ es) = at_entry e es (subject_cmp k e.0) refl (lookup-inserted es)

-- on each subject a table has its old claim, but for the one that was entered
pub claim_on-entered : (table : AcceptedClaims) (a : Accepted) (s : Subject) → claim_on (table_with_claim table a) s ≡ cond (is_on s a) (Some a) (claim_on table s)
unfolding claim_on table_with_claim
claim_on-entered table a s = lookup-inserted (subject_of a) a s table ∙ ap (λ t. cond t (Some a) (lookup (is_at (subject_cmp s)) table)) (is_at-parts (subject_of a) s)
