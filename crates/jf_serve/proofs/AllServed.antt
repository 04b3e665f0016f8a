-- Sessions that were run, as those that the history of their store explains.
use Rattle.std.proofs.Common.{◌≡◌, ℕ, ◌+◌, Bool, true, false, cond, ◌||◌, ◌≤◌, List, [], ◌∷◌, map, length, refl, sym, ap, subst}
use Rattle.std.specs.List.{AllByRecursion}
use Rattle.std.proofs.lemmas.Bool.{eq-eqb}
use Rattle.jf_store.specs.Passes.{Store, Pass}
use Rattle.jf_answers.specs.Explains.{IsAmong, text_in}
use Rattle.jf_history.specs.Serving.{SessionOutcome, AreServed, scripts_of, replies_of, passes_of}
use Rattle.jf_history.specs.declared.end.End.{End}
use Rattle.jf_history.proofs.Announced.{among-front, among-back}
use Rattle.jf_serve.specs.Served.{max_output, ran_out_of_memory, out_of_memory_from}
use Rattle.jf_serve.specs.Ran.{IsSessionEnd, HaveRunFrom}

-- how they ended
abbrev pub ends_of : List SessionOutcome → List End
ends_of ss = map (λ s. s.how) ss

-- ---- those that ran out of memory
among_one : (n : ℕ) → IsAmong (n ∷ []) n
among_one n = ap (λ b. b || false) (eq-eqb n n refl)

-- the first is among them, if it ran out of memory
out_of_memory_here : (n : ℕ) (e : End) (es : List End) → ran_out_of_memory e ≡ true → IsAmong (out_of_memory_from n (e ∷ es)) n
out_of_memory_here n e es memory = subst (λ (b : Bool). IsAmong (cond b (n ∷ out_of_memory_from (n + 1) es) (out_of_memory_from (n + 1) es)) n) (sym memory) (among-front (n ∷ []) (out_of_memory_from (n + 1) es) n (among_one n))

-- and so are those among the others
out_of_memory_later : (n : ℕ) (e : End) (es : List End) (k : ℕ) → IsAmong (out_of_memory_from (n + 1) es) k → IsAmong (out_of_memory_from n (e ∷ es)) k
out_of_memory_later n e es k h = elim (ran_out_of_memory e) as (λ (b : Bool). IsAmong (cond b (n ∷ out_of_memory_from (n + 1) es) (out_of_memory_from (n + 1) es)) k) [
  | true ↦ among-back (n ∷ []) (out_of_memory_from (n + 1) es) k h
  | false ↦ h
]

-- ---- all sessions

-- the sessions from number n on, of which these are the scripts, ends, texts and passes
pub record IsRunOf (store : Store) (out_of_memory : List ℕ) (n : ℕ) (scripts : List (List (List ℕ))) (es : List End) (ts : List (List ℕ)) (ps : List Pass) : Type 0 where
  pub ss : List SessionOutcome
  pub served : AreServed store out_of_memory n ss
  pub scripts_are : scripts_of ss ≡ scripts
  pub ends_are : ends_of ss ≡ es
  pub texts_are : map text_in (replies_of ss) ≡ ts
  pub passes_are : passes_of ss ≡ ps
  pub fine : AllByRecursion (λ s. IsSessionEnd s.how) ss
  pub short : AllByRecursion (λ t. length t ≤ max_output) ts

pub run_of : (store : Store) (out_of_memory : List ℕ) (n : ℕ) (scripts : List (List (List ℕ))) (es : List End) (ts : List (List ℕ)) (ps : List Pass) → ((k : ℕ) → IsAmong (out_of_memory_from n es) k → IsAmong out_of_memory k)
    → HaveRunFrom store n scripts es ts ps → IsRunOf store out_of_memory n scripts es ts ps
run_of store out_of_memory n [] [] [] [] all h = record { ss = []; served = tt; scripts_are = refl; ends_are = refl; texts_are = refl; passes_are = refl; fine = tt; short = tt }
run_of store out_of_memory n [] [] [] (p ∷ ps) all h = absurd h
run_of store out_of_memory n [] [] (t ∷ ts) ps all h = absurd h
run_of store out_of_memory n [] (e ∷ es) ts ps all h = absurd h
run_of store out_of_memory n (script ∷ scripts) [] ts ps all h = absurd h
run_of store out_of_memory n (script ∷ scripts) (e ∷ es) [] ps all h = absurd h
run_of store out_of_memory n (script ∷ scripts) (e ∷ es) (t ∷ ts) [] all h = absurd h
run_of store out_of_memory n (script ∷ scripts) (e ∷ es) (t ∷ ts) (p ∷ ps) all h =
    let rest = run_of store out_of_memory (n + 1) scripts es ts ps (λ k later. all k (out_of_memory_later n e es k later)) h.1 in
    let one : SessionOutcome = record { script = script; how = e; replies = h.0.replies; pass = p } in
    record {
      ss = one ∷ rest.ss;
      served = (h.0.served out_of_memory (λ memory. all n (out_of_memory_here n e es memory)), rest.served);
      scripts_are = ap (λ xs. script ∷ xs) rest.scripts_are;
      ends_are = ap (λ xs. e ∷ xs) rest.ends_are;
      texts_are = λ i. sym h.0.text_is i ∷ rest.texts_are i;
      passes_are = ap (λ xs. p ∷ xs) rest.passes_are;
      fine = (h.0.end_is, rest.fine);
      short = (h.0.short, rest.short);
    }
