-- Sessions that were run side by side: the last one apart from those before it.
use Rattle.std.proofs.Common.{◌≡◌, ℕ, ◌+◌, ◌<◌, ◌≤◌, List, [], ◌∷◌, ◌++◌, map, length, refl, sym, ap, ◌∙◌, subst, arith, length-append}
use Rattle.std.proofs.lemmas.List.{map-append, length-map}
use Rattle.jf_io.specs.Lines.{lines}
use Rattle.jf_store.specs.Passes.{Store, Pass, AreNewPasses, new_pass}
use Rattle.jf_history.specs.declared.end.End.{End}
use Rattle.jf_serve.specs.Ran.{HasRunSession, HaveRunFrom, HaveRunSessions, SessionResults, none_gathered, one_more_gathered}

-- of new passes, those before the last are new, and the last has the number after theirs
new_before : (s : Store) (ps : List Pass) (p : Pass) (n : ℕ) → AreNewPasses s (ps ++ p ∷ []) n → AreNewPasses s ps n
new_before s [] p n new = tt
new_before s (q ∷ ps) p n new = (new.0, new_before s ps p (n + 1) new.1)

new_last : (s : Store) (ps : List Pass) (p : Pass) (n m : ℕ) → m ≡ n + length ps → AreNewPasses s (ps ++ p ∷ []) n → p ≡ new_pass s m
new_last s [] p n m at new = let here : n ≡ m = omega arith in new.0 ∙ ap (new_pass s) here
new_last s (q ∷ ps) p n m at new = new_last s ps p (n + 1) m (omega arith) new.1

-- one session more
ran_more : (store : Store) (n m : ℕ) (scripts : List (List (List ℕ))) (es : List End) (ts : List (List ℕ)) (ps : List Pass) (script : List (List ℕ)) (how : End) (text : List ℕ) (pass : Pass) → m ≡ n + length scripts → HaveRunFrom store n scripts es ts ps
    → HasRunSession store m script how text pass → HaveRunFrom store n (scripts ++ script ∷ []) (es ++ how ∷ []) (ts ++ text ∷ []) (ps ++ pass ∷ [])
ran_more store n m [] [] [] [] script how text pass at h one = let here : m ≡ n = omega arith in (subst (λ (k : ℕ). HasRunSession store k script how text pass) here one, tt)
ran_more store n m [] [] [] (p ∷ ps) script how text pass at h one = absurd h
ran_more store n m [] [] (t ∷ ts) ps script how text pass at h one = absurd h
ran_more store n m [] (e ∷ es) ts ps script how text pass at h one = absurd h
ran_more store n m (x ∷ scripts) [] ts ps script how text pass at h one = absurd h
ran_more store n m (x ∷ scripts) (e ∷ es) [] ps script how text pass at h one = absurd h
ran_more store n m (x ∷ scripts) (e ∷ es) (t ∷ ts) [] script how text pass at h one = absurd h
ran_more store n m (x ∷ scripts) (e ∷ es) (t ∷ ts) (p ∷ ps) script how text pass at h one = (h.0, ran_more store (n + 1) m scripts es ts ps script how text pass (omega arith) h.1 one)

-- as many passes came back as there were scripts
pub as_many_passes : (store : Store) (n : ℕ) (scripts : List (List (List ℕ))) (es : List End) (ts : List (List ℕ)) (ps : List Pass) → HaveRunFrom store n scripts es ts ps → length ps ≡ length scripts
as_many_passes store n [] [] [] [] h = refl
as_many_passes store n [] [] [] (p ∷ ps) h = absurd h
as_many_passes store n [] [] (t ∷ ts) ps h = absurd h
as_many_passes store n [] (e ∷ es) ts ps h = absurd h
as_many_passes store n (x ∷ scripts) [] ts ps h = absurd h
as_many_passes store n (x ∷ scripts) (e ∷ es) [] ps h = absurd h
as_many_passes store n (x ∷ scripts) (e ∷ es) (t ∷ ts) [] h = absurd h
as_many_passes store n (x ∷ scripts) (e ∷ es) (t ∷ ts) (p ∷ ps) h = let r = as_many_passes store (n + 1) scripts es ts ps h.1 in omega (arith, r)

-- no session, for no script
pub none_ran : (store : Store) (room : ℕ) (scripts : List (List ℕ)) → length scripts ≡ 0 → HaveRunSessions store 0 (map lines scripts) (none_gathered room)
none_ran store room [] none = tt
none_ran store room (x ∷ scripts) none = absurd (omega arith)

-- ---- one step of the recursion: of these passes and scripts, the last was taken off
module _ (store : Store) (passes rest : List Pass) (pass : Pass) (scripts others : List (List ℕ)) (script : List ℕ) (new : AreNewPasses store passes 0) (each : length scripts ≡ length passes) (popped : passes ≡ rest ++ pass ∷ [])
    (cut : scripts ≡ others ++ script ∷ []) where
  new_apart : AreNewPasses store (rest ++ pass ∷ []) 0
  new_apart = subst (λ (ps : List Pass). AreNewPasses store ps 0) popped new

  pub as_many : length others ≡ length rest
  as_many =
      let a = length-append rest (pass ∷ []) in
      let b = length-append others (script ∷ []) in
      let p : length passes ≡ length (rest ++ pass ∷ []) = ap (λ (ps : List Pass). length ps) popped in
      let s : length scripts ≡ length (others ++ script ∷ []) = ap (λ (xs : List (List ℕ)). length xs) cut in
      omega (arith, a, b, p, s, each)

  pub rest_new : AreNewPasses store rest 0
  rest_new = new_before store rest pass 0 new_apart

  pub fewer : length rest < length passes
  fewer = omega (arith, ap (λ (ps : List Pass). length ps) popped, length-append rest (pass ∷ []))

  pub rest_room : (room : ℕ) → length passes ≤ room → length rest ≤ room
  rest_room room le = let few = fewer in omega arith

  -- the results of the others leave room for the last one
  pub room_left : (room : ℕ) (g : SessionResults) → length passes ≤ room → g.room ≡ room → HaveRunSessions store 0 (map lines others) g → length g.passes < g.room
  room_left room g le same ran =
      let few = fewer in
      let many : length g.passes ≡ length rest = as_many_passes store 0 (map lines others) g.ends g.texts g.passes ran ∙ length-map others lines ∙ as_many in
      omega arith

  last_is : pass ≡ new_pass store (length rest)
  last_is = new_last store rest pass 0 (length rest) (omega arith) new_apart

  last_number : pass.number ≡ length rest
  last_number = ap (λ (p : Pass). p.number) last_is

  pub last_new : pass ≡ new_pass store pass.number
  last_new = last_is ∙ ap (new_pass store) (sym last_number)

  -- the results of the others, and what the last one did
  pub ran_all : (g : SessionResults) (how : End) (text : List ℕ) (after : Pass) → HaveRunSessions store 0 (map lines others) g → HasRunSession store pass.number (lines script) how text after → HaveRunSessions store 0 (map lines scripts) (one_more_gathered g how text after)
  ran_all g how text after before last =
      let number : pass.number ≡ 0 + length (map lines others) = last_number ∙ sym (length-map others lines ∙ as_many) ∙ omega arith in
      let scripts_are : map lines others ++ lines script ∷ [] ≡ map lines scripts = sym (ap (map lines) cut ∙ map-append lines others (script ∷ [])) in
      subst (λ (xs : List (List (List ℕ))). HaveRunSessions store 0 xs (one_more_gathered g how text after)) scripts_are
      (ran_more store 0 pass.number (map lines others) g.ends g.texts g.passes (lines script) how text after number before last)

  -- the last one is alone
  pub ran_one : (room : ℕ) (how : End) (text : List ℕ) (after : Pass) → length others ≡ 0 → HasRunSession store pass.number (lines script) how text after → HaveRunSessions store 0 (map lines scripts) (one_more_gathered (none_gathered room) how text after)
  ran_one room how text after alone last = ran_all (none_gathered room) how text after (none_ran store room others alone) last
