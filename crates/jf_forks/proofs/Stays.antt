-- Which forks stay when one is dropped or has landed, by whether their parents stay.
use Rattle.std.proofs.Common.{◌≡◌, Bool, true, false, not, refl, ◌||◌, ℕ, cond, ◌==◌, List, [], ◌∷◌, sym, ap, ◌∙◌, ◌≤◌, ◌++◌, subst, true≢false, le_refl, ◌&&◌}
use Rattle.std.proofs.lemmas.Bool.{eqb-true}
use Rattle.jf_path.proofs.BoolLaws.{or_false_right}
use Rattle.jf_model.specs.Forks.{Fork, is_among, descends, without, of_parent, AreForks, chain, is_parent, on_head, forks_after_landing}
use Rattle.jf_model.specs.declared.entries.Parent.{Parent}
use Rattle.jf_model.specs.declared.entries.Parent.TheVariants as parent
use Rattle.jf_model.proofs.ForkLists.{any_last, none_above, on_own}

-- ---- which forks stay, by their parents
twice : (b : Bool) → not (not b) ≡ b
twice true = refl
twice false = refl

swapped : (a b : Bool) → (a || b) ≡ (b || a)
swapped true true = refl
swapped true false = refl
swapped false true = refl
swapped false false = refl

-- a fork that isn't there doesn't stay
fewer : (p id : ℕ) (fs : List Fork) → is_among p fs ≡ false → is_among p (without id fs) ≡ false
fewer p id [] none = refl
fewer p id (f ∷ fs) none =
    let rest = fewer p id fs (or_false_right (f.id == p) _ none) in
    elim (f.id == id || descends id fs f) as (λ b. is_among p (cond b (without id fs) (f ∷ without id fs)) ≡ false) [
      | true ↦ rest
      | false ↦ ap (λ b. (f.id == p) || b) (rest ∙ sym (or_false_right (f.id == p) _ none)) ∙ none
    ]

-- of live forks, those stay that don't stand on the dropped one
among-without : (bound id p : ℕ) (fs : List Fork) → AreForks bound fs → is_among p fs ≡ true → is_among p (without id fs) ≡ not (is_among id (chain fs p))
among-without bound id p [] sound h = absurd (true≢false (sym h))
among-without bound id p (f ∷ fs) sound h =
    elim (f.id == p) as (λ b. (f.id == p) ≡ b → is_among p (without id (f ∷ fs)) ≡ not (is_among id (chain (f ∷ fs) p))) [
      | true ↦ λ is.
          let none : is_among p fs ≡ false = none_above f.id p fs sound.2 (subst (λ k. f.id ≤ k) (eqb-true f.id p is) (le_refl f.id)) in
          (elim (f.id == id || descends id fs f) as (λ b. is_among p (cond b (without id fs) (f ∷ without id fs)) ≡ not b) [
            | true ↦ fewer p id fs none
            | false ↦ ap (λ b. b || is_among p (without id fs)) is
          ])
          ∙ ap not (swapped (f.id == id) (descends id fs f) ∙ sym (any_last (λ g. g.id == id) (of_parent [] (chain fs) f.parent) f) ∙ ap (λ b. is_among id (cond b (of_parent [] (chain fs) f.parent ++ f ∷ []) (chain fs p))) (sym is))
      | false ↦ λ is.
          let older = among-without f.id id p fs sound.2 (ap (λ b. b || is_among p fs) (sym is) ∙ h) in
          (elim (f.id == id || descends id fs f) as (λ b. is_among p (cond b (without id fs) (f ∷ without id fs)) ≡ is_among p (without id fs)) [
            | true ↦ refl
            | false ↦ ap (λ b. b || is_among p (without id fs)) is
          ])
          ∙ older ∙ ap (λ b. not (is_among id (cond b (of_parent [] (chain fs) f.parent ++ f ∷ []) (chain fs p)))) (sym is)
    ] refl

-- a fork stays exactly if it is another one and its parent stays
pub stays_is : (bound id : ℕ) (f : Fork) (fs : List Fork) → AreForks bound fs → is_parent f.parent fs ≡ true → (f.id == id || descends id fs f) ≡ not (not (f.id == id) && is_parent f.parent (without id fs))
stays_is bound id f fs sound up = with_parent f.parent up
  where
    with_parent : (p : Parent) → is_parent p fs ≡ true → (f.id == id || is_among id (of_parent [] (chain fs) p)) ≡ not (not (f.id == id) && is_parent p (without id fs))
    with_parent parent.Head h = elim (f.id == id) as (λ b. (b || false) ≡ not (not b && true)) [ true ↦ refl | false ↦ refl ]
    with_parent (parent.Fork q) h =
        elim (f.id == id) as (λ b. (b || is_among id (chain fs q)) ≡ not (not b && is_among q (without id fs))) [
          | true ↦ refl
          | false ↦ sym (ap not (among-without bound id q fs sound h) ∙ twice (is_among id (chain fs q)))
        ]

-- ---- which forks stand on the one that has landed
fewer_settled : (p id : ℕ) (fs : List Fork) → is_among p fs ≡ false → is_among p (forks_after_landing id fs) ≡ false
fewer_settled p id [] none = refl
fewer_settled p id (f ∷ fs) none =
    let rest = fewer_settled p id fs (or_false_right (f.id == p) _ none) in
    elim (descends id fs f) as (λ b. is_among p (cond b (on_head id f ∷ forks_after_landing id fs) (forks_after_landing id fs)) ≡ false) [
      | true ↦ ap (λ b. (f.id == p) || b) (rest ∙ sym (or_false_right (f.id == p) _ none)) ∙ none
      | false ↦ rest
    ]

among-settled : (bound id p : ℕ) (fs : List Fork) → AreForks bound fs → (p == id) ≡ false → is_among p fs ≡ true → is_among p (forks_after_landing id fs) ≡ is_among id (chain fs p)
among-settled bound id p [] sound other h = absurd (true≢false (sym h))
among-settled bound id p (f ∷ fs) sound other h =
    elim (f.id == p) as (λ b. (f.id == p) ≡ b → is_among p (forks_after_landing id (f ∷ fs)) ≡ is_among id (chain (f ∷ fs) p)) [
      | true ↦ λ is.
          let none : is_among p fs ≡ false = none_above f.id p fs sound.2 (subst (λ k. f.id ≤ k) (eqb-true f.id p is) (le_refl f.id)) in
          let apart : (f.id == id) ≡ false = ap (λ k. k == id) (eqb-true f.id p is) ∙ other in
          (elim (descends id fs f) as (λ b. is_among p (cond b (on_head id f ∷ forks_after_landing id fs) (forks_after_landing id fs)) ≡ (b || false)) [
            | true ↦ ap (λ b. b || is_among p (forks_after_landing id fs)) is
            | false ↦ fewer_settled p id fs none
          ])
          ∙ ap (λ b. descends id fs f || b) (sym apart)
          ∙ sym (any_last (λ g. g.id == id) (of_parent [] (chain fs) f.parent) f) ∙ ap (λ b. is_among id (cond b (of_parent [] (chain fs) f.parent ++ f ∷ []) (chain fs p))) (sym is)
      | false ↦ λ is.
          let older = among-settled f.id id p fs sound.2 other (ap (λ b. b || is_among p fs) (sym is) ∙ h) in
          (elim (descends id fs f) as (λ b. is_among p (cond b (on_head id f ∷ forks_after_landing id fs) (forks_after_landing id fs)) ≡ is_among p (forks_after_landing id fs)) [
            | true ↦ ap (λ b. b || is_among p (forks_after_landing id fs)) is
            | false ↦ refl
          ])
          ∙ older ∙ ap (λ b. is_among id (cond b (of_parent [] (chain fs) f.parent ++ f ∷ []) (chain fs p))) (sym is)
    ] refl

-- a fork on the head stands on no fork
pub on_none : (id : ℕ) (f : Fork) (fs : List Fork) → f.parent ≡ parent.Head → descends id fs f ≡ false
on_none id f fs is = ap (λ p. is_among id (of_parent [] (chain fs) p)) is

-- a child of the landed fork stands on it
pub on_it : (id q : ℕ) (f : Fork) (fs : List Fork) → f.parent ≡ parent.Fork q → q ≡ id → is_parent f.parent fs ≡ true → descends id fs f ≡ true
on_it id q f fs is same up =
    ap (λ p. is_among id (of_parent [] (chain fs) p)) is ∙ ap (λ k. is_among id (chain fs k)) same ∙ on_own id fs (subst (λ k. is_among k fs ≡ true) same (ap (λ p. is_parent p fs) (sym is) ∙ up))

-- any other fork stands on the landed one exactly if its parent does
pub on_other : (bound id q : ℕ) (f : Fork) (fs : List Fork) → AreForks bound fs → f.parent ≡ parent.Fork q → (q == id) ≡ false → is_parent f.parent fs ≡ true → descends id fs f ≡ is_among q (forks_after_landing id fs)
on_other bound id q f fs sound is other up =
    ap (λ p. is_among id (of_parent [] (chain fs) p)) is ∙ sym (among-settled bound id q fs sound other (ap (λ p. is_parent p fs) (sym is) ∙ up))
