-- Which forks are in a list, and on a chain.
use Rattle.std.specs.Prelude.{Bool, ◌++◌}
use Rattle.std.proofs.Common.{◌≡◌, ◌≤◌, ℕ, false, ◌||◌, List, [], ◌∷◌, refl, ap₂, arith, true, sym, true≢false, cond, ◌==◌, ◌∙◌, ap}
use Rattle.std.proofs.lemmas.Bool.{ne_eqb}
use Rattle.std.specs.List.{list_any}
use Rattle.jf_path.proofs.BoolLaws.{or_true_left, or_true}
use Rattle.jf_model.specs.Forks.{Fork, is_among, AreForks, of_parent, chain}
use Rattle.jf_model.specs.declared.entries.Parent.{Parent}
use Rattle.jf_model.specs.declared.entries.Parent.TheVariants as parent

-- no fork below a bound has a number at the bound or above
pub none_above : (bound id : ℕ) (fs : List Fork) → AreForks bound fs → bound ≤ id → is_among id fs ≡ false
none_above bound id [] sound le = refl
none_above bound id (f ∷ fs) sound le =
    let small = sound.0 in
    ap₂ (λ a b. a || b) (ne_eqb f.id id (λ same. absurd (omega arith))) (none_above f.id id fs sound.2 (omega arith))

pub below_parent : (id : ℕ) (fs : List Fork) → ((y : ℕ) → is_among id (chain fs y) ≡ true → is_among id fs ≡ true) → (p : Parent) → is_among id (of_parent [] (chain fs) p) ≡ true → is_among id fs ≡ true
below_parent id fs older parent.Head k = absurd (true≢false (sym k))
below_parent id fs older (parent.Fork q) k = older q k

pub any_last : (test : Fork → Bool) (fs : List Fork) (f : Fork) → list_any test (fs ++ f ∷ []) ≡ (list_any test fs || test f)
any_last test [] f = elim (test f) as (λ b. (b || false) ≡ b) [ true ↦ refl | false ↦ refl ]
any_last test (g ∷ fs) f = elim (test g) as (λ b. (b || list_any test (fs ++ f ∷ [])) ≡ ((b || list_any test fs) || test f)) [ true ↦ refl | false ↦ any_last test fs f ]

-- a chain has forks of the list alone
pub chain-among : (id : ℕ) (fs : List Fork) (y : ℕ) → is_among id (chain fs y) ≡ true → is_among id fs ≡ true
chain-among id [] y h = h
chain-among id (f ∷ fs) y h =
    elim (f.id == id) as (λ b. (f.id == id) ≡ b → (b || is_among id fs) ≡ true) [
      | true ↦ λ is. refl
      | false ↦ λ other. elim (f.id == y) as (λ b. is_among id (cond b (of_parent [] (chain fs) f.parent ++ f ∷ []) (chain fs y)) ≡ true → is_among id fs ≡ true) [
        | true ↦ λ k. below_parent id fs (chain-among id fs) f.parent (or_true_left _ _ other (sym (any_last (λ g. g.id == id) (of_parent [] (chain fs) f.parent) f) ∙ k))
        | false ↦ λ k. chain-among id fs y k
      ] h
    ] refl

-- a live fork is on its own chain
pub on_own : (id : ℕ) (fs : List Fork) → is_among id fs ≡ true → is_among id (chain fs id) ≡ true
on_own id [] h = h
on_own id (f ∷ fs) h =
    elim (f.id == id) as (λ b. (f.id == id) ≡ b → (b || is_among id fs) ≡ true → is_among id (cond b (of_parent [] (chain fs) f.parent ++ f ∷ []) (chain fs id)) ≡ true) [
      | true ↦ λ is k. any_last (λ g. g.id == id) (of_parent [] (chain fs) f.parent) f ∙ ap (λ b. is_among id (of_parent [] (chain fs) f.parent) || b) is ∙ or_true (is_among id (of_parent [] (chain fs) f.parent))
      | false ↦ λ is k. on_own id fs k
    ] refl h
