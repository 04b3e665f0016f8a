-- Forks that stay keep their maps.
use Rattle.std.specs.Prelude.{◌≡◌, List, [], ◌∷◌, ◌++◌, ℕ, map, true, false, T, ◌<◌, ◌≤◌, Bool, cond, ◌==◌, ◌||◌, ◌+◌}
use Rattle.std.proofs.Common.{refl, ap, subst, arith, sym, ◌∙◌, append-nil, append_assoc, le_refl}
use Rattle.std.proofs.lemmas.Bool.{ne_eqb, eqb-true, or_from}
use Rattle.jf_path.proofs.BoolLaws.{or_true_left, or_false_left, or_false_right}
use Rattle.jf_hash.specs.Maps.{Map, Batch, apply}
use Rattle.jf_model.specs.Batches.{apply_all}
use Rattle.jf_model.specs.Forks.{Fork, batches, on_head, chain, forks_after_landing, fork_map, of_parent, is_among, AreForks, descends, without, parent_map}
use Rattle.jf_model.specs.declared.entries.Parent.{Parent}
use Rattle.jf_model.specs.declared.entries.Parent.TheVariants as parent
use Rattle.jf_model.proofs.ForkLists.{any_last}

apply_all-append : (m : Map) (bs cs : List Batch) → apply_all m (bs ++ cs) ≡ apply_all (apply_all m bs) cs
apply_all-append m [] cs = refl
apply_all-append m (b ∷ bs) cs = apply_all-append (apply m b) bs cs

batches-append : (fs gs : List Fork) → batches (fs ++ gs) ≡ batches fs ++ batches gs
batches-append [] gs = refl
batches-append (f ∷ fs) gs = ap (λ t. f.batch ∷ t) (batches-append fs gs)

batches-on_head : (id : ℕ) (fs : List Fork) → batches (map (on_head id) fs) ≡ batches fs
batches-on_head id [] = refl
batches-on_head id (f ∷ fs) = ap (λ t. f.batch ∷ t) (batches-on_head id fs)

true_not_false : true ≡ false → ⊥
true_not_false e = subst T e tt

below_itself : (a b c : ℕ) → a < c → c ≤ b → a ≡ b → ⊥
below_itself a b c lt le same = omega arith

-- y goes on from id: its chain is that of id, and then the forks that its chain has after id has landed
pub record GoesOnFrom (id : ℕ) (fs : List Fork) (y : ℕ) : Type 0 where
  pub more : List Fork
  pub before : chain fs y ≡ chain fs id ++ more
  pub behind : chain (forks_after_landing id fs) y ≡ map (on_head id) more

-- a fork that goes on from id has, over the new head, the map that it had
pub kept_map : (m : Map) (id : ℕ) (fs : List Fork) (y : ℕ) → GoesOnFrom id fs y → fork_map (fork_map m fs id) (forks_after_landing id fs) y ≡ fork_map m fs y
kept_map m id fs y g =
    ap (λ c. apply_all (fork_map m fs id) (batches c)) g.behind
    ∙ ap (apply_all (fork_map m fs id)) (batches-on_head id g.more)
    ∙ sym (apply_all-append m (batches (chain fs id)) (batches g.more))
    ∙ ap (apply_all m) (sym (batches-append (chain fs id) g.more))
    ∙ ap (λ c. apply_all m (batches c)) (sym g.before)

not_both : (b : Bool) → b ≡ true → b ≡ false → ⊥
not_both true h k = true_not_false k
not_both false h k = true_not_false (sym h)

chain-here : (f : Fork) (fs : List Fork) (y : ℕ) → (f.id == y) ≡ true → chain (f ∷ fs) y ≡ of_parent [] (chain fs) f.parent ++ f ∷ []
chain-here f fs y e = ap (λ b. cond b (of_parent [] (chain fs) f.parent ++ f ∷ []) (chain fs y)) e

chain-there : (f : Fork) (fs : List Fork) (y : ℕ) → (f.id == y) ≡ false → chain (f ∷ fs) y ≡ chain fs y
chain-there f fs y e = ap (λ b. cond b (of_parent [] (chain fs) f.parent ++ f ∷ []) (chain fs y)) e

none_above_parent : (id : ℕ) (fs : List Fork) → ((y : ℕ) → is_among id (chain fs y) ≡ true → ⊥) → (p : Parent) → is_among id (of_parent [] (chain fs) p) ≡ true → ⊥
none_above_parent id fs none parent.Head h = true_not_false (sym h)
none_above_parent id fs none (parent.Fork q) h = none q h

-- a number at the bound or above is on no chain of forks below the bound
unlisted : (bound id : ℕ) (fs : List Fork) → AreForks bound fs → bound ≤ id → (y : ℕ) → is_among id (chain fs y) ≡ true → ⊥
unlisted bound id [] sound le y h = true_not_false (sym h)
unlisted bound id (f ∷ fs) sound le y h =
    let below : f.id ≤ id = omega (arith, sound.0, le) in
    let older : (z : ℕ) → is_among id (chain fs z) ≡ true → ⊥ = unlisted f.id id fs sound.2 below in
    elim (f.id == y) as (λ b. (f.id == y) ≡ b → ⊥) [
      | true ↦ λ e.
          let h' : is_among id (of_parent [] (chain fs) f.parent ++ f ∷ []) ≡ true = subst (λ c. is_among id c ≡ true) (chain-here f fs y e) h in
          let apart : (f.id == id) ≡ false = ne_eqb f.id id (λ same. below_itself f.id id bound sound.0 le same) in
          none_above_parent id fs older f.parent (or_true_left _ _ apart (sym (any_last (λ g. g.id == id) (of_parent [] (chain fs) f.parent) f) ∙ h'))
      | false ↦ λ e. older y (subst (λ c. is_among id c ≡ true) (chain-there f fs y e) h)
    ] refl

-- the parent of a fork after id has landed
abbrev headed : ℕ → Parent → Parent
headed id p = of_parent parent.Head (λ q. cond (q == id) parent.Head (parent.Fork q)) p

record Above (id : ℕ) (fs : List Fork) (p : Parent) : Type 0 where
  more : List Fork
  before : of_parent [] (chain fs) p ≡ chain fs id ++ more
  behind : of_parent [] (chain (forks_after_landing id fs)) (headed id p) ≡ map (on_head id) more

above : (id : ℕ) (fs : List Fork) → ((y : ℕ) → is_among id (chain fs y) ≡ true → (y == id) ≡ false → GoesOnFrom id fs y) → (p : Parent) → is_among id (of_parent [] (chain fs) p) ≡ true → Above id fs p
above id fs older parent.Head h = absurd (true_not_false (sym h))
above id fs older (parent.Fork q) h =
    elim (q == id) as (λ b. (q == id) ≡ b → Above id fs (parent.Fork q)) [
      | true ↦ λ e. record {
        more = [];
        before = ap (chain fs) (eqb-true q id e) ∙ sym (append-nil (chain fs id));
        behind = ap (λ b. of_parent [] (chain (forks_after_landing id fs)) (cond b parent.Head (parent.Fork q))) e;
      }
      | false ↦ λ e. let g = older q h e in record {
        more = g.more;
        before = g.before;
        behind = ap (λ b. of_parent [] (chain (forks_after_landing id fs)) (cond b parent.Head (parent.Fork q))) e ∙ g.behind;
      }
    ] refl

map_snoc : (id : ℕ) (fs : List Fork) (f : Fork) → map (on_head id) (fs ++ f ∷ []) ≡ map (on_head id) fs ++ on_head id f ∷ []
map_snoc id [] f = refl
map_snoc id (g ∷ fs) f = ap (λ t. on_head id g ∷ t) (map_snoc id fs f)

-- the newest fork goes on from id if it stands on it
here : (id : ℕ) (f : Fork) (fs : List Fork) (y : ℕ) → (f.id == y) ≡ true → (f.id == id) ≡ false → descends id fs f ≡ true → Above id fs f.parent → GoesOnFrom id (f ∷ fs) y
here id f fs y e apart d a =
    record {
      more = a.more ++ f ∷ [];
      before = chain-here f fs y e ∙ ap (λ c. c ++ f ∷ []) a.before ∙ append_assoc (chain fs id) a.more (f ∷ []) ∙ ap (λ c. c ++ (a.more ++ f ∷ [])) (sym (chain-there f fs id apart));
      behind = ap (λ b. chain (cond b (on_head id f ∷ forks_after_landing id fs) (forks_after_landing id fs)) y) d ∙ chain-here (on_head id f) (forks_after_landing id fs) y e ∙ ap (λ c. c ++ on_head id f ∷ []) a.behind ∙ sym (map_snoc id a.more f);
    }

-- an older fork goes on from id whatever newer fork there is
there : (id : ℕ) (f : Fork) (fs : List Fork) (y : ℕ) → (f.id == y) ≡ false → (f.id == id) ≡ false → GoesOnFrom id fs y → GoesOnFrom id (f ∷ fs) y
there id f fs y e apart g =
    record {
      more = g.more;
      before = chain-there f fs y e ∙ g.before ∙ ap (λ c. c ++ g.more) (sym (chain-there f fs id apart));
      behind = elim (descends id fs f) as (λ b. chain (cond b (on_head id f ∷ forks_after_landing id fs) (forks_after_landing id fs)) y ≡ map (on_head id) g.more) [
        | true ↦ chain-there (on_head id f) (forks_after_landing id fs) y e ∙ g.behind
        | false ↦ g.behind
      ];
    }

-- a fork that stands on one that has landed goes on from it
pub goes_on : (bound id : ℕ) (fs : List Fork) → AreForks bound fs → (y : ℕ) → is_among id (chain fs y) ≡ true → (y == id) ≡ false → GoesOnFrom id fs y
goes_on bound id [] sound y h apart = absurd (true_not_false (sym h))
goes_on bound id (f ∷ fs) sound y h apart =
    let older = goes_on f.id id fs sound.2 in
    elim (f.id == y) as (λ b. (f.id == y) ≡ b → GoesOnFrom id (f ∷ fs) y) [
      | true ↦ λ e.
          let off : (f.id == id) ≡ false = subst (λ n. (n == id) ≡ false) (sym (eqb-true f.id y e)) apart in
          let h' : is_among id (of_parent [] (chain fs) f.parent ++ f ∷ []) ≡ true = subst (λ c. is_among id c ≡ true) (chain-here f fs y e) h in
          let d : descends id fs f ≡ true = or_true_left _ _ off (sym (any_last (λ g. g.id == id) (of_parent [] (chain fs) f.parent) f) ∙ h') in
          here id f fs y e off d (above id fs older f.parent d)
      | false ↦ λ e.
          let h' : is_among id (chain fs y) ≡ true = subst (λ c. is_among id c ≡ true) (chain-there f fs y e) h in
          elim (f.id == id) as (λ b. (f.id == id) ≡ b → GoesOnFrom id (f ∷ fs) y) [
            | true ↦ λ same. absurd (unlisted f.id id fs sound.2 (subst (λ n. f.id ≤ n) (eqb-true f.id id same) (le_refl f.id)) y h')
            | false ↦ λ off. there id f fs y e off (older y h' apart)
          ] refl
    ] refl

-- each fork that stays when id lands keeps the map that it had
pub fork_map-settled : (m : Map) (bound id : ℕ) (fs : List Fork) → AreForks bound fs → (y : ℕ) → is_among id (chain fs y) ≡ true → (y == id) ≡ false → fork_map (fork_map m fs id) (forks_after_landing id fs) y ≡ fork_map m fs y
fork_map-settled m bound id fs sound y h apart = kept_map m id fs y (goes_on bound id fs sound y h apart)

-- ---- dropping
same_parent : (id : ℕ) (fs : List Fork) → ((y : ℕ) → is_among id (chain fs y) ≡ false → chain (without id fs) y ≡ chain fs y) → (p : Parent) → is_among id (of_parent [] (chain fs) p) ≡ false → of_parent [] (chain (without id fs)) p ≡ of_parent [] (chain fs) p
same_parent id fs older parent.Head h = refl
same_parent id fs older (parent.Fork q) h = older q h

-- a chain that doesn't go through id stays when id is dropped
pub chain-without : (id : ℕ) (fs : List Fork) (y : ℕ) → is_among id (chain fs y) ≡ false → chain (without id fs) y ≡ chain fs y
chain-without id [] y h = refl
chain-without id (f ∷ fs) y h =
    elim (f.id == y) as (λ b. (f.id == y) ≡ b → chain (without id (f ∷ fs)) y ≡ chain (f ∷ fs) y) [
      | true ↦ λ e.
          let apart : (is_among id (of_parent [] (chain fs) f.parent) || (f.id == id)) ≡ false = sym (any_last (λ g. g.id == id) (of_parent [] (chain fs) f.parent) f) ∙ subst (λ c. is_among id c ≡ false) (chain-here f fs y e) h in
          let stays : ((f.id == id) || descends id fs f) ≡ false = or_from _ _ (or_false_right (descends id fs f) (f.id == id) apart) (or_false_left (descends id fs f) (f.id == id) apart) in
          ap (λ b. chain (cond b (without id fs) (f ∷ without id fs)) y) stays
          ∙ chain-here f (without id fs) y e
          ∙ ap (λ c. c ++ f ∷ []) (same_parent id fs (chain-without id fs) f.parent (or_false_left _ _ apart))
          ∙ sym (chain-here f fs y e)
      | false ↦ λ e.
          let older : chain (without id fs) y ≡ chain fs y = chain-without id fs y (subst (λ c. is_among id c ≡ false) (chain-there f fs y e) h) in
          elim ((f.id == id) || descends id fs f) as (λ b. chain (cond b (without id fs) (f ∷ without id fs)) y ≡ chain (f ∷ fs) y) [
            | true ↦ older ∙ sym (chain-there f fs y e)
            | false ↦ chain-there f (without id fs) y e ∙ older ∙ sym (chain-there f fs y e)
          ]
    ] refl

-- a fork that stays when id is dropped keeps its map
pub fork_map-without : (m : Map) (id : ℕ) (fs : List Fork) (y : ℕ) → is_among id (chain fs y) ≡ false → fork_map m (without id fs) y ≡ fork_map m fs y
fork_map-without m id fs y h = ap (λ c. apply_all m (batches c)) (chain-without id fs y h)

-- ---- laws
apply_all-last : (m : Map) (bs : List Batch) (b : Batch) → apply_all m (bs ++ b ∷ []) ≡ apply (apply_all m bs) b
apply_all-last m [] b = refl
apply_all-last m (c ∷ bs) b = apply_all-last (apply m c) bs b

batches-last : (fs : List Fork) (f : Fork) → batches (fs ++ f ∷ []) ≡ batches fs ++ f.batch ∷ []
batches-last [] f = refl
batches-last (g ∷ fs) f = ap (λ t. g.batch ∷ t) (batches-last fs f)

parent_map-chain : (m : Map) (fs : List Fork) (p : Parent) → apply_all m (batches (of_parent [] (chain fs) p)) ≡ parent_map m fs p
parent_map-chain m fs parent.Head = refl
parent_map-chain m fs (parent.Fork id) = refl

-- the newest fork's map is its batch applied to its parent's map
pub fork_map-newest : (m : Map) (f : Fork) (fs : List Fork) (id : ℕ) → (f.id == id) ≡ true → fork_map m (f ∷ fs) id ≡ apply (parent_map m fs f.parent) f.batch
fork_map-newest m f fs id e =
    ap (λ b. apply_all m (batches (cond b (of_parent [] (chain fs) f.parent ++ f ∷ []) (chain fs id)))) e
    ∙ ap (apply_all m) (batches-last (of_parent [] (chain fs) f.parent) f)
    ∙ apply_all-last m (batches (of_parent [] (chain fs) f.parent)) f.batch
    ∙ ap (λ n. apply n f.batch) (parent_map-chain m fs f.parent)

-- a newer fork doesn't change the map of an older one
pub fork_map-older : (m : Map) (f : Fork) (fs : List Fork) (id : ℕ) → (f.id == id) ≡ false → fork_map m (f ∷ fs) id ≡ fork_map m fs id
fork_map-older m f fs id e = ap (λ b. apply_all m (batches (cond b (of_parent [] (chain fs) f.parent ++ f ∷ []) (chain fs id)))) e
