-- Each step of a turn keeps its rule.
use lib.ListN.{get_elem?}
use lib.Seq.{set-get_or}
use mathlib.Core.Logic.{dite}
use mathlib.Core.Option as maybe
use native.Mathlib.Decide.{ℕ_discrete}
use prog.Atomic.{either}
use Rattle.std.proofs.Common.{ℕ, List, Option, [], ◌∷◌, sym, ◌≡◌, ◌^◌, ◌<◌, ◌≤◌, ◌≢◌, length, get_or, set, ◌∙◌, subst, ⊎_elim, ◌+◌, ◌*◌, ◌%◌, eqb, Some, refl, ap, arith, length-set, get_or-set_other, get_or-set_same, eq-eqb, ne_eqb, None, ◌++◌, suc, true, false, cond, leb, le_refl, Bool, ltb, zero}
use Rattle.std.proofs.lemmas.Bool.Decides.{leb_tells}
use Rattle.atomic_table.proofs.Lists.{at_set, set_here, at_longer}
use Rattle.atomic_table.specs.Table.{State, Me, step, keeps, takes, stepped, Allows, gives, put_back, rest, Splits, Joins, Final, Seen}
use Rattle.jf_turn.specs.declared.view.SeatView.{SeatView}
use Rattle.jf_turn.specs.Rule.{IsTurn, TurnAccount, FitsTurn, Hand, FitsHand, IsSeat, turn_word, IsHome, free, held_by, OwnAreSeen, first_view}
use Rattle.jf_turn.specs.declared.view.Stage.{Stage}
use Rattle.jf_turn.specs.Lists.{HasElement, StartsWith, longer}
use Rattle.jf_turn.specs.declared.view.Stage.TheVariants.{Spent, Idle, Opening, Holding}
use Rattle.jf_turn.specs.Steps.{at_stage, turn_claim, turn_birth, turn_move, released_seat, turn_release, minted_view, seat_numbering, first_or_zero, maker_left, seat_right, note_right, list_comparison, views_joined, spent_view}
use Rattle.jf_turn.proofs.Words.{free_of_even}
use Rattle.jf_turn.proofs.Lists.{at_append, starts_more, within, starts_self, put, put_else, has_cons, put_at, at_end, prefix_of, some_at, prefix_whole, has_append, has_left, has_right}

module _ {V E O : Type 0} (list : V → List E) (names : E → ℕ) (start_of : V → O) (seats : ℕ) (start : O) where
  abbrev W : Type 0
  W = SeatView E O

  abbrev St : Type 0
  St = State (Option V) W

  abbrev M : Type 0
  M = Me (Option V) W

  abbrev sat : W → M → M
  sat w m = (w, m.1)

  abbrev pairs : ℕ × Option V → ℕ × Option V
  pairs t = t

  abbrev carries : ℕ × Option V → List (ℕ × Option V)
  carries t = t ∷ []

  abbrev Homes : Type 0
  Homes = List (maybe.Option (Option V))

  abbrev Rule : St → Type 0
  Rule = IsTurn list names start_of seats start

  abbrev Fit : TurnAccount E O → Homes → ℕ → W → Type 0
  Fit = FitsTurn list names start_of

  abbrev Stand : List E → Homes → W → Hand → Stage E → Type 0
  Stand = FitsHand list names start_of

  abbrev Sit : TurnAccount E O → ℕ → W → Type 0
  Sit = IsSeat list names start_of

  -- a view that keeps no numbers of another seat
  no_others : (n : ℕ) → HasElement [] n → ⊥
  no_others n has = maybe.some-ne-none n (sym has.1)

  -- a seat has the new view w, under the account p
  placed : (s : St) (r : Rule s) (p : TurnAccount E O) (ws : List ℕ) (hs : Homes) (id : ℕ) (v w : W) → get_elem? s.views id ≡ maybe.some v → length ws ≡ 2 → get_or ws 0 0 ≡ turn_word p.hand (length p.entries) → get_or ws 1 0 ≡ p.given → p.given ≤ seats → length p.entries ≤ 2 ^ 62
      → p.start ≡ r.account.start → IsHome list names start_of p hs p.hand → ((k : ℕ) (e : E) → get_elem? p.entries k ≡ maybe.some e → names e < p.given) → Fit p hs id w → ((j : ℕ) (u : W) → j ≢ id → Fit r.account s.homes j u → Fit p hs j u)
      → Rule record { words = ws; homes = hs; views = set s.views id w }
  placed s r p ws hs id v w at wide turn_is count_is few bounded from home named mine others = record {
    account = p;
    wide = wide;
    turn_is = turn_is;
    count_is = count_is;
    few = few;
    bounded = bounded;
    from = from ∙ r.from;
    home = home;
    named = named;
    each = λ j u e. ⊎_elim (λ (t : (j ≡ id) × (w ≡ u)). subst (λ (x : ℕ × W). Fit p hs x.0 x.1) (λ i. (sym t.0 i, t.1 i)) mine)
        (λ (t : (j ≢ id) × (get_elem? s.views j ≡ maybe.some u)). others j u t.0 (r.each j u t.1)) (at_set s.views id j w u e);
  }

  -- a seat whose view is not spent: what it represents is its own
  sits_at : (s : St) (r : Rule s) (id : ℕ) (v : W) → v.stage ≢ Spent → get_elem? s.views id ≡ maybe.some v → Sit r.account id v
  sits_at s r id v here at = (r.each id v at).0 here

  -- no number is one for which two seats stand
  apart : (p : TurnAccount E O) (id j n : ℕ) (u : W) → p.seat_of n ≡ id → j ≢ id → Sit p j u → HasElement u.numbers n → ⊥
  apart p id j n u own other sit has = other (sym (sit.numbers n has).1 ∙ own)

  -- another seat still agrees after a seat takes the turn
  taken_else : (entries : List E) (hs hs' : Homes) (n : ℕ) (u : W) (st : Stage E) → (st ≢ Spent → HasElement u.numbers n → ⊥) → Stand entries hs u free st → Stand entries hs' u (held_by n) st
  taken_else entries hs hs' n u Spent not s = tt
  taken_else entries hs hs' n u Idle not s = (not (λ e. cc), s)
  taken_else entries hs hs' n u Opening not s = absurd s
  taken_else entries hs hs' n u (Holding l) not s = absurd s

  sit_same : (p : TurnAccount E O) (h : Hand) (id : ℕ) (v : W) (st : Stage E) → Sit p id v → Sit (record p { hand = h }) id (at_stage v st)
  sit_same p h id v st r = record { seen = r.seen; other_seen = r.other_seen; others = λ n has. absurd (no_others n has); start = r.start; numbers = r.numbers; maker = r.maker }

  sit_hand : (p : TurnAccount E O) (h : Hand) (id : ℕ) (v : W) → Sit p id v → Sit (record p { hand = h }) id v
  sit_hand p h id v r = record { seen = r.seen; other_seen = r.other_seen; others = r.others; start = r.start; numbers = r.numbers; maker = r.maker }

  away_here : (v : W) → v.stage ≡ Idle → v.stage ≢ Spent
  away_here v e g = cc

  pub claims : (slots id old : ℕ) (me : M) → me.0.stage ≡ Idle → HasElement me.0.numbers me.0.number → old % 2 ≡ 0 → 0 < slots
      → Allows Rule slots id me 0 (λ x. either (eqb x old) (old + 1) x) (turn_claim list names start_of (step slots 0 old (old + 1) maybe.none) me)
  claims slots id old me away own even deep s r len at _ = let x : ℕ = get_or s.words 0 0 in let p = r.account in let v = me.0 in dite (ℕ_discrete x old)
      (λ hit.
      let is_free : p.hand ≡ free = free_of_even p.hand (length p.entries) x r.turn_is (ap (λ (z : ℕ). z % 2) hit ∙ even) in
      let home : IsHome list names start_of p s.homes free = subst (IsHome list names start_of p s.homes) is_free r.home in let y : V = home.0 in
      let sit = sits_at s r id v (away_here v away) at in
      let fit = r.each id v at in
      let mine : OwnAreSeen list names start_of p.entries v = subst (λ (z : Hand × Stage E). Stand p.entries s.homes v z.0 z.1) (λ i. (is_free i, away i)) fit.1 in
      let p' : TurnAccount E O = record p { hand = held_by v.number } in let w : W = at_stage v (Holding (list y)) in let hs : Homes = set s.homes 0 maybe.none in
      let wide = r.wide in let turn : x ≡ 2 * length p.entries = r.turn_is ∙ ap (λ h. turn_word h (length p.entries)) is_free in
      let same : (v.number < p.given) × (p.seat_of v.number ≡ id) = sit.numbers v.number own in (
        w,
        takes 0 (Some y),
        home.1,
        subst (λ b. Rule (stepped s 0 (either b (old + 1) x) id me.1 w (takes 0 (Some y)))) (sym (eq-eqb x old hit))
            (placed s r p' (set s.words 0 (old + 1)) hs id v w at (length-set s.words 0 (old + 1) ∙ wide) (get_or-set_same s.words 0 (old + 1) 0 (omega arith) ∙ omega arith) (get_or-set_other s.words 0 1 (old + 1) 0 (λ e. omega arith) ∙ r.count_is) r.few r.bounded refl same.0 r.named
            ((λ _. sit_same p (held_by v.number) id v (Holding (list y)) sit), (own, home.2))
            (λ j u other f. ((λ here. sit_hand p (held_by v.number) j u (f.0 here)), taken_else p.entries s.homes hs v.number u u.stage (λ here has. apart p id j v.number u same.1 other (f.0 here) has) (subst (λ h. Stand p.entries s.homes u h u.stage) is_free f.1)))),
        (
          (λ _. (y, refl, subst (λ (l : List E). StartsWith l v.seen) (sym home.2) sit.seen, subst (λ (l : List E). OwnAreSeen list names start_of l v) (sym home.2) mine, sit.start ∙ ap (λ (o : O). Some o) (sym home.3), subst (λ (l : List E). length l ≤ 2 ^ 62) (sym home.2) r.bounded)),
          λ miss. absurd (miss hit),
        ),
      ))
      (λ miss. (
        v,
        keeps,
        tt,
        subst (λ b. Rule (stepped s 0 (either b (old + 1) x) id me.1 v keeps)) (sym (ne_eqb x old miss))
            (placed s r p (set s.words 0 x) s.homes id v v at (length-set s.words 0 x ∙ r.wide) (ap (λ ws. get_or ws 0 0) (set-get_or s.words 0 0) ∙ r.turn_is) (ap (λ ws. get_or ws 1 0) (set-get_or s.words 0 0) ∙ r.count_is) r.few r.bounded refl r.home r.named (r.each id v at) (λ j u other f. f)),
        ((λ hit. absurd (miss hit)), λ _. refl),
      ))

  -- the holder of the turn is held for one of its numbers, and keeps the turn's list
  holder_of : (entries l : List E) (hs : Homes) (v : W) (h : Hand) → Stand entries hs v h (Holding l) → (n : ℕ) × (h ≡ held_by n) × HasElement v.numbers n × (l ≡ entries)
  holder_of entries l hs v free s = absurd s
  holder_of entries l hs v (held_by n) s = (n, refl, s.0, s.1)

  born_of : (entries : List E) (hs : Homes) (v : W) (h : Hand) → Stand entries hs v h Opening → (n : ℕ) × (h ≡ held_by n) × HasElement v.numbers n × (entries ≡ []) × (get_elem? hs 0 ≡ maybe.some (maybe.some None))
  born_of entries hs v free s = absurd s
  born_of entries hs v (held_by n) s = (n, refl, s.0, s.1, s.2)

  -- if the holder of the number n does a step, no other seat holds the turn
  held_else : (entries entries' : List E) (hs hs' : Homes) (n : ℕ) (u : W) (st : Stage E) → (st ≢ Spent → HasElement u.numbers n → ⊥) → (st ≢ Spent → OwnAreSeen list names start_of entries u → OwnAreSeen list names start_of entries' u) → Stand entries hs u (held_by n) st → Stand entries' hs' u (held_by n) st
  held_else entries entries' hs hs' n u Spent not own s = tt
  held_else entries entries' hs hs' n u Idle not own s = (s.0, own (λ e. cc) s.1)
  held_else entries entries' hs hs' n u Opening not own s = absurd (not (λ e. cc) s.0)
  held_else entries entries' hs hs' n u (Holding l) not own s = absurd (not (λ e. cc) s.0)

  freed_else : (entries : List E) (hs hs' : Homes) (n : ℕ) (u : W) (st : Stage E) → (st ≢ Spent → HasElement u.numbers n → ⊥) → Stand entries hs u (held_by n) st → Stand entries hs' u free st
  freed_else entries hs hs' n u Spent not s = tt
  freed_else entries hs hs' n u Idle not s = s.1
  freed_else entries hs hs' n u Opening not s = absurd (not (λ e. cc) s.0)
  freed_else entries hs hs' n u (Holding l) not s = absurd (not (λ e. cc) s.0)

  born_here : (v : W) → v.stage ≡ Opening → v.stage ≢ Spent
  born_here v e g = cc

  holds_here : (v : W) (l : List E) → v.stage ≡ Holding l → v.stage ≢ Spent
  holds_here v l e g = cc

  -- the first seat takes the empty slot
  pub births : (slots id : ℕ) (me : M) → me.0.stage ≡ Opening → me.1 ≡ [] → 0 < slots → Allows Rule slots id me 0 (λ x. x) (turn_birth list names start_of (step slots 0 0 0 maybe.none) me)
  births slots id me stage empty deep s r len at _ =
      let p = r.account in let v = me.0 in let fit = r.each id v at in let sit = sits_at s r id v (born_here v stage) at in
      let b = born_of p.entries s.homes v p.hand (subst (Stand p.entries s.homes v p.hand) stage fit.1) in let n : ℕ = b.0 in let is = b.1 in let w : W = at_stage v (Holding []) in let hs : Homes = set s.homes 0 maybe.none in
      let own : p.seat_of n ≡ id = (sit.numbers n b.2).1 in (
        w,
        takes 0 None,
        b.4,
        placed s r p (set s.words 0 (get_or s.words 0 0)) hs id v w at (length-set s.words 0 (get_or s.words 0 0) ∙ r.wide) (ap (λ ws. get_or ws 0 0) (set-get_or s.words 0 0) ∙ r.turn_is) (ap (λ ws. get_or ws 1 0) (set-get_or s.words 0 0) ∙ r.count_is) r.few r.bounded refl
            (subst (IsHome list names start_of p hs) (sym is) (subst (IsHome list names start_of p s.homes) is r.home)) r.named
            ((λ _. record { seen = sit.seen; other_seen = sit.other_seen; others = λ n has. absurd (no_others n has); start = sit.start; numbers = sit.numbers; maker = sit.maker }), subst (λ h. Stand p.entries hs w h (Holding [])) (sym is) (b.2, sym b.3))
            (λ j u other f. (f.0, subst (λ h. Stand p.entries hs u h u.stage) (sym is) (held_else p.entries p.entries s.homes hs n u u.stage (λ here has. apart p id j n u own other (f.0 here) has) (λ _ o. o) (subst (λ h. Stand p.entries s.homes u h u.stage) is f.1)))),
        refl,
      )

  one_carried : (c : List (ℕ × Option V)) (y y' : V) → c ≡ (0, Some y) ∷ [] → c ≡ (0, Some y') ∷ [] → y ≡ y'
  one_carried c y y' e f = let both : carries (0, Some y) ≡ carries (0, Some y') = sym e ∙ f in let pair : pairs (0, Some y) ≡ pairs (0, Some y') = cc in let some : Some y ≡ Some y' = ap (λ z. z.1) pair in cc

  -- the turn's list grows, by entries that name the holder's number
  pub moves : (slots id : ℕ) (me : M) (l : List E) (y : V) (more : List E) (word : ℕ) → me.0.stage ≡ Holding l → me.1 ≡ (0, Some y) ∷ [] → list y ≡ l ++ more → ((e : E) → HasElement more e → names e ≡ me.0.number) → HasElement me.0.numbers me.0.number → word ≡ 2 * length (list y) + 1 → length (list y) ≤ 2 ^ 62
      → Allows Rule slots id me 0 (λ _. word) (λ _. turn_move list names start_of (step slots 0 word 0 maybe.none) me word)
  moves slots id me l y more word stage carried grows named mine is_word small s r len at _ =
      let p = r.account in let v = me.0 in let fit = r.each id v at in let sit = sits_at s r id v (holds_here v l stage) at in
      let b = holder_of p.entries l s.homes v p.hand (subst (Stand p.entries s.homes v p.hand) stage fit.1) in let n : ℕ = b.0 in let is = b.1 in let own : p.seat_of n ≡ id = (sit.numbers n b.2).1 in let given = sit.numbers v.number mine in
      let grown : list y ≡ p.entries ++ more = grows ∙ ap (λ xs. xs ++ more) b.3 in
      let p' : TurnAccount E O = record p { entries = list y } in let w : W = at_stage v (Holding (list y)) in let starts : (xs : List E) → StartsWith p.entries xs → StartsWith (list y) xs = λ xs t. subst (λ ys. StartsWith ys xs) (sym grown) (starts_more p.entries more xs t) in
      let owned : (j : ℕ) (u : W) → j ≢ id → Sit p j u → OwnAreSeen list names start_of p.entries u → OwnAreSeen list names start_of (list y) u = λ j u other su o k e there has. ⊎_elim (λ (h : get_elem? p.entries k ≡ maybe.some e). o k e h has)
      (λ (h : HasElement more e). absurd (apart p id j v.number u given.1 other su (subst (HasElement u.numbers) (named e h) has))) (at_append p.entries more k e (subst (λ ys. get_elem? ys k ≡ maybe.some e) grown there)) in
      let others_on : (j : ℕ) (u : W) → j ≢ id → Sit p j u → (m : ℕ) → HasElement u.other_numbers m → HasElement u.numbers m × ((k : ℕ) (e : E) → get_elem? (list y) k ≡ maybe.some e → names e ≡ m → k < length u.other_seen) = λ j u other su m has. (
        (su.others m has).0,
        λ k e there name. ⊎_elim (λ (h : get_elem? p.entries k ≡ maybe.some e). (su.others m has).1 k e h name)
            (λ (h : HasElement more e). absurd (apart p id j v.number u given.1 other su (subst (HasElement u.numbers) (sym name ∙ named e h) (su.others m has).0))) (at_append p.entries more k e (subst (λ ys. get_elem? ys k ≡ maybe.some e) grown there)),
      ) in (
        w,
        keeps,
        tt,
        placed s r p' (set s.words 0 word) s.homes id v w at (length-set s.words 0 word ∙ r.wide) (get_or-set_same s.words 0 word 0 (let wide = r.wide in omega arith) ∙ (is_word ∙ sym (ap (λ h. turn_word h (length (list y))) is))) (get_or-set_other s.words 0 1 word 0 (λ e. omega arith) ∙ r.count_is) r.few small refl
            (subst (IsHome list names start_of p' s.homes) (sym is) (subst (IsHome list names start_of p s.homes) is r.home))
            (λ k e there. ⊎_elim (λ (h : get_elem? p.entries k ≡ maybe.some e). r.named k e h) (λ (h : HasElement more e). subst (λ z. z < p.given) (sym (named e h)) given.0) (at_append p.entries more k e (subst (λ ys. get_elem? ys k ≡ maybe.some e) grown there)))
            ((λ _. record { seen = starts v.seen sit.seen; other_seen = starts v.other_seen sit.other_seen; others = λ n has. absurd (no_others n has); start = sit.start; numbers = sit.numbers; maker = sit.maker }), subst (λ h. Stand (list y) s.homes w h (Holding (list y))) (sym is) (b.2, refl))
            (λ j u other f. (
              (λ here. let su = f.0 here in record { seen = starts u.seen su.seen; other_seen = starts u.other_seen su.other_seen; others = others_on j u other su; start = su.start; numbers = su.numbers; maker = su.maker }),
              subst (λ h. Stand (list y) s.homes u h u.stage) (sym is) (held_else p.entries (list y) s.homes s.homes n u u.stage (λ here has. apart p id j n u own other (f.0 here) has) (λ here o. owned j u other (f.0 here) o) (subst (λ h. Stand p.entries s.homes u h u.stage) is f.1)),
            )),
        λ y' c. let same : y ≡ y' = one_carried me.1 y y' carried c in ap (λ (z : V). sat (at_stage v (Holding (list z))) me) same,
      )

  -- the value of the turn's list comes home
  pub releases : (slots id : ℕ) (me : M) (y : V) (word : ℕ) → me.0.stage ≡ Holding (list y) → me.1 ≡ (0, Some y) ∷ [] → me.0.start ≡ Some (start_of y) → word ≡ 2 * length (list y) → 0 < slots
      → Allows Rule slots id me 0 (λ _. word) (λ _. turn_release list names start_of (step slots 0 word 0 maybe.none) me word)
  releases slots id me y word stage carried from is_word deep s r len at _ =
      let p = r.account in let v = me.0 in let l : List E = list y in let fit = r.each id v at in let sit = sits_at s r id v (holds_here v l stage) at in
      let b = holder_of p.entries l s.homes v p.hand (subst (Stand p.entries s.homes v p.hand) stage fit.1) in let n : ℕ = b.0 in let is = b.1 in let own : p.seat_of n ≡ id = (sit.numbers n b.2).1 in
      let p' : TurnAccount E O = record p { hand = free } in let w : W = released_seat v l in let hs : Homes = put_back s.homes me.1 in
      let same_start : start_of y ≡ p.start = (let e : Some (start_of y) ≡ Some p.start = sym from ∙ sit.start in cc) in (
        w,
        gives,
        tt,
        placed s r p' (set s.words 0 word) hs id v w at (length-set s.words 0 word ∙ r.wide) (get_or-set_same s.words 0 word 0 (let wide = r.wide in omega arith) ∙ (is_word ∙ ap (λ (xs : List E). 2 * length xs) b.3)) (get_or-set_other s.words 0 1 word 0 (λ e. omega arith) ∙ r.count_is) r.few r.bounded refl
            (subst (λ c. IsHome list names start_of p' (put_back s.homes c) free) (sym carried) (y, set_here s.homes 0 (maybe.some (Some y)) (omega arith), b.3, same_start))
            r.named
            ((λ _. record { seen = subst (λ (xs : List E). StartsWith xs l) b.3 (starts_self l); other_seen = sit.other_seen; others = λ n has. absurd (no_others n has); start = sit.start; numbers = sit.numbers; maker = sit.maker }), λ k e there has. within l k e (subst (λ (xs : List E). get_elem? xs k ≡ maybe.some e) (sym b.3) there))
            (λ j u other f. ((λ here. sit_hand p free j u (f.0 here)), freed_else p.entries s.homes hs n u u.stage (λ here has. apart p id j n u own other (f.0 here) has) (subst (λ h. Stand p.entries s.homes u h u.stage) is f.1))),
        λ y' c. let same : y ≡ y' = one_carried me.1 y y' carried c in subst (λ (z : SeatView E O × List (ℕ × Option V)). z ≡ (released_seat v (list y'), [])) (λ i. (released_seat v (list (sym same i)), ap rest (sym carried) i)) refl,
      )

  sit_count : (p : TurnAccount E O) (id j : ℕ) (u : W) → j ≢ p.maker → Sit p j u → Sit (record p { given = p.given + 1; seat_of = put p.seat_of p.given id }) j u
  sit_count p id j u other r = record {
    seen = r.seen;
    other_seen = r.other_seen;
    others = r.others;
    start = r.start;
    numbers = λ n has. let t = r.numbers n has in let less = t.0 in (omega arith, put_else p.seat_of p.given id n (λ e. omega arith) ∙ t.1);
    maker = λ e. absurd (other (r.maker e).1);
  }

  minted_here : (p : TurnAccount E O) (hs : Homes) (v : W) (h : Hand) → v.given ≡ p.given → IsHome list names start_of p hs h → ((k : ℕ) (e : E) → get_elem? p.entries k ≡ maybe.some e → names e < p.given) → Stand p.entries hs v h Idle → Stand p.entries hs (minted_view v) h Idle
  minted_here p hs v free e home named own = λ k x there has. let less = named k x there in ⊎_elim (λ (t : v.given ≡ names x). absurd (omega arith)) (λ t. own k x there t) (has_cons v.given v.numbers (names x) has)
  minted_here p hs v (held_by n) e home named s = (
    (λ has. ⊎_elim (λ (t : v.given ≡ n). absurd (omega arith)) (λ t. s.0 t) (has_cons v.given v.numbers n has)),
    λ k x there has. let less = named k x there in ⊎_elim (λ (t : v.given ≡ names x). absurd (omega arith)) (λ t. s.1 k x there t) (has_cons v.given v.numbers (names x) has),
  )

  same_home : (p : TurnAccount E O) (given : ℕ) (seat_of : ℕ → ℕ) (hs : Homes) (h : Hand) → p.given ≤ given → IsHome list names start_of p hs h → IsHome list names start_of (record p { given = given; seat_of = seat_of }) hs h
  same_home p given seat_of hs free le home = home
  same_home p given seat_of hs (held_by n) le less = omega arith

  pub mints : (slots id : ℕ) (me : M) → me.0.stage ≡ Idle → me.0.is_maker ≡ true → me.0.given < seats → seats < 2 ^ 32 → Allows Rule slots id me 1 (λ x. (x + 1) % 2 ^ 64) (seat_numbering list names start_of (step slots 1 1 0 maybe.none) me)
  mints slots id me away is_maker room small s r len at _ =
      let p = r.account in let v = me.0 in let fit = r.each id v at in let sit = sits_at s r id v (away_here v away) at in let maker = sit.maker is_maker in let c : ℕ = v.given in let found : get_or s.words 1 0 ≡ p.given = r.count_is in let mine = maker.0 in
      let bound : seats < 4294967296 = small in let up : (get_or s.words 1 0 + 1) % 18446744073709551616 ≡ p.given + 1 = omega arith in let w : W = minted_view v in let p' : TurnAccount E O = record p { given = p.given + 1; seat_of = put p.seat_of p.given id } in (
        w,
        keeps,
        tt,
        subst (λ (z : ℕ). Rule (stepped s 1 z id me.1 w keeps)) (sym up)
            (placed s r p' (set s.words 1 (p.given + 1)) s.homes id v w at (length-set s.words 1 (p.given + 1) ∙ r.wide) (get_or-set_other s.words 1 0 (p.given + 1) 0 (λ e. omega arith) ∙ r.turn_is) (get_or-set_same s.words 1 (p.given + 1) 0 (let wide = r.wide in omega arith)) (omega arith) r.bounded refl
            (same_home p (p.given + 1) (put p.seat_of p.given id) s.homes p.hand (omega arith) r.home) (λ k e there. let less = r.named k e there in omega arith) (
              (λ _. record {
                seen = sit.seen;
                other_seen = sit.other_seen;
                others = λ n has. let t = sit.others n has in ((suc t.0.0, t.0.1), t.1);
                start = sit.start;
                numbers = λ n has. ⊎_elim (λ (t : c ≡ n). (omega arith, put_at p.seat_of p.given id n (sym t ∙ mine))) (λ t. let old = sit.numbers n t in let less = old.0 in (omega arith, put_else p.seat_of p.given id n (λ e. omega arith) ∙ old.1)) (has_cons c v.numbers n has);
                maker = λ _. (ap (λ (z : ℕ). z + 1) mine, maker.1);
              }),
              subst (Stand p.entries s.homes w p.hand) (sym away) (minted_here p s.homes v p.hand mine r.home r.named (subst (Stand p.entries s.homes v p.hand) away fit.1)),
            )
            (λ j u other f. ((λ here. sit_count p id j u (λ e. other (e ∙ sym maker.1)) (f.0 here)), f.1))),
        (found ∙ sym mine, refl),
      )

  -- a seat of one number of the maker's
  split_fits : (entries : List E) (hs : Homes) (v w : W) (h : Hand) → ((n : ℕ) → HasElement w.numbers n → HasElement v.numbers n) → w.seen ≡ v.seen → Stand entries hs v h Idle → Stand entries hs w h Idle
  split_fits entries hs v w free sub same own = λ k e there has. subst (λ (xs : List E). k < length xs) (sym same) (own k e there (sub (names e) has))
  split_fits entries hs v w (held_by n) sub same s = ((λ has. s.0 (sub n has)), λ k e there has. subst (λ (xs : List E). k < length xs) (sym same) (s.1 k e there (sub (names e) has)))

  one_of : (x n : ℕ) → HasElement (x ∷ []) n → x ≡ n
  one_of x n has = ⊎_elim (λ t. t) (λ t. absurd (maybe.some-ne-none n (sym t.1))) (has_cons x [] n has)

  sit_owner : (p : TurnAccount E O) (n to id j : ℕ) (u : W) → p.seat_of n ≡ id → j ≢ id → Sit p j u → Sit (record p { seat_of = put p.seat_of n to }) j u
  sit_owner p n to id j u own other r = record {
    seen = r.seen;
    other_seen = r.other_seen;
    others = r.others;
    start = r.start;
    numbers = λ m has. let t = r.numbers m has in (t.0, put_else p.seat_of n to m (λ e. other (sym t.1 ∙ (ap p.seat_of e ∙ own))) ∙ t.1);
    maker = r.maker;
  }

  other_home : (p : TurnAccount E O) (seat_of : ℕ → ℕ) (hs : Homes) (h : Hand) → IsHome list names start_of p hs h → IsHome list names start_of (record p { seat_of = seat_of }) hs h
  other_home p seat_of hs free home = home
  other_home p seat_of hs (held_by n) less = less

  splits_in : (s : St) (r : Rule s) (id : ℕ) (v : W) (n : ℕ) → v.stage ≡ Idle → v.numbers ≡ n ∷ v.number ∷ [] → n ≢ v.number → get_elem? s.views id ≡ maybe.some v
      → Rule record { words = s.words; homes = s.homes; views = set s.views id (maker_left v) ++ seat_right v ∷ [] }
  splits_in s r id v n away has_two apart_numbers at =
      let p = r.account in let new : ℕ = length s.views in let fit = r.each id v at in let sit = sits_at s r id v (away_here v away) at in let l : W = maker_left v in let w : W = seat_right v in
      let first : first_or_zero v.numbers ≡ n = ap first_or_zero has_two in let mine : HasElement v.numbers v.number = subst (λ xs. HasElement xs v.number) (sym has_two) (1, refl) in let own = sit.numbers v.number mine in
      let in_left : (m : ℕ) → HasElement l.numbers m → HasElement v.numbers m = λ m has. subst (λ xs. HasElement xs m) (sym has_two) (0, ap (λ (z : ℕ). maybe.some z) (sym first ∙ one_of (first_or_zero v.numbers) m has)) in
      let in_right : (m : ℕ) → HasElement w.numbers m → HasElement v.numbers m = λ m has. subst (λ xs. HasElement xs m) (sym has_two) (1, ap (λ (z : ℕ). maybe.some z) (one_of v.number m has)) in
      let p' : TurnAccount E O = record p { seat_of = put p.seat_of v.number new } in let here : Stand p.entries s.homes v p.hand Idle = subst (Stand p.entries s.homes v p.hand) away fit.1 in
      let left_fits : Fit p' s.homes id l = (
        (λ _. record { seen = sit.seen; other_seen = sit.other_seen; others = λ n has. absurd (no_others n has); start = sit.start; numbers = λ m has. let t = sit.numbers m (in_left m has) in (t.0, put_else p.seat_of v.number new m (λ e. apart_numbers ((sym first ∙ one_of (first_or_zero v.numbers) m has) ∙ e)) ∙ t.1); maker = sit.maker }),
        subst (Stand p.entries s.homes l p.hand) (sym away) (split_fits p.entries s.homes v l p.hand in_left refl here),
      ) in
      let right_fits : Fit p' s.homes new w = (
        (λ _. record { seen = sit.seen; other_seen = (p.entries, refl); others = λ n has. absurd (no_others n has); start = sit.start; numbers = λ m has. let t = sit.numbers m (in_right m has) in (t.0, put_at p.seat_of v.number new m (sym (one_of v.number m has))); maker = λ e. absurd (let no_way : false ≡ true = e in cc) }),
        split_fits p.entries s.homes v w p.hand in_right refl here,
      ) in record {
        account = p';
        wide = r.wide;
        turn_is = r.turn_is;
        count_is = r.count_is;
        few = r.few;
        bounded = r.bounded;
        from = r.from;
        home = other_home p (put p.seat_of v.number new) s.homes p.hand r.home;
        named = r.named;
        each = λ j u e. ⊎_elim
            (λ (h : get_elem? (set s.views id l) j ≡ maybe.some u). ⊎_elim (λ (t : (j ≡ id) × (l ≡ u)). subst (λ (x : ℕ × W). Fit p' s.homes x.0 x.1) (λ i. (sym t.0 i, t.1 i)) left_fits)
            (λ (t : (j ≢ id) × (get_elem? s.views j ≡ maybe.some u)). let f = r.each j u t.1 in ((λ here. sit_owner p v.number new id j u own.1 t.0 (f.0 here)), f.1)) (at_set s.views id j l u h))
            (λ (t : (w ≡ u) × (j ≡ length (set s.views id l))). subst (λ (x : ℕ × W). Fit p' s.homes x.0 x.1) (λ i. (sym (t.1 ∙ length-set s.views id l) i, t.0 i)) right_fits)
            (at_end (set s.views id l) w u j e);
      }

  pub splits : (id : ℕ) (v : W) (n : ℕ) → v.stage ≡ Idle → v.numbers ≡ n ∷ v.number ∷ [] → n ≢ v.number → Splits Rule id v (maker_left v) (seat_right v)
  splits id v n away two other s r at = splits_in s r id v n away two other at

  -- a note represents no number, so it fits whoever has the turn
  note_fits : (entries : List E) (hs : Homes) (v : W) (h : Hand) → Stand entries hs (note_right v) h Idle
  note_fits entries hs v free = λ k e there has. absurd (no_others (names e) has)
  note_fits entries hs v (held_by n) = ((λ has. no_others n has), λ k e there has. absurd (no_others (names e) has))

  notes_in : (s : St) (r : Rule s) (id : ℕ) (v : W) → v.stage ≡ Idle → get_elem? s.views id ≡ maybe.some v → Rule record { words = s.words; homes = s.homes; views = set s.views id v ++ note_right v ∷ [] }
  notes_in s r id v away at =
      let p = r.account in let fit = r.each id v at in let sit = sits_at s r id v (away_here v away) at in let w : W = note_right v in
      let new_fits : (k : ℕ) → Fit p s.homes k w = λ k. (
        (λ _. record { seen = sit.seen; other_seen = (p.entries, refl); others = λ n has. absurd (no_others n has); start = sit.start; numbers = λ n has. absurd (no_others n has); maker = λ e. absurd (let no_way : false ≡ true = e in cc) }),
        note_fits p.entries s.homes v p.hand,
      ) in record {
        account = p;
        wide = r.wide;
        turn_is = r.turn_is;
        count_is = r.count_is;
        few = r.few;
        bounded = r.bounded;
        from = r.from;
        home = r.home;
        named = r.named;
        each = λ j u e. ⊎_elim
            (λ (h : get_elem? (set s.views id v) j ≡ maybe.some u). ⊎_elim (λ (t : (j ≡ id) × (v ≡ u)). subst (λ (x : ℕ × W). Fit p s.homes x.0 x.1) (λ i. (sym t.0 i, t.1 i)) fit)
            (λ (t : (j ≢ id) × (get_elem? s.views j ≡ maybe.some u)). r.each j u t.1) (at_set s.views id j v u h))
            (λ (t : (w ≡ u) × (j ≡ length (set s.views id v))). subst (λ (x : W). Fit p s.homes j x) t.0 (new_fits j))
            (at_end (set s.views id v) w u j e);
      }

  -- a seat's list is written down
  pub notes : (id : ℕ) (v : W) → v.stage ≡ Idle → Splits Rule id v v (note_right v)
  notes id v away s r at = notes_in s r id v away at

  pub compares : (slots id : ℕ) (me : M) → me.0.stage ≡ Idle → Allows Rule slots id me 0 (λ x. x) (list_comparison list names start_of (step slots 0 0 0 maybe.none) me)
  compares slots id me away s r len at _ = let p = r.account in let v = me.0 in let sit = sits_at s r id v (away_here v away) at in (
    v,
    keeps,
    tt,
    placed s r p (set s.words 0 (get_or s.words 0 0)) s.homes id v v at (length-set s.words 0 (get_or s.words 0 0) ∙ r.wide) (ap (λ ws. get_or ws 0 0) (set-get_or s.words 0 0) ∙ r.turn_is) (ap (λ ws. get_or ws 1 0) (set-get_or s.words 0 0) ∙ r.count_is) r.few r.bounded refl r.home r.named (r.each id v at) (λ j u other f. f),
    (refl, (λ le. prefix_of p.entries v.seen v.other_seen sit.seen sit.other_seen le), λ n has k e there name. (sit.others n has).1 k e (subst (λ (xs : List E). get_elem? xs k ≡ maybe.some e) (sym sit.seen.1) (at_longer v.seen sit.seen.0 k e there)) name),
  )

  is_at_home : (p : TurnAccount E O) (hs : Homes) (v : W) (h : Hand) → p.given ≤ seats → ((n : ℕ) → n < seats → HasElement v.numbers n) → IsHome list names start_of p hs h → Stand p.entries hs v h Idle → IsHome list names start_of p hs free × OwnAreSeen list names start_of p.entries v
  is_at_home p hs v free few all home own = (home, own)
  is_at_home p hs v (held_by n) few all less s = absurd (s.0 (all n (omega arith)))

  -- at the end: the value at home represents what the seat of all numbers has seen
  pub closes : (s : St) (id : ℕ) (v : W) → Rule s → get_elem? s.views id ≡ maybe.some v → v.stage ≡ Idle → ((n : ℕ) → n < seats → HasElement v.numbers n)
      → (y : V) × (get_elem? s.homes 0 ≡ maybe.some (maybe.some (Some y))) × (list y ≡ v.seen) × (start_of y ≡ start)
  closes s id v r at away all =
      let p = r.account in let fit = r.each id v at in let sit = sits_at s r id v (away_here v away) at in
      let t = is_at_home p s.homes v p.hand r.few all r.home (subst (Stand p.entries s.homes v p.hand) away fit.1) in
      let few = r.few in let none_more : ¬ (length v.seen < length p.entries) = λ more. let e = some_at p.entries (length v.seen) more in
      let less = r.named (length v.seen) e.0 e.1 in let inside = t.1 (length v.seen) e.0 e.1 (all (names e.0) (omega arith)) in omega arith in
      let whole : p.entries ≡ v.seen = prefix_whole p.entries v.seen sit.seen (omega arith) in
      (t.0.0, t.0.1, t.0.2 ∙ whole, t.0.3 ∙ r.from)

  longer_first : (xs ys : List E) → length xs ≤ length (longer xs ys)
  longer_first xs ys = ⊎_elim (λ (t : (leb (suc (length xs)) (length ys) ≡ true) × (suc (length xs) ≤ length ys)). subst (λ b. length xs ≤ length (cond b ys xs)) (sym t.0) (let l = t.1 in omega arith))
      (λ (t : (leb (suc (length xs)) (length ys) ≡ false) × (length ys < suc (length xs))). subst (λ b. length xs ≤ length (cond b ys xs)) (sym t.0) (le_refl (length xs))) (leb_tells (suc (length xs)) (length ys))

  longer_second : (xs ys : List E) → length ys ≤ length (longer xs ys)
  longer_second xs ys = ⊎_elim (λ (t : (leb (suc (length xs)) (length ys) ≡ true) × (suc (length xs) ≤ length ys)). subst (λ b. length ys ≤ length (cond b ys xs)) (sym t.0) (le_refl (length ys)))
      (λ (t : (leb (suc (length xs)) (length ys) ≡ false) × (length ys < suc (length xs))). subst (λ b. length ys ≤ length (cond b ys xs)) (sym t.0) (let l = t.1 in omega arith)) (leb_tells (suc (length xs)) (length ys))

  either_list : (P : List E → Type 0) (b : Bool) (xs ys : List E) → P xs → P ys → P (cond b xs ys)
  either_list P true xs ys p q = p
  either_list P false xs ys p q = q

  -- the numbers of the seat `other` go to the seat id
  abbrev handed : (ℕ → ℕ) → ℕ → ℕ → ℕ → ℕ
  handed seat_of other id n = cond (eqb (seat_of n) other) id (seat_of n)

  handed_on : (seat_of : ℕ → ℕ) (other id n : ℕ) → seat_of n ≡ other → handed seat_of other id n ≡ id
  handed_on seat_of other id n e = ap (λ b. cond b id (seat_of n)) (eq-eqb (seat_of n) other e)

  handed_not : (seat_of : ℕ → ℕ) (other id n : ℕ) → seat_of n ≢ other → handed seat_of other id n ≡ seat_of n
  handed_not seat_of other id n e = ap (λ b. cond b id (seat_of n)) (ne_eqb (seat_of n) other e)

  joined_fits : (entries : List E) (hs : Homes) (v w : W) (h : Hand) → Stand entries hs v h Idle → Stand entries hs w h Idle → Stand entries hs (views_joined v w) h Idle
  joined_fits entries hs v w free a b = λ k e there has. let x = longer_first v.seen w.seen in let y = longer_second v.seen w.seen in
      ⊎_elim (λ t. let i = a k e there t in omega arith) (λ t. let i = b k e there t in omega arith) (has_append v.numbers w.numbers (names e) has)
  joined_fits entries hs v w (held_by n) a b = (
    (λ has. ⊎_elim (λ t. a.0 t) (λ t. b.0 t) (has_append v.numbers w.numbers n has)),
    λ k e there has. let x = longer_first v.seen w.seen in let y = longer_second v.seen w.seen in
        ⊎_elim (λ t. let i = a.1 k e there t in omega arith) (λ t. let i = b.1 k e there t in omega arith) (has_append v.numbers w.numbers (names e) has),
  )

  spent_fits : (entries : List E) (hs : Homes) (h : Hand) → Stand entries hs spent_view h Spent
  spent_fits entries hs free = tt
  spent_fits entries hs (held_by n) = tt

  sit_handed : (p : TurnAccount E O) (other id j : ℕ) (u : W) → j ≢ other → Sit p j u → Sit (record p { seat_of = handed p.seat_of other id }) j u
  sit_handed p other id j u apart_seats r = record {
    seen = r.seen;
    other_seen = r.other_seen;
    others = r.others;
    start = r.start;
    numbers = λ n has. let t = r.numbers n has in (t.0, handed_not p.seat_of other id n (λ e. apart_seats (sym t.1 ∙ e)) ∙ t.1);
    maker = r.maker;
  }

  own_of : (entries : List E) (hs : Homes) (v : W) (h : Hand) → Stand entries hs v h Idle → OwnAreSeen list names start_of entries v
  own_of entries hs v free s = s
  own_of entries hs v (held_by n) s = s.1

  -- what the seat of the shorter list had seen has all entries that name a number of its own
  others_joined : (entries : List E) (v w : W) → OwnAreSeen list names start_of entries v → OwnAreSeen list names start_of entries w → (b : Bool)
      → (n : ℕ) → HasElement (cond b v.numbers w.numbers) n → HasElement (v.numbers ++ w.numbers) n × ((k : ℕ) (e : E) → get_elem? entries k ≡ maybe.some e → names e ≡ n → k < length (cond b v.seen w.seen))
  others_joined entries v w a c true n has = (has_left v.numbers w.numbers n has, λ k e there name. a k e there (subst (HasElement v.numbers) (sym name) has))
  others_joined entries v w a c false n has = (has_right v.numbers w.numbers n has, λ k e there name. c k e there (subst (HasElement w.numbers) (sym name) has))

  pub joins : (id other : ℕ) (v w : W) → v.stage ≡ Idle → w.stage ≡ Idle → Joins Rule id v other w (views_joined v w) spent_view
  joins id other v w away away' s r at two there =
      let p = r.account in let x : W = views_joined v w in
      let was : get_elem? s.views other ≡ maybe.some w = ⊎_elim (λ (t : (other ≡ id) × (x ≡ w)). absurd (two t.0)) (λ (t : (other ≢ id) × (get_elem? s.views other ≡ maybe.some w)). t.1) (at_set s.views id other x w there) in
      let a = sits_at s r id v (away_here v away) at in let b = sits_at s r other w (away_here w away') was in
      let sa : Stand p.entries s.homes v p.hand Idle = subst (Stand p.entries s.homes v p.hand) away (r.each id v at).1 in let sb : Stand p.entries s.homes w p.hand Idle = subst (Stand p.entries s.homes w p.hand) away' (r.each other w was).1 in
      let p' : TurnAccount E O = record p { seat_of = handed p.seat_of other id } in
      let both_fit : Fit p' s.homes id x = (
        (λ _. record {
          seen = either_list (StartsWith p.entries) (ltb (length v.seen) (length w.seen)) w.seen v.seen b.seen a.seen;
          other_seen = either_list (StartsWith p.entries) (ltb (length v.seen) (length w.seen)) v.seen w.seen a.seen b.seen;
          others = others_joined p.entries v w (own_of p.entries s.homes v p.hand sa) (own_of p.entries s.homes w p.hand sb) (ltb (length v.seen) (length w.seen));
          start = a.start;
          numbers = λ n has. ⊎_elim (λ t. let m = a.numbers n t in (m.0, handed_not p.seat_of other id n (λ e. two (sym e ∙ m.1)) ∙ m.1)) (λ t. let m = b.numbers n t in (m.0, handed_on p.seat_of other id n m.1)) (has_append v.numbers w.numbers n has);
          maker = a.maker;
        }),
        subst (Stand p.entries s.homes x p.hand) (sym away) (joined_fits p.entries s.homes v w p.hand sa sb),
      ) in record {
        account = p';
        wide = r.wide;
        turn_is = r.turn_is;
        count_is = r.count_is;
        few = r.few;
        bounded = r.bounded;
        from = r.from;
        home = other_home p (handed p.seat_of other id) s.homes p.hand r.home;
        named = r.named;
        each = λ j u e. ⊎_elim (λ (t : (j ≡ other) × (spent_view ≡ u)). subst (Fit p' s.homes j) t.1 ((λ not. absurd (not refl)), spent_fits p.entries s.homes p.hand))
            (λ (t : (j ≢ other) × (get_elem? (set s.views id x) j ≡ maybe.some u)). ⊎_elim (λ (t' : (j ≡ id) × (x ≡ u)). subst (λ (z : ℕ × W). Fit p' s.homes z.0 z.1) (λ i. (sym t'.0 i, t'.1 i)) both_fit)
            (λ (t' : (j ≢ id) × (get_elem? s.views j ≡ maybe.some u)). let f = r.each j u t'.1 in ((λ here. sit_handed p other id j u t.0 (f.0 here)), f.1)) (at_set s.views id j x u t.1))
            (at_set (set s.views id x) other j spent_view u e);
      }

  first_only : (hs : Homes) (id : ℕ) (v : W) → get_elem? hs 0 ≡ maybe.some (maybe.some None) → get_elem? (first_view start ∷ []) id ≡ maybe.some v → Fit record { entries = []; start = start; given = 1; maker = 0; seat_of = λ _. 0; hand = held_by 0 } hs id v
  first_only hs zero v empty e = subst (Fit record { entries = []; start = start; given = 1; maker = 0; seat_of = λ _. 0; hand = held_by 0 } hs 0) (maybe.some-injective (first_view start) v e) (
    (λ _. record { seen = ([], refl); other_seen = ([], refl); others = λ n has. absurd (no_others n has); start = refl; numbers = λ n has. ((let z = one_of 0 n has in omega arith), refl); maker = λ _. (refl, refl) }),
    ((0, refl), refl, empty),
  )
  first_only hs (suc id) v empty e = absurd (maybe.some-ne-none v (sym e))

  pub opens : (hs : Homes) → get_elem? hs 0 ≡ maybe.some (maybe.some None) → 1 ≤ seats → Rule record { words = 1 ∷ 1 ∷ []; homes = hs; views = first_view start ∷ [] }
  opens hs empty some_seat = record {
    account = record { entries = []; start = start; given = 1; maker = 0; seat_of = λ _. 0; hand = held_by 0 };
    wide = refl;
    turn_is = refl;
    count_is = refl;
    few = some_seat;
    bounded = let small : 0 ≤ 4611686018427387904 = omega arith in small;
    from = refl;
    home = omega arith;
    named = λ k e there. absurd (maybe.some-ne-none e (sym there));
    each = λ id v e. first_only hs id v empty e;
  }

  -- what is found in the slot at the end
  pub ended : (ws : List ℕ) (xs : List (Option V)) (found : Option V) (id : ℕ) (v : W) → Final (Seen Rule id v) ws xs → get_elem? xs 0 ≡ maybe.some found → v.stage ≡ Idle → ((n : ℕ) → n < seats → HasElement v.numbers n)
      → (y : V) × (found ≡ Some y) × (list y ≡ v.seen) × (start_of y ≡ start)
  ended ws xs found id v f is away all = let t = closes f.0 id v f.1.0 f.1.1 away all in (t.0, maybe.some-injective found (Some t.0) (sym is ∙ f.4 0 (Some t.0) t.1), t.2, t.3)
