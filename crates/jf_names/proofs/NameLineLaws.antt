-- Names that are taken line by line: all of an input, or up to the line that is refused.
use Rattle.std.proofs.Common.{◌≡◌, ◌∙◌, ◌+◌, ℕ, List, [], ◌∷◌, ◌++◌, length, append-nil, fold, refl, ap, ap₂, sym, subst, arith, inl, inr, Bool, true, false, cond, nat_le, Option, Some, None, option_map, Result, Ok, Err}
use Rattle.std.specs.Prelude.{OnOk, IfErr}
use Rattle.std.proofs.lemmas.Bool.{ltb-true}
use Rattle.std.proofs.lemmas.List.{length-append}
use Rattle.jf_io.specs.Lines.{lines}
use Rattle.jf_io.specs.declared.piece.TheConstants.{USUAL_PIECE}
use Rattle.jf_text.specs.Words.{name_of, is_long}
use Rattle.jf_text.proofs.HexText.{bytes_within-many}
use Rattle.jf_input.specs.Feeds.{front_of_line, TakesLines, ReadsAll, ReadsFew, HasFed}
use Rattle.jf_input.specs.declared.feeding.Feeding.{Feeding}
use Rattle.jf_input.specs.declared.feeding.Feeding.TheVariants as feeding
use Rattle.jf_input.proofs.Given.{given_alike}
use Rattle.jf_names.specs.Names.{max_names, names_from, name_before, line_before, with_new_name, names_by_key}
use Rattle.jf_names.specs.NameLines.{NamesSoFar, no_names, after_name, after_name_line, TakesName, EndsNames, HasNames, StopsNames}
use Rattle.jf_names.specs.Answers.{IsRefusedAt, ReadsToRefusal}
use Rattle.jf_names.specs.declared.fault.NamesFault.{NamesFault}
use Rattle.jf_names.specs.declared.fault.NamesFault.TheVariants as fault

-- ---- one line
name_of-long : (line : List ℕ) → is_long line ≡ true → name_of line ≡ None
name_of-long line long = bytes_within-many 1 128 line (let more = ltb-true 8500 (length line) long in omega arith)

-- all long lines are alike
after_name_line-long : (s : NamesSoFar) (line other : List ℕ) → is_long line ≡ true → is_long other ≡ true → after_name_line s line ≡ after_name_line s other
after_name_line-long s line other a b = ap (λ (o : Option (List ℕ)). cond (nat_le s.at max_names) (option_map (after_name s) o) None) (name_of-long line a ∙ sym (name_of-long other b))

takes-whole : (s next : NamesSoFar) (line whole : List ℕ) (r : Result (List ℕ) NamesFault) → line ≡ front_of_line whole → TakesName s line next r → TakesName s whole next r
takes-whole s next line whole r given takes = by_result r takes
  where
    same : after_name_line s whole ≡ after_name_line s line
    same = sym (ap (after_name_line s) given ∙ given_alike (after_name_line s) (after_name_line-long s) whole)

    by_result : (x : Result (List ℕ) NamesFault) → TakesName s line next x → TakesName s whole next x
    by_result (Ok t) k = (same ∙ k.0, k.1)
    by_result (Err (fault.Line at)) k = (k.0, same ∙ k.1)
    by_result (Err fault.Memory) k = tt
    by_result (Err (fault.Outside least head)) k = k
    by_result (Err fault.ReadFault) k = k
    by_result (Err fault.WriteFault) k = k

pub line-taken : (s next : NamesSoFar) (line out : List ℕ) (r : Result (Unit {0}) NamesFault) → OnOk r (TakesName s line next (Ok []))
    → OnOk r ((t : List ℕ) × (out ≡ out ++ t) × ((whole : List ℕ) → line ≡ front_of_line whole → TakesName s whole next (Ok t)))
line-taken s next line out (Ok u) taken = ([], sym (append-nil out), λ whole given. takes-whole s next line whole (Ok []) given taken)
line-taken s next line out (Err why) taken = tt

pub line-stopped : (s next : NamesSoFar) (line whole : List ℕ) (r : Result (Unit {0}) NamesFault) → line ≡ front_of_line whole → IfErr r (λ why. TakesName s line next (Err why)) → IfErr r (λ why. TakesName s whole next (Err why))
line-stopped s next line whole (Ok u) given taken = tt
line-stopped s next line whole (Err why) given taken = takes-whole s next line whole (Err why) given taken

-- ---- lines
-- a line that was taken is a name and not one too many
record IsNameLine (s : NamesSoFar) (line : List ℕ) (next : NamesSoFar) : Type 0 where
  name : List ℕ
  few : nat_le s.at max_names ≡ true
  is : name_of line ≡ Some name
  next_is : next ≡ after_name s name

taken-name : (s next : NamesSoFar) (line : List ℕ) → after_name_line s line ≡ Some next → IsNameLine s line next
taken-name s next line h =
    elim (nat_le s.at max_names) as (λ b. nat_le s.at max_names ≡ b → cond b (option_map (after_name s) (name_of line)) None ≡ Some next → IsNameLine s line next) [
      | true ↦ λ few k. (elim (name_of line) as (λ (o : Option (List ℕ)). name_of line ≡ o → option_map (after_name s) o ≡ Some next → IsNameLine s line next) [
        | None ↦ λ is m. absurd (cc)
        | Some name ↦ λ is m. record { name = name; few = few; is = is; next_is = some_same (after_name s name) next m }
      ] refl k)
      | false ↦ λ few k. absurd (cc)
    ] refl h
  where
    some_same : (a b : NamesSoFar) → Some a ≡ Some b → b ≡ a
    some_same a b e = cc

names_from-name : (s next : NamesSoFar) (line : List ℕ) (ls : List (List ℕ)) (n : IsNameLine s line next) → names_from s.at (line ∷ ls) ≡ name_before n.name (names_from next.at ls)
unfolding names_from
names_from-name s next line ls n =
    ap₂ (λ (b : Bool) (o : Option (List ℕ)). cond b (line_before s.at o (names_from (s.at + 1) ls)) (Err s.at)) n.few n.is
    ∙ ap (λ (m : NamesSoFar). name_before n.name (names_from m.at ls)) (sym n.next_is)

-- the names of lines that were taken
record HasTaken (s : NamesSoFar) (ls : List (List ℕ)) (next : NamesSoFar) : Type 0 where
  names : List (List ℕ)
  are : names_from s.at ls ≡ Ok names
  by_keys : next.names ≡ fold with_new_name s.names names

names_from-took : (s next : NamesSoFar) (ls : List (List ℕ)) (text : List ℕ) → TakesLines TakesName s ls next text → HasTaken s ls next
unfolding names_from
names_from-took s next [] text took = record { names = []; are = refl; by_keys = ap (λ (m : NamesSoFar). m.names) took.0 }
names_from-took s next (line ∷ ls) text took =
    let n = taken-name s took.0 line took.3.0 in
    let later = names_from-took took.0 next ls took.2 took.4 in
    record {
      names = n.name ∷ later.names;
      are = names_from-name s took.0 line ls n ∙ ap (name_before n.name) later.are;
      by_keys = later.by_keys ∙ ap (λ (m : NamesSoFar). fold with_new_name m.names later.names) n.next_is;
    }

-- each line that was taken counts
at-took : (s next : NamesSoFar) (ls : List (List ℕ)) (text : List ℕ) → TakesLines TakesName s ls next text → next.at ≡ s.at + length ls
at-took s next [] text took = let same : next.at ≡ s.at = ap (λ (m : NamesSoFar). m.at) took.0 in omega arith
at-took s next (line ∷ ls) text took =
    let n = taken-name s took.0 line took.3.0 in
    let here : took.0.at ≡ s.at + 1 = ap (λ (m : NamesSoFar). m.at) n.next_is in
    let later : next.at ≡ took.0.at + length ls = at-took took.0 next ls took.2 took.4 in
    omega arith

names_from-refused : (s : NamesSoFar) (line : List ℕ) (ls : List (List ℕ)) → after_name_line s line ≡ None → names_from s.at (line ∷ ls) ≡ Err s.at
unfolding names_from
names_from-refused s line ls h =
    elim (nat_le s.at max_names) as (λ b. cond b (option_map (after_name s) (name_of line)) None ≡ None → cond b (line_before s.at (name_of line) (names_from (s.at + 1) ls)) (Err s.at) ≡ Err s.at) [
      | true ↦ λ k. (elim (name_of line) as (λ (o : Option (List ℕ)). option_map (after_name s) o ≡ None → line_before s.at o (names_from (s.at + 1) ls) ≡ Err s.at) [
        | None ↦ λ m. refl
        | Some name ↦ λ m. absurd (cc)
      ] k)
      | false ↦ λ k. refl
    ] h

-- after lines that were taken the one that is refused is named
names_from-took_refused : (s next : NamesSoFar) (ls : List (List ℕ)) (text line : List ℕ) (behind : List (List ℕ)) → TakesLines TakesName s ls next text → after_name_line next line ≡ None → names_from s.at (ls ++ line ∷ behind) ≡ Err next.at
names_from-took_refused s next [] text line behind took refused =
    names_from-refused s line behind (ap (λ (m : NamesSoFar). after_name_line m line) (sym took.0) ∙ refused) ∙ ap (λ (m : NamesSoFar). Err m.at) (sym took.0)
names_from-took_refused s next (l ∷ ls) text line behind took refused =
    let n = taken-name s took.0 l took.3.0 in
    names_from-name s took.0 l (ls ++ line ∷ behind) n ∙ ap (name_before n.name) (names_from-took_refused took.0 next ls took.2 line behind took.4 refused)

-- ---- an input
module _ (start last : NamesSoFar) (begun : start ≡ no_names) (source source' text text' : Option (List ℕ)) where
  abbrev Read : Feeding NamesFault → Type 0
  Read how = HasFed TakesName EndsNames (λ m n. Unit {0}) USUAL_PIECE how start last source source' text text'

  taken_first : (how : Feeding NamesFault) (f : Read how) → TakesLines TakesName no_names f.done f.mid f.said
  taken_first how f = subst (λ (s : NamesSoFar). TakesLines TakesName s f.done f.mid f.said) begun f.took

  whole : (ls : List (List ℕ)) (mid : NamesSoFar) (said : List ℕ) → TakesLines TakesName no_names ls mid said → last ≡ mid → ReadsAll source source' ls → HasNames last.names source source'
  unfolding names_by_key
  whole ls mid said took same reads =
      let t = names_from-took no_names mid ls said took in
      (t.names, λ input told. (ap (names_from 1) (reads input told).1 ∙ t.are, (reads input told).0), ap (λ (m : NamesSoFar). m.names) same ∙ t.by_keys)

  -- read to its end
  pub read-all : Read feeding.Done → HasNames last.names source source'
  read-all f = elim f.ended [
    | inl b ↦ absurd b.2
    | inr e ↦ elim e [
      | inl l ↦ absurd l.2
      | inr a ↦ whole f.done f.mid f.said (taken_first feeding.Done f) a.0.1.0 a.1
    ]
  ]

  refused-line : (at : ℕ) → Read (feeding.Stopped (fault.Line at)) → IsRefusedAt at source
  refused-line at f input told = elim f.ended [
    | inl b ↦ absurd b.2
    | inr e ↦ elim e [
      | inl l ↦ (
          let r = (l.3 input told).2.read in
          let later : l.1 ≡ [] = l.2.2 in
          let all : lines input ≡ f.done ++ l.0 ∷ r.behind = r.lines_are ∙ ap (λ (ls : List (List ℕ)). (f.done ++ l.0 ∷ ls) ++ r.behind) later ∙ joined f.done l.0 r.behind in
          ap (names_from 1) all
          ∙ names_from-took_refused no_names f.mid f.done f.said l.0 r.behind (taken_first (feeding.Stopped (fault.Line at)) f) l.2.0.1
          ∙ ap (λ (n : ℕ). Err n) (sym l.2.0.0))
      | inr a ↦ absurd a.0.0
    ]
  ]
    where
      joined : (xs : List (List ℕ)) (x : List ℕ) (ys : List (List ℕ)) → (xs ++ x ∷ []) ++ ys ≡ xs ++ x ∷ ys
      joined [] x ys = refl
      joined (y ∷ xs) x ys = ap (λ (t : List (List ℕ)). y ∷ t) (joined xs x ys)

  reads-to-refused : (at : ℕ) → Read (feeding.Stopped (fault.Line at)) → ReadsToRefusal at source source'
  reads-to-refused at f = elim f.ended [
    | inl b ↦ absurd b.2
    | inr e ↦ elim e [
      | inl l ↦ (
          let refused : at ≡ f.mid.at = l.2.0.0 in
          let count : f.mid.at ≡ 1 + length f.done = at-took no_names f.mid f.done f.said (taken_first (feeding.Stopped (fault.Line at)) f) in
          let one_more : length (f.done ++ l.0 ∷ []) ≡ length f.done + 1 = length-append f.done (l.0 ∷ []) in
          let same : length (f.done ++ l.0 ∷ []) ≡ at = omega arith in
          let later : l.1 ≡ [] = l.2.2 in
          (f.done ++ l.0 ∷ [], same, subst (λ (ls : List (List ℕ)). ReadsFew USUAL_PIECE source source' (f.done ++ l.0 ∷ ls)) later l.3))
      | inr a ↦ absurd a.0.0
    ]
  ]

  not-stopped : (why : NamesFault) → Read (feeding.Stopped why) → ((s next : NamesSoFar) (line : List ℕ) → TakesName s line next (Err why) → ⊥) → ⊥
  not-stopped why f none = elim f.ended [
    | inl b ↦ absurd b.2
    | inr e ↦ elim e [
      | inl l ↦ none f.mid last l.0 l.2.0
      | inr a ↦ absurd a.0.0
    ]
  ]

  -- read up to the line at which it stopped
  pub read-stopped : (why : NamesFault) → Read (feeding.Stopped why) → StopsNames why source source'
  read-stopped (fault.Line at) f = (refused-line at f, reads-to-refused at f)
  read-stopped fault.Memory f = tt
  read-stopped fault.ReadFault f = tt
  read-stopped (fault.Outside least head) f = not-stopped (fault.Outside least head) f (λ s next line t. t)
  read-stopped fault.WriteFault f = not-stopped fault.WriteFault f (λ s next line t. t)
