-- Worked sessions: the definitions on small inputs.
use Rattle.std.specs.Prelude.{ℕ, zero, suc, false, [], ◌∷◌, ◌≡◌, refl, replicate, slice_index_or, Option, None, Some, codes}
use Rattle.std.proofs.Common.{sym, ap, inl, inr, subst, arith}
use Rattle.std.specs.Fmt.{digits}
use Rattle.atomic_table.specs.Seated.{TableId}
use Rattle.jf_path.specs.Limits.{max_pins}
use Rattle.jf_hash.specs.Maps.{apply}
use Rattle.jf_model.specs.declared.entries.Entry.{Entry}
use Rattle.jf_model.specs.declared.entries.Entry.TheVariants as entry
use Rattle.jf_model.specs.declared.entries.Landing.TheVariants as landing
use Rattle.jf_model.specs.Entries.{after, replay}
use Rattle.jf_text.specs.Words.{words, number, unhex}
use Rattle.jf_script.specs.Commands.{command_of, base_of}
use Rattle.jf_script.specs.declared.reply.Reply.TheVariants as reply
use Rattle.jf_node.specs.SnapshotValue.{SnapshotValue}
use Rattle.jf_board.specs.declared.views.Hold.TheVariants as hold
use Rattle.jf_store.specs.declared.event.Event.TheVariants.{Done}
use Rattle.jf_store.specs.Passes.{Store, Pass, IsPinned, none_pinned, new_pass}
use Rattle.jf_answers.specs.Own.{Own, begun_session}
use Rattle.jf_answers.specs.Answers.{answer}
use Rattle.jf_answers.specs.Refusals.{refused_by}
use Rattle.jf_answers.specs.Runs.{answer_text}
use Rattle.jf_answers.specs.Prunings.{next_floor}
use Rattle.jf_answers.specs.Explains.{Timeline, LineReply, IsFloor}
use Rattle.jf_answers.proofs.Samples.{start, empty_root, none_there, commit_gives, said}
use Rattle.jf_history.specs.Sessions.{Session, new_session, HeldFloor, HasReplied}
use Rattle.jf_history.proofs.HeldFloors.{below_pins-le}

abbrev table : TableId
table = record { words = 0; slots = 0; views_name = 0; atom = 0; block = 0; offset = 0; slot_names = [] }

-- a new store with so many passes
abbrev store_of : ℕ → Store
store_of passes = record { id = table; start = record { state = start; history = None; moment = 2; faults = 0; passes = passes; board = table } }

-- ---- floors
-- a session that has pinned version 3
abbrev pins_three : Own
pins_three = record { number = 0; pending = []; pins = Some 3 ∷ None ∷ None ∷ None ∷ None ∷ None ∷ None ∷ None ∷ [] }

-- its pruning up to 5 gets the floor 3
three : HeldFloor (store_of 1).start pins_three start (entry.Retired 0 5 3)
three = inr ((0, 3), (omega arith, λ same. (0, refl)), omega arith, refl)

three_alone : next_floor 5 start pins_three ≡ 3
three_alone = refl

-- and not 5
not_five : (h : Timeline) → IsFloor h start pins_three 5 5 → ⊥
not_five h f = let low = f.1.0 in absurd (omega arith)

-- a session without pins gets 3 if another pass pins it
three_of_another : HeldFloor (store_of 2).start (begun_session 0) start (entry.Retired 0 5 3)
three_of_another = inr ((1, 3), (omega arith, λ same. absurd (omega arith)), omega arith, refl)

-- and not if it is alone
not_three_alone : HeldFloor (store_of 1).start (begun_session 0) start (entry.Retired 0 5 3) → ⊥
not_three_alone h = elim h as (λ o. ⊥) [
  | inl e ↦ absurd (omega arith)
  | inr x ↦ (
      let below = x.1.0 in
      let mine = x.1.1 (omega arith) in
      let low = below_pins-le 5 x.0.1 (begun_session 0).pins mine.0 mine.1 in
      let lower = x.2 in
      absurd (omega arith)
      )
]

-- ---- a session that lands a batch without keys
abbrev landed : Entry
landed = entry.Landed 0 1 (landing.Direct []) empty_root 3

abbrev after_landing : Pass
after_landing = record { store = table; start = Some (store_of 1).start; number = 0; seen = Done landed ∷ []; place = (new_pass (store_of 1) 0).place; pinned = (new_pass (store_of 1) 0).pinned }

abbrev session : Session
session = record { pass = after_landing; own = begun_session 0; over = false }

abbrev told : LineReply
told = record { number = 1; text = said 1 (reply.Commit 1 empty_root); entry = Some landed; own = begun_session 0 }

-- nothing is pinned, and each place of the board is free
same_at : {X : Type 0} (x : X) (n i : ℕ) → slice_index_or (replicate n x) i x ≡ x
same_at x zero i = refl
same_at x (suc n) zero = refl
same_at x (suc n) (suc i) = same_at x n i

none_at : (i : ℕ) → IsPinned (slice_index_or none_pinned i None) (slice_index_or (replicate max_pins hold.Free) i hold.Free)
none_at i = subst (λ (o : Option SnapshotValue). IsPinned o (slice_index_or (replicate max_pins hold.Free) i hold.Free)) (sym (same_at None max_pins i)) (same_at hold.Free max_pins i)

replied : HasReplied (store_of 1).start (new_session (new_pass (store_of 1) 0)) session (codes "commit") told
unfolding answer command_of base_of words number unhex digits refused_by after replay apply
replied =
    let gives = commit_gives start (begun_session 0) refl refl none_there in
    record {
      follows = record { begins = (Done landed ∷ [], refl); same = refl; announced = λ version h. inl h };
      unmarked = refl;
      pins = record { versions = refl; eight = refl; board = λ i small. none_at i };
      own = refl;
      number = refl;
      answered = λ pins met. record {
        rises = omega arith;
        within = omega arith;
        answered = inr (record { event = landed; later = omega arith; stands = refl; owned = refl; gives = record { same = ap (λ a. a.entry) gives; floor = tt }; text = sym (ap (answer_text 1) gives); kept = refl; own_after = sym (ap (λ a. a.own) gives) });
      };
      held = tt;
      places = refl;
    }
