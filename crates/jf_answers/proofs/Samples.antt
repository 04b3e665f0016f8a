-- Worked histories: the definitions on small inputs.
use Rattle.std.specs.Prelude.{ℕ, List, [], ◌≡◌, ◌+◌, ◌-◌, Bool, true, false, ◌∷◌, None, refl, ◌^◌, nat_le, nat_lt, Some, codes, ◌++◌}
use Rattle.std.proofs.Common.{sym, ap, subst, arith, inl, inr}
use Rattle.std.specs.FinMap.{len-empty}
use Rattle.std.specs.FinMap as fin
use Rattle.std.specs.Fmt.{digits}
use Rattle.std.specs.List.{concat}
use Rattle.jf_path.specs.Checks.{first_of}
use Rattle.jf_hash.specs.Roots.{root}
use Rattle.jf_hash.specs.Maps.{apply}
use Rattle.jf_model.specs.Versions.{new_store, newest}
use Rattle.jf_model.specs.States.{State, state_when_opened}
use Rattle.jf_model.specs.declared.entries.Entry.{Entry}
use Rattle.jf_model.specs.Entries.{IsLegal, after, replay}
use Rattle.jf_model.specs.declared.entries.Landing.TheVariants as landing
use Rattle.jf_model.specs.declared.entries.Entry.TheVariants as entry
use Rattle.jf_text.specs.Words.{words, number, unhex}
use Rattle.jf_script.specs.Commands.{command_of, base_of}
use Rattle.jf_script.specs.Replies.{reply_text}
use Rattle.jf_script.specs.declared.reply.Reply.{Reply}
use Rattle.jf_script.specs.declared.reply.Refusal.TheVariants as refusal
use Rattle.jf_script.specs.declared.reply.Reply.TheVariants as reply
use Rattle.jf_answers.specs.Own.{Own, begun_session}
use Rattle.jf_answers.specs.Refusals.{refused_by}
use Rattle.jf_answers.specs.Answers.{Answer, answer, commit_answer, own_answer}
use Rattle.jf_answers.specs.OwnLines.{is_own_line}
use Rattle.jf_answers.specs.Runs.{answer_text}
use Rattle.jf_answers.specs.Explains.{answer_with, answered_with_floor, LineReply, IsAnswered, timeline_of, Explains, places_owned, IsSession}

-- a new store, and its root
abbrev pub start : State
start = state_when_opened new_store 1

abbrev pub empty_root : List ℕ
empty_root = root fin.empty

-- two sessions land empty batches, session 1 first
abbrev first : Entry
first = entry.Landed 1 1 (landing.Direct []) empty_root 3

abbrev second : Entry
second = entry.Landed 0 2 (landing.Direct []) empty_root 7

-- the map of a new store has no entry
pub none_there : fin.len (newest start.all) ≡ 0
none_there = len-empty _ _

-- if none of three causes holds, there is no refusal
none_refuses : (a b c : Bool) → a ≡ false → b ≡ false → c ≡ false → first_of ((a, refusal.Last) ∷ (b, refusal.Last) ∷ (c, refusal.Last) ∷ []) ≡ None
none_refuses false false false few low small = refl
none_refuses true b c few low small = absurd (cc)
none_refuses false true c few low small = absurd (cc)
none_refuses false false true few low small = absurd (cc)

-- the answer to `commit` over a map without entries
commit_done : (s : State) (own : Own) → nat_le (2 ^ 62) s.count ≡ false → nat_lt (2 ^ 64 - 2) (s.all.head + 1) ≡ false → fin.len (newest s.all) ≡ 0 → answer s own (codes "commit") ≡ commit_answer s own
unfolding answer command_of base_of words number unhex digits refused_by
commit_done s own few low none =
    let free = none_refuses (nat_le (2 ^ 62) s.count) (nat_lt (2 ^ 64 - 2) (s.all.head + 1)) (nat_lt (2 ^ 62) (fin.len (newest s.all))) few low (ap (λ n. nat_lt (2 ^ 62) n) none) in
    subst (λ o. elim o as (λ x. Answer) [ Some why ↦ own_answer (reply.No why) s own | None ↦ commit_answer s own ] ≡ commit_answer s own) (sym free) refl

pub commit_gives : (s : State) (own : Own) → nat_le (2 ^ 62) s.count ≡ false → nat_lt (2 ^ 64 - 2) (s.all.head + 1) ≡ false → fin.len (newest s.all) ≡ 0 → answer_with 0 s own (codes "commit") ≡ commit_answer s own
commit_gives s own few low none = ap (λ (a : Answer). answered_with_floor 0 s own a a.entry) (commit_done s own few low none)

first_legal : IsLegal start first
unfolding apply
first_legal = (omega arith, record { may = record { sorted = tt; keys = tt; values = tt }; small = omega (arith, none_there); next = refl; bounded = omega arith; rooted = refl })

second_legal : IsLegal (after first start) second
unfolding apply after
second_legal = (omega arith, record { may = record { sorted = tt; keys = tt; values = tt }; small = omega (arith, none_there); next = refl; bounded = omega arith; rooted = refl })

-- session 0 asks for the root between the two landings and then lands; session 1 lands, and then writes a line that is no command
abbrev scripts : List (List (List ℕ))
scripts = (codes "root head" ∷ codes "commit" ∷ []) ∷ (codes "commit" ∷ codes "?" ∷ []) ∷ []

abbrev pub said : ℕ → Reply → List ℕ
said n r = reply_text n r ++ []

abbrev looked : LineReply
looked = record { number = 1; text = said 1 (reply.Root empty_root); entry = None; own = begun_session 0 }

abbrev landed_second : LineReply
landed_second = record { number = 2; text = said 2 (reply.Commit 2 empty_root); entry = Some second; own = begun_session 0 }

abbrev landed_first : LineReply
landed_first = record { number = 1; text = said 1 (reply.Commit 1 empty_root); entry = Some first; own = begun_session 1 }

abbrev misspelt : LineReply
misspelt = record { number = 1; text = said 1 (reply.No refusal.Syntax); entry = None; own = begun_session 1 }

abbrev outputs : List (List ℕ)
outputs =
    concat (said 1 (reply.Root empty_root) ∷ said 2 (reply.Commit 2 empty_root) ∷ [])
    ∷ concat (said 1 (reply.Commit 1 empty_root) ∷ said 1 (reply.No refusal.Syntax) ∷ []) ∷ []

look : IsAnswered (timeline_of start (first ∷ second ∷ []) scripts) (begun_session 0) 0 (codes "root head") looked
unfolding answer command_of base_of words number unhex digits refused_by after replay apply is_own_line
look = record {
  rises = omega arith;
  within = omega arith;
  answered = inl (record { quiet = refl; text = refl; none = refl; own_after = refl; by_itself = λ h. absurd (cc) });
}

land_second : IsAnswered (timeline_of start (first ∷ second ∷ []) scripts) (begun_session 0) 1 (codes "commit") landed_second
unfolding answer command_of base_of words number unhex digits refused_by after replay apply
land_second =
    let gives = commit_gives (after first start) (begun_session 0) refl refl none_there in
    record {
      rises = omega arith;
      within = omega arith;
      answered = inr (record { event = second; later = omega arith; stands = refl; owned = refl; gives = record { same = ap (λ a. a.entry) gives; floor = tt }; text = sym (ap (answer_text 2) gives); kept = refl; own_after = sym (ap (λ a. a.own) gives) });
    }

land_first : IsAnswered (timeline_of start (first ∷ second ∷ []) scripts) (begun_session 1) 0 (codes "commit") landed_first
unfolding answer command_of base_of words number unhex digits refused_by after replay apply
land_first =
    let gives = commit_gives start (begun_session 1) refl refl none_there in
    record {
      rises = omega arith;
      within = omega arith;
      answered = inr (record { event = first; later = omega arith; stands = refl; owned = refl; gives = record { same = ap (λ a. a.entry) gives; floor = tt }; text = sym (ap (answer_text 1) gives); kept = refl; own_after = sym (ap (λ a. a.own) gives) });
    }

misspell : IsAnswered (timeline_of start (first ∷ second ∷ []) scripts) (begun_session 1) 1 (codes "?") misspelt
unfolding answer command_of base_of words number unhex digits refused_by after replay apply
misspell = record {
  rises = omega arith;
  within = omega arith;
  answered = inl (record { quiet = refl; text = refl; none = refl; own_after = refl; by_itself = λ h. refl });
}

-- what both sessions wrote is explained
both : Explains start (first ∷ second ∷ []) scripts outputs []
both = record {
  replies = (looked ∷ landed_second ∷ []) ∷ (landed_first ∷ misspelt ∷ []) ∷ [];
  explained = record {
    history = record { each = (first_legal, (second_legal, tt)); moments = (omega arith, (omega arith, tt)) };
    owners = (omega arith, (omega arith, tt));
    sessions = (
      record { replies = (look, (land_second, tt)); entries = inl refl },
      (record { replies = (land_first, (misspell, tt)); entries = inl refl }, tt),
    );
  };
  texts = refl;
}

-- session 1 may have landed, and run out of memory before it wrote the reply
cut_off : Explains start (first ∷ second ∷ []) scripts (concat (said 1 (reply.Root empty_root) ∷ said 2 (reply.Commit 2 empty_root) ∷ []) ∷ [] ∷ []) (1 ∷ [])
unfolding answer command_of base_of words number unhex digits refused_by after replay apply
cut_off = record {
  replies = (looked ∷ landed_second ∷ []) ∷ [] ∷ [];
  explained = record {
    history = record { each = (first_legal, (second_legal, tt)); moments = (omega arith, (omega arith, tt)) };
    owners = (omega arith, (omega arith, tt));
    sessions = (
      record { replies = (look, (land_second, tt)); entries = inl refl },
      (
        record {
          replies = tt;
          entries = inr (
            refl,
            record {
              line = codes "commit";
              next = refl;
              unwritten = landed_first;
              changes = let gives = commit_gives start (begun_session 1) refl refl none_there in
                  record { event = first; later = omega arith; stands = refl; owned = refl; gives = record { same = ap (λ a. a.entry) gives; floor = tt }; text = sym (ap (answer_text 1) gives); kept = refl; own_after = sym (ap (λ a. a.own) gives) };
              places = refl;
            },
          );
        },
        tt,
      ),
    );
  };
  texts = refl;
}

-- equal entries have each their own place
alike : places_owned 0 0 (entry.Retired 0 3 3 ∷ entry.Retired 1 3 3 ∷ entry.Retired 0 3 3 ∷ []) ≡ 1 ∷ 3 ∷ []
alike = refl

-- two replies can't report one landing
told_twice : (lines : List (List ℕ)) → IsSession (timeline_of start (first ∷ []) scripts) [] 1 lines (landed_first ∷ landed_first ∷ []) → ⊥
told_twice lines h = elim h.entries as (λ o. ⊥) [ inl same ↦ absurd (cc) | inr more ↦ absurd (cc (more.0)) ]

-- a landing that no reply reports isn't explained
told_never : (lines : List (List ℕ)) → IsSession (timeline_of start (first ∷ []) scripts) [] 1 lines [] → ⊥
told_never lines h = elim h.entries as (λ o. ⊥) [ inl same ↦ absurd (cc) | inr more ↦ absurd (cc (more.0)) ]

-- a landing that no session made isn't explained
by_nobody : (outputs : List (List ℕ)) (out_of_memory : List ℕ) → Explains start (first ∷ []) ((codes "commit" ∷ []) ∷ []) outputs out_of_memory → ⊥
by_nobody outputs out_of_memory h = let owner = h.explained.owners.0 in absurd (omega arith)
