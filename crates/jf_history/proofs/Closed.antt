-- The history of a store that was closed explains its sessions.
use mathlib.Core.Option.{some, some-ne-none}
use Rattle.std.proofs.Common.{◌≡◌, ◌⊎◌, inl, inr, ℕ, zero, suc, ◌+◌, ◌<◌, false, cond, Option, Some, None, IfSome, List, [], ◌∷◌, ◌++◌, filter_map, take, drop, length, refl, sym, ap, ◌∙◌, subst, arith, append-nil}
use Rattle.std.specs.Prelude.{is_some, slice_get}
use Rattle.std.proofs.lemmas.List.{length-map, length-take-le}
use Rattle.std.proofs.Math.Seq.{drop-append_seam}
use Rattle.std.specs.List.{AllByRecursion}
use Rattle.jf_model.specs.States.{State}
use Rattle.jf_model.specs.Entries.{after, replay, owner_of, IsHistory}
use Rattle.jf_model.specs.declared.entries.Entry.{Entry}
use Rattle.jf_model.specs.declared.entries.Entry.TheVariants as entry
use Rattle.jf_turn.specs.Lists.{HasElement, StartsWith}
use Rattle.jf_engine.specs.Engines.{Engine}
use Rattle.jf_turn.proofs.Lists.{has_append, has_cons, starts_self}
use Rattle.jf_store.specs.declared.event.Event.{Event}
use Rattle.jf_store.specs.declared.event.Event.TheVariants.{Done, Mark}
use Rattle.jf_store.specs.Events.{pass_named_by, entries_among, attempt_of, is_marked}
use Rattle.jf_store.specs.Starts.{Start}
use Rattle.jf_store.specs.Ledgers.{MarkIsLast, state_after_events}
use Rattle.jf_store.specs.Floors.{IsMet, AreMet}
use Rattle.jf_store.specs.Passes.{Store, Pass, OthersAlone}
use Rattle.jf_store.specs.Closing.{IsClosed, WasAnnounced}
use Rattle.jf_store.proofs.EventLaws.{entries_of-append, entries_of-mark, attempt_of-append}
use Rattle.jf_store.proofs.ClosingLaws.{starts_further}
use Rattle.jf_answers.specs.Own.{Own, begun_session}
use Rattle.jf_answers.specs.OwnLines.{pin_of}
use Rattle.jf_answers.specs.Explains.{Timeline, IsAmong, LineReply, AreAnswered, IsQuietReply, HasAnsweredChange, GivesEntry, GaveOneMore, IsSession, AreSessions, IsAttempt, next_line, own_after_replies, seen_after_replies, places_owned, places_in_reply, pins_of, timeline_of}
use Rattle.jf_history.specs.Sessions.{Session, HaveMet, FollowsLine, IsTry, HasDoneNothing, seen_by, timeline}
use Rattle.jf_history.specs.Runs.{EndsBy, IsAtRest}
use Rattle.jf_history.specs.Serving.{SessionOutcome, LosesReplies, IsServed, AreServed, FailedIn, scripts_of, replies_of, passes_of}
use Rattle.jf_history.specs.declared.end.End.{End}
use Rattle.jf_history.specs.declared.end.End.TheVariants as end
use Rattle.jf_history.specs.Laws.{ClosedExplains, ClosedTries, ClosedBlames}
use Rattle.jf_history.proofs.Announced.{among-front, among-back, named-front, named-at}
use Rattle.jf_history.proofs.Fronts.{AreMet-front, AreAnswered-front, answers-at}
use Rattle.jf_history.proofs.Places.{places_on}
use Rattle.jf_history.proofs.Later.{stay}

-- ---- floors and lines

one_weaker : (P Q : ℕ × ℕ → Type 0) → ((pin : ℕ × ℕ) → P pin → Q pin) → (s : State) (e : Entry) → IsMet P s e → IsMet Q s e
one_weaker P Q f s (entry.Made owner fork parent batch r) h = tt
one_weaker P Q f s (entry.Landed owner version how r moment) h = tt
one_weaker P Q f s (entry.Dropped owner fork) h = tt
one_weaker P Q f s (entry.Retired owner bound floor) h = elim h as (λ o. IsMet Q s (entry.Retired owner bound floor)) [
  | inl e ↦ inl e
  | inr x ↦ inr (x.0, f x.0 x.1, x.2, x.3)
]
one_weaker P Q f s (entry.Compacted owner generation) h = tt

AreMet-weaker : (P Q : ℕ × ℕ → Type 0) → ((pin : ℕ × ℕ) → P pin → Q pin) → (s : State) (xs : List Event) → AreMet P s xs → AreMet Q s xs
AreMet-weaker P Q f s [] h = tt
AreMet-weaker P Q f s (Done e ∷ xs) h = (one_weaker P Q f s e h.0, AreMet-weaker P Q f (after e s) xs h.1)
AreMet-weaker P Q f s (Mark pass e ∷ xs) h = (one_weaker P Q f s e h.0, AreMet-weaker P Q f s xs h.1)

have_seen : (pins : List ℕ) (start : Start) (events seen : List Event) → StartsWith events seen → HaveMet pins start events → HaveMet pins start seen
have_seen pins start events seen begins h = AreMet-front (λ pin. IsAmong pins pin.1) start.state seen begins.0 (subst (HaveMet pins start) begins.1 h)

lines_longer : (h : Timeline) (own : Own) (seen : ℕ) (ls more : List (List ℕ)) (rs : List LineReply) → AreAnswered h own seen ls rs → AreAnswered h own seen (ls ++ more) rs
lines_longer h own seen ls more [] a = tt
lines_longer h own seen [] more (r ∷ rs) a = absurd a
lines_longer h own seen (l ∷ ls) more (r ∷ rs) a = (a.0, lines_longer h r.own r.number ls more rs a.1)

-- ---- how a session ended

-- the pass in the end, against the one after the lines answered: it has seen more, but no entry of its own, and announced at most what the next line names
record Rests (mid last : Pass) (next : Option (List ℕ)) : Type 0 where
  begins : StartsWith last.seen mid.seen
  number : last.number ≡ mid.number
  announced : (version : ℕ) → HasElement last.place.announced version → HasElement mid.place.announced version ⊎ ((line : List ℕ) × (next ≡ Some line) × (pin_of line ≡ Some version))
  places : places_owned mid.number 0 (seen_by last) ≡ places_owned mid.number 0 (seen_by mid)

same_rests : (mid last : Session) (next : Option (List ℕ)) → last ≡ mid → Rests mid.pass last.pass next
same_rests mid last next same = subst (λ (s : Session). Rests mid.pass s.pass next) (sym same) (record { begins = starts_self mid.pass.seen; number = refl; announced = λ version h. inl h; places = refl })

follows_announced : (mid last : Pass) (line : List ℕ) (next : Option (List ℕ)) → next ≡ Some line → FollowsLine mid last line → (version : ℕ) → HasElement last.place.announced version
    → HasElement mid.place.announced version ⊎ ((line : List ℕ) × (next ≡ Some line) × (pin_of line ≡ Some version))
follows_announced mid last line next is f version there = elim (f.announced version there) as (λ o. HasElement mid.place.announced version ⊎ ((line : List ℕ) × (next ≡ Some line) × (pin_of line ≡ Some version))) [
  | inl before ↦ inl before
  | inr named ↦ inr (line, is, named)
]

idle_rests : (mid last : Session) (line : List ℕ) (next : Option (List ℕ)) → next ≡ Some line → HasDoneNothing mid last line → Rests mid.pass last.pass next
idle_rests mid last line next is idle = record {
  begins = idle.follows.begins;
  number = ap (λ (p : Pass). p.number) idle.follows.same;
  announced = follows_announced mid.pass last.pass line next is idle.follows;
  places = places_on mid.pass last.pass.seen idle.follows.begins idle.others;
}

at_rest : (mid last : Session) (next : Option (List ℕ)) → IsAtRest mid last next → Rests mid.pass last.pass next
at_rest mid last None h = same_rests mid last None h
at_rest mid last (Some line) h = idle_rests mid last line (Some line) refl h

try_rests : (start : Start) (mid last : Session) (line : List ℕ) (next : Option (List ℕ)) → IsTry start mid last line → Rests mid.pass last.pass next
try_rests start mid last line next t =
    let seen : last.pass.seen ≡ t.before ++ Mark mid.pass.number t.attempt ∷ [] = ap (λ (p : Pass). p.seen) t.sees.last in
    let place : last.pass.place ≡ mid.pass.place = ap (λ (p : Pass). p.place) t.sees.last in
    record {
      begins = starts_further last.pass.seen t.before mid.pass.seen (Mark mid.pass.number t.attempt ∷ [], seen) t.sees.begins;
      number = ap (λ (p : Pass). p.number) t.sees.last;
      announced = λ version h. inl (subst (λ (v : _). HasElement v.announced version) place h);
      places = ap (λ (xs : List Event). places_owned mid.pass.number 0 (entries_among xs)) seen ∙ ap (places_owned mid.pass.number 0) (entries_of-mark t.before mid.pass.number t.attempt) ∙ places_on mid.pass t.before t.sees.begins t.sees.others;
    }

ends_rest : (e : End) (start : Start) (mid last : Session) (next : Option (List ℕ)) → EndsBy e start mid last next → Rests mid.pass last.pass next
ends_rest end.Done start mid last next h = same_rests mid last next h.0
ends_rest end.ReadFault start mid last next h = same_rests mid last next h.0
ends_rest end.WriteFault start mid last next h = at_rest mid last next h
ends_rest end.DiskFault start mid last next h = try_rests start mid last h.0 next h.2
ends_rest end.Broken start mid last next h = idle_rests mid last h.0 next h.1 h.2.idle
ends_rest end.Memory start mid last next h = at_rest mid last next h

-- ---- what a session announced

module _ (store : Store) (out_of_memory : List ℕ) (n : ℕ) (s : SessionOutcome) (served : IsServed store out_of_memory n s) where
  mid_named : (version : ℕ) → HasElement served.mid.pass.place.announced version → IsAmong (filter_map pin_of s.script) version
  mid_named version there = elim (served.answered.announced version there) as (λ o. IsAmong (filter_map pin_of s.script) version) [
    | inl before ↦ absurd (some-ne-none version (sym before.1))
    | inr named ↦ subst (λ (ls : List (List ℕ)). IsAmong (filter_map pin_of ls) version) (sym served.first) (named-front served.done served.rest version named)
  ]

  next_there : (line : List ℕ) → served.next ≡ Some line → next_line s.script served.had ≡ Some line
  next_there line is = subst (λ (o : Option (List ℕ)). IfSome o (λ l. next_line s.script served.had ≡ Some l)) is served.next_is

  last_named : (version : ℕ) → HasElement served.last.pass.place.announced version → IsAmong (filter_map pin_of s.script) version
  last_named version there =
      let r = ends_rest s.how store.start served.mid served.last served.next served.ends in
      elim (r.announced version there) as (λ o. IsAmong (filter_map pin_of s.script) version) [
        | inl before ↦ mid_named version before
        | inr x ↦ named-at s.script (length served.had) x.0 version (next_there x.0 x.1) x.2
      ]

  pub pass_named : (version : ℕ) → HasElement s.pass.place.announced version → IsAmong (filter_map pin_of s.script) version
  pass_named version there = last_named version (subst (λ (p : Pass). HasElement p.place.announced version) served.pass_is there)

all_named : (store : Store) (out_of_memory : List ℕ) (n : ℕ) (ss : List SessionOutcome) → AreServed store out_of_memory n ss → (p : Pass) → HasElement (passes_of ss) p → (version : ℕ) → HasElement p.place.announced version → IsAmong (pins_of (scripts_of ss)) version
all_named store out_of_memory n [] h p there version has = absurd (some-ne-none p (sym there.1))
all_named store out_of_memory n (s ∷ ss) h p there version has = elim (has_cons s.pass (passes_of ss) p there) as (λ o. IsAmong (filter_map pin_of s.script ++ pins_of (scripts_of ss)) version) [
  | inl same ↦ among-front (filter_map pin_of s.script) (pins_of (scripts_of ss)) version (pass_named store out_of_memory n s h.0 version (subst (λ (q : Pass). HasElement q.place.announced version) (sym same) has))
  | inr later ↦ among-back (filter_map pin_of s.script) (pins_of (scripts_of ss)) version (all_named store out_of_memory (n + 1) ss h.1 p later version has)
]

closed_met : (store : Store) (out_of_memory : List ℕ) (ss : List SessionOutcome) (events : List Event) → AreServed store out_of_memory 0 ss → AreMet (WasAnnounced (passes_of ss)) store.start.state events → HaveMet (pins_of (scripts_of ss)) store.start events
closed_met store out_of_memory ss events served met =
    AreMet-weaker (WasAnnounced (passes_of ss)) (λ pin. IsAmong (pins_of (scripts_of ss)) pin.1)
    (λ pin x. all_named store out_of_memory 0 ss served x.0 x.1 pin.1 x.3) store.start.state events met

-- ---- one session

module _ (store : Store) (events : List Event) (out_of_memory pins : List ℕ) (met : HaveMet pins store.start events) where
  abbrev h : Timeline
  h = timeline store.start pins events

  longer : (seen : List Event) (begins : StartsWith events seen) → record { start = store.start.state; entries = entries_among seen ++ entries_among begins.0; pins = pins } ≡ h
  longer seen begins = ap (λ (es : List Entry). record { start = store.start.state; entries = es; pins = pins }) (sym (ap entries_among begins.1 ∙ entries_of-append seen begins.0))

  module _ (n : ℕ) (s : SessionOutcome) (served : IsServed store out_of_memory n s) (begins : StartsWith events s.pass.seen) (others : OthersAlone s.pass events) where
    last_begins : StartsWith events served.last.pass.seen
    last_begins = subst (λ (p : Pass). StartsWith events p.seen) served.pass_is begins

    numbered : served.mid.pass.number ≡ n
    numbered = ap (λ (p : Pass). p.number) served.answered.same

    abbrev rests : Rests served.mid.pass served.last.pass served.next
    rests = ends_rest s.how store.start served.mid served.last served.next served.ends

    number_last : served.last.pass.number ≡ n
    number_last = rests.number ∙ numbered

    mid_begins : StartsWith events served.mid.pass.seen
    mid_begins = starts_further events served.last.pass.seen served.mid.pass.seen last_begins rests.begins

    -- all replies that the session had
    all_answered : AreAnswered h (begun_session n) 0 s.script served.had
    all_answered =
        subst (λ (ls : List (List ℕ)). AreAnswered h (begun_session n) 0 ls served.had) (sym served.first)
        (lines_longer h (begun_session n) 0 served.done served.rest served.had
        (subst (λ (t : Timeline). AreAnswered t (begun_session n) 0 served.done served.had) (longer served.mid.pass.seen mid_begins)
        (stay store.start.state pins (seen_by served.mid.pass) (entries_among mid_begins.0) (begun_session n) 0 served.done served.had
        (served.answered.answered pins (have_seen pins store.start events served.mid.pass.seen mid_begins met)))))

    all_places : places_owned n 0 (entries_among events) ≡ places_in_reply served.had
    all_places =
        subst (λ (k : ℕ). places_owned k 0 (entries_among events) ≡ places_owned k 0 (seen_by served.last.pass)) number_last
        (places_on served.last.pass events last_begins (subst (λ (p : Pass). OthersAlone p events) served.pass_is others))
        ∙ subst (λ (k : ℕ). places_owned k 0 (seen_by served.last.pass) ≡ places_owned k 0 (seen_by served.mid.pass)) numbered rests.places ∙ served.answered.places

    abbrev Result : List LineReply → Type 0
    Result rs = (places_owned n 0 (entries_among events) ≡ places_in_reply rs) ⊎ (IsAmong out_of_memory n × GaveOneMore h n s.script rs)

    changes_only : (own : Own) (seen : ℕ) (line : List ℕ) (r : LineReply) (e : Entry) → IsQuietReply h own seen line r ⊎ HasAnsweredChange h own seen line r → r.entry ≡ Some e → HasAnsweredChange h own seen line r
    changes_only own seen line r e (inl l) given = absurd (let x : None ≡ Some e = sym l.none ∙ given in cc)
    changes_only own seen line r e (inr c) given = c

    -- the first missing reply may be to a line that gave an entry
    missing : IsAmong out_of_memory n → (l : LosesReplies served.had s.replies) → Result (take l.count served.had)
    missing among l =
        let a = answers-at h (begun_session n) 0 l.count s.script served.had all_answered l.within in
        let places = all_places ∙ a.places l.quiet in
        let many : length (take l.count served.had) ≡ l.count = length-take-le l.count served.had (let w = l.within in omega arith) in
        elim a.reply.entry as (λ (o : Option Entry). a.reply.entry ≡ o → Result (take l.count served.had)) [
          | None ↦ λ none. inl (places ∙ ap (λ (o : Option Entry). places_in_reply (take l.count served.had) ++ cond (is_some o) (a.reply.number ∷ []) []) none ∙ append-nil (places_in_reply (take l.count served.had)))
          | Some e ↦ λ given. inr (
            among,
            record {
              line = a.line;
              next = ap (slice_get s.script) many ∙ a.line_at;
              unwritten = a.reply;
              changes = changes_only (own_after_replies (begun_session n) (take l.count served.had)) (seen_after_replies 0 (take l.count served.had)) a.line a.reply e a.answers.answered given;
              places = places ∙ ap (λ (o : Option Entry). places_in_reply (take l.count served.had) ++ cond (is_some o) (a.reply.number ∷ []) []) given;
            },
          )
        ] refl

    pub session_of : IsSession h out_of_memory n s.script s.replies
    session_of = elim served.told as (λ o. IsSession h out_of_memory n s.script s.replies) [
      | inl same ↦ record {
        replies = subst (λ (rs : List LineReply). AreAnswered h (begun_session n) 0 s.script rs) (sym same) all_answered;
        entries = inl (all_places ∙ ap places_in_reply (sym same));
      }
      | inr lost ↦ record {
        replies = subst (λ (rs : List LineReply). AreAnswered h (begun_session n) 0 s.script rs) (sym lost.2.told_are) (AreAnswered-front h (begun_session n) 0 lost.2.count s.script served.had all_answered);
        entries = subst Result (sym lost.2.told_are) (missing lost.1 lost.2);
      }
    ]

-- ---- all sessions

sessions_of : (store : Store) (events : List Event) (out_of_memory pins : List ℕ) (met : HaveMet pins store.start events) (n : ℕ) (ss : List SessionOutcome) → AreServed store out_of_memory n ss
    → ((p : Pass) → HasElement (passes_of ss) p → StartsWith events p.seen) → ((p : Pass) → HasElement (passes_of ss) p → OthersAlone p events) → AreSessions (timeline store.start pins events) out_of_memory n (scripts_of ss) (replies_of ss)
sessions_of store events out_of_memory pins met n [] h seen others = tt
sessions_of store events out_of_memory pins met n (s ∷ ss) h seen others = (
  session_of store events out_of_memory pins met n s h.0 (seen s.pass (0, refl)) (others s.pass (0, refl)),
  sessions_of store events out_of_memory pins met (n + 1) ss h.1 (λ p has. seen p (suc has.0, has.1)) (λ p has. others p (suc has.0, has.1)),
)

owners_of : (bound : ℕ) (events : List Event) → AllByRecursion (λ x. pass_named_by x < bound) events → AllByRecursion (λ e. owner_of e < bound) (entries_among events)
owners_of bound [] h = tt
owners_of bound (Done e ∷ xs) h = (h.0, owners_of bound xs h.1)
owners_of bound (Mark pass e ∷ xs) h = owners_of bound xs h.1

pub closed_explains : ClosedExplains
closed_explains store ss out_of_memory entries engine passes closed served =
    let met = closed_met store out_of_memory ss closed.events served closed.met in
    let same = sym closed.entries_are in
    let many : store.start.passes ≡ length (scripts_of ss) = passes ∙ sym (length-map ss (λ (s : SessionOutcome). s.script)) in
    record {
      history = subst (IsHistory store.start.state) same closed.history.history;
      owners = subst (λ (es : List Entry). AllByRecursion (λ e. owner_of e < length (scripts_of ss)) es) same
          (subst (λ (bound : ℕ). AllByRecursion (λ e. owner_of e < bound) (entries_among closed.events)) many (owners_of store.start.passes closed.events closed.history.named));
      sessions = subst (λ (es : List Entry). AreSessions (timeline_of store.start.state es (scripts_of ss)) out_of_memory 0 (scripts_of ss) (replies_of ss)) same
          (sessions_of store closed.events out_of_memory (pins_of (scripts_of ss)) met 0 ss served closed.seen closed.others);
    }

-- ---- where the disk failed

served_at : (store : Store) (out_of_memory : List ℕ) (n : ℕ) (xs : List SessionOutcome) (s : SessionOutcome) (ys : List SessionOutcome) → AreServed store out_of_memory n (xs ++ s ∷ ys) → IsServed store out_of_memory (n + length xs) s
served_at store out_of_memory n [] s ys h = let e : n ≡ n + 0 = omega arith in subst (λ (k : ℕ). IsServed store out_of_memory k s) e h.0
served_at store out_of_memory n (x ∷ xs) s ys h =
    let far : n + 1 + length xs ≡ n + length (x ∷ xs) = omega arith in
    subst (λ (k : ℕ). IsServed store out_of_memory k s) far (served_at store out_of_memory (n + 1) xs s ys h.1)

pub pass_there : (xs : List SessionOutcome) (s : SessionOutcome) (ys : List SessionOutcome) → HasElement (passes_of (xs ++ s ∷ ys)) s.pass
pass_there [] s ys = (0, refl)
pass_there (x ∷ xs) s ys = let r = pass_there xs s ys in (suc r.0, r.1)

none_later : (s : State) (xs : List Event) (pass : ℕ) (e : Entry) (rest : List Event) → MarkIsLast s ((xs ++ Mark pass e ∷ []) ++ rest) → is_marked xs ≡ false → rest ≡ []
none_later s [] pass e rest m none = m.0
none_later s (Done x ∷ xs) pass e rest m none = none_later s xs pass e rest m none
none_later s (Mark p x ∷ xs) pass e rest m none = absurd (cc)

module _ (store : Store) (events : List Event) (out_of_memory pins : List ℕ) (entries : List Entry) (entries_are : entries ≡ entries_among events) (met : HaveMet pins store.start events) (marked : MarkIsLast (state_after_events store.start events) events)
    (n : ℕ) (s : SessionOutcome) (served : IsServed store out_of_memory n s) (begins : StartsWith events s.pass.seen) (fault : s.how ≡ end.DiskFault) where
  abbrev Tried : Type 0
  Tried = (e : Entry) × (attempt_of events ≡ Some e) × IsAttempt (record { start = store.start.state; entries = entries; pins = pins }) n s.script s.replies e

  told_all : s.replies ≡ served.had
  told_all = elim served.told as (λ o. s.replies ≡ served.had) [
    | inl same ↦ same
    | inr lost ↦ absurd (let both : end.DiskFault ≡ end.Memory = sym fault ∙ lost.0 in cc)
  ]

  tried_at : (line : List ℕ) → served.next ≡ Some line → IsTry store.start served.mid served.last line → Tried
  tried_at line next t =
      let seen : served.last.pass.seen ≡ t.before ++ Mark served.mid.pass.number t.attempt ∷ [] = ap (λ (p : Pass). p.seen) t.sees.last in
      let front : StartsWith events served.last.pass.seen = subst (λ (p : Pass). StartsWith events p.seen) served.pass_is begins in
      let split : events ≡ (t.before ++ Mark served.mid.pass.number t.attempt ∷ []) ++ front.0 = front.1 ∙ ap (λ xs. xs ++ front.0) seen in
      let rest = none_later (state_after_events store.start events) t.before served.mid.pass.number t.attempt front.0 (subst (MarkIsLast (state_after_events store.start events)) split marked) t.sees.unmarked in
      let whole : events ≡ t.before ++ Mark served.mid.pass.number t.attempt ∷ [] =
      split ∙ ap (λ xs. (t.before ++ Mark served.mid.pass.number t.attempt ∷ []) ++ xs) rest ∙ append-nil (t.before ++ Mark served.mid.pass.number t.attempt ∷ []) in
      let same : entries_among t.before ≡ entries = sym (entries_are ∙ ap entries_among whole ∙ entries_of-mark t.before served.mid.pass.number t.attempt) in
      let gives = t.gives pins (have_seen pins store.start events served.last.pass.seen front met) in (
        t.attempt,
        ap attempt_of whole ∙ attempt_of-append t.before (Mark served.mid.pass.number t.attempt ∷ []) t.sees.unmarked,
        record {
          line = line;
          next = ap (next_line s.script) told_all ∙ next_there store out_of_memory n s served line next;
          gives =
              subst (λ (o : Own). GivesEntry (record { start = store.start.state; entries = entries; pins = pins }) (replay store.start.state entries) o line t.attempt) (served.answered.own ∙ ap (own_after_replies (begun_session n)) (sym told_all))
              (subst (λ (es : List Entry). GivesEntry (record { start = store.start.state; entries = es; pins = pins }) (replay store.start.state es) served.mid.own line t.attempt) same gives);
        },
      )

  pub tried_of : Tried
  tried_of = let x = subst (λ (e : End). EndsBy e store.start served.mid served.last served.next) fault served.ends in tried_at x.0 x.1 x.2

pub closed_tries : ClosedTries
closed_tries store before after s out_of_memory entries engine passes closed served fault =
    let at : 0 + length before ≡ length before = omega arith in
    let one = subst (λ (k : ℕ). IsServed store out_of_memory k s) at (served_at store out_of_memory 0 before s after served) in
    tried_of store closed.events out_of_memory (pins_of (scripts_of (before ++ s ∷ after))) entries closed.entries_are (closed_met store out_of_memory (before ++ s ∷ after) closed.events served closed.met) closed.history.marked
    (length before) s one (closed.seen s.pass (pass_there before s after)) fault

-- ---- whose attempt it is

others_rest : (p : Pass) (events : List Event) (begins : StartsWith events p.seen) → OthersAlone p events → (x : Event) → HasElement begins.0 x → pass_named_by x ≡ p.number → ⊥
others_rest p events begins others x there named =
    let after : drop (length p.seen) events ≡ begins.0 = ap (drop (length p.seen)) begins.1 ∙ drop-append_seam p.seen begins.0 in
    others x (subst (λ (xs : List Event). HasElement xs x) (sym after) there) named

-- an event that names the pass is one that it has seen
own_seen : (p : Pass) (events : List Event) (begins : StartsWith events p.seen) → OthersAlone p events → (x : Event) → HasElement events x → pass_named_by x ≡ p.number → HasElement p.seen x
own_seen p events begins others x there named = elim (has_append p.seen begins.0 x (subst (λ (xs : List Event). HasElement xs x) begins.1 there)) as (λ o. HasElement p.seen x) [
  | inl seen ↦ seen
  | inr later ↦ absurd (others_rest p events begins others x later named)
]

unmarked_none : (xs : List Event) (pass : ℕ) (e : Entry) → is_marked xs ≡ false → HasElement xs (Mark pass e) → ⊥
unmarked_none [] pass e none there = some-ne-none (Mark pass e) (sym there.1)
unmarked_none (Done y ∷ xs) pass e none there = elim (has_cons (Done y) xs (Mark pass e) there) as (λ o. ⊥) [
  | inl same ↦ absurd (cc)
  | inr later ↦ unmarked_none xs pass e none later
]
unmarked_none (Mark p y ∷ xs) pass e none there = absurd (cc)

idle_unmarked : (mid last : Session) (line : List ℕ) (pass : ℕ) (e : Entry) → HasDoneNothing mid last line → is_marked mid.pass.seen ≡ false → mid.pass.number ≡ pass → HasElement last.pass.seen (Mark pass e) → ⊥
idle_unmarked mid last line pass e idle none number there =
    unmarked_none mid.pass.seen pass e none (own_seen mid.pass last.pass.seen idle.follows.begins idle.others (Mark pass e) there (sym number))

same_unmarked : (mid last : Session) (pass : ℕ) (e : Entry) → last ≡ mid → is_marked mid.pass.seen ≡ false → HasElement last.pass.seen (Mark pass e) → ⊥
same_unmarked mid last pass e same none there = unmarked_none mid.pass.seen pass e none (subst (λ (s : Session). HasElement s.pass.seen (Mark pass e)) same there)

rest_unmarked : (mid last : Session) (next : Option (List ℕ)) (pass : ℕ) (e : Entry) → IsAtRest mid last next → is_marked mid.pass.seen ≡ false → mid.pass.number ≡ pass → HasElement last.pass.seen (Mark pass e) → ⊥
rest_unmarked mid last None pass e rest none number there = same_unmarked mid last pass e rest none there
rest_unmarked mid last (Some line) pass e rest none number there = idle_unmarked mid last line pass e rest none number there

-- a session whose pass set the mark ended by a fault of the disk
fault_of : (how : End) (start : Start) (mid last : Session) (next : Option (List ℕ)) (pass : ℕ) (e : Entry) → EndsBy how start mid last next → is_marked mid.pass.seen ≡ false → mid.pass.number ≡ pass
    → HasElement last.pass.seen (Mark pass e) → how ≡ end.DiskFault
fault_of end.Done start mid last next pass e ends none number there = absurd (same_unmarked mid last pass e ends.0 none there)
fault_of end.ReadFault start mid last next pass e ends none number there = absurd (same_unmarked mid last pass e ends.0 none there)
fault_of end.WriteFault start mid last next pass e ends none number there = absurd (rest_unmarked mid last next pass e ends none number there)
fault_of end.DiskFault start mid last next pass e ends none number there = refl
fault_of end.Broken start mid last next pass e ends none number there = absurd (idle_unmarked mid last ends.0 pass e ends.2.idle none number there)
fault_of end.Memory start mid last next pass e ends none number there = absurd (rest_unmarked mid last next pass e ends none number there)

served_fault : (store : Store) (events : List Event) (out_of_memory : List ℕ) (n : ℕ) (s : SessionOutcome) (e : Entry) → IsServed store out_of_memory n s → StartsWith events s.pass.seen → OthersAlone s.pass events → HasElement events (Mark n e) → s.how ≡ end.DiskFault
served_fault store events out_of_memory n s e served begins others there =
    let numbered : served.mid.pass.number ≡ n = ap (λ (p : Pass). p.number) served.answered.same in
    let front = subst (λ (p : Pass). StartsWith events p.seen) served.pass_is begins in
    let alone = subst (λ (p : Pass). OthersAlone p events) served.pass_is others in
    let number : served.last.pass.number ≡ n = (ends_rest s.how store.start served.mid served.last served.next served.ends).number ∙ numbered in
    fault_of s.how store.start served.mid served.last served.next n e served.ends served.answered.unmarked numbered (own_seen served.last.pass events front alone (Mark n e) there (sym number))

-- the mark of an attempt, and its pass
mark_of : (xs : List Event) (e : Entry) → attempt_of xs ≡ Some e → (pass : ℕ) × HasElement xs (Mark pass e)
mark_of [] e is = absurd (cc)
mark_of (Done x ∷ xs) e is = let r = mark_of xs e is in (r.0, (suc r.1.0, r.1.1))
mark_of (Mark pass x ∷ xs) e is = let same : x ≡ e = cc in (pass, (0, ap (λ y. some (Mark pass y)) same))

named_at_most : (bound : ℕ) (xs : List Event) (x : Event) → AllByRecursion (λ y. pass_named_by y < bound) xs → HasElement xs x → pass_named_by x < bound
named_at_most bound [] x h there = absurd (some-ne-none x (sym there.1))
named_at_most bound (y ∷ xs) x h there = elim (has_cons y xs x there) as (λ o. pass_named_by x < bound) [
  | inl same ↦ subst (λ (z : Event). pass_named_by z < bound) same h.0
  | inr later ↦ named_at_most bound xs x h.1 later
]

record Around (ss : List SessionOutcome) (n : ℕ) : Type 0 where
  before : List SessionOutcome
  here : SessionOutcome
  after : List SessionOutcome
  split : ss ≡ before ++ here ∷ after
  many : length before ≡ n

around : (ss : List SessionOutcome) (n : ℕ) → n < length ss → Around ss n
around [] n lt = absurd (omega arith)
around (s ∷ ss) zero lt = record { before = []; here = s; after = ss; split = refl; many = refl }
around (s ∷ ss) (suc n) lt =
    let r = around ss n (omega arith) in
    record { before = s ∷ r.before; here = r.here; after = r.after; split = ap (λ xs. s ∷ xs) r.split; many = (let m = r.many in omega arith) }

module _ (store : Store) (ss : List SessionOutcome) (out_of_memory : List ℕ) (entries : List Entry) (engine : Engine) (e : Entry) (closed : IsClosed store.start (passes_of ss) entries engine) (served : AreServed store out_of_memory 0 ss)
    (is : attempt_of closed.events ≡ Some e) (pass : ℕ) (there : HasElement closed.events (Mark pass e)) (a : Around ss pass) where
  one_served : IsServed store out_of_memory (length a.before) a.here
  one_served =
      let at : 0 + length a.before ≡ length a.before = omega arith in
      subst (λ (k : ℕ). IsServed store out_of_memory k a.here) at (served_at store out_of_memory 0 a.before a.here a.after (subst (AreServed store out_of_memory 0) a.split served))

  here_passes : HasElement (passes_of ss) a.here.pass
  here_passes = subst (λ (xs : List SessionOutcome). HasElement (passes_of xs) a.here.pass) (sym a.split) (pass_there a.before a.here a.after)

  here_fault : a.here.how ≡ end.DiskFault
  here_fault = served_fault store closed.events out_of_memory (length a.before) a.here e one_served (closed.seen a.here.pass here_passes) (closed.others a.here.pass here_passes)
      (subst (λ (k : ℕ). HasElement closed.events (Mark k e)) (sym a.many) there)

  failed_in : FailedIn store.start.state entries ss e
  failed_in =
      let tried = tried_of store closed.events out_of_memory (pins_of (scripts_of ss)) entries closed.entries_are (closed_met store out_of_memory ss closed.events served closed.met) closed.history.marked
      (length a.before) a.here one_served (closed.seen a.here.pass here_passes) here_fault in
      let both : Some tried.0 ≡ Some e = sym tried.1 ∙ is in
      let same : tried.0 ≡ e = cc in
      record {
        before = a.before;
        failed = a.here;
        after = a.after;
        split = a.split;
        fault = here_fault;
        attempt = subst (IsAttempt (timeline_of store.start.state entries (scripts_of ss)) (length a.before) a.here.script a.here.replies) same tried.2;
      }

pub closed_blames : ClosedBlames
closed_blames store ss out_of_memory entries engine e passes closed served is =
    let m = mark_of closed.events e is in
    let below = named_at_most store.start.passes closed.events (Mark m.0 e) closed.history.named m.1 in
    failed_in store ss out_of_memory entries engine e closed served is m.0 m.1 (around ss m.0 (omega arith))
