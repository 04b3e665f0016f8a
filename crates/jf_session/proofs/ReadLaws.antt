-- What commands that read are answered.
use Rattle.std.specs.Prelude.{Result, Ok, Err}
use Rattle.std.proofs.Common.{◌≡◌, ◌∙◌, inl, inr, ℕ, Bool, true, false, IsTrue, Option, Some, None, List, [], ◌++◌, refl, sym, ap, subst, append-nil}
use Rattle.jf_path.specs.Checks.{first_of}
use Rattle.jf_hash.specs.Maps.{Batch, Map}
use Rattle.jf_model.specs.Versions.{newest}
use Rattle.jf_model.specs.Forks.{fork_map}
use Rattle.jf_model.specs.States.{State}
use Rattle.jf_store.specs.declared.fault.StoreFault.{StoreFault}
use Rattle.jf_store.specs.declared.look.Look.{Look}
use Rattle.jf_store.specs.Events.{is_marked}
use Rattle.jf_store.specs.Starts.{Start}
use Rattle.jf_store.specs.Ledgers.{state_after_events}
use Rattle.jf_store.specs.Looks.{IsLook}
use Rattle.jf_store.specs.Refusals.{StoreFaults, IsRefusal, broken_faults, look_faults}
use Rattle.jf_store.specs.Passes.{Pass, Sees}
use Rattle.jf_store.proofs.FaultsInTurn.{first_of-before, first_of-after}
use Rattle.jf_script.specs.declared.command.Base.{Base}
use Rattle.jf_script.specs.declared.command.Question.{Question}
use Rattle.jf_script.specs.declared.command.ForkQuestion.{ForkQuestion}
use Rattle.jf_script.specs.declared.command.Command.{Command}
use Rattle.jf_script.specs.declared.command.Command.TheVariants as command
use Rattle.jf_script.specs.Commands.{question_of}
use Rattle.jf_script.specs.declared.reply.Refusal.{Refusal}
use Rattle.jf_script.specs.declared.reply.Reply.{Reply}
use Rattle.jf_script.specs.declared.reply.Reply.TheVariants as reply
use Rattle.jf_answers.specs.Own.{Own}
use Rattle.jf_answers.specs.OwnLines.{is_own_command}
use Rattle.jf_answers.specs.Answers.{Answer, answer_of, read_answer, own_answer, answer_command, status_reply}
use Rattle.jf_answers.specs.Refusals.{Causes, refused_by, base_causes, base_map, fork_causes, question_causes}
use Rattle.jf_history.specs.Sessions.{Session}
use Rattle.jf_session.specs.Questions.{question_reply, IsReplyTo, IsAnswerTo}
use Rattle.jf_session.specs.Steps.{session_of, DoneByLook, IsDoneAs, StopsFor, IsObeyed, IsObeyedWith}
use Rattle.jf_session.specs.declared.stop.Stop.{Stop}
use Rattle.jf_session.specs.declared.stop.Stop.TheVariants as stop
use Rattle.jf_session.proofs.Entering.{own_of}
use Rattle.jf_session.proofs.Refusals.{AreTold, granted-command}
use Rattle.jf_session.proofs.Refused.{follows-Sees, SeesMore-Sees, NotDone-sees}
use Rattle.jf_session.proofs.RefusedCalls.{Fails}

-- ---- answers
-- an answer with which nothing changes
abbrev pub plain_answer : Reply × List ℕ → State → Own → Answer
plain_answer t s own = record { reply = t.0; block = t.1; entry = None; state = s; own = own }

-- a command asks this question over this map, unless one of these causes refuses it before that
pub record ReadsMap (s : State) (own : Own) (c : Command) (cs : Causes) (q : Question) (m : Map) : Type 0 where
  pub refused : (why : Refusal) → first_of cs ≡ Some why → refused_by s own c ≡ Some why
  pub reply_is : first_of cs ≡ None → answer_command s own c ≡ plain_answer (question_reply q m) s own

-- the answer by the first cause of the question
by_question : (o : Option Refusal) (q : Question) (m : Map) (s : State) (own : Own)
    → (elim o as (λ x. Answer) [ Some why ↦ own_answer (reply.No why) s own | None ↦ read_answer q m s own ]) ≡ plain_answer (elim o as (λ x. Reply × List ℕ) [ Some why ↦ (reply.No why, []) | None ↦ answer_of q m ]) s own
by_question None q m s own = refl
by_question (Some why) q m s own = refl

module _ (s : State) (own : Own) where
  after_causes : (cs : Causes) (q : Question) (m : Map) → first_of cs ≡ None
      → (elim (first_of (cs ++ question_causes q m)) as (λ x. Answer) [ Some why ↦ own_answer (reply.No why) s own | None ↦ read_answer q m s own ]) ≡ plain_answer (question_reply q m) s own
  after_causes cs q m none =
      ap (λ (o : Option Refusal). elim o as (λ x. Answer) [ Some why ↦ own_answer (reply.No why) s own | None ↦ read_answer q m s own ]) (first_of-after cs (question_causes q m) none) ∙ by_question (first_of (question_causes q m)) q m s own

  -- a read asks its question over the map of its base, and one of a fork over the fork's
  pub ReadsMap-read : (on : Base) (q : Question) → ReadsMap s own (command.Read on q) (base_causes s own on) q (base_map s own on)
  unfolding refused_by
  ReadsMap-read on q = record {
    refused = λ why e. first_of-before (base_causes s own on) (question_causes q (base_map s own on)) why e;
    reply_is = λ none. after_causes (base_causes s own on) q (base_map s own on) none;
  }

  pub ReadsMap-read_fork : (id : ℕ) (q : ForkQuestion) → ReadsMap s own (command.ReadFork id q) (fork_causes s id) (question_of q) (fork_map (newest s.all) s.forks id)
  unfolding refused_by
  ReadsMap-read_fork id q =
      let m = fork_map (newest s.all) s.forks id in
      record {
        refused = λ why e. first_of-before (fork_causes s id) (question_causes (question_of q) m) why e;
        reply_is = λ none. after_causes (fork_causes s id) (question_of q) m none;
      }

  pub Look-answer : answer_command s own command.Look ≡ plain_answer (status_reply s, []) s own
  unfolding refused_by
  Look-answer = refl

-- ---- replies
-- a block that has no lines
pub IsObeyedWith-plain : (start : Start) (old new : Session) (c : Command) (lines : List ℕ) (x : Result Reply Stop) → IsObeyed start old new c x → IsObeyedWith start old new c lines lines x
IsObeyedWith-plain start old new c lines (Ok r) is = ([], sym (append-nil lines), is.0, is.1)
IsObeyedWith-plain start old new c lines (Err why) is = is

pub obeyed_plainly : (start : Start) (old new : Session) (c d : Command) (lines : List ℕ) (x : Result Reply Stop) → c ≡ d → IsObeyed start old new d x → IsObeyedWith start old new c lines lines x
obeyed_plainly start old new c d lines x is obeyed = subst (λ (e : Command). IsObeyedWith start old new e lines lines x) (sym is) (IsObeyedWith-plain start old new d lines x obeyed)

module _ (start : Start) (p p' : Pass) (pending : Batch) (over over' : Bool) (old : Session) (view : session_of p pending over ≡ old) (c : Command) (sees : Sees p p') where
  abbrev s : State
  s = state_after_events start p'.seen

  abbrev own : Own
  own = own_of p pending

  abbrev now : Session
  now = session_of p' pending over'

  -- the command was done, with an answer that changes nothing
  pub plain_done : (r : Reply) (block : List ℕ) → is_marked p'.seen ≡ false → (IsTrue (is_own_command c) → p'.seen ≡ p.seen) → answer_command s own c ≡ plain_answer (r, block) s own → IsDoneAs start old now c r block
  plain_done r block clear itself is = inl (subst (λ (o : Session). DoneByLook start o now c r block) view record {
    follows = follows-Sees p p' c sees;
    others = sees.others;
    unmarked = clear;
    quiet = ap (λ (x : Answer). x.entry) is;
    own = ap (λ (q : Pass). own_of q pending) sees.same ∙ sym (ap (λ (x : Answer). x.own) is);
    reply = sym (ap (λ (x : Answer). x.reply) is);
    block_is = sym (ap (λ (x : Answer). x.block) is);
    by_itself = itself;
  })

  -- memory ran out
  pub memory_stops : (why : Stop) → why ≡ stop.Memory → StopsFor start old now c why
  memory_stops why is = subst (StopsFor start old now c) (sym is) (NotDone-sees start p p' pending over over' old view c (SeesMore-Sees p p' c sees))

  module _ (cs : Causes) (q : Question) (m : Map) (asks : ReadsMap s own c cs q m) where
    -- the question was answered over the map
    pub asked_done : is_marked p'.seen ≡ false → first_of cs ≡ None → (IsTrue (is_own_command c) → p'.seen ≡ p.seen) → over' ≡ false
        → (n : Map) → n ≡ m → (lines lines' : List ℕ) (x : Result Reply Stop) → IsAnswerTo q n lines lines' x → IsObeyedWith start old now c lines lines' x
    asked_done clear none itself goes n is lines lines' (Ok r) a =
        let told : question_reply q m ≡ (r, a.0) = ap (question_reply q) (sym is) ∙ sym a.2 in
        (a.0, a.1, plain_done r a.0 clear itself (asks.reply_is none ∙ ap (λ (t : Reply × List ℕ). plain_answer t s own) told), goes)
    asked_done clear none itself goes n is lines lines' (Err why) a = memory_stops why a

    pub asked_plainly : is_marked p'.seen ≡ false → first_of cs ≡ None → (IsTrue (is_own_command c) → p'.seen ≡ p.seen) → over' ≡ false
        → (n : Map) → n ≡ m → (x : Result Reply Stop) → IsReplyTo q n x → IsObeyed start old now c x
    asked_plainly clear none itself goes n is (Ok r) a =
        let told : question_reply q m ≡ (r, []) = ap (question_reply q) (sym is) ∙ sym a in
        (plain_done r [] clear itself (asks.reply_is none ∙ ap (λ (t : Reply × List ℕ). plain_answer t s own) told), goes)
    asked_plainly clear none itself goes n is (Err why) a = memory_stops why a

    -- ---- as a call of the pass ends, for a command that asks the store
    module _ (rest : StoreFaults) (told : AreTold rest cs) (asks_store : is_own_command c ≡ false) where
      never_itself : IsTrue (is_own_command c) → p'.seen ≡ p.seen
      never_itself itself = absurd (let e : true ≡ false = sym itself ∙ asks_store in cc)

      pub call_done : first_of (broken_faults p'.seen ++ rest) ≡ None → over' ≡ false → (n : Map) → n ≡ m → (lines lines' : List ℕ) (x : Result Reply Stop) → IsAnswerTo q n lines lines' x → IsObeyedWith start old now c lines lines' x
      call_done free goes n is lines lines' x a =
          let g = granted-command p'.seen rest cs told free in
          asked_done g.0 g.1 never_itself goes n is lines lines' x a

      pub call_plainly : first_of (broken_faults p'.seen ++ rest) ≡ None → over' ≡ false → (n : Map) → n ≡ m → (x : Result Reply Stop) → IsReplyTo q n x → IsObeyed start old now c x
      call_plainly free goes n is x a =
          let g = granted-command p'.seen rest cs told free in
          asked_plainly g.0 g.1 never_itself goes n is x a

-- a read whose call was refused
pub Fails-asked : (start : Start) (p p' : Pass) (pending : Batch) (c : Command) → Sees p p' → (cs : Causes) (q : Question) (m : Map) → ReadsMap (state_after_events start p'.seen) (own_of p pending) c cs q m → (rest : StoreFaults) → AreTold rest cs
    → (f : StoreFault) → IsRefusal (broken_faults p'.seen ++ rest) f → Fails start p p' pending c f
Fails-asked start p p' pending c sees cs q m asks rest told f is = inr record { sees = SeesMore-Sees p p' c sees; rest = rest; told_as = cs; alike = told; refuses = asks.refused; is = is }

-- after a call that wasn't refused, no mark was seen
pub unmarked-granted : (p' : Pass) (rest : StoreFaults) (cs : Causes) → AreTold rest cs → first_of (broken_faults p'.seen ++ rest) ≡ None → is_marked p'.seen ≡ false
unmarked-granted p' rest cs told free = (granted-command p'.seen rest cs told free).0

-- ---- status
-- a look tells the numbers of the store
pub look_done : (start : Start) (p p' : Pass) (pending : Batch) (over over' : Bool) (old : Session) (view : session_of p pending over ≡ old) → Sees p p' → first_of (look_faults start p'.seen) ≡ None → over' ≡ false
    → (l : Look) (r : Reply) → IsLook (state_after_events start p'.seen) l → r ≡ reply.Status l.state.base l.state.floor l.retired l.state.head l.state.kept l.forks l.state.generation → IsObeyed start old (session_of p' pending over') command.Look (Ok r)
look_done start p p' pending over over' old view sees free goes l r look is =
    let s = state_after_events start p'.seen in
    let n = look.numbers in
    let told : r ≡ status_reply s = is ∙ (λ i. reply.Status (n.base i) (n.floor i) (look.retired i) (n.head i) (n.kept i) (look.forks i) (n.generation i)) in (
      plain_done start p p' pending over over' old view command.Look sees r [] (unmarked-granted p' [] [] tt free) (λ itself. absurd (let e : true ≡ false = sym itself in cc))
          (Look-answer s (own_of p pending) ∙ ap (λ (x : Reply). plain_answer (x, []) s (own_of p pending)) (sym told)),
      goes,
    )

pub Fails-look : (start : Start) (p p' : Pass) (pending : Batch) → Sees p p' → (f : StoreFault) → IsRefusal (look_faults start p'.seen) f → Fails start p p' pending command.Look f
Fails-look start p p' pending sees f is = inr record { sees = SeesMore-Sees p p' command.Look sees; rest = []; told_as = []; alike = tt; refuses = λ why e. absurd (cc); is = is }
