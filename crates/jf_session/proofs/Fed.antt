-- The result of an input for a session, as a run.
use Rattle.std.proofs.Common.{◌≡◌, inl, inr, ℕ, Option, Some, None, option_map, List, [], ◌∷◌, ◌++◌, length, refl, sym, ap, ◌∙◌, subst, arith, append_assoc, append-nil, length-append}
use Rattle.std.specs.Prelude.{Result, Ok, Err, option_to_list}
use Rattle.jf_io.specs.Sink.{IsCutShort}
use Rattle.jf_input.specs.Feeds.{Appends, GoesOnQuietly, TakesLines, EndsAtLine, EndsAfter, HasFed, ReadsLinesOf}
use Rattle.jf_input.specs.declared.feeding.Feeding.{Feeding}
use Rattle.jf_input.specs.declared.feeding.Feeding.TheVariants as feeding
use Rattle.jf_input.proofs.FirstRead.{lines_of_few}
use Rattle.jf_io.proofs.FirstLines.{all_first}
use Rattle.jf_io.proofs.Written.{written_more}
use Rattle.jf_store.specs.Starts.{Start}
use Rattle.jf_store.specs.Passes.{Pass}
use Rattle.jf_answers.specs.Explains.{LineReply, text_in}
use Rattle.jf_history.specs.Sessions.{Session, HasReplied, new_session}
use Rattle.jf_history.specs.Runs.{HasAnswered, EndsBy, ReadsBy, HasReadInput, HasRunOver, WritesBy}
use Rattle.jf_history.specs.declared.end.End.{End}
use Rattle.jf_history.specs.declared.end.End.TheVariants as end
use Rattle.jf_history.proofs.Steps.{one_more_answered}
use Rattle.jf_session.specs.Taking.{Makes, AnswersLine, AnswersEnd, StaysQuiet, end_of_feeding}
use Rattle.jf_session.specs.declared.stop.Stop.{Stop}
use Rattle.jf_session.specs.declared.stop.Stop.TheVariants as stop
use Rattle.jf_session.proofs.Replied.{all_but_last, cut_is_cut}
use Rattle.jf_session.proofs.Taken.{makes_at, took_more, went_on, reads_to}

module _ (start : Start) (old : Pass) (begun : old.start ≡ Some start) (none : HasAnswered start old (new_session old) [] []) (piece : ℕ) (rest rest' text text' : Option (List ℕ)) where
  -- it ran to the pass of this session
  abbrev RanTo : End → Session → Type 0
  RanTo e new = HasRunOver e start old new.pass rest rest' text text'

  -- lines were taken, and this was written of them
  record IsSaid (m : Session) (ds : List (List ℕ)) (so_far : Option (List ℕ)) : Type 0 where
    replies : List LineReply
    answered : HasAnswered start old m ds replies
    said : List ℕ
    said_is : said ≡ text_in replies
    written : Appends text so_far said

  known : (m : Session) (ds : List (List ℕ)) (rs : List LineReply) → HasAnswered start old m ds rs → m.pass.start ≡ Some start
  known m ds rs a = ap (λ (p : Pass). p.start) a.same ∙ begun

  is_said : (m : Session) (ds : List (List ℕ)) (so_far : Option (List ℕ)) (said : List ℕ) → TakesLines AnswersLine (new_session old) ds m said → Appends text so_far said → IsSaid m ds so_far
  is_said m ds so_far said took written =
      let t = took_more start old begun (new_session old) m [] ds [] said none took in
      record { replies = t.replies; answered = t.answered; said = said; said_is = t.text_is; written = written }

  -- ---- after the last line
  at_end : (m new : Session) (ds : List (List ℕ)) (so_far : Option (List ℕ)) (t : List ℕ) → IsSaid m ds so_far → t ≡ [] → new ≡ m → Appends so_far text' t
      → ((all : List ℕ) → rest ≡ Some all → (left : List ℕ) × (rest' ≡ Some left) × HasReadInput end.Done all left ds None) → RanTo end.Done new
  at_end m new ds so_far t s nothing same appended reads = record {
    done = ds;
    replies = s.replies;
    next = None;
    mid = m;
    last = new;
    answered = s.answered;
    ends = (same, refl);
    pass_is = refl;
    writes = record { text = s.said ++ t; by = ap (λ x. s.said ++ x) nothing ∙ append-nil s.said ∙ s.said_is; appended = appended ∙ ap (option_map (λ x. x ++ t)) s.written ∙ written_more text s.said t };
    reads = reads;
  }

  -- ---- between two lines
  ended_between : (e : End) (m new : Session) (ds : List (List ℕ)) (so_far : Option (List ℕ)) (s : IsSaid m ds so_far) → EndsBy e start m new None → WritesBy e s.replies s.said → text' ≡ so_far
      → ((all : List ℕ) → rest ≡ Some all → (left : List ℕ) × (rest' ≡ Some left) × HasReadInput e all left ds None) → RanTo e new
  ended_between e m new ds so_far s ends by same reads = record {
    done = ds;
    replies = s.replies;
    next = None;
    mid = m;
    last = new;
    answered = s.answered;
    ends = ends;
    pass_is = refl;
    writes = record { text = s.said; by = by; appended = same ∙ s.written };
    reads = reads;
  }

  -- ---- at a line
  -- as far as a line that was started
  reads_begun : (e : End) (ds : List (List ℕ)) (next : Option (List ℕ)) → ((taken left : List ℕ) (ls : List (List ℕ)) → ReadsBy e taken left ls) → ReadsLinesOf rest rest' (ds ++ option_to_list next)
      → (all : List ℕ) → rest ≡ Some all → (left : List ℕ) × (rest' ≡ Some left) × HasReadInput e all left ds next
  reads_begun e ds next far reads all is =
      let r = reads_to rest rest' ds next reads all is in
      (r.0, r.1, record { taken = r.2.taken; split = r.2.split; first = r.2.first; far = far r.2.taken r.0 ds; begun = r.2.begun })

  -- nothing was written of a line that was started
  stopped_in : (e : End) (m new : Session) (ds : List (List ℕ)) (so_far : Option (List ℕ)) (line : List ℕ) (s : IsSaid m ds so_far) → EndsBy e start m new (Some line) → WritesBy e s.replies s.said → text' ≡ so_far
      → ((taken left : List ℕ) (ls : List (List ℕ)) → ReadsBy e taken left ls) → ReadsLinesOf rest rest' (ds ++ line ∷ []) → RanTo e new
  stopped_in e m new ds so_far line s ends by same far reads = record {
    done = ds;
    replies = s.replies;
    next = Some line;
    mid = m;
    last = new;
    answered = s.answered;
    ends = ends;
    pass_is = refl;
    writes = record { text = s.said; by = by; appended = same ∙ s.written };
    reads = reads_begun e ds (Some line) far reads;
  }

  -- nor of one that was done before memory ran out
  unwritten : (m new : Session) (ds : List (List ℕ)) (so_far : Option (List ℕ)) (line : List ℕ) (r : LineReply) → IsSaid m ds so_far → HasReplied start m new line r → text' ≡ so_far → ReadsLinesOf rest rest' (ds ++ line ∷ []) → RanTo end.Memory new
  unwritten m new ds so_far line r s t same reads = record {
    done = ds ++ line ∷ [];
    replies = s.replies ++ r ∷ [];
    next = None;
    mid = new;
    last = new;
    answered = one_more_answered start old m new ds s.replies line r s.answered t;
    ends = refl;
    pass_is = refl;
    writes = record {
      text = s.said;
      by = inr (s.said_is ∙ ap text_in (sym (all_but_last s.replies r)));
      appended = same ∙ s.written;
    };
    reads = reads_begun end.Memory (ds ++ line ∷ []) None (λ taken left ls. tt) (subst (λ (x : List (List ℕ)). ReadsLinesOf rest rest' x) (sym (append-nil (ds ++ line ∷ []))) reads);
  }

  -- a front of the reply to a line was written, and later lines had been answered too
  cut_in : (m mid new : Session) (ds : List (List ℕ)) (so_far : Option (List ℕ)) (line t : List ℕ) (later : List (List ℕ)) (r : LineReply) → IsSaid m ds so_far → HasReplied start m mid line r → t ≡ r.text → IsCutShort so_far text' t
      → GoesOnQuietly AnswersLine StaysQuiet mid later new → ReadsLinesOf rest rest' (ds ++ line ∷ later) → RanTo end.WriteFault new
  cut_in m mid new ds so_far line t later r s replied text_is c quietly reads =
      let ls = ds ++ line ∷ [] in
      let w = went_on start old begun mid new ls (s.replies ++ r ∷ []) later (one_more_answered start old m mid ds s.replies line r s.answered replied) quietly in
      let lines_are : ds ++ line ∷ later ≡ (ls ++ w.more) ++ option_to_list w.next = sym (append_assoc ds (line ∷ []) later) ∙ ap (λ x. ls ++ x) w.lines_are ∙ sym (append_assoc ls w.more (option_to_list w.next)) in
      record {
        done = ls ++ w.more;
        replies = (s.replies ++ r ∷ []) ++ w.replies;
        next = w.next;
        mid = w.mid;
        last = new;
        answered = w.answered;
        ends = w.rest;
        pass_is = refl;
        writes = record {
          text = s.said ++ c.front;
          by = cut_is_cut s.replies r w.replies s.said c.front c.missing s.said_is (c.whole ∙ text_is) w.none;
          appended = c.appended ∙ ap (option_map (λ x. x ++ c.front)) s.written ∙ written_more text s.said c.front;
        };
        reads = reads_begun end.WriteFault (ls ++ w.more) w.next (λ taken left ls. tt) (subst (λ (x : List (List ℕ)). ReadsLinesOf rest rest' x) lines_are reads);
      }

  -- the line at which a session stopped
  stopped_by : (why : Stop) (m new : Session) (ds : List (List ℕ)) (so_far : Option (List ℕ)) (line : List ℕ) → IsSaid m ds so_far → Makes start m line new (Err why) → text' ≡ so_far → ReadsLinesOf rest rest' (ds ++ line ∷ []) → RanTo (end_of_feeding (feeding.Stopped why)) new
  stopped_by stop.DiskFault m new ds so_far line s makes same reads = stopped_in end.DiskFault m new ds so_far line s (line, refl, makes) s.said_is same (λ taken left ls. tt) reads
  stopped_by stop.Broken m new ds so_far line s makes same reads = stopped_in end.Broken m new ds so_far line s (line, refl, makes) s.said_is same (λ taken left ls. tt) reads
  stopped_by stop.Memory m new ds so_far line s makes same reads = elim makes [
    | inl idle ↦ stopped_in end.Memory m new ds so_far line s idle (inl s.said_is) same (λ taken left ls. tt) reads
    | inr r ↦ unwritten m new ds so_far line r.1.0 s r.1.1 same reads
  ]

  -- ---- by how it was fed
  ran_fed : (how : Feeding Stop) (new : Session) → HasFed AnswersLine AnswersEnd StaysQuiet piece how (new_session old) new rest rest' text text' → RanTo (end_of_feeding how) new
  ran_fed feeding.Done new f =
      let s = is_said f.mid f.done f.text_so_far f.said f.took f.written in
      elim f.ended [
        | inl b ↦ absurd b.2
        | inr e ↦ elim e [
          | inl l ↦ absurd l.2
          | inr a ↦ at_end f.mid new f.done f.text_so_far a.0.0 s a.0.1.0 a.0.1.1 a.0.2 (λ all is.
              let r = a.1 all is in
              ([], r.0, record { taken = all; split = sym (append-nil all); first = all_first all f.done r.1; far = (refl, ap (λ (ls : List (List ℕ)). length ls) (sym r.1)); begun = tt }))
        ]
      ]
  ran_fed feeding.ReadFault new f =
      let s = is_said f.mid f.done f.text_so_far f.said f.took f.written in
      elim f.ended [
        | inl b ↦ ended_between end.ReadFault f.mid new f.done f.text_so_far s (b.0, refl) s.said_is b.1 (λ all is.
            let r = b.2 all is in
            (r.0, r.1, record { taken = r.2.taken; split = r.2.split; first = r.2.first; far = r.3; begun = tt }))
        | inr e ↦ elim e [ inl l ↦ absurd l.2 | inr a ↦ absurd a.0 ]
      ]
  ran_fed feeding.Memory new f =
      let s = is_said f.mid f.done f.text_so_far f.said f.took f.written in
      elim f.ended [
        | inl b ↦ ended_between end.Memory f.mid new f.done f.text_so_far s b.0 (inl s.said_is) b.1 (λ all is.
            let r = b.2 all is in
            (r.0, r.1, record { taken = r.2.taken; split = r.2.split; first = r.2.first; far = tt; begun = tt }))
        | inr e ↦ elim e [ inl l ↦ absurd l.2 | inr a ↦ absurd a.0 ]
      ]
  ran_fed feeding.WriteFault new f =
      let s = is_said f.mid f.done f.text_so_far f.said f.took f.written in
      elim f.ended [
        | inl b ↦ absurd b.2
        | inr e ↦ elim e [
          | inl l ↦
              let t = makes_at start f.mid l.2.0 l.0 (Ok l.2.1) (known f.mid f.done s.replies s.answered) l.2.2 in
              cut_in f.mid l.2.0 new f.done f.text_so_far l.0 l.2.1 l.1 t.0 s t.1 t.2 l.2.3 l.2.4 l.3
          | inr a ↦ let c = a.0.2 in let nothing = a.0.1.0 in absurd (omega (arith, c.is_short, length-append c.front c.missing, ap (λ (x : List ℕ). length x) c.whole, ap (λ (x : List ℕ). length x) nothing))
        ]
      ]
  ran_fed (feeding.Stopped why) new f =
      let s = is_said f.mid f.done f.text_so_far f.said f.took f.written in
      elim f.ended [
        | inl b ↦ absurd b.2
        | inr e ↦ elim e [
          | inl l ↦
              let makes = makes_at start f.mid new l.0 (Err why) (known f.mid f.done s.replies s.answered) l.2.0 in
              stopped_by why f.mid new f.done f.text_so_far l.0 s makes l.2.1 (subst (λ (x : List (List ℕ)). ReadsLinesOf rest rest' (f.done ++ l.0 ∷ x)) l.2.2 (lines_of_few piece rest rest' (f.done ++ l.0 ∷ l.1) l.3))
          | inr a ↦ absurd a.0.0
        ]
      ]

  -- ---- what takes lines shows a session
  module _ {M : Type 0} (shown : M → Session) where
    abbrev Takes : M → List ℕ → M → Result (List ℕ) Stop → Type 0
    Takes m line new r = AnswersLine (shown m) line (shown new) r

    abbrev Ends : M → M → Result (List ℕ) Stop → Type 0
    Ends m new r = AnswersEnd (shown m) (shown new) r

    abbrev Quiet : M → M → Type 0
    Quiet m new = StaysQuiet (shown m) (shown new)

    took_shown : (m new : M) (ls : List (List ℕ)) (said : List ℕ) → TakesLines Takes m ls new said → TakesLines AnswersLine (shown m) ls (shown new) said
    took_shown m new [] said w = (ap shown w.0, w.1)
    took_shown m new (line ∷ ls) said w = (shown w.0, w.1, w.2, w.3, took_shown w.0 new ls w.2 w.4, w.5)

    quiet_shown : (m new : M) (ls : List (List ℕ)) → GoesOnQuietly Takes Quiet m ls new → GoesOnQuietly AnswersLine StaysQuiet (shown m) ls (shown new)
    quiet_shown m new [] w = ap shown w
    quiet_shown m new (line ∷ ls) w = (shown w.0, w.1, w.2, w.3, quiet_shown w.0 new ls w.4)

    line_shown : (how : Feeding Stop) (m new : M) (line : List ℕ) (later : List (List ℕ)) (told told' : Option (List ℕ)) → EndsAtLine Takes Quiet how m line later new told told' → EndsAtLine AnswersLine StaysQuiet how (shown m) line later (shown new) told told'
    line_shown feeding.Done m new line later told told' e = e
    line_shown feeding.ReadFault m new line later told told' e = e
    line_shown feeding.WriteFault m new line later told told' e = (shown e.0, e.1, e.2, e.3, quiet_shown e.0 new later e.4)
    line_shown feeding.Memory m new line later told told' e = e
    line_shown (feeding.Stopped why) m new line later told told' e = e

    end_shown : (how : Feeding Stop) (m new : M) (told told' : Option (List ℕ)) → EndsAfter Ends how m new told told' → EndsAfter AnswersEnd how (shown m) (shown new) told told'
    end_shown feeding.Done m new told told' e = e
    end_shown feeding.ReadFault m new told told' e = e
    end_shown feeding.WriteFault m new told told' e = e
    end_shown feeding.Memory m new told told' e = e
    end_shown (feeding.Stopped why) m new told told' e = e

    fed_shown : (how : Feeding Stop) (m new : M) → HasFed Takes Ends Quiet piece how m new rest rest' text text' → HasFed AnswersLine AnswersEnd StaysQuiet piece how (shown m) (shown new) rest rest' text text'
    fed_shown how m new f = record {
      done = f.done;
      mid = shown f.mid;
      said = f.said;
      took = took_shown m f.mid f.done f.said f.took;
      text_so_far = f.text_so_far;
      written = f.written;
      ended = elim f.ended [
        | inl b ↦ inl (ap shown b.0, b.1, b.2)
        | inr e ↦ elim e [
          | inl l ↦ inr (inl (l.0, l.1, line_shown how f.mid new l.0 l.1 f.text_so_far text' l.2, l.3))
          | inr a ↦ inr (inr (end_shown how f.mid new f.text_so_far text' a.0, a.1))
        ]
      ];
    }

    -- a machine that shows a new session of a pass runs to the pass of the one that it shows in the end
    pub ran_shown : (how : Feeding Stop) (m new : M) → shown m ≡ new_session old → HasFed Takes Ends Quiet piece how m new rest rest' text text' → RanTo (end_of_feeding how) (shown new)
    ran_shown how m new is f = ran_fed how (shown new) (subst (λ (s : Session). HasFed AnswersLine AnswersEnd StaysQuiet piece how s (shown new) rest rest' text text') is (fed_shown how m new f))

-- ---- what ended it
pub read_fault_of : (how : Feeding Stop) → end_of_feeding how ≡ end.ReadFault → how ≡ feeding.ReadFault
read_fault_of feeding.Done e = absurd (cc)
read_fault_of feeding.ReadFault e = refl
read_fault_of feeding.WriteFault e = absurd (cc)
read_fault_of feeding.Memory e = absurd (cc)
read_fault_of (feeding.Stopped stop.DiskFault) e = absurd (cc)
read_fault_of (feeding.Stopped stop.Broken) e = absurd (cc)
read_fault_of (feeding.Stopped stop.Memory) e = absurd (cc)

pub write_fault_of : (how : Feeding Stop) → end_of_feeding how ≡ end.WriteFault → how ≡ feeding.WriteFault
write_fault_of feeding.Done e = absurd (cc)
write_fault_of feeding.ReadFault e = absurd (cc)
write_fault_of feeding.WriteFault e = refl
write_fault_of feeding.Memory e = absurd (cc)
write_fault_of (feeding.Stopped stop.DiskFault) e = absurd (cc)
write_fault_of (feeding.Stopped stop.Broken) e = absurd (cc)
write_fault_of (feeding.Stopped stop.Memory) e = absurd (cc)
