-- The result of an input for a session that leads: the run, and what is written of its landings.
use Rattle.std.proofs.Common.{◌≡◌, inl, inr, ℕ, Bool, Option, None, List, [], ◌∷◌, ◌++◌, refl, sym, ap, ap₂, ◌∙◌, subst, append-nil, Some}
use Rattle.std.specs.Prelude.{Result, Ok, Err}
use Rattle.jf_path.proofs.OptionLaws.{some_same}
use Rattle.jf_input.specs.Feeds.{TakesLines, EndsAtLine, EndsAfter, HasFed}
use Rattle.jf_input.specs.FeedsThrough.{IsPutThrough, GoesThrough}
use Rattle.jf_input.specs.declared.feeding.Feeding.{Feeding}
use Rattle.jf_input.specs.declared.feeding.Feeding.TheVariants as feeding
use Rattle.jf_model.specs.declared.entries.Entry.{Entry}
use Rattle.jf_lead.specs.declared.block.LandingBlock.{LandingBlock}
use Rattle.jf_lead.specs.Landings.{landings_text}
use Rattle.jf_lead.proofs.LandingLaws.{landings_text-append}
use Rattle.jf_store.specs.Starts.{Start}
use Rattle.jf_store.specs.Passes.{Pass}
use Rattle.jf_history.specs.Sessions.{Session, new_session, seen_by}
use Rattle.jf_history.specs.Runs.{HasAnswered}
use Rattle.jf_history.specs.declared.end.End.{End}
use Rattle.jf_history.specs.declared.end.End.TheVariants as end
use Rattle.jf_session.specs.declared.stop.Stop.{Stop}
use Rattle.jf_session.specs.declared.stop.Stop.TheVariants as stop
use Rattle.jf_session.specs.Taking.{AnswersLine, AnswersEnd, StaysQuiet, end_of_feeding}
use Rattle.jf_session.specs.Leading.{HasLandedMore, AreOfLast, WritesMost, WritesBlocks, HasLedOver}
use Rattle.jf_session.specs.Telling.{LandsMore, LandsLast, LeadsLine}
use Rattle.jf_session.proofs.Fed.{ran_shown}
use Rattle.jf_session.proofs.SamePass.{same_replied}
use Rattle.jf_session.proofs.OwnLandings.{landed_same, landed_further}

-- ---- one line
-- what a line landed, over the state with which the store of the pass began
landed_at : (start : Start) (s new : Session) (blocks : List LandingBlock) → s.pass.start ≡ Some start → LandsMore s new blocks → HasLandedMore start s.pass new.pass blocks
landed_at start s new blocks is l = subst (λ (t : Start). HasLandedMore t s.pass new.pass blocks) (some_same l.0 start (sym l.1 ∙ is)) l.2

last_at : (start : Start) (s new : Session) (blocks : List LandingBlock) → s.pass.start ≡ Some start → LandsLast s new blocks → AreOfLast start.state (seen_by new.pass) blocks
last_at start s new blocks is l = subst (λ (t : Start). AreOfLast t.state (seen_by new.pass) blocks) (some_same l.0 start (sym l.1 ∙ is)) l.3

-- the pass of a session that took a line is still one of that store
start_after : (start : Start) (s new : Session) (line text : List ℕ) → s.pass.start ≡ Some start → AnswersLine s line new (Ok text) → new.pass.start ≡ Some start
start_after start s new line text is a = (same_replied a.start s new line a.makes.0 a.makes.1).1 ∙ is

-- the reply, or why there is none
answers_stop : (s new : Session) (line : List ℕ) (why : Stop) → LeadsLine s line new (Err why) → AnswersLine s line new (Err why)
answers_stop s new line stop.DiskFault l = l.0
answers_stop s new line stop.Broken l = l.0
answers_stop s new line stop.Memory l = l.1

module _ {M : Type 0} (shown : M → Session) (piece : ℕ) where
  abbrev Takes : M → List ℕ → M → Result (List ℕ) Stop → Type 0
  Takes m line new r = LeadsLine (shown m) line (shown new) r

  abbrev Ends : M → M → Result (List ℕ) Stop → Type 0
  Ends m new r = AnswersEnd (shown m) (shown new) r

  abbrev Quiet : M → M → Type 0
  Quiet m new = StaysQuiet (shown m) (shown new)

  -- ---- the replies
  took_answers : (m new : M) (ls : List (List ℕ)) (said : List ℕ) → TakesLines Takes m ls new said → (text : List ℕ) × TakesLines AnswersLine (shown m) ls (shown new) text
  took_answers m new [] said w = ([], (ap shown w.0, refl))
  took_answers m new (line ∷ ls) said w =
      let l = w.3 in
      let rest = took_answers w.0 new ls w.2 w.4 in
      (l.0 ++ rest.0, (shown w.0, l.0, rest.0, l.2, rest.1, refl))

  line_answers : (how : Feeding Stop) (m new : M) (line : List ℕ) (later : List (List ℕ)) → (how ≡ feeding.WriteFault → ⊥) → EndsAtLine Takes Quiet how m line later new None None → EndsAtLine AnswersLine StaysQuiet how (shown m) line later (shown new) None None
  line_answers feeding.Done m new line later on e = e
  line_answers feeding.ReadFault m new line later on e = e
  line_answers feeding.WriteFault m new line later on e = absurd (on refl)
  line_answers feeding.Memory m new line later on e = e
  line_answers (feeding.Stopped why) m new line later on e = (answers_stop (shown m) (shown new) line why e.0, e.1, e.2)

  end_answers : (how : Feeding Stop) (m new : M) (told told' : Option (List ℕ)) → EndsAfter Ends how m new told told' → EndsAfter AnswersEnd how (shown m) (shown new) told told'
  end_answers feeding.Done m new told told' e = e
  end_answers feeding.ReadFault m new told told' e = e
  end_answers feeding.WriteFault m new told told' e = e
  end_answers feeding.Memory m new told told' e = e
  end_answers (feeding.Stopped why) m new told told' e = e

  -- as the answers of a session, of whose text nothing is known
  fed_answers : (how : Feeding Stop) (m new : M) (rest rest' : Option (List ℕ)) → (how ≡ feeding.WriteFault → ⊥) → HasFed Takes Ends Quiet piece how m new rest rest' None None → HasFed AnswersLine AnswersEnd StaysQuiet piece how (shown m) (shown new) rest rest' None None
  fed_answers how m new rest rest' on f =
      let t = took_answers m f.mid f.done f.said f.took in
      let none : f.text_so_far ≡ None = f.written in
      record {
        done = f.done;
        mid = shown f.mid;
        said = t.0;
        took = t.1;
        text_so_far = None;
        written = refl;
        ended = elim f.ended [
          | inl b ↦ inl (ap shown b.0, refl, b.2)
          | inr e ↦ elim e [
            | inl l ↦ inr (inl (l.0, l.1, line_answers how f.mid new l.0 l.1 on (subst (λ (o : Option (List ℕ)). EndsAtLine Takes Quiet how f.mid l.0 l.1 new o None) none l.2), l.3))
            | inr a ↦ inr (inr (subst (λ (o : Option (List ℕ)). EndsAfter AnswersEnd how (shown f.mid) (shown new) o None) none (end_answers how f.mid new f.text_so_far None a.0), a.1))
          ]
        ];
      }

  -- ---- the landings
  -- what lines landed, one after another, with the text of it
  record HaveLanded (start : Start) (m new : M) (said : List ℕ) : Type 0 where
    blocks : List LandingBlock
    landed : HasLandedMore start (shown m).pass (shown new).pass blocks
    text_is : said ≡ landings_text blocks
    began : (shown new).pass.start ≡ Some start

  took_lands : (start : Start) (m new : M) (ls : List (List ℕ)) (said : List ℕ) → (shown m).pass.start ≡ Some start → TakesLines Takes m ls new said → HaveLanded start m new said
  took_lands start m new [] said is w = record {
    blocks = [];
    landed = subst (λ (n : M). HasLandedMore start (shown m).pass (shown n).pass []) (sym w.0) (landed_same start (shown m).pass);
    text_is = w.1;
    began = ap (λ (n : M). (shown n).pass.start) w.0 ∙ is;
  }
  took_lands start m new (line ∷ ls) said is w =
      let l = w.3 in
      let mid = w.0 in
      let h = landed_at start (shown m) (shown mid) l.1 is l.3 in
      let rest = took_lands start mid new ls w.2 (start_after start (shown m) (shown mid) line l.0 is l.2) w.4 in
      record {
        blocks = l.1 ++ rest.blocks;
        landed = landed_further start (shown m).pass (shown mid).pass (shown new).pass l.1 rest.blocks h rest.landed;
        text_is = w.5 ∙ ap₂ (λ x y. x ++ y) l.4 rest.text_is ∙ sym (landings_text-append l.1 rest.blocks);
        began = rest.began;
      }

-- ---- the text
-- the text of all blocks was put through
put_all : (is_cut : Bool) (text text' : Option (List ℕ)) (said last : List ℕ) (blocks : List LandingBlock) → said ≡ landings_text blocks → last ≡ [] → IsPutThrough is_cut text text' (said ++ last) → IsPutThrough is_cut text text' (landings_text blocks)
put_all is_cut text text' said last blocks is none put = subst (IsPutThrough is_cut text text') (ap (λ x. said ++ x) none ∙ append-nil said ∙ is) put

-- ---- a whole input
module _ (start : Start) (old : Pass) (begun : old.start ≡ Some start) (piece : ℕ) (rest rest' text text' : Option (List ℕ)) {M : Type 0} (shown : M → Session) (m new : M) (is : shown m ≡ new_session old) where
  -- the entries that the pass has seen in the end
  abbrev Seen : List Entry
  Seen = seen_by (shown new).pass

  -- what was landed, and what was written of it
  record Tells (e : End) (is_cut : Bool) : Type 0 where
    blocks : List LandingBlock
    landed : HasLandedMore start old (shown new).pass blocks
    written : WritesBlocks e is_cut start.state Seen blocks text text'

  known : (shown m).pass.start ≡ Some start
  known = ap (λ (s : Session). s.pass.start) is ∙ begun

  from_old : (n : M) (blocks : List LandingBlock) → HasLandedMore start (shown m).pass (shown n).pass blocks → HasLandedMore start old (shown n).pass blocks
  from_old n blocks h = subst (λ (s : Session). HasLandedMore start s.pass (shown n).pass blocks) is h

  -- all that was landed had been taken
  tells_all : (mid : M) (said : List ℕ) → HaveLanded shown piece start m mid said → shown new ≡ shown mid → (e : End) (is_cut : Bool) → ((blocks : List LandingBlock) → said ≡ landings_text blocks → WritesBlocks e is_cut start.state Seen blocks text text') → Tells e is_cut
  tells_all mid said h same e is_cut writes = record {
    blocks = h.blocks;
    landed = subst (λ (s : Session). HasLandedMore start old s.pass h.blocks) (sym same) (from_old mid h.blocks h.landed);
    written = writes h.blocks h.text_is;
  }

  -- and what the last line landed
  tells_more : (mid : M) (said : List ℕ) (h : HaveLanded shown piece start m mid said) (more : List LandingBlock) → LandsMore (shown mid) (shown new) more → (e : End) (is_cut : Bool) → WritesBlocks e is_cut start.state Seen (h.blocks ++ more) text text' → Tells e is_cut
  tells_more mid said h more l e is_cut writes = record {
    blocks = h.blocks ++ more;
    landed = landed_further start old (shown mid).pass (shown new).pass h.blocks more (from_old mid h.blocks h.landed) (landed_at start (shown mid) (shown new) more h.began l);
    written = writes;
  }

  -- all but what the last entry landed
  most_of : (is_cut : Bool) (said last : List ℕ) (blocks told more : List LandingBlock) → blocks ≡ told ++ more → AreOfLast start.state Seen more → said ≡ landings_text told → last ≡ [] → IsPutThrough is_cut text text' (said ++ last)
      → WritesMost start.state Seen is_cut blocks text text'
  most_of is_cut said last blocks told more whole of_last text_is none put = record { told = told; more = more; whole = whole; last = of_last; written = put_all is_cut text text' said last told text_is none put }

  -- the line at which it stopped
  tells_stop : (why : Stop) (is_cut : Bool) (mid : M) (line said last : List ℕ) (h : HaveLanded shown piece start m mid said) → LeadsLine (shown mid) line (shown new) (Err why) → last ≡ [] → IsPutThrough is_cut text text' (said ++ last) → Tells (end_of_feeding (feeding.Stopped why)) is_cut
  tells_stop stop.DiskFault is_cut mid line said last h l none put =
      tells_more mid said h [] l.1 end.DiskFault is_cut (subst (λ (bs : List LandingBlock). IsPutThrough is_cut text text' (landings_text bs)) (sym (append-nil h.blocks)) (put_all is_cut text text' said last h.blocks h.text_is none put))
  tells_stop stop.Broken is_cut mid line said last h l none put =
      tells_more mid said h [] l.1 end.Broken is_cut (subst (λ (bs : List LandingBlock). IsPutThrough is_cut text text' (landings_text bs)) (sym (append-nil h.blocks)) (put_all is_cut text text' said last h.blocks h.text_is none put))
  tells_stop stop.Memory is_cut mid line said last h l none put =
      let lands = l.2 in
      tells_more mid said h l.0 (lands.0, lands.1, lands.2) end.Memory is_cut
      (most_of is_cut said last (h.blocks ++ l.0) h.blocks l.0 refl (last_at start (shown mid) (shown new) l.0 h.began lands) h.text_is none put)

  tells_fed : (how : Feeding Stop) (is_cut : Bool) → (how ≡ feeding.WriteFault → ⊥) → GoesThrough (Takes shown piece) (Ends shown piece) (Quiet shown piece) piece how is_cut m new rest rest' text text' → Tells (end_of_feeding how) is_cut
  tells_fed feeding.WriteFault is_cut on g = absurd (on refl)
  tells_fed feeding.Done is_cut on g =
      let f = g.fed in
      let h = took_lands shown piece start m f.mid f.done f.said known f.took in
      tells_all f.mid f.said h g.at_end.1 end.Done is_cut (λ blocks text_is. put_all is_cut text text' f.said g.last blocks text_is g.at_end.0 g.written)
  tells_fed feeding.ReadFault is_cut on g =
      let f = g.fed in
      let h = took_lands shown piece start m f.mid f.done f.said known f.took in
      elim f.ended [
        | inl b ↦ tells_all f.mid f.said h (ap shown b.0) end.ReadFault is_cut (λ blocks text_is. put_all is_cut text text' f.said g.last blocks text_is g.at_end g.written)
        | inr e ↦ elim e [ inl l ↦ absurd l.2 | inr a ↦ absurd a.0 ]
      ]
  tells_fed feeding.Memory is_cut on g =
      let f = g.fed in
      let h = took_lands shown piece start m f.mid f.done f.said known f.took in
      elim f.ended [
        | inl b ↦ tells_all f.mid f.said h (ap shown b.0) end.Memory is_cut (λ blocks text_is. most_of is_cut f.said g.last blocks blocks [] (sym (append-nil blocks)) (inl refl) text_is g.at_end g.written)
        | inr e ↦ elim e [ inl l ↦ absurd l.2 | inr a ↦ absurd a.0 ]
      ]
  tells_fed (feeding.Stopped why) is_cut on g =
      let f = g.fed in
      let h = took_lands shown piece start m f.mid f.done f.said known f.took in
      elim f.ended [
        | inl b ↦ absurd b.2
        | inr e ↦ elim e [
          | inl l ↦ tells_stop why is_cut f.mid l.0 f.said g.last h l.2.0 g.at_end g.written
          | inr a ↦ absurd a.0.0
        ]
      ]

  -- a machine that shows a new session of a pass has led to the pass of the one that it shows in the end
  pub led_shown : HasAnswered start old (new_session old) [] [] → (how : Feeding Stop) (is_cut : Bool) → (how ≡ feeding.WriteFault → ⊥) → GoesThrough (Takes shown piece) (Ends shown piece) (Quiet shown piece) piece how is_cut m new rest rest' text text'
      → HasLedOver (end_of_feeding how) is_cut start old (shown new).pass rest rest' text text'
  led_shown none how is_cut on g =
      let t = tells_fed how is_cut on g in
      record {
        ran = ran_shown start old begun none piece rest rest' None None (λ (s : Session). s) how (shown m) (shown new) is (fed_answers shown piece how m new rest rest' on g.fed);
        blocks = t.blocks;
        landed = t.landed;
        written = t.written;
      }
