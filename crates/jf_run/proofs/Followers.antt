-- A call that leads, and one that follows its text.
use Rattle.std.specs.Prelude.{option_map, IsFalse}
use Rattle.std.proofs.Common.{◌≡◌, ◌≢◌, refl, sym, ap, ap₂, ◌∙◌, subst, ℕ, Bool, false, List, [], ◌∷◌, ◌++◌, Option, Some}
use Rattle.std.proofs.Math.Nat.{le_trans}
use Rattle.jf_disk.specs.Disk.{reads}
use Rattle.jf_model.specs.Versions.{Versions, IsVersions, versions_from_floor}
use Rattle.jf_model.specs.States.{State, state_when_opened, versions}
use Rattle.jf_model.specs.Entries.{after, replay}
use Rattle.jf_model.specs.declared.entries.Entry.{Entry}
use Rattle.jf_model.proofs.EntryLaws.{replay-IsState}
use Rattle.jf_model.proofs.StateLaws.{opened-IsState, versions-opened}
use Rattle.jf_files.specs.Files.{StandsFor, generation}
use Rattle.jf_files.specs.Laws.{FilesStandForOne}
use Rattle.jf_engine.specs.Engines.{Engine}
use Rattle.jf_input.specs.Feeds.{Appends}
use Rattle.jf_lead.specs.declared.block.LandingBlock.{LandingBlock}
use Rattle.jf_lead.specs.Landings.{landings, landings_text}
use Rattle.jf_history.specs.declared.end.End.{End}
use Rattle.jf_history.specs.declared.end.End.TheVariants as end
use Rattle.jf_session.specs.Leading.{WritesBlocks}
use Rattle.jf_follow.specs.Following.{dated_entry}
use Rattle.jf_follow.specs.Laws.{InputsAgree}
use Rattle.jf_follow.specs.Streams.{HasFollowed, LandInTurn}
use Rattle.jf_follow.specs.declared.followed.Followed.{Followed}
use Rattle.jf_follow.specs.declared.followed.Followed.TheVariants as followed
use Rattle.jf_run.specs.Calls.{ProgramCall}
use Rattle.jf_run.specs.Following.{IsFollowedCall}
use Rattle.jf_run.specs.Laws.{LedCallsAreFollowed, LedFilesAreFollowed, TakesWholeText}
use Rattle.jf_run.specs.Leading.{IsLedCall}
use Rattle.jf_run.specs.Outcomes.{StandsForEntries}
use Rattle.jf_run.specs.Statuses.{is_disk_fault, status_of_followed}
use Rattle.jf_run.specs.declared.status.Status.{Status}
use Rattle.jf_run.specs.declared.status.Status.TheVariants as status

-- ---- a good end
-- only an input that was followed to its end ends well
followed_whole : (how : Followed) → status_of_followed how ≡ status.Done → how ≡ followed.Done
followed_whole followed.Done same = refl
followed_whole followed.ReadFault same = absurd (cc)
followed_whole followed.WriteFault same = absurd (cc)
followed_whole followed.DiskFault same = absurd (cc)
followed_whole followed.Memory same = absurd (cc)
followed_whole (followed.Refused why) same = absurd (cc)

-- a good end is no fault of the disk
done_sound : (s : Status) → s ≡ status.Done → IsFalse (is_disk_fault s)
done_sound s is = ap is_disk_fault is

-- ---- versions
-- what was appended to a new text is the text
appended_is : (bytes text : List ℕ) (old new : Option (List ℕ)) → Appends old new bytes → old ≡ Some [] → new ≡ Some text → Some text ≡ Some bytes
appended_is bytes text old new all fresh told = sym told ∙ all ∙ ap (option_map (λ t. t ++ bytes)) fresh

-- blocks that were all written into a new text are that text
text_is : (e : End) (s : State) (es : List Entry) (blocks : List LandingBlock) (old new : Option (List ℕ)) (text : List ℕ) → e ≢ end.WriteFault → e ≢ end.Memory → WritesBlocks e false s es blocks old new → old ≡ Some [] → new ≡ Some text
    → Some text ≡ Some (landings_text blocks)
text_is end.Done s es blocks old new text unstopped room written fresh told = appended_is (landings_text blocks) text old new written fresh told
text_is end.ReadFault s es blocks old new text unstopped room written fresh told = appended_is (landings_text blocks) text old new written fresh told
text_is end.WriteFault s es blocks old new text unstopped room written fresh told = absurd (unstopped refl)
text_is end.DiskFault s es blocks old new text unstopped room written fresh told = appended_is (landings_text blocks) text old new written fresh told
text_is end.Broken s es blocks old new text unstopped room written fresh told = appended_is (landings_text blocks) text old new written fresh told
text_is end.Memory s es blocks old new text unstopped room written fresh told = absurd (room refl)

module _ (lead follow : ProgramCall) (lead_head follow_head : ℕ) (led : IsLedCall lead lead_head) (came : IsFollowedCall follow follow_head) (takes : TakesWholeText lead follow lead_head led) where
  came_whole : HasFollowed followed.Done came.old came.new follow.entries follow.before.rest follow.after.rest follow.before.text follow.after.text
  came_whole = subst (λ (how : Followed). HasFollowed how came.old came.new follow.entries follow.before.rest follow.after.rest follow.before.text follow.after.text) (followed_whole came.how (sym came.status_is ∙ takes.followed)) came.came

  agreed : InputsAgree → came.old.versions ≡ led.state.all → came.new.versions ≡ (replay led.state lead.entries).all
  agreed agree same =
      let blocks = landings led.state lead.entries in
      let written : WritesBlocks led.end false led.state lead.entries blocks lead.before.text lead.after.text =
      subst (λ (b : Bool). WritesBlocks led.end b led.state lead.entries blocks lead.before.text lead.after.text) takes.uncut led.written in
      let text : follow.before.rest ≡ Some (landings_text blocks) = takes.read ∙ text_is led.end led.state lead.entries blocks lead.before.text lead.after.text takes.text led.ended.unstopped takes.room written takes.fresh takes.written in
      let sound = led.lines.begun.sound in
      agree led.state lead.entries follow.entries came.old came.new follow.after.rest follow.before.text follow.after.text (sym same) (le_trans sound.base_first sound.floor_first) led.blocks_sound
      (subst (λ (rest : Option (List ℕ)). HasFollowed followed.Done came.old came.new follow.entries rest follow.after.rest follow.before.text follow.after.text) text came_whole)

pub led_followed : InputsAgree → LedCallsAreFollowed
led_followed agree lead follow lead_head follow_head led came takes same = agreed lead follow lead_head follow_head led came takes agree same

-- ---- files
-- landings raise no floor
turn_floor : (fs : List Entry) (old new : Engine) (s : State) → LandInTurn old fs new → ((replay s fs).floor ≡ s.floor) × ((replay s fs).all.floor ≡ s.all.floor)
unfolding replay after
turn_floor [] old new s turn = (refl, refl)
turn_floor (e ∷ fs) old new s (mid, b, is, lands, turn) =
    let first : (x : Entry) → x ≡ dated_entry b mid.moment → ((after x s).floor ≡ s.floor) × ((after x s).all.floor ≡ s.all.floor) = λ x same. (ap (λ (y : Entry). (after y s).floor) same, ap (λ (y : Entry). (after y s).all.floor) same) in
    let later = turn_floor fs mid new (after e s) turn in
    (later.0 ∙ (first e is).0, later.1 ∙ (first e is).1)

-- versions whose floor is the state's own are those of the state
versions-all : (s : State) → s.floor ≡ s.all.floor → IsVersions s.all → versions s ≡ s.all
versions-all s same sound = ap (λ n. versions_from_floor n s.all) same ∙ versions-opened s.all 0 sound

pub files_followed : InputsAgree → FilesStandForOne → LedFilesAreFollowed
files_followed agree one lead follow lead_head follow_head v led came takes (h, told, stands) (k, told', stands') =
    let s = led.state in
    let found = led.lines.begun.opening.found h told in
    let found' = came.begun.opening.found k told' in
    let here : s.all ≡ v = one (reads h) s.all v found.0 stands in
    let there : came.old.versions ≡ v = one (reads k) came.old.versions v found'.0 stands' in
    let same : came.new.versions ≡ (replay s lead.entries).all = agreed lead follow lead_head follow_head led came takes agree (there ∙ sym here) in
    let state : s ≡ state_when_opened v (generation (reads h)) = led.lines.begun.state ∙ ap₂ state_when_opened here (sym found.1) in
    let t = state_when_opened came.old.versions came.old.generation in
    let state' : t ≡ state_when_opened v (generation (reads k)) = ap₂ state_when_opened there (sym found'.1) in
    let follows : StandsForEntries follow.after.disk.history v (generation (reads k)) follow.entries = came.stands (done_sound follow.status takes.followed) k told' v stands' in
    let floors = turn_floor follow.entries came.old came.new t (came_whole lead follow lead_head follow_head led came takes).0.follows.landed in
    let sound : IsVersions (replay t follow.entries).all = (replay-IsState t follow.entries (opened-IsState came.old.versions came.old.generation came.begun.sound) came.kept.legal).sound in (
      (
        follows.now,
        follows.told,
        subst (λ (u : Versions). StandsFor (reads follows.now) u) (versions-all (replay t follow.entries) (floors.0 ∙ sym floors.1) sound ∙ sym came.leads ∙ same)
            (subst (λ (x : State). StandsFor (reads follows.now) (versions (replay x follow.entries))) (sym state') follows.stands),
      ),
      λ whole. let leads : StandsForEntries lead.after.disk.history v (generation (reads h)) lead.entries = led.lines.stands whole h told v stands in
          (leads.now, leads.told, subst (λ (x : State). StandsFor (reads leads.now) (versions (replay x lead.entries))) (sym state) leads.stands),
    )
