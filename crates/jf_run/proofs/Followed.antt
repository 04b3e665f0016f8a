-- What the following of an input keeps, by how it ended.
use Rattle.std.proofs.Common.{◌<◌, ◌^◌, ℕ, List, [], ◌∷◌, ◌++◌, map, Option, None, Some, refl, subst}
use Rattle.std.specs.List.{AllByRecursion}
use Rattle.jf_hash.specs.Maps.{IsBatch}
use Rattle.jf_model.specs.declared.entries.Entry.{Entry}
use Rattle.jf_engine.specs.Engines.{Engine}
use Rattle.jf_lead.specs.declared.block.LandingBlock.{LandingBlock}
use Rattle.jf_lead.specs.Laws.{IsLandingBlock, LandingBlocksAreSound}
use Rattle.jf_lead.specs.Reading.{landing_blocks}
use Rattle.jf_follow.specs.Following.{dated_entry, whole_blocks}
use Rattle.jf_follow.specs.Laws.{FollowedIsHistory, FollowingIsLegal}
use Rattle.jf_follow.specs.Streams.{FollowsLines, HasFollowed}
use Rattle.jf_follow.specs.declared.followed.FollowRefused.TheVariants as refused
use Rattle.jf_follow.specs.declared.followed.Followed.{Followed}
use Rattle.jf_follow.specs.declared.followed.Followed.TheVariants as followed
use Rattle.jf_run.specs.Following.{TriesFollowing}
use Rattle.jf_run.proofs.KeptInTurn.{IsSettledEngine, KeepsLandings, followed_keep, stopped_keep}

-- ---- the blocks of an input
abbrev AreSound : List LandingBlock → Type 0
AreSound bs = AllByRecursion (λ (b : LandingBlock). IsBatch b.batch) bs

numbered-sound : (bs : List (ℕ × LandingBlock)) → AllByRecursion (λ (b : ℕ × LandingBlock). IsLandingBlock b.1) bs → AreSound (map (λ (b : ℕ × LandingBlock). b.1) bs)
numbered-sound [] sound = tt
numbered-sound (b ∷ bs) sound = (sound.0.batch, numbered-sound bs sound.1)

lines-sound : LandingBlocksAreSound → (ls : List (List ℕ)) → AreSound (whole_blocks ls)
lines-sound sound ls = numbered-sound (landing_blocks ls).whole (sound ls)

-- those before the last, and the last
front-sound : (bs : List LandingBlock) (b : LandingBlock) → AreSound (bs ++ b ∷ []) → AreSound bs
front-sound [] b sound = tt
front-sound (x ∷ bs) b sound = (sound.0, front-sound bs b sound.1)

last-sound : (bs : List LandingBlock) (b : LandingBlock) → AreSound (bs ++ b ∷ []) → IsBatch b.batch
last-sound [] b sound = sound.0
last-sound (x ∷ bs) b sound = last-sound bs b sound.1

-- ---- by how it ended
module _ (old : Engine) (settled : IsSettledEngine old) (blocks : LandingBlocksAreSound) (history : FollowedIsHistory) (legal : FollowingIsLegal) (new : Engine) (early : new.moment < 2 ^ 64) (es : List Entry) (rest rest' text text' : Option (List ℕ)) where
  lines_keep : (ls : List (List ℕ)) → FollowsLines old new es ls → KeepsLandings old new es None
  lines_keep ls follows = followed_keep old settled history (whole_blocks ls) es new follows (lines-sound blocks ls) early

  pub came_keeps : (how : Followed) (came : HasFollowed how old new es rest rest' text text') → (attempt : Option Entry) × TriesFollowing how old new es rest rest' text text' came attempt × KeepsLandings old new es attempt
  came_keeps followed.Done came = (None, refl, lines_keep came.0.ls came.0.follows)
  came_keeps followed.WriteFault came = (None, refl, lines_keep came.0.ls came.0.follows)
  came_keeps followed.ReadFault came = (None, refl, lines_keep came.0 came.3)
  came_keeps followed.Memory came = (None, refl, lines_keep came.0 came.3)
  came_keeps followed.DiskFault came =
      let e = came.0 in
      let sound = subst AreSound e.read.whole (lines-sound blocks e.ls) in
      (Some (dated_entry e.block 0), refl, stopped_keep old settled history e.block e.mid new e.breaks legal e.before es e.follows (front-sound e.before e.block sound) (last-sound e.before e.block sound) early)
  came_keeps (followed.Refused (refused.Line at)) came = (None, refl, lines_keep came.0.ls came.0.follows)
  came_keeps (followed.Refused (refused.Block at why)) came =
      let e = came.0 in
      let sound = subst AreSound e.read.whole (lines-sound blocks e.ls) in
      (None, refl, followed_keep old settled history e.before es new e.follows (front-sound e.before e.block sound) early)
