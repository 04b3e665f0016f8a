-- The effect of announced landings on a follower: the table, and blocks one after another.
use Rattle.std.specs.Prelude.{ℕ, ◌+◌, ◌-◌, ◌^◌, Bool, not, ◌&&◌, ◌||◌, nat_le, nat_lt, bytes_eq, List, [], ◌∷◌, map, Option, Some, None, unwrap_or}
use Rattle.std.specs.FinMap.{len}
use Rattle.jf_path.specs.Checks.{first_of}
use Rattle.jf_hash.specs.Maps.{Batch}
use Rattle.jf_hash.specs.Roots.{root}
use Rattle.jf_model.specs.Versions.{Versions, newest, root_of, versions_after_landing}
use Rattle.jf_model.specs.declared.entries.Landing.TheVariants as landing
use Rattle.jf_model.specs.declared.entries.Entry.{Entry}
use Rattle.jf_model.specs.declared.entries.Entry.TheVariants as entry
use Rattle.jf_lead.specs.declared.block.LandingBlock.{LandingBlock}
use Rattle.jf_lead.specs.Landings.{landed_block}
use Rattle.jf_lead.specs.Reading.{landing_blocks}
use Rattle.jf_follow.specs.declared.fault.FollowFault.{FollowFault}
use Rattle.jf_follow.specs.declared.fault.FollowFault.TheVariants as fault
use Rattle.jf_follow.specs.declared.judging.Judgement.{Judgement}
use Rattle.jf_follow.specs.declared.judging.Judgement.TheVariants as judged

-- ---- one landing
-- an announced landing: its version, the root of its map, and its batch
abbrev pub announced_landing : ℕ → List ℕ → Batch → LandingBlock
announced_landing version root batch = record { version = version; root = root; batch = batch }

-- whether no version may follow the head: it is 2^64 - 2, or its map has more than 2^62 entries
abbrev pub is_at_limit : Versions → Bool
is_at_limit v = nat_le (2 ^ 64 - 2) v.head || nat_lt (2 ^ 62) (len (newest v))

-- how versions judge an announced landing: by the first row whose test holds; if none does, it is the next version
unfoldable pub judgement : Versions → LandingBlock → Judgement
judgement v b =
    unwrap_or (first_of ((nat_lt b.version v.base, judged.Refused (fault.Below v.base))
    ∷ (nat_le b.version v.head && bytes_eq (root_of v b.version) b.root, judged.Known)
    ∷ (nat_le b.version v.head, judged.Refused (fault.Differs b.version b.root (root_of v b.version)))
    ∷ (nat_lt (v.head + 1) b.version, judged.Refused (fault.Gap v.head))
    ∷ (is_at_limit v, judged.Refused fault.Last)
    ∷ (not (bytes_eq (landed_block v b.batch).root b.root), judged.Refused (fault.Differs b.version b.root (landed_block v b.batch).root)) ∷ [])) judged.Next

-- ---- blocks, one after another
-- what blocks made: the versions, the landings as entries of a ledger without their moments, and the refusal of the block at which it stopped
pub record FollowedBlocks : Type 0 where
  pub versions : Versions
  pub entries : List Entry
  pub refused : Option FollowFault

-- a landing as an entry of a ledger, with the moment of the disk at which it was acknowledged
abbrev pub dated_entry : LandingBlock → ℕ → Entry
dated_entry b moment = entry.Landed 0 b.version (landing.Direct b.batch) b.root moment

-- one more entry in front
abbrev pub and_entry_before : Entry → FollowedBlocks → FollowedBlocks
and_entry_before e f = record { versions = f.versions; entries = e ∷ f.entries; refused = f.refused }

-- each block in turn, up to the first that is refused
unfoldable pub follow : Versions → List LandingBlock → FollowedBlocks
follow v [] = record { versions = v; entries = []; refused = None }
follow v (b ∷ bs) =
    elim (judgement v b) [
      | judged.Known ↦ follow v bs
      | judged.Next ↦ and_entry_before (dated_entry b 0) (follow (versions_after_landing b.batch v) bs)
      | judged.Refused why ↦ record { versions = v; entries = []; refused = Some why }
    ]

-- the whole blocks of lines, without the numbers of their first lines
abbrev pub whole_blocks : List (List ℕ) → List LandingBlock
whole_blocks ls = map (λ b. b.1) (landing_blocks ls).whole
