-- The reading of a landing block counts the lines that it takes.
use Rattle.std.proofs.Common.{ℕ, zero, suc, [], ◌∷◌, ◌++◌}
use Rattle.jf_hash.specs.Maps.{Batch}
use Rattle.jf_blocks.specs.Reading.{LinePlace, line_by}
use Rattle.jf_blocks.proofs.Bounds.{IsCounted, same-counted, and_then-counted, line_by-counted}
use Rattle.jf_lead.specs.declared.block.LandingBlock.{LandingBlock}
use Rattle.jf_lead.specs.declared.head.LandingHead.{LandingHead}
use Rattle.jf_lead.specs.Reading.{change_after, changes_after, landing_body}

changes_after-counted : (n : ℕ) (b : Batch) (p : LinePlace) → IsCounted p (changes_after b n p)
unfolding changes_after
changes_after-counted zero b p = same-counted b p
changes_after-counted (suc n) b p = and_then-counted p (line_by (change_after b) p) _ (line_by-counted (change_after b) p) (λ c q. changes_after-counted n (b ++ c ∷ []) q)

pub landing_body-counted : (head : LandingHead) (p : LinePlace) → IsCounted p (landing_body head p)
landing_body-counted head p =
    and_then-counted p (changes_after [] head.changes p) _ (changes_after-counted head.changes [] p) (λ batch q. same-counted {X = LandingBlock} (record { version = head.version; root = head.root; batch = batch }) q)
