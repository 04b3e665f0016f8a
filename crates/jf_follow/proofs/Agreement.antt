-- A follower of a leader's landings has the leader's versions.
use Rattle.std.proofs.Common.{◌≡◌, ◌⊎◌, inl, inr, ℕ, ◌+◌, ◌≤◌, Bool, true, false, cond, List, [], ◌∷◌, ◌++◌, length, map, Option, Some, None, refl, ap, sym, ◌∙◌, arith}
use Rattle.std.specs.List.{AllByRecursion}
use Rattle.jf_hash.specs.Maps.{Batch}
use Rattle.jf_model.specs.Versions.{Versions, versions_after_landing, land_all}
use Rattle.jf_model.specs.States.{State}
use Rattle.jf_model.specs.Entries.{landed_batches, after, replay}
use Rattle.jf_model.specs.declared.entries.Entry.{Entry}
use Rattle.jf_model.specs.declared.entries.Entry.TheVariants as entry
use Rattle.jf_model.proofs.VersionLaws.{land_all-base, land_all-head}
use Rattle.jf_io.specs.Lines.{lines}
use Rattle.jf_lead.specs.declared.block.LandingBlock.{LandingBlock}
use Rattle.jf_lead.specs.Landings.{landed_block, landed_blocks, landings, landings_text}
use Rattle.jf_lead.specs.Reading.{LandingBlocks}
use Rattle.jf_lead.specs.Laws.{IsLandingBlock, with_first_lines}
use Rattle.jf_lead.proofs.ReadBack.{landing_blocks-back}
use Rattle.jf_follow.specs.declared.fault.FollowFault.{FollowFault}
use Rattle.jf_follow.specs.declared.fault.FollowFault.TheVariants as fault
use Rattle.jf_follow.specs.declared.judging.Judgement.TheVariants as judged
use Rattle.jf_follow.specs.Following.{judgement, is_at_limit, FollowedBlocks, follow, whole_blocks}
use Rattle.jf_follow.specs.Laws.{FollowersAgree, FollowersRefuseOnlyLast, FollowersOfTextAgree, InputsAgree}
use Rattle.jf_follow.proofs.Judgements.{next_judgement}
use Rattle.jf_follow.proofs.Histories.{after_judgement}

-- the same versions, and the same refusal
abbrev IsAlike : FollowedBlocks → FollowedBlocks → Type 0
IsAlike f g = (f.versions ≡ g.versions) × (f.refused ≡ g.refused)

IsAlike-by : (f g h : FollowedBlocks) → f ≡ g → IsAlike g h → IsAlike f h
IsAlike-by f g h e alike = (ap (λ x. x.versions) e ∙ alike.0, ap (λ x. x.refused) e ∙ alike.1)

next_block : (v : Versions) (b : Batch) (rest : List LandingBlock) (t : Bool) → judgement v (landed_block v b) ≡ cond t (judged.Refused fault.Last) judged.Next
    → IsAlike (follow v (landed_block v b ∷ rest)) (follow (versions_after_landing b v) rest) ⊎ ((follow v (landed_block v b ∷ rest)).refused ≡ Some fault.Last)
unfolding follow
next_block v b rest true e = inr (ap (λ o. (after_judgement v (landed_block v b) rest o).refused) e)
next_block v b rest false e = inl (ap (λ o. (after_judgement v (landed_block v b) rest o).versions) e, ap (λ o. (after_judgement v (landed_block v b) rest o).refused) e)

-- batches that land one after another are followed, unless one of them is the last
blocks_followed : (bs : List Batch) (v : Versions) (rest : List LandingBlock) → v.base ≤ v.head
    → IsAlike (follow v (landed_blocks v bs ++ rest)) (follow (land_all bs v) rest) ⊎ ((follow v (landed_blocks v bs ++ rest)).refused ≡ Some fault.Last)
blocks_followed [] v rest h = inl (refl, refl)
blocks_followed (b ∷ bs) v rest h =
    elim (next_block v b (landed_blocks (versions_after_landing b v) bs ++ rest) (is_at_limit v) (next_judgement v b h)) [
      | inr last ↦ inr last
      | inl one ↦
          elim (blocks_followed bs (versions_after_landing b v) rest (omega arith)) [
            | inr last ↦ inr (one.1 ∙ last)
            | inl more ↦ inl (one.0 ∙ more.0, one.1 ∙ more.1)
          ]
    ]

-- the leader's versions, or no version may follow
abbrev IsFollowed : State → List Entry → Type 0
IsFollowed s es = (((follow s.all (landings s es)).versions ≡ (replay s es).all) × ((follow s.all (landings s es)).refused ≡ None)) ⊎ ((follow s.all (landings s es)).refused ≡ Some fault.Last)

same_bounds : (bs : List Batch) (v : Versions) → v.base ≤ v.head → (land_all bs v).base ≤ (land_all bs v).head
same_bounds bs v h = let base = land_all-base bs v in let head = land_all-head bs v in omega arith

pub followed : (es : List Entry) (s : State) → s.all.base ≤ s.all.head → IsFollowed s es
unfolding follow landings replay after
followed [] s h = inl (refl, refl)
followed (entry.Landed owner version how r moment ∷ es) s h =
    let e : Entry = entry.Landed owner version how r moment in
    elim (blocks_followed (landed_batches s how) s.all (landings (after e s) es) h) [
      | inr last ↦ inr last
      | inl one ↦
          elim (followed es (after e s) (same_bounds (landed_batches s how) s.all h)) [
            | inr last ↦ inr (one.1 ∙ last)
            | inl more ↦ inl (one.0 ∙ more.0, one.1 ∙ more.1)
          ]
    ]
followed (entry.Made owner fork parent batch r ∷ es) s h = followed es (after (entry.Made owner fork parent batch r) s) h
followed (entry.Dropped owner fork ∷ es) s h = followed es (after (entry.Dropped owner fork) s) h
followed (entry.Retired owner bound floor ∷ es) s h = followed es (after (entry.Retired owner bound floor) s) h
followed (entry.Compacted owner generation ∷ es) s h = followed es (after (entry.Compacted owner generation) s) h

not_both : {X : Type 0} (o : Option FollowFault) → o ≡ None → o ≡ Some fault.Last → X
not_both o none last = absurd (cc)

pub agree : FollowersAgree
agree s es h none = elim (followed es s h) [ inl both ↦ both.0 | inr last ↦ not_both (follow s.all (landings s es)).refused none last ]

pub only_last : FollowersRefuseOnlyLast
only_last s es h = elim (followed es s h) [ inl both ↦ inl both.1 | inr last ↦ inr last ]

-- ---- the text
with_first_lines-blocks : (at : ℕ) (bs : List LandingBlock) → map (λ (b : ℕ × LandingBlock). b.1) (with_first_lines at bs) ≡ bs
with_first_lines-blocks at [] = refl
with_first_lines-blocks at (b ∷ bs) = ap (λ rest. b ∷ rest) (with_first_lines-blocks (at + 1 + length b.batch) bs)

pub whole-text : (bs : List LandingBlock) → AllByRecursion IsLandingBlock bs → whole_blocks (lines (landings_text bs)) ≡ bs
whole-text bs all = ap (λ (x : LandingBlocks). map (λ (b : ℕ × LandingBlock). b.1) x.whole) (landing_blocks-back bs all) ∙ with_first_lines-blocks 1 bs

pub text-agrees : FollowersOfTextAgree
text-agrees s es h all =
    let blocks : List LandingBlock = landings s es in
    let same = whole-text blocks all in (
      ap (λ (x : LandingBlocks). x.bad) (landing_blocks-back blocks all),
      λ none. ap (λ bs. (follow s.all bs).versions) same ∙ agree s es h (ap (λ bs. (follow s.all bs).refused) (sym same) ∙ none),
    )

pub inputs-agree : InputsAgree
inputs-agree s es fs old new rest' text text' same h all f =
    let input : List ℕ = landings_text (landings s es) in
    let follows = f.0.follows in
    let read = (f.0.read input refl).1 in
    let from : (v : Versions) → FollowedBlocks = λ v. follow v (whole_blocks (lines input)) in
    let alike : from s.all ≡ follow old.versions (whole_blocks f.0.ls) = ap from same ∙ ap (λ ls. follow old.versions (whole_blocks ls)) read in
    follows.versions ∙ ap (λ (x : FollowedBlocks). x.versions) (sym alike) ∙ (text-agrees s es h all).1 (ap (λ (x : FollowedBlocks). x.refused) alike ∙ follows.accepted)
