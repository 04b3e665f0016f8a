-- The blocks of what a call landed are those of its entry.
use Rattle.std.proofs.Common.{◌≡◌, ℕ, ◌+◌, ◌-◌, ◌<◌, ◌≤◌, List, [], ◌∷◌, ◌++◌, take, length, refl, sym, ap, ap₂, ◌∙◌, arith, append_assoc, append-nil}
use Rattle.std.proofs.Math.ListN.{get_or}
use Rattle.std.proofs.lemmas.List.{take_more, length-take-le}
use Rattle.jf_hash.specs.Maps.{Batch}
use Rattle.jf_hash.specs.Roots.{root}
use Rattle.jf_model.specs.Versions.{Versions, versions_after_landing}
use Rattle.jf_model.specs.States.{State}
use Rattle.jf_model.specs.declared.entries.Landing.TheVariants as landing
use Rattle.jf_model.proofs.VersionLaws.{land_all-newest}
use Rattle.jf_lead.specs.declared.block.LandingBlock.{LandingBlock}
use Rattle.jf_lead.specs.Landings.{landing_text, landings_text, landed_block, landed_blocks, entry_blocks}
use Rattle.jf_lead.proofs.LandingLaws.{landings_text-append}
use Rattle.jf_engine.specs.declared.landed.Landed.{Landed}
use Rattle.jf_store.specs.declared.landed_chain.LandedChain.{LandedChain}
use Rattle.jf_store.specs.Events.{landing_entry}
use Rattle.jf_store.specs.Landings.{landed_roots, HasLandedChain}
use Rattle.jf_store.specs.Starts.{Start}
use Rattle.jf_store.specs.Ledgers.{state_after_events}
use Rattle.jf_store.specs.Passes.{Pass, HasLanded}
use Rattle.jf_session.specs.Telling.{rooted_blocks, chain_blocks}
use Rattle.jf_session.proofs.Changes.{version_in, root_in}

-- a block by its parts
abbrev pub block_of : ℕ → List ℕ → Batch → LandingBlock
block_of version r b = record { version = version; root = r; batch = b }

-- ---- of batches with their roots
-- one more
pub rooted_blocks-push : (bs : List Batch) (rs : List (List ℕ)) (version : ℕ) (b : Batch) (r : List ℕ) → length rs ≡ length bs
    → rooted_blocks version (bs ++ b ∷ []) (rs ++ r ∷ []) ≡ rooted_blocks version bs rs ++ block_of (version + length bs + 1) r b ∷ []
rooted_blocks-push [] [] version b r same = let e : version + 1 ≡ version + 0 + 1 = omega arith in ap (λ n. block_of n r b ∷ []) e
rooted_blocks-push [] (q ∷ rs) version b r same = absurd (omega (arith, same))
rooted_blocks-push (c ∷ bs) [] version b r same = absurd (omega (arith, same))
rooted_blocks-push (c ∷ bs) (q ∷ rs) version b r same =
    let e : version + 1 + length bs + 1 ≡ version + length (c ∷ bs) + 1 = omega arith in
    let rest = rooted_blocks-push bs rs (version + 1) b r (omega (arith, same)) in
    ap (λ ls. block_of (version + 1) q c ∷ ls) (rest ∙ ap (λ n. rooted_blocks (version + 1) bs rs ++ block_of n r b ∷ []) e)

-- the first of them, and the next
pub rooted_blocks-more : (bs : List Batch) (rs : List (List ℕ)) (version at : ℕ) (b : Batch) (r : List ℕ) → at < length bs → length rs ≡ length bs → b ≡ get_or bs at b
    → rooted_blocks version (take (at + 1) bs) (take (at + 1) rs) ≡ rooted_blocks version (take at bs) (take at rs) ++ block_of (version + at + 1) (get_or rs at r) b ∷ []
rooted_blocks-more bs rs version at b r low same is =
    let low' : at < length rs = omega (arith, low, same) in
    let first : length (take at bs) ≡ at = length-take-le at bs (omega (arith, low)) in
    let first' : length (take at rs) ≡ at = length-take-le at rs (omega (arith, low')) in
    ap₂ (rooted_blocks version) (take_more bs at b low ∙ ap (λ c. take at bs ++ c ∷ []) (sym is)) (take_more rs at r low') ∙ rooted_blocks-push (take at bs) (take at rs) version b (get_or rs at r) (first' ∙ sym first)
    ∙ ap (λ n. rooted_blocks version (take at bs) (take at rs) ++ block_of (version + n + 1) (get_or rs at r) b ∷ []) first

-- and so is their text
pub landings_text-more : (bs : List Batch) (rs : List (List ℕ)) (version at : ℕ) (b : Batch) (r : List ℕ) → at < length bs → length rs ≡ length bs → b ≡ get_or bs at b → (old told told' : List ℕ)
    → told ≡ old ++ landings_text (rooted_blocks version (take at bs) (take at rs)) → told' ≡ told ++ landing_text (version + at + 1) (get_or rs at r) b → told' ≡ old ++ landings_text (rooted_blocks version (take (at + 1) bs) (take (at + 1) rs))
landings_text-more bs rs version at b r low same is old told told' before next =
    let first = rooted_blocks version (take at bs) (take at rs) in
    let last = block_of (version + at + 1) (get_or rs at r) b in
    let text = landing_text (version + at + 1) (get_or rs at r) b in
    let more : landings_text (rooted_blocks version (take (at + 1) bs) (take (at + 1) rs)) ≡ landings_text first ++ text =
    ap landings_text (rooted_blocks-more bs rs version at b r low same is) ∙ landings_text-append first (last ∷ []) ∙ ap (λ t. landings_text first ++ t) (append-nil text) in
    next ∙ ap (λ t. t ++ text) before ∙ append_assoc old (landings_text first) text ∙ ap (λ t. old ++ t) (sym more)

-- the blocks of batches with the roots that they make are those of their landing
rooted_blocks-landed : (bs : List Batch) (v : Versions) → rooted_blocks v.head bs (landed_roots v bs) ≡ landed_blocks v bs
rooted_blocks-landed [] v = refl
rooted_blocks-landed (b ∷ bs) v = ap (λ ls. landed_block v b ∷ ls) (rooted_blocks-landed bs (versions_after_landing b v))

landed_roots-length : (bs : List Batch) (v : Versions) → length (landed_roots v bs) ≡ length bs
landed_roots-length [] v = refl
landed_roots-length (b ∷ bs) v = let rest = landed_roots-length bs (versions_after_landing b v) in omega (arith, rest)

-- ---- of a batch
module _ (start : Start) (p p' : Pass) (batch : Batch) (l : Landed) (h : HasLanded start (landing.Direct batch) p p' l) where
  pub commit_block : block_of l.version l.root batch ∷ [] ≡ entry_blocks (state_after_events start h.before) (landing_entry p.number (state_after_events start h.before) (landing.Direct batch) l.moment)
  commit_block = ap₂ (λ v r. block_of v r batch ∷ []) (sym (ap version_in h.answer)) (sym (ap root_in h.answer) ∙ ap root (land_all-newest (batch ∷ []) (state_after_events start h.before).all))

-- ---- of a fork with its ancestors
module _ (start : Start) (p p' : Pass) (id : ℕ) (c : LandedChain) (h : HasLandedChain start id p p' c) where
  abbrev s : State
  s = state_after_events start h.landed.before

  version_is : c.landed.version ≡ s.all.head + length c.batches
  version_is = sym (ap version_in h.landed.answer) ∙ ap (λ (bs : List Batch). s.all.head + length bs) (sym h.batches)

  pub chain_each : length c.roots ≡ length c.batches
  chain_each = ap length h.roots ∙ landed_roots-length c.batches s.all

  pub chain_last : length c.batches ≤ c.landed.version
  chain_last = omega (arith, version_is)

  pub chain_blocks-are : chain_blocks c ≡ entry_blocks s (landing_entry p.number s (landing.Fork id) c.landed.moment)
  chain_blocks-are =
      let first : c.landed.version - length c.batches ≡ s.all.head = omega (arith, version_is) in
      ap₂ (λ n rs. rooted_blocks n c.batches rs) first h.roots ∙ rooted_blocks-landed c.batches s.all ∙ ap (landed_blocks s.all) h.batches
