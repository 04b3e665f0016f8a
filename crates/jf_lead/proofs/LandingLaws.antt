-- The blocks of a history grow at their end, entry by entry and batch by batch.
use Rattle.std.proofs.Common.{◌≡◌, ◌+◌, ◌-◌, List, [], ◌∷◌, ◌++◌, slice_index_or, refl, ap, sym, ◌∙◌, arith}
use Rattle.std.proofs.lemmas.List.{append_assoc, append-nil}
use Rattle.jf_hash.specs.Maps.{Batch, apply}
use Rattle.jf_hash.specs.Roots.{root}
use Rattle.jf_model.specs.Versions.{Versions, newest, versions_after_landing, land_all, root_of}
use Rattle.jf_model.specs.States.{State}
use Rattle.jf_model.specs.Entries.{after, replay}
use Rattle.jf_model.specs.declared.entries.Entry.{Entry}
use Rattle.jf_lead.specs.declared.block.LandingBlock.{LandingBlock}
use Rattle.jf_lead.specs.Landings.{landing_text, landings_text, landed_block, landed_blocks, entry_blocks, landings}

-- the blocks of a history that goes on
pub landings-append : (s : State) (es fs : List Entry) → landings s (es ++ fs) ≡ landings s es ++ landings (replay s es) fs
unfolding landings replay
landings-append s [] fs = refl
landings-append s (e ∷ es) fs =
    ap (λ bs. entry_blocks s e ++ bs) (landings-append (after e s) es fs) ∙ sym (append_assoc (entry_blocks s e) (landings (after e s) es) (landings (replay (after e s) es) fs))

-- one more entry adds its own blocks
pub landings-push : (s : State) (es : List Entry) (e : Entry) → landings s (es ++ e ∷ []) ≡ landings s es ++ entry_blocks (replay s es) e
unfolding landings
landings-push s es e = landings-append s es (e ∷ []) ∙ ap (λ bs. landings s es ++ bs) (append-nil (entry_blocks (replay s es) e))

-- the blocks of batches that land after others
pub landed_blocks-append : (bs cs : List Batch) (v : Versions) → landed_blocks v (bs ++ cs) ≡ landed_blocks v bs ++ landed_blocks (land_all bs v) cs
landed_blocks-append [] cs v = refl
landed_blocks-append (b ∷ bs) cs v = ap (λ ls. landed_block v b ∷ ls) (landed_blocks-append bs cs (versions_after_landing b v))

-- the root of a block is the one that is recorded of its version
pub root_of-landed_block : (b : Batch) (v : Versions) → root_of (versions_after_landing b v) (landed_block v b).version ≡ (landed_block v b).root
root_of-landed_block b v =
    let e : v.head + 1 - (v.head + 1) ≡ 0 = omega arith in ap (λ i. slice_index_or (root (apply (newest v) b) ∷ v.roots) i []) e

-- the text of blocks that follow others
pub landings_text-append : (bs cs : List LandingBlock) → landings_text (bs ++ cs) ≡ landings_text bs ++ landings_text cs
landings_text-append [] cs = refl
landings_text-append (b ∷ bs) cs =
    ap (λ t. landing_text b.version b.root b.batch ++ t) (landings_text-append bs cs) ∙ sym (append_assoc (landing_text b.version b.root b.batch) (landings_text bs) (landings_text cs))
