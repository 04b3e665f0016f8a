-- What the records that an engine writes lead to.
use Rattle.std.specs.Prelude.{reverse}
use Rattle.std.proofs.Common.{◌≡◌, refl, sym, ◌∙◌, ap, subst, ℕ, ◌+◌, ◌≤◌, ◌<◌, ◌^◌, List, [], ◌∷◌, ◌++◌, map, length, arith, true}
use Rattle.std.specs.FinMap.{len}
use Rattle.std.specs.List.{AllByRecursion}
use Rattle.std.proofs.lemmas.List.Sorted.{Contains-permutation, IsPermutation-sym}
use Rattle.jf_hash.specs.Maps.{Batch, IsBatch}
use Rattle.jf_model.specs.Batches.{key_count}
use Rattle.jf_model.specs.Versions.{land_all, versions_from_floor}
use Rattle.jf_frame.specs.Framed.{LogRecord}
use Rattle.jf_frame.specs.Logs.{appended_record}
use Rattle.jf_frame.specs.Framing.{IsFrame, number_of}
use Rattle.jf_frame.proofs.FramingLaws.{frame_is_of_one}
use Rattle.jf_pair.specs.Files.{is_checkpoint, generation_of}
use Rattle.jf_pair.proofs.First.{long_enough}
use Rattle.jf_codec.specs.declared.format.Format.{Format}
use Rattle.jf_codec.specs.declared.format.Format.TheVariants as format
use Rattle.jf_payload.specs.declared.records.Commit.{Commit}
use Rattle.jf_payload.specs.declared.records.Record.{Record}
use Rattle.jf_payload.specs.declared.records.Record.TheVariants as «record»
use Rattle.jf_payload.specs.Spelling.{IsRecord, IsSpelling, kind_of, record_bytes, checkpoint_kind}
use Rattle.jf_payload.specs.Counted.{record_in, commit_in, nodes_in}
use Rattle.jf_payload.specs.Laws.{KeptIsSpelled, WrittenInBoth}
use Rattle.jf_standing.specs.Named.{NamedNode, not_stale, AreEntries}
use Rattle.jf_standing.specs.Standing.{Standing, versions_of, with_floor, with_nodes}
use Rattle.jf_standing.specs.Sound.{IsSound}
use Rattle.jf_standing.specs.Next.{IsReadStanding}
use Rattle.jf_standing.specs.Landing.{head_map}
use Rattle.jf_standing.specs.Building.{landings_of, all_landed, nodes_by_name, checkpoint_of, new_standing}
use Rattle.jf_standing.specs.FormatLaws.{standing_in, FormatsAreSound, FormatsFollow, FormatsGroup}
use Rattle.jf_standing.proofs.Formats.{leaves_kept, map_kept}
use Rattle.jf_standing.proofs.ByName.{nodes-moved}
use Rattle.jf_standing.proofs.Checkpoints.{same-by_name}
use Rattle.jf_files.specs.Files.{LeadToStanding, generation_in}
use Rattle.jf_files.specs.StepLaws.{landed_record, LandingsFollow, FloorsFollow, CheckpointsFollow}
use Rattle.jf_files.specs.Laws.{CheckpointsAreNumbered}
use Rattle.jf_engine.specs.Kept.{checkpoint_at_start}

-- ---- landings
-- what a format keeps of the record of landings is the record of what it keeps of them
landed_record-kept : (fmt : Format) (cs : List Commit) → landed_record (map (commit_in fmt) cs) ≡ record_in fmt (landed_record cs)
landed_record-kept fmt [] = refl
landed_record-kept fmt (c ∷ []) = refl
landed_record-kept fmt (c ∷ d ∷ cs) = refl

-- what a format keeps of a record is spelled as the record is
kept_spelling : KeptIsSpelled → WrittenInBoth → (fmt : Format) (offset : ℕ) (r : Record) → IsRecord format.Two r → (let y = appended_record offset (kind_of fmt r) (record_bytes fmt r) in IsSpelling fmt (record_in fmt r) y.kind y.payload)
kept_spelling kept both fmt offset r written = record { sound = both fmt r written; kind_is = sym (kept fmt r).1; payload_is = sym (kept fmt r).0 }

-- the record that an engine appends to a file of a format
abbrev pub appended : Format → ℕ → Record → LogRecord
appended fmt offset r = appended_record offset (kind_of fmt r) (record_bytes fmt r)

-- the record of landings leads from what the format keeps of a standing to what it keeps of the standing after them
pub landings_lead : LandingsFollow → FormatsAreSound → FormatsGroup → KeptIsSpelled → WrittenInBoth → (rs : List LogRecord) (fmt : Format) (offset : ℕ) (s : Standing) (bs : List Batch)
    → LeadToStanding rs fmt (standing_in fmt s) → IsReadStanding s → IsSound format.Two s → AllByRecursion IsBatch bs → len (head_map s) + key_count bs ≤ 2 ^ 63 → s.head + length bs < not_stale
    → IsRecord format.Two (landed_record (landings_of format.Two s bs))
    → LeadToStanding (rs ++ appended fmt offset (landed_record (landings_of format.Two s bs)) ∷ []) fmt (standing_in fmt (all_landed format.Two s bs))
    × (versions_of (standing_in fmt (all_landed format.Two s bs)) ≡ land_all bs (versions_of (standing_in fmt s)))
landings_lead law sound_in group kept both rs fmt offset s bs leads read sound batches room last written =
    let r = landed_record (landings_of format.Two s bs) in
    let y = appended fmt offset r in
    let g = group fmt s bs in
    let same : landed_record (landings_of fmt (standing_in fmt s) bs) ≡ record_in fmt r = ap landed_record g.0 ∙ landed_record-kept fmt (landings_of format.Two s bs) in
    let is = subst (λ (q : Record). IsSpelling fmt q y.kind y.payload) (sym same) (kept_spelling kept both fmt offset r written) in
    let f = law rs fmt (standing_in fmt s) bs y leads (sound_in fmt s sound).0 (subst AreEntries (sym (leaves_kept fmt s.nodes)) read.keys) batches (subst (λ m. len m + key_count bs ≤ 2 ^ 63) (sym (map_kept fmt s.head s.nodes)) room) last is in (
      subst (LeadToStanding (rs ++ y ∷ []) fmt) g.1 f.0,
      ap versions_of (sym g.1) ∙ f.1,
    )

-- ---- floors
pub floors_lead : FloorsFollow → FormatsAreSound → FormatsFollow → (rs : List LogRecord) (fmt : Format) (offset : ℕ) (s : Standing) (floor : ℕ) → LeadToStanding rs fmt (standing_in fmt s) → IsSound format.Two s → s.floor ≤ floor → floor ≤ s.head
    → LeadToStanding (rs ++ appended fmt offset («record».Floor floor) ∷ []) fmt (standing_in fmt (with_floor floor s))
    × (versions_of (standing_in fmt (with_floor floor s)) ≡ versions_from_floor floor (versions_of (standing_in fmt s)))
floors_lead law sound_in follow rs fmt offset s floor leads sound low high =
    let y = appended fmt offset («record».Floor floor) in
    let last = sound.head_last in
    let is : IsSpelling fmt («record».Floor floor) y.kind y.payload = record { sound = omega (arith, high, last); kind_is = refl; payload_is = refl } in
    let f = law rs fmt (standing_in fmt s) floor y leads (sound_in fmt s sound).0 low high is in
    let same : with_floor floor (standing_in fmt s) ≡ standing_in fmt (with_floor floor s) = (follow fmt s (record { version = 0; root = []; fresh = []; stale = [] }) floor).1 in
    (subst (LeadToStanding (rs ++ y ∷ []) fmt) same f.0, ap versions_of (sym same) ∙ f.1)

-- ---- checkpoints
nodes_in-two : (ns : List NamedNode) → nodes_in format.Two ns ≡ ns
nodes_in-two [] = refl
nodes_in-two (n ∷ ns) = ap (λ xs. n ∷ xs) (nodes_in-two ns)

-- format 2 keeps all of a standing
pub two-kept : (s : Standing) → standing_in format.Two s ≡ s
two-kept s = ap (λ ns. with_nodes ns s) (nodes_in-two s.nodes)

-- nodes whose names rise are in order
pub nodes-ordered : (s : Standing) → IsReadStanding s → IsSound format.Two s → nodes_by_name s.nodes ≡ s.nodes
nodes-ordered s read sound =
    let moved = nodes-moved format.Two s sound in
    same-by_name s.nodes s.nodes read.rises (λ n has. Contains-permutation (nodes_by_name s.nodes) s.nodes n (IsPermutation-sym s.nodes (nodes_by_name s.nodes) moved) has)
    (λ n has. Contains-permutation s.nodes (nodes_by_name s.nodes) n moved has)

-- the checkpoint of a standing leads, alone, to the standing in format 2
pub checkpoint_leads : CheckpointsFollow → CheckpointsAreNumbered → (s : Standing) (g : ℕ) → IsReadStanding s → IsSound format.Two s → IsRecord format.Two (checkpoint_of g s)
    → LeadToStanding (checkpoint_at_start g s ∷ []) format.Two (standing_in format.Two s) × (generation_in (checkpoint_at_start g s ∷ []) ≡ g)
checkpoint_leads law numbered s g read sound written =
    let x = checkpoint_at_start g s in
    let is : IsSpelling format.Two (checkpoint_of g s) x.kind x.payload = record { sound = written; kind_is = refl; payload_is = refl } in
    let f = law format.Two s g x sound is in
    let same : with_nodes (nodes_by_name s.nodes) s ≡ standing_in format.Two s = ap (λ ns. with_nodes ns s) (nodes-ordered s read sound) ∙ sym (two-kept s) in
    (subst (LeadToStanding (x ∷ []) format.Two) same f.0, (numbered format.Two g s.base s.floor s.head (reverse s.roots) (nodes_by_name s.nodes) x is).1)

-- the checkpoint of a standing, made of parts that equal the standing's
pub same_checkpoint : (s : Standing) (g base floor head : ℕ) (roots : List (List ℕ)) (nodes : List NamedNode) → IsReadStanding s → IsSound format.Two s → base ≡ s.base → floor ≡ s.floor → head ≡ s.head → roots ≡ reverse s.roots → nodes ≡ s.nodes
    → «record».Checkpoint g base floor head roots nodes ≡ checkpoint_of g s
same_checkpoint s g base floor head roots nodes read sound b f h r n =
    let k : nodes ≡ nodes_by_name s.nodes = n ∙ sym (nodes-ordered s read sound) in
    λ i. «record».Checkpoint g (b i) (f i) (h i) (r i) (k i)

-- format 2 keeps a record of a checkpoint whole
pub checkpoint-kept : (g base floor head : ℕ) (roots : List (List ℕ)) (nodes : List NamedNode) → record_in format.Two («record».Checkpoint g base floor head roots nodes) ≡ «record».Checkpoint g base floor head roots nodes
checkpoint-kept g base floor head roots nodes = ap (λ ns. «record».Checkpoint g base floor head roots ns) (nodes_in-two nodes)

-- what the frame of a checkpoint may be taken for: a checkpoint of this generation
pub checkpoint_frame-is : CheckpointsAreNumbered → (s : Standing) (g : ℕ) (bytes : List ℕ) → IsRecord format.Two (checkpoint_of g s) → IsFrame bytes (checkpoint_kind format.Two) (record_bytes format.Two (checkpoint_of g s)) → (kind : ℕ) (payload : List ℕ) → IsFrame bytes kind payload
    → (is_checkpoint kind ≡ true) × (8 ≤ length payload) × (number_of payload ≡ g)
checkpoint_frame-is numbered s g bytes written frame kind payload other =
    let x = checkpoint_at_start g s in
    let is : IsSpelling format.Two (checkpoint_of g s) x.kind x.payload = record { sound = written; kind_is = refl; payload_is = refl } in
    let n = numbered format.Two g s.base s.floor s.head (reverse s.roots) (nodes_by_name s.nodes) x is in
    let same = frame_is_of_one bytes (checkpoint_kind format.Two) kind x.payload payload frame other in
    (subst (λ k. is_checkpoint k ≡ true) same.0 refl, subst (λ p. 8 ≤ length p) same.1 (long_enough (x ∷ []) x n.0 refl), subst (λ p. number_of p ≡ g) same.1 n.1)

-- the frame of the checkpoint of a new store
pub frame_of_new : (s : Standing) (bytes slice : List ℕ) → s ≡ new_standing format.Two → slice ≡ bytes → IsFrame bytes 5 (record_bytes format.Two (checkpoint_of 1 s)) → IsFrame slice 5 (record_bytes format.Two (checkpoint_of 1 (new_standing format.Two)))
frame_of_new s bytes slice new same is = subst (λ (xs : List ℕ). IsFrame xs 5 (record_bytes format.Two (checkpoint_of 1 (new_standing format.Two)))) (sym same) (subst (λ (t : Standing). IsFrame bytes 5 (record_bytes format.Two (checkpoint_of 1 t))) new is)

-- live records have a lesser generation than the next one
pub older-generation : (rs : List LogRecord) (fmt : Format) (s : Standing) (n g : ℕ) → LeadToStanding rs fmt s → generation_in rs ≡ n → g ≡ n + 1 → generation_of rs < g
older-generation [] fmt s n g leads is next = absurd leads
older-generation (x ∷ xs) fmt s n g leads is next = omega (arith, is, next)
