-- The files of a new store represent a new store.
use Rattle.std.specs.Prelude.{map}
use Rattle.std.proofs.Common.{◌≡◌, refl, ◌∙◌, [], ◌∷◌, ap, List, ℕ, ap₂, subst, arith, sym}
use Rattle.std.specs.FinMap as fin
use Rattle.sha2.specs.Sha256.{sha256, digest_bytes, hash_after, compress, rounds, schedule, first_words}
use Rattle.jf_path.specs.Paths.{path_bytes}
use Rattle.jf_path.specs.Numbers.{eight_bytes, eight_bytes as frame_eight}
use Rattle.jf_path.specs.Keys.{IsKey}
use Rattle.jf_path.specs.declared.node.PlainNode.TheVariants as node
use Rattle.jf_hash.specs.Hashes.{E}
use Rattle.jf_hash.specs.Roots.{root}
use Rattle.jf_hash.specs.Slots.{Part}
use Rattle.jf_hash.proofs.RootLaws.{root-empty}
use Rattle.jf_hash.proofs.HashLaws.{E-IsKey}
use Rattle.jf_model.specs.Nodes.{plain_node, Path}
use Rattle.jf_model.proofs.NodeLaws.{nodes-empty}
use Rattle.jf_frame.specs.Framed.{LogRecord}
use Rattle.jf_frame.specs.Framing.{records, records_from, size_of, payload_of, after_record, number_of, frame}
use Rattle.jf_pair.specs.Files.{HoldsLive}
use Rattle.jf_codec.specs.Spelling.{node_bytes}
use Rattle.jf_codec.specs.declared.format.Format.TheVariants as format
use Rattle.jf_payload.specs.declared.records.Record.{Record}
use Rattle.jf_payload.specs.Spelling.{record_bytes, IsCheckpoint, IsSpelling}
use Rattle.jf_payload.specs.Laws.{SpelledIsSpelling}
use Rattle.jf_payload.specs.declared.records.Record.TheVariants as «record»
use Rattle.jf_standing.specs.Named.{NamedNode, not_stale}
use Rattle.jf_standing.specs.Building.{node_of, nodes_by_name, new_standing, checkpoint_of}
use Rattle.jf_standing.specs.OrderLaws.{CheckpointsGive, NewIsSound}
use Rattle.jf_files.specs.NewStore.{empty_root, new_store_payload, new_store_files, new_store_bytes}
use Rattle.jf_files.specs.Files.{generation}
use Rattle.jf_files.specs.Laws.{NewStoreStands}
use Rattle.jf_files.proofs.Stepping.{first_follows}

E_is : E ≡ empty_root
unfolding E sha256 digest_bytes hash_after compress rounds schedule first_words
E_is = refl

root_is : root fin.empty ≡ empty_root
root_is = root-empty ∙ E_is

abbrev one_node : List NamedNode
one_node = (record { version = 0; path = [] }, node.Null, not_stale) ∷ []

abbrev first : Record
first = «record».Checkpoint 1 0 0 0 (empty_root ∷ []) one_node

with_node : nodes_by_name (map (node_of format.Two (λ path. 0)) (([], []) ∷ [])) ≡ one_node
unfolding plain_node
with_node = refl

-- the checkpoint of a new store, written out
pub first_is : checkpoint_of 1 (new_standing format.Two) ≡ first
first_is = ap₂ (λ (r : List ℕ) (ns : List NamedNode). «record».Checkpoint 1 0 0 0 (r ∷ []) ns) root_is (ap (λ (ps : List (Path × Part)). nodes_by_name (map (node_of format.Two (λ path. 0)) ps)) nodes-empty ∙ with_node)

first_bytes : record_bytes format.Two first ≡ new_store_payload
unfolding record_bytes eight_bytes node_bytes path_bytes
first_bytes = refl

first_sound : IsCheckpoint format.Two 1 0 0 0 (empty_root ∷ []) one_node
first_sound = record {
  generation_first = omega arith;
  generation_last = omega arith;
  base_low = omega arith;
  floor_low = omega arith;
  head_last = omega arith;
  root_each = refl;
  hashes = (subst IsKey E_is E-IsKey, tt);
  nodes_fit = ((record { version = omega arith; path = record { short = omega arith; nibbles = tt } }, tt, omega arith), tt);
  names_rise = refl;
  count = omega arith;
}

abbrev framed_first : LogRecord
framed_first = record { kind = 5; offset = 0; payload = new_store_payload }

first_spelled : IsSpelling format.Two (checkpoint_of 1 (new_standing format.Two)) 5 new_store_payload
first_spelled = subst (λ r. IsSpelling format.Two r 5 new_store_payload) (sym first_is) (record { sound = first_sound; kind_is = refl; payload_is = sym first_bytes })

holds_first : HoldsLive new_store_files (framed_first ∷ [])
unfolding records records_from size_of payload_of after_record number_of
holds_first = record { a_records = framed_first ∷ []; b_records = []; a_held = refl; b_held = refl; a_begun = refl; b_begun = refl; apart = refl; live = refl }

first_generation : generation new_store_files ≡ 1
unfolding generation records records_from size_of payload_of after_record number_of
first_generation = refl

framed_bytes : 1 ∷ frame 5 new_store_payload ≡ new_store_bytes
unfolding frame_eight
framed_bytes = refl

pub new_store_stands : SpelledIsSpelling → CheckpointsGive → NewIsSound → NewStoreStands
new_store_stands spelling gives law = (
  record { live = framed_first ∷ []; held = holds_first; leads = first_follows spelling gives law format.Two 1 framed_first first_spelled },
  first_generation,
  ap (λ bytes. 1 ∷ frame 5 bytes) (ap (record_bytes format.Two) first_is ∙ first_bytes) ∙ framed_bytes,
)
