-- What a format keeps of a record: format 1 leaves out the counts of entries in nodes.
use Rattle.std.specs.Prelude.{ℕ, List, map}
use Rattle.jf_path.specs.declared.name.NodeName.{NodeName}
use Rattle.jf_path.specs.declared.node.PlainNode.{PlainNode}
use Rattle.jf_codec.specs.declared.format.Format.{Format}
use Rattle.jf_codec.specs.Counted.{in_format}
use Rattle.jf_payload.specs.declared.records.Commit.{Commit}
use Rattle.jf_payload.specs.declared.records.Record.{Record}
use Rattle.jf_payload.specs.declared.records.Record.TheVariants as «record»

-- what a format keeps of a named node
abbrev pub written_in_format : Format → NodeName × PlainNode → NodeName × PlainNode
written_in_format fmt x = (x.0, in_format fmt x.1)

-- what a format keeps of a landing
abbrev pub commit_in : Format → Commit → Commit
commit_in fmt c = record { version = c.version; root = c.root; fresh = map (λ x. (x.0, in_format fmt x.1)) c.fresh; stale = c.stale }

-- what a format keeps of the nodes of a checkpoint
abbrev pub nodes_in : Format → List (NodeName × PlainNode × ℕ) → List (NodeName × PlainNode × ℕ)
nodes_in fmt nodes = map (λ n. (n.0, in_format fmt n.1, n.2)) nodes

-- what a format keeps of a record
abbrev pub record_in : Format → Record → Record
record_in fmt («record».Floor floor) = «record».Floor floor
record_in fmt («record».NodeCommit c) = «record».NodeCommit (commit_in fmt c)
record_in fmt («record».Checkpoint generation base floor head roots nodes) = «record».Checkpoint generation base floor head roots (nodes_in fmt nodes)
record_in fmt («record».Group cs) = «record».Group (map (commit_in fmt) cs)
