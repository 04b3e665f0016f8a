-- The result of a session may go to another thread as the disk of its store may.
use denote.RattleType.{RattleType}
use denote.Param.Send.{IsSend, sendable}
use Rattle.std.proofs.Crossing.{crosses}
use Rattle.jf_disk.specs.declared.disk.Disk.{Ghosts}
use Rattle.jf_store.proofs.Sending.{Pass-send}
use Rattle.jf_serve.specs.contracts.one_session.SessionRan as SessionRan

pub SessionRan-send : (D : RattleType) (disk : Ghosts D.Denot) → IsSend D → IsSend (SessionRan.the_row D disk)
SessionRan-send D disk send = search (Pass-send, sendable, crosses) depth 20
