use denote.Exit.{yes}
use denote.Param.Send.{param_send, param_sync, arg_send, arg_sync}
use Rattle.test_passes.proofs.Sending.{MemPass-send, MemStore-sync}
use Rattle.test_passes.proofs.shown.look_beside.Goals as goal

pub side_by_side-requires-send-P : goal.side_by_side-requires-send-P
side_by_side-requires-send-P g c κs within = param_send 1 _ (arg_send _ yes _ MemPass-send)

pub side_by_side-requires-sync-S : goal.side_by_side-requires-sync-S
side_by_side-requires-sync-S g c κs within = param_sync 0 _ (arg_sync _ yes _ MemStore-sync)
