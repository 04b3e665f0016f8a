-- A pass of a store over a disk in memory may go to another thread, and threads may share such a store.
use denote.Param.Send.{IsSend, IsSync}
use Rattle.jf_disk.proofs.memory.MemDisk.TheSendSync as disks
use Rattle.jf_disk.specs.contracts.memory.MemDisk as MemDisk
use Rattle.jf_disk.specs.contracts.memory.MemDiskDisk.TheImpl.{ghosts}
use Rattle.jf_store.specs.contracts.pass.Pass as Pass
use Rattle.jf_store.specs.contracts.store.Store as Store
use Rattle.jf_store.proofs.Sending.{Pass-send, Store-sync}

pub MemPass-send : IsSend (Pass.the_row MemDisk.the_row ghosts)
MemPass-send = Pass-send MemDisk.the_row ghosts disks.the_send

pub MemStore-sync : IsSync (Store.the_row MemDisk.the_row ghosts)
MemStore-sync = Store-sync MemDisk.the_row ghosts disks.the_send
