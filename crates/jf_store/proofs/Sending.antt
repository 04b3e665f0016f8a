-- The value behind the turn may go to another thread as the disk of its engine may; so may a pass, and threads may share such a store.
use denote.RattleType.{RattleType}
use denote.Struct.Struct.{Struct}
use denote.Struct.Declared.{shape}
use denote.Param.Send.{IsSend, IsSync, AllSend, AllSync, view_send, view_sync, recorded_send, recorded_sync, struct_send, struct_sync, sendable}
use Rattle.std.proofs.Crossing.{crosses}
use Rattle.std.proofs.MapsCrossingOver as sets
use Rattle.jf_path.specs.contracts.shared_bytes.SharedBytes as SharedBytes
use Rattle.jf_model.proofs.entries.Entry.TheSendSync as Entry
use Rattle.jf_disk.specs.declared.disk.Disk.{Ghosts}
use Rattle.jf_node.proofs.link.Branches.TheLaws.TheKnot as links
use Rattle.jf_node.specs.contracts.link.Link as Link
use Rattle.jf_node.specs.contracts.shared.SharedRange as SharedRange
use Rattle.jf_node.specs.contracts.snapshot.Snapshot as Snapshot
use Rattle.jf_spec.proofs.node.Node.TheLaws.TheKnot as nodes
use Rattle.jf_spec.specs.contracts.node.Node as Node
use Rattle.jf_spec.specs.contracts.tree.SpecTree as SpecTree
use Rattle.jf_forks.specs.contracts.table.ForkTable as ForkTable
use Rattle.jf_board.proofs.board.Board.TheSendSync as boards
use Rattle.jf_board.proofs.place.Place.TheSendSync as places
use Rattle.jf_board.proofs.pruner.Pruner.TheSendSync as pruners
use Rattle.jf_board.specs.contracts.pruner.Pruner as Pruner
use Rattle.jf_turn.proofs.seat.Seat.TheSendSync as seats
use Rattle.jf_turn.proofs.turn.Turn.TheSendSync as turns
use Rattle.jf_turn.proofs.note.Note.TheSendSync as notes
use Rattle.jf_window.proofs.window.Window.TheSendSync as windows
use Rattle.jf_ghost.proofs.remembered.Remembered.TheSendSync as remembered
use Rattle.jf_engine.specs.contracts.engine.Engine as Engine
use Rattle.jf_engine.specs.contracts.versions_note.VersionsNote as VersionsNote
use Rattle.jf_store.specs.contracts.start.StartNote as StartNote
use Rattle.jf_store.specs.contracts.tried.Tried as Tried
use Rattle.jf_store.specs.contracts.vault.Vault as Vault
use Rattle.jf_store.specs.contracts.vault.Vault.TheInside as inside
use Rattle.jf_store.specs.contracts.boxed_vault.BoxedVault as BoxedVault
use Rattle.jf_store.specs.contracts.boxed_vault.BoxedVault.TheInside as boxed_inside
use Rattle.jf_store.specs.contracts.look.Look as Look
use Rattle.jf_store.specs.contracts.news.ShownLook as ShownLook
use Rattle.jf_store.specs.contracts.news.News as News
use Rattle.jf_store.specs.contracts.pins.Pins as Pins
use Rattle.jf_store.specs.contracts.pins.Pins.TheInside as pins_inside
use Rattle.jf_store.specs.contracts.pass.Pass as Pass
use Rattle.jf_store.specs.contracts.pass.Pass.TheInside as pass_inside
use Rattle.jf_store.specs.contracts.store.Store as Store
use Rattle.jf_store.specs.contracts.store.Store.TheInside as store_inside

-- Bytes that are shared lie too deep for a search from the types above.
SharedBytes-send : IsSend SharedBytes.the_row
SharedBytes-send = search (sendable, crosses) depth 20

SharedBytes-sync : IsSync SharedBytes.the_row
SharedBytes-sync = search (sendable, crosses) depth 20

-- The types that hold themselves, each by the rule that is made for its cycle: no search finds that rule unless it is listed.
Link-send : IsSend Link.the_row
Link-send = search (sendable, crosses, links.both_send-Link, SharedBytes-send, SharedBytes-sync) depth 20

Link-sync : IsSync Link.the_row
Link-sync = search (sendable, crosses, links.both_sync-Link, SharedBytes-send, SharedBytes-sync) depth 20

SharedRange-send : IsSend SharedRange.the_row
SharedRange-send = search (sendable, Link-send) depth 20

SharedRange-sync : IsSync SharedRange.the_row
SharedRange-sync = search (sendable, Link-sync) depth 20

Node-send : IsSend Node.the_row
Node-send = search (sendable, crosses, nodes.both_send-Node, SharedRange-send, SharedRange-sync) depth 20

Snapshot-send : IsSend Snapshot.the_row
Snapshot-send = search (sendable, Link-send) depth 20

SpecTree-send : IsSend SpecTree.the_row
SpecTree-send = search (sendable, Node-send) depth 20

ForkTable-send : IsSend ForkTable.the_row
ForkTable-send = search (sendable, crosses, SpecTree-send, SharedBytes-send) depth 40

Pruner-send : IsSend Pruner.the_row
Pruner-send = pruners.the_send

VersionsNote-send : IsSend VersionsNote.the_row
VersionsNote-send = search (Snapshot-send, remembered.the_send, sendable, crosses, sets.crosses) depth 40 fits 30000

StartNote-send : IsSend StartNote.the_field.row
StartNote-send = search (sendable, VersionsNote-send) depth 40

Tried-send : IsSend Tried.the_row
Tried-send = search (sendable, crosses) depth 40

Engine-send : (D : RattleType) (disk : Ghosts D.Denot) → IsSend D → IsSend (Engine.the_row D disk)
Engine-send D disk send = search (Snapshot-send, sendable, crosses, sets.crosses) depth 40 fits 30000

-- Field by field, since one search for the whole value runs out of steps.
Vault-send : (D : RattleType) (disk : Ghosts D.Denot) → IsSend D → IsSend (Vault.the_row D disk)
Vault-send D disk send =
    let T = inside.the_type D disk in
    let fields : AllSend (shape T).fields =
    (Engine-send D disk send, (ForkTable-send, (Pruner-send, (StartNote-send, (search (Entry.the_send, sendable, crosses) depth 20, (search (Tried-send, sendable) depth 20, tt)))))) in
    let whole : IsSend (inside.the_row D disk) = recorded_send (Struct (shape T)) _ _ T.to_one (struct_send (shape T) fields) in
    view_send (inside.the_row D disk) _ _ _ _ whole

pub BoxedVault-send : (D : RattleType) (disk : Ghosts D.Denot) → IsSend D → IsSend (BoxedVault.the_row D disk)
BoxedVault-send D disk send =
    let T = boxed_inside.the_type D disk in
    let fields : AllSend (shape T).fields = (search (Vault-send, sendable, crosses) depth 20, tt) in
    let whole : IsSend (boxed_inside.the_row D disk) = recorded_send (Struct (shape T)) _ _ T.to_one (struct_send (shape T) fields) in
    view_send (boxed_inside.the_row D disk) _ _ _ _ whole

Pins-send : IsSend Pins.the_row
Pins-send =
    let T = pins_inside.the_type in
    let fields : AllSend (shape T).fields = (places.the_send, (search (Snapshot-send, sendable, crosses) depth 20, tt)) in
    let whole : IsSend pins_inside.the_row = recorded_send (Struct (shape T)) _ _ T.to_one (struct_send (shape T) fields) in
    view_send pins_inside.the_row _ _ _ _ whole

pub Pass-send : (D : RattleType) (disk : Ghosts D.Denot) → IsSend D → IsSend (Pass.the_row D disk)
Pass-send D disk send =
    let T = pass_inside.the_type D disk in
    let fields : AllSend (shape T).fields = (search (seats.the_send, BoxedVault-send) depth 5, (Pins-send, (search sendable depth 5, tt))) in
    let whole : IsSend (pass_inside.the_row D disk) = recorded_send (Struct (shape T)) _ _ T.to_one (struct_send (shape T) fields) in
    view_send (pass_inside.the_row D disk) _ _ _ _ whole

Look-send : IsSend Look.the_field.row
Look-send = search (sendable, Snapshot-send, crosses) depth 20

ShownLook-send : (D : RattleType) (disk : Ghosts D.Denot) → IsSend D → IsSend (ShownLook.the_row D disk)
ShownLook-send D disk send =
    let T = ShownLook.the_type D disk in
    let fields : AllSend (shape T).fields = (search (notes.the_send, BoxedVault-send) depth 5, (Look-send, tt)) in
    recorded_send (Struct (shape T)) _ _ T.to_one (struct_send (shape T) fields)

News-send : (D : RattleType) (disk : Ghosts D.Denot) → IsSend D → IsSend (News.the_row D disk)
News-send D disk send = search (sendable, crosses, ShownLook-send) depth 20

pub Store-sync : (D : RattleType) (disk : Ghosts D.Denot) → IsSend D → IsSync (Store.the_row D disk)
Store-sync D disk send =
    let T = store_inside.the_type D disk in
    let fields : AllSync (shape T).fields = (search (turns.the_sync, BoxedVault-send) depth 5, (boards.the_sync, (search (sendable, crosses, windows.the_sync, News-send) depth 10, tt))) in
    let whole : IsSync (store_inside.the_row D disk) = recorded_sync (Struct (shape T)) _ _ T.to_one (struct_sync (shape T) fields) in
    view_sync (store_inside.the_row D disk) _ _ _ _ whole
