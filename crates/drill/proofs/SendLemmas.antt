-- What the drill's threads hold and share goes to other threads: passes, and the table's machine behind its turn.
use Rattle.std.proofs.Crossing.{crosses}
use Rattle.std.proofs.MapsCrossing.{crosses as maps}
use denote.Param.Send.{IsSend, IsSync, sendable}
use denote.RattleType.{RattleType}
use denote.Hole.{as_row}
use denote.Struct.Field.{row_field, u32-field}
use denote.Param.SendFields.{as_row_send, as_row_sync, variants_send, variants_sync}
use Rattle.sqlite_items.specs.contracts.items.Items as items
use Rattle.column_types.specs.contracts.predicate.Op as op
use Rattle.column_types.specs.contracts.cell.Cell as cell
use denote.Hole.FixSend.{Sends, Syncs, fix_send, fix_sync}
use Rattle.sqlite_items.specs.contracts.boxed.Boxed as boxed
use Rattle.column_types.specs.contracts.predicate.Pred.TheKnot as knot
use Rattle.column_types.specs.contracts.predicate.Pred as pred
use Rattle.split_tree.specs.contracts.tree.Tree as tree
use Rattle.std.specs.contracts.sync.Arc as arc
use Rattle.std.specs.contracts.alloc.Global as heap
use Rattle.std.specs.contracts.impls.GlobalAllocator.TheImpl.{ghosts}
use Rattle.column_types.specs.contracts.row.Row as row
use Rattle.column_types.specs.contracts.fields.Fields as fields
use Rattle.row_groups.specs.contracts.slice.Slice as slice
use Rattle.row_groups.specs.contracts.spine.Spine as spine
use Rattle.row_groups.specs.contracts.groups.Groups as groups
use Rattle.read_sessions.specs.contracts.session.Session as session
use Rattle.read_sessions.specs.contracts.book.SessionBook as book
use Rattle.table_engine.specs.contracts.kept.KeptEntry as kept
use Rattle.atomic_table.proofs.send_lease.SendLease.TheSendSync as lease
use Rattle.atomic_table.proofs.shared.Seat.TheSendSync.{the_send as seat_send}
use Rattle.atomic_table.proofs.shared.Shared.TheSendSync as board
use Rattle.table_engine.specs.contracts.waiting.Waiting as waiting
use Rattle.table_engine.specs.contracts.engine.Engine as engine
use Rattle.turn_table.specs.contracts.turn.Turn as turn
use Rattle.table_engine.specs.contracts.engine.EngineMachine.TheImpl.{ghosts as machine}
use Rattle.table_engine.specs.contracts.looks.Key as key
use Rattle.table_engine.specs.contracts.looks.Held as held
use Rattle.table_model.specs.contracts.commands.Command as command
use Rattle.table_model.specs.contracts.replies.Reply as reply
use Rattle.table_model.specs.contracts.entries.Entry as entry
use Rattle.column_types.specs.contracts.schema.Schema as schema
use Rattle.std.specs.contracts.option.Option as option
use Rattle.drill.specs.contracts.crew.Job as job
use Rattle.drill.specs.contracts.crew.Done as done

boxed_send : (R : RattleType) → IsSend R → IsSend (boxed.the_row R)
boxed_send R s = search (crosses, maps, sendable) depth 20

boxed_sync : (R : RattleType) → IsSync R → IsSync (boxed.the_row R)
boxed_sync R s = search (crosses, maps, sendable) depth 20

u32_send : IsSend (as_row u32-field)
u32_send = as_row_send u32-field (search sendable)

u32_sync : IsSync (as_row u32-field)
u32_sync = as_row_sync u32-field (search sendable)

op_send : IsSend op.the_row
op_send = search (crosses, maps, sendable) depth 20

op_sync : IsSync op.the_row
op_sync = search (crosses, maps, sendable) depth 20

cell_send : IsSend cell.the_row
cell_send = search (crosses, maps, sendable) depth 20

cell_sync : IsSync cell.the_row
cell_sync = search (crosses, maps, sendable) depth 20

cells_send : IsSend (items.the_row cell.the_row)
cells_send = search (cell_send, crosses, maps, sendable) depth 20

cells_sync : IsSync (items.the_row cell.the_row)
cells_sync = search (cell_sync, crosses, maps, sendable) depth 20

-- one layer of a predicate, at any row in its place
layer_send : (h : RattleType) → IsSend h → IsSend (knot.layer-Pred h h h h h)
layer_send h s =
    let u = as_row_send (row_field (as_row u32-field)) u32_send in
    let b = as_row_send (row_field (boxed.the_row h)) (boxed_send h s) in
    variants_send (knot.type-Pred h h h h h) (
      tt,
      (
        (u, (as_row_send (row_field (as_row op.the_field)) op_send, (as_row_send (row_field (as_row cell.the_field)) cell_send, tt))),
        ((u, (as_row_send (row_field (as_row (items.the_field cell.the_row))) cells_send, tt)), ((u, tt), ((b, (b, tt)), ((b, (b, tt)), ((b, tt), tt))))),
      ),
    )

layer_sync : (h : RattleType) → IsSync h → IsSync (knot.layer-Pred h h h h h)
layer_sync h s =
    let u = as_row_sync (row_field (as_row u32-field)) u32_sync in
    let b = as_row_sync (row_field (boxed.the_row h)) (boxed_sync h s) in
    variants_sync (knot.type-Pred h h h h h) (
      tt,
      (
        (u, (as_row_sync (row_field (as_row op.the_field)) op_sync, (as_row_sync (row_field (as_row cell.the_field)) cell_sync, tt))),
        ((u, (as_row_sync (row_field (as_row (items.the_field cell.the_row))) cells_sync, tt)), ((u, tt), ((b, (b, tt)), ((b, (b, tt)), ((b, tt), tt))))),
      ),
    )

hole_send : IsSend pred.the_hole
hole_send = fix_send pred.the_ring (pred.by_members (Sends pred.the_ring) (record { send = λ h all. layer_send (h pred.the_member) (all pred.the_member) })) pred.the_member

hole_sync : IsSync pred.the_hole
hole_sync = fix_sync pred.the_ring (pred.by_members (Syncs pred.the_ring) (record { sync = λ h all. layer_sync (h pred.the_member) (all pred.the_member) })) pred.the_member

pred_send : IsSend pred.the_row
pred_send =
    let b = as_row_send (row_field (boxed.the_row pred.the_hole)) (boxed_send pred.the_hole hole_send) in
    variants_send pred.enum (
      tt,
      (
        (u32_send, (op_send, (cell_send, tt))),
        ((u32_send, (cells_send, tt)), ((u32_send, tt), ((b, (b, tt)), ((b, (b, tt)), ((b, tt), tt))))),
      ),
    )

pred_sync : IsSync pred.the_row
pred_sync =
    let b = as_row_sync (row_field (boxed.the_row pred.the_hole)) (boxed_sync pred.the_hole hole_sync) in
    variants_sync pred.enum (
      tt,
      (
        (u32_sync, (op_sync, (cell_sync, tt))),
        ((u32_sync, (cells_sync, tt)), ((u32_sync, tt), ((b, (b, tt)), ((b, (b, tt)), ((b, tt), tt))))),
      ),
    )

row_send : IsSend row.the_row
row_send = search (crosses, maps, sendable) depth 20

row_sync : IsSync row.the_row
row_sync = search (crosses, maps, sendable) depth 20

fields_send : IsSend fields.the_row
fields_send = search (crosses, maps, sendable) depth 20

slice_send : IsSend slice.the_row
slice_send = search (row_send, row_sync, crosses, maps, sendable) depth 20

slice_sync : IsSync slice.the_row
slice_sync = search (row_send, row_sync, crosses, maps, sendable) depth 20

spine_send : IsSend spine.the_row
spine_send = search (slice_send, slice_sync, crosses, maps, sendable) depth 20

spine_sync : IsSync spine.the_row
spine_sync = search (slice_send, slice_sync, crosses, maps, sendable) depth 20

fields_sync : IsSync fields.the_row
fields_sync = search (crosses, maps, sendable) depth 20

arc_pred_send : IsSend (arc.the_row pred.the_row heap.the_row ghosts)
arc_pred_send = search (pred_send, pred_sync, crosses, maps) depth 20

arc_fields_send : IsSend (arc.the_row fields.the_row heap.the_row ghosts)
arc_fields_send = search (fields_send, fields_sync, crosses, maps) depth 20

tree_send : IsSend tree.the_row
tree_send = search (crosses, maps, sendable) depth 20

session_send : IsSend session.the_row
session_send = search (arc_pred_send, arc_fields_send, tree_send, crosses, maps, sendable) depth 20

book_send : IsSend book.the_row
book_send = search (session_send, crosses, maps, sendable) depth 20

kept_send : IsSend kept.the_row
kept_send = search (arc_pred_send, arc_fields_send, row_send, row_sync, crosses, maps, sendable) depth 40

waiting_send : IsSend waiting.the_row
waiting_send = search (slice_send, crosses, maps, sendable) depth 20

groups_send : IsSend groups.the_row
groups_send = search (spine_send, spine_sync, crosses, maps, sendable) depth 20

engine_send : IsSend engine.the_row
engine_send = search (book_send, kept_send, waiting_send, groups_send, crosses, maps, sendable) depth 30

pub job_send : IsSend job.the_row
job_send = search (engine_send, seat_send, crosses, maps, sendable) depth 40

pub done_send : IsSend done.the_row
done_send = search (engine_send, seat_send, crosses, maps, sendable) depth 40

pub turn_sync : IsSync (turn.the_row engine.the_row command.the_row reply.the_row entry.the_row schema.the_row key.the_row (option.the_row held.the_row) machine)
turn_sync = search (engine_send, board.the_sync, lease.the_sync, crosses, maps, sendable) depth 40
