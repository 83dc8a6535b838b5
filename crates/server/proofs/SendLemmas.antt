-- What workers hold goes to other threads: passes, the tables' machines behind their turns, hands at the queue and links.
use Rattle.std.proofs.Crossing.{crosses, Vec-send}
use Rattle.std.proofs.MapsCrossing.{crosses as maps}
use denote.Param.Send.{IsSend, IsSync, sendable}
use denote.RattleType.{RattleType}
use denote.Hole.{as_row}
use denote.Struct.Field.{row_field, u32-field}
use denote.Param.SendFields.{as_row_send, as_row_sync, declared_send, variants_send, variants_sync}
use Rattle.sqlite_items.specs.contracts.items.Items as items
use Rattle.column_types.specs.contracts.predicate.Op as op
use Rattle.column_types.specs.contracts.cell.Cell as cell
use denote.Hole.FixSend.{Sends, Syncs, fix_send, fix_sync}
use Rattle.sqlite_items.specs.contracts.boxed.Boxed as boxed
use Rattle.column_types.specs.contracts.predicate.Pred.TheKnot as knot
use Rattle.column_types.specs.contracts.predicate.Pred as pred
use Rattle.split_tree.specs.contracts.tree.Tree as tree
use Rattle.std.specs.contracts.sync.Arc as arc
use Rattle.std.specs.contracts.alloc.Global as heap
use Rattle.std.specs.contracts.impls.GlobalAllocator.TheImpl.{ghosts}
use Rattle.column_types.specs.contracts.row.Row as row
use Rattle.column_types.specs.contracts.fields.Fields as fields
use Rattle.row_groups.specs.contracts.slice.Slice as slice
use Rattle.row_groups.specs.contracts.spine.Spine as spine
use Rattle.row_groups.specs.contracts.groups.Groups as groups
use Rattle.read_sessions.specs.contracts.session.Session as session
use Rattle.read_sessions.specs.contracts.book.SessionBook as book
use Rattle.table_engine.specs.contracts.kept.KeptEntry as kept
use Rattle.table_spec.specs.contracts.spec.TableSpec as spec
use Rattle.atomic_table.proofs.send_lease.SendLease.TheSendSync as lease
use Rattle.atomic_table.proofs.ruled.RuledPerch.TheSendSync as perch
use Rattle.atomic_table.proofs.ruled.Mark.TheSendSync as mark
use Rattle.atomic_table.proofs.shared.Seat.TheSendSync.{the_send as seat_send}
use Rattle.atomic_table.proofs.shared.Shared.TheSendSync as board
use Rattle.open_tables.specs.contracts.passes.Passes as passes
use Rattle.open_tables.specs.contracts.tables.Tables as tables
use Rattle.table_engine.specs.contracts.waiting.Waiting as waiting
use Rattle.table_engine.specs.contracts.engine.Engine as engine
use Rattle.std.specs.contracts.vec.Vec as vec
use Rattle.std.specs.contracts.option.Option as option
use Rattle.std.specs.contracts.result.Result as result
use Rattle.std.specs.contracts.alloc.AllocError as wanting
use Rattle.links.specs.declared.link.Link as link
use Rattle.job_queue.specs.contracts.queue.Queue as queue
use Rattle.job_queue.specs.contracts.queue.Hand as hand
use Rattle.server.specs.contracts.workers.Job as job
use Rattle.server.specs.contracts.workers.Worker as worker

boxed_send : (R : RattleType) → IsSend R → IsSend (boxed.the_row R)
boxed_send R s = search (crosses, maps, sendable) depth 20

boxed_sync : (R : RattleType) → IsSync R → IsSync (boxed.the_row R)
boxed_sync R s = search (crosses, maps, sendable) depth 20

u32_send : IsSend (as_row u32-field)
u32_send = as_row_send u32-field (search sendable)

u32_sync : IsSync (as_row u32-field)
u32_sync = as_row_sync u32-field (search sendable)

op_send : IsSend op.the_row
op_send = search (crosses, maps, sendable) depth 20

op_sync : IsSync op.the_row
op_sync = search (crosses, maps, sendable) depth 20

cell_send : IsSend cell.the_row
cell_send = search (crosses, maps, sendable) depth 20

cell_sync : IsSync cell.the_row
cell_sync = search (crosses, maps, sendable) depth 20

cells_send : IsSend (items.the_row cell.the_row)
cells_send = search (cell_send, crosses, maps, sendable) depth 20

cells_sync : IsSync (items.the_row cell.the_row)
cells_sync = search (cell_sync, crosses, maps, sendable) depth 20

-- one layer of a predicate, at any row in its place
layer_send : (h : RattleType) → IsSend h → IsSend (knot.layer-Pred h h h h h)
layer_send h s =
    let u = as_row_send (row_field (as_row u32-field)) u32_send in
    let b = as_row_send (row_field (boxed.the_row h)) (boxed_send h s) in
    variants_send (knot.type-Pred h h h h h) (
      tt,
      (
        (u, (as_row_send (row_field (as_row op.the_field)) op_send, (as_row_send (row_field (as_row cell.the_field)) cell_send, tt))),
        ((u, (as_row_send (row_field (as_row (items.the_field cell.the_row))) cells_send, tt)), ((u, tt), ((b, (b, tt)), ((b, (b, tt)), ((b, tt), tt))))),
      ),
    )

layer_sync : (h : RattleType) → IsSync h → IsSync (knot.layer-Pred h h h h h)
layer_sync h s =
    let u = as_row_sync (row_field (as_row u32-field)) u32_sync in
    let b = as_row_sync (row_field (boxed.the_row h)) (boxed_sync h s) in
    variants_sync (knot.type-Pred h h h h h) (
      tt,
      (
        (u, (as_row_sync (row_field (as_row op.the_field)) op_sync, (as_row_sync (row_field (as_row cell.the_field)) cell_sync, tt))),
        ((u, (as_row_sync (row_field (as_row (items.the_field cell.the_row))) cells_sync, tt)), ((u, tt), ((b, (b, tt)), ((b, (b, tt)), ((b, tt), tt))))),
      ),
    )

hole_send : IsSend pred.the_hole
hole_send = fix_send pred.the_ring (pred.by_members (Sends pred.the_ring) (record { send = λ h all. layer_send (h pred.the_member) (all pred.the_member) })) pred.the_member

hole_sync : IsSync pred.the_hole
hole_sync = fix_sync pred.the_ring (pred.by_members (Syncs pred.the_ring) (record { sync = λ h all. layer_sync (h pred.the_member) (all pred.the_member) })) pred.the_member

pub pred_send : IsSend pred.the_row
pred_send =
    let b = as_row_send (row_field (boxed.the_row pred.the_hole)) (boxed_send pred.the_hole hole_send) in
    variants_send pred.enum (
      tt,
      (
        (u32_send, (op_send, (cell_send, tt))),
        ((u32_send, (cells_send, tt)), ((u32_send, tt), ((b, (b, tt)), ((b, (b, tt)), ((b, tt), tt))))),
      ),
    )

pub pred_sync : IsSync pred.the_row
pred_sync =
    let b = as_row_sync (row_field (boxed.the_row pred.the_hole)) (boxed_sync pred.the_hole hole_sync) in
    variants_sync pred.enum (
      tt,
      (
        (u32_sync, (op_sync, (cell_sync, tt))),
        ((u32_sync, (cells_sync, tt)), ((u32_sync, tt), ((b, (b, tt)), ((b, (b, tt)), ((b, tt), tt))))),
      ),
    )

pub row_send : IsSend row.the_row
row_send = search (crosses, maps, sendable) depth 20

pub row_sync : IsSync row.the_row
row_sync = search (crosses, maps, sendable) depth 20

pub fields_send : IsSend fields.the_row
fields_send = search (crosses, maps, sendable) depth 20

pub slice_send : IsSend slice.the_row
slice_send = search (row_send, row_sync, crosses, maps, sendable) depth 20

pub slice_sync : IsSync slice.the_row
slice_sync = search (row_send, row_sync, crosses, maps, sendable) depth 20

pub spine_send : IsSend spine.the_row
spine_send = search (slice_send, slice_sync, crosses, maps, sendable) depth 20

pub spine_sync : IsSync spine.the_row
spine_sync = search (slice_send, slice_sync, crosses, maps, sendable) depth 20

pub fields_sync : IsSync fields.the_row
fields_sync = search (crosses, maps, sendable) depth 20

arc_pred_send : IsSend (arc.the_row pred.the_row heap.the_row ghosts)
arc_pred_send = search (pred_send, pred_sync, crosses, maps) depth 20

arc_fields_send : IsSend (arc.the_row fields.the_row heap.the_row ghosts)
arc_fields_send = search (fields_send, fields_sync, crosses, maps) depth 20

tree_send : IsSend tree.the_row
tree_send = search (crosses, maps, sendable) depth 20

pub session_send : IsSend session.the_row
session_send = search (arc_pred_send, arc_fields_send, tree_send, crosses, maps, sendable) depth 20

book_send : IsSend book.the_row
book_send = search (session_send, crosses, maps, sendable) depth 20

kept_send : IsSend kept.the_row
kept_send = search (arc_pred_send, arc_fields_send, row_send, row_sync, crosses, maps, sendable) depth 40

waiting_send : IsSend waiting.the_row
waiting_send = search (slice_send, crosses, maps, sendable) depth 20

groups_send : IsSend groups.the_row
groups_send = search (spine_send, spine_sync, crosses, maps, sendable) depth 20

pub engine_send : IsSend engine.the_row
engine_send = search (book_send, kept_send, waiting_send, groups_send, crosses, maps, sendable) depth 30

pub passes_send : IsSend passes.the_row
passes_send = search (engine_send, seat_send, crosses, maps, sendable) depth 40

spec_sync : IsSync spec.the_row
spec_sync = search (crosses, maps, sendable) depth 50

pub tables_sync : IsSync tables.the_row
tables_sync = search (engine_send, spec_sync, board.the_sync, lease.the_sync, crosses, maps, sendable) depth 40

wanting_send : IsSend wanting.the_row
wanting_send = search sendable depth 20

ruleset queued = (perch.the_send, perch.the_sync, mark.the_send, seat_send, board.the_sync, lease.the_sync)

hand_send : (T : RattleType) → IsSend T → IsSend (hand.the_row T)
hand_send T s = search (queued, crosses, maps, sendable) depth 40

queue_sync : (T : RattleType) → IsSend T → IsSync (queue.the_row T)
queue_sync T s = search (queued, crosses, maps, sendable) depth 40

module _ (L : RattleType) (l : link.Ghosts L.Denot) (s : IsSend L) where
  job_send : IsSend (job.the_row L l)
  job_send = search (crosses, maps, sendable) depth 20

  -- a queue of jobs
  pub jobs_sync : IsSync (queue.the_row (job.the_row L l))
  jobs_sync = queue_sync (job.the_row L l) job_send

  module _ (C : RattleType) (t : IsSend C) where
    abbrev crew : RattleType
    crew = vec.the_row (worker.the_row L C l) heap.the_row ghosts

    pub worker_send : IsSend (worker.the_row L C l)
    worker_send = declared_send (worker.the_type L C l) (passes_send, (as_row_send (row_field C) t, (hand_send (job.the_row L l) job_send, (Vec-send L s, tt))))

    crew_send : IsSend crew
    crew_send = Vec-send (worker.the_row L C l) worker_send

    pub held_send : IsSend (option.the_row crew)
    held_send = variants_send (option.enum crew) (tt, ((as_row_send (row_field crew) crew_send, tt), tt))

    pub worked_send : IsSend (result.the_row crew wanting.the_row)
    worked_send = variants_send (result.enum crew wanting.the_row)
        ((as_row_send (row_field crew) crew_send, tt), ((as_row_send (row_field wanting.the_row) wanting_send, tt), tt))
