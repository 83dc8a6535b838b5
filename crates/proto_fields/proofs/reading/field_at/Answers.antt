use Rattle.std.proofs.Common.{refl, arith}
use Rattle.proto_fields.proofs.RecordLemmas.{from_place, record_at-placed}
use Rattle.proto_fields.proofs.reading.field_at.Goals as goal

pub overflow_sub-next : goal.overflow_sub-next
overflow_sub-next c =
    let placed = record_at-placed c.args.bytes.now c.args.at c.in_ok-number.number c.in_ok-number.raw c.in_ok-number.rest.now (omega arith) c.in_ok-number.ensures in
    omega (arith, placed.next)

pub value_before-value-requires-clause-inside : goal.value_before-value-requires-clause-inside
value_before-value-requires-clause-inside c =
    (record_at-placed c.args.bytes.now c.args.at c.in_ok-number.number c.in_ok-number.raw c.in_ok-number.rest.now (omega arith) c.in_ok-number.ensures).small

pub returns-clause-read : goal.returns-clause-read
returns-clause-read c =
    let placed = record_at-placed c.args.bytes.now c.args.at c.in_ok-number.number c.in_ok-number.raw c.in_ok-number.rest.now (omega arith) c.in_ok-number.ensures in
    rw (c.value_before-value.ensures, placed.says, ← placed.ending) (rw from_place at c.in_ok-number.ensures)

pub returns-clause-next : goal.returns-clause-next
returns-clause-next c =
    let placed = record_at-placed c.args.bytes.now c.args.at c.in_ok-number.number c.in_ok-number.raw c.in_ok-number.rest.now (omega arith) c.in_ok-number.ensures in
    rw (c.value_before-value.ensures, placed.size) (placed.next, omega arith)

pub returns-clause-within : goal.returns-clause-within
returns-clause-within c =
    let placed = record_at-placed c.args.bytes.now c.args.at c.in_ok-number.number c.in_ok-number.raw c.in_ok-number.rest.now (omega arith) c.in_ok-number.ensures in
    rw c.value_before-value.ensures placed.within

pub returns-clause-value : goal.returns-clause-value
returns-clause-value c =
    let placed = record_at-placed c.args.bytes.now c.args.at c.in_ok-number.number c.in_ok-number.raw c.in_ok-number.rest.now (omega arith) c.in_ok-number.ensures in
    rw (c.value_before-value.ensures, placed.says) refl
