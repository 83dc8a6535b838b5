-- One row more, and the end.
use Rattle.std.proofs.Common.{◌≡◌, ◌++◌, length, take, ap, ◌∙◌, arith}
use Rattle.read_cursor.specs.Reading.{Reading, rows_left}
use Rattle.drill.proofs.ReadLemmas.{row_more, all_taken}
use Rattle.drill.proofs.drain_reads.read_some.Goals as goal

pub loop-preserved : goal.loop-preserved
loop-preserved c =
    let e = rw c.if-not-branch.false at c.in_ok-read_one.ensures in
    record { sum = row_more _ c.loop.rows.items c.read_one.new.rows.items _ _ e.0 c.args.count c.loop.counter c.loop-test.true c.loop.invariant.sum e.1 e.2 }

pub returns : goal.returns
returns c =
    let size : c.len.result ≡ length c.args.rows.now.items = omega (arith, c.len.ensures, c.args.rows.now.ok) in
    let start : c.new-cursor.result ≡ record { lease = c.args.lease; at = length c.args.rows.now.items } =
    c.new-cursor.ensures ∙ ap (λ n. let reading : Reading = record { lease = c.args.lease; at = n } in reading) size in
    all_taken _ c.loop.rows.items (rows_left c.loop.cursor) c.args.count c.loop.counter c.loop.invariant.sum c.loop-test.false
    ∙ ap (λ (reading : Reading). c.args.rows.now.items ++ take c.args.count (rows_left reading)) start
