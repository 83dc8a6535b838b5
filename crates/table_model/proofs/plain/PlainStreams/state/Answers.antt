-- A stream has no more rows than all rows weigh.
use Rattle.std.proofs.Common.{length, arith}
use Rattle.table_model.proofs.WeightLemmas.{end_of-le-weight}
use Rattle.table_model.proofs.plain.PlainStreams.state.Goals as goal

pub end-requires : goal.end-requires
end-requires c =
    let rows = end_of-le-weight (length c.self.inside.schema) c.self.inside.entries.items c.args.stream in
    let light = c.self.invariant.light in
    rw c.as_slice-entries.ensures.value (omega arith)
