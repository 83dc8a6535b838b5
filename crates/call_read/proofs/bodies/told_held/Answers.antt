-- The body is to give the responses of all rows from the offset on.
use mir.Syntax.{w64}
use Rattle.std.proofs.Common.{rules, ◌≡◌, pos, false, subst}
use Rattle.std.proofs.lemmas.Int.{to_z-of_z}
use Rattle.std.specs.Prelude.{int_le, int_lt, nat_abs}
use Rattle.std.specs.Int.{int_max}
use Rattle.rows_body.specs.Rows.{items_of}
use Rattle.call_read.proofs.HeldLemmas.{held-items}
use Rattle.call_read.proofs.bodies.told_held.Goals as goal

pub returns : goal.returns
returns c =
    let fresh : int_le c.args.held.expires (int_max c.args.held.moment c.args.now) ≡ false = search rules in
    let sign : int_lt c.args.offset (pos 0) ≡ false = search rules in
    let items = subst (λ offset. c.new-body.result.left ≡ items_of c.args.schema.now (record { lease = c.args.held.lease; at = nat_abs offset })) (to_z-of_z w64 c.args.offset c.ranges.offset) c.new-body.ensures.left in
    held-items c.args.schema.now c.args.held c.args.offset c.args.now c.new-body.result.left fresh sign items
