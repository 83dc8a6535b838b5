-- A refusal is the answer of the rules; an accepted append stands at the end, and the end fits.
use Rattle.std.proofs.Common.{arith, refl}
use Rattle.table_model.proofs.OpaqueLemmas.{answer_of-place, answer_of-room, end-light}
use Rattle.table_model.proofs.opaque_rows.Opaque.append.Goals as goal

pub returns-in-Some : goal.returns-in-Some
returns-in-Some c =
    rw (← c.self.view_is, c.of.ensures) (
      answer_of-place c.self.inside.entries.items c.args.offset c.args.rows.items c.self.inside.end c.in-Some.why c.self.invariant.end_is
          (rw c.as_slice.ensures.value at c.in-Some.ensures),
      refl,
    )

pub overflow_add-self : goal.overflow_add-self
overflow_add-self c =
    let few = end-light c.self.inside.entries.items c.args.rows.items c.self.inside.end c.self.inside.weight c.in-Some-weight_within.weight
    c.self.invariant (rw c.as_slice-2.ensures.value at c.in-Some-weight_within.ensures.0) c.in-Some-weight_within.ensures.1 in
    omega arith

pub returns : goal.returns
returns c =
    rw (← c.self.view_is) (
      answer_of-room c.self.inside.entries.items c.args.offset c.args.rows.items c.self.inside.end c.self.inside.weight c.in-Some-weight_within.weight
          c.self.invariant (rw c.as_slice.ensures.value at c.in-None.ensures) (rw c.as_slice-2.ensures.value at c.in-Some-weight_within.ensures.0) c.in-Some-weight_within.ensures.1 (omega arith),
      (rw c.from_vec.ensures at c.in_ok-push.ensures.items),
    )
