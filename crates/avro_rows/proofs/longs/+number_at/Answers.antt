-- What the first byte, and the rest of the number, say of the number that stands there.
use Rattle.std.proofs.Common.{◌≡◌, ◌≤◌, ◌/◌, ◌+◌, ◌*◌, ◌-◌, sym, ◌∙◌, arith}
use Rattle.avro_rows.proofs.LongLemmas.{empty-is_none, first-below, read-small, small-is, rest_of_number, rest-is, number_of_rest}
use Rattle.avro_rows.proofs.longs.+number_at.Goals as goal

pub returns-in_default : goal.returns-in_default
returns-in_default t c = λ number more most is. empty-is_none _ number more c.in_default.ensures.cases is

pub returns-then-low-limit : goal.returns-then-low-limit
returns-then-low-limit t c = (
  c.if-low-limit.true,
  rw c.from-low.ensures (read-small _ c.in-Some.rest.now c.in-Some.first.now c.in-Some.ensures.cases.0 (omega arith)),
)

pub returns-else-low-limit : goal.returns-else-low-limit
returns-else-low-limit t c = λ number more most is.
    let same = small-is _ _ more c.in-Some.first.now number c.in-Some.ensures.cases.0 (omega arith) is in omega arith

pub returns-then-limit-lt128 : goal.returns-then-limit-lt128
returns-then-limit-lt128 t c = λ number more most is.
    let parts = rest_of_number c.in-Some.first.now number _ more (omega arith) (sym c.in-Some.ensures.cases.0 ∙ is) in
    let large : 128 ≤ number = parts.0 in
    omega arith

pub returns-in_default-number_at : goal.returns-in_default-number_at
returns-in_default-number_at t c = λ number more most is.
    let parts = rest_of_number c.in-Some.first.now number _ more (omega arith) (sym c.in-Some.ensures.cases.0 ∙ is) in
    c.in_default-number_at.ensures (number / 128) more (omega arith) parts.2

pub returns-then-high-eq0 : goal.returns-then-high-eq0
returns-then-high-eq0 t c = λ number more most is.
    let found = rest-is _ _ more _ c.in-Some.first.now number c.in-Some-number_at.high c.in-Some.ensures.cases.0 (omega arith) is c.in-Some-number_at.ensures.1 in
    let large : 128 ≤ number = found.0 in
    let value : number ≡ c.in-Some-number_at.high * 128 + (c.in-Some.first.now - 128) = found.1 in
    let byte = first-below _ _ c.in-Some.first.now c.in-Some.ensures.cases.0 (λ i. omega (arith, c.type_inv.bytes i)) in
    omega arith

pub returns-then-number-limit : goal.returns-then-number-limit
returns-then-number-limit t c =
    let byte = first-below _ _ c.in-Some.first.now c.in-Some.ensures.cases.0 (λ i. omega (arith, c.type_inv.bytes i)) in
    let spelled =
    number_of_rest c.in-Some.first.now c.in-Some-number_at.high _ c.in-Some-number_at.rest.now (omega arith) byte (omega arith) c.in-Some-number_at.ensures.1
    in
    (c.if-number-limit.true, rw c.from-low.ensures (c.in-Some.ensures.cases.0 ∙ spelled))

pub returns-else-number-limit : goal.returns-else-number-limit
returns-else-number-limit t c = λ number more most is.
    let found = rest-is _ _ more _ c.in-Some.first.now number c.in-Some-number_at.high c.in-Some.ensures.cases.0 (omega arith) is c.in-Some-number_at.ensures.1 in
    let value : number ≡ c.in-Some-number_at.high * 128 + (c.in-Some.first.now - 128) = found.1 in
    omega arith
