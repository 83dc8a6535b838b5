-- The length that was read is the block's.
use Rattle.std.proofs.Common.{◌≡◌, ◌<◌, ◌++◌, pos, length, ap, arith, length-append}
use Rattle.std.proofs.lemmas.Int.{ints, to_z-of_z}
use Rattle.std.specs.Prelude.{unsigned_abs}
use Rattle.std.specs.Int.{w64}
use Rattle.avro_rows.proofs.CellLemmas.{counted-is, counted-none}
use Rattle.avro_rows.proofs.cells.counted_at.Goals as goal

pub returns-in_default : goal.returns-in_default
returns-in_default c = λ block more _ is. counted-none _ c.well_formed.0.1 c.in_default.ensures block more is

pub returns-then-len-lt0 : goal.returns-then-len-lt0
returns-then-len-lt0 c = λ block more _ is.
    let read = counted-is _ _ block more c.in-Some.len c.in-Some.ensures.1 is in
    let len : c.in-Some.len ≡ pos (length block) = read.0 in
    first_of (omega (arith, ints), grind (arith, ints))

pub returns-then-rest-len : goal.returns-then-rest-len
returns-then-rest-len c = λ block more _ is.
    let read = counted-is _ _ block more c.in-Some.len c.in-Some.ensures.1 is in
    let len : c.in-Some.len ≡ pos (length block) = read.0 in
    let place : length c.in-Some.rest.now ≡ length (block ++ more) = ap length read.1 in
    let small : length c.in-Some.rest.now < unsigned_abs c.in-Some.len = rw (to_z-of_z w64 c.in-Some.len c.in-Some.ensures.0) at c.if-rest-len.true in
    let within : length c.in-Some.rest.now < length block = rw len at small in
    omega (arith, length-append block more)
