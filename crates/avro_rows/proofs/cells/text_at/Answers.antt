use Rattle.std.proofs.lemmas.Str.{is_utf8-from_IsUtf8}
use Rattle.avro_rows.proofs.CellLemmas.{text-none}
use Rattle.avro_rows.proofs.cells.text_at.Goals as goal

pub returns-in_ok-of-in-Ok : goal.returns-in_ok-of-in-Ok
returns-in_ok-of-in-Ok c =
    rw (c.in_ok-of-in-Ok.ensures, c.in-Ok.ensures.cases.0)
    (is_utf8-from_IsUtf8 _ c.in-Ok.ensures.cases.1, c.in-Some.ensures.1)

pub returns-in-Err : goal.returns-in-Err
returns-in-Err c = text-none _ _ c.in-Some.block.now c.in-Some.ensures.1 c.in-Err.ensures.cases.0
