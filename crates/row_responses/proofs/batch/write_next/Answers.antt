-- The next row is written behind the others, and taken back where it is too much.
use Rattle.std.proofs.Common.{◌≡◌, ◌<◌, ap, sym, subst, ◌∙◌, List, length, ℕ, arith}
use Rattle.std.proofs.lemmas.Bool.{true≢false}
use Rattle.column_types.specs.Row.{Fits}
use Rattle.column_types.specs.Fields.{projected}
use Rattle.read_cursor.specs.Reading.{Reading}
use Rattle.row_responses.proofs.BodyLemmas.{good_at, row_found, next_found, row_written, taken_back, back_again}
use Rattle.row_responses.proofs.batch.write_next.Goals as goal
use Rattle.row_responses.proofs.batch.write_next.Goals.{else-not-is_first-via-then-not-is_first+else-len-gt-MAX_RESPONSE_BYTES, else-not-is_first-via-else-not-is_first}

pub push_chosen-requires-clause-fits : goal.push_chosen-requires-clause-fits
push_chosen-requires-clause-fits c =
    good_at (Fits c.args.schema.now) c.args.cursor.now.lease.groups c.in-Row.place.group c.in-Row.place.place c.row.result.now c.requires.fit
    (row_found c.args.cursor.now c.next_place.new.self c.in-Row.place c.row.result.now c.in-Row.ensures (c.row.ensures c.row.result.now))

pub returns-then-len-gt-MAX_RESPONSE_BYTES-clause-steps :
    goal.returns-then-len-gt-MAX_RESPONSE_BYTES-clause-steps
returns-then-len-gt-MAX_RESPONSE_BYTES-clause-steps c =
    let is = row_written c.args.schema.now c.args.cursor.now c.next_place.new.self c.in-Row.place c.fields.result.now c.args.written.now.items c.push_chosen.new.out.items c.row.result.now
    c.in-Row.ensures (c.fields.ensures ∙ ap (λ lease. lease.fields) c.lease.ensures) c.in_ok-push_chosen-in-Row.ensures in
    let size : c.len-before.result ≡ length c.args.written.now.items = omega (arith, c.len-before.ensures, c.args.written.now.ok) in (
      projected c.args.cursor.now.lease.fields c.row.result.now,
      next_found c.args.cursor.now c.next_place.new.self c.in-Row.place c.row.result.now c.in-Row.ensures (c.row.ensures c.row.result.now),
      taken_back c.args.written.now.items c.push_chosen.new.out.items _ c.truncate.new.self.items c.len-before.result c.in_ok-push_chosen-in-Row.ensures size c.truncate.ensures.items,
      c.if-not-is_first.true,
      subst (λ (whole : List ℕ). 1048576 < length whole) is (omega (arith, c.if-len-gt-MAX_RESPONSE_BYTES.true, c.len.ensures, c.push_chosen.new.out.ok)),
      c.go_to.ensures ∙ back_again c.args.cursor.now c.next_place.new.self _ (ap (λ (reading : Reading). reading.lease) c.in-Row.ensures.3) c.mark-mark.ensures.at,
    )

pub returns-else-not-is_first-clause-steps : goal.returns-else-not-is_first-clause-steps
returns-else-not-is_first-clause-steps c =
    let is = row_written c.args.schema.now c.args.cursor.now c.next_place.new.self c.in-Row.place c.fields.result.now c.args.written.now.items c.push_chosen.new.out.items c.row.result.now
    c.in-Row.ensures (c.fields.ensures ∙ ap (λ lease. lease.fields) c.lease.ensures) c.in_ok-push_chosen-in-Row.ensures in (
      projected c.args.cursor.now.lease.fields c.row.result.now,
      next_found c.args.cursor.now c.next_place.new.self c.in-Row.place c.row.result.now c.in-Row.ensures (c.row.ensures c.row.result.now),
      is,
      (λ first. elim c.else-not-is_first.branch [
        | else-not-is_first-via-then-not-is_first+else-len-gt-MAX_RESPONSE_BYTES w ↦ omega (arith, w.if-len-gt-MAX_RESPONSE_BYTES.false, w.len.ensures, c.push_chosen.new.out.ok)
        | else-not-is_first-via-else-not-is_first w ↦ absurd (true≢false (sym w.if-not-is_first.false ∙ first))
      ]),
      c.in-Row.ensures.3,
    )
