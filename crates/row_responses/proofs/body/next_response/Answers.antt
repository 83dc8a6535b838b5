-- The rows of the next response, in its message.
use Rattle.std.proofs.Common.{◌≡◌, ap, ◌∙◌}
use Rattle.read_cursor.specs.Reading.{Reading}
use Rattle.row_responses.proofs.BodyLemmas.{gives, message_by, left_none, left_some, on_err}
use Rattle.row_responses.proofs.body.next_response.Goals as goal

pub returns-in_ok-message-in-Rows-clause-nexts : goal.returns-in_ok-message-in-Rows-clause-nexts
returns-in_ok-message-in-Rows-clause-nexts c =
    let batches = rw c.in-Rows.is at c.in_ok-written.ensures.batches in
    let fields : c.fields-fields.result.now ≡ c.args.cursor.now.lease.fields =
    c.fields-fields.ensures ∙ ap (λ lease. lease.fields) c.lease.ensures ∙ ap (λ (reading : Reading). reading.lease.fields) batches.4 in (
      c.in-Rows.count,
      gives c.args.schema.now c.args.has_schema c.args.cursor.now c.next_batch.new.cursor c.in-Rows.written c.in_ok-message-in-Rows.message c.in-Rows.count batches
          (message_by c.args.schema.now c.args.cursor.now c.fields-fields.result.now c.args.has_schema c.in-Rows.written c.in_ok-message-in-Rows.message c.in-Rows.count fields c.in_ok-message-in-Rows.ensures),
    )

pub returns-in-End-clause-nexts : goal.returns-in-End-clause-nexts
returns-in-End-clause-nexts c =
    let end = rw c.in-End.is at c.in_ok-written.ensures.batches in (
      end.0,
      left_none c.args.schema.now (record { reading = c.args.cursor.now; is_new = c.args.has_schema }) end.0,
      ap (λ (reading : Reading). record { reading = reading; is_new = c.args.has_schema }) end.1,
    )

pub returns-in_err-written-clause-wants : goal.returns-in_err-written-clause-wants
returns-in_err-written-clause-wants c =
    on_err c.from_residual.result (left_some c.args.schema.now c.args.cursor.now c.args.has_schema c.in_err-written.ensures.wants)

pub returns-in_err-message-in-Rows-clause-wants : goal.returns-in_err-message-in-Rows-clause-wants
returns-in_err-message-in-Rows-clause-wants c =
    let batches = rw c.in-Rows.is at c.in_ok-written.ensures.batches in
    on_err c.from_residual-in_err-message-in-Rows.result (left_some c.args.schema.now c.args.cursor.now c.args.has_schema batches.0)
