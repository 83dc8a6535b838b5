-- What a message asks of its table.
use Rattle.std.specs.Prelude.{◌≡◌, ◌<◌, ◌≤ℤ◌, length, slice_get, Some}
use Rattle.table_model.specs.declared.limits.TheConstants.{LATEST_READING}
use Rattle.open_tables.specs.Tables.{specs_of}
use Rattle.open_tables.specs.Plans.{Plan, At}
use Rattle.call_append.specs.Asking.{Asked, asked_by}
use Rattle.call_append.specs.Sizes.{IsRowsWithin}
use Rattle.call_append.specs.Writer.{rows_named}
use Rattle.conn_requests.specs.declared.answers.Answer.{Answer}
use Rattle.conn_requests.specs.Names.{Named}
use Rattle.call_plans.specs.Appending.{turn_of, writer_named}
use Rattle.append_calls.specs.declared.appends.Append.{Append}

-- The table is there, the rows together have fewer than 2^32 bytes, and the moment is one that a clock gives.
pub record IsAppend (append : Append) : Type 0 where
  pub within : append.place < length append.tables.now
  pub there : slice_get (specs_of append.tables.now) append.place ≡ Some append.spec.now
  pub small : IsRowsWithin 4294967295 (rows_named append.request.now)
  pub in_time : append.moment ≤ℤ LATEST_READING

-- what is asked of the table
abbrev pub asking : Append → Asked → Plan Answer
asking append asked = At append.place (turn_of append.spec.now.schema append.request.now asked)

-- what a message asks of it, by what its call has named
abbrev pub asked_in : Append → Named → Asked
asked_in append named = asked_by append.stream (writer_named append.spec.now.schema named) append.request.now.offset (rows_named append.request.now)
