-- What a request holds is no larger than its message.
use Rattle.std.specs.Prelude.{ℕ, ◌≤◌, List, length, sum_by, IfSome}
use Rattle.write_msgs.specs.declared.request.AppendRowsRequest.{AppendRowsRequest}
use Rattle.call_append.specs.Writer.{schema_named, rows_named}

pub record IsRowsWithin (size : ℕ) (rows : List (List ℕ)) : Type 0 where
  pub few : length rows ≤ size
  pub small : sum_by length rows ≤ size

pub record IsWithin (size : ℕ) (request : AppendRowsRequest) : Type 0 where
  pub rows : IsRowsWithin size (rows_named request)
  pub schema : IfSome (schema_named request) (λ descriptor. length descriptor ≤ size)
