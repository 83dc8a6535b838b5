-- The writer schema of a call, bound to the columns of a table and kept for the messages behind.
use Rattle.std.specs.Prelude.{◌≡◌, ℕ, ◌<◌, ◌^◌, List, length, Option, IfOk, IfSome}
use Rattle.column_types.specs.declared.column.Column.{Column}
use Rattle.row_descriptor.specs.Binding.{IsBoundTo}
use Rattle.call_append.specs.Writer.{no_writer, last_writer}
use Rattle.append_calls.specs.declared.bound.Bound.{Bound}

-- bound to these columns, of the descriptor that the call named last, if it named one
pub record IsFor (columns : List Column) (schema : Option (List ℕ)) (bound : Bound) : Type 0 where
  pub to : bound.columns ≡ columns
  pub of : bound.writer ≡ last_writer columns no_writer schema
  pub binds : IfOk bound.writer (IsBoundTo columns)

-- A descriptor has fewer than 2^32 bytes, and what is kept is bound of it.
pub record IsKept (schema : Option (List ℕ)) (bound : Option Bound) : Type 0 where
  pub small : IfSome schema (λ descriptor. length descriptor < 2 ^ 32)
  pub kept : IfSome bound (λ b. IsFor b.columns schema b)
