-- The engine as a machine, and the table.
use Rattle.std.specs.Prelude.{◌↔◌, List}
use Rattle.column_types.specs.declared.column.Column.{Column}
use Rattle.table_model.specs.History.{History}
use Rattle.table_model.specs.Legal.{Takes, IsLegal}
use Rattle.turn_table.specs.Turn.{IsLegal as IsLegalOfMachine}
use Rattle.table_engine.specs.Turns.{Allows}

-- the histories that are legal for the machine are the legal histories of a table
abbrev pub MachineIsLegal : Type 0
MachineIsLegal = (columns : List Column) (history : History) → IsLegalOfMachine (Takes columns) (Allows columns) history ↔ IsLegal columns history
