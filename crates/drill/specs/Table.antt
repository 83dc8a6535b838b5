-- The drill's table, and the session that is drained at its end.
use Rattle.std.specs.Prelude.{◌≡◌, pos, List, [], ◌∷◌, Option, None, Some, codes}
use Rattle.column_types.specs.declared.cell.Cell.TheVariants as cell
use Rattle.column_types.specs.declared.column.Column.{Column}
use Rattle.column_types.specs.declared.column.Kind.TheVariants as kind
use Rattle.column_types.specs.declared.column.Mode.TheVariants as mode
use Rattle.column_types.specs.declared.predicate.Op.TheVariants as op
use Rattle.column_types.specs.declared.predicate.Pred.{Pred}
use Rattle.column_types.specs.declared.predicate.Pred as pred
use Rattle.column_types.specs.Fields.{all_fields}
use Rattle.table_model.specs.declared.commands.Command.{Command}
use Rattle.table_model.specs.declared.commands.Command.TheVariants as command
use Rattle.table_model.specs.declared.entries.Entry.{Entry}
use Rattle.turn_table.specs.View.{Home, View, IsOf}

-- `id:INT64:REQUIRED` and `tag:STRING`
abbrev pub columns : List Column
columns =
    record { name = codes "id"; kind = kind.Int64; mode = mode.Required }
    ∷ record { name = codes "tag"; kind = kind.Str; mode = mode.Nullable }
    ∷ []

-- `tag IS NULL OR id < 1000000`
abbrev pub restriction : Pred
restriction = pred.Or (pred.IsNull 1) (pred.Compare 0 op.Lt (cell.Int (pos 1000000)))

-- the command that begins the session: all columns, and 4 read streams
abbrev pub last_session : Command
last_session = command.Session restriction (all_fields columns) (pos 4) None

-- a turn at the drill's table
abbrev pub IsDrill : Home (List Column) → Type 0
IsDrill turn = turn.fixed ≡ columns

-- a pass to a turn is held
abbrev pub Holds : Home (List Column) → Option (View Entry (List Column)) → Type 0
Holds turn None = ⊥
Holds turn (Some pass) = IsOf turn pass
