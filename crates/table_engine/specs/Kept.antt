-- What is kept of a change: the change, with what others hold too behind an `Arc`.
use Rattle.std.specs.Arc.{arc_value}
use Rattle.table_model.specs.declared.entries.Change.{Change}
use Rattle.table_model.specs.declared.entries.Change.TheVariants as change
use Rattle.table_engine.specs.declared.kept.KeptChange.{KeptChange}
use Rattle.table_engine.specs.declared.kept.KeptChange.TheVariants as kept

abbrev pub change_in : KeptChange → Change
change_in (kept.Create number kind) = change.Create number kind
change_in (kept.Append on offset rows bytes) = change.Append on offset (arc_value rows) bytes
change_in (kept.Flush on upto) = change.Flush on upto
change_in (kept.Finalise on) = change.Finalise on
change_in (kept.Commit streams) = change.Commit streams
change_in (kept.Session number at pred fields roots) = change.Session number at (arc_value pred) (arc_value fields) roots
change_in (kept.Split session node left right) = change.Split session node left right
