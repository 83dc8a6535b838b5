-- The roots of a session of a closed table.
use Rattle.std.specs.Prelude.{◌≡◌, ℕ, ◌≤◌, List, Option, None, Some, IfSome}
use Rattle.std.specs.List.{flat_map, range_with_len}
use Rattle.column_types.specs.declared.row.Row.{Row}
use Rattle.table_model.specs.History.{History}
use Rattle.table_model.specs.Sessions.{Opened, session_of}
use Rattle.drill.specs.Drains.{node_rows}

-- how many there are; none where there is no such session
abbrev pub roots_in : Option Opened → ℕ
roots_in None = 0
roots_in (Some session) = session.nodes.roots

-- the rows of the roots below this one
abbrev pub HasRead : History → (number node : ℕ) → List Row → Type 0
HasRead history number node rows =
    IfSome (session_of history number) (λ opened. (node ≤ opened.nodes.roots) × (rows ≡ flat_map (node_rows opened history) (range_with_len 0 node)))
