-- A drain worked out by hand: what the definitions say of a small history.
use Rattle.std.proofs.Common.{◌≡◌, ℕ, pos, Bool, false, List, [], ◌∷◌, Some, None, refl}
use Rattle.std.specs.Prelude.{Option, option_map, int_lt}
use Rattle.column_types.specs.declared.cell.Cell.TheVariants as cell
use Rattle.column_types.specs.declared.predicate.Op.TheVariants as op
use Rattle.column_types.specs.declared.predicate.Pred.TheVariants as pred
use Rattle.column_types.specs.declared.row.Row.{Row}
use Rattle.table_model.specs.declared.entries.Change.{Change}
use Rattle.table_model.specs.declared.entries.Change.TheVariants as change
use Rattle.table_model.specs.declared.entries.Entry.{Entry}
use Rattle.table_model.specs.declared.streams.StreamRef.TheVariants as stream
use Rattle.table_model.specs.History.{History}
use Rattle.column_types.specs.Fields.{projected}
use Rattle.split_tree.specs.Parts.{rows_of_node, rows_of_session}
use Rattle.table_model.specs.Sessions.{Opened, session_of}
use Rattle.table_model.specs.Visible.{visible_of}
use Rattle.drill.specs.declared.moves.Move.TheVariants as move
use Rattle.drill.specs.Moves.{cut_of}

abbrev entry : (caller number : ℕ) → Change → Entry
entry caller number what = record { caller = caller; number = number; moment = pos 0; change = what }

abbrev row : ℕ → Row
row id = cell.Int (pos id) ∷ cell.Null ∷ []

-- Caller 0 writes the ids 1 to 5. Session 1 is over these, has two roots and reads the column id where it is above 2. Then id
-- 6 is written, and caller 7 splits node 1, of the ids 3 to 5.
abbrev history : History
history =
    entry 0 0 (change.Append stream.Default 0 (row 1 ∷ row 2 ∷ row 3 ∷ row 4 ∷ row 5 ∷ []) 0)
    ∷ entry 0 1 (change.Session 1 5 (pred.Compare 0 op.Gt (cell.Int (pos 2))) (0 ∷ []) 2)
    ∷ entry 0 2 (change.Append stream.Default 5 (row 6 ∷ []) 0)
    ∷ entry 7 0 (change.Split 1 1 2 3)
    ∷ []

-- the roots, and a read of one changes nothing
roots : cut_of history 1 (move.Read 0 4 ∷ []) ≡ Some (0 ∷ 1 ∷ [])
unfolding session_of
roots = refl

-- place 5 of two is place 1
halved : cut_of history 1 (move.Split 5 ∷ []) ≡ Some (0 ∷ 2 ∷ 3 ∷ [])
unfolding session_of
halved = refl

-- node 2 has one row and stays
small : cut_of history 1 (move.Split 1 ∷ move.Split 1 ∷ []) ≡ Some (0 ∷ 2 ∷ 3 ∷ [])
unfolding session_of
small = refl

-- nobody has split node 0, which has two rows
unsplit : cut_of history 1 (move.Split 0 ∷ []) ≡ None
unfolding session_of
unsplit = refl

-- there is no session 2
none : cut_of history 2 [] ≡ None
unfolding session_of
none = refl

-- the restriction of the session, by hand
abbrev above_two : Row → Bool
above_two (cell.Int value ∷ more) = int_lt (pos 2) value
above_two _ = false

abbrev id_row : ℕ → Row
id_row id = cell.Int (pos id) ∷ []

abbrev ids_of : ℕ → Option (List Row)
ids_of node = option_map (λ (session : Opened). rows_of_node above_two (projected session.fields) session.nodes node (visible_of history)) (session_of history 1)

-- node 0 has the ids 1 and 2, of which the restriction keeps none
first_ids : ids_of 0 ≡ Some []
unfolding session_of
first_ids = refl

left_ids : ids_of 2 ≡ Some (id_row 3 ∷ [])
unfolding session_of
left_ids = refl

right_ids : ids_of 3 ≡ Some (id_row 4 ∷ id_row 5 ∷ [])
unfolding session_of
right_ids = refl

-- id 6 came after the session
session_ids : option_map (λ (session : Opened). rows_of_session above_two (projected session.fields) session.nodes (visible_of history)) (session_of history 1)
    ≡ Some (id_row 3 ∷ id_row 4 ∷ id_row 5 ∷ [])
unfolding session_of
session_ids = refl
