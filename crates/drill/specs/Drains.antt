-- What a drain of a session gives, why it ends early, and which entries its pass gains.
use Rattle.std.specs.Prelude.{◌≡◌, ◌⊎◌, ℕ, ℤ, pos, ◌≤ℤ◌, ◌<ℤ◌, List, [], ◌∷◌, ◌++◌, length, slice_get, ◌%◌, Some, None, Result, Ok, Err}
use Rattle.column_types.specs.declared.column.Column.{Column}
use Rattle.column_types.specs.declared.row.Row.{Row}
use Rattle.column_types.specs.Fields.{projected}
use Rattle.split_tree.specs.Parts.{rows_of_node, rows_of_session}
use Rattle.read_cursor.specs.Lease.{keeps}
use Rattle.table_model.specs.declared.commands.Command.TheVariants as command
use Rattle.table_model.specs.declared.entries.Entry.{Entry}
use Rattle.table_model.specs.declared.replies.Answer.TheVariants.{Accept, Refuse}
use Rattle.table_model.specs.declared.replies.Reply.{Reply}
use Rattle.table_model.specs.declared.replies.Reply.TheVariants as reply
use Rattle.table_model.specs.declared.reasons.Why.{Why}
use Rattle.table_model.specs.declared.reasons.Why.TheVariants as why
use Rattle.table_model.specs.Answer.{answer_of}
use Rattle.table_model.specs.History.{History, moment_of}
use Rattle.table_model.specs.Reasons.{refusal_of}
use Rattle.table_model.specs.Sessions.{Opened, session_of, expiry_of}
use Rattle.table_model.specs.Visible.{visible_of}
use Rattle.turn_table.specs.View.{View}
use Rattle.drill.specs.declared.drained.Drained.{Drained}
use Rattle.drill.specs.declared.drained.DrainFault.{DrainFault}
use Rattle.drill.specs.declared.drained.DrainFault.TheVariants as fault
use Rattle.drill.specs.declared.moves.Move.{Move}
use Rattle.drill.specs.declared.moves.Move.TheVariants as move
use Rattle.drill.specs.Moves.{cut_of}

-- ---- what is read

-- of the visible rows that a session is over those that its restriction keeps, in order, each with its columns alone
abbrev pub session_rows : Opened → History → List Row
session_rows session history = rows_of_session (keeps session.pred) (projected session.fields) session.nodes (visible_of history)

-- the same of a node
abbrev pub node_rows : Opened → History → (node : ℕ) → List Row
node_rows session history node = rows_of_node (keeps session.pred) (projected session.fields) session.nodes node (visible_of history)

-- The session is there and hasn't expired. What was read are its rows, through the cut to which the moves lead.
pub record IsDrained (history : History) (number : ℕ) (moves : List Move) (drained : Drained) : Type 0 where
  pub session : Opened
  pub begun : session_of history number ≡ Some session
  pub early : moment_of history <ℤ expiry_of session.moment
  pub nodes : cut_of history number moves ≡ Some drained.nodes
  pub rows : drained.rows ≡ session_rows session history

-- ---- why a drain ends early

-- the moment of the history isn't before the session's expiry
pub record IsExpired (history : History) (number : ℕ) (moment expires : ℤ) : Type 0 where
  pub session : Opened
  pub begun : session_of history number ≡ Some session
  pub moment_is : moment ≡ moment_of history
  pub expires_is : expires ≡ expiry_of session.moment
  pub late : expires ≤ℤ moment

-- why a node of a session that is there isn't split
abbrev pub RefusesSplit : Why → Type 0
RefusesSplit cause = (cause ≡ why.Expired) ⊎ ((cause ≡ why.FullNodes) ⊎ (cause ≡ why.FullEntries))

-- the history answers the split of a node of the session so, at reading 0 of the clock
pub record IsRefused (columns : List Column) (caller : ℕ) (history : History) (number : ℕ) (told : Reply) : Type 0 where
  pub session : Opened
  pub begun : session_of history number ≡ Some session
  pub node : ℕ
  pub cause : Why
  pub refuses : RefusesSplit cause
  pub answer : answer_of (length columns) history caller (command.Split number node) (pos 0) ≡ Refuse (refusal_of cause)
  pub told_is : told ≡ reply.Refused (refusal_of cause)

abbrev pub Fails : List Column → (caller : ℕ) → History → (number : ℕ) → DrainFault → Type 0
Fails columns caller history number fault.Memory = Unit {0}
Fails columns caller history number fault.NoSession = session_of history number ≡ None
Fails columns caller history number (fault.Expired moment expires) = IsExpired history number moment expires
Fails columns caller history number (fault.Refused told) = IsRefused columns caller history number told

-- what a drain gives, at the history that its pass has then seen
abbrev pub Drains : List Column → (caller number : ℕ) → List Move → History → Result Drained DrainFault → Type 0
Drains columns caller number moves history (Ok drained) = IsDrained history number moves drained
Drains columns caller number moves history (Err fault) = Fails columns caller history number fault

-- ---- what its pass gains

-- The entry is a split of a node of the session, accepted at the history before it at reading 0 of the clock.
pub record IsSplit (columns : List Column) (number : ℕ) (before : History) (entry : Entry) : Type 0 where
  pub node : ℕ
  pub told : Reply
  pub accepted : answer_of (length columns) before entry.caller (command.Split number node) (pos 0) ≡ Accept entry told

-- each entry of the caller behind a history is such a split
abbrev pub OwnAreSplits : List Column → (caller number : ℕ) → (before more : History) → Type 0
OwnAreSplits columns caller number before [] = Unit {0}
OwnAreSplits columns caller number before (entry ∷ more) =
    (entry.caller ≡ caller → IsSplit columns number before entry) × OwnAreSplits columns caller number (before ++ entry ∷ []) more

-- The pass has seen more, and the entries of its own in that are splits of the session.
pub record Went (number : ℕ) (old new : View Entry (List Column)) : Type 0 where
  pub more : History
  pub is : new ≡ record old { seen = old.seen ++ more }
  pub own : OwnAreSplits old.fixed old.number number old.seen more

-- A split among the moves is of this node: of the one at its place in the cut to which the moves before it lead.
pub record IsAsked (history : History) (number : ℕ) (moves : List Move) (node : ℕ) : Type 0 where
  pub before : List Move
  pub place : ℕ
  pub after : List Move
  pub moves_are : moves ≡ before ++ move.Split place ∷ after
  pub cut : List ℕ
  pub cut_is : cut_of history number before ≡ Some cut
  pub there : slice_get cut (place % length cut) ≡ Some node

-- each entry of the caller behind a history is a split of a node that is asked for
abbrev pub OwnAreAsked : List Column → (caller number : ℕ) → (asked : ℕ → Type 0) → (before more : History) → Type 0
OwnAreAsked columns caller number asked before [] = Unit {0}
OwnAreAsked columns caller number asked before (entry ∷ more) =
    (entry.caller ≡ caller → (split : IsSplit columns number before entry) × asked split.node) × OwnAreAsked columns caller number asked (before ++ entry ∷ []) more

-- The pass has seen more, and the entries of its own in that are splits for which the moves ask.
pub record Asked (number : ℕ) (moves : List Move) (old new : View Entry (List Column)) : Type 0 where
  pub more : History
  pub is : new ≡ record old { seen = old.seen ++ more }
  pub own : OwnAreAsked old.fixed old.number number (IsAsked new.seen number moves) old.seen more
