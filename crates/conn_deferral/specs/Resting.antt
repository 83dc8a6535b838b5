-- Where nothing is left to write of what was given, and no part that is left may be given now.
use Rattle.std.specs.Prelude.{◌≡◌, ◌⊎◌, ℕ, ◌<◌, ◌≤◌, false, List, [], ◌∷◌, ◌++◌, None, pos, ◌≤ℤ◌}
use Rattle.h2_record.specs.Record.{Record}
use Rattle.h2_record.specs.Windows.{send_window_of, connection_window_of}
use Rattle.h2_record.specs.Resets.{is_live, resets_of}
use Rattle.h2_record.specs.Faults.{first_fault_of}
use Rattle.h2_record.specs.Replies.{waiting_of}
use Rattle.h2_record.specs.Room.{room_in}
use Rattle.h2_record.specs.Control.{written_control_of}
use Rattle.h2_record.specs.Due.{settled_control_of}
use Rattle.h2_record.specs.Texts.{Token, given_text, written_text, written_codes, codes_on}
use Rattle.h2_record.specs.Quiet.{NoneFits}
use Rattle.conn_record.specs.declared.limits.TheConstants.{LEAST_ROOM}
use Rattle.conn_record.specs.Marks.{EachIsFrame}
use Rattle.conn_record.specs.Giving.{EachWasGiven}
use Rattle.conn_record.specs.Quiet.{IsSettled}
use Rattle.conn_deferral.specs.Deferred.{Dealing, Deals}

-- On each stream nothing is left, or the stream lives no more, or its windows leave no room, or a reply waits.
abbrev pub IsBlocked : (given : Record) (left : ℕ → List Token) → Type 0
IsBlocked given left = (id : ℕ) → (left id ≡ []) ⊎ ((is_live given id ≡ false) ⊎ ((room_in given id ≤ℤ pos 0) ⊎ (0 < waiting_of given id)))

-- No frame that is due by what was given fits a room, and no part that is left may be given.
pub record DealsAll (dealing : Dealing) (room : ℕ) (decided : Record) : Type 0 where
  pub deals : Deals dealing decided
  pub none : NoneFits deals.given room
  pub blocked : IsBlocked deals.given dealing.left

-- No frame that is due by what was given fits a room.
pub record SaysAll (dealing : Dealing) (room : ℕ) (decided : Record) : Type 0 where
  pub deals : Deals dealing decided
  pub none : NoneFits deals.given room

-- What is left of the text waits, while the window of the stream or of the connection is used up.
pub record IsHeldBack (r : Record) (id : ℕ) (left text : List Token) : Type 0 where
  pub token : Token
  pub behind : List Token
  pub some : left ≡ token ∷ behind
  pub rest : written_text r id ++ left ≡ text
  pub window : (send_window_of r id ≤ℤ pos 0) ⊎ (connection_window_of r ≤ℤ pos 0)

-- All control frames and resets that are due by what was decided are written, and so is the text of each stream, but for
-- what is held up or left to be given.
pub record IsAtRest (r : Record) (left : ℕ → List Token) : Type 0 where
  pub control : written_control_of r ≡ settled_control_of r
  pub resets : (id : ℕ) → written_codes r id ≡ codes_on (resets_of r) id
  pub texts : (id : ℕ) → IsSettled r id (given_text r id) ⊎ IsHeldBack r id (left id) (given_text r id)

-- It is so where the room holds each control frame, reset and header block.
abbrev pub RestsWhereBlocked : Type 0
RestsWhereBlocked = (dealing : Dealing) (decided : Record) (room : ℕ) → DealsAll dealing room decided → first_fault_of decided ≡ None → EachIsFrame decided → EachWasGiven decided
    → LEAST_ROOM ≤ room → IsAtRest decided dealing.left
