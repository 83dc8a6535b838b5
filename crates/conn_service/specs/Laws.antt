-- Laws of one connection.
use Rattle.std.specs.Prelude.{◌≡◌, ℕ, ◌==◌, ◌<◌, ◌≤◌, true, List, [], map, length, Option, None}
use Rattle.links.specs.Link.{IsSpent}
use Rattle.h2_frames.specs.Held.{Held as ReaderHeld}
use Rattle.h2_frames.specs.Run.{nothing_held}
use Rattle.h2_frames.specs.Reading.{need_of}
use Rattle.h2_record.specs.Record.{Record}
use Rattle.h2_record.specs.Texts.{Token, given_text}
use Rattle.h2_record.specs.Written.{EachWasDue}
use Rattle.h2_conn.specs.Stands.{Stands}
use Rattle.open_tables.specs.Tables.{TableView, OpenTable, first_passes}
use Rattle.conn_record.specs.declared.limits.TheConstants.{LEAST_ROOM}
use Rattle.conn_deferral.specs.Deferred.{Dealing}
use Rattle.conn_deferral.specs.Resting.{DealsAll}
use Rattle.conn_requests.specs.Decided.{Answered, play}
use Rattle.conn_requests.specs.Spelled.{spelling_on}
use Rattle.conn_service.specs.declared.ending.Ending.TheVariants as ending
use Rattle.conn_service.specs.Served.{Planning, Served, EachGoesOn}
use Rattle.conn_service.specs.Computed.{AreAlone, numbers_of, histories_of, Computes}
use Rattle.conn_service.specs.Quiet.{IsAnswered, IsWritten}
use Rattle.conn_service.specs.Serves.{IsInOrder, Shown, Serves}
use Rattle.conn_service.specs.Going.{Kept, Going}

-- Where no other pass acts, the answers and histories are computed. The passes keep their numbers, and stay alone.
abbrev pub ServedIsComputed : Type 0
ServedIsComputed = (plan : Planning) (passes after : List TableView) (answers : List Answered) → AreAlone passes → Served plan passes answers after
    → Computes plan (numbers_of passes) (histories_of passes) answers (histories_of after) × (numbers_of after ≡ numbers_of passes) × AreAlone after

-- The passes to new tables are alone, each with the number 0 and the empty history.
abbrev pub FirstAreAlone : Type 0
FirstAreAlone = (tables : List OpenTable) → AreAlone (first_passes tables) × (numbers_of (first_passes tables) ≡ map (λ table. 0) tables) × (histories_of (first_passes tables) ≡ map (λ table. []) tables)

-- The passes go on: each keeps all but what it has seen, which begins with what it had seen.
abbrev pub ServedGoesOn : Type 0
ServedGoesOn = (plan : Planning) (passes after : List TableView) (answers : List Answered) → Served plan passes answers after → EachGoesOn passes after

-- Where each frame was due in its place, what was written is a front of what was given and due, and nothing else was.
abbrev pub DueIsInOrder : Type 0
DueIsInOrder = (r : Record) (text_of : ℕ → List Token) → EachWasDue r → ((id : ℕ) → given_text r id ≡ text_of id) → IsInOrder r text_of

-- Where all that was decided is answered, that is the spelling of the answers.
abbrev pub AnswersAreInOrder : Type 0
AnswersAreInOrder = (answers : List Answered) (frames : Record) → IsAnswered (play answers frames) → EachWasDue (play answers frames).marked
    → IsInOrder (play answers frames).marked (λ id. spelling_on id (play answers frames).used)

module _ (plan : Planning) (passes0 passes : List TableView) (old now : Shown) (conn : Dealing) (reader : ReaderHeld) (kept : ℕ → Option Kept) where
  -- where no frame that is due fits a room that holds each control frame, reset and header block, and no part that is left
  -- may be given, all is written but what windows and resets hold up
  abbrev pub IsQuietAtRest : Type 0
  IsQuietAtRest = (g : Going plan passes0 passes old now conn reader kept) (room : ℕ) → LEAST_ROOM ≤ room → DealsAll conn room g.played.marked → IsWritten g.played

  -- where the client's bytes end at the boundary of a frame
  abbrev pub IsDone : Type 0
  IsDone = (g : Going plan passes0 passes old now conn reader kept) → IsWritten g.played → now.ended ≡ true → IsSpent now.left
      → (length reader.bytes == 0) ≡ true → Serves plan passes0 passes old now ending.Done

  -- where they end inside the preface or a frame
  abbrev pub IsCut : Type 0
  IsCut = (g : Going plan passes0 passes old now conn reader kept) → IsWritten g.played → now.ended ≡ true → IsSpent now.left
      → 0 < length reader.bytes → Serves plan passes0 passes old now (ending.Cut (length reader.bytes) (need_of reader))

  -- where memory is wanting between two frames
  abbrev pub IsOutOfMemory : Type 0
  IsOutOfMemory = Going plan passes0 passes old now conn reader kept → Serves plan passes0 passes old now ending.Memory

-- A new connection, reader and map of calls stand for the empty log.
abbrev pub GoingBegins : Type 0
GoingBegins = (plan : Planning) (passes : List TableView) (now : Shown) (conn : Dealing) (kept : ℕ → Option Kept)
    → Stands conn.conn [] → ((id : ℕ) → conn.left id ≡ []) → ((id : ℕ) → kept id ≡ None) → Going plan passes passes now now conn nothing_held kept

abbrev pub RestIsQuiet : Type 0
RestIsQuiet = (plan : Planning) (passes0 passes : List TableView) (old now : Shown) (conn : Dealing) (reader : ReaderHeld) (kept : ℕ → Option Kept)
    → IsQuietAtRest plan passes0 passes old now conn reader kept

abbrev pub EndIsDone : Type 0
EndIsDone = (plan : Planning) (passes0 passes : List TableView) (old now : Shown) (conn : Dealing) (reader : ReaderHeld) (kept : ℕ → Option Kept)
    → IsDone plan passes0 passes old now conn reader kept

abbrev pub EndIsCut : Type 0
EndIsCut = (plan : Planning) (passes0 passes : List TableView) (old now : Shown) (conn : Dealing) (reader : ReaderHeld) (kept : ℕ → Option Kept)
    → IsCut plan passes0 passes old now conn reader kept

abbrev pub EndIsMemory : Type 0
EndIsMemory = (plan : Planning) (passes0 passes : List TableView) (old now : Shown) (conn : Dealing) (reader : ReaderHeld) (kept : ℕ → Option Kept)
    → IsOutOfMemory plan passes0 passes old now conn reader kept
