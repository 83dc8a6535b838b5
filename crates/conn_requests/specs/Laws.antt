-- Laws of what is decided: the answers are used in their order, the frames of the record stay, and what is given on each
-- stream is the spelling of the answers to it.
use Rattle.std.specs.Prelude.{◌≡◌, ℕ, true, List, [], ◌∷◌, ◌++◌, map, Option}
use Rattle.h2_record.specs.Record.{Record, In, Out, Broken}
use Rattle.h2_record.specs.Texts.{given_text}
use Rattle.conn_requests.specs.Names.{Named}
use Rattle.conn_requests.specs.Body.{Body, asks_of}
use Rattle.conn_requests.specs.Decided.{Answered, Played, item_of, decide_all, play}
use Rattle.conn_requests.specs.Spelled.{spelling_on}

-- a record without the marks
abbrev pub frames_in : Record → Record
frames_in [] = []
frames_in (In frame ∷ r) = In frame ∷ frames_in r
frames_in (Out frame ∷ r) = Out frame ∷ frames_in r
frames_in (Broken fault ∷ r) = Broken fault ∷ frames_in r
frames_in (_ ∷ r) = frames_in r

abbrev pub UsesInOrder : Type 0
UsesInOrder = (answers : List Answered) (frames : Record) → (play answers frames).used ++ (play answers frames).later ≡ answers

abbrev pub KeepsFrames : Type 0
KeepsFrames = (answers : List Answered) (frames : Record) → frames_in (play answers frames).marked ≡ frames_in frames

-- where each item that was decided has its answer
abbrev pub SpellsAnswers : Type 0
SpellsAnswers = (answers : List Answered) (frames : Record) → map item_of (play answers frames).used ≡ (play answers frames).decided
    → (id : ℕ) → given_text (play answers frames).marked id ≡ spelling_on id (play answers frames).used

-- where the client has ended a body, no call goes on behind it
abbrev pub EndsWithItsClient : Type 0
EndsWithItsClient = (p : Played) (id : ℕ) (named : Named) (body : Body) (bytes : List ℕ) (a b : Option Body)
    → decide_all p id named (asks_of body bytes true) a ≡ decide_all p id named (asks_of body bytes true) b
