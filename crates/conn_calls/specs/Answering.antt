-- How what a frame decides is answered, one thing after another.
use Rattle.std.specs.Prelude.{◌≡◌, ◌⊎◌, ℕ, ℤ, ◌==◌, nat_eq, Bool, true, false, ◌||◌, List, [], ◌∷◌, ◌++◌, map, All, Option, None, Some, Result, Ok, Err, if◌then◌else◌}
use Rattle.hpack_blocks.specs.declared.fields.Field.{Field}
use Rattle.links.specs.Told.{GoesOn}
use Rattle.h2_frames.specs.declared.frame.Frame.{Frame}
use Rattle.h2_record.specs.declared.event.Event.{Event}
use Rattle.h2_record.specs.declared.event.Event.TheVariants as event
use Rattle.h2_record.specs.Texts.{given_text}
use Rattle.h2_record.specs.Faults.{first_fault_of}
use Rattle.h2_record.specs.Written.{EachWasDue}
use Rattle.conn_deferral.specs.Deferred.{Dealing}
use Rattle.open_tables.specs.Tables.{TableView}
use Rattle.open_tables.specs.Plans.{Plan, Gets, Loses}
use Rattle.conn_requests.specs.declared.asks.Ask.{Ask}
use Rattle.conn_requests.specs.declared.answers.Answer.{Answer}
use Rattle.grpc_meta.specs.Request.{method_in}
use Rattle.conn_requests.specs.Body.{Body}
use Rattle.conn_requests.specs.Ends.{lost_answer}
use Rattle.conn_requests.specs.Given.{is_lost, parts_of}
use Rattle.conn_requests.specs.Decided.{Item, Answered, Played, ends_call, has_answer, Call, decide, set_call, refuse, hear_body, hear_request, hear, take_frame}
use Rattle.conn_requests.specs.Names.{Named}
use Rattle.conn_requests.specs.Spelled.{spelling_on}
use Rattle.call_plans.specs.Laws.{ends}
use Rattle.call_read.specs.declared.bodies.RowsAnswer.{RowsAnswer}
use Rattle.call_read.specs.declared.bodies.RowsAnswer.TheVariants as rows_answer
use Rattle.call_read.specs.Items.{told}
use Rattle.outside.specs.declared.wants.Memory.{Memory}
use Rattle.conn_service.specs.Served.{Planning, Served, AnswersOne}
use Rattle.conn_service.specs.Quiet.{IsAnswered, reads_rows}
use Rattle.conn_service.specs.Serves.{reading_of, IsInTime}
use Rattle.conn_service.specs.Going.{Kept, kept_of, IsLeftOf, resumed}
use Rattle.conn_service.specs.Steps.{HeededInPart}
use Rattle.conn_calls.specs.declared.asked.Asked.{Asked}
use Rattle.conn_calls.specs.declared.asked.Asked.TheVariants as asked
use Rattle.conn_calls.specs.Dealing.{IsDealt, Decides}

-- ---- one thing

-- a plan gets its answer, or the answer is lost for want of memory
abbrev pub AnswersBy : Plan Answer → (passes : List TableView) → ℤ → Answer → (after : List TableView) → Type 0
AnswersBy plan passes now answer after = Gets passes plan now answer after ⊎ ((answer ≡ lost_answer) × Loses passes plan now after)

abbrev pub answered_by : Item → Answer → ℤ → Answered
answered_by item answer now = record { item = item; answer = answer; now = now }

-- the answer ends the call, or what was asked does
abbrev pub is_last : Ask → Answer → Bool
is_last asked answer = ends_call asked || is_lost answer

-- one thing has its answer, by one reading of the clock
pub record OneAnswer (plan : Planning) (item : Item) (passes after : List TableView) (readings0 readings : Option (List ℤ)) : Type 0 where
  pub answer : Answer
  pub now : ℤ
  pub answers : AnswersOne plan passes (answered_by item answer now) after
  pub timed : GoesOn readings0 (now ∷ []) readings
  pub in_time : IsInTime (answered_by item answer now)

-- It is given on its stream; or memory was wanting.
abbrev pub AsksOne : Asked → Planning → Item → (begun : Bool) → (passes after : List TableView) (readings0 readings : Option (List ℤ)) (old new : Dealing) → Type 0
AsksOne asked.Goes plan item begun passes after readings0 readings old new =
    (a : OneAnswer plan item passes after readings0 readings) × (is_last item.asked a.answer ≡ false) × Decides old new item.stream item.asked (parts_of begun a.answer)
AsksOne asked.Over plan item begun passes after readings0 readings old new =
    (a : OneAnswer plan item passes after readings0 readings) × (is_last item.asked a.answer ≡ true) × Decides old new item.stream item.asked (parts_of begun a.answer)
AsksOne asked.Memory plan item begun passes after readings0 readings old new = OneAnswer plan item passes after readings0 readings

-- what is told by what a call gave
abbrev pub told_by : Result RowsAnswer Memory → Result Answer Memory
told_by (Ok rows) = Ok (told rows)
told_by (Err memory) = Err memory

-- a body is given for ReadRows alone
abbrev pub BodiesRead : Ask → Result RowsAnswer Memory → Type 0
BodiesRead asked (Ok (rows_answer.Body body)) = reads_rows asked ≡ true
BodiesRead asked _ = Unit {0}

-- An answer is given on a stream, or memory was wanting for it.
abbrev pub GivesOne : Asked → Result Answer Memory → (stream : ℕ) → Ask → (begun : Bool) → (old new : Dealing) → Type 0
GivesOne asked.Goes (Ok answer) id asked begun old new = (ends answer ≡ false) × Decides old new id asked (parts_of begun answer)
GivesOne asked.Over (Ok answer) id asked begun old new = (ends answer ≡ true) × Decides old new id asked (parts_of begun answer)
GivesOne asked.Memory answer id asked begun old new = Unit {0}
GivesOne _ (Err memory) id asked begun old new = ⊥

-- ---- all that a frame decides

-- where a frame comes
pub record Start : Type 0 where
  pub frame : Frame
  pub played : Played
  pub passes : List TableView
  pub readings : Option (List ℤ)

-- Some of what the frame decides on a stream is answered; `decides` decides the rest.
pub record Deciding (plan : Planning) (s : Start) (id : ℕ) (after : List TableView) (readings : Option (List ℤ)) (decides : Played → Played) : Type 0 where
  pub answers : List Answered
  pub behind : Played
  pub takes : (later : List Answered) → take_frame (resumed s.played (answers ++ later)) s.frame ≡ decides (resumed behind later)
  pub used : behind.used ≡ s.played.used ++ answers
  pub calls : behind.calls ≡ s.played.calls
  pub others : (other : ℕ) → (other == id) ≡ false → has_answer behind.used other ≡ has_answer s.played.used other
  pub answered : IsAnswered behind
  pub given : (other : ℕ) → given_text behind.marked other ≡ spelling_on other behind.used
  pub served : Served plan s.passes answers after
  pub timed : GoesOn s.readings (map reading_of answers) readings
  pub in_time : All IsInTime answers
  pub sound : first_fault_of behind.marked ≡ None
  pub was_due : EachWasDue behind.marked

-- the same, and the connection stands for it; `begun` says whether something was answered on the stream
pub record Answering (plan : Planning) (s : Start) (id : ℕ) (after : List TableView) (readings : Option (List ℤ)) (conn : Dealing) (begun : Bool) (decides : Played → Played) : Type 0 where
  pub deciding : Deciding plan s id after readings decides
  pub stands : IsDealt conn deciding.behind.marked
  pub left : IsLeftOf deciding.behind conn.left
  pub begun_is : has_answer deciding.behind.used id ≡ begun

-- these things are still to be decided, on a call that has named this and has this body behind them
abbrev pub rest : (stream : ℕ) → Named → Option Body → List Ask → Played → Played
rest id named body asks q = decide q id named asks body

-- the call is over
abbrev pub over : (stream : ℕ) → Played → Played
over id q = set_call q id None

-- All things that a call asks at once are answered: it goes on, or is over; or memory was wanting. `begun` and `named` are
-- then what is kept of the call beside its body.
abbrev pub AsksAll : Asked → Planning → Start → (stream : ℕ) → (after : List TableView) (readings : Option (List ℤ)) → Dealing → (begun : Bool) → Named → Option Body → Type 0
AsksAll asked.Goes plan s id after readings conn begun named body = Answering plan s id after readings conn begun (rest id named body [])
AsksAll asked.Over plan s id after readings conn begun named body = (told : Bool) × Answering plan s id after readings conn told (over id)
AsksAll asked.Memory plan s id after readings conn begun named body = HeededInPart plan s.frame s.played s.passes after s.readings readings

-- the calls that are kept are those that went on before the frame
abbrev pub KeepsAll : (ℕ → Option Kept) → Start → Type 0
KeepsAll kept s = (other : ℕ) → kept other ≡ kept_of s.played.used other (s.played.calls other)

-- The calls that are kept are those that went on before the frame, without that of this stream.
abbrev pub KeepsOthers : (ℕ → Option Kept) → Start → (stream : ℕ) → Type 0
KeepsOthers kept s id = (other : ℕ) → kept other ≡ (if nat_eq id other then None else kept_of s.played.used other (s.played.calls other))

-- ---- what a frame tells

-- what an event decides
abbrev pub hears : Event → Played → Played
hears told q = hear q told

-- what bytes of the body of a call decide
abbrev pub bodies : (stream : ℕ) → (bytes : List ℕ) → (ended : Bool) → Call → Played → Played
bodies id bytes ended call q = hear_body q id bytes ended (Some call)

-- what bytes of a body on a stream decide, where a call goes on there
abbrev pub bodies_on : (stream : ℕ) → (bytes : List ℕ) → (ended : Bool) → Played → Played
bodies_on id bytes ended q = hear_body q id bytes ended (q.calls id)

-- what a request's fields decide
abbrev pub requests : (stream : ℕ) → List Field → (ended : Bool) → Played → Played
requests id fields ended q = hear_request q id fields ended (method_in fields)

-- what a request decides that opens no call
abbrev pub refuses : (stream : ℕ) → List Ask → Played → Played
refuses id asks q = refuse q id asks

-- nothing was answered on a stream before its request
abbrev pub IsFresh : List Answered → Event → Type 0
IsFresh used (event.Opened id fields ended) = has_answer used id ≡ false
IsFresh used (event.TooLarge id) = has_answer used id ≡ false
IsFresh used _ = Unit {0}

-- a frame came and told this, of which nothing is answered yet
pub record Hearing (plan : Planning) (s : Start) (passes : List TableView) (readings : Option (List ℤ)) (conn : Dealing) (kept : ℕ → Option Kept) (told : Event) : Type 0 where
  pub answering : (id : ℕ) → Answering plan s id passes readings conn (has_answer s.played.used id) (hears told)
  pub kept_are : KeepsAll kept s
  pub fresh : IsFresh s.played.used told
