-- What the loop of a connection keeps from one round to the next, and what a round answers.
use Rattle.std.specs.Prelude.{◌≡◌, ◌⊎◌, ℕ, ◌≤◌, Bool, true, List, [], ◌∷◌, Option}
use Rattle.links.specs.Told.{more}
use Rattle.links.specs.Link.{Read}
use Rattle.h2_frames.specs.Held.{Held as ReaderHeld}
use Rattle.h2_frames.specs.Reading.{held_with, held_after}
use Rattle.h2_frames.specs.declared.frame.Frame.{Frame}
use Rattle.h2_frames.specs.declared.reader.Next.{Next}
use Rattle.h2_frames.specs.declared.reader.Next.TheVariants as answers
use Rattle.h2_frames.specs.declared.fault.H2Fault.{H2Fault}
use Rattle.conn_deferral.specs.Deferred.{Dealing, Deals}
use Rattle.open_tables.specs.Tables.{TableView}
use Rattle.conn_record.specs.declared.limits.TheConstants.{MOST_BEHIND}
use Rattle.conn_record.specs.Timeline.{framing_of}
use Rattle.conn_service.specs.declared.ending.Ending.{Ending}
use Rattle.conn_service.specs.Served.{Planning}
use Rattle.conn_service.specs.Quiet.{IsWritten}
use Rattle.conn_service.specs.Serves.{Shown, Serves}
use Rattle.conn_service.specs.Going.{Kept, Going}
use Rattle.conn_service.specs.Steps.{met, Breaks, IsHeard}
use Rattle.conn_calls.specs.Calls.{kept_in}
use Rattle.conn_calls.specs.Dealing.{dealing_of}
use Rattle.conn_loop.specs.declared.round.Rounded.{Rounded}
use Rattle.conn_loop.specs.declared.round.Rounded.TheVariants as rounded
use Rattle.conn_loop.specs.declared.state.State.{State}

module _ (plan : Planning) (passes0 passes : List TableView) (old now : Shown) where
  -- It goes on, and where it is quiet, all is written but for what windows and resets hold up.
  pub record Stays (conn : Dealing) (reader : ReaderHeld) (kept : ℕ → Option Kept) (is_quiet : Bool) : Type 0 where
    pub going : Going plan passes0 passes old now conn reader kept
    pub quiet : is_quiet ≡ true → IsWritten going.played

  -- A frame may begin here: it is quiet, or much was written since the latest frame came.
  pub record IsReady (conn : Dealing) (reader : ReaderHeld) (kept : ℕ → Option Kept) (is_quiet : Bool) : Type 0 where
    pub going : Going plan passes0 passes old now conn reader kept
    pub quiet : is_quiet ≡ true → IsWritten going.played
    pub ready : IsWritten going.played ⊎ (MOST_BEHIND ≤ (framing_of going.log).since)

  -- A piece was read where it may be, and the reader answered so; nothing else moved since.
  pub record HasHeard (answer : Next) (conn : Dealing) (reader : ReaderHeld) (kept : ℕ → Option Kept) : Type 0 where
    pub before : Shown
    pub held : ReaderHeld
    pub going : Going plan passes0 passes old before conn held kept
    pub bytes : List ℕ
    pub heard : IsHeard plan passes0 passes old before conn held kept going bytes answer
    pub log : now.log ≡ more before.log (Read bytes ∷ [])
    pub readings : now.readings ≡ before.readings
    pub faults : now.faults ≡ before.faults
    pub reader_is : reader ≡ held_after (held_with held bytes) answer

  -- What was read broke this rule, and the connection stands for the record with it.
  pub record HasBroken (fault : H2Fault) (conn : Dealing) : Type 0 where
    pub answer : Next
    pub before : Dealing
    pub reader : ReaderHeld
    pub kept : ℕ → Option Kept
    pub read : HasHeard answer before reader kept
    pub breaks : Breaks read.going.played.marked answer fault
    pub deals : Deals conn (met answer read.going.played.marked)

  abbrev pub Keeps : State → Type 0
  Keeps state = Stays (dealing_of state.conn) state.reader (kept_in state.calls) state.is_quiet

  abbrev pub MayRead : State → Type 0
  MayRead state = IsReady (dealing_of state.conn) state.reader (kept_in state.calls) state.is_quiet

-- by cases on what a round answers
abbrev pub MatchRounded : Rounded → (goes_on : Type 0) → (ended : Ending → Type 0) → Type 0
MatchRounded rounded.GoesOn goes_on ended = goes_on
MatchRounded (rounded.Ended ending) goes_on ended = ended ending

-- Whatever the connection did so far: the loop goes on so, or the connection was served to this end.
abbrev pub Rounds : Planning → (passes after : List TableView) (now next : Shown) (state behind : State) → Rounded → Type 0
Rounds plan passes after now next state behind answer = (passes0 : List TableView) (old : Shown) → Keeps plan passes0 passes old now state
    → MatchRounded answer (Keeps plan passes0 after old next behind) (λ ending. Serves plan passes0 after old next ending)

-- Frames were written: a frame may begin, or the connection was served to this end.
abbrev pub Readies : (now next : Shown) (state behind : State) → Rounded → Type 0
Readies now next state behind answer = (plan : Planning) (passes0 passes : List TableView) (old : Shown) → Keeps plan passes0 passes old now state
    → MatchRounded answer (MayRead plan passes0 passes old next behind) (λ ending. Serves plan passes0 passes old next ending)

-- The link was read, where a frame may begin.
abbrev pub ReadsOnce : Planning → (passes after : List TableView) (now next : Shown) (state behind : State) → Rounded → Type 0
ReadsOnce plan passes after now next state behind answer = (passes0 : List TableView) (old : Shown) → MayRead plan passes0 passes old now state
    → MatchRounded answer (Keeps plan passes0 after old next behind) (λ ending. Serves plan passes0 after old next ending)

-- A frame came whole, and was heeded.
abbrev pub Takes : Planning → Frame → (passes after : List TableView) (now next : Shown) (state behind : State) → Rounded → Type 0
Takes plan frame passes after now next state behind answer = (passes0 : List TableView) (old : Shown)
    → HasHeard plan passes0 passes old now (answers.Frame frame) (dealing_of state.conn) state.reader (kept_in state.calls)
    → MatchRounded answer (Keeps plan passes0 after old next behind) (λ ending. Serves plan passes0 after old next ending)

-- Nothing was there to be read.
abbrev pub Rests : (now next : Shown) → State → Rounded → Type 0
Rests now next state answer = (plan : Planning) (passes0 passes : List TableView) (old : Shown) → Keeps plan passes0 passes old now state
    → MatchRounded answer (Keeps plan passes0 passes old next state) (λ ending. Serves plan passes0 passes old next ending)

-- Bytes came that break a rule of framing.
abbrev pub BreaksOff : H2Fault → (now next : Shown) → State → Ending → Type 0
BreaksOff fault now next state ending = (plan : Planning) (passes0 passes : List TableView) (old : Shown)
    → HasHeard plan passes0 passes old now (answers.Fault fault) (dealing_of state.conn) state.reader (kept_in state.calls) → Serves plan passes0 passes old next ending

-- A rule was broken, and the connection ended.
abbrev pub Leaves : H2Fault → (now next : Shown) → Dealing → Ending → Type 0
Leaves fault now next conn ending = (plan : Planning) (passes0 passes : List TableView) (old : Shown)
    → HasBroken plan passes0 passes old now fault conn → Serves plan passes0 passes old next ending
