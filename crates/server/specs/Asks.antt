-- What the door was asked for, and what was put into the queue.
use Rattle.std.specs.Prelude.{◌≡◌, ◌⊎◌, ℕ, ◌+◌, List, [], ◌++◌, map, length, Result, OnOk}
use Rattle.links.specs.Told.{Tells}
use Rattle.server.specs.declared.faults.ServeFault.{ServeFault}
use Rattle.server.specs.Serving.{DoorShows, led}

-- The door gave the links of these jobs, in their order, and they were put behind those before.
pub record HasAsked {L J : Type 0} (link_of : J → L) (old new : DoorShows L) (put0 put : List J) (number : ℕ) : Type 0 where
  pub jobs : List J
  pub count : length jobs ≡ number
  pub puts : put ≡ put0 ++ jobs
  pub left : old.left ≡ led (map link_of jobs) new.left
  pub handed : new.handed ≡ old.handed
  pub out : new.out ≡ old.out + number

-- Unless the door failed, they are so many as were wanted, or it has none left.
pub record AsksAll {L J : Type 0} (link_of : J → L) (old new : DoorShows L) (put0 put : List J) (connections : ℕ) (result : Result (Unit {0}) ServeFault) : Type 0 where
  pub number : ℕ
  pub asked : HasAsked link_of old new put0 put number
  pub enough : OnOk result ((number ≡ connections) ⊎ Tells new.left [])
