-- What a run of the program has outside itself.
use Rattle.std.specs.Prelude.{ℕ, Bool, List, Option}
use Rattle.conn_service.specs.Serves.{Shown}
use Rattle.server.specs.Serving.{DoorShows}

-- The objects: the door, the link and the clock of a connection, the input and the output.
pub record Objects (D P C I O : Type 0) : Type 0 where
  pub door : D
  pub pipe : P
  pub clock : C
  pub input : I
  pub out : O

-- What the input and the output show at a moment: the bytes left of the one and those that the other took, where they are
-- told, and how many faults each met.
pub record StandardStreams : Type 0 where
  pub left : Option (List ℕ)
  pub taken : Option (List ℕ)
  pub source_faults : ℕ
  pub sink_faults : ℕ

-- What all of them show: the input and the output, the link with the clock, whether the link is closed, the door, and how
-- many faults it met.
pub record Shows (L : Type 0) : Type 0 where
  pub streams : StandardStreams
  pub pipe : Shown
  pub closed : Bool
  pub door : DoorShows L
  pub door_faults : ℕ
