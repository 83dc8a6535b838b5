-- What a link and a clock show.
use Rattle.std.specs.Prelude.{ℕ, ℤ, Bool, List, Option}
use Rattle.links.specs.Link.{Moved}
use Rattle.conn_service.specs.Serves.{Shown}

-- by what a link tells of itself, and the readings of the clock
abbrev pub shown : {L : Type 0} → (log : L → Option (List Moved)) (left : L → Option (List ℕ)) (ended : L → Bool) (faults : L → ℕ) (link : L) (readings : Option (List ℤ)) → Shown
shown log left ended faults link readings = record { log = log link; left = left link; ended = ended link; faults = faults link; readings = readings }
