-- That a timeline is the reading of the bytes that came: the preface, the spellings of its frames, and what is held.
use Rattle.std.specs.Prelude.{◌≡◌, false, List, [], ◌∷◌, ◌++◌}
use Rattle.links.specs.Link.{Moved, bytes_read}
use Rattle.h2_frames.specs.declared.frame.Frame.{Frame}
use Rattle.h2_frames.specs.Run.{Reads}
use Rattle.h2_record.specs.Record.{Record, In}
use Rattle.conn_record.specs.Timeline.{framing_of, timeline_of, is_broken}

-- the frames that came, the earliest first
abbrev pub came_in : Record → List Frame
came_in [] = []
came_in (In frame ∷ r) = came_in r ++ frame ∷ []
came_in (_ ∷ r) = came_in r

-- While no rule of framing is broken, the bytes that came are read as the frames that came, and the rest is held.
abbrev pub TimelinesAreRead : Type 0
TimelinesAreRead = (log : List Moved) → is_broken (timeline_of log) ≡ false
    → Reads (framing_of log).inflow.started (framing_of log).inflow.bytes (bytes_read log) (came_in (timeline_of log))
