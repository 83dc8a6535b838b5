-- What holds at places of a log: where the link waited, and where the first byte of the preface or of a frame was read.
use Rattle.std.specs.Prelude.{◌≡◌, ℕ, ◌==◌, Bool, true, not, ◌&&◌, List, [], ◌∷◌, length}
use Rattle.links.specs.Link.{Moved, Read, Wrote, Waited}
use Rattle.conn_record.specs.Timeline.{Framing, is_broken, byte_in, moved}

-- nothing is held of a frame or of the preface
abbrev pub is_between : Framing → Bool
is_between s = length s.inflow.bytes == 0

-- the next byte that comes is the first of the preface or of a frame
abbrev pub begins_frame : Framing → Bool
begins_frame s = not (is_broken s.frames) && is_between s

module _ (AtWait AtRead : Framing → Type 0) where
  -- where these bytes came from here on, however many frames they make whole
  abbrev pub HoldsAtBytes : Framing → List ℕ → Type 0
  HoldsAtBytes s [] = Unit {0}
  HoldsAtBytes s (byte ∷ bytes) = (begins_frame s ≡ true → AtRead s) × HoldsAtBytes (byte_in s byte) bytes

  -- from a place on, where the log so far is framed so
  abbrev pub HoldsFrom : Framing → List Moved → Type 0
  HoldsFrom s [] = Unit {0}
  HoldsFrom s (Read bytes ∷ log) = HoldsAtBytes s bytes × HoldsFrom (moved s (Read bytes)) log
  HoldsFrom s (Wrote bytes ∷ log) = HoldsFrom (moved s (Wrote bytes)) log
  HoldsFrom s (Waited ∷ log) = AtWait s × HoldsFrom s log
