-- What a connection holds, as contracts see it.
use Rattle.std.specs.Prelude.{ℕ, ℤ, Bool, List, Option}
use Rattle.hpack_blocks.specs.Answers.{Standing}
use Rattle.h2_frames.specs.declared.fault.H2Fault.{H2Fault}
use Rattle.h2_streams.specs.Book.{Book}
use Rattle.h2_answers.specs.Waiting.{Waiting}
use Rattle.h2_record.specs.declared.block.OpenBlock.{OpenBlock}
use Rattle.h2_record.specs.declared.block.OwedCredit.{OwedCredit}
use Rattle.h2_record.specs.declared.control.Control.{Control}

pub record Held : Type 0 where
  -- a connection error was met
  pub fault : Option H2Fault
  -- memory was refused while a frame was taken; every further one is answered so
  pub is_lost : Bool
  -- a frame was taken
  pub has_begun : Bool
  -- the connection's send window, and the initial size of those of streams
  pub window : ℤ
  pub initial : ℕ
  -- the live streams, the last id begun and the remembered resets
  pub streams : Book
  -- the header block whose END_HEADERS hasn't come, and the decoder
  pub block : Option OpenBlock
  pub decoder : Standing
  -- the control frames that wait
  pub control : List Control
  -- the credit of the latest frame, and the credit that is kept, by stream
  pub owed : Option OwedCredit
  pub kept : List (ℕ × ℕ)
  -- frames that ask for nothing, since the latest that made a request whole
  pub flood : ℕ
  -- a header block went
  pub has_headed : Bool
  -- what waits on each stream
  pub answers : List (ℕ × Waiting)
  -- bytes that were produced and aren't counted as written
  pub unwritten : ℕ
