-- The control frames due, and the credit kept, once the credit of the latest frame is given or kept.
use Rattle.std.specs.Prelude.{ℕ, ◌+◌, List, ◌++◌}
use Rattle.h2_frames.specs.declared.frame.Frame.{Frame}
use Rattle.h2_record.specs.Record.{Record}
use Rattle.h2_record.specs.Credits.{owed_of, given_of, kept_of, kept_by}
use Rattle.h2_record.specs.Control.{control_of}

-- the control frames due when the next frame comes
abbrev pub settled_control : Record → List Frame
settled_control r = control_of r ++ given_of r (owed_of r)

-- the credit that is kept then
abbrev pub settled_kept : Record → ℕ → ℕ
settled_kept r id = kept_of r id + kept_by r (owed_of r) id
