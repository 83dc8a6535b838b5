-- Laws of a record on which each frame that went was due.
use Rattle.std.specs.Prelude.{ℕ}
use Rattle.h2_record.specs.Record.{Record}
use Rattle.h2_record.specs.Written.{EachWasDue, EachWasOpen, WritesFronts, WritesAll}
use Rattle.h2_record.specs.Quiet.{EachFits, NoneFits, IsQuiet}

-- what is written is what was given
pub record AnswersAreKept (r : Record) : Type 0 where
  pub fronts : EachWasDue r → WritesFronts r
  pub all : EachWasDue r → EachWasOpen r → WritesAll r

-- a room that no frame is too long for
abbrev pub wide_room : ℕ
wide_room = 65536

abbrev pub QuietWhereNoneFits : Record → Type 0
QuietWhereNoneFits r = EachWasDue r → EachFits r → NoneFits r wide_room → IsQuiet r
