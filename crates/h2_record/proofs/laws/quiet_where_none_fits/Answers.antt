use Rattle.std.proofs.Common.{arith}
use Rattle.h2_record.specs.Laws.{wide_room}
use Rattle.h2_record.proofs.QuietLaws.{quiet}
use Rattle.h2_record.proofs.laws.quiet_where_none_fits.Goals as goal

pub returns : goal.returns
returns c r due fits none = quiet r wide_room due fits none (omega arith)
