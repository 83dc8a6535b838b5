-- A fault is the one of the definition that counts.
use Rattle.std.proofs.Common.{Err, ap}
use Rattle.schema_msgs.proofs.ReadingLemmas.{appended, nested_read}
use Rattle.schema_msgs.proofs.schema_reading.with_nested.Goals as goal

pub returns-in-Err : goal.returns-in-Err
returns-in-Err c = nested_read c.args.so_far c.args.read _ c.args.n (Err c.in-Err.fault) (ap appended c.in-Err.ensures) c.located.ensures
