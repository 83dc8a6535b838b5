-- A fault is the one of the definition that counts.
use Rattle.write_msgs.proofs.RepeatedLemmas.{item_refused}
use Rattle.write_msgs.proofs.repeated.with_item.Goals as goal

pub returns-in-Err : goal.returns-in-Err
returns-in-Err g c = item_refused c.args.so_far c.args.read _ c.args.n c.in-Err.fault c.in-Err.ensures c.located.ensures
