-- A control frame of the stream waits among the others, or is the credit of the latest frame.
use Rattle.std.proofs.Common.{option_to_list, sym, ◌∙◌}
use Rattle.h2_conn.proofs.WithinOut.{held-first, held-latest}
use Rattle.h2_conn.proofs.bounds.StreamBoundsLimits.is_held.Goals as goal

pub returns-then-waits_on : goal.returns-then-waits_on
returns-then-waits_on c = c.if-waits_on.true ∙ sym (held-first c.args.self.now.control.now.items (option_to_list c.args.self.now.latest) c.args.id (sym c.if-waits_on.ensures))

pub returns-else-waits_on : goal.returns-else-waits_on
returns-else-waits_on c = c.is_latest_on.ensures ∙ sym (held-latest c.args.self.now.control.now.items (option_to_list c.args.self.now.latest) c.args.id (sym c.if-waits_on.ensures))
