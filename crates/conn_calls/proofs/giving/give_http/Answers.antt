use Rattle.std.proofs.Common.{◌∙◌}
use Rattle.conn_calls.proofs.GivingLemmas.{http-short}
use Rattle.conn_calls.proofs.giving.give_http.Goals as goal

pub give_head-requires : goal.give_head-requires
give_head-requires c = record { short = http-short _ _ (c.deref.ensures.value ∙ c.in_ok-fields.ensures) }
