-- The rules in their order.
use Rattle.std.proofs.Common.{ap, ◌∙◌}
use Rattle.h2_conn.specs.Held.{Held}
use Rattle.h2_conn.specs.Taking.{early_of}
use Rattle.h2_record.proofs.FaultLemmas.{early-left}
use Rattle.h2_conn.proofs.conn.Conn.early_fault.Goals as goal

pub returns : goal.returns
returns c =
    rw (
      c.or-5.ensures,
      c.or-4.ensures,
      c.or-3.ensures,
      c.or-2.ensures,
      c.or.ensures,
      c.broken-6.ensures,
      c.broken-5.ensures,
      c.broken-4.ensures,
      c.broken-3.ensures,
      c.broken-2.ensures,
      c.broken.ensures,
      c.zero_code.ensures,
      c.idle_code.ensures,
      c.even_code.ensures,
      c.settings_code.ensures,
      c.code_if.ensures,
      c.is_outside.ensures,
      c.preface_code.ensures,
      c.last-last.ensures,
    )
    (early-left c.self.inside.has_begun c.self.inside.block c.self.inside.streams.last c.args.frame.now ∙ ap (λ (held : Held). early_of held c.args.frame.now) c.self.view_is)
