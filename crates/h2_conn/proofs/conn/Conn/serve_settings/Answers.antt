-- SETTINGS with ACK are passed over.
use Rattle.std.proofs.Common.{Bool, sym, subst}
use Rattle.h2_frames.specs.declared.frame.Frame.TheVariants as frames
use Rattle.h2_conn.specs.Taking.{IsAcked, IsPassed}
use Rattle.h2_conn.proofs.conn.Conn.serve_settings.Goals as goal

pub pass-requires-clause-passed : goal.pass-requires-clause-passed
pass-requires-clause-passed c = subst (λ (b : Bool). IsPassed (frames.Settings b c.args.pairs)) (sym c.if-ack.true) (IsAcked c.args.pairs)
