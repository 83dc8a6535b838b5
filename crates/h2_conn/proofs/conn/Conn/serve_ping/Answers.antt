-- PING with ACK is passed over.
use Rattle.std.proofs.Common.{Bool, sym, subst}
use Rattle.h2_frames.specs.declared.frame.Frame.TheVariants as frames
use Rattle.h2_conn.specs.Taking.{IsPingAcked, IsPassed}
use Rattle.h2_conn.proofs.conn.Conn.serve_ping.Goals as goal

pub pass-requires-clause-passed : goal.pass-requires-clause-passed
pass-requires-clause-passed c = subst (λ (b : Bool). IsPassed (frames.Ping b c.args.octets)) (sym c.if-ack.true) (IsPingAcked c.args.octets)
