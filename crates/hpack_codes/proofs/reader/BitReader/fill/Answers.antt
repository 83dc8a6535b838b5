use Rattle.std.proofs.Common.{◌<◌, ◌∙◌, get_or, arith}
use Rattle.hpack_codes.proofs.BitLemmas.{taken, kept_fits}
use Rattle.hpack_codes.proofs.reader.BitReader.fill.Goals as goal

pub loop-self-preserved : goal.loop-self-preserved
loop-self-preserved c =
    let r = c.loop-self.self in
    let byte : get_or c.args.bytes.now r.at 0 < 256 = omega (arith, c.type_inv.bytes r.at) in
    rw c.from.ensures (record { few = omega arith; kept = kept_fits r.count r.kept (get_or c.args.bytes.now r.at 0) c.loop-self.invariant.0.kept byte; within = omega arith }, taken r.count r.kept r.at c.args.bytes.now (omega arith) byte ∙ c.loop-self.invariant.1)
