-- Each stream is written once, in its place.
use Rattle.std.proofs.Common.{rules}
use Rattle.h2_streams.proofs.ShiftLemmas.{shifted-RetainsPairs}
use Rattle.h2_streams.proofs.streams.shift_live.Goals as goal

pub returns : goal.returns
returns c = shifted-RetainsPairs _ c.args.by _ (λ k v b w g call. search rules) _ _ c.requires.low c.requires.high c.retain.ensures.filtered
