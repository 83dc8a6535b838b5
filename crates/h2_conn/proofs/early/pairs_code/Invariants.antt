use Rattle.std.proofs.Common.{◌≡◌, drop}
use Rattle.h2_record.specs.Rules.{pairs_code}
use Rattle.h2_conn.proofs.early.pairs_code.Given as goal

-- no pair before this one has a code
abbrev pub invariant-loop-pair : goal.invariant-loop-pair
invariant-loop-pair l = pairs_code (drop l.pair-index l.pairs) ≡ pairs_code l.pairs
