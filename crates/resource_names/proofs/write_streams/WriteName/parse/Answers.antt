-- A text that is longer than any name is none.
use Rattle.std.proofs.Common.{arith, rules}
use Rattle.resource_names.specs.Write.{write_name_of}
use Rattle.resource_names.proofs.WriteLemmas.{write_short}
use Rattle.resource_names.proofs.write_streams.WriteName.parse.Goals as goal

pub returns-then-text-gt-MAX_NAME_BYTES : goal.returns-then-text-gt-MAX_NAME_BYTES
returns-then-text-gt-MAX_NAME_BYTES c = write_short c.args.text.now (omega (arith, c.if-text-gt-MAX_NAME_BYTES.true))

pub returns : goal.returns
unfolding write_name_of
returns c = search rules
