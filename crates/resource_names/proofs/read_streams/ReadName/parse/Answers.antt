-- A text that is longer than any name is none.
use Rattle.std.proofs.Common.{arith, rules}
use Rattle.resource_names.specs.Read.{read_name_of}
use Rattle.resource_names.proofs.ReadLemmas.{read_short}
use Rattle.resource_names.proofs.read_streams.ReadName.parse.Goals as goal

pub returns-then-text-gt-MAX_NAME_BYTES : goal.returns-then-text-gt-MAX_NAME_BYTES
returns-then-text-gt-MAX_NAME_BYTES c = read_short c.args.text.now (omega (arith, c.if-text-gt-MAX_NAME_BYTES.true))

pub returns : goal.returns
unfolding read_name_of
returns c = search rules
