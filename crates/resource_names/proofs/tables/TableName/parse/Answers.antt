-- A text that is longer than any name is none.
use Rattle.std.proofs.Common.{arith, rules}
use Rattle.resource_names.specs.Table.{table_name_of}
use Rattle.resource_names.proofs.TableLemmas.{table_short}
use Rattle.resource_names.proofs.tables.TableName.parse.Goals as goal

pub returns-then-text-gt-MAX_NAME_BYTES : goal.returns-then-text-gt-MAX_NAME_BYTES
returns-then-text-gt-MAX_NAME_BYTES c = table_short c.args.text.now (omega (arith, c.if-text-gt-MAX_NAME_BYTES.true))

pub returns : goal.returns
unfolding table_name_of
returns c = search rules
