use Rattle.std.proofs.Common.{◌+◌, ◌-◌, get_or, arith}
use Rattle.hpack_codes.specs.declared.tables.TheConstants.{FIRST_CODES}
use Rattle.hpack_codes.proofs.TableLemmas.{first_at, symbol_found, symbol_within, symbol_small}
use Rattle.hpack_codes.proofs.tables.symbol_of.Goals as goal

pub overflow_sub-result : goal.overflow_sub-result
overflow_sub-result c = let first = first_at c.args.len (omega arith) in omega (arith, first)

pub bounds-from : goal.bounds-from
bounds-from c = let within = symbol_within c.args.len c.args.code (omega arith) c.requires.from c.requires.below in omega (arith, within, c.from.ensures)

pub returns-clause-gives : goal.returns-clause-gives
returns-clause-gives c = let found = symbol_found c.args.len c.args.code (omega arith) c.requires.from c.requires.below in rw c.from.ensures found

pub returns-clause-most : goal.returns-clause-most
returns-clause-most c = symbol_small (c.from.result + (c.args.code - get_or FIRST_CODES c.args.len 0))
