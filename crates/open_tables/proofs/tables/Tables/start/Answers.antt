use Rattle.open_tables.proofs.TableLemmas.{theirs_first}
use Rattle.open_tables.proofs.tables.Tables.start.Goals as goal

pub invariant_of-result : goal.invariant_of-result
invariant_of-result c = record { tables = rw c.in_ok-each.ensures.specs c.requires; columns = c.in_ok-each.ensures.columns }

pub returns-clause-theirs : goal.returns-clause-theirs
returns-clause-theirs c = rw c.in_ok-each.ensures.passes (theirs_first _)
