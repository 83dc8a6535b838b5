use Rattle.avro_rows.proofs.RowLemmas.{datum-unique, data-unique}
use Rattle.avro_rows.proofs.law.one_reading.Goals as goal

pub returns-clause-prefix : goal.returns-clause-prefix
returns-clause-prefix c = datum-unique

pub returns-clause-joined : goal.returns-clause-joined
returns-clause-joined c = data-unique
