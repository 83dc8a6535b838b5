use Rattle.resource_names.proofs.TableLemmas.{table_spelled, table_read}
use Rattle.resource_names.proofs.laws.tables_are_spelled.Goals as goal

pub returns : goal.returns
returns c text name = (table_spelled text name, table_read text name)
