use Rattle.schema_msgs.proofs.SchemaBack.{fields_read_back}
use Rattle.schema_msgs.proofs.laws.fields_read_back.Goals as goal

pub returns : goal.returns
returns c = fields_read_back
