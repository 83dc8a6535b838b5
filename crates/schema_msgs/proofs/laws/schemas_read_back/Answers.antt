use Rattle.schema_msgs.proofs.SchemaBack.{schemas_read_back}
use Rattle.schema_msgs.proofs.laws.schemas_read_back.Goals as goal

pub returns : goal.returns
returns c = schemas_read_back
