use Rattle.schema_msgs.proofs.LevelLemmas.{fields_nest}
use Rattle.schema_msgs.proofs.laws.fields_nest.Goals as goal

pub returns : goal.returns
returns c = fields_nest
