use Rattle.schema_msgs.proofs.OutlineLemmas.{outline-fields_at}
use Rattle.schema_msgs.proofs.field_lists.TableFieldSchemas.from_vec.Goals as goal

pub returns : goal.returns
returns c = outline-fields_at c.args.nested.items c.requires
