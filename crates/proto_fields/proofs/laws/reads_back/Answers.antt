use Rattle.proto_fields.proofs.RoundTrip.{fields_of-message_of}
use Rattle.proto_fields.proofs.laws.reads_back.Goals as goal

pub returns : goal.returns
returns c = fields_of-message_of
