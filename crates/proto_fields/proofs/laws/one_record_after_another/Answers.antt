use Rattle.std.proofs.Common.{refl}
use Rattle.proto_fields.specs.Message.{placed_from}
use Rattle.proto_fields.proofs.MessageLaws.{fields_of-record, fields_of-bad_behind, fields_of-bad}
use Rattle.proto_fields.proofs.laws.one_record_after_another.Goals as goal

pub returns-clause-record_and_others : goal.returns-clause-record_and_others
returns-clause-record_and_others c = fields_of-record

pub returns-clause-bad_behind : goal.returns-clause-bad_behind
returns-clause-bad_behind c = fields_of-bad_behind

pub returns-clause-bad : goal.returns-clause-bad
returns-clause-bad c = fields_of-bad

pub returns-clause-empty : goal.returns-clause-empty
unfolding placed_from
returns-clause-empty c = refl
