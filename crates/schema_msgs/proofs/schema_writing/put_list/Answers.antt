-- The outline of the fields is written, of which they are read back.
use Rattle.std.proofs.Common.{ap, sym, subst, ◌∙◌, ◌++◌}
use Rattle.proto_fields.specs.Message.{message_of}
use Rattle.schema_msgs.specs.Outline.{IsOutline, fields_at}
use Rattle.schema_msgs.specs.OutlineCode.{fields_at-outline}
use Rattle.schema_msgs.specs.SchemaBytes.{field_records}
use Rattle.schema_msgs.proofs.OutlineLemmas.{outline_nests}
use Rattle.schema_msgs.proofs.schema_writing.put_list.Goals as goal

pub put_fields-requires-clause-nests : goal.put_fields-requires-clause-nests
put_fields-requires-clause-nests c = subst IsOutline (sym c.nested.ensures) (outline_nests c.args.fields.now)

pub returns : goal.returns
returns c =
    c.in_ok-put_fields.ensures
    ∙ ap (λ fs. c.args.out.now ++ message_of (field_records c.args.number fs)) (ap (fields_at 0) c.nested.ensures ∙ fields_at-outline 0 c.args.fields.now)
