-- The outline that was read is that of the fields.
use Rattle.std.proofs.Common.{◌≡◌, List, Ok, ℕ, ap, subst, ◌∙◌, map}
use Rattle.proto_fields.specs.Selection.{payloads_of}
use Rattle.proto_fields.specs.Spans.{part, records_in}
use Rattle.write_msgs.specs.Repeated.{items_from}
use Rattle.schema_msgs.specs.Schema.{table_field_schema_of}
use Rattle.schema_msgs.specs.Walk.{laid_all}
use Rattle.schema_msgs.proofs.ReadingLemmas.{laid_ok, fields_read}
use Rattle.schema_msgs.proofs.schema_reading.read_fields.Goals as goal

pub from_vec-requires : goal.from_vec-requires
from_vec-requires c = laid_ok _ c.in-Ok.nested.items c.in-Ok.ensures

pub returns-in-Ok : goal.returns-in-Ok
returns-in-Ok c =
    let bytes : List ℕ = c.args.bytes.now in
    let same : map (part bytes) c.as_slice.result.now ≡ payloads_of c.args.number (records_in bytes c.args.found.now) = ap (map (part bytes)) c.as_slice.ensures.value ∙ c.in_ok-places.ensures.bytes bytes in
    fields_read c.args.number bytes _ c.in-Ok.nested.items c.from_vec.result (subst (λ items. laid_all 0 (items_from table_field_schema_of 0 items) ≡ Ok c.in-Ok.nested.items) same c.in-Ok.ensures) c.from_vec.ensures
