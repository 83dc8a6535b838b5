-- How many levels are allowed changes nothing, as long as they are more than the message has bytes.
use Rattle.std.proofs.Common.{◌≡◌, ℕ, zero, suc, ◌+◌, ◌<◌, ◌≤◌, List, [], ◌∷◌, length, Result, Ok, Err, refl, sym, ap, subst, ◌∙◌, sum_by, arith}
use Rattle.std.proofs.lemmas.List.Sums.{sum_by-cons}
use Rattle.proto_fields.specs.Record.{Record}
use Rattle.proto_fields.specs.Message.{fields_of}
use Rattle.proto_fields.specs.Selection.{payloads_of}
use Rattle.proto_fields.proofs.SizeLemmas.{tagged, payloads_are_shorter}
use Rattle.write_msgs.specs.declared.faults.MsgFault.{MsgFault}
use Rattle.write_msgs.specs.Faults.{both, ReadsAs}
use Rattle.write_msgs.specs.Reading.{◌>>=◌, refused_at, records_of}
use Rattle.write_msgs.specs.Repeated.{located, joined, items_from, placed_items}
use Rattle.schema_msgs.specs.declared.schemas.TableFieldSchema.{TableFieldSchema}
use Rattle.schema_msgs.specs.Schema.{gathered, fields_in, field_by, field_within, table_field_schema_of}

refused_ok : {A : Type 0} (r : Result A ℕ) (x : A) → refused_at r ≡ Ok x → r ≡ Ok x
refused_ok (Ok y) x e = cc
refused_ok (Err at) x e = absurd cc

-- what the fields of a message hold is shorter than the message
pub payloads_shorter : (bytes : List ℕ) (records : List Record) (number : ℕ) → records_of bytes ≡ Ok records → sum_by tagged (payloads_of number records) ≤ length bytes
payloads_shorter bytes records number read = payloads_are_shorter bytes records number (refused_ok (fields_of bytes) records read)

items_same : {X : Type 0} (read other : List ℕ → Result X MsgFault) (size n : ℕ) (items : List (List ℕ)) → sum_by tagged items ≤ size → ((bytes : List ℕ) → length bytes < size → read bytes ≡ other bytes)
    → items_from read n items ≡ items_from other n items
unfolding items_from
items_same read other size n [] small same = refl
items_same read other size n (bytes ∷ items) small same =
    let sum = sum_by-cons tagged bytes items in
    ap (λ r. joined (both (located n r) (items_from read (n + 1) items))) (same bytes (omega (arith, small, sum)))
    ∙ ap (λ r. joined (both (located n (other bytes)) r)) (items_same read other size (n + 1) items (omega (arith, small, sum)) same)

field_by_same : (read other : List ℕ → Result TableFieldSchema MsgFault) (bytes : List ℕ) (r : Result (List Record) MsgFault) → records_of bytes ≡ r → ((inner : List ℕ) → length inner < length bytes → read inner ≡ other inner)
    → field_by read bytes ≡ field_by other bytes
field_by_same read other bytes (Ok records) is same =
    let items : items_from read 0 (payloads_of 4 records) ≡ items_from other 0 (payloads_of 4 records) =
    items_same read other (length bytes) 0 (payloads_of 4 records) (payloads_shorter bytes records 4 is) same in
    let within : fields_in read 4 bytes records ≡ fields_in other 4 bytes records = ap (λ all. placed_items 4 bytes all >>= λ fields. Ok (gathered fields)) items in
    rw (is, within) refl
field_by_same read other bytes (Err e) is same = rw is refl

enough : (levels others : ℕ) (bytes : List ℕ) → length bytes < levels → length bytes < others → field_within levels bytes ≡ field_within others bytes
unfolding field_within
enough zero others bytes h k = absurd (omega (arith, h))
enough (suc levels) zero bytes h k = absurd (omega (arith, k))
enough (suc levels) (suc others) bytes h k =
    field_by_same (field_within levels) (field_within others) bytes (records_of bytes) refl (λ inner less. enough levels others inner (omega (arith, h, less)) (omega (arith, k, less)))

-- A field is read as field_by says, and those within it in the same way.
pub fields_nest : (bytes : List ℕ) → table_field_schema_of bytes ≡ field_by table_field_schema_of bytes
unfolding table_field_schema_of field_within
fields_nest bytes =
    let one : length bytes + 1 ≡ suc (length bytes) = omega arith in
    ap (λ levels. field_within levels bytes) one
    ∙ field_by_same (field_within (length bytes)) table_field_schema_of bytes (records_of bytes) refl (λ inner less. enough (length bytes) (length inner + 1) inner less (omega arith))

pub read_by_levels : (bytes : List ℕ) (r : Result TableFieldSchema MsgFault) → ReadsAs r (field_by table_field_schema_of bytes) → ReadsAs r (table_field_schema_of bytes)
read_by_levels bytes r h = subst (ReadsAs r) (sym (fields_nest bytes)) h
