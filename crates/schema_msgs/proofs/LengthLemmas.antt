-- The lengths of the messages of fields.
use Rattle.std.proofs.Common.{◌≡◌, ℕ, ◌+◌, ◌*◌, List, [], ◌∷◌, ◌++◌, length, Result, Ok, Err, IfOk, refl, sym, ap, ◌∙◌, inl, inr, append_assoc, length-append, arith}
use Rattle.std.specs.Prelude.{◌==◌, nat_lt, if◌then◌else◌, reverse, slice_index_or}
use Rattle.std.proofs.lemmas.Bool.{cases_lt, lt-ltb, le-ltb, eq-eqb, ne_eqb}
use Rattle.std.proofs.lemmas.Grind.{reverse_onto}
use Rattle.proto_fields.specs.Varint.{varint_of}
use Rattle.proto_fields.specs.Record.{Record, record_bytes, head_bytes}
use Rattle.proto_fields.specs.Message.{message_of}
use Rattle.write_msgs.specs.Writing.{bytes_field, int_field, text_field}
use Rattle.write_msgs.proofs.ReadBack.{sizes_of_three}
use Rattle.write_msgs.proofs.WritingLemmas.{message_joins}
use Rattle.schema_msgs.specs.declared.nested_fields.NestedField.{NestedField}
use Rattle.schema_msgs.specs.Outline.{fields_at}
use Rattle.schema_msgs.specs.OutlineCode.{fields_at-less_deep, fields_at-deeper, fields_at-here}
use Rattle.schema_msgs.specs.SchemaBytes.{own_records, field_records}
use Rattle.schema_msgs.specs.Lengths.{own_bytes, level_bytes, size_of, sizes_of, IsBelow}

pub own_summed : {E : Type 0} (f : NestedField) (r : Result ℕ E) (a b c : ℕ) → IfOk r (λ s. s ≡ a + (b + c)) → a ≡ length (message_of (text_field 1 f.name)) → b ≡ length (message_of (int_field 2 f.column_type)) → c ≡ length (message_of (int_field 3 f.mode))
    → IfOk r (λ n. n ≡ length (own_bytes f))
own_summed f (Ok n) a b c h p q r = omega (arith, h, p, q, r, sizes_of_three (text_field 1 f.name) (int_field 2 f.column_type) (int_field 3 f.mode))
own_summed f (Err e) a b c h p q r = tt

-- a field more is measured
pub length-head : (number len : ℕ) → length (head_bytes number len) ≡ length (varint_of (number * 8 + 2)) + length (varint_of len)
length-head number len = length-append (varint_of (number * 8 + 2)) (varint_of len)

pub sizes_more : (fs behind : List NestedField) (f : NestedField) (all : List ℕ) (size : ℕ) → fs ≡ f ∷ behind → all ≡ reverse (sizes_of behind) → size ≡ size_of f behind → all ++ size ∷ [] ≡ reverse (sizes_of fs)
unfolding sizes_of
sizes_more fs behind f all size is h s =
    let whole : reverse (sizes_of (f ∷ behind)) ≡ reverse (sizes_of behind) ++ size_of f behind ∷ [] = reverse_onto (sizes_of behind) (size_of f behind) [] in
    rw (is, h, s) (sym whole)

-- what is written of a field, and of those of its depth behind it
level-here : (depth : ℕ) (f : NestedField) (behind : List NestedField) → f.depth ≡ depth → level_bytes depth (f ∷ behind) ≡ record_bytes (bytes_field 4 (own_bytes f ++ level_bytes (depth + 1) behind)) ++ level_bytes depth behind
unfolding field_records
level-here depth f behind here =
    let within : List Record = field_records 4 (fields_at (depth + 1) behind) in
    let joins : message_of (own_records f.name f.column_type f.mode ++ within) ≡ own_bytes f ++ message_of within = message_joins (own_records f.name f.column_type f.mode) within in
    ap (λ fs. message_of (field_records 4 fs)) (fields_at-here depth f behind here)
    ∙ ap (λ bytes. record_bytes (bytes_field 4 bytes) ++ level_bytes depth behind) joins

pub record_length : (number : ℕ) (bytes : List ℕ) → record_bytes (bytes_field number bytes) ≡ head_bytes number (length bytes) ++ bytes
record_length number bytes = sym (append_assoc (varint_of (number * 8 + 2)) (varint_of (length bytes)) bytes)

level-length : (f : NestedField) (behind : List NestedField) → length (level_bytes f.depth (f ∷ behind)) ≡ length (varint_of 34) + length (varint_of (size_of f behind)) + size_of f behind + length (level_bytes f.depth behind)
level-length f behind =
    let within : List ℕ = level_bytes (f.depth + 1) behind in
    let bytes : List ℕ = own_bytes f ++ within in
    let size : length bytes ≡ size_of f behind = length-append (own_bytes f) within in
    let one : length (record_bytes (bytes_field 4 bytes)) ≡ length (head_bytes 4 (size_of f behind)) + size_of f behind =
    ap length (record_length 4 bytes) ∙ length-append (head_bytes 4 (length bytes)) bytes ∙ ap (λ n. length (head_bytes 4 n) + n) size in
    omega (arith, ap length (level-here f.depth f behind refl), length-append (record_bytes (bytes_field 4 bytes)) (level_bytes f.depth behind), one, length-head 4 (size_of f behind))

pub below_none : (lengths : List ℕ) → lengths ≡ [] → IsBelow lengths []
unfolding field_records fields_at
below_none lengths none depth = rw none refl

level_added : (lengths : List ℕ) (f : NestedField) (behind : List NestedField) (added depth : ℕ) → IsBelow lengths behind → added ≡ length (varint_of 34) + length (varint_of (size_of f behind)) + size_of f behind
    → (if nat_lt f.depth depth then 0 else (if depth == f.depth then slice_index_or lengths depth 0 + added else slice_index_or lengths depth 0)) ≡ length (level_bytes depth (f ∷ behind))
unfolding field_records
level_added lengths f behind added depth below is =
    elim (cases_lt f.depth depth) [
      | inl less ↦ rw (lt-ltb f.depth depth less, fields_at-less_deep depth f behind less) refl
      | inr more ↦
          elim (cases_lt depth f.depth) [
            | inl deep ↦ rw (le-ltb f.depth depth more, ne_eqb depth f.depth (λ (e : depth ≡ f.depth). omega (arith, e)), fields_at-deeper depth f behind deep) (below depth)
            | inr shallow ↦
                let same : depth ≡ f.depth = omega arith in
                rw (le-ltb f.depth depth more, same, eq-eqb f.depth f.depth refl) (omega (arith, is, below f.depth, level-length f behind))
          ]
    ]

pub below_more : (lengths new : List ℕ) (fs behind : List NestedField) (f : NestedField) (added : ℕ) → fs ≡ f ∷ behind → IsBelow lengths behind → added ≡ length (varint_of 34) + length (varint_of (size_of f behind)) + size_of f behind
    → ((d : ℕ) → slice_index_or new d 0 ≡ (if nat_lt f.depth d then 0 else (if d == f.depth then slice_index_or lengths d 0 + added else slice_index_or lengths d 0))) → IsBelow new fs
below_more lengths new fs behind f added same below is adds depth =
    adds depth ∙ level_added lengths f behind added depth below is ∙ ap (λ all. length (level_bytes depth all)) (sym same)
