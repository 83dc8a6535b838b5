-- What the parts of a message say of one of its fields.
use Rattle.std.proofs.Common.{◌≡◌, ℕ, ◌+◌, ◌*◌, Bool, true, false, List, [], ◌∷◌, ◌++◌, length, Option, Some, None, Result, Ok, Err, OnOk, refl, ap, sym, ◌∙◌, append_assoc}
use Rattle.std.specs.Prelude.{◌==◌}
use Rattle.std.specs.List.{filter_map, list_any}
use Rattle.std.proofs.lemmas.List.{append-nil}
use Rattle.std.proofs.lemmas.List.Elements.{filter_map-append}
use Rattle.std.proofs.lemmas.List.Folds.{list_any-append}
use Rattle.proto_fields.specs.declared.field.Field.{Field}
use Rattle.proto_fields.specs.declared.field.Value.{Value}
use Rattle.proto_fields.specs.declared.field.Value.TheVariants as value
use Rattle.proto_fields.specs.Varint.{varint_of}
use Rattle.proto_fields.specs.Record.{Record, record_bytes, head_bytes}
use Rattle.proto_fields.specs.Message.{message_of}
use Rattle.proto_fields.specs.Selection.{varint_for, varints_of}
use Rattle.proto_fields.specs.Spans.{payload_in, record_in, records_in}
use Rattle.write_msgs.specs.Writing.{bytes_field, text_field, message_field, repeated_field}
use Rattle.write_msgs.proofs.ReadBack.{behind}
use Rattle.write_msgs.proofs.WritingLemmas.{message_joins}
use Rattle.read_msgs.specs.Parts.{samples, is_sample}

pub parts_join : (xs ys : List Record) → message_of (xs ++ ys) ≡ message_of xs ++ message_of ys
parts_join xs ys = message_joins xs ys

-- bytes behind what stands in front of so many are their field
pub headed : {U E : Type 0} (r : Result U E) (number : ℕ) (before mid after bytes : List ℕ) (len : ℕ) → len ≡ length bytes → mid ≡ before ++ head_bytes number len
    → OnOk r (after ≡ mid ++ bytes) → OnOk r (after ≡ before ++ message_of (bytes_field number bytes ∷ []))
headed (Ok done) number before mid after bytes len size head is =
    is ∙ ap (λ xs. xs ++ bytes) head
    ∙ ap (λ n. (before ++ head_bytes number n) ++ bytes) size
    ∙ append_assoc before (head_bytes number (length bytes)) bytes
    ∙ ap (λ xs. before ++ xs) (append_assoc (varint_of (number * 8 + 2)) (varint_of (length bytes)) bytes ∙ sym (append-nil (record_bytes (bytes_field number bytes))))
headed (Err want) number before mid after bytes len size head is = tt

-- a field asks for a sample whatever the bytes of its message are
one_samples : (bytes : List ℕ) (number : ℕ) (v : Value) → samples number (payload_in bytes v) ≡ samples number (payload_in [] v)
one_samples bytes number (value.Varint n) = refl
one_samples bytes number (value.Fixed64 n) = refl
one_samples bytes number (value.Len span) = refl
one_samples bytes number (value.Fixed32 n) = refl

pub samples_are : (bytes : List ℕ) (fields : List Field) → list_any is_sample (records_in bytes fields) ≡ list_any (λ field. is_sample (record_in [] field)) fields
samples_are bytes [] = refl
samples_are bytes (field ∷ fields) = rw (one_samples bytes field.number field.value, samples_are bytes fields) refl

-- a text asks for no sample
pub text_unsampled : (n : ℕ) (t : List ℕ) → list_any is_sample (text_field n t) ≡ false
text_unsampled n [] = refl
text_unsampled n (b ∷ bytes) = refl

pub repeated_unsampled : (n : ℕ) (items : List (List ℕ)) → list_any is_sample (repeated_field n items) ≡ false
repeated_unsampled n [] = refl
repeated_unsampled n (item ∷ items) = repeated_unsampled n items

pub both_unsampled : (xs ys : List Record) → list_any is_sample xs ≡ false → list_any is_sample ys ≡ false → list_any is_sample (xs ++ ys) ≡ false
both_unsampled xs ys p q = list_any-append is_sample xs ys ∙ rw (p, q) refl

-- a message, or an occurrence of a repeated field, is no number
no_varint : (same : Bool) (k n : ℕ) (bytes : List ℕ) → (n == k) ≡ same → varints_of k (bytes_field n bytes ∷ []) ≡ []
no_varint true k n bytes is = rw is refl
no_varint false k n bytes is = rw is refl

pub message_varints : (k n : ℕ) (o : Option (List ℕ)) → varints_of k (message_field n o) ≡ []
message_varints k n None = refl
message_varints k n (Some bytes) = no_varint (n == k) k n bytes refl

pub repeated_varints : (k n : ℕ) (items : List (List ℕ)) → varints_of k (repeated_field n items) ≡ []
repeated_varints k n [] = refl
repeated_varints k n (item ∷ items) = behind (varint_for k) (bytes_field n item ∷ []) (repeated_field n items) (no_varint (n == k) k n item refl) (repeated_varints k n items)

-- Of four parts of a message, and of five, one says something of the field.
four : {Y : Type 0} (h : Record → Option Y) (a b c d : List Record) → filter_map h (a ++ b ++ c ++ d) ≡ filter_map h a ++ filter_map h b ++ filter_map h c ++ filter_map h d
four h a b c d =
    filter_map-append h (a ++ b ++ c) d
    ∙ ap (λ xs. xs ++ filter_map h d) (filter_map-append h (a ++ b) c ∙ ap (λ xs. xs ++ filter_map h c) (filter_map-append h a b))

pub first_of_four : {Y : Type 0} (h : Record → Option Y) (a b c d : List Record) {own : List Y}
    → filter_map h a ≡ own → filter_map h b ≡ [] → filter_map h c ≡ [] → filter_map h d ≡ [] → filter_map h (a ++ b ++ c ++ d) ≡ own
first_of_four h a b c d {own} p q r s = four h a b c d ∙ rw (p, q, r, s) (append-nil ((own ++ []) ++ []) ∙ append-nil (own ++ []) ∙ append-nil own)

pub second_of_four : {Y : Type 0} (h : Record → Option Y) (a b c d : List Record) {own : List Y}
    → filter_map h a ≡ [] → filter_map h b ≡ own → filter_map h c ≡ [] → filter_map h d ≡ [] → filter_map h (a ++ b ++ c ++ d) ≡ own
second_of_four h a b c d {own} p q r s = four h a b c d ∙ rw (p, q, r, s) (append-nil (own ++ []) ∙ append-nil own)

pub third_of_four : {Y : Type 0} (h : Record → Option Y) (a b c d : List Record) {own : List Y}
    → filter_map h a ≡ [] → filter_map h b ≡ [] → filter_map h c ≡ own → filter_map h d ≡ [] → filter_map h (a ++ b ++ c ++ d) ≡ own
third_of_four h a b c d {own} p q r s = four h a b c d ∙ rw (p, q, r, s) (append-nil own)

pub fourth_of_four : {Y : Type 0} (h : Record → Option Y) (a b c d : List Record) {own : List Y}
    → filter_map h a ≡ [] → filter_map h b ≡ [] → filter_map h c ≡ [] → filter_map h d ≡ own → filter_map h (a ++ b ++ c ++ d) ≡ own
fourth_of_four h a b c d {own} p q r s = four h a b c d ∙ rw (p, q, r, s) refl

five : {Y : Type 0} (h : Record → Option Y) (a b c d e : List Record)
    → filter_map h (a ++ b ++ c ++ d ++ e) ≡ filter_map h a ++ filter_map h b ++ filter_map h c ++ filter_map h d ++ filter_map h e
five h a b c d e = filter_map-append h (a ++ b ++ c ++ d) e ∙ ap (λ xs. xs ++ filter_map h e) (four h a b c d)

pub first_of_five : {Y : Type 0} (h : Record → Option Y) (a b c d e : List Record) {own : List Y}
    → filter_map h a ≡ own → filter_map h b ≡ [] → filter_map h c ≡ [] → filter_map h d ≡ [] → filter_map h e ≡ [] → filter_map h (a ++ b ++ c ++ d ++ e) ≡ own
first_of_five h a b c d e {own} p q r s t =
    five h a b c d e ∙ rw (p, q, r, s, t) (append-nil (((own ++ []) ++ []) ++ []) ∙ append-nil ((own ++ []) ++ []) ∙ append-nil (own ++ []) ∙ append-nil own)

pub second_of_five : {Y : Type 0} (h : Record → Option Y) (a b c d e : List Record) {own : List Y}
    → filter_map h a ≡ [] → filter_map h b ≡ own → filter_map h c ≡ [] → filter_map h d ≡ [] → filter_map h e ≡ [] → filter_map h (a ++ b ++ c ++ d ++ e) ≡ own
second_of_five h a b c d e {own} p q r s t = five h a b c d e ∙ rw (p, q, r, s, t) (append-nil ((own ++ []) ++ []) ∙ append-nil (own ++ []) ∙ append-nil own)

pub third_of_five : {Y : Type 0} (h : Record → Option Y) (a b c d e : List Record) {own : List Y}
    → filter_map h a ≡ [] → filter_map h b ≡ [] → filter_map h c ≡ own → filter_map h d ≡ [] → filter_map h e ≡ [] → filter_map h (a ++ b ++ c ++ d ++ e) ≡ own
third_of_five h a b c d e {own} p q r s t = five h a b c d e ∙ rw (p, q, r, s, t) (append-nil (own ++ []) ∙ append-nil own)

pub fourth_of_five : {Y : Type 0} (h : Record → Option Y) (a b c d e : List Record) {own : List Y}
    → filter_map h a ≡ [] → filter_map h b ≡ [] → filter_map h c ≡ [] → filter_map h d ≡ own → filter_map h e ≡ [] → filter_map h (a ++ b ++ c ++ d ++ e) ≡ own
fourth_of_five h a b c d e {own} p q r s t = five h a b c d e ∙ rw (p, q, r, s, t) (append-nil own)

pub fifth_of_five : {Y : Type 0} (h : Record → Option Y) (a b c d e : List Record) {own : List Y}
    → filter_map h a ≡ [] → filter_map h b ≡ [] → filter_map h c ≡ [] → filter_map h d ≡ [] → filter_map h e ≡ own → filter_map h (a ++ b ++ c ++ d ++ e) ≡ own
fifth_of_five h a b c d e {own} p q r s t = five h a b c d e ∙ rw (p, q, r, s, t) refl
