-- A reading that goes on, or ends where the one before it ended; and texts.
use Rattle.std.proofs.Common.{◌≡◌, ℕ, Bool, true, false, List, length, map, Option, Some, None, Result, Ok, Err, refl, sym, ap, ◌∙◌}
use Rattle.std.specs.Prelude.{IsTrue, ◌&&◌, if◌then◌else◌}
use Rattle.std.specs.Str.{is_utf8, IsUtf8}
use Rattle.std.proofs.lemmas.Str.{IsUtf8-from_is_utf8, is_utf8-from_IsUtf8}
use Rattle.proto_fields.specs.Chain.{◌>>=◌}
use Rattle.proto_fields.specs.Record.{Record}
use Rattle.proto_fields.specs.Message.{fields_of}
use Rattle.proto_fields.specs.Selection.{payloads_of}
use Rattle.proto_fields.specs.Spans.{FailsAt}
use Rattle.proto_fields.specs.declared.faults.FieldFault.{FieldFault}
use Rattle.proto_fields.specs.declared.faults.FieldFault.TheVariants as field
use Rattle.row_descriptor.specs.declared.field.DescriptorField.{DescriptorField}
use Rattle.row_descriptor.specs.declared.faults.DescriptorFault.{DescriptorFault}
use Rattle.row_descriptor.specs.declared.faults.DescriptorFault.TheVariants as fault
use Rattle.row_descriptor.specs.Faults.{Refuses, fault_of}
use Rattle.row_descriptor.specs.Descriptor.{utf8_of, records_of, read_records, all_of, field_of, fields_in, has_good_name, are_descriptor}

-- a refusal ends what follows
pub Refuses-chain : {A B : Type 0} (e : DescriptorFault) (r : Option A) (f : A → Option B) → Refuses e r → Refuses e (r >>= f)
Refuses-chain fault.Memory r f h = tt
Refuses-chain fault.BadDescriptor r f h = rw h refl

-- bytes that are no message are refused
pub Refuses-records : {B : Type 0} (e : FieldFault) (bytes : List ℕ) (f : List Record → Option B) → FailsAt e (fields_of bytes) → Refuses (fault_of e) (records_of bytes >>= f)
Refuses-records field.Memory bytes f h = tt
Refuses-records (field.BadProto at) bytes f h = ap (λ r. read_records r >>= f) h

-- bytes that are a message are read on
pub records_of-chain : {B : Type 0} (bytes : List ℕ) (records : List Record) (f : List Record → Option B) → fields_of bytes ≡ Ok records → (records_of bytes >>= f) ≡ f records
records_of-chain bytes records f h = ap (λ r. read_records r >>= f) h

pub utf8_of-text : (bytes : List ℕ) → IsUtf8 bytes → utf8_of bytes ≡ Some bytes
utf8_of-text bytes h = rw (is_utf8-from_IsUtf8 bytes h) refl

none_by : (bytes : List ℕ) (t : Bool) → (t ≡ true → ⊥) → (if t then Some bytes else None) ≡ None
none_by bytes true h = absurd (h refl)
none_by bytes false h = refl

pub utf8_of-none : (bytes : List ℕ) → (IsUtf8 bytes → ⊥) → utf8_of bytes ≡ None
utf8_of-none bytes h = none_by bytes (is_utf8 bytes) (λ e. h (IsUtf8-from_is_utf8 bytes e))

-- the fields of a descriptor, once they are read
pub fields_in-read : (records : List Record) (found : List DescriptorField) → all_of (map field_of (payloads_of 2 records)) ≡ Some found → fields_in records ≡ (if has_good_name records && are_descriptor found then Some found else None)
unfolding fields_in
fields_in-read records found h = rw h refl

pub if_both : {A : Type 0} (a b : Bool) (x : A) → a ≡ true → b ≡ true → (if a && b then Some x else None) ≡ Some x
if_both a b x e f = rw (e, f) refl

pub if_not_first : {A : Type 0} (a b : Bool) (x : A) → a ≡ false → (if a && b then Some x else None) ≡ None
if_not_first a b x e = rw e refl

pub if_not_second : {A : Type 0} (a b : Bool) (x : A) → b ≡ false → (if a && b then Some x else None) ≡ None
if_not_second true b x e = rw e refl
if_not_second false b x e = refl
