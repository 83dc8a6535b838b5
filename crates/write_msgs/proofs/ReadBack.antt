-- What is written of a message reads back: its fields, one by one.
use Rattle.std.proofs.Common.{◌≡◌, ℕ, ℤ, pos, negsuc, ◌+◌, ◌*◌, ◌%◌, ◌^◌, ◌<◌, ◌≤◌, Bool, true, false, List, [], ◌∷◌, ◌++◌, length, Option, Some, None, Result, Ok, refl, sym, ap, ◌∙◌, length-append, arith}
use Rattle.std.proofs.lemmas.List.{append-nil}
use Rattle.std.proofs.lemmas.List.Elements.{filter_map-append}
use Rattle.std.proofs.lemmas.Int.{to_z-of_z}
use Rattle.std.proofs.lemmas.Bool.{eqb-true}
use Rattle.std.specs.Prelude.{◌==◌, if◌then◌else◌, IfSome, unwrap_or, map, FitsSigned}
use Rattle.std.specs.Int.{w32, w64, cast_signed, cast_unsigned}
use Rattle.std.specs.List.{AllByRecursion, filter_map}
use Rattle.std.specs.Option.{option_map}
use Rattle.std.specs.Str.{IsUtf8}
use Rattle.proto_fields.specs.Varint.{varint_of}
use Rattle.proto_fields.specs.Record.{Payload, Varint, Fixed64, Len, Fixed32, Record, payload_bytes, wire_number, record_bytes}
use Rattle.proto_fields.specs.Message.{HasRange, HasSpelling, message_of}
use Rattle.proto_fields.specs.Selection.{last_of, merged_of, payloads_of, varints_of, bytes_for}
use Rattle.proto_fields.proofs.RoundTrip.{fields_of-message_of}
use Rattle.write_msgs.specs.declared.faults.MsgFault.{MsgFault}
use Rattle.write_msgs.specs.Faults.{both, last_place}
use Rattle.write_msgs.specs.Repeated.{located, joined, items_from, placed_items, repeated}
use Rattle.write_msgs.specs.Reading.{records_of, refused_at, text_from, text_in, int64_in, int32_in, present_at, nested_from, nested}
use Rattle.write_msgs.specs.Writing.{bytes_field, field_of, text_field, varint_field, message_field, repeated_field}
use Rattle.write_msgs.proofs.TextLemmas.{text_from-utf8}
use Rattle.write_msgs.proofs.WritingLemmas.{message_joins}

-- which records can be written, given that their message is short
abbrev pub InRange : Payload → Type 0
InRange (Varint n) = n < 2 ^ 64
InRange (Fixed64 n) = n < 2 ^ 64
InRange (Len bytes) = Unit {0}
InRange (Fixed32 n) = n < 2 ^ 32

abbrev pub Numbered : Record → Type 0
Numbered r = (1 ≤ r.number) × ((r.number ≤ 536870911) × InRange r.payload)

ranged : (p : Payload) → InRange p → length (payload_bytes p) < 2 ^ 32 → HasRange p
ranged (Varint n) h short = h
ranged (Fixed64 n) h short = h
ranged (Len bytes) h short = omega (arith, short, length-append (varint_of (length bytes)) bytes)
ranged (Fixed32 n) h short = h

spelled_one : (r : Record) → Numbered r → length (record_bytes r) < 2 ^ 32 → HasSpelling r
spelled_one r h short =
    let size = length-append (varint_of (r.number * 8 + wire_number r.payload)) (payload_bytes r.payload) in
    record { low = h.0; high = h.1.0; range = ranged r.payload h.1.1 (omega (arith, short, size)) }

spelled : (rs : List Record) → AllByRecursion Numbered rs → length (message_of rs) < 2 ^ 32 → AllByRecursion HasSpelling rs
spelled [] h short = tt
spelled (r ∷ rs) h short =
    let size = length-append (record_bytes r) (message_of rs) in
    (spelled_one r h.0 (omega (arith, short, size)), spelled rs h.1 (omega (arith, short, size)))

-- The fields of a short message are the records that were written.
pub records_back : (rs : List Record) → AllByRecursion Numbered rs → length (message_of rs) < 2 ^ 32 → records_of (message_of rs) ≡ Ok rs
records_back rs h short = ap refused_at (fields_of-message_of rs (spelled rs h short))

pub numbered_both : (xs ys : List Record) → AllByRecursion Numbered xs → AllByRecursion Numbered ys → AllByRecursion Numbered (xs ++ ys)
numbered_both [] ys h k = k
numbered_both (x ∷ xs) ys h k = (h.0, numbered_both xs ys h.1 k)

pub text_numbered : (n : ℕ) (t : List ℕ) → 1 ≤ n → n ≤ 536870911 → AllByRecursion Numbered (text_field n t)
text_numbered n [] low high = tt
text_numbered n (b ∷ bytes) low high = ((low, (high, tt)), tt)

pub message_numbered : (n : ℕ) (o : Option (List ℕ)) → 1 ≤ n → n ≤ 536870911 → AllByRecursion Numbered (message_field n o)
message_numbered n None low high = tt
message_numbered n (Some bytes) low high = ((low, (high, tt)), tt)

pub repeated_numbered : (n : ℕ) (items : List (List ℕ)) → 1 ≤ n → n ≤ 536870911 → AllByRecursion Numbered (repeated_field n items)
repeated_numbered n [] low high = tt
repeated_numbered n (item ∷ items) low high = ((low, (high, tt)), repeated_numbered n items low high)

numbered_unless : (b : Bool) (n v : ℕ) → v < 2 ^ 64 → 1 ≤ n → n ≤ 536870911 → AllByRecursion Numbered (if b then [] else field_of n (Varint v) ∷ [])
numbered_unless true n v below low high = tt
numbered_unless false n v below low high = ((low, (high, below)), tt)

pub varint_numbered : (n v : ℕ) → v < 2 ^ 64 → 1 ≤ n → n ≤ 536870911 → AllByRecursion Numbered (varint_field n v)
varint_numbered n v below low high = numbered_unless (v == 0) n v below low high

-- what a field says, as it was written
abbrev pub text_list : List ℕ → List (List ℕ)
text_list [] = []
text_list (b ∷ bytes) = (b ∷ bytes) ∷ []

abbrev pub message_list : Option (List ℕ) → List (List ℕ)
message_list None = []
message_list (Some bytes) = bytes ∷ []

abbrev pub varint_list : ℕ → List ℕ
varint_list v = if v == 0 then [] else v ∷ []

pub text_own : (n : ℕ) (t : List ℕ) → (n == n) ≡ true → payloads_of n (text_field n t) ≡ text_list t
text_own n [] same = refl
text_own n (b ∷ bytes) same = rw same refl

pub text_other : (k n : ℕ) (t : List ℕ) → (n == k) ≡ false → payloads_of k (text_field n t) ≡ []
text_other k n [] other = refl
text_other k n (b ∷ bytes) other = rw other refl

pub message_own : (n : ℕ) (o : Option (List ℕ)) → (n == n) ≡ true → payloads_of n (message_field n o) ≡ message_list o
message_own n None same = refl
message_own n (Some bytes) same = rw same refl

pub message_other : (k n : ℕ) (o : Option (List ℕ)) → (n == k) ≡ false → payloads_of k (message_field n o) ≡ []
message_other k n None other = refl
message_other k n (Some bytes) other = rw other refl

pub repeated_own : (n : ℕ) (items : List (List ℕ)) → (n == n) ≡ true → payloads_of n (repeated_field n items) ≡ items
repeated_own n [] same = refl
repeated_own n (item ∷ items) same = rw (same, repeated_own n items same) refl

own_unless : (b : Bool) (n v : ℕ) → (n == n) ≡ true → varints_of n (if b then [] else field_of n (Varint v) ∷ []) ≡ (if b then [] else v ∷ [])
own_unless true n v same = refl
own_unless false n v same = rw same refl

pub varint_own : (n v : ℕ) → (n == n) ≡ true → varints_of n (varint_field n v) ≡ varint_list v
varint_own n v same = own_unless (v == 0) n v same

pub payloads_joined : (k : ℕ) (xs ys : List Record) → payloads_of k (xs ++ ys) ≡ payloads_of k xs ++ payloads_of k ys
payloads_joined k xs ys = filter_map-append (bytes_for k) xs ys

-- of three parts of a message one says something of the field
pub first_of_three : (k : ℕ) (a b c : List Record) (own : List (List ℕ)) → payloads_of k a ≡ own → payloads_of k b ≡ [] → payloads_of k c ≡ [] → payloads_of k (a ++ b ++ c) ≡ own
first_of_three k a b c own p q r = payloads_joined k (a ++ b) c ∙ ap (λ xs. xs ++ payloads_of k c) (payloads_joined k a b) ∙ rw (p, q, r) (append-nil (own ++ []) ∙ append-nil own)

pub second_of_three : (k : ℕ) (a b c : List Record) (own : List (List ℕ)) → payloads_of k a ≡ [] → payloads_of k b ≡ own → payloads_of k c ≡ [] → payloads_of k (a ++ b ++ c) ≡ own
second_of_three k a b c own p q r = payloads_joined k (a ++ b) c ∙ ap (λ xs. xs ++ payloads_of k c) (payloads_joined k a b) ∙ rw (p, q, r) (append-nil own)

pub third_of_three : (k : ℕ) (a b c : List Record) (own : List (List ℕ)) → payloads_of k a ≡ [] → payloads_of k b ≡ [] → payloads_of k c ≡ own → payloads_of k (a ++ b ++ c) ≡ own
third_of_three k a b c own p q r = payloads_joined k (a ++ b) c ∙ ap (λ xs. xs ++ payloads_of k c) (payloads_joined k a b) ∙ rw (p, q, r) refl

pub first_of_two : (k : ℕ) (a b : List Record) (own : List (List ℕ)) → payloads_of k a ≡ own → payloads_of k b ≡ [] → payloads_of k (a ++ b) ≡ own
first_of_two k a b own p q = payloads_joined k a b ∙ rw (p, q) (append-nil own)

pub second_of_two : (k : ℕ) (a b : List Record) (own : List (List ℕ)) → payloads_of k a ≡ [] → payloads_of k b ≡ own → payloads_of k (a ++ b) ≡ own
second_of_two k a b own p q = payloads_joined k a b ∙ rw (p, q) refl

-- each part of a short message is short
pub sizes_of_three : (a b c : List Record) → length (message_of (a ++ b ++ c)) ≡ length (message_of a) + length (message_of b) + length (message_of c)
sizes_of_three a b c =
    ap length (message_joins (a ++ b) c) ∙ length-append (message_of (a ++ b)) (message_of c)
    ∙ ap (λ n. n + length (message_of c)) (ap length (message_joins a b) ∙ length-append (message_of a) (message_of b))

pub sizes_of_two : (a b : List Record) → length (message_of (a ++ b)) ≡ length (message_of a) + length (message_of b)
sizes_of_two a b = ap length (message_joins a b) ∙ length-append (message_of a) (message_of b)

inner_short : (n : ℕ) (bytes : List ℕ) → length (message_of (message_field n (Some bytes))) < 2 ^ 32 → length bytes < 2 ^ 32
inner_short n bytes short =
    let tag : List ℕ = varint_of (n * 8 + 2) in
    let whole = length-append tag (varint_of (length bytes) ++ bytes) in
    let last = length-append (varint_of (length bytes)) bytes in
    let behind = length-append (tag ++ (varint_of (length bytes) ++ bytes)) [] in
    omega (arith, short, whole, last, behind)

-- The parts of a message as they are read.
pub text_back : (n : ℕ) (records : List Record) (t : List ℕ) → payloads_of n records ≡ text_list t → IsUtf8 t → text_in n records ≡ Ok t
text_back n records [] is good = ap (λ ps. text_from n (last_of ps)) is
text_back n records (b ∷ bytes) is good = ap (λ ps. text_from n (last_of ps)) is ∙ text_from-utf8 n (b ∷ bytes) good

last_unless : (b : Bool) (v : ℕ) → (v == 0) ≡ b → unwrap_or (last_of (if b then [] else v ∷ [])) 0 ≡ v
last_unless true v same = sym (eqb-true v 0 same)
last_unless false v same = refl

last_varint : (v : ℕ) → unwrap_or (last_of (varint_list v)) 0 ≡ v
last_varint v = last_unless (v == 0) v refl

pub int64_back : (n : ℕ) (records : List Record) (z : ℤ) → varints_of n records ≡ varint_list (cast_unsigned w64 z) → FitsSigned w64 z → int64_in n records ≡ z
int64_back n records z is fits =
    ap (λ vs. cast_signed w64 (unwrap_or (last_of vs) 0)) is ∙ ap (cast_signed w64) (last_varint (cast_unsigned w64 z)) ∙ to_z-of_z w64 z fits

pub nested_back : {X : Type 0} (read : List ℕ → Result X MsgFault) (write : X → List ℕ) (P : X → Type 0) (n : ℕ) (bytes : List ℕ) (records : List Record) (o : Option X)
    → ((x : X) → P x → length (write x) < 2 ^ 32 → read (write x) ≡ Ok x) → payloads_of n records ≡ message_list (option_map write o)
    → length (message_of (message_field n (option_map write o))) < 2 ^ 32 → IfSome o P → nested read n bytes records ≡ Ok o
nested_back read write P n bytes records None back is short holds = ap (λ ps. nested_from read (last_place n bytes) (merged_of ps)) is
nested_back read write P n bytes records (Some x) back is short holds =
    let place : ℕ = last_place n bytes in
    ap (λ ps. nested_from read place (merged_of ps)) is ∙ ap (λ b. nested_from read place (Some b)) (append-nil (write x))
    ∙ ap (present_at place) (back x holds (inner_short n (write x) short))

-- the lowest 32 bits of an int32 that is written as 64 bits
low_bits : (z : ℤ) → FitsSigned w32 z → cast_unsigned w64 z % 2 ^ 32 ≡ cast_unsigned w32 z
low_bits (pos n) fits = omega (arith, fits.sfits)
low_bits (negsuc n) fits = omega (arith, fits.sfits)

pub wider : (z : ℤ) → FitsSigned w32 z → FitsSigned w64 z
wider z fits = record { sfits = omega (arith, fits.sfits) }

pub int32_back : (n : ℕ) (records : List Record) (z : ℤ) → varints_of n records ≡ varint_list (cast_unsigned w64 z) → FitsSigned w32 z → int32_in n records ≡ z
int32_back n records z is fits =
    ap (λ vs. cast_signed w32 (unwrap_or (last_of vs) 0 % 2 ^ 32)) is ∙ ap (λ v. cast_signed w32 (v % 2 ^ 32)) (last_varint (cast_unsigned w64 z))
    ∙ ap (cast_signed w32) (low_bits z fits) ∙ to_z-of_z w32 z fits

-- of two parts of a message one says something of the field
pub in_front : {Y : Type 0} (h : Record → Option Y) (xs ys : List Record) {own : List Y} → filter_map h xs ≡ own → filter_map h ys ≡ [] → filter_map h (xs ++ ys) ≡ own
in_front h xs ys {own} p q = filter_map-append h xs ys ∙ rw (p, q) (append-nil own)

pub behind : {Y : Type 0} (h : Record → Option Y) (xs ys : List Record) {own : List Y} → filter_map h xs ≡ [] → filter_map h ys ≡ own → filter_map h (xs ++ ys) ≡ own
behind h xs ys {own} p q = filter_map-append h xs ys ∙ rw (p, q) refl

pub repeated_other : (k n : ℕ) (items : List (List ℕ)) → (n == k) ≡ false → payloads_of k (repeated_field n items) ≡ []
repeated_other k n [] other = refl
repeated_other k n (item ∷ items) other = rw (other, repeated_other k n items other) refl

-- a field of another wire type says nothing
no_payload : (b same : Bool) (k n v : ℕ) → (n == k) ≡ same → payloads_of k (if b then [] else field_of n (Varint v) ∷ []) ≡ []
no_payload true same k n v is = refl
no_payload false true k n v is = rw is refl
no_payload false false k n v is = rw is refl

pub varint_payloads : (k n v : ℕ) → payloads_of k (varint_field n v) ≡ []
varint_payloads k n v = no_payload (v == 0) (n == k) k n v refl

no_varint : (same : Bool) (k n : ℕ) (bytes : List ℕ) → (n == k) ≡ same → varints_of k (bytes_field n bytes ∷ []) ≡ []
no_varint true k n bytes is = rw is refl
no_varint false k n bytes is = rw is refl

pub text_varints : (k n : ℕ) (t : List ℕ) → varints_of k (text_field n t) ≡ []
text_varints k n [] = refl
text_varints k n (b ∷ bytes) = no_varint (n == k) k n (b ∷ bytes) refl

other_unless : (b : Bool) (k n v : ℕ) → (n == k) ≡ false → varints_of k (if b then [] else field_of n (Varint v) ∷ []) ≡ []
other_unless true k n v other = refl
other_unless false k n v other = rw other refl

pub varint_other : (k n v : ℕ) → (n == k) ≡ false → varints_of k (varint_field n v) ≡ []
varint_other k n v other = other_unless (v == 0) k n v other

record_short : (n : ℕ) (bytes : List ℕ) → length (record_bytes (bytes_field n bytes)) < 2 ^ 32 → length bytes < 2 ^ 32
record_short n bytes short =
    let whole = length-append (varint_of (n * 8 + 2)) (varint_of (length bytes) ++ bytes) in
    let last = length-append (varint_of (length bytes)) bytes in
    omega (arith, short, whole, last)

items_back : {X : Type 0} (read : List ℕ → Result X MsgFault) (write : X → List ℕ) (P : X → Type 0) (k n : ℕ) (items : List X) → ((x : X) → P x → length (write x) < 2 ^ 32 → read (write x) ≡ Ok x)
    → AllByRecursion P items → length (message_of (repeated_field k (map write items))) < 2 ^ 32 → items_from read n (map write items) ≡ Ok items
unfolding items_from
items_back read write P k n [] back holds short = refl
items_back read write P k n (x ∷ items) back holds short =
    let size = length-append (record_bytes (bytes_field k (write x))) (message_of (repeated_field k (map write items))) in
    let here : read (write x) ≡ Ok x = back x holds.0 (record_short k (write x) (omega (arith, short, size))) in
    let others : items_from read (n + 1) (map write items) ≡ Ok items = items_back read write P k (n + 1) items back holds.1 (omega (arith, short, size)) in
    ap (λ r. joined (both (located n r) (items_from read (n + 1) (map write items)))) here ∙ ap (λ r. joined (both (Ok x) r)) others

pub repeated_back : {X : Type 0} (read : List ℕ → Result X MsgFault) (write : X → List ℕ) (P : X → Type 0) (n : ℕ) (bytes : List ℕ) (records : List Record) (items : List X)
    → ((x : X) → P x → length (write x) < 2 ^ 32 → read (write x) ≡ Ok x) → payloads_of n records ≡ map write items → length (message_of (repeated_field n (map write items))) < 2 ^ 32
    → AllByRecursion P items → repeated read n bytes records ≡ Ok items
repeated_back read write P n bytes records items back is short holds =
    ap (λ ps. placed_items n bytes (items_from read 0 ps)) is ∙ ap (placed_items n bytes) (items_back read write P n 0 items back holds short)
