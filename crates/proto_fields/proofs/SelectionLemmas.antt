-- Picking the fields of one number, by a loop and as a whole.
use Rattle.std.proofs.Common.{◌≡◌, ℕ, ◌+◌, ◌<◌, ◌≤◌, Bool, true, false, cond, eqb, List, [], ◌∷◌, ◌++◌, length, get_or, take, drop, map, Option, Some, None, is_some, refl, sym, ap, ◌∙◌, append_assoc, All, IfSome, sum_by, arith}
use Rattle.std.specs.List.{filter_map, concat, cons_option, AllByRecursion}
use Rattle.std.specs.Option.{option_map}
use Rattle.std.proofs.lemmas.List.{take_more, take_all, append-nil, map_push, length-append, length-take}
use Rattle.std.proofs.lemmas.List.Sums.{sum_by-cons}
use Rattle.std.proofs.lemmas.List.Elements.{filter_map-append, All-from_recursion, recursion_from_All}
use Rattle.outside.specs.declared.blobs.Span.{Span}
use Rattle.proto_fields.specs.declared.field.Field.{Field}
use Rattle.proto_fields.specs.declared.field.Value.{Value}
use Rattle.proto_fields.specs.declared.field.Value.TheVariants as value
use Rattle.proto_fields.specs.Selection.{bytes_in, bytes_for, varint_for, payloads_of, varints_of, last_of, merged_of}
use Rattle.proto_fields.specs.Spans.{part, payload_in, record_in, records_in, span_in, span_for, spans_of, size_in, payload_size, IsWithin}

-- one more element
pub filter_map-some : {X Y : Type 0} (h : X → Option Y) (xs : List X) (i : ℕ) (d : X) (y : Y) → i < length xs → h (get_or xs i d) ≡ Some y → filter_map h (take (i + 1) xs) ≡ filter_map h (take i xs) ++ y ∷ []
filter_map-some h xs i d y lt e = rw (take_more xs i d lt, filter_map-append h (take i xs) (get_or xs i d ∷ []), e) refl

pub filter_map-none : {X Y : Type 0} (h : X → Option Y) (xs : List X) (i : ℕ) (d : X) → i < length xs → h (get_or xs i d) ≡ None → filter_map h (take (i + 1) xs) ≡ filter_map h (take i xs)
filter_map-none h xs i d lt e = rw (take_more xs i d lt, filter_map-append h (take i xs) (get_or xs i d ∷ []), e) (append-nil (filter_map h (take i xs)))

-- the last of a list is the one put at its end
pub last_of-push : {A : Type 0} (xs : List A) (x : A) → last_of (xs ++ x ∷ []) ≡ Some x
last_of-push [] x = refl
last_of-push (a ∷ []) x = refl
last_of-push (a ∷ b ∷ xs) x = last_of-push (b ∷ xs) x

pub last_of-filter_map-some : {X Y : Type 0} (h : X → Option Y) (xs : List X) (i : ℕ) (d : X) (y : Y) → i < length xs → h (get_or xs i d) ≡ Some y → last_of (filter_map h (take (i + 1) xs)) ≡ Some y
last_of-filter_map-some h xs i d y lt e = ap last_of (filter_map-some h xs i d y lt e) ∙ last_of-push (filter_map h (take i xs)) y

pub last_of-map : {A B : Type 0} (f : A → B) (xs : List A) → last_of (map f xs) ≡ option_map f (last_of xs)
last_of-map f [] = refl
last_of-map f (a ∷ []) = refl
last_of-map f (a ∷ b ∷ xs) = last_of-map f (b ∷ xs)

pub is_some-option_map : {A B : Type 0} (f : A → B) (o : Option A) → is_some (option_map f o) ≡ is_some o
is_some-option_map f None = refl
is_some-option_map f (Some x) = refl

map_if : {A B : Type 0} (f : A → B) (b : Bool) (o : Option A) → cond b (option_map f o) None ≡ option_map f (cond b o None)
map_if f true o = refl
map_if f false o = refl

-- the payload of a value is the bytes of its span
bytes_in-payload_in : (bytes : List ℕ) (v : Value) → bytes_in (payload_in bytes v) ≡ option_map (part bytes) (span_in v)
bytes_in-payload_in bytes (value.Varint n) = refl
bytes_in-payload_in bytes (value.Fixed64 n) = refl
bytes_in-payload_in bytes (value.Len span) = refl
bytes_in-payload_in bytes (value.Fixed32 n) = refl

pub bytes_for-record_in : (bytes : List ℕ) (number : ℕ) (field : Field) → bytes_for number (record_in bytes field) ≡ option_map (part bytes) (span_for number field)
bytes_for-record_in bytes number field = rw (bytes_in-payload_in bytes field.value) (map_if (part bytes) (eqb field.number number) (span_in field.value))

map-cons_option : {A B : Type 0} (f : A → B) (o : Option A) (xs : List A) → cons_option (option_map f o) (map f xs) ≡ map f (cons_option o xs)
map-cons_option f None xs = refl
map-cons_option f (Some x) xs = refl

pub payloads_of-records_in : (bytes : List ℕ) (number : ℕ) (fields : List Field) → payloads_of number (records_in bytes fields) ≡ map (part bytes) (spans_of number fields)
payloads_of-records_in bytes number [] = refl
payloads_of-records_in bytes number (field ∷ fields) =
    rw (bytes_for-record_in bytes number field, payloads_of-records_in bytes number fields) (map-cons_option (part bytes) (span_for number field) (spans_of number fields))

-- the spans of fields that lie within a message lie within it
abbrev pub LiesWithin : ℕ → Span → Type 0
LiesWithin size s = s.start + s.len ≤ size

within_if : (size : ℕ) (b : Bool) (o : Option Span) → IfSome o (LiesWithin size) → IfSome (cond b o None) (LiesWithin size)
within_if size true o h = h
within_if size false o h = tt

within-cons_option : (size : ℕ) (o : Option Span) (spans : List Span) → IfSome o (LiesWithin size) → AllByRecursion (LiesWithin size) spans → AllByRecursion (LiesWithin size) (cons_option o spans)
within-cons_option size None spans h others = others
within-cons_option size (Some s) spans h others = (h, others)

spans_within : (size number : ℕ) (fields : List Field) → AllByRecursion (IsWithin size) fields → AllByRecursion (LiesWithin size) (spans_of number fields)
spans_within size number [] h = tt
spans_within size number (field ∷ fields) h = within-cons_option size (span_for number field) (spans_of number fields) (within_if size (eqb field.number number) (span_in field.value) h.0) (spans_within size number fields h.1)

last_within : (size : ℕ) (spans : List Span) → AllByRecursion (LiesWithin size) spans → IfSome (last_of spans) (LiesWithin size)
last_within size [] h = tt
last_within size (s ∷ []) h = h.0
last_within size (s ∷ t ∷ spans) h = last_within size (t ∷ spans) h.1

pub All-spans_of : (size number : ℕ) (fields : List Field) → All (IsWithin size) fields → All (LiesWithin size) (spans_of number fields)
All-spans_of size number fields h = All-from_recursion (LiesWithin size) (spans_of number fields) (spans_within size number fields (recursion_from_All (IsWithin size) fields h))

pub IfSome-last_of-spans_of : (size number : ℕ) (fields : List Field) → All (IsWithin size) fields → IfSome (last_of (spans_of number fields)) (LiesWithin size)
IfSome-last_of-spans_of size number fields h = last_within size (spans_of number fields) (spans_within size number fields (recursion_from_All (IsWithin size) fields h))

-- the span of a field of such a list
pub span_within : (size number : ℕ) (field : Field) (s : Span) → IsWithin size field → span_for number field ≡ Some s → LiesWithin size s
span_within size number field s h e = let found : IfSome (span_for number field) (LiesWithin size) = within_if size (eqb field.number number) (span_in field.value) h in rw e at found

-- Where there is a span the payloads are joined.
pub merged_of-payloads_of : (bytes : List ℕ) (number : ℕ) (fields : List Field) → is_some (last_of (spans_of number fields)) ≡ true → merged_of (payloads_of number (records_in bytes fields)) ≡ Some (concat (map (part bytes) (spans_of number fields)))
merged_of-payloads_of bytes number fields h = rw payloads_of-records_in (merged_of-some (spans_of number fields) h)
  where
    merged_of-some : (spans : List Span) → is_some (last_of spans) ≡ true → merged_of (map (part bytes) spans) ≡ Some (concat (map (part bytes) spans))
    merged_of-some [] h = absurd cc
    merged_of-some (s ∷ spans) h = refl

pub merged_of-none : (bytes : List ℕ) (number : ℕ) (fields : List Field) → is_some (last_of (spans_of number fields)) ≡ false → merged_of (payloads_of number (records_in bytes fields)) ≡ None
merged_of-none bytes number fields h = rw payloads_of-records_in (none (spans_of number fields) h)
  where
    none : (spans : List Span) → is_some (last_of spans) ≡ false → merged_of (map (part bytes) spans) ≡ None
    none [] h = refl
    none (s ∷ []) h = absurd cc
    none (s ∷ t ∷ spans) h = let e : merged_of (map (part bytes) (t ∷ spans)) ≡ None = none (t ∷ spans) h in absurd cc

-- a loop over all of the fields has seen them all
pub spans_of-all : (number n : ℕ) (fields : List Field) → length fields ≤ n → spans_of number (take n fields) ≡ spans_of number fields
spans_of-all number n fields h = ap (spans_of number) (take_all n fields h)

pub last_payload : (bytes : List ℕ) (number : ℕ) (fields : List Field) (last : Option Span) → last ≡ last_of (spans_of number fields) → option_map (part bytes) last ≡ last_of (payloads_of number (records_in bytes fields))
last_payload bytes number fields last e = ap (option_map (part bytes)) e ∙ sym (last_of-map (part bytes) (spans_of number fields)) ∙ sym (ap last_of (payloads_of-records_in bytes number fields))

-- the same for varints, which need no bytes
filter_map-map : {X Y Z : Type 0} (h : Y → Option Z) (f : X → Y) (xs : List X) → filter_map h (map f xs) ≡ filter_map (λ x. h (f x)) xs
filter_map-map h f [] = refl
filter_map-map h f (x ∷ xs) = ap (cons_option (h (f x))) (filter_map-map h f xs)

pub last_varint-some : (bytes : List ℕ) (number : ℕ) (fields : List Field) (i : ℕ) (d : Field) (n : ℕ) → i < length fields → varint_for number (record_in bytes (get_or fields i d)) ≡ Some n → last_of (varints_of number (records_in bytes (take (i + 1) fields))) ≡ Some n
last_varint-some bytes number fields i d n lt e =
    ap last_of (filter_map-map (varint_for number) (record_in bytes) (take (i + 1) fields)) ∙ last_of-filter_map-some (λ x. varint_for number (record_in bytes x)) fields i d n lt e

pub varints-none : (bytes : List ℕ) (number : ℕ) (fields : List Field) (i : ℕ) (d : Field) → i < length fields → varint_for number (record_in bytes (get_or fields i d)) ≡ None → varints_of number (records_in bytes (take (i + 1) fields)) ≡ varints_of number (records_in bytes (take i fields))
varints-none bytes number fields i d lt e =
    filter_map-map (varint_for number) (record_in bytes) (take (i + 1) fields) ∙ filter_map-none (λ x. varint_for number (record_in bytes x)) fields i d lt e ∙ sym (filter_map-map (varint_for number) (record_in bytes) (take i fields))

-- one more payload behind those that are joined
concat-push : (xss : List (List ℕ)) (xs : List ℕ) → concat (xss ++ xs ∷ []) ≡ concat xss ++ xs
concat-push [] xs = append-nil xs
concat-push (ys ∷ xss) xs = ap (λ (zs : List ℕ). ys ++ zs) (concat-push xss xs) ∙ sym (append_assoc ys (concat xss) xs)

pub joined_more : (bytes : List ℕ) (number : ℕ) (fields : List Field) (i : ℕ) (d : Field) (s : Span) → i < length fields → span_for number (get_or fields i d) ≡ Some s → concat (map (part bytes) (spans_of number (take (i + 1) fields))) ≡ concat (map (part bytes) (spans_of number (take i fields))) ++ part bytes s
joined_more bytes number fields i d s lt e =
    ap (λ (spans : List Span). concat (map (part bytes) spans)) (filter_map-some (span_for number) fields i d s lt e)
    ∙ ap concat (map_push (part bytes) (spans_of number (take i fields)) s)
    ∙ concat-push (map (part bytes) (spans_of number (take i fields))) (part bytes s)

pub joined_same : (bytes : List ℕ) (number : ℕ) (fields : List Field) (i : ℕ) (d : Field) → i < length fields → span_for number (get_or fields i d) ≡ None → concat (map (part bytes) (spans_of number (take (i + 1) fields))) ≡ concat (map (part bytes) (spans_of number (take i fields)))
joined_same bytes number fields i d lt e = ap (λ (spans : List Span). concat (map (part bytes) spans)) (filter_map-none (span_for number) fields i d lt e)

-- The joined payloads are no longer than the fields' payloads together.
size_if : (b : Bool) (v : Value) → IfSome (cond b (span_in v) None) (λ s. s.len ≤ size_in v)
size_if false v = tt
size_if true (value.Varint n) = tt
size_if true (value.Fixed64 n) = tt
size_if true (value.Len span) = omega arith
size_if true (value.Fixed32 n) = tt

length-concat-cons_option : (bytes : List ℕ) (size rest : ℕ) (o : Option Span) (spans : List Span) → IfSome o (λ s. s.len ≤ size) → length (concat (map (part bytes) spans)) ≤ rest → length (concat (map (part bytes) (cons_option o spans))) ≤ size + rest
length-concat-cons_option bytes size rest None spans h others = omega arith
length-concat-cons_option bytes size rest (Some s) spans h others = omega (arith, length-append (part bytes s) (concat (map (part bytes) spans)), length-take s.len (drop s.start bytes))

pub length-joined : (bytes : List ℕ) (number : ℕ) (fields : List Field) → length (concat (map (part bytes) (spans_of number fields))) ≤ sum_by payload_size fields
length-joined bytes number [] = omega arith
length-joined bytes number (field ∷ fields) =
    rw (sum_by-cons payload_size field fields) (length-concat-cons_option bytes (payload_size field) (sum_by payload_size fields) (span_for number field) (spans_of number fields) (size_if (eqb field.number number) field.value) (length-joined bytes number fields))
