-- A message is read, and then those within it.
use Rattle.std.proofs.Common.{◌≡◌, ℕ, ◌+◌, ◌≤◌, ◌<◌, Bool, true, false, List, [], ◌∷◌, ◌++◌, length, map, Option, Some, None, Result, Ok, Err, refl, sym, ap, subst, ◌∙◌, append_assoc, sum_by, arith}
use Rattle.std.specs.Prelude.{ℤ, reverse}
use Rattle.std.specs.Global.{Vec}
use Rattle.std.specs.Str.{is_utf8}
use Rattle.std.proofs.lemmas.List.{reverse-append, map_push, append-nil, length-map}
use Rattle.std.proofs.lemmas.List.Sums.{sum_by-cons, sum_by-append}
use Rattle.std.specs.List.{AllByRecursion}
use Rattle.outside.specs.declared.blobs.Span.{Span}
use Rattle.proto_fields.specs.Message.{fields_of}
use Rattle.proto_fields.proofs.SizeLemmas.{tagged}
use Rattle.proto_fields.specs.Record.{Record}
use Rattle.proto_fields.specs.Selection.{last_of, payloads_of}
use Rattle.write_msgs.specs.declared.faults.MsgFault.{MsgFault}
use Rattle.write_msgs.specs.declared.faults.MsgFault.TheVariants as fault
use Rattle.write_msgs.specs.Faults.{least, both, at_place, ReadsAs}
use Rattle.write_msgs.specs.Reading.{◌>>=◌, refused_at, records_of, text_from, text_in, int32_in}
use Rattle.write_msgs.specs.Repeated.{located, joined, items_from, at_nth, placed_items, listed, with_last}
use Rattle.write_msgs.proofs.FaultLemmas.{least_groups}
use Rattle.schema_msgs.specs.declared.nested_fields.NestedField.{NestedField}
use Rattle.schema_msgs.specs.declared.walks.Waiting.{Waiting}
use Rattle.schema_msgs.specs.declared.schemas.TableFieldSchema.{TableFieldSchema}
use Rattle.schema_msgs.specs.Outline.{outline}
use Rattle.schema_msgs.specs.Schema.{gathered, field_by, table_field_schema_of}
use Rattle.schema_msgs.specs.Walk.{Message, message_in, order, own_in, own_of, inside, within_read, within_of, work, LiesIn, laid, laid_all, followed}
use Rattle.schema_msgs.proofs.LevelLemmas.{fields_nest, payloads_shorter}

-- all of these messages
unfoldable pub all_read : List Message → Result (List NestedField) MsgFault
all_read [] = Ok []
all_read (m ∷ messages) = followed (laid m.depth (located 0 (table_field_schema_of m.bytes))) (all_read messages)

abbrev pub single : Result NestedField MsgFault → Result (List NestedField) MsgFault
single (Ok f) = Ok (f ∷ [])
single (Err e) = Err e

-- Faults: of which the places are left out.
at_twice : (n : ℕ) (e : MsgFault) → at_place 0 (at_place n e) ≡ at_place 0 e
at_twice n fault.Memory = refl
at_twice n (fault.BadProto at) = refl
at_twice n (fault.Unsupported field) = refl
at_twice n (fault.BadUtf8 field) = refl

at_nth_twice : (number : ℕ) (bytes : List ℕ) (e : MsgFault) → at_place 0 (at_nth number bytes e) ≡ at_place 0 e
at_nth_twice number bytes fault.Memory = refl
at_nth_twice number bytes (fault.BadProto at) = refl
at_nth_twice number bytes (fault.Unsupported field) = refl
at_nth_twice number bytes (fault.BadUtf8 field) = refl

at_least : (d e : MsgFault) → at_place 0 (least d e) ≡ least (at_place 0 d) (at_place 0 e)
at_least fault.Memory e = refl
at_least (fault.BadProto x) fault.Memory = refl
at_least (fault.BadProto x) (fault.BadProto y) = refl
at_least (fault.BadProto x) (fault.Unsupported y) = refl
at_least (fault.BadProto x) (fault.BadUtf8 y) = refl
at_least (fault.Unsupported x) fault.Memory = refl
at_least (fault.Unsupported x) (fault.BadProto y) = refl
at_least (fault.Unsupported x) (fault.Unsupported y) = refl
at_least (fault.Unsupported x) (fault.BadUtf8 y) = refl
at_least (fault.BadUtf8 x) fault.Memory = refl
at_least (fault.BadUtf8 x) (fault.BadProto y) = refl
at_least (fault.BadUtf8 x) (fault.Unsupported y) = refl
at_least (fault.BadUtf8 x) (fault.BadUtf8 y) = refl

-- One reading behind another.
followed_groups : (a b c : Result (List NestedField) MsgFault) → followed (followed a b) c ≡ followed a (followed b c)
followed_groups (Ok x) (Ok y) (Ok z) = ap (λ (fs : List NestedField). Ok fs) (append_assoc x y z)
followed_groups (Ok x) (Ok y) (Err e) = refl
followed_groups (Ok x) (Err d) (Ok z) = refl
followed_groups (Ok x) (Err d) (Err e) = refl
followed_groups (Err d) (Ok y) (Ok z) = refl
followed_groups (Err d) (Ok y) (Err e) = refl
followed_groups (Err d) (Err e) (Ok z) = refl
followed_groups (Err d) (Err e) (Err f) = ap Err (least_groups d e f)

followed_none : (a : Result (List NestedField) MsgFault) → followed (Ok []) a ≡ a
followed_none (Ok x) = refl
followed_none (Err e) = refl

all_read-append : (xs ys : List Message) → all_read (xs ++ ys) ≡ followed (all_read xs) (all_read ys)
unfolding all_read
all_read-append [] ys = sym (followed_none (all_read ys))
all_read-append (m ∷ xs) ys =
    let here : Result (List NestedField) MsgFault = laid m.depth (located 0 (table_field_schema_of m.bytes)) in
    ap (followed here) (all_read-append xs ys) ∙ sym (followed_groups here (all_read xs) (all_read ys))

-- the items of a repeated field, as an outline
item_read : (depth n : ℕ) (a : Result TableFieldSchema MsgFault) (b : Result (List TableFieldSchema) MsgFault)
    → followed (laid depth (located 0 a)) (laid_all depth (located 0 b)) ≡ laid_all depth (located 0 (joined (both (located n a) b)))
unfolding gathered outline
item_read depth n (Ok f) (Ok fs) = refl
item_read depth n (Ok f) (Err e) = refl
item_read depth n (Err d) (Ok fs) = ap Err (sym (at_twice n d))
item_read depth n (Err d) (Err e) = ap Err (sym (at_least (at_place n d) e ∙ ap (λ x. least x (at_place 0 e)) (at_twice n d)))

items_read : (depth n : ℕ) (items : List (List ℕ)) → all_read (map (inside depth) items) ≡ laid_all depth (located 0 (items_from table_field_schema_of n items))
unfolding all_read items_from gathered outline
items_read depth n [] = refl
items_read depth n (bytes ∷ items) =
    ap (followed (laid depth (located 0 (table_field_schema_of bytes)))) (items_read depth (n + 1) items)
    ∙ item_read depth n (table_field_schema_of bytes) (items_from table_field_schema_of (n + 1) items)

-- a text has no fault with a place
text_unless : (number : ℕ) (bytes : List ℕ) (good : Bool) → is_utf8 bytes ≡ good → located 0 (text_from number (Some bytes)) ≡ text_from number (Some bytes)
text_unless number bytes true is = rw is refl
text_unless number bytes false is = rw is refl

text_placeless : (number : ℕ) (found : Option (List ℕ)) → located 0 (text_from number found) ≡ text_from number found
text_placeless number None = refl
text_placeless number (Some bytes) = text_unless number bytes (is_utf8 bytes) refl

-- the parts of one message
parts_read : (depth number : ℕ) (bytes : List ℕ) (column_type mode : ℤ) (name : Result (List ℕ) MsgFault) (items : Result (List TableFieldSchema) MsgFault) → located 0 name ≡ name
    → laid depth (located 0 (both name (placed_items number bytes items >>= λ fields. Ok (gathered fields)) >>= λ parts. Ok (record { name = parts.0; column_type = column_type; mode = mode; fields = parts.1 })))
    ≡ followed (single (name >>= λ text. Ok (record { depth = depth; name = text; column_type = column_type; mode = mode }))) (laid_all (depth + 1) (located 0 items))
parts_read depth number bytes column_type mode (Ok text) (Ok fs) placeless = refl
parts_read depth number bytes column_type mode (Ok text) (Err e) placeless = ap Err (at_nth_twice number bytes e)
parts_read depth number bytes column_type mode (Err d) (Ok fs) placeless = let same : at_place 0 d ≡ d = cc in ap Err same
parts_read depth number bytes column_type mode (Err d) (Err e) placeless =
    let same : at_place 0 d ≡ d = cc in
    ap Err (at_least d (at_nth number bytes e) ∙ ap (least (at_place 0 d)) (at_nth_twice number bytes e) ∙ ap (λ x. least x (at_place 0 e)) same)

one_read_as : (m : Message) (r : Result (List Record) MsgFault) → records_of m.bytes ≡ r → laid m.depth (located 0 (field_by table_field_schema_of m.bytes)) ≡ followed (single (own_of m)) (all_read (within_of m))
unfolding all_read
one_read_as m (Ok records) is =
    let name : Result (List ℕ) MsgFault = text_in 1 records in
    let items : Result (List TableFieldSchema) MsgFault = items_from table_field_schema_of 0 (payloads_of 4 records) in
    rw is (
    parts_read m.depth 4 m.bytes (int32_in 2 records) (int32_in 3 records) name items (text_placeless 1 (last_of (payloads_of 1 records)))
    ∙ ap (followed (single (own_in m.depth records))) (sym (items_read (m.depth + 1) 0 (payloads_of 4 records)))
    )
one_read_as m (Err e) is = rw is refl

pub one_read : (m : Message) → laid m.depth (located 0 (table_field_schema_of m.bytes)) ≡ followed (single (own_of m)) (all_read (within_of m))
one_read m = ap (λ r. laid m.depth (located 0 r)) (fields_nest m.bytes) ∙ one_read_as m (records_of m.bytes) refl

-- What waits, in the order of reading.
pub order_push : (waiting : List Waiting) (w : Waiting) → order (waiting ++ w ∷ []) ≡ message_in w ∷ order waiting
order_push waiting w = ap reverse (map_push message_in waiting w) ∙ reverse-append (map message_in waiting) (message_in w ∷ [])

-- The places of the messages within a message.
few_tagged : (items : List (List ℕ)) → length items ≤ sum_by tagged items
few_tagged [] = omega arith
few_tagged (bytes ∷ items) = omega (arith, few_tagged items, sum_by-cons tagged bytes items)

read_ok : (bytes : List ℕ) (records : List Record) → fields_of bytes ≡ Ok records → records_of bytes ≡ Ok records
read_ok bytes records read = ap refused_at read

pub few_places : (message : List ℕ) (records : List Record) (f : Span → List ℕ) (places : List Span) → fields_of message ≡ Ok records → map f places ≡ payloads_of 4 records → length places ≤ length message
few_places message records f places read same =
    omega (arith, sym (length-map places f), ap length same, few_tagged (payloads_of 4 records), payloads_shorter message records 4 (read_ok message records read))

map_inside : (depth : ℕ) (f : Span → List ℕ) (places : List Span) → map (λ s. inside depth (f s)) places ≡ map (inside depth) (map f places)
map_inside depth f [] = refl
map_inside depth f (s ∷ places) = ap (λ ms. inside depth (f s) ∷ ms) (map_inside depth f places)

pub places_within : (depth : ℕ) (message : List ℕ) (records : List Record) (f : Span → List ℕ) (places : List Span) → fields_of message ≡ Ok records → map f places ≡ payloads_of 4 records
    → map (λ s. inside (depth + 1) (f s)) places ≡ within_of (inside depth message)
places_within depth message records f places read same =
    map_inside (depth + 1) f places ∙ ap (map (inside (depth + 1))) same ∙ ap (within_read (depth + 1)) (sym (read_ok message records read))

-- The messages within a message lie one deeper, and are shorter.
inside_work : (depth : ℕ) (items : List (List ℕ)) → work (map (inside depth) items) ≡ sum_by tagged items
inside_work depth [] = refl
inside_work depth (bytes ∷ items) =
    sum_by-cons (λ (m : Message). length m.bytes + 1) (inside depth bytes) (map (inside depth) items) ∙ ap (λ n. length bytes + 1 + n) (inside_work depth items) ∙ sym (sum_by-cons tagged bytes items)

within_work_as : (m : Message) (r : Result (List Record) MsgFault) → records_of m.bytes ≡ r → work (within_read (m.depth + 1) r) ≤ length m.bytes
within_work_as m (Ok records) is = omega (arith, inside_work (m.depth + 1) (payloads_of 4 records), payloads_shorter m.bytes records 4 is)
within_work_as m (Err e) is = omega arith

pub within_work : (m : Message) (messages : List Message) → work (within_of m ++ messages) < work (m ∷ messages)
within_work m messages =
    omega (
      arith,
      sum_by-append (λ (n : Message). length n.bytes + 1) (within_of m) messages,
      sum_by-cons (λ (n : Message). length n.bytes + 1) m messages,
      within_work_as m (records_of m.bytes) refl,
    )

inside_deep : (size depth room : ℕ) (items : List (List ℕ)) → sum_by tagged items ≤ room → depth + room ≤ size → AllByRecursion (LiesIn size) (map (inside (depth + 1)) items)
inside_deep size depth room [] small fits = tt
inside_deep size depth room (bytes ∷ items) small fits =
    let sum = sum_by-cons tagged bytes items in
    (omega (arith, small, fits, sum), inside_deep size depth room items (omega (arith, small, sum)) fits)

within_deep_as : (size : ℕ) (m : Message) (r : Result (List Record) MsgFault) → records_of m.bytes ≡ r → LiesIn size m → AllByRecursion (LiesIn size) (within_read (m.depth + 1) r)
within_deep_as size m (Ok records) is lies = inside_deep size m.depth (length m.bytes) (payloads_of 4 records) (payloads_shorter m.bytes records 4 is) lies
within_deep_as size m (Err e) is lies = tt

all_both : (size : ℕ) (xs ys : List Message) → AllByRecursion (LiesIn size) xs → AllByRecursion (LiesIn size) ys → AllByRecursion (LiesIn size) (xs ++ ys)
all_both size [] ys h k = k
all_both size (x ∷ xs) ys h k = (h.0, all_both size xs ys h.1 k)

pub within_deep : (size : ℕ) (m : Message) (messages : List Message) → AllByRecursion (LiesIn size) (m ∷ messages) → AllByRecursion (LiesIn size) (within_of m ++ messages)
within_deep size m messages lie = all_both size (within_of m) messages (within_deep_as size m (records_of m.bytes) refl lie.0) lie.1

-- what was read so far and what waits are the whole
pub record Reads (whole : Result (List NestedField) MsgFault) (read : Result (Vec NestedField) MsgFault) (messages : List Message) : Type 0 where
  pub before : Result (List NestedField) MsgFault
  pub so_far : ReadsAs (listed read) before
  pub rest : followed before (all_read messages) ≡ whole

alone : (a : Result (List NestedField) MsgFault) → followed a (Ok []) ≡ a
alone (Ok x) = ap (λ (fs : List NestedField). Ok fs) (append-nil x)
alone (Err e) = refl

pub reads_none : (bytes : List ℕ) (read : Result (Vec NestedField) MsgFault) → listed read ≡ Ok [] → Reads (laid 0 (located 0 (table_field_schema_of bytes))) read (inside 0 bytes ∷ [])
unfolding all_read
reads_none bytes read none =
    let whole : Result (List NestedField) MsgFault = laid 0 (located 0 (table_field_schema_of bytes)) in
    record { before = Ok []; so_far = subst (λ r. ReadsAs r (Ok [])) (sym none) refl; rest = followed_none (followed whole (Ok [])) ∙ alone whole }

with_last_is : (a : Result (List NestedField) MsgFault) (b : Result NestedField MsgFault) → with_last (both a b) ≡ followed a (single b)
with_last_is (Ok x) (Ok f) = refl
with_last_is (Ok x) (Err e) = refl
with_last_is (Err d) (Ok f) = refl
with_last_is (Err d) (Err e) = refl

own_placeless : (depth : ℕ) (column_type mode : ℤ) (name : Result (List ℕ) MsgFault) → located 0 name ≡ name
    → located 0 (name >>= λ text. Ok (let f : NestedField = record { depth = depth; name = text; column_type = column_type; mode = mode } in f))
    ≡ (name >>= λ text. Ok (let f : NestedField = record { depth = depth; name = text; column_type = column_type; mode = mode } in f))
own_placeless depth column_type mode (Ok text) placeless = refl
own_placeless depth column_type mode (Err e) placeless = let same : at_place 0 e ≡ e = cc in ap Err same

own_of_placeless : (m : Message) (r : Result (List Record) MsgFault) → located 0 (located 0 r >>= own_in m.depth) ≡ (located 0 r >>= own_in m.depth)
own_of_placeless m (Ok records) = own_placeless m.depth (int32_in 2 records) (int32_in 3 records) (text_in 1 records) (text_placeless 1 (last_of (payloads_of 1 records)))
own_of_placeless m (Err e) = ap Err (at_twice 0 e)

pub reads_more : (whole : Result (List NestedField) MsgFault) (read result : Result (Vec NestedField) MsgFault) (own : Result NestedField MsgFault) (m : Message) (messages : List Message) → Reads whole read (m ∷ messages)
    → ReadsAs own (own_of m)
    → ((before : Result (List NestedField) MsgFault) (item : Result NestedField MsgFault) → ReadsAs (listed read) before → ReadsAs own item → ReadsAs (listed result) (with_last (both before (located 0 item))))
    → Reads whole result (within_of m ++ messages)
unfolding all_read
reads_more whole read result own m messages h is adds =
    let item : Result NestedField MsgFault = own_of m in
    let within : Result (List NestedField) MsgFault = all_read (within_of m) in
    let behind : Result (List NestedField) MsgFault = all_read messages in
    let before : Result (List NestedField) MsgFault = with_last (both h.before (located 0 item)) in
    let now : before ≡ followed h.before (single item) = with_last_is h.before (located 0 item) ∙ ap (λ i. followed h.before (single i)) (own_of_placeless m (records_of m.bytes)) in
    record {
      before = before;
      so_far = adds h.before item h.so_far is;
      rest =
          ap (followed before) (all_read-append (within_of m) messages) ∙ ap (λ b. followed b (followed within behind)) now ∙ followed_groups h.before (single item) (followed within behind)
          ∙ ap (followed h.before) (sym (followed_groups (single item) within behind)) ∙ ap (λ one. followed h.before (followed one behind)) (sym (one_read m)) ∙ h.rest;
    }

pub reads_all : (whole : Result (List NestedField) MsgFault) (read : Result (Vec NestedField) MsgFault) → Reads whole read [] → ReadsAs (listed read) whole
unfolding all_read
reads_all whole read h = subst (ReadsAs (listed read)) (sym (alone h.before) ∙ h.rest) h.so_far
