-- The fields of a schema, one occurrence behind another.
use Rattle.std.proofs.Common.{◌≡◌, ℕ, ◌+◌, ◌<◌, List, [], ◌∷◌, ◌++◌, length, map, take, get_or, Result, Ok, Err, refl, sym, ap, subst, ◌∙◌, inl, inr, append_assoc}
use Rattle.std.specs.Global.{Vec}
use Rattle.std.proofs.lemmas.List.{append-nil}
use Rattle.write_msgs.specs.declared.faults.MsgFault.{MsgFault}
use Rattle.write_msgs.specs.declared.faults.MsgFault.TheVariants as fault
use Rattle.write_msgs.specs.Faults.{both, at_place, ReadsAs}
use Rattle.write_msgs.specs.Reading.{◌>>=◌}
use Rattle.write_msgs.specs.Repeated.{located, items_from, at_nth, placed_items, listed, with_last}
use Rattle.write_msgs.proofs.FaultLemmas.{least_memory}
use Rattle.write_msgs.proofs.RepeatedLemmas.{items_more, same_reading, reading_cases}
use Rattle.schema_msgs.specs.declared.nested_fields.NestedField.{NestedField}
use Rattle.schema_msgs.specs.declared.schemas.TableFieldSchema.{TableFieldSchema}
use Rattle.schema_msgs.specs.Fields.{Fields}
use Rattle.schema_msgs.specs.Outline.{outline, IsOutline, fields_at}
use Rattle.schema_msgs.specs.OutlineCode.{fields_at-outline}
use Rattle.schema_msgs.specs.Schema.{gathered, table_field_schema_of}
use Rattle.schema_msgs.specs.Walk.{laid_one, laid, laid_all, followed}
use Rattle.schema_msgs.proofs.OutlineLemmas.{outline_nests}

-- one more field
gathered_last : (depth : ℕ) (fs : List TableFieldSchema) (f : TableFieldSchema) → outline depth (gathered (fs ++ f ∷ [])) ≡ outline depth (gathered fs) ++ laid_one depth f
unfolding gathered outline
gathered_last depth [] f = append-nil (laid_one depth f)
gathered_last depth (g ∷ fs) f =
    ap (λ (more : List NestedField). laid_one depth g ++ more) (gathered_last depth fs f) ∙ sym (append_assoc (laid_one depth g) (outline depth (gathered fs)) (laid_one depth f))

last_laid : (depth : ℕ) (a : Result (List TableFieldSchema) MsgFault) (b : Result TableFieldSchema MsgFault) → laid_all depth (with_last (both a b)) ≡ followed (laid_all depth a) (laid depth b)
last_laid depth (Ok fs) (Ok f) = ap (λ (all : List NestedField). Ok all) (gathered_last depth fs f)
last_laid depth (Ok fs) (Err e) = refl
last_laid depth (Err d) (Ok f) = refl
last_laid depth (Err d) (Err e) = refl

laid_located : (n : ℕ) (a : Result TableFieldSchema MsgFault) → laid 0 (located n a) ≡ located n (laid 0 a)
laid_located n (Ok f) = refl
laid_located n (Err e) = refl

pub nested_none : (read : Result (Vec NestedField) MsgFault) → listed read ≡ Ok [] → ReadsAs (listed read) (laid_all 0 (items_from table_field_schema_of 0 []))
unfolding items_from gathered outline
nested_none read none = subst (λ r. ReadsAs r (Ok [])) (sym none) refl

-- The fields of the first occurrences grow by those of the next.
pub nested_more : {S : Type 0} (f : S → List ℕ) (places : List S) (i : ℕ) (d : S) (bytes : List ℕ) (r : Result (List NestedField) MsgFault) → i < length places → bytes ≡ f (get_or places i d)
    → ReadsAs r (followed (laid_all 0 (items_from table_field_schema_of 0 (map f (take i places)))) (located i (laid 0 (table_field_schema_of bytes))))
    → ReadsAs r (laid_all 0 (items_from table_field_schema_of 0 (map f (take (i + 1) places))))
nested_more f places i d bytes r h is reads =
    let front : Result (List TableFieldSchema) MsgFault = items_from table_field_schema_of 0 (map f (take i places)) in
    let item : List ℕ = f (get_or places i d) in
    let whole : laid_all 0 (items_from table_field_schema_of 0 (map f (take (i + 1) places))) ≡ followed (laid_all 0 front) (located i (laid 0 (table_field_schema_of item))) =
    ap (laid_all 0) (items_more table_field_schema_of f places i d h) ∙ last_laid 0 front (located i (table_field_schema_of item))
    ∙ ap (followed (laid_all 0 front)) (laid_located i (table_field_schema_of item)) in
    let there : ReadsAs r (followed (laid_all 0 front) (located i (laid 0 (table_field_schema_of item)))) = subst (λ bs. ReadsAs r (followed (laid_all 0 front) (located i (laid 0 (table_field_schema_of bs))))) is reads in
    subst (ReadsAs r) (sym whole) there

pub laid_placeless : (bytes : List ℕ) (r : Result (List NestedField) MsgFault) → ReadsAs r (laid 0 (located 0 (table_field_schema_of bytes))) → ReadsAs r (located 0 (laid 0 (table_field_schema_of bytes)))
laid_placeless bytes r h = subst (ReadsAs r) (laid_located 0 (table_field_schema_of bytes)) h

-- One vector behind another.
abbrev pub appended : Result (Vec NestedField × Vec NestedField) MsgFault → Result (List NestedField) MsgFault
appended (Ok x) = Ok (x.0.items ++ x.1.items)
appended (Err e) = Err e

appended_same : (a b : Result (Vec NestedField) MsgFault) → appended (both a b) ≡ followed (listed a) (listed b)
appended_same (Ok x) (Ok y) = refl
appended_same (Ok x) (Err e) = refl
appended_same (Err d) (Ok y) = refl
appended_same (Err d) (Err e) = refl

at_again : (n m : ℕ) (e : MsgFault) → at_place n (at_place m e) ≡ at_place n e
at_again n m fault.Memory = refl
at_again n m (fault.BadProto at) = refl
at_again n m (fault.Unsupported field) = refl
at_again n m (fault.BadUtf8 field) = refl

located_again : {X : Type 0} (n m : ℕ) (r : Result X MsgFault) → located n (located m r) ≡ located n r
located_again n m (Ok x) = refl
located_again n m (Err e) = ap Err (at_again n m e)

listed_located : (n : ℕ) (r : Result (Vec NestedField) MsgFault) → listed (located n r) ≡ located n (listed r)
listed_located n (Ok x) = refl
listed_located n (Err e) = refl

memory_before : (a b : Result (List NestedField) MsgFault) → a ≡ Err fault.Memory → followed a b ≡ Err fault.Memory
memory_before (Ok x) b h = absurd cc
memory_before (Err d) (Ok y) h = h
memory_before (Err fault.Memory) (Err e) h = refl
memory_before (Err (fault.BadProto at)) (Err e) h = absurd cc
memory_before (Err (fault.Unsupported field)) (Err e) h = absurd cc
memory_before (Err (fault.BadUtf8 field)) (Err e) h = absurd cc

memory_behind : (a : Result (List NestedField) MsgFault) → followed a (Err fault.Memory) ≡ Err fault.Memory
memory_behind (Ok x) = refl
memory_behind (Err d) = ap Err (least_memory d)

follows : (so_far read : Result (Vec NestedField) MsgFault) (n : ℕ) (before item : Result (List NestedField) MsgFault) → ReadsAs (listed so_far) before → ReadsAs (listed read) (located 0 item)
    → ReadsAs (followed (listed so_far) (located n (listed read))) (followed before (located n item))
follows so_far read n before item h k =
    let whole : Result (List NestedField) MsgFault = followed before (located n item) in
    elim (reading_cases (listed so_far) before h) [
      | inl wanting ↦ subst (λ r. ReadsAs r whole) (sym (memory_before (listed so_far) (located n (listed read)) wanting)) tt
      | inr same ↦
          elim (reading_cases (listed read) (located 0 item) k) [
            | inl wanting ↦ subst (λ r. ReadsAs r whole) (sym (ap (λ r. followed (listed so_far) (located n r)) wanting ∙ memory_behind (listed so_far))) tt
            | inr equal ↦
                let there : located n item ≡ located n (listed read) = sym (located_again n 0 item) ∙ ap (located n) equal in
                rw (same, there) (same_reading (followed (listed so_far) (located n (listed read))))
          ]
    ]

pub nested_read : (so_far read placed : Result (Vec NestedField) MsgFault) (n : ℕ) (r : Result (List NestedField) MsgFault) → r ≡ appended (both so_far placed) → placed ≡ located n read
    → (before item : Result (List NestedField) MsgFault) → ReadsAs (listed so_far) before → ReadsAs (listed read) (located 0 item) → ReadsAs r (followed before (located n item))
nested_read so_far read placed n r is there before item h k =
    let same : followed (listed so_far) (located n (listed read)) ≡ r =
    ap (followed (listed so_far)) (sym (listed_located n read) ∙ ap listed (sym there)) ∙ sym (appended_same so_far placed) ∙ sym is in
    subst (λ q. ReadsAs q (followed before (located n item))) same (follows so_far read n before item h k)

-- What was read as an outline is one, of these fields.
pub laid_ok : (r : Result (List TableFieldSchema) MsgFault) (fs : List NestedField) → laid_all 0 r ≡ Ok fs → IsOutline fs
laid_ok (Ok all) fs e = let same : outline 0 (gathered all) ≡ fs = cc in subst IsOutline same (outline_nests (gathered all))
laid_ok (Err d) fs e = absurd cc

pub fields_read : (number : ℕ) (bytes : List ℕ) (r : Result (List TableFieldSchema) MsgFault) (fs : List NestedField) (result : Fields) → laid_all 0 r ≡ Ok fs → outline 0 result ≡ fs
    → (placed_items number bytes r >>= λ fields. Ok (gathered fields)) ≡ Ok result
fields_read number bytes (Ok all) fs result e is =
    let same : outline 0 (gathered all) ≡ outline 0 result = cc in
    ap Ok (sym (fields_at-outline 0 (gathered all)) ∙ ap (fields_at 0) same ∙ fields_at-outline 0 result)
fields_read number bytes (Err d) fs result e is = absurd cc

pub fields_refused : (number : ℕ) (bytes : List ℕ) (r : Result (List TableFieldSchema) MsgFault) (e : MsgFault) → ReadsAs {X = List NestedField} (Err e) (laid_all 0 r)
    → ReadsAs {X = Fields} (Err (at_nth number bytes e)) (placed_items number bytes r >>= λ fields. Ok (gathered fields))
fields_refused number bytes r fault.Memory h = tt
fields_refused number bytes (Ok all) (fault.BadProto at) h = absurd cc
fields_refused number bytes (Err d) (fault.BadProto at) h = let same : d ≡ fault.BadProto at = cc in ap (λ x. Err (at_nth number bytes x)) same
fields_refused number bytes (Ok all) (fault.Unsupported field) h = absurd cc
fields_refused number bytes (Err d) (fault.Unsupported field) h = let same : d ≡ fault.Unsupported field = cc in ap (λ x. Err (at_nth number bytes x)) same
fields_refused number bytes (Ok all) (fault.BadUtf8 field) h = absurd cc
fields_refused number bytes (Err d) (fault.BadUtf8 field) h = let same : d ≡ fault.BadUtf8 field = cc in ap (λ x. Err (at_nth number bytes x)) same
