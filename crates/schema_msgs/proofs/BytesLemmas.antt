-- Fields are written one behind another, each in front of the fields within it.
use Rattle.std.proofs.Common.{◌≡◌, ℕ, zero, suc, ◌+◌, ◌<◌, List, [], ◌∷◌, ◌++◌, length, get_or, drop, refl, sym, ap, ◌∙◌, append_assoc, length-append, arith}
use Rattle.std.proofs.Math.Seq.{drop-cons}
use Rattle.proto_fields.specs.Record.{Record, record_bytes, head_bytes}
use Rattle.proto_fields.specs.Message.{message_of}
use Rattle.std.specs.Prelude.{ℤ}
use Rattle.write_msgs.specs.Writing.{bytes_field, int_field, text_field}
use Rattle.write_msgs.proofs.WritingLemmas.{message_joins}
use Rattle.schema_msgs.specs.declared.nested_fields.NestedField.{NestedField}
use Rattle.schema_msgs.specs.Fields.{Fields, Field}
use Rattle.schema_msgs.specs.Outline.{fields_at, IsOutline}
use Rattle.schema_msgs.specs.SchemaBytes.{own_records, field_records}
use Rattle.schema_msgs.specs.Lengths.{own_bytes, size_of, sizes_of, number_at}
use Rattle.schema_msgs.proofs.OutlineLemmas.{LaysOut, flat, laid_flat}
use Rattle.schema_msgs.proofs.LengthLemmas.{record_length}

-- the fields of one depth
abbrev pub lay_bytes : ℕ → ℕ → Fields → List ℕ
lay_bytes number depth fs = message_of (field_records (number_at number depth) fs)

-- a field, given those within it
abbrev pub head_within : ℕ → NestedField → Fields → List ℕ
head_within number f within = head_bytes (number_at number f.depth) (length (own_bytes f) + length (message_of (field_records 4 within))) ++ own_bytes f

within_number : (number depth : ℕ) → number_at number (depth + 1) ≡ 4
within_number number depth = let next : depth + 1 ≡ suc depth = omega arith in ap (number_at number) next

bytes_one : (number depth : ℕ) (f : NestedField) (within others : Fields) → f.depth ≡ depth
    → lay_bytes number depth (Field f.name f.column_type f.mode within others) ≡ head_within number f within ++ (lay_bytes number (depth + 1) within ++ lay_bytes number depth others)
unfolding field_records
bytes_one number depth f within others here =
    let inner : List ℕ = message_of (field_records 4 within) in
    let behind : List ℕ = lay_bytes number depth others in
    let n : ℕ = number_at number depth in
    let joins : message_of (own_records f.name f.column_type f.mode ++ field_records 4 within) ≡ own_bytes f ++ inner = message_joins (own_records f.name f.column_type f.mode) (field_records 4 within) in
    let whole : record_bytes (bytes_field n (own_bytes f ++ inner)) ≡ head_within number f within ++ inner =
    record_length n (own_bytes f ++ inner) ∙ ap (λ k. head_bytes n k ++ (own_bytes f ++ inner)) (length-append (own_bytes f) inner)
    ∙ ap (λ d. head_bytes (number_at number d) (length (own_bytes f) + length inner) ++ (own_bytes f ++ inner)) (sym here)
    ∙ sym (append_assoc (head_bytes (number_at number f.depth) (length (own_bytes f) + length inner)) (own_bytes f) inner) in
    ap (λ bytes. record_bytes (bytes_field n bytes) ++ behind) joins ∙ ap (λ bytes. bytes ++ behind) whole
    ∙ append_assoc (head_within number f within) inner behind
    ∙ ap (λ k. head_within number f within ++ (message_of (field_records k within) ++ behind)) (sym (within_number number depth))

bytes_lay : (number : ℕ) → LaysOut (lay_bytes number) (head_within number)
unfolding field_records
bytes_lay number = record { none = λ d. refl; one = bytes_one number }

pub bytes_flat : (number : ℕ) (fs : List NestedField) → IsOutline fs → message_of (field_records number (fields_at 0 fs)) ≡ flat (head_within number) fs
bytes_flat number fs nests = laid_flat (lay_bytes number) (head_within number) (bytes_lay number) fs nests

-- the lengths, one by one
pub length-sizes : (fs : List NestedField) → length (sizes_of fs) ≡ length fs
unfolding sizes_of
length-sizes [] = refl
length-sizes (f ∷ fs) = ap (λ n. suc n) (length-sizes fs)

pub sizes_at : (fs : List NestedField) (i : ℕ) (d : NestedField) → i < length fs → get_or (sizes_of fs) i 0 ≡ size_of (get_or fs i d) (drop (i + 1) fs)
unfolding sizes_of
sizes_at [] i d h = absurd (omega (arith, h))
sizes_at (f ∷ fs) zero d h = refl
sizes_at (f ∷ fs) (suc i) d h = let next : suc i + 1 ≡ suc (i + 1) = omega arith in rw next (sizes_at fs i d (omega (arith, h)))

pub flat_at : (number : ℕ) (fs : List NestedField) (i : ℕ) (d : NestedField) → i < length fs
    → flat (head_within number) (drop i fs) ≡ (head_bytes (number_at number (get_or fs i d).depth) (get_or (sizes_of fs) i 0) ++ own_bytes (get_or fs i d)) ++ flat (head_within number) (drop (i + 1) fs)
unfolding flat
flat_at number fs i d h =
    let next : suc i ≡ i + 1 = omega arith in
    let f : NestedField = get_or fs i d in
    ap (flat (head_within number)) (drop-cons fs i d h ∙ ap (λ k. f ∷ drop k fs) next)
    ∙ ap (λ n. (head_bytes (number_at number f.depth) n ++ own_bytes f) ++ flat (head_within number) (drop (i + 1) fs)) (sym (sizes_at fs i d h))

pub flat_next : (number : ℕ) (fs : List NestedField) (i : ℕ) (f : NestedField) (len : ℕ) (before out new whole : List ℕ) → i < length fs → f ≡ get_or fs i f → len ≡ get_or (sizes_of fs) i 0
    → out ++ flat (head_within number) (drop i fs) ≡ whole → new ≡ out ++ (head_bytes (number_at number f.depth) len ++ own_bytes f) → new ++ flat (head_within number) (drop (i + 1) fs) ≡ whole
flat_next number fs i f len before out new whole h is size all now =
    let rest : List ℕ = flat (head_within number) (drop (i + 1) fs) in
    ap (λ bytes. bytes ++ rest) now ∙ append_assoc out (head_bytes (number_at number f.depth) len ++ own_bytes f) rest
    ∙ ap (λ n. out ++ ((head_bytes (number_at number f.depth) n ++ own_bytes f) ++ rest)) size
    ∙ ap (λ g. out ++ ((head_bytes (number_at number g.depth) (get_or (sizes_of fs) i 0) ++ own_bytes g) ++ rest)) is
    ∙ ap (λ bytes. out ++ bytes) (sym (flat_at number fs i f h)) ∙ all

-- the parts of a field's message behind what was written
pub own_written : (name : List ℕ) (column_type mode : ℤ) (before one two all : List ℕ) → one ≡ before ++ message_of (text_field 1 name) → two ≡ one ++ message_of (int_field 2 column_type)
    → all ≡ two ++ message_of (int_field 3 mode) → all ≡ before ++ message_of (own_records name column_type mode)
own_written name column_type mode before one two all p q r =
    let a : List ℕ = message_of (text_field 1 name) in
    let b : List ℕ = message_of (int_field 2 column_type) in
    let d : List ℕ = message_of (int_field 3 mode) in
    let whole : message_of (own_records name column_type mode) ≡ a ++ b ++ d =
    message_joins (text_field 1 name ++ int_field 2 column_type) (int_field 3 mode) ∙ ap (λ xs. xs ++ d) (message_joins (text_field 1 name) (int_field 2 column_type)) in
    r ∙ ap (λ xs. xs ++ d) (q ∙ ap (λ xs. xs ++ b) p) ∙ ap (λ xs. xs ++ d) (append_assoc before a b) ∙ append_assoc before (a ++ b) d ∙ ap (λ xs. before ++ xs) (sym whole)

pub field_written : (before one all head own : List ℕ) → one ≡ before ++ head → all ≡ one ++ own → all ≡ before ++ (head ++ own)
field_written before one all head own p q = q ∙ ap (λ xs. xs ++ own) p ∙ append_assoc before head own

pub field_joins : (name : List ℕ) (column_type mode : ℤ) (fs : Fields)
    → message_of (own_records name column_type mode ++ field_records 4 fs) ≡ message_of (own_records name column_type mode) ++ message_of (field_records 4 fs)
field_joins name column_type mode fs = message_joins (own_records name column_type mode) (field_records 4 fs)

pub parts_join : (xs ys : List Record) → message_of (xs ++ ys) ≡ message_of xs ++ message_of ys
parts_join xs ys = message_joins xs ys
