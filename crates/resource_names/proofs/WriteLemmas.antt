-- The names of write streams.
use Rattle.std.proofs.Common.{◌≡◌, inl, inr, ℕ, zero, suc, ◌<◌, ◌≤◌, ◌^◌, Bool, true, false, List, [], ◌∷◌, ◌++◌, length, length-append, take, drop, get_or, IsTrue, Option, Some, None, Err, refl, sym, ap, subst, ◌∙◌, arith, append_assoc, decimal}
use Rattle.std.specs.Prelude.{◌==◌, if◌then◌else◌, codes}
use Rattle.std.specs.List.{AllByRecursion, join_with_byte}
use Rattle.std.specs.Str.{bytes_eq}
use Rattle.std.proofs.lemmas.Bool.{both_ways, eqb-true, eqb-false, ne_eqb}
use Rattle.std.proofs.lemmas.Fmt.{decimal_injective}
use Rattle.std.proofs.lemmas.List.{take-append-drop}
use Rattle.std.proofs.lemmas.List.Elements.{All-cons}
use Rattle.std.proofs.lemmas.Slice.Eq.{bytes_eq-Decides}
use Rattle.resource_names.specs.declared.faults.NameFault.{NameFault}
use Rattle.resource_names.specs.declared.faults.NameFault.TheVariants as fault
use Rattle.resource_names.specs.declared.tables.TableName.{TableName}
use Rattle.resource_names.specs.declared.write_streams.StreamId.{StreamId}
use Rattle.resource_names.specs.declared.write_streams.StreamId.TheVariants as variant
use Rattle.resource_names.specs.declared.write_streams.WriteName.{WriteName}
use Rattle.resource_names.specs.Part.{is_part, is_part_byte, is_named, parts_of}
use Rattle.resource_names.specs.Number.{number_of}
use Rattle.resource_names.specs.Reads.{Reads}
use Rattle.resource_names.specs.Table.{table_text, HasParts, table_in}
use Rattle.resource_names.specs.Write.{write_text, default_text, IsId, IsBehind, IsWrite, numbered, id_behind, id_of, stream_in, stream_of, write_in, write_name_of}
use Rattle.resource_names.proofs.PartLemmas.{if_some, if_true, some_same, none_if, NoSlash, part_has_none, word_has_none, parts_joined, part_most, named_parts, named_from}
use Rattle.resource_names.proofs.NumberLemmas.{number_spelled, spelled_number, wide, decimal_bytes, decimal_short, part_from}
use Rattle.resource_names.proofs.TableLemmas.{joined, table_parts, table_found, table_joined, table_before, words_have_none, table_of_parts, table_most}

-- ---- ids

abbrev pub default_id : List ℕ
default_id = codes "_default"

-- `_` is no `s`
no_default : (xs ys : List ℕ) → 95 ∷ xs ≡ 115 ∷ ys → ⊥
no_default xs ys e = let heads : 95 ≡ 115 = ap (λ (l : List ℕ). get_or l 0 0) e in omega (arith, heads)

behind_s : (xs ys : List ℕ) → 115 ∷ xs ≡ 115 ∷ ys → xs ≡ ys
behind_s xs ys e = ap (λ (l : List ℕ). drop 1 l) e

none_none : (n : ℕ) → None ≡ Some n → ⊥
none_none n e = absurd cc

by_number : (number : List ℕ) (o : Option ℕ) → number_of number ≡ o → IsId (115 ∷ number) (numbered o)
by_number number None e =
    ((λ d. no_default (drop 1 default_id) number (sym d)), (λ n some small is. none_none n (sym e ∙ spelled_number number n small (behind_s number (decimal n) is))))
by_number number (Some zero) e =
    ((λ d. no_default (drop 1 default_id) number (sym d)), (λ n some small is. omega (arith, some, some_same zero n (sym e ∙ spelled_number number n small (behind_s number (decimal n) is)))))
by_number number (Some (suc n)) e =
    let spelled = number_spelled number (suc n) e in
    (omega arith, spelled.1, ap (λ (ds : List ℕ). 115 ∷ ds) spelled.0)

by_first : (first : ℕ) (number : List ℕ) (same : Bool) → (first == 115) ≡ same → (first ∷ number ≡ default_id → ⊥) → IsId (first ∷ number) (if same then numbered (number_of number) else variant.Other)
by_first first number true e other = subst (λ (c : ℕ). IsId (c ∷ number) (numbered (number_of number))) (sym (eqb-true first 115 e)) (by_number number (number_of number) refl)
by_first first number false e other =
    (other, (λ n some small is. eqb-false first 115 e (ap (λ (l : List ℕ). get_or l 0 0) is)))

is_behind : (text : List ℕ) → (text ≡ default_id → ⊥) → IsId text (id_behind text)
is_behind [] other = (other, (λ n some small is. absurd cc))
is_behind (first ∷ number) other = by_first first number (first == 115) refl other

by_default : (text : List ℕ) (same : Bool) → bytes_eq text default_id ≡ same → IsId text (if same then variant.Default else id_behind text)
by_default text true e = (bytes_eq-Decides text default_id).0 e
by_default text false e = is_behind text (λ d. both_ways (bytes_eq text default_id) e ((bytes_eq-Decides text default_id).1 d))

pub is_id : (text : List ℕ) → IsId text (id_of text)
unfolding id_of
is_id text = by_default text (bytes_eq text default_id) refl

id_once : (text : List ℕ) (s t : StreamId) → IsId text s → IsId text t → s ≡ t
id_once text variant.Default variant.Default d e = refl
id_once text variant.Default (variant.Number n) d e = absurd (no_default (drop 1 default_id) (decimal n) (sym d ∙ e.2))
id_once text variant.Default variant.Other d e = absurd (e.0 d)
id_once text (variant.Number n) variant.Default d e = absurd (no_default (drop 1 default_id) (decimal n) (sym e ∙ d.2))
id_once text (variant.Number n) (variant.Number m) d e =
    ap variant.Number (decimal_injective n m (wide n d.1) (wide m e.1) (behind_s (decimal n) (decimal m) (sym d.2 ∙ e.2)))
id_once text (variant.Number n) variant.Other d e = absurd (e.1 n d.0 d.1 d.2)
id_once text variant.Other variant.Default d e = absurd (d.0 e)
id_once text variant.Other (variant.Number m) d e = absurd (d.1 m e.0 e.1 e.2)
id_once text variant.Other variant.Other d e = refl

pub same_id : (text : List ℕ) (s : StreamId) → IsId text s → id_of text ≡ s
same_id text s is = id_once text (id_of text) s (is_id text) is

-- ---- what stands behind the table

record Behind (tail : List (List ℕ)) (stream : StreamId) : Type 0 where
  id : List ℕ
  part : IsTrue (is_part id)
  is : IsId id stream
  first : List ℕ
  more : List (List ℕ)
  some : tail ≡ first ∷ more
  ends : IsBehind (47 ∷ join_with_byte 47 (first ∷ more)) id

stream_found : (tail : List (List ℕ)) (stream : StreamId) → stream_in tail ≡ Some stream → Behind tail stream
stream_found [] stream e = absurd cc
stream_found (last ∷ []) stream e =
    let got = if_some (bytes_eq last default_id) (Some variant.Default) stream e in
    record {
      id = default_id;
      part = refl;
      is = subst (IsId default_id) (some_same variant.Default stream got.1) refl;
      first = last;
      more = [];
      some = refl;
      ends = inr (ap (λ (l : List ℕ). 47 ∷ l) ((bytes_eq-Decides last default_id).0 got.0), refl);
    }
stream_found (streams ∷ id ∷ []) stream e =
    let got = if_some (is_named (codes "streams") streams id) (Some (id_of id)) stream e in
    let named = named_parts (codes "streams") streams id got.0 in
    record {
      id = id;
      part = named.1;
      is = subst (IsId id) (some_same (id_of id) stream got.1) (is_id id);
      first = streams;
      more = id ∷ [];
      some = refl;
      ends = inl (ap (λ (w : List ℕ). 47 ∷ (w ++ (47 ∷ id))) named.0);
    }
stream_found (streams ∷ id ∷ other ∷ more) stream e = absurd cc

both_found : (table : Option TableName) (stream : Option StreamId) (name : WriteName) → stream_of table stream ≡ Some name → (table ≡ Some name.table) × (stream ≡ Some name.stream)
both_found None stream name e = absurd cc
both_found (Some table) None name e = absurd cc
both_found (Some table) (Some stream) name e =
    let same = some_same (record { table = table; stream = stream }) name e in
    (ap (λ (n : WriteName). Some n.table) same, ap (λ (n : WriteName). Some n.stream) same)

pub write_spelled : (text : List ℕ) (name : WriteName) → write_name_of text ≡ Some name → IsWrite text name
unfolding write_name_of
write_spelled text name e =
    let parts = parts_of text in
    let both = both_found (table_in (take 6 parts)) (stream_in (drop 6 parts)) name e in
    let table = table_found (take 6 parts) name.table both.0 in
    let tail = stream_found (drop 6 parts) name.stream both.1 in
    let whole : parts ≡ table_parts name.table ++ (tail.first ∷ tail.more) =
    sym (take-append-drop 6 parts) ∙ ap (λ (front : List (List ℕ)). front ++ drop 6 parts) table.0 ∙ ap (λ (rest : List (List ℕ)). table_parts name.table ++ rest) tail.some in
    record {
      parts = table.1;
      id = tail.id;
      part = tail.part;
      stream = tail.is;
      behind = 47 ∷ join_with_byte 47 (tail.first ∷ tail.more);
      ends = tail.ends;
      spelled = joined text (table_parts name.table ++ (tail.first ∷ tail.more)) whole ∙ table_before name.table tail.first tail.more;
    }

-- ---- reading

-- a text of these words and parts
read_by : (name : WriteName) (first : List ℕ) (more : List (List ℕ)) → HasParts name.table → AllByRecursion NoSlash (first ∷ more) → stream_in (first ∷ more) ≡ Some name.stream
    → write_in (parts_of (table_text name.table ++ (47 ∷ join_with_byte 47 (first ∷ more)))) ≡ Some name
read_by name first more has nones ends =
    ap (λ (t : List ℕ). write_in (parts_of t)) (sym (table_before name.table first more))
    ∙ ap write_in (parts_joined (codes "projects") (name.table.project ∷ codes "datasets" ∷ name.table.dataset ∷ codes "tables" ∷ name.table.table ∷ first ∷ more) (word_has_none (codes "projects") refl) (words_have_none name.table (first ∷ more) has nones))
    ∙ ap (λ (t : Option TableName). stream_of t (stream_in (first ∷ more))) (table_of_parts name.table has)
    ∙ ap (stream_of (Some name.table)) ends

ends_read : (name : WriteName) (id behind : List ℕ) → HasParts name.table → IsTrue (is_part id) → IsId id name.stream → IsBehind behind id → write_in (parts_of (table_text name.table ++ behind)) ≡ Some name
ends_read name id behind has part is (inl e) =
    ap (λ (b : List ℕ). write_in (parts_of (table_text name.table ++ b))) e
    ∙ read_by name (codes "streams") (id ∷ []) has (word_has_none (codes "streams") refl, (part_has_none id part, tt))
    (if_true (is_named (codes "streams") (codes "streams") id) (Some (id_of id)) (named_from (codes "streams") id part) ∙ ap Some (same_id id name.stream is))
ends_read name id behind has part is (inr e) =
    ap (λ (b : List ℕ). write_in (parts_of (table_text name.table ++ b))) e.0
    ∙ read_by name default_id [] has (word_has_none default_id refl, tt) (ap Some (id_once id variant.Default name.stream e.1 is))

pub write_read : (text : List ℕ) (name : WriteName) → IsWrite text name → write_name_of text ≡ Some name
unfolding write_name_of
write_read text name is = ap (λ (t : List ℕ). write_in (parts_of t)) is.spelled ∙ ends_read name is.id is.behind is.parts is.part is.stream is.ends

-- ---- lengths

ends_most : (behind id : List ℕ) → IsTrue (is_part id) → IsBehind behind id → length behind ≤ 137
ends_most behind id part (inl e) = omega (arith, part_most id part, ap length e)
ends_most behind id part (inr e) = omega (arith, ap length e.0)

pub write_short : (text : List ℕ) → 551 < length text → write_name_of text ≡ None
write_short text long =
    none_if (write_name_of text) (λ name e.
    let is = write_spelled text name e in
    omega (arith, long, table_most name.table is.parts, ap length (table_joined name.table), ends_most is.behind is.id is.part is.ends, ap length is.spelled, length-append (table_text name.table) is.behind))

-- ---- what is written

pub default_read : (table : TableName) → HasParts table → write_name_of (default_text table) ≡ Some (record { table = table; stream = variant.Default })
default_read table has =
    write_read (default_text table) (record { table = table; stream = variant.Default })
    (record { parts = has; id = default_id; part = refl; stream = refl; behind = codes "/streams/_default"; ends = inl refl; spelled = refl })

number_is_part : (n : ℕ) → n < 2 ^ 32 → IsTrue (is_part (115 ∷ decimal n))
number_is_part n small =
    let most = decimal_short n small in
    part_from (115 ∷ decimal n) (omega arith) (omega (arith, most)) (All-cons (λ b. is_part_byte b ≡ true) 115 (decimal n) refl (decimal_bytes n small))

pub number_read : (table : TableName) (number : ℕ) → HasParts table → 0 < number → number < 2 ^ 32
    → write_name_of (write_text table number) ≡ Some (record { table = table; stream = variant.Number number })
number_read table number has some small =
    write_read (write_text table number) (record { table = table; stream = variant.Number number })
    (record {
      parts = has;
      id = 115 ∷ decimal number;
      part = number_is_part number small;
      stream = (some, small, refl);
      behind = codes "/streams/s" ++ decimal number;
      ends = inl refl;
      spelled = append_assoc (table_text table) (codes "/streams/s") (decimal number);
    })

-- ---- for the code

pub no_s : (text : List ℕ) → ((rest : List ℕ) → text ≡ 115 ∷ rest → ⊥) → variant.Other ≡ id_behind text
no_s [] other = refl
no_s (first ∷ number) other = sym (ap (λ (same : Bool). if same then numbered (number_of number) else variant.Other) (ne_eqb first 115 (λ e. other number (ap (λ (c : ℕ). c ∷ number) e))))

pub no_table : (table : Option TableName) (stream : Option StreamId) (e : NameFault) → Reads table (Err e) → Reads (stream_of table stream) (Err e)
no_table table stream fault.BadName none = ap (λ (t : Option TableName). stream_of t stream) none
no_table table stream fault.Memory none = tt
