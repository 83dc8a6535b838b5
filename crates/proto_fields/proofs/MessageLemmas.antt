-- Messages, read record by record.
use Rattle.std.proofs.Common.{◌≡◌, ℕ, zero, suc, ◌+◌, ◌-◌, ◌<◌, ◌≤◌, List, [], ◌∷◌, ◌++◌, length, drop, map, Some, None, Result, Ok, Err, refl, sym, ap, ◌∙◌, append_assoc, length-drop, All, sum_by, arith}
use Rattle.std.proofs.lemmas.List.{append-nil, drop_all, map_push}
use Rattle.std.proofs.lemmas.List.Elements.{All-push}
use Rattle.std.proofs.lemmas.List.Sums.{sum_by-append}
use Rattle.proto_fields.specs.declared.field.Field.{Field}
use Rattle.proto_fields.specs.Record.{Record, record_at}
use Rattle.proto_fields.specs.Message.{Placed, with_first, placed_from, placed_of, contents, fields_of}
use Rattle.proto_fields.specs.Spans.{payload_in, record_in, records_in, value_at, field_at, located_fields, payload_size, IsWithin}
use Rattle.proto_fields.proofs.RecordLemmas.{record_at-rest}

-- what was read before, and what is still read
abbrev pub with_front : {A : Type 0} → List A → Result (List A) ℕ → Result (List A) ℕ
with_front front (Ok others) = Ok (front ++ others)
with_front front (Err at) = Err at

with_front-none : {A : Type 0} (read : Result (List A) ℕ) → with_front [] read ≡ read
with_front-none (Ok others) = refl
with_front-none (Err at) = refl

with_front-first : {A : Type 0} (front : List A) (x : A) (read : Result (List A) ℕ) → with_front front (with_first x read) ≡ with_front (front ++ x ∷ []) read
with_front-first {A = A} front x (Ok others) = ap (λ (xs : List A). Ok xs) (sym (append_assoc front (x ∷ []) others))
with_front-first front x (Err at) = refl

-- The bytes that the record before still holds are passed over.
placed_from-held : (held at : ℕ) (bytes : List ℕ) → held ≤ length bytes → placed_from at bytes held ≡ placed_from (at + held) (drop held bytes) 0
unfolding placed_from
placed_from-held zero at [] h = refl
placed_from-held zero at (b ∷ bytes) h = let e : at + 0 ≡ at = omega arith in rw e refl
placed_from-held (suc held) at [] h = absurd (omega arith)
placed_from-held (suc held) at (b ∷ bytes) h =
    let e : at + 1 + held ≡ at + suc held = omega arith in
    placed_from-held held (at + 1) bytes (omega arith) ∙ ap (λ (place : ℕ). placed_from place (drop held bytes) 0) e

-- The first record, and then the others.
pub placed_from-record : (at : ℕ) (bytes : List ℕ) (r : Record) (rest : List ℕ) → record_at bytes ≡ Some (r, rest)
    → placed_from at bytes 0 ≡ with_first (record { tag = at; end = at + (length bytes - length rest); content = r }) (placed_from (at + (length bytes - length rest)) rest 0)
unfolding placed_from
placed_from-record at [] r rest e = absurd (omega (arith, (record_at-rest [] r rest e).1))
placed_from-record at (b ∷ bytes) r rest e =
    let behind = record_at-rest (b ∷ bytes) r rest e in
    let held : suc (length bytes) - length rest ≡ suc (length bytes - length rest) = omega (arith, behind.1) in
    let ending : rest ≡ drop (length bytes - length rest) bytes = rw held at behind.0 in
    let place : at + 1 + (length bytes - length rest) ≡ at + (suc (length bytes) - length rest) = omega (arith, behind.1) in
    let others : placed_from (at + 1) bytes (length bytes - length rest) ≡ placed_from (at + 1 + (length bytes - length rest)) rest 0 =
    placed_from-held (length bytes - length rest) (at + 1) bytes (omega arith) ∙ ap (λ (y : List ℕ). placed_from (at + 1 + (length bytes - length rest)) y 0) (sym ending) in
    rw (e, others, place) refl

pub placed_from-bad : (at : ℕ) (bytes : List ℕ) → 0 < length bytes → record_at bytes ≡ None → placed_from at bytes 0 ≡ Err at
unfolding placed_from
placed_from-bad at [] some e = absurd (omega arith)
placed_from-bad at (b ∷ bytes) some e = rw e refl

-- what a loop over the records of a message has seen, up to a place
pub record HasSeen (message : List ℕ) (seen : List Placed) (at : ℕ) : Type 0 where
  pub inside : at ≤ length message
  pub so_far : with_front seen (placed_from at (drop at message) 0) ≡ placed_of message

pub HasSeen-none : (message : List ℕ) → HasSeen message [] 0
HasSeen-none message = record { inside = omega arith; so_far = with_front-none (placed_of message) }

pub HasSeen-more : (message : List ℕ) (seen : List Placed) (at next : ℕ) (r : Record) → HasSeen message seen at → at < next → next ≤ length message → record_at (drop at message) ≡ Some (r, drop next message)
    → HasSeen message (seen ++ record { tag = at; end = next; content = r } ∷ []) next
HasSeen-more message seen at next r h further ends e =
    let place : at + (length (drop at message) - length (drop next message)) ≡ next = omega (arith, length-drop at message, length-drop next message) in
    let one : placed_from at (drop at message) 0 ≡ with_first (record { tag = at; end = next; content = r }) (placed_from next (drop next message) 0) =
    placed_from-record at (drop at message) r (drop next message) e
    ∙ ap (λ (n : ℕ). with_first (record { tag = at; end = n; content = r }) (placed_from n (drop next message) 0)) place in
    record {
      inside = ends;
      so_far = sym (with_front-first seen (record { tag = at; end = next; content = r }) (placed_from next (drop next message) 0)) ∙ ap (with_front seen) (sym one) ∙ h.so_far;
    }

pub HasSeen-bad : (message : List ℕ) (seen : List Placed) (at : ℕ) → HasSeen message seen at → at < length message → record_at (drop at message) ≡ None → placed_of message ≡ Err at
HasSeen-bad message seen at h inside e =
    let some : 0 < length (drop at message) = omega (arith, length-drop at message) in
    sym h.so_far ∙ ap (with_front seen) (placed_from-bad at (drop at message) some e)

pub HasSeen-all : (message : List ℕ) (seen : List Placed) (at : ℕ) → HasSeen message seen at → length message ≤ at → placed_of message ≡ Ok seen
unfolding placed_from
HasSeen-all message seen at h past =
    let none : drop at message ≡ [] = drop_all at message past in
    let one : with_front seen (placed_from at (drop at message) 0) ≡ Ok seen = rw none (ap (λ (ps : List Placed). Ok ps) (append-nil seen)) in
    sym h.so_far ∙ one

abbrev content_of : Placed → Record
content_of p = p.content

-- and what it has found there
pub record HasRead (message : List ℕ) (found : List Field) (at : ℕ) : Type 0 where
  pub seen : List Placed
  pub so_far : HasSeen message seen at
  pub fields : map field_at seen ≡ found
  pub records : map content_of seen ≡ records_in message found
  pub within : All (IsWithin (length message)) found
  pub size : sum_by payload_size found ≤ at

pub HasRead-none : (message : List ℕ) → HasRead message [] 0
HasRead-none message = record { seen = []; so_far = HasSeen-none message; fields = refl; records = refl; within = λ k d h. absurd (omega arith); size = omega arith }

pub HasRead-more : (message : List ℕ) (found : List Field) (at next : ℕ) (field : Field) → HasRead message found at → record_at (drop at message) ≡ Some (record_in message field, drop next message) → (at + payload_size field < next) × (next ≤ length message) → IsWithin (length message) field → field.value ≡ value_at (payload_in message field.value) next
    → HasRead message (found ++ field ∷ []) next
HasRead-more message found at next field h e ends within value =
    let p : Placed = record { tag = at; end = next; content = record_in message field } in
    let same : field_at p ≡ field = ap (λ v. record field { value = v }) (sym value) in
    record {
      seen = h.seen ++ p ∷ [];
      so_far = HasSeen-more message h.seen at next (record_in message field) h.so_far (omega (arith, ends.0)) ends.1 e;
      fields = map_push field_at h.seen p ∙ ap (λ (fs : List Field). fs ++ field_at p ∷ []) h.fields ∙ ap (λ (f : Field). found ++ f ∷ []) same;
      records = map_push content_of h.seen p ∙ ap (λ (rs : List Record). rs ++ record_in message field ∷ []) h.records ∙ sym (map_push (record_in message) found field);
      within = All-push (IsWithin (length message)) found field h.within within;
      size = rw (sum_by-append payload_size found (field ∷ [])) (omega (arith, h.size, ends.0));
    }

pub HasRead-all : (message : List ℕ) (found : List Field) (at : ℕ) → HasRead message found at → length message ≤ at → (fields_of message ≡ Ok (records_in message found)) × (located_fields (placed_of message) ≡ Ok found)
HasRead-all message found at h past =
    let all : placed_of message ≡ Ok h.seen = HasSeen-all message h.seen at h.so_far past in
    (ap contents all ∙ ap (λ (rs : List Record). Ok rs) h.records, ap located_fields all ∙ ap (λ (fs : List Field). Ok fs) h.fields)
