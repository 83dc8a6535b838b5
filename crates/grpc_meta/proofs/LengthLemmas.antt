-- How long blocks are.
use Rattle.std.proofs.Common.{◌≡◌, ℕ, zero, suc, ◌+◌, ◌-◌, ◌*◌, ◌/◌, ◌%◌, ◌^◌, ◌≤◌, Bool, true, false, List, [], ◌∷◌, ◌++◌, length, length-append, take, drop, Option, Some, None, refl, sym, ap, ◌∙◌, arith}
use Rattle.std.specs.Prelude.{◌==◌, nat_lt, if◌then◌else◌, codes}
use Rattle.std.specs.Fmt.{decimal, digits, digits_onto, digit_glyph}
use Rattle.std.specs.List.{flat_map}
use Rattle.std.proofs.lemmas.List.{take-append-drop}
use Rattle.hpack_codes.specs.Integers.{groups, int_spelling}
use Rattle.hpack_blocks.specs.declared.fields.Field.{Field}
use Rattle.hpack_blocks.specs.Spelling.{place_of_field, place_of_name, string_spelling, literal_spelling, spelling_at, field_spelling, block_spelling}
use Rattle.percent_encoding.specs.Percent.{percent_encode_byte}
use Rattle.grpc_meta.specs.declared.answers.Status.{Status}
use Rattle.grpc_meta.specs.Answer.{field, response_head, http_only, is_plain, octet_text, is_plain_at_ends, end_text, behind_text, message_value, trailers}

one_group : (last : Bool) (most v b : ℕ) (others : List ℕ) → length others ≤ suc most → length (if last then v ∷ [] else b ∷ others) ≤ suc (suc most)
one_group true most v b others few = omega arith
one_group false most v b others few = omega (arith, few)

groups_most : (most v : ℕ) → length (groups most v) ≤ suc most
unfolding groups
groups_most zero v = omega arith
groups_most (suc most) v = one_group (nat_lt v 128) most v (128 + v % 128) (groups most (v / 128)) (groups_most most (v / 128))

int_most : (first prefix v : ℕ) → length (int_spelling first prefix v) ≤ 6
unfolding int_spelling
int_most first prefix v = either (nat_lt v (2 ^ prefix - 1))
  where
    either : (small : Bool) → length (if small then (first + v) ∷ [] else (first + (2 ^ prefix - 1)) ∷ groups 4 (v - (2 ^ prefix - 1))) ≤ 6
    either true = omega arith
    either false = omega (arith, groups_most 4 (v - (2 ^ prefix - 1)))

string_most : (octets : List ℕ) → length (string_spelling octets) ≤ 6 + length octets
unfolding string_spelling
string_most octets = omega (arith, length-append (int_spelling 0 7 (length octets)) octets, int_most 0 7 (length octets))

literal_most : (place : Option ℕ) (f : Field) → length (literal_spelling place f) ≤ 18 + length f.name + length f.value
unfolding literal_spelling
literal_most (Some place) f = omega (arith, length-append (int_spelling 0 4 (place + 1)) (string_spelling f.value), int_most 0 4 (place + 1), string_most f.value)
literal_most None f =
    omega (arith, length-append (int_spelling 0 4 0 ++ string_spelling f.name) (string_spelling f.value), length-append (int_spelling 0 4 0) (string_spelling f.name), int_most 0 4 0, string_most f.name, string_most f.value)

at_most : (place : Option ℕ) (f : Field) → length (spelling_at place f) ≤ 18 + length f.name + length f.value
unfolding spelling_at
at_most (Some place) f = omega (arith, int_most 128 7 (place + 1))
at_most None f = literal_most (place_of_name f.name) f

field_most : (f : Field) → length (field_spelling f) ≤ 18 + length f.name + length f.value
unfolding field_spelling
field_most f = at_most (place_of_field f) f

one_digit : (last : Bool) (k digit : ℕ) (acc more : List ℕ) → length more ≤ k + length (digit ∷ acc) → length (if last then digit ∷ acc else more) ≤ suc k + length acc
one_digit true k digit acc more few = omega arith
one_digit false k digit acc more few = omega (arith, few)

digits_most : (k n : ℕ) (acc : List ℕ) → length (digits_onto k 10 false n acc) ≤ k + length acc
digits_most zero n acc = omega arith
digits_most (suc k) n acc =
    let digit = digit_glyph false (n % 10) in
    one_digit (n / 10 == 0) k digit acc (digits_onto k 10 false (n / 10) (digit ∷ acc)) (digits_most k (n / 10) (digit ∷ acc))

decimal_most : (n : ℕ) → length (decimal n) ≤ 64
unfolding digits
decimal_most n = omega (arith, digits_most 64 n [])

escaped_most : (kept : Bool) (b : ℕ) → length (if kept then b ∷ [] else percent_encode_byte b) ≤ 3
unfolding percent_encode_byte
escaped_most true b = omega arith
escaped_most false b = omega arith

inner_most : (octets : List ℕ) → length (flat_map octet_text octets) ≤ 3 * length octets
inner_most [] = omega arith
inner_most (b ∷ octets) = omega (arith, length-append (octet_text b) (flat_map octet_text octets), escaped_most (is_plain b) b, inner_most octets)

ends_most : (octets : List ℕ) → length (flat_map end_text octets) ≤ 3 * length octets
ends_most [] = omega arith
ends_most (b ∷ octets) = omega (arith, length-append (end_text b) (flat_map end_text octets), escaped_most (is_plain_at_ends b) b, ends_most octets)

cut_length : (n : ℕ) (octets : List ℕ) → length (take n octets) + length (drop n octets) ≡ length octets
cut_length n octets = sym (length-append (take n octets) (drop n octets)) ∙ ap length (take-append-drop n octets)

behind_most : (octets : List ℕ) → length (behind_text octets) ≤ 3 * length octets
unfolding behind_text
behind_most octets =
    let n = length octets - 1 in
    omega (arith, length-append (flat_map octet_text (take n octets)) (flat_map end_text (drop n octets)), inner_most (take n octets), ends_most (drop n octets), cut_length n octets)

message_most : (message : List ℕ) → length (message_value message) ≤ 3 * length message
unfolding message_value
message_most message =
    omega (arith, length-append (flat_map end_text (take 1 message)) (behind_text (drop 1 message)), ends_most (take 1 message), behind_most (drop 1 message), cut_length 1 message)

-- the octet that a first block begins with, and the fields
block_most : (first : Bool) (fields : List Field) (n : ℕ) → length (flat_map field_spelling fields) ≤ n → length (block_spelling first fields) ≤ 1 + n
block_most true fields n few = omega (arith, few, length-append (32 ∷ []) (flat_map field_spelling fields))
block_most false fields n few = omega (arith, few)

one_more : (f : Field) (fields : List Field) (n : ℕ) → length (flat_map field_spelling fields) ≤ n → length (flat_map field_spelling (f ∷ fields)) ≤ 18 + length f.name + length f.value + n
one_more f fields n few = omega (arith, few, length-append (field_spelling f) (flat_map field_spelling fields), field_most f)

pub trailers_short : (first : Bool) (status : Status) → length (block_spelling first (trailers status)) ≤ 3 * length status.text + 150
trailers_short first status = either (status.code == 0)
  where
    status_field : Field
    status_field = field (codes "grpc-status") (decimal status.code)

    message_field : Field
    message_field = field (codes "grpc-message") (message_value status.text)

    either : (is_ok : Bool) → length (block_spelling first (status_field ∷ (if is_ok then [] else message_field ∷ []))) ≤ 3 * length status.text + 150
    either true = omega (arith, decimal_most status.code, block_most first (status_field ∷ []) (18 + 11 + length (decimal status.code) + 0) (one_more status_field [] 0 (omega arith)))
    either false =
        let message = one_more message_field [] 0 (omega arith) in
        omega (
          arith,
          decimal_most status.code,
          message_most status.text,
          block_most first (status_field ∷ message_field ∷ []) (18 + 11 + length (decimal status.code) + (18 + 12 + length (message_value status.text) + 0)) (one_more status_field (message_field ∷ []) (18 + 12 + length (message_value status.text) + 0) message),
        )

pub head_short : (first : Bool) → length (block_spelling first response_head) ≤ 150
head_short first =
    let content = field (codes "content-type") (codes "application/grpc") in
    omega (arith, block_most first response_head (18 + 7 + 3 + (18 + 12 + 16 + 0)) (one_more (field (codes ":status") (codes "200")) (content ∷ []) (18 + 12 + 16 + 0) (one_more content [] 0 (omega arith))))

pub http_short : (first : Bool) (code : ℕ) → length (block_spelling first (http_only code)) ≤ 150
http_short first code =
    let status = field (codes ":status") (decimal code) in
    omega (arith, decimal_most code, block_most first (http_only code) (18 + 7 + length (decimal code) + 0) (one_more status [] 0 (omega arith)))
