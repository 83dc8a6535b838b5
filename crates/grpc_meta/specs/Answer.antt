-- The header fields that the server writes: gRPC over HTTP/2, Responses.
use Rattle.std.specs.Prelude.{ℕ, Bool, not, ◌&&◌, ◌==◌, ◌-◌, nat_le, List, [], ◌∷◌, ◌++◌, length, take, drop, if◌then◌else◌, codes, decimal}
use Rattle.std.specs.List.{flat_map}
use Rattle.percent_encoding.specs.Percent.{percent_encode_byte}
use Rattle.hpack_blocks.specs.declared.fields.Field.{Field}
use Rattle.grpc_meta.specs.declared.answers.Status.{Status}

abbrev pub field : List ℕ → List ℕ → Field
field name value = record { name = name; value = value }

-- the head of an answer
abbrev pub response_head : List Field
response_head = field (codes ":status") (codes "200") ∷ field (codes "content-type") (codes "application/grpc") ∷ []

-- an answer of HTTP alone
abbrev pub http_only : ℕ → List Field
http_only code = field (codes ":status") (decimal code) ∷ []

-- an octet that a message holds as it is: 0x20 to 0x7E, but for '%', which is 37
abbrev pub is_plain : ℕ → Bool
is_plain b = nat_le 0x20 b && nat_le b 0x7E && not (b == 37)

-- the octet as it is, or '%' and two upper-case hexadecimal digits
abbrev pub octet_text : ℕ → List ℕ
octet_text b = if is_plain b then b ∷ [] else percent_encode_byte b

-- at either end the blank isn't: a value neither begins nor ends with one (RFC 9113, section 8.2.1)
abbrev pub is_plain_at_ends : ℕ → Bool
is_plain_at_ends b = is_plain b && not (b == 0x20)

-- the first octet, or the last
abbrev pub end_text : ℕ → List ℕ
end_text b = if is_plain_at_ends b then b ∷ [] else percent_encode_byte b

-- the octets behind the first
unfoldable pub behind_text : List ℕ → List ℕ
behind_text octets = flat_map octet_text (take (length octets - 1) octets) ++ flat_map end_text (drop (length octets - 1) octets)

-- the value of `grpc-message`
unfoldable pub message_value : List ℕ → List ℕ
message_value message = flat_map end_text (take 1 message) ++ behind_text (drop 1 message)

-- the end of a call
abbrev pub trailers : Status → List Field
trailers status =
    field (codes "grpc-status") (decimal status.code) ∷ (if status.code == 0 then [] else field (codes "grpc-message") (message_value status.text) ∷ [])
