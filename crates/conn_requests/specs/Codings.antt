-- Whether a call names a coding for compressed messages (gRPC over HTTP/2, Requests).
use Rattle.std.specs.Prelude.{ℕ, Bool, false, not, List, Option, codes}
use Rattle.std.specs.List.{find}
use Rattle.std.specs.Option.{option_map_or}
use Rattle.std.specs.Str.{bytes_eq}
use Rattle.hpack_blocks.specs.declared.fields.Field.{Field}
use Rattle.grpc_meta.specs.Fields.{is_named}

abbrev pub coding_field : List Field → Option Field
coding_field fields = find (is_named (codes "grpc-encoding")) fields

abbrev pub is_identity : Field → Bool
is_identity field = bytes_eq field.value (codes "identity")

-- the first `grpc-encoding` is there and isn't `identity`
unfoldable pub is_coded : List Field → Bool
is_coded fields = option_map_or (λ field. not (is_identity field)) (coding_field fields) false
