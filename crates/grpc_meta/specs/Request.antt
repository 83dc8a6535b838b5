-- What the header fields of a request ask for: RFC 9113, section 8.3, and gRPC over HTTP/2, Requests.
use Rattle.std.specs.Prelude.{ℕ, Bool, false, not, ◌&&◌, ◌||◌, ◌==◌, ◌+◌, nat_eq, List, [], length, drop, Option, Result, Err, option_and_then, if◌then◌else◌, codes}
use Rattle.std.specs.List.{list_any, find, position, starts_with}
use Rattle.std.specs.Option.{option_map_or, ok_or}
use Rattle.std.specs.Str.{bytes_eq}
use Rattle.hpack_blocks.specs.declared.fields.Field.{Field}
use Rattle.grpc_meta.specs.declared.methods.Method.{Method}
use Rattle.grpc_meta.specs.declared.requests.MetaFault.{MetaFault}
use Rattle.grpc_meta.specs.declared.requests.MetaFault.TheVariants as fault
use Rattle.grpc_meta.specs.Fields.{is_named, is_bad, is_pseudo}
use Rattle.grpc_meta.specs.Methods.{method_at}

-- what stands behind the first field of a kind
abbrev pub behind_first : (Field → Bool) → List Field → List Field
behind_first is_one fields = option_map_or (λ place. drop (place + 1) fields) (position is_one fields) []

-- a pseudo-field stands behind another field
unfoldable pub has_late_pseudo : List Field → Bool
has_late_pseudo fields = list_any is_pseudo (behind_first (λ f. not (is_pseudo f)) fields)

-- the pseudo-fields of a request; CONNECT isn't served
abbrev pub is_request_pseudo : Field → Bool
is_request_pseudo f =
    is_named (codes ":method") f || is_named (codes ":scheme") f || is_named (codes ":path") f || is_named (codes ":authority") f

unfoldable pub has_unknown_pseudo : List Field → Bool
has_unknown_pseudo fields = list_any (λ f. is_pseudo f && not (is_request_pseudo f)) fields

unfoldable pub is_repeated : List ℕ → List Field → Bool
is_repeated name fields = list_any (is_named name) (behind_first (is_named name) fields)

abbrev pub repeats_pseudo : List Field → Bool
repeats_pseudo fields =
    is_repeated (codes ":method") fields || is_repeated (codes ":scheme") fields || is_repeated (codes ":path") fields || is_repeated (codes ":authority") fields

unfoldable pub is_missing : List ℕ → List Field → Bool
is_missing name fields = not (list_any (is_named name) fields)

abbrev pub lacks_pseudo : List Field → Bool
lacks_pseudo fields = is_missing (codes ":method") fields || is_missing (codes ":scheme") fields || is_missing (codes ":path") fields

-- a test of the value of the first field of this name; false where there is none
abbrev pub first_passes : List ℕ → (List ℕ → Bool) → List Field → Bool
first_passes name test fields = option_map_or (λ f. test f.value) (find (is_named name) fields) false

unfoldable pub has_empty_path : List Field → Bool
has_empty_path fields = first_passes (codes ":path") (λ value. length value == 0) fields

unfoldable pub is_malformed : List Field → Bool
is_malformed fields =
    list_any is_bad fields || has_late_pseudo fields || has_unknown_pseudo fields || repeats_pseudo fields || lacks_pseudo fields || has_empty_path fields

unfoldable pub is_post : List Field → Bool
is_post fields = first_passes (codes ":method") (λ value. bytes_eq value (codes "POST")) fields

-- `application/grpc` alone, with parameters, or with protobuf named as its coding
abbrev pub is_grpc_type : List ℕ → Bool
is_grpc_type value =
    bytes_eq value (codes "application/grpc") || starts_with nat_eq value (codes "application/grpc+proto") || starts_with nat_eq value (codes "application/grpc;")

unfoldable pub is_grpc : List Field → Bool
is_grpc fields = first_passes (codes "content-type") is_grpc_type fields

unfoldable pub method_named : List Field → Option Method
method_named fields = option_and_then (λ f. method_at f.value) (find (is_named (codes ":path")) fields)

-- the method of a request, or why there is none: the first of the refusals, in their order
abbrev pub method_in : List Field → Result Method MetaFault
method_in fields =
    if is_malformed fields then Err fault.Malformed
    else if not (is_post fields) then Err fault.NotPost
    else if not (is_grpc fields) then Err fault.NotGrpc
    else ok_or (method_named fields) fault.UnknownPath
