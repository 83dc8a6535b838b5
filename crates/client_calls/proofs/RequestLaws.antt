-- The fields that a client writes ask for their method, and their block is short.
use Rattle.std.proofs.Common.{◌≡◌, ◌+◌, ◌≤◌, false, length, refl, arith}
use Rattle.std.specs.Prelude.{All, Ok}
use Rattle.std.specs.List.{AllByRecursion}
use Rattle.std.proofs.lemmas.List.Elements.{All-from_recursion}
use Rattle.hpack_codes.specs.Integers.{groups, int_spelling}
use Rattle.hpack_blocks.specs.Answers.{MAX}
use Rattle.hpack_blocks.specs.Static.{static_table}
use Rattle.hpack_blocks.specs.Table.{list_size}
use Rattle.hpack_blocks.specs.Spelling.{Fits, place_of_field, place_of_name, string_spelling, literal_spelling, spelling_at, field_spelling, block_spelling}
use Rattle.hpack_blocks.proofs.SpellingLemmas.{block_back}
use Rattle.grpc_meta.specs.Fields.{is_bad, is_pseudo}
use Rattle.grpc_meta.specs.Methods.{path_of, methods}
use Rattle.grpc_meta.specs.Request.{has_late_pseudo, has_unknown_pseudo, is_repeated, is_missing, has_empty_path, is_malformed, is_post, is_grpc, method_named, method_in}
use Rattle.grpc_meta.specs.declared.methods.Method.{Method}
use Rattle.grpc_meta.specs.declared.methods.Method.TheVariants as method
use Rattle.client_calls.specs.Request.{request_fields, IsRequest}

names : (m : Method) → method_in (request_fields m) ≡ Ok m
unfolding request_fields path_of methods is_malformed is_bad is_pseudo has_late_pseudo has_unknown_pseudo is_repeated is_missing has_empty_path is_post is_grpc method_named
names method.CreateReadSession = refl
names method.ReadRows = refl
names method.SplitReadStream = refl
names method.CreateWriteStream = refl
names method.AppendRows = refl
names method.GetWriteStream = refl
names method.FinalizeWriteStream = refl
names method.BatchCommitWriteStreams = refl
names method.FlushRows = refl

-- the static table has `:method POST`, `:scheme http` and the names of `:path` and `content-type`
len : (m : Method) → length (block_spelling false (request_fields m)) ≡ 36 + length (path_of m)
unfolding request_fields path_of static_table place_of_field place_of_name field_spelling spelling_at literal_spelling string_spelling int_spelling groups
len method.CreateReadSession = refl
len method.ReadRows = refl
len method.SplitReadStream = refl
len method.CreateWriteStream = refl
len method.AppendRows = refl
len method.GetWriteStream = refl
len method.FinalizeWriteStream = refl
len method.BatchCommitWriteStreams = refl
len method.FlushRows = refl

path_len : (m : Method) → length (path_of m) ≤ 80
unfolding path_of
path_len method.CreateReadSession = omega arith
path_len method.ReadRows = omega arith
path_len method.SplitReadStream = omega arith
path_len method.CreateWriteStream = omega arith
path_len method.AppendRows = omega arith
path_len method.GetWriteStream = omega arith
path_len method.FinalizeWriteStream = omega arith
path_len method.BatchCommitWriteStreams = omega arith
path_len method.FlushRows = omega arith

pub block_short : (m : Method) → length (block_spelling false (request_fields m)) ≤ 16384
block_short m = omega (arith, len m, path_len m)

fit-each : (m : Method) → AllByRecursion Fits (request_fields m)
unfolding request_fields
fit-each m = (
  record { name = omega arith; value = omega arith },
  (record { name = omega arith; value = omega arith }, (record { name = omega arith; value = omega (arith, path_len m) }, (record { name = omega arith; value = omega arith }, (record { name = omega arith; value = omega arith }, tt)))),
)

pub fits : (m : Method) → All Fits (request_fields m)
fits m = All-from_recursion Fits (request_fields m) (fit-each m)

list_short : (m : Method) → list_size (request_fields m) ≤ MAX
unfolding request_fields list_size
list_short m = omega (arith, path_len m)

pub request : (m : Method) → IsRequest m (block_spelling false (request_fields m))
request m = record { fields = request_fields m; reads = block_back false (request_fields m) (fits m); names = names m; small = list_short m }
