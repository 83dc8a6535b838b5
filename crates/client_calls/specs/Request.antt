-- What asks for a method (RFC 9113 section 8.3.1; gRPC over HTTP/2, Requests).
use Rattle.std.specs.Prelude.{◌≡◌, ℕ, ◌≤◌, false, List, [], ◌∷◌, Ok, codes}
use Rattle.hpack_blocks.specs.declared.fields.Field.{Field}
use Rattle.hpack_blocks.specs.Answers.{MAX}
use Rattle.hpack_blocks.specs.Spelling.{BlockReadsBack}
use Rattle.hpack_blocks.specs.Table.{list_size}
use Rattle.grpc_meta.specs.Answer.{field}
use Rattle.grpc_meta.specs.Methods.{path_of}
use Rattle.grpc_meta.specs.Request.{method_in}
use Rattle.grpc_meta.specs.declared.methods.Method.{Method}

-- the fields that a client writes
unfoldable pub request_fields : Method → List Field
request_fields m =
    field (codes ":method") (codes "POST") ∷
    field (codes ":scheme") (codes "http") ∷
    field (codes ":path") (path_of m) ∷
    field (codes "te") (codes "trailers") ∷
    field (codes "content-type") (codes "application/grpc") ∷ []

-- the block reads as fields which ask for the method, whatever the table of HPACK is, and leaves the table
pub record IsRequest (m : Method) (block : List ℕ) : Type 0 where
  pub fields : List Field
  pub reads : BlockReadsBack false fields block
  pub names : method_in fields ≡ Ok m
  pub small : list_size fields ≤ MAX
