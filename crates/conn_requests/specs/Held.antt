-- What a `Call` stands for.
use Rattle.std.specs.Prelude.{Bool, false, List, Result, Ok, Err}
use Rattle.hpack_blocks.specs.declared.fields.Field.{Field}
use Rattle.grpc_meta.specs.declared.methods.Method.{Method}
use Rattle.grpc_meta.specs.declared.requests.MetaFault.{MetaFault}
use Rattle.conn_requests.specs.Body.{Body, new_body}
use Rattle.grpc_meta.specs.Request.{method_in}

pub record Held : Type 0 where
  pub body : Body
  -- HEADERS were given on the stream
  pub begun : Bool

abbrev pub new_held : Method → List Field → Held
new_held m fields = record { body = new_body m fields; begun = false }

abbrev pub held_by : List Field → Result Method MetaFault → Result Held MetaFault
held_by fields (Ok m) = Ok (new_held m fields)
held_by fields (Err refused) = Err refused

-- what a request's fields open
abbrev pub held_in : List Field → Result Held MetaFault
held_in fields = held_by fields (method_in fields)
