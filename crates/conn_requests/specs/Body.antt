-- What the bytes of a call's body ask, and what is kept of them (gRPC over HTTP/2, Requests).
use Rattle.std.specs.Prelude.{ℕ, Bool, List, [], ◌∷◌, ◌++◌, map, if◌then◌else◌}
use Rattle.hpack_blocks.specs.declared.fields.Field.{Field}
use Rattle.grpc_frame.specs.Part.{part_of}
use Rattle.grpc_frame.specs.Split.{Split, split_of}
use Rattle.grpc_frame.specs.declared.limits.TheConstants.{MESSAGE_LIMIT}
use Rattle.grpc_frame.specs.declared.part.Part.{Part}
use Rattle.grpc_frame.specs.declared.part.Part.TheVariants as part
use Rattle.grpc_meta.specs.declared.methods.Method.{Method}
use Rattle.grpc_meta.specs.declared.methods.Method.TheVariants as method
use Rattle.conn_requests.specs.declared.asks.Ask.{Ask}
use Rattle.conn_requests.specs.declared.asks.Ask.TheVariants as ask
use Rattle.conn_requests.specs.declared.asks.Over.{Over}
use Rattle.conn_requests.specs.declared.asks.Over.TheVariants as over
use Rattle.conn_requests.specs.declared.kinds.Kind.{Kind}
use Rattle.conn_requests.specs.declared.kinds.Kind.TheVariants as kind
use Rattle.conn_requests.specs.declared.kinds.Sole.{Sole}
use Rattle.conn_requests.specs.declared.kinds.Sole.TheVariants as sole
use Rattle.conn_requests.specs.Codings.{is_coded}

pub record Body : Type 0 where
  -- the method, and the messages of a call that wants one
  pub kind : Kind
  -- the call names a coding for compressed messages
  pub is_coded : Bool
  -- what came behind the whole messages
  pub rest : List ℕ

-- ---- the start

abbrev pub kind_of : Method → Kind
kind_of method.AppendRows = kind.Appending
kind_of m = kind.Collecting m sole.Empty

abbrev pub new_body : Method → List Field → Body
new_body m fields = record { kind = kind_of m; is_coded = is_coded fields; rest = [] }

-- ---- whole messages

abbrev pub with_sole : Sole → (message : List ℕ) → Sole
with_sole sole.Empty message = sole.One message
with_sole _ message = sole.Many

abbrev pub kind_with : Kind → (message : List ℕ) → Kind
kind_with kind.Appending message = kind.Appending
kind_with (kind.Collecting m so_far) message = kind.Collecting m (with_sole so_far message)

abbrev pub kind_after : Kind → (messages : List (List ℕ)) → Kind
kind_after k [] = k
kind_after k (message ∷ messages) = kind_after (kind_with k message) messages

-- an AppendRows call asks each message when it is whole
abbrev pub messages_asked : Kind → (messages : List (List ℕ)) → List Ask
messages_asked kind.Appending messages = map ask.Append messages
messages_asked (kind.Collecting m so_far) messages = []

-- ---- the client's end

-- a call of one message asks it now
abbrev pub whole_asked : Kind → Ask
whole_asked kind.Appending = ask.Ends over.Finished
whole_asked (kind.Collecting m (sole.One message)) = ask.Call m message
whole_asked (kind.Collecting m _) = ask.Ends over.OneWanted

-- that a message is cut short counts before the number of messages
abbrev pub end_asked : Kind → (rest : List ℕ) → Ask
end_asked k [] = whole_asked k
end_asked k (byte ∷ rest) = ask.Ends over.CutShort

-- ---- all of it

abbrev pub compressed : (is_coded : Bool) → Over
compressed is_coded = if is_coded then over.Coded else over.Compressed

-- What stands behind the whole messages ends the call where it begins with a message that is compressed or too long, whether
-- or not the client has ended it.
abbrev pub rest_asked : Kind → (is_coded : Bool) → Part → (rest : List ℕ) → (ended : Bool) → List Ask
rest_asked k is_coded (part.Compressed flag) rest ended = ask.Ends (compressed is_coded) ∷ []
rest_asked k is_coded (part.TooLong len) rest ended = ask.Ends over.TooLong ∷ []
rest_asked k is_coded _ rest ended = if ended then end_asked k rest ∷ [] else []

abbrev pub split_asks : Body → Split → (ended : Bool) → List Ask
split_asks body split ended =
    messages_asked body.kind split.messages ++ rest_asked (kind_after body.kind split.messages) body.is_coded (part_of MESSAGE_LIMIT split.rest) split.rest ended

-- what these bytes ask, with which the client ends the call or doesn't
unfoldable pub asks_of : Body → (bytes : List ℕ) → (ended : Bool) → List Ask
asks_of body bytes ended = split_asks body (split_of MESSAGE_LIMIT (body.rest ++ bytes)) ended

abbrev pub split_after : Body → Split → Body
split_after body split = record { kind = kind_after body.kind split.messages; is_coded = body.is_coded; rest = split.rest }

-- the body behind them
unfoldable pub body_after : Body → (bytes : List ℕ) → Body
body_after body bytes = split_after body (split_of MESSAGE_LIMIT (body.rest ++ bytes))
