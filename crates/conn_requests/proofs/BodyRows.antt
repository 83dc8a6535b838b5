-- Rows worked out by hand: what the bytes of a body ask.
use Rattle.std.proofs.Common.{◌≡◌, ℕ, Bool, true, false, List, [], ◌∷◌, ◌++◌, refl}
use Rattle.std.specs.Prelude.{codes}
use Rattle.hpack_blocks.specs.declared.fields.Field.{Field}
use Rattle.grpc_frame.specs.Frame.{frame, prefix_of}
use Rattle.grpc_frame.specs.Part.{part_of}
use Rattle.grpc_frame.specs.Split.{split_of}
use Rattle.grpc_meta.specs.Answer.{field}
use Rattle.grpc_meta.specs.declared.methods.Method.TheVariants as method
use Rattle.conn_requests.specs.declared.asks.Ask.{Ask}
use Rattle.conn_requests.specs.declared.asks.Ask.TheVariants as ask
use Rattle.conn_requests.specs.declared.asks.Over.TheVariants as over
use Rattle.conn_requests.specs.Codings.{is_coded}
use Rattle.conn_requests.specs.Body.{Body, new_body, asks_of, body_after}

abbrev appending : Body
appending = new_body method.AppendRows []

-- GetWriteStream, a call of one message
abbrev getting : Body
getting = new_body method.GetWriteStream []

abbrev ends : Ask → List Ask
ends asked = asked ∷ []

-- two messages in one DATA are asked at once, each in its turn
two_in_one : asks_of appending (frame (1 ∷ 2 ∷ []) ++ frame (3 ∷ [])) false ≡ ask.Append (1 ∷ 2 ∷ []) ∷ ask.Append (3 ∷ []) ∷ []
unfolding is_coded asks_of split_of part_of frame prefix_of
two_in_one = refl

-- one message over two DATA is asked with its last byte
first_part : asks_of appending (0 ∷ 0 ∷ 0 ∷ []) false ≡ []
unfolding is_coded asks_of split_of part_of frame prefix_of
first_part = refl

second_part : asks_of (body_after appending (0 ∷ 0 ∷ 0 ∷ [])) (0 ∷ 1 ∷ 7 ∷ []) false ≡ ask.Append (7 ∷ []) ∷ []
unfolding is_coded asks_of body_after split_of part_of frame prefix_of
second_part = refl

-- a message and the client's end ask two things
message_and_end : asks_of appending (frame []) true ≡ ask.Append [] ∷ ask.Ends over.Finished ∷ []
unfolding is_coded asks_of split_of part_of frame prefix_of
message_and_end = refl

-- the client ends inside a message, which counts before the number of messages
cut_short : asks_of appending (frame [] ++ 0 ∷ 0 ∷ []) true ≡ ask.Append [] ∷ ask.Ends over.CutShort ∷ []
unfolding is_coded asks_of split_of part_of frame prefix_of
cut_short = refl

cut_short_first : asks_of getting (frame [] ++ frame [] ++ 0 ∷ []) true ≡ ends (ask.Ends over.CutShort)
unfolding is_coded asks_of split_of part_of frame prefix_of
cut_short_first = refl

-- a call of one message asks it once the client has ended
not_yet : asks_of getting (frame (8 ∷ [])) false ≡ []
unfolding is_coded asks_of split_of part_of frame prefix_of
not_yet = refl

one : asks_of (body_after getting (frame (8 ∷ []))) [] true ≡ ends (ask.Call method.GetWriteStream (8 ∷ []))
unfolding is_coded asks_of body_after split_of part_of frame prefix_of
one = refl

none : asks_of getting [] true ≡ ends (ask.Ends over.OneWanted)
unfolding is_coded asks_of split_of part_of frame prefix_of
none = refl

two : asks_of getting (frame (8 ∷ []) ++ frame (9 ∷ [])) true ≡ ends (ask.Ends over.OneWanted)
unfolding is_coded asks_of split_of part_of frame prefix_of
two = refl

-- a length above 10,485,760 stands with its last byte, and ends the call without the client's end
long_yet : asks_of appending (0 ∷ 0 ∷ 160 ∷ 0 ∷ []) false ≡ []
unfolding is_coded asks_of split_of part_of frame prefix_of
long_yet = refl

too_long : asks_of appending (0 ∷ 0 ∷ 160 ∷ 0 ∷ 1 ∷ []) false ≡ ends (ask.Ends over.TooLong)
unfolding is_coded asks_of split_of part_of frame prefix_of
too_long = refl

greatest : asks_of appending (0 ∷ 0 ∷ 160 ∷ 0 ∷ 0 ∷ []) false ≡ []
unfolding is_coded asks_of split_of part_of frame prefix_of
greatest = refl

-- a compressed message stands with its flag; the first `grpc-encoding` counts
abbrev encoding : List ℕ → Field
encoding name = field (codes "grpc-encoding") name

compressed : asks_of getting (frame [] ++ 1 ∷ []) true ≡ ends (ask.Ends over.Compressed)
unfolding is_coded asks_of split_of part_of frame prefix_of
compressed = refl

identity : asks_of (new_body method.AppendRows (encoding (codes "identity") ∷ encoding (codes "gzip") ∷ [])) (frame [] ++ 1 ∷ []) false ≡ ask.Append [] ∷ ask.Ends over.Compressed ∷ []
unfolding is_coded asks_of split_of part_of frame prefix_of
identity = refl

coded : asks_of (new_body method.AppendRows (encoding (codes "gzip") ∷ [])) (1 ∷ []) false ≡ ends (ask.Ends over.Coded)
unfolding is_coded asks_of split_of part_of frame prefix_of
coded = refl
