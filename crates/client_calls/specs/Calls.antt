-- The calls that a client may make on one connection.
use Rattle.std.specs.Prelude.{ℕ, ◌%◌, ◌^◌, ◌==◌, nat_lt, nat_le, Bool, true, ◌&&◌, List, [], ◌∷◌, length}
use Rattle.std.specs.List.{list_all}
use Rattle.grpc_frame.specs.declared.limits.TheConstants.{MESSAGE_LIMIT}
use Rattle.client_calls.specs.declared.calls.ClientCall.{ClientCall}

-- a client's ids are odd, each is greater than those before it, and they have 31 bits (RFC 9113 section 5.1.1)
abbrev pub is_id_above : (last id : ℕ) → Bool
is_id_above last id = nat_lt last id && (id % 2 == 1) && nat_lt id (2 ^ 31)

abbrev pub is_short : List ℕ → Bool
is_short message = nat_le (length message) MESSAGE_LIMIT

-- the calls may be made behind one on the stream `last`
abbrev pub may_follow : (last : ℕ) → List ClientCall → Bool
may_follow last [] = true
may_follow last (call ∷ calls) = is_id_above last call.stream && list_all is_short call.messages.items && may_follow call.stream calls

abbrev pub may_send : List ClientCall → Bool
may_send calls = may_follow 0 calls
