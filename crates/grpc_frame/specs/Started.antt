-- For the crate's own functions: a message whose flag and length have come.
use Rattle.std.specs.Prelude.{◌≡◌, ◌<◌, ◌≤◌, ◌+◌, ◌-◌, ℕ, List, [], ◌++◌, Option, Some, None, vec_len, vec_capacity}
use Rattle.grpc_frame.specs.declared.started.Started.{Started}
use Rattle.grpc_frame.specs.Frame.{prefix_of}

-- the bytes of the body that it stands for
abbrev pub started_bytes : Option Started → List ℕ
started_bytes None = []
started_bytes (Some message) = prefix_of message.len ++ message.bytes.items

abbrev pub missing_in : Option Started → ℕ
missing_in None = 0
missing_in (Some message) = message.len - vec_len message.bytes

-- it is within the limit, and while bytes are missing nothing stands behind it
abbrev pub IsStarted : ℕ → Option Started → List ℕ → Type 0
IsStarted limit None behind = Unit {0}
IsStarted limit (Some message) behind =
    (message.len ≤ limit) × (vec_len message.bytes ≤ message.len) × (vec_len message.bytes < message.len → behind ≡ [])

abbrev pub Starts : ℕ → List ℕ → Started → Type 0
Starts len bytes message = (message.len ≡ len) × (message.bytes.items ≡ bytes)

abbrev pub HasRoom : Option Started → ℕ → Type 0
HasRoom None count = Unit {0}
HasRoom (Some message) count = vec_len message.bytes + count ≤ vec_capacity message.bytes

abbrev pub IsSame : Option Started → Option Started → Type 0
IsSame None after = after ≡ None
IsSame (Some message) None = ⊥
IsSame (Some message) (Some after) = (after.len ≡ message.len) × (after.bytes.items ≡ message.bytes.items)

abbrev pub Filled : Option Started → Option Started → List ℕ → Type 0
Filled None after bytes = after ≡ None
Filled (Some message) None bytes = ⊥
Filled (Some message) (Some after) bytes =
    (after.len ≡ message.len) × (after.bytes.items ≡ message.bytes.items ++ bytes)
