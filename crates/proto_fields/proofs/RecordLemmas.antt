-- Records: where the payload of one that was read lies.
use Rattle.std.proofs.Common.{◌≡◌, ℕ, ◌+◌, ◌-◌, ◌<◌, ◌≤◌, cond, ltb, List, [], ◌++◌, length, take, drop, Some, None, refl, sym, ap, subst, ◌∙◌, append_assoc, length-append, length-drop, IfSome, arith}
use Rattle.std.proofs.lemmas.List.{take-append-drop, length-take-le}
use Rattle.std.proofs.Math.Seq.{drop-append_seam, take-append_seam, take-length}
use Rattle.std.specs.Int.{Width, w32, w64, byte_len, from_le_bytes}
use Rattle.proto_fields.specs.declared.tags.WireType.{WireType}
use Rattle.proto_fields.specs.declared.tags.WireType.TheVariants as wire
use Rattle.proto_fields.specs.declared.tags.Tag.{Tag}
use Rattle.proto_fields.specs.declared.payloads.Raw.{Raw}
use Rattle.proto_fields.specs.declared.payloads.Raw.TheVariants as raw
use Rattle.proto_fields.specs.Chain.{◌>>=◌}
use Rattle.proto_fields.specs.Varint.{varint_at}
use Rattle.proto_fields.specs.Record.{Payload, Varint, Fixed64, Len, Fixed32, Record, tag_of, tag_at, fixed_at, len_at, payload_at, record_at}
use Rattle.proto_fields.specs.Raw.{payload_of, raw_size}
use Rattle.proto_fields.specs.Spans.{part, payload_in, value_at, span_in, size_in}
use Rattle.proto_fields.proofs.ChainLemmas.{some_is, bind_some, unless_some, Behind}
use Rattle.proto_fields.proofs.VarintLemmas.{varint_at-behind}

-- the bytes that stand in the message as they are
abbrev pub content : Payload → List ℕ
content (Varint n) = []
content (Fixed64 n) = []
content (Len bytes) = bytes
content (Fixed32 n) = []

-- the bytes of the message before the payload, which hold more than the first few
pub record Lies (message : List ℕ) (payload : Payload) (rest : List ℕ) (at : ℕ) : Type 0 where
  pub before : List ℕ
  pub whole : message ≡ before ++ (content payload ++ rest)
  pub more : at < length before

-- a payload at the front
record Leads (bytes : List ℕ) (payload : Payload) (rest : List ℕ) : Type 0 where
  before : List ℕ
  whole : bytes ≡ before ++ (content payload ++ rest)

fixed_at-leads : (w : Width) (bytes : List ℕ) (x : ℕ × List ℕ) → fixed_at w bytes ≡ Some x → bytes ≡ take (byte_len w) bytes ++ x.1
fixed_at-leads w bytes x e =
    let found : ℕ × List ℕ = (from_le_bytes w (take (byte_len w) bytes), drop (byte_len w) bytes) in
    let g = unless_some (ltb (length bytes) (byte_len w)) found x e in
    subst (λ (y : ℕ × List ℕ). bytes ≡ take (byte_len w) bytes ++ y.1) g.1 (sym (take-append-drop (byte_len w) bytes))

len_at-leads : (bytes : List ℕ) (x : List ℕ × List ℕ) → len_at bytes ≡ Some x → Leads bytes (Len x.0) x.1
unfolding len_at
len_at-leads bytes x e =
    let n = bind_some (varint_at bytes) (λ n. cond (ltb (length n.1) n.0) None (Some (take n.0 n.1, drop n.0 n.1))) x e in
    let found : List ℕ × List ℕ = (take n.0.0 n.0.1, drop n.0.0 n.0.1) in
    let g = unless_some (ltb (length n.0.1) n.0.0) found x n.2 in
    let behind = varint_at-behind bytes n.0 n.1 in
    let whole : bytes ≡ behind.front ++ (take n.0.0 n.0.1 ++ drop n.0.0 n.0.1) = behind.whole ∙ ap (λ (y : List ℕ). behind.front ++ y) (sym (take-append-drop n.0.0 n.0.1)) in
    subst (λ (y : List ℕ × List ℕ). Leads bytes (Len y.0) y.1) g.1 (record { before = behind.front; whole = whole })

payload_at-leads : (kind : WireType) (bytes : List ℕ) (x : Payload × List ℕ) → payload_at kind bytes ≡ Some x → Leads bytes x.0 x.1
unfolding payload_at
payload_at-leads wire.Varint bytes x e =
    let n = bind_some (varint_at bytes) (λ n. Some (Varint n.0, n.1)) x e in
    let found : Payload × List ℕ = (Varint n.0.0, n.0.1) in
    let behind = varint_at-behind bytes n.0 n.1 in
    subst (λ (y : Payload × List ℕ). Leads bytes y.0 y.1) (some_is found x n.2) (record { before = behind.front; whole = behind.whole })
payload_at-leads wire.Fixed64 bytes x e =
    let n = bind_some (fixed_at w64 bytes) (λ n. Some (Fixed64 n.0, n.1)) x e in
    let found : Payload × List ℕ = (Fixed64 n.0.0, n.0.1) in
    subst (λ (y : Payload × List ℕ). Leads bytes y.0 y.1) (some_is found x n.2) (record { before = take (byte_len w64) bytes; whole = fixed_at-leads w64 bytes n.0 n.1 })
payload_at-leads wire.Len bytes x e =
    let n = bind_some (len_at bytes) (λ n. Some (Len n.0, n.1)) x e in
    let found : Payload × List ℕ = (Len n.0.0, n.0.1) in
    subst (λ (y : Payload × List ℕ). Leads bytes y.0 y.1) (some_is found x n.2) (len_at-leads bytes n.0 n.1)
payload_at-leads wire.Fixed32 bytes x e =
    let n = bind_some (fixed_at w32 bytes) (λ n. Some (Fixed32 n.0, n.1)) x e in
    let found : Payload × List ℕ = (Fixed32 n.0.0, n.0.1) in
    subst (λ (y : Payload × List ℕ). Leads bytes y.0 y.1) (some_is found x n.2) (record { before = take (byte_len w32) bytes; whole = fixed_at-leads w32 bytes n.0 n.1 })

tag_at-behind : (bytes : List ℕ) (x : Tag × List ℕ) → tag_at bytes ≡ Some x → Behind bytes x.1
unfolding tag_at
tag_at-behind bytes x e =
    let n = bind_some (varint_at bytes) (λ n. tag_of n.0 >>= λ tag. Some (tag, n.1)) x e in
    let t = bind_some (tag_of n.0.0) (λ tag. Some (tag, n.0.1)) x n.2 in
    let found : Tag × List ℕ = (t.0, n.0.1) in
    subst (λ (y : Tag × List ℕ). Behind bytes y.1) (some_is found x t.2) (varint_at-behind bytes n.0 n.1)

Lies-behind : (bytes middle : List ℕ) (payload : Payload) (rest : List ℕ) → Behind bytes middle → Leads middle payload rest → Lies bytes payload rest 0
Lies-behind bytes middle payload rest tag h =
    let behind : List ℕ = content payload ++ rest in
    let regrouped : (tag.front ++ h.before) ++ behind ≡ tag.front ++ (h.before ++ behind) = append_assoc tag.front h.before behind in
    record { before = tag.front ++ h.before; whole = tag.whole ∙ ap (λ (y : List ℕ). tag.front ++ y) h.whole ∙ sym regrouped; more = omega (arith, tag.some, length-append tag.front h.before) }

pub record_at-lies : (bytes : List ℕ) (r : Record) (rest : List ℕ) → record_at bytes ≡ Some (r, rest) → Lies bytes r.payload rest 0
unfolding record_at
record_at-lies bytes r rest e =
    let t = bind_some (tag_at bytes) (λ tag. payload_at tag.0.wire_type tag.1 >>= λ payload. Some (record { number = tag.0.number; payload = payload.0 }, payload.1)) (r, rest) e in
    let p = bind_some (payload_at t.0.0.wire_type t.0.1) (λ payload. Some (record { number = t.0.0.number; payload = payload.0 }, payload.1)) (r, rest) t.2 in
    let found : Record × List ℕ = (record { number = t.0.0.number; payload = p.0.0 }, p.0.1) in
    let tag = tag_at-behind bytes t.0 t.1 in
    let payload = payload_at-leads t.0.0.wire_type t.0.1 p.0 p.1 in
    subst (λ (y : Record × List ℕ). Lies bytes y.0.payload y.1 0) (some_is found (r, rest) p.2) (Lies-behind bytes t.0.1 p.0.0 p.0.1 tag payload)

-- a record behind the first bytes of a message
pub Lies-drop : (message : List ℕ) (at : ℕ) (payload : Payload) (rest : List ℕ) → at ≤ length message → Lies (drop at message) payload rest 0 → Lies message payload rest at
Lies-drop message at payload rest inside h =
    let whole : message ≡ (take at message ++ h.before) ++ (content payload ++ rest) = sym (take-append-drop at message) ∙ ap (λ (y : List ℕ). take at message ++ y) h.whole ∙ sym (append_assoc (take at message) h.before (content payload ++ rest)) in
    record { before = take at message ++ h.before; whole = whole; more = omega (arith, h.more, length-append (take at message) h.before, length-take-le at message inside) }

-- what the value of a payload is, which ends where the rest begins
pub record IsPlaced (message : List ℕ) (payload : Raw) (rest : List ℕ) (at : ℕ) : Type 0 where
  pub small : raw_size payload ≤ length message - length rest
  pub next : at + raw_size payload < length message - length rest
  pub ending : rest ≡ drop (length message - length rest) message
  pub says : payload_in message (value_at (payload_of payload) (length message - length rest)) ≡ payload_of payload
  pub within : IfSome (span_in (value_at (payload_of payload) (length message - length rest))) (λ s. s.start + s.len ≤ length message)
  pub size : size_in (value_at (payload_of payload) (length message - length rest)) ≡ raw_size payload

pub length-lies : (message : List ℕ) (payload : Payload) (rest : List ℕ) (at : ℕ) (h : Lies message payload rest at) → length message ≡ length h.before + (length (content payload) + length rest)
length-lies message payload rest at h = ap length h.whole ∙ length-append h.before (content payload ++ rest) ∙ ap (λ (n : ℕ). length h.before + n) (length-append (content payload) rest)

rest-lies : (message : List ℕ) (payload : Payload) (rest : List ℕ) (at : ℕ) → Lies message payload rest at → rest ≡ drop (length message - length rest) message
rest-lies message payload rest at h =
    let front : List ℕ = h.before ++ content payload in
    let whole : message ≡ front ++ rest = h.whole ∙ sym (append_assoc h.before (content payload) rest) in
    let gone : length message - length rest ≡ length front = omega (arith, length-lies message payload rest at h, length-append h.before (content payload)) in
    rw gone (sym (ap (drop (length front)) whole ∙ drop-append_seam front rest))

part-lies : (message bytes rest : List ℕ) (at : ℕ) → Lies message (Len bytes) rest at → part message (record { start = length message - length rest - length bytes; len = length bytes }) ≡ bytes
part-lies message bytes rest at h =
    let start : length message - length rest - length bytes ≡ length h.before = omega (arith, length-lies message (Len bytes) rest at h) in
    let behind : drop (length h.before) message ≡ bytes ++ rest = ap (drop (length h.before)) h.whole ∙ drop-append_seam h.before (bytes ++ rest) in
    rw (start, behind) (take-append_seam bytes rest)

pub Lies-placed : (message : List ℕ) (payload : Raw) (rest : List ℕ) (at : ℕ) → Lies message (payload_of payload) rest at → IsPlaced message payload rest at
Lies-placed message (raw.Varint n) rest at h =
    let size = length-lies message (Varint n) rest at h in
    record { small = omega arith; next = omega (arith, h.more); ending = rest-lies message (Varint n) rest at h; says = refl; within = tt; size = refl }
Lies-placed message (raw.Fixed64 n) rest at h =
    let size = length-lies message (Fixed64 n) rest at h in
    record { small = omega arith; next = omega (arith, h.more); ending = rest-lies message (Fixed64 n) rest at h; says = refl; within = tt; size = refl }
Lies-placed message (raw.Len bytes) rest at h =
    let size = length-lies message (Len bytes.now) rest at h in
    record { small = omega (arith, h.more); next = omega (arith, h.more); ending = rest-lies message (Len bytes.now) rest at h; says = ap Len (part-lies message bytes.now rest at h); within = omega (arith, h.more); size = refl }
Lies-placed message (raw.Fixed32 n) rest at h =
    let size = length-lies message (Fixed32 n) rest at h in
    record { small = omega arith; next = omega (arith, h.more); ending = rest-lies message (Fixed32 n) rest at h; says = refl; within = tt; size = refl }

-- the bytes from a place on, as the code names them
pub from_place : (message : List ℕ) (at : ℕ) → take (length message - at) (drop at message) ≡ drop at message
from_place message at = rw (← length-drop at message) (take-length (drop at message))

-- the whole of it, for a record that was read behind the first bytes of a message
pub record_at-placed : (message : List ℕ) (at number : ℕ) (payload : Raw) (rest : List ℕ) → at ≤ length message → record_at (take (length message - at) (drop at message)) ≡ Some (record { number = number; payload = payload_of payload }, rest) → IsPlaced message payload rest at
record_at-placed message at number payload rest inside e =
    let read : record_at (drop at message) ≡ Some (record { number = number; payload = payload_of payload }, rest) = rw from_place at e in
    Lies-placed message payload rest at (Lies-drop message at (payload_of payload) rest inside (record_at-lies (drop at message) (record { number = number; payload = payload_of payload }) rest read))

-- what is left behind a record is an end of the bytes
pub record_at-rest : (bytes : List ℕ) (r : Record) (rest : List ℕ) → record_at bytes ≡ Some (r, rest) → (rest ≡ drop (length bytes - length rest) bytes) × (length rest < length bytes)
record_at-rest bytes r rest e =
    let h = record_at-lies bytes r rest e in
    (rest-lies bytes r.payload rest 0 h, omega (arith, h.more, length-lies bytes r.payload rest 0 h))
