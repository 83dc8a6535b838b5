-- Frames that a connection allows one behind the other: requests on rising ids, each with its DATA behind it.
use Rattle.std.proofs.Common.{◌≡◌, ℕ, ◌<◌, ◌≤◌, ◌^◌, ◌%◌, ◌==◌, Bool, true, false, not, ◌&&◌, List, [], ◌∷◌, ◌++◌, length, map, refl, ap, arith}
use Rattle.std.specs.List.{flat_map, AllByRecursion}
use Rattle.std.proofs.lemmas.Bool.Decides.{nat_tests}
use Rattle.h2_frames.specs.Header.{max_frame_size}
use Rattle.h2_frames.specs.Framing.{AreFrames}
use Rattle.h2_frames.specs.Sound.{IsStreamId, IsInRange}
use Rattle.h2_frames.specs.Spelling.{spelling, IsWritable}
use Rattle.h2_frames.specs.declared.frame.Frame.{Frame}
use Rattle.h2_frames.specs.declared.frame.Frame.TheVariants as frames
use Rattle.h2_frames.proofs.Written.{written}
use Rattle.grpc_meta.specs.declared.methods.Method.{Method}
use Rattle.client_calls.specs.Request.{IsRequest}
use Rattle.client_calls.specs.Frames.{data_of, end_frames}
use Rattle.client_calls.specs.Given.{IsPayload}

-- an id that a client begins behind this one
pub record IsNext (last id : ℕ) : Type 0 where
  pub above : last < id
  pub odd : (id % 2 == 0) ≡ false
  pub small : id < 2 ^ 31

pub record IsAsked (last id : ℕ) (block : List ℕ) : Type 0 where
  pub next : IsNext last id
  pub short : length block ≤ max_frame_size
  pub m : Method
  pub request : IsRequest m block

-- DATA on a stream, without padding; they are empty only where they end it
pub record IsData (id stream : ℕ) (end : Bool) (payload : List ℕ) (counted : ℕ) : Type 0 where
  pub same : stream ≡ id
  pub odd : (stream % 2 == 0) ≡ false
  pub is_id : IsStreamId stream
  pub some : (counted == 0 && not end) ≡ false
  pub exact : counted ≡ length payload
  pub short : length payload ≤ max_frame_size

abbrev pub IsDataOn : ℕ → Frame → Type 0
IsDataOn id (frames.Body stream end payload counted) = IsData id stream end payload counted
IsDataOn id _ = ⊥

-- behind a request on the id `last`
abbrev pub Goes : (last : ℕ) → List Frame → Type 0
Goes last [] = Unit {0}
Goes last (frames.Headers id false true block ∷ sent) = IsAsked last id block × Goes id sent
Goes last (frames.Body stream end payload counted ∷ sent) = IsData last stream end payload counted × Goes last sent
Goes last (_ ∷ sent) = ⊥

-- ---- DATA

pub goes-data : (id : ℕ) (own others : List Frame) → AllByRecursion (IsDataOn id) own → Goes id others → Goes id (own ++ others)
goes-data id [] others each go = go
goes-data id (frames.Body stream end payload counted ∷ own) others each go = (each.0, goes-data id own others each.1 go)
goes-data id (frames.Headers stream end whole block ∷ own) others each go = absurd each.0
goes-data id (frames.Priority stream ∷ own) others each go = absurd each.0
goes-data id (frames.Reset stream code ∷ own) others each go = absurd each.0
goes-data id (frames.Settings acked pairs ∷ own) others each go = absurd each.0
goes-data id (frames.Push stream ∷ own) others each go = absurd each.0
goes-data id (frames.Ping acked octets ∷ own) others each go = absurd each.0
goes-data id (frames.Goaway last code ∷ own) others each go = absurd each.0
goes-data id (frames.Window stream add ∷ own) others each go = absurd each.0
goes-data id (frames.Continuation stream whole block ∷ own) others each go = absurd each.0
goes-data id (frames.Unknown kind stream ∷ own) others each go = absurd each.0

pub all-more : {X : Type 0} (P : X → Type 0) (xs ys : List X) → AllByRecursion P xs → AllByRecursion P ys → AllByRecursion P (xs ++ ys)
all-more P [] ys a b = b
all-more P (x ∷ xs) ys a b = (a.0, all-more P xs ys a.1 b)

not-zero : (n : ℕ) → 0 < n → (n == 0) ≡ false
not-zero n some = grind (arith, nat_tests)

module _ (id : ℕ) (odd : (id % 2 == 0) ≡ false) (is_id : IsStreamId id) where
  one-data : (payload : List ℕ) → IsPayload payload → IsDataOn id (data_of id payload)
  one-data [] is = absurd (omega (arith, is.0))
  one-data (b ∷ payload) is = record { same = refl; odd = odd; is_id = is_id; some = ap (λ empty. empty && true) (not-zero (length (b ∷ payload)) is.0); exact = refl; short = is.1 }

  pub all-data : (payloads : List (List ℕ)) → AllByRecursion IsPayload payloads → AllByRecursion (IsDataOn id) (map (data_of id) payloads)
  all-data [] each = tt
  all-data (payload ∷ payloads) each = (one-data payload each.0, all-data payloads each.1)

  pub end-data : (end : Bool) → AllByRecursion (IsDataOn id) (end_frames id end)
  end-data true = (record { same = refl; odd = odd; is_id = is_id; some = refl; exact = refl; short = omega arith }, tt)
  end-data false = tt

-- ---- their bytes

abbrev pub IsSendable : Frame → Type 0
IsSendable frame = IsWritable frame × IsInRange frame

-- frames that can be written are read again
pub are-frames : (sent : List Frame) → AllByRecursion IsSendable sent → AreFrames sent (flat_map spelling sent) []
are-frames [] each = refl
are-frames (frame ∷ sent) each =
    let w = written frame each.0.0 each.0.1 in
    (spelling frame, flat_map spelling sent, refl, w.0, w.1, are-frames sent each.1)

-- what goes can be written
pub goes-writable : (last : ℕ) (sent : List Frame) → Goes last sent → AllByRecursion IsSendable sent
goes-writable last [] go = tt
goes-writable last (frames.Headers id false true block ∷ sent) go =
    let next = go.0.next in
    (((((record { some = omega (arith, next.above); small = next.small }), go.0.short), tt), tt), goes-writable id sent go.1)
goes-writable last (frames.Headers id true whole block ∷ sent) go = absurd go
goes-writable last (frames.Headers id false false block ∷ sent) go = absurd go
goes-writable last (frames.Body stream end payload counted ∷ sent) go =
    let d = go.0 in
    ((((d.is_id, omega (arith, d.exact), omega (arith, d.exact, d.short)), d.exact), tt), goes-writable last sent go.1)
goes-writable last (frames.Priority stream ∷ sent) go = absurd go
goes-writable last (frames.Reset stream code ∷ sent) go = absurd go
goes-writable last (frames.Settings acked pairs ∷ sent) go = absurd go
goes-writable last (frames.Push stream ∷ sent) go = absurd go
goes-writable last (frames.Ping acked octets ∷ sent) go = absurd go
goes-writable last (frames.Goaway id code ∷ sent) go = absurd go
goes-writable last (frames.Window stream add ∷ sent) go = absurd go
goes-writable last (frames.Continuation stream whole block ∷ sent) go = absurd go
goes-writable last (frames.Unknown kind stream ∷ sent) go = absurd go
