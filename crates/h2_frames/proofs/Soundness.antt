-- What holds of each frame that is read.
use Rattle.std.proofs.Common.{◌≡◌, ℕ, ◌+◌, ◌-◌, ◌*◌, ◌^◌, ◌%◌, ◌≤◌, ◌<◌, Bool, true, false, cond, List, [], ◌∷◌, ◌++◌, length, take, drop, refl, sym, subst, ◌∙◌, arith}
use Rattle.std.specs.Prelude.{not, ◌==◌, ◌||◌, ◌&&◌}
use Rattle.std.proofs.lemmas.Bool.{eqb-true, eqb-false, not-false}
use Rattle.std.proofs.lemmas.Nat.{mod_below}
use Rattle.std.proofs.lemmas.List.{length-append, length-drop, nil_from_length}
use Rattle.wire_bytes.specs.Number.{number_of}
use Rattle.h2_frames.specs.declared.kind.Kind.{Kind}
use Rattle.h2_frames.specs.declared.kind.Kind.TheVariants as kinds
use Rattle.h2_frames.specs.declared.header.Header.{Header}
use Rattle.h2_frames.specs.declared.frame.Frame.{Frame}
use Rattle.h2_frames.specs.declared.frame.Frame.TheVariants as frames
use Rattle.h2_frames.specs.Header.{kind_of, header_of, header_len, max_frame_size, has_flag, ack, padded, number31_of}
use Rattle.h2_frames.specs.Content.{pad_length_len, priority_len, padding_len}
use Rattle.h2_frames.specs.Fault.{breaks_length}
use Rattle.h2_frames.specs.Frame.{pairs_of}
use Rattle.h2_frames.specs.Sound.{IsStreamId, IsFrame, IsUnpadded}
use Rattle.h2_frames.specs.Spelling.{IsWritable}
use Rattle.h2_frames.specs.Spelled.{Encloses, Means, Spells, IsAllowed}
use Rattle.h2_frames.proofs.Accepted.{IsAccepted, accepted}

-- ---- an unknown type

abbrev IsKnown : Kind → Type 0
IsKnown (kinds.Unknown byte) = ⊥
IsKnown _ = Unit {0}

-- a test for a type that is known
not_this : (b : Bool) (this others : Kind) (byte : ℕ) → IsKnown this → cond b this others ≡ kinds.Unknown byte → (b ≡ false) × (others ≡ kinds.Unknown byte)
not_this false this others byte k e = (refl, e)
not_this true this others byte k e = absurd (subst IsKnown e k)

unknown_from : (n byte : ℕ) → kind_of n ≡ kinds.Unknown byte → 10 ≤ byte
unknown_from n byte e =
    let a0 = not_this (n == 0) kinds.Data _ byte tt e in
    let a1 = not_this (n == 1) kinds.Headers _ byte tt a0.1 in
    let a2 = not_this (n == 2) kinds.Priority _ byte tt a1.1 in
    let a3 = not_this (n == 3) kinds.RstStream _ byte tt a2.1 in
    let a4 = not_this (n == 4) kinds.Settings _ byte tt a3.1 in
    let a5 = not_this (n == 5) kinds.PushPromise _ byte tt a4.1 in
    let a6 = not_this (n == 6) kinds.Ping _ byte tt a5.1 in
    let a7 = not_this (n == 7) kinds.GoAway _ byte tt a6.1 in
    let a8 = not_this (n == 8) kinds.WindowUpdate _ byte tt a7.1 in
    let a9 = not_this (n == 9) kinds.Continuation (kinds.Unknown n) byte tt a8.1 in
    let same : n ≡ byte = let f = a9.1 in cc in
    let n0 = eqb-false n 0 a0.0 in
    let n1 = eqb-false n 1 a1.0 in
    let n2 = eqb-false n 2 a2.0 in
    let n3 = eqb-false n 3 a3.0 in
    let n4 = eqb-false n 4 a4.0 in
    let n5 = eqb-false n 5 a5.0 in
    let n6 = eqb-false n 6 a6.0 in
    let n7 = eqb-false n 7 a7.0 in
    let n8 = eqb-false n 8 a8.0 in
    let n9 = eqb-false n 9 a9.0 in
    omega arith

-- ---- the parts of a frame

stream_id : (stream : ℕ) → (stream == 0) ≡ false → stream < 2 ^ 31 → IsStreamId stream
stream_id stream some small = let not_zero = eqb-false stream 0 some in record { some = omega arith; small = small }

content_small : (flags fields : ℕ) (content payload : List ℕ) → Encloses flags fields content payload → length content ≤ length payload
content_small flags fields content payload h =
    rw h.parts (omega (arith, length-append h.front (content ++ h.padding), length-append content h.padding))

-- six bytes for each pair
pairs_small : (bytes : List ℕ) → 6 * length (pairs_of bytes) ≤ length bytes
pairs_small (a ∷ b ∷ c ∷ d ∷ e ∷ f ∷ bytes) = omega (arith, pairs_small bytes)
pairs_small [] = omega arith
pairs_small (a ∷ []) = omega arith
pairs_small (a ∷ b ∷ []) = omega arith
pairs_small (a ∷ b ∷ c ∷ []) = omega arith
pairs_small (a ∷ b ∷ c ∷ d ∷ []) = omega arith
pairs_small (a ∷ b ∷ c ∷ d ∷ e ∷ []) = omega arith

or_parts : (x y : Bool) → (x || y) ≡ false → (x ≡ false) × (y ≡ false)
or_parts false y e = (refl, e)
or_parts true y e = absurd cc

-- an acknowledgement has no pairs
acked_pairs : (flags n : ℕ) → breaks_length kinds.Settings flags n ≡ false → has_flag flags ack ≡ true → n ≡ 0
acked_pairs flags n h acked =
    let second : (has_flag flags ack && not (n == 0)) ≡ false = (or_parts (not (n % 6 == 0)) (has_flag flags ack && not (n == 0)) h).1 in
    let tested : not (n == 0) ≡ false = rw acked at second in
    eqb-true n 0 (not-false _ tested)

number31_small : (bytes : List ℕ) → number31_of bytes < 2 ^ 31
number31_small bytes = mod_below (number_of bytes) (2 ^ 31) (omega arith)

-- what a header and an accepted payload say of their frame
holds : (header : Header) (payload : List ℕ) (frame : Frame) (byte : ℕ) → Means header payload frame → IsAccepted header.kind header.flags header.stream payload
    → header.kind ≡ kind_of byte → header.stream < 2 ^ 31 → length payload ≤ max_frame_size → IsFrame frame
holds header payload (frames.Body stream end bytes counted) byte h k kind small size =
    let on : IsAccepted kinds.Data header.flags header.stream payload = rw (← h.0) k in
    (rw (← h.1) (stream_id header.stream on.on_stream small), rw (← h.3) (content_small header.flags 0 bytes payload h.4), rw (← h.3) size)
holds header payload (frames.Headers stream end whole block) byte h k kind small size =
    let on : IsAccepted kinds.Headers header.flags header.stream payload = rw (← h.0) k in
    let less = content_small header.flags (priority_len header.flags) block payload h.4 in
    (rw (← h.1) (stream_id header.stream on.on_stream small), omega arith)
holds header payload (frames.Priority stream) byte h k kind small size =
    let on : IsAccepted kinds.Priority header.flags header.stream payload = rw (← h.0) k in
    rw (← h.1) (stream_id header.stream on.on_stream small)
holds header payload (frames.Reset stream code) byte h k kind small size =
    let on : IsAccepted kinds.RstStream header.flags header.stream payload = rw (← h.0) k in
    rw (← h.1) (stream_id header.stream on.on_stream small)
holds header payload (frames.Settings acked pairs) byte h k kind small size =
    let on : IsAccepted kinds.Settings header.flags header.stream payload = rw (← h.0) k in
    let less : 6 * length pairs ≤ max_frame_size = rw (← h.2) (omega (arith, pairs_small payload)) in (
      less,
      λ acknowledged.
          let none : length payload ≡ 0 = acked_pairs header.flags (length payload) on.long (h.1 ∙ acknowledged) in
          rw (← h.2, nil_from_length payload none) refl,
    )
holds header payload (frames.Push stream) byte h k kind small size =
    let on : IsAccepted kinds.PushPromise header.flags header.stream payload = rw (← h.0) k in
    let f = on.asked in cc
holds header payload (frames.Ping acked octets) byte h k kind small size =
    let on : IsAccepted kinds.Ping header.flags header.stream payload = rw (← h.0) k in
    rw (← h.2) (eqb-true _ _ (not-false _ on.long))
holds header payload (frames.Goaway last code) byte h k kind small size = rw (← h.1.4) (number31_small h.1.0)
holds header payload (frames.Window stream add) byte h k kind small size = (rw (← h.1) small, rw (← h.2) (number31_small payload))
holds header payload (frames.Continuation stream whole block) byte h k kind small size =
    let on : IsAccepted kinds.Continuation header.flags header.stream payload = rw (← h.0) k in
    (rw (← h.1) (stream_id header.stream on.on_stream small), rw (← h.3) size)
holds header payload (frames.Unknown kind_byte stream) byte h k kind small size =
    (unknown_from byte kind_byte (sym kind ∙ h.0), rw (← h.1) small)

-- ---- of a text

stream_small : (bytes : List ℕ) → (header_of bytes).stream < 2 ^ 31
unfolding header_of
stream_small bytes = number31_small (take 4 (drop 5 bytes))

kind_is : (bytes : List ℕ) → (header_of bytes).kind ≡ kind_of (number_of (take 1 (drop 3 bytes)))
unfolding header_of
kind_is bytes = refl

pub IsFrame-spelled : (frame : Frame) (text : List ℕ) → Spells frame text → IsAllowed text → IsFrame frame
IsFrame-spelled frame text spelled allowed =
    let size : length (drop header_len text) ≤ max_frame_size = omega (arith, spelled.whole, allowed.small, length-drop header_len text) in
    holds (header_of text) (drop header_len text) frame (number_of (take 1 (drop 3 text))) spelled.means (accepted (header_of text) (drop header_len text) allowed.sound) (kind_is text) (stream_small text) size

-- a text without the flag spells a frame without padding
unpadded_content : (flags : ℕ) (content payload : List ℕ) → has_flag flags padded ≡ false → Encloses flags 0 content payload → length payload ≡ length content
unpadded_content flags content payload none h =
    let front : pad_length_len flags ≡ 0 = rw none refl in
    let behind : padding_len flags h.front ≡ 0 = rw none refl in
    rw h.parts (omega (arith, h.front_len, h.padding_len, length-append h.front (content ++ h.padding), length-append content h.padding))

IsUnpadded-means : (header : Header) (payload : List ℕ) (frame : Frame) → Means header payload frame → has_flag header.flags padded ≡ false → IsUnpadded frame
IsUnpadded-means header payload (frames.Body stream end bytes counted) h none = sym h.3 ∙ unpadded_content header.flags bytes payload none h.4
IsUnpadded-means header payload (frames.Headers stream end whole block) h none = tt
IsUnpadded-means header payload (frames.Priority stream) h none = tt
IsUnpadded-means header payload (frames.Reset stream code) h none = tt
IsUnpadded-means header payload (frames.Settings acked pairs) h none = tt
IsUnpadded-means header payload (frames.Push stream) h none = tt
IsUnpadded-means header payload (frames.Ping acked octets) h none = tt
IsUnpadded-means header payload (frames.Goaway last code) h none = tt
IsUnpadded-means header payload (frames.Window stream add) h none = tt
IsUnpadded-means header payload (frames.Continuation stream whole block) h none = tt
IsUnpadded-means header payload (frames.Unknown kind stream) h none = tt

pub IsWritable-spelled : (frame : Frame) (text : List ℕ) → Spells frame text → IsAllowed text → has_flag (header_of text).flags padded ≡ false → IsWritable frame
IsWritable-spelled frame text spelled allowed none =
    (IsFrame-spelled frame text spelled allowed, IsUnpadded-means (header_of text) (drop header_len text) frame spelled.means none)
