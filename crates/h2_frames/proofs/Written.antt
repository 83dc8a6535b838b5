-- What is written of a frame is a spelling of it, which no rule refuses.
use Rattle.std.proofs.Common.{◌≡◌, ℕ, ◌+◌, ◌-◌, ◌*◌, ◌^◌, ◌%◌, ◌≤◌, ◌<◌, Bool, true, false, List, [], ◌∷◌, ◌++◌, length, None, refl, sym, arith}
use Rattle.std.specs.Prelude.{nat_lt, ◌==◌}
use Rattle.std.specs.List.{flat_map, AllByRecursion}
use Rattle.std.proofs.lemmas.Bool.{le-ltb, eq-eqb, ne_eqb}
use Rattle.std.proofs.lemmas.List.{append-nil}
use Rattle.wire_bytes.specs.Number.{number_of, bytes_of}
use Rattle.h2_frames.specs.declared.kind.Kind.{Kind}
use Rattle.h2_frames.specs.declared.kind.Kind.TheVariants as kinds
use Rattle.h2_frames.specs.declared.header.Header.{Header}
use Rattle.h2_frames.specs.declared.frame.Frame.{Frame}
use Rattle.h2_frames.specs.declared.frame.Frame.TheVariants as frames
use Rattle.h2_frames.specs.declared.pairs.Pair.{Pair}
use Rattle.h2_frames.specs.Header.{kind_of, header_of, max_frame_size, has_flag, end_stream, ack, end_headers, padded, priority, number31_of}
use Rattle.h2_frames.specs.Content.{pad_length_len, priority_len, padding_len}
use Rattle.h2_frames.specs.Fault.{breaks_stream, breaks_length, breaks_padding, breaks_push, fault_in}
use Rattle.h2_frames.specs.Frame.{pair_of, pairs_of}
use Rattle.h2_frames.specs.Sound.{IsStreamId, IsPairInRange, IsInRange}
use Rattle.h2_frames.specs.Spelling.{kind_byte, frame_bytes, flag_if, pair_bytes, default_priority, spelling, IsWritable}
use Rattle.h2_frames.specs.Spelled.{Encloses, Means, Spells, IsAllowed}

-- ---- numbers

number_of-two : (n : ℕ) → n < 2 ^ 16 → number_of (bytes_of 2 n) ≡ n
number_of-two n small = omega arith

number_of-three : (n : ℕ) → n < 2 ^ 24 → number_of (bytes_of 3 n) ≡ n
number_of-three n small = omega arith

number_of-four : (n : ℕ) → n < 2 ^ 32 → number_of (bytes_of 4 n) ≡ n
number_of-four n small = omega arith

number31_of-four : (n : ℕ) → n < 2 ^ 31 → number31_of (bytes_of 4 n) ≡ n
number31_of-four n small = rw (number_of-four n (omega arith)) (omega arith)

-- ---- a header and a payload

header_of-frame_bytes : (kind : Kind) (flags stream : ℕ) (payload : List ℕ) → kind_of (kind_byte kind) ≡ kind → stream < 2 ^ 31 → length payload < 2 ^ 24
    → header_of (frame_bytes kind flags stream payload) ≡ record { length = length payload; kind = kind; flags = flags; stream = stream }
unfolding header_of
header_of-frame_bytes kind flags stream payload known small size =
    let one : 256 * 0 + kind_byte kind ≡ kind_byte kind = omega arith in
    let two : 256 * 0 + flags ≡ flags = omega arith in
    rw (number_of-three (length payload) size, one, two, known, number31_of-four stream small) refl

unbroken : (header : Header) (payload : List ℕ) → breaks_stream header.kind header.stream ≡ false → breaks_length header.kind header.flags (length payload) ≡ false
    → breaks_padding header.kind header.flags payload ≡ false → breaks_push header.kind ≡ false → fault_in header payload ≡ None
unfolding fault_in
unbroken header payload a b c d = rw (a, b, c, d) refl

-- a frame of a type that is known, by its parts
record IsText (kind : Kind) (flags stream : ℕ) (payload : List ℕ) (frame : Frame) : Type 0 where
  known : kind_of (kind_byte kind) ≡ kind
  small : stream < 2 ^ 31
  size : length payload ≤ max_frame_size
  means : Means (record { length = length payload; kind = kind; flags = flags; stream = stream }) payload frame
  on_stream : breaks_stream kind stream ≡ false
  long : breaks_length kind flags (length payload) ≡ false
  pads : breaks_padding kind flags payload ≡ false
  asked : breaks_push kind ≡ false

is_spelled : (kind : Kind) (flags stream : ℕ) (payload : List ℕ) (frame : Frame) → IsText kind flags stream payload frame
    → Spells frame (frame_bytes kind flags stream payload) × IsAllowed (frame_bytes kind flags stream payload)
is_spelled kind flags stream payload frame t =
    let h = header_of-frame_bytes kind flags stream payload t.known t.small (omega (arith, t.size)) in (
      record { whole = rw h (omega arith); means = rw h t.means },
      record { small = rw h t.size; sound = rw h (unbroken (record { length = length payload; kind = kind; flags = flags; stream = stream }) payload t.on_stream t.long t.pads t.asked) },
    )

-- ---- the parts of a payload

-- content alone, where no flag says that other fields are there
alone : (flags fields : ℕ) (content : List ℕ) → has_flag flags padded ≡ false → fields ≡ 0 → Encloses flags fields content content
alone flags fields content none no_fields = record {
  front = [];
  padding = [];
  parts = sym (append-nil content);
  front_len = rw (none, no_fields) refl;
  padding_len = rw none refl;
}

room : (n flags : ℕ) → has_flag flags padded ≡ false → nat_lt n (pad_length_len flags) ≡ false
room n flags none = rw none (le-ltb n 0 (omega arith))

pair_of-bytes : (pair : Pair) → IsPairInRange pair → pair_of (pair_bytes pair) ≡ pair
pair_of-bytes pair fits = rw (number_of-two pair.id fits.id, number_of-four pair.value fits.value) refl

pairs_of-bytes : (pairs : List Pair) → AllByRecursion IsPairInRange pairs → pairs_of (flat_map pair_bytes pairs) ≡ pairs
pairs_of-bytes [] fits = refl
pairs_of-bytes (pair ∷ pairs) fits = rw (pair_of-bytes pair fits.0, pairs_of-bytes pairs fits.1) refl

pub length-pairs : (pairs : List Pair) → length (flat_map pair_bytes pairs) ≡ 6 * length pairs
length-pairs [] = refl
length-pairs (pair ∷ pairs) = omega (arith, length-pairs pairs)

on_id : (stream : ℕ) → IsStreamId stream → (stream == 0) ≡ false
on_id stream id = ne_eqb stream 0 (λ e. omega (arith, id.some))

unknown_kind : (byte : ℕ) → 10 ≤ byte → kind_of byte ≡ kinds.Unknown byte
unknown_kind byte large =
    let n0 = ne_eqb byte 0 (λ e. omega arith) in
    let n1 = ne_eqb byte 1 (λ e. omega arith) in
    let n2 = ne_eqb byte 2 (λ e. omega arith) in
    let n3 = ne_eqb byte 3 (λ e. omega arith) in
    let n4 = ne_eqb byte 4 (λ e. omega arith) in
    let n5 = ne_eqb byte 5 (λ e. omega arith) in
    let n6 = ne_eqb byte 6 (λ e. omega arith) in
    let n7 = ne_eqb byte 7 (λ e. omega arith) in
    let n8 = ne_eqb byte 8 (λ e. omega arith) in
    let n9 = ne_eqb byte 9 (λ e. omega arith) in
    rw (n0, n1, n2, n3, n4, n5, n6, n7, n8, n9) refl

-- ---- the flags of each type

end_flags : (end : Bool) → (has_flag (flag_if end end_stream) end_stream ≡ end) × (has_flag (flag_if end end_stream) padded ≡ false)
end_flags true = (refl, refl)
end_flags false = (refl, refl)

ack_flags : (acked : Bool) → has_flag (flag_if acked ack) ack ≡ acked
ack_flags true = refl
ack_flags false = refl

whole_flags : (whole : Bool) → has_flag (flag_if whole end_headers) end_headers ≡ whole
whole_flags true = refl
whole_flags false = refl

record AreHeadersFlags (end whole : Bool) (flags : ℕ) : Type 0 where
  ends : has_flag flags end_stream ≡ end
  wholes : has_flag flags end_headers ≡ whole
  pads : has_flag flags padded ≡ false
  weighs : has_flag flags priority ≡ false

headers_flags : (end whole : Bool) → AreHeadersFlags end whole (flag_if end end_stream + flag_if whole end_headers)
headers_flags true true = record { ends = refl; wholes = refl; pads = refl; weighs = refl }
headers_flags true false = record { ends = refl; wholes = refl; pads = refl; weighs = refl }
headers_flags false true = record { ends = refl; wholes = refl; pads = refl; weighs = refl }
headers_flags false false = record { ends = refl; wholes = refl; pads = refl; weighs = refl }

-- SETTINGS of six bytes a pair, and none where it acknowledges
settings_long : (acked : Bool) (n : ℕ) → n % 6 ≡ 0 → (acked ≡ true → n ≡ 0) → breaks_length kinds.Settings (flag_if acked ack) n ≡ false
settings_long true n whole none =
    let zero_is : (n == 0) ≡ true = eq-eqb n 0 (none refl) in
    let six : (n % 6 == 0) ≡ true = eq-eqb (n % 6) 0 whole in
    rw (six, zero_is) refl
settings_long false n whole none =
    let six : (n % 6 == 0) ≡ true = eq-eqb (n % 6) 0 whole in
    rw six refl

-- ---- each frame

is_text-data : (stream : ℕ) (end : Bool) (bytes : List ℕ) (counted : ℕ) → IsWritable (frames.Body stream end bytes counted) → IsText kinds.Data (flag_if end end_stream) stream bytes (frames.Body stream end bytes counted)
is_text-data stream end bytes counted w =
    let flags = flag_if end end_stream in
    let set = end_flags end in
    record {
      known = refl;
      small = w.0.0.small;
      size = omega (arith, w.0.2, w.1);
      means = (refl, refl, set.0, sym w.1, alone flags 0 bytes set.1 refl);
      on_stream = on_id stream w.0.0;
      long = room (length bytes) flags set.1;
      pads = let none : pad_length_len flags + padding_len flags bytes ≡ 0 = rw set.1 refl in rw none (le-ltb (length bytes) 0 (omega arith));
      asked = refl;
    }

is_text-headers : (stream : ℕ) (end whole : Bool) (block : List ℕ) → IsWritable (frames.Headers stream end whole block)
    → IsText kinds.Headers (flag_if end end_stream + flag_if whole end_headers) stream block (frames.Headers stream end whole block)
is_text-headers stream end whole block w =
    let flags = flag_if end end_stream + flag_if whole end_headers in
    let set = headers_flags end whole in
    let pad : pad_length_len flags ≡ 0 = rw set.pads refl in
    let weight : priority_len flags ≡ 0 = rw set.weighs refl in
    let behind : padding_len flags block ≡ 0 = rw set.pads refl in
    record {
      known = refl;
      small = w.0.0.small;
      size = w.0.1;
      means = (refl, refl, set.ends, set.wholes, alone flags (priority_len flags) block set.pads weight);
      on_stream = on_id stream w.0.0;
      long = le-ltb (length block) (pad_length_len flags + priority_len flags) (omega arith);
      pads = le-ltb (length block) ((pad_length_len flags + priority_len flags) + padding_len flags block) (omega arith);
      asked = refl;
    }

is_text-continuation : (stream : ℕ) (whole : Bool) (block : List ℕ) → IsWritable (frames.Continuation stream whole block)
    → IsText kinds.Continuation (flag_if whole end_headers) stream block (frames.Continuation stream whole block)
is_text-continuation stream whole block w = record {
  known = refl;
  small = w.0.0.small;
  size = w.0.1;
  means = (refl, refl, whole_flags whole, refl);
  on_stream = on_id stream w.0.0;
  long = refl;
  pads = refl;
  asked = refl;
}

is_text-settings : (acked : Bool) (pairs : List Pair) → IsWritable (frames.Settings acked pairs) → IsInRange (frames.Settings acked pairs)
    → IsText kinds.Settings (flag_if acked ack) 0 (flat_map pair_bytes pairs) (frames.Settings acked pairs)
is_text-settings acked pairs w range =
    let len = length-pairs pairs in
    record {
      known = refl;
      small = omega arith;
      size = omega (arith, len, w.0.0);
      means = (refl, ack_flags acked, pairs_of-bytes pairs range);
      on_stream = refl;
      long = settings_long acked (length (flat_map pair_bytes pairs)) (omega (arith, len)) (λ acknowledged. rw (w.0.1 acknowledged) refl);
      pads = refl;
      asked = refl;
    }

pub written : (frame : Frame) → IsWritable frame → IsInRange frame → Spells frame (spelling frame) × IsAllowed (spelling frame)
unfolding spelling
written (frames.Body stream end bytes counted) w range = is_spelled kinds.Data (flag_if end end_stream) stream bytes _ (is_text-data stream end bytes counted w)
written (frames.Headers stream end whole block) w range = is_spelled kinds.Headers (flag_if end end_stream + flag_if whole end_headers) stream block _ (is_text-headers stream end whole block w)
written (frames.Priority stream) w range = is_spelled kinds.Priority 0 stream default_priority _ (record {
  known = refl;
  small = w.0.small;
  size = omega arith;
  means = (refl, refl);
  on_stream = on_id stream w.0;
  long = refl;
  pads = refl;
  asked = refl;
})
written (frames.Reset stream code) w range = is_spelled kinds.RstStream 0 stream (bytes_of 4 code) _ (record {
  known = refl;
  small = w.0.small;
  size = omega arith;
  means = (refl, refl, number_of-four code range);
  on_stream = on_id stream w.0;
  long = refl;
  pads = refl;
  asked = refl;
})
written (frames.Settings acked pairs) w range = is_spelled kinds.Settings (flag_if acked ack) 0 (flat_map pair_bytes pairs) _ (is_text-settings acked pairs w range)
written (frames.Push stream) w range = absurd w.0
written (frames.Ping acked octets) w range = is_spelled kinds.Ping (flag_if acked ack) 0 octets _ (record {
  known = refl;
  small = omega arith;
  size = omega (arith, w.0);
  means = (refl, ack_flags acked, refl);
  on_stream = refl;
  long = rw w.0 refl;
  pads = refl;
  asked = refl;
})
written (frames.Goaway last code) w range = is_spelled kinds.GoAway 0 0 (bytes_of 4 last ++ bytes_of 4 code) _ (record {
  known = refl;
  small = omega arith;
  size = omega arith;
  means = (refl, (bytes_of 4 last, bytes_of 4 code, [], record { parts = refl; last_len = refl; code_len = refl }, number31_of-four last w.0, number_of-four code range));
  on_stream = refl;
  long = refl;
  pads = refl;
  asked = refl;
})
written (frames.Window stream add) w range = is_spelled kinds.WindowUpdate 0 stream (bytes_of 4 add) _ (record {
  known = refl;
  small = w.0.0;
  size = omega arith;
  means = (refl, refl, number31_of-four add w.0.1);
  on_stream = refl;
  long = refl;
  pads = refl;
  asked = refl;
})
written (frames.Continuation stream whole block) w range = is_spelled kinds.Continuation (flag_if whole end_headers) stream block _ (is_text-continuation stream whole block w)
written (frames.Unknown kind stream) w range = is_spelled (kinds.Unknown kind) 0 stream [] _ (record {
  known = unknown_kind kind w.0.0;
  small = w.0.1;
  size = omega arith;
  means = (refl, refl);
  on_stream = refl;
  long = refl;
  pads = refl;
  asked = refl;
})
