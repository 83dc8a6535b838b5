-- The frame that is read of a payload is the one that it spells, both ways.
use Rattle.std.proofs.Common.{◌≡◌, ℕ, ◌+◌, ◌-◌, ◌≤◌, Bool, true, false, List, ◌++◌, length, get_or, take, drop, None, refl, sym, ap, subst, ◌∙◌, arith}
use Rattle.std.proofs.lemmas.List.{length-append, length-take, length-drop, take_at, drop_at, take-append-drop, get_or-take, get_or_append_left}
use Rattle.h2_frames.specs.declared.kind.Kind.{Kind}
use Rattle.h2_frames.specs.declared.kind.Kind.TheVariants as kinds
use Rattle.h2_frames.specs.declared.header.Header.{Header}
use Rattle.h2_frames.specs.declared.frame.Frame.{Frame}
use Rattle.h2_frames.specs.declared.frame.Frame.TheVariants as frames
use Rattle.h2_frames.specs.Header.{has_flag, padded}
use Rattle.h2_frames.specs.Content.{pad_length_len, priority_len, front_len, padding_len, content_of}
use Rattle.h2_frames.specs.Fault.{fault_in}
use Rattle.h2_frames.specs.Frame.{frame_by, frame_of}
use Rattle.h2_frames.specs.Spelled.{Encloses, Means}
use Rattle.h2_frames.proofs.Accepted.{IsAccepted, accepted, data_fits, headers_fit, goaway_len}

-- ---- a payload in three parts

three_parts : (f p : ℕ) (payload : List ℕ) → f + p ≤ length payload → payload ≡ take f payload ++ (take (length payload - (f + p)) (drop f payload) ++ drop (length payload - (f + p)) (drop f payload))
three_parts f p payload fits =
    sym (take-append-drop f payload) ∙ ap (λ (xs : List ℕ). take f payload ++ xs) (sym (take-append-drop (length payload - (f + p)) (drop f payload)))

-- the pad length stands in the front
padding_len-take : (flags f : ℕ) (payload : List ℕ) → pad_length_len flags ≤ f → padding_len flags (take f payload) ≡ padding_len flags payload
padding_len-take flags f payload enough = by (has_flag flags padded) refl
  where
    by : (b : Bool) → has_flag flags padded ≡ b → padding_len flags (take f payload) ≡ padding_len flags payload
    by true e =
        let one : pad_length_len flags ≡ 1 = rw e refl in
        rw e (get_or-take f payload 0 0 (omega arith))
    by false e = rw e refl

enclosed : (flags fields : ℕ) (payload : List ℕ) → (pad_length_len flags + fields) + padding_len flags payload ≤ length payload
    → Encloses flags fields (take (length payload - ((pad_length_len flags + fields) + padding_len flags payload)) (drop (pad_length_len flags + fields) payload)) payload
enclosed flags fields payload fits =
    let f = pad_length_len flags + fields in
    let p = padding_len flags payload in
    record {
      front = take f payload;
      padding = drop (length payload - (f + p)) (drop f payload);
      parts = three_parts f p payload fits;
      front_len = omega (arith, length-take f payload);
      padding_len = rw (padding_len-take flags f payload (omega arith)) (omega (arith, length-drop (length payload - (f + p)) (drop f payload), length-drop f payload));
    }

-- the content, from its three parts
content_in : (f p : ℕ) (front content padding payload : List ℕ) → payload ≡ front ++ (content ++ padding) → length front ≡ f → length padding ≡ p
    → take (length payload - (f + p)) (drop f payload) ≡ content
content_in f p front content padding payload parts front_is padding_is =
    let after : drop f payload ≡ content ++ padding = rw parts (drop_at front (content ++ padding) f front_is) in
    let n : length payload - (f + p) ≡ length content = rw parts (omega (arith, length-append front (content ++ padding), length-append content padding)) in
    rw (after, n) (take_at content padding (length content) refl)

padding_len-front : (flags : ℕ) (front rest : List ℕ) → pad_length_len flags ≤ length front → padding_len flags (front ++ rest) ≡ padding_len flags front
padding_len-front flags front rest enough = by (has_flag flags padded) refl
  where
    by : (b : Bool) → has_flag flags padded ≡ b → padding_len flags (front ++ rest) ≡ padding_len flags front
    by true e =
        let one : pad_length_len flags ≡ 1 = rw e refl in
        rw e (get_or_append_left front rest 0 0 (omega arith))
    by false e = rw e refl

content_is : (flags fields : ℕ) (content payload : List ℕ) → Encloses flags fields content payload
    → take (length payload - ((pad_length_len flags + fields) + padding_len flags payload)) (drop (pad_length_len flags + fields) payload) ≡ content
content_is flags fields content payload h =
    let pad : padding_len flags payload ≡ padding_len flags h.front =
    ap (padding_len flags) h.parts ∙ padding_len-front flags h.front (content ++ h.padding) (omega (arith, h.front_len)) in
    content_in (pad_length_len flags + fields) (padding_len flags payload) h.front content h.padding payload h.parts h.front_len (h.padding_len ∙ sym pad)

-- ---- both ways, by the type

-- a header of the parts that a meaning looks at
abbrev header_by : (n : ℕ) (kind : Kind) (flags stream : ℕ) → Header
header_by n kind flags stream = record { length = n; kind = kind; flags = flags; stream = stream }

Means-by : (n : ℕ) (kind : Kind) (flags stream : ℕ) (payload : List ℕ) → IsAccepted kind flags stream payload → Means (header_by n kind flags stream) payload (frame_by kind flags stream payload)
Means-by n kinds.Data flags stream payload h =
    let fits = data_fits kinds.Data flags stream payload refl h in
    let none : pad_length_len flags + 0 ≡ pad_length_len flags = omega arith in
    let P : ℕ → Type 0 = λ f. Encloses flags 0 (take (length payload - (f + padding_len flags payload)) (drop f payload)) payload in
    (refl, refl, refl, refl, subst P none (enclosed flags 0 payload (omega arith)))
Means-by n kinds.Headers flags stream payload h =
    (refl, refl, refl, refl, enclosed flags (priority_len flags) payload (headers_fit kinds.Headers flags stream payload refl h))
Means-by n kinds.Priority flags stream payload h = (refl, refl)
Means-by n kinds.RstStream flags stream payload h = (refl, refl, refl)
Means-by n kinds.Settings flags stream payload h = (refl, refl, refl)
Means-by n kinds.PushPromise flags stream payload h = (refl, refl)
Means-by n kinds.Ping flags stream payload h = (refl, refl, refl)
Means-by n kinds.GoAway flags stream payload h =
    let long : 8 ≤ length payload = goaway_len kinds.GoAway flags stream payload refl h in
    let rest = drop 4 payload in
    let rest_len : 4 ≤ length rest = omega (arith, length-drop 4 payload) in (
      refl,
      (
        take 4 payload,
        take 4 rest,
        drop 4 rest,
        record {
          parts = sym (take-append-drop 4 payload) ∙ ap (λ (xs : List ℕ). take 4 payload ++ xs) (sym (take-append-drop 4 rest));
          last_len = omega (arith, length-take 4 payload);
          code_len = omega (arith, length-take 4 rest);
        },
        refl,
        refl,
      ),
    )
Means-by n kinds.WindowUpdate flags stream payload h = (refl, refl, refl)
Means-by n kinds.Continuation flags stream payload h = (refl, refl, refl, refl)
Means-by n (kinds.Unknown byte) flags stream payload h = (refl, refl)

pub Means-frame_of : (header : Header) (payload : List ℕ) → fault_in header payload ≡ None → Means header payload (frame_of header payload)
unfolding frame_of
Means-frame_of header payload sound = Means-by header.length header.kind header.flags header.stream payload (accepted header payload sound)

pub frame_of-means : (header : Header) (payload : List ℕ) (frame : Frame) → Means header payload frame → frame_of header payload ≡ frame
unfolding frame_of
frame_of-means header payload (frames.Body stream end bytes counted) h =
    let none : pad_length_len header.flags + 0 ≡ pad_length_len header.flags = omega arith in
    let content : content_of kinds.Data header.flags payload ≡ bytes =
    let P : ℕ → Type 0 = λ f. take (length payload - (f + padding_len header.flags payload)) (drop f payload) ≡ bytes in
    subst P none (content_is header.flags 0 bytes payload h.4) in
    rw (h.0, h.1, h.2, content, h.3) refl
frame_of-means header payload (frames.Headers stream end whole block) h =
    let content : content_of kinds.Headers header.flags payload ≡ block = content_is header.flags (priority_len header.flags) block payload h.4 in
    rw (h.0, h.1, h.2, h.3, content) refl
frame_of-means header payload (frames.Priority stream) h = rw (h.0, h.1) refl
frame_of-means header payload (frames.Reset stream code) h = rw (h.0, h.1, h.2) refl
frame_of-means header payload (frames.Settings acked pairs) h = rw (h.0, h.1, h.2) refl
frame_of-means header payload (frames.Push stream) h = rw (h.0, h.1) refl
frame_of-means header payload (frames.Ping acked octets) h = rw (h.0, h.1, h.2) refl
frame_of-means header payload (frames.Goaway last code) h =
    let g = h.1 in
    let first : take 4 payload ≡ g.0 = rw g.3.parts (take_at g.0 (g.1 ++ g.2) 4 g.3.last_len) in
    let second : take 4 (drop 4 payload) ≡ g.1 =
    rw g.3.parts (rw (drop_at g.0 (g.1 ++ g.2) 4 g.3.last_len) (take_at g.1 g.2 4 g.3.code_len)) in
    rw (h.0, first, second, g.4, g.5) refl
frame_of-means header payload (frames.Window stream add) h = rw (h.0, h.1, h.2) refl
frame_of-means header payload (frames.Continuation stream whole block) h = rw (h.0, h.1, h.2, h.3) refl
frame_of-means header payload (frames.Unknown kind stream) h = rw (h.0, h.1) refl
