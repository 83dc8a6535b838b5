-- What a reader's parts, the front and the payload, are together.
use Rattle.std.proofs.Common.{◌≡◌, ℕ, ◌+◌, ◌-◌, ◌≤◌, ◌<◌, Bool, true, false, List, [], ◌∷◌, ◌++◌, length, take, drop, Option, refl, sym, ap, ◌∙◌, append_assoc, arith}
use Rattle.std.specs.Prelude.{nat_lt, nat_eq}
use Rattle.std.specs.List.{starts_with}
use Rattle.std.proofs.lemmas.Bool.{le-ltb, lt-ltb}
use Rattle.std.proofs.lemmas.List.{append-nil, length-append, length-drop, take-append-le, drop-append-le, take_all, drop_at, drop_all}
use Rattle.h2_frames.specs.declared.header.Header.{Header}
use Rattle.h2_frames.specs.declared.fault.H2Fault.{H2Fault}
use Rattle.h2_frames.specs.declared.reader.Next.TheVariants as next
use Rattle.h2_frames.specs.Header.{header_of, header_len, max_frame_size}
use Rattle.h2_frames.specs.Fault.{fault, fault_in}
use Rattle.h2_frames.specs.Frame.{frame_of}
use Rattle.h2_frames.specs.Held.{Held, preface_len}
use Rattle.h2_frames.specs.Kept.{IsKept}
use Rattle.h2_frames.specs.Reading.{preface, preface_next, frame_next, payload_next, judged, next_of, held_with, frame_need, need_of}

-- a header is its first nine bytes
pub header_of-append : (front payload : List ℕ) → header_len ≤ length front → header_of (front ++ payload) ≡ header_of front
unfolding header_of
header_of-append front payload whole =
    let three : take 3 (front ++ payload) ≡ take 3 front = take-append-le 3 front payload (omega arith) in
    let at3 : take 1 (drop 3 (front ++ payload)) ≡ take 1 (drop 3 front) = ap (take 1) (drop-append-le 3 front payload (omega arith)) ∙ take-append-le 1 (drop 3 front) payload (omega (arith, length-drop 3 front)) in
    let at4 : take 1 (drop 4 (front ++ payload)) ≡ take 1 (drop 4 front) = ap (take 1) (drop-append-le 4 front payload (omega arith)) ∙ take-append-le 1 (drop 4 front) payload (omega (arith, length-drop 4 front)) in
    let at5 : take 4 (drop 5 (front ++ payload)) ≡ take 4 (drop 5 front) = ap (take 4) (drop-append-le 5 front payload (omega arith)) ∙ take-append-le 4 (drop 5 front) payload (omega (arith, length-drop 5 front)) in
    rw (three, at3, at4, at5) refl

-- nothing of a payload comes before its header
pub payload_nil : (started : Bool) (front payload : List ℕ) → IsKept started front payload → length front < header_len → payload ≡ []
payload_nil started front [] kept short = refl
payload_nil started front (b ∷ payload) kept short = absurd (omega (arith, kept.header_first (omega arith)))

-- nor before the preface
pub payload_nil-preface : (started : Bool) (front payload : List ℕ) → IsKept started front payload → started ≡ false → payload ≡ []
payload_nil-preface started front [] kept e = refl
payload_nil-preface started front (b ∷ payload) kept e = absurd (let t = kept.preface_first (omega arith) in cc)

abbrev pub holding : Bool → List ℕ → Held
holding started bytes = record { started = started; bytes = bytes }

abbrev pub held : Bool → List ℕ → List ℕ → Held
held started front payload = holding started (front ++ payload)

-- ---- what is missing

pub need-header : (started : Bool) (front payload : List ℕ) → IsKept started front payload → started ≡ true → length front < header_len → header_len - length front ≡ need_of (held started front payload)
unfolding frame_need
need-header started front payload kept e short =
    let t : nat_lt (length front) header_len ≡ true = lt-ltb _ _ short in
    rw (payload_nil started front payload kept short, append-nil, e, t) refl

pub need-payload : (started : Bool) (front payload : List ℕ) → IsKept started front payload → started ≡ true → header_len ≤ length front → (header_of front).length - length payload ≡ need_of (held started front payload)
unfolding frame_need
need-payload started front payload kept e whole =
    let t : nat_lt (length (front ++ payload)) header_len ≡ false = le-ltb _ _ (omega (arith, length-append front payload)) in
    rw (e, t, header_of-append front payload whole) (omega (arith, length-append front payload, kept.header_alone e))

-- ---- what the next answer is

pub next-preface : (started : Bool) (front payload : List ℕ) → IsKept started front payload → started ≡ false → preface_next front ≡ next_of (held started front payload)
next-preface started front payload kept e = rw (payload_nil-preface started front payload kept e, append-nil, e) refl

pub next-header : (started : Bool) (front payload : List ℕ) → IsKept started front payload → started ≡ true → length front < header_len → next.More ≡ next_of (held started front payload)
unfolding frame_next
next-header started front payload kept e short =
    let t : nat_lt (length front) header_len ≡ true = lt-ltb _ _ short in
    rw (payload_nil started front payload kept short, append-nil, e, t) refl

-- a whole header, and the payload behind it
pub next-payload : (started : Bool) (front payload : List ℕ) → IsKept started front payload → started ≡ true → header_len ≤ length front → payload_next (header_of front) payload ≡ next_of (held started front payload)
unfolding frame_next
next-payload started front payload kept e whole =
    let t : nat_lt (length (front ++ payload)) header_len ≡ false = le-ltb _ _ (omega (arith, length-append front payload)) in
    rw (e, t, header_of-append front payload whole, drop_at front payload header_len (omega (arith, kept.header_alone e))) refl

pub payload_next-large : (header : Header) (payload : List ℕ) → max_frame_size < header.length → next.Fault (fault 6 2) ≡ payload_next header payload
payload_next-large header payload large =
    let t : nat_lt max_frame_size header.length ≡ true = lt-ltb _ _ large in
    rw t refl

pub payload_next-short : (header : Header) (payload : List ℕ) → header.length ≤ max_frame_size → length payload < header.length → next.More ≡ payload_next header payload
payload_next-short header payload small short =
    let t : nat_lt max_frame_size header.length ≡ false = le-ltb _ _ small in
    let u : nat_lt (length payload) header.length ≡ true = lt-ltb _ _ short in
    rw (t, u) refl

pub payload_next-whole : (header : Header) (payload : List ℕ) (found : Option H2Fault) → header.length ≤ max_frame_size → length payload ≡ header.length → fault_in header payload ≡ found
    → judged found (frame_of header payload) ≡ payload_next header payload
payload_next-whole header payload found small whole e =
    let t : nat_lt max_frame_size header.length ≡ false = le-ltb _ _ small in
    let u : nat_lt (length payload) header.length ≡ false = le-ltb _ _ (omega arith) in
    rw (t, u, take_all header.length payload (omega arith), e) refl

-- the payload of a whole header is no longer than it says
pub payload_whole : (started : Bool) (front payload : List ℕ) → IsKept started front payload → started ≡ true → header_len ≤ length front → (header_of front).length ≤ length payload → length payload ≡ (header_of front).length
payload_whole started front payload kept e whole long =
    let nine : length front ≡ header_len = omega (arith, kept.header_alone e) in
    omega (arith, kept.one_frame e nine)

-- a whole frame is judged
pub next-judged : (started : Bool) (front payload : List ℕ) (header : Header) (found : Option H2Fault) → IsKept started front payload → started ≡ true → header_len ≤ length front
    → header ≡ header_of front → header.length ≤ max_frame_size → header.length ≤ length payload → fault_in header payload ≡ found
    → judged found (frame_of header payload) ≡ next_of (held started front payload)
next-judged started front payload header found kept e whole is small long fault =
    let all : length payload ≡ header.length = rw is (payload_whole started front payload kept e whole (rw (← is) long)) in
    payload_next-whole header payload found small all fault
    ∙ ap (λ (h : Header). payload_next h payload) is
    ∙ next-payload started front payload kept e whole

-- after a frame nothing is held
pub after-frame : (started : Bool) (front payload : List ℕ) (header : Header) (front' payload' : List ℕ) (value : Held) → IsKept started front payload → started ≡ true → header_len ≤ length front
    → header ≡ header_of front → header.length ≤ length payload → front' ≡ [] → payload' ≡ [] → held started front payload ≡ value
    → held started front' payload' ≡ record value { bytes = drop (header_len + (header_of value.bytes).length) value.bytes }
after-frame started front payload header front' payload' value kept e whole is long none nothing same =
    let all : length payload ≡ (header_of front).length = payload_whole started front payload kept e whole (rw (← is) long) in
    let gone : drop (header_len + (header_of (front ++ payload)).length) (front ++ payload) ≡ [] =
    rw (header_of-append front payload whole) (drop_all (header_len + (header_of front).length) (front ++ payload) (omega (arith, length-append front payload, kept.header_alone e))) in
    rw (none, nothing, ← same) (ap (holding started) (sym gone))

-- ---- what a piece changes

pub fed-payload : (started : Bool) (front payload payload' bytes : List ℕ) (value : Held) → started ≡ true → payload' ≡ payload ++ bytes → held started front payload ≡ value
    → held started front payload' ≡ held_with value bytes
fed-payload started front payload payload' bytes value e grown same =
    rw (← same, e, grown) (ap (holding true) (sym (append_assoc front payload bytes)))

pub fed-header : (started : Bool) (front payload front' bytes : List ℕ) (value : Held) → IsKept started front payload → started ≡ true → length front < header_len → front' ≡ front ++ bytes → held started front payload ≡ value
    → held started front' payload ≡ held_with value bytes
fed-header started front payload front' bytes value kept e short grown same =
    rw (← same, e, grown, payload_nil started front payload kept short) (ap (holding true) (append-nil (front ++ bytes) ∙ ap (λ (xs : List ℕ). xs ++ bytes) (sym (append-nil front))))

-- a preface that isn't whole yet, or is none
pub fed-preface : (started : Bool) (front payload front' bytes : List ℕ) (value : Held) → IsKept started front payload → started ≡ false → front' ≡ front ++ bytes → starts_with nat_eq front' preface ≡ false → held started front payload ≡ value
    → held started front' payload ≡ held_with value bytes
fed-preface started front payload front' bytes value kept e grown other same =
    let nothing = payload_nil-preface started front payload kept e in
    let not_whole : starts_with nat_eq (front ++ bytes) preface ≡ false = rw (← grown) other in
    rw (← same, e, grown, nothing, append-nil, append-nil, not_whole) refl

-- a whole preface
pub fed-start : (started : Bool) (front payload front' bytes none : List ℕ) (value : Held) → IsKept started front payload → started ≡ false → front' ≡ front ++ bytes → starts_with nat_eq front' preface ≡ true
    → length bytes ≤ need_of value → none ≡ [] → held started front payload ≡ value → held true none payload ≡ held_with value bytes
fed-start started front payload front' bytes none value kept e grown whole room empty same =
    let nothing = payload_nil-preface started front payload kept e in
    let is_whole : starts_with nat_eq (front ++ bytes) preface ≡ true = rw (← grown) whole in
    let value_is : value ≡ holding false front = sym same ∙ rw (e, nothing, append-nil) refl in
    let fits : length bytes ≤ preface_len - length front = rw value_is at room in
    let gone : drop preface_len (front ++ bytes) ≡ [] = drop_all preface_len (front ++ bytes) (omega (arith, length-append front bytes, kept.preface_alone e)) in
    rw (value_is, empty, nothing, is_whole) (ap (holding true) (sym gone))

pub need-held : (started : Bool) (front payload : List ℕ) (value : Held) → held started front payload ≡ value → need_of (held started front payload) ≡ need_of value
need-held started front payload value same = ap need_of same

-- the parts stay as they should be where a header grows
pub kept-header : (started : Bool) (front payload front' bytes : List ℕ) (value : Held) → IsKept started front payload → started ≡ true → length front < header_len → front' ≡ front ++ bytes → length bytes ≤ need_of value → held started front payload ≡ value
    → IsKept started front' payload
kept-header started front payload front' bytes value kept e short grown room same =
    let need : header_len - length front ≡ need_of value = need-header started front payload kept e short ∙ ap need_of same in
    let nothing = payload_nil started front payload kept short in
    let long : length front' ≤ header_len = rw grown (omega (arith, length-append front bytes)) in
    rw nothing (record {
      header_first = λ h. absurd (omega arith);
      preface_first = λ h. absurd (omega arith);
      preface_alone = λ f. absurd (let t : true ≡ false = sym e ∙ f in cc);
      header_alone = λ _. long;
      one_frame = λ _ _. omega arith;
    })

-- and where a payload grows
pub kept-payload : (started : Bool) (front payload payload' bytes : List ℕ) (value : Held) → IsKept started front payload → started ≡ true → header_len ≤ length front → payload' ≡ payload ++ bytes → length bytes ≤ need_of value → held started front payload ≡ value
    → IsKept started front payload'
kept-payload started front payload payload' bytes value kept e whole grown room same =
    let need : (header_of front).length - length payload ≡ need_of value = need-payload started front payload kept e whole ∙ ap need_of same in
    let nine : length front ≡ header_len = omega (arith, kept.header_alone e) in
    let small : length payload ≤ (header_of front).length = kept.one_frame e nine in
    record {
      header_first = λ _. nine;
      preface_first = λ _. e;
      preface_alone = λ f. absurd (let t : true ≡ false = sym e ∙ f in cc);
      header_alone = λ _. kept.header_alone e;
      one_frame = λ _ _. rw grown (omega (arith, length-append payload bytes));
    }
