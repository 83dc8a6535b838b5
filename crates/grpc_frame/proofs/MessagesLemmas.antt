-- A body has one reading.
use Rattle.std.proofs.Common.{zero, suc, get_or, ◌≡◌, ◌≢◌, ◌≤◌, ◌<◌, ◌+◌, ◌-◌, ◌^◌, ℕ, List, [], ◌∷◌, ◌++◌, length, take, drop, subst, length-take, length-drop, refl, sym, ap, ◌∙◌, arith}
use Rattle.std.proofs.lemmas.Grind.{common_steps}
use Rattle.std.proofs.lemmas.List.{append_cancel_left, get_or-append-add}
use Rattle.std.proofs.Math.Seq.{take-length}
use Rattle.std.specs.List.{AllByRecursion}
use Rattle.std.proofs.lemmas.Nat.{from_be_bytes-to_be_bytes_4}
use Rattle.std.specs.Int.{w32, from_be_bytes, to_be_bytes}
use Rattle.grpc_frame.specs.declared.part.Part.TheVariants.{Message, More, Compressed, TooLong}
use Rattle.grpc_frame.specs.declared.part.Part.{Part}
use Rattle.grpc_frame.proofs.PartLemmas.{Spelled, part_of-message}
use Rattle.grpc_frame.specs.declared.front.Front.TheVariants.{Whole}
use Rattle.grpc_frame.specs.Front.{IsSpelled}
use Rattle.grpc_frame.specs.Frame.{prefix_of, frame, framed}
use Rattle.grpc_frame.specs.Part.{part_of, part_behind_length}
use Rattle.grpc_frame.specs.Messages.{Messages, IsMessage, IsWithin, IsInside}

-- a message within the limit is read back from its spelling
pub part_of-frame : (limit : ℕ) (message rest : List ℕ) → limit < 2 ^ 32 → length message ≤ limit → part_of limit (frame message ++ rest) ≡ Message message
unfolding part_of frame prefix_of
part_of-frame limit message rest small within =
    let back : from_be_bytes w32 (to_be_bytes w32 (length message)) ≡ length message =
    from_be_bytes-to_be_bytes_4 (length message) (omega arith)
    in
    ap (λ len. part_behind_length limit len (message ++ rest)) back ∙ behind limit message rest within where
      behind : (limit : ℕ) (message rest : List ℕ) → length message ≤ limit → part_behind_length limit (length message) (message ++ rest) ≡ Message message
      behind limit message rest within = grind (arith, common_steps)

-- a body that begins with a message has no list of messages that is empty
begins : (limit : ℕ) (message rest body : List ℕ) → limit < 2 ^ 32 → length message ≤ limit → body ≡ frame message ++ rest → (IsMessage (part_of limit body) → ⊥) → ⊥
begins limit message rest body small within is ends =
    ends (rw (is, part_of-frame limit message rest small within) tt)

message_is : (m n : List ℕ) → Message m ≡ Message n → m ≡ n
message_is m n same = cc

frame-left : (m n rest behind : List ℕ) → m ≡ n → frame m ++ rest ≡ frame n ++ behind → rest ≡ behind
frame-left m n rest behind same is = append_cancel_left (frame m) rest behind (is ∙ ap (λ l. frame l ++ behind) (sym same))

-- one message more before them
pub framed-cons : (message : List ℕ) (messages : List (List ℕ)) (rest : List ℕ) → framed (message ∷ messages) ++ rest ≡ frame message ++ (framed messages ++ rest)
framed-cons message messages rest = grind (arith, common_steps)

same_messages : (limit : ℕ) (a b : List (List ℕ)) (x y : List ℕ) → limit < 2 ^ 32 → AllByRecursion (IsWithin limit) a → AllByRecursion (IsWithin limit) b → (IsMessage (part_of limit x) → ⊥) → (IsMessage (part_of limit y) → ⊥) → framed a ++ x ≡ framed b ++ y → (a ≡ b) × (x ≡ y)
same_messages limit [] [] x y small each_a each_b ends_x ends_y is = (refl, is)
same_messages limit [] (n ∷ b) x y small each_a each_b ends_x ends_y is =
    absurd (begins limit n (framed b ++ y) x small each_b.0 (is ∙ framed-cons n b y) ends_x)
same_messages limit (m ∷ a) [] x y small each_a each_b ends_x ends_y is =
    absurd (begins limit m (framed a ++ x) y small each_a.0 (sym is ∙ framed-cons m a x) ends_y)
same_messages limit (m ∷ a) (n ∷ b) x y small each_a each_b ends_x ends_y is =
    let joined : frame m ++ (framed a ++ x) ≡ frame n ++ (framed b ++ y) = sym (framed-cons m a x) ∙ is ∙ framed-cons n b y in
    let first : m ≡ n = message_is m n (sym (part_of-frame limit m (framed a ++ x) small each_a.0) ∙ ap (part_of limit) joined ∙ part_of-frame limit n (framed b ++ y) small each_b.0) in
    let others : (a ≡ b) × (x ≡ y) = same_messages limit a b x y small each_a.1 each_b.1 ends_x ends_y (frame-left m n _ _ first joined) in
    (rw (first, others.0) refl, others.1)

pub Messages-unique : (limit : ℕ) (body : List ℕ) (a b : List (List ℕ)) (x y : List ℕ) → limit < 2 ^ 32 → Messages limit body a x → Messages limit body b y → (a ≡ b) × (x ≡ y)
Messages-unique limit body a b x y small p q =
    same_messages limit a b x y small p.each q.each p.ends q.ends (sym p.whole ∙ q.whole)

within-more : (limit : ℕ) (messages : List (List ℕ)) (message : List ℕ) → AllByRecursion (IsWithin limit) messages → length message ≤ limit → AllByRecursion (IsWithin limit) (messages ++ message ∷ [])
within-more limit [] message each within = (within, tt)
within-more limit (m ∷ messages) message each within = (each.0, within-more limit messages message each.1 within)

-- one message more behind them
pub framed-snoc : (messages : List (List ℕ)) (message rest : List ℕ) → framed (messages ++ message ∷ []) ++ rest ≡ framed messages ++ (frame message ++ rest)
framed-snoc messages message rest = grind (arith, common_steps)

-- whole messages stand before a rest
abbrev pub Begins : ℕ → List ℕ → List ℕ → Type 0
Begins limit body rest = (messages : List (List ℕ)) × (body ≡ framed messages ++ rest) × AllByRecursion (IsWithin limit) messages

-- one message more
pub Begins-more : (limit len : ℕ) (body rest : List ℕ) → Begins limit body rest → IsSpelled limit rest (Whole len) → Begins limit body (take (length rest - (5 + len)) (drop (5 + len) rest))
Begins-more limit len body rest before spelled =
    let message : List ℕ = take len (drop 5 rest) in
    let within : length message ≤ limit = omega (arith, length-take len (drop 5 rest), spelled.0) in
    let behind : take (length rest - (5 + len)) (drop (5 + len) rest) ≡ drop (5 + len) rest =
    ap (λ n. take n (drop (5 + len) rest)) (sym (length-drop (5 + len) rest)) ∙ take-length (drop (5 + len) rest)
    in
    let joined : body ≡ framed (before.0 ++ message ∷ []) ++ drop (5 + len) rest =
    before.1 ∙ ap (λ l. framed before.0 ++ l) spelled.2 ∙ sym (framed-snoc before.0 message (drop (5 + len) rest))
    in
    (before.0 ++ message ∷ [], rw behind joined, within-more limit before.0 message before.2 within)

pub IsInside-is : (limit : ℕ) (bytes rest : List ℕ) → limit < 2 ^ 32 → ((messages : List (List ℕ)) × Messages limit bytes messages rest) → IsInside limit bytes → (rest ≢ []) × (part_of limit rest ≡ More)
IsInside-is limit bytes rest small read inside =
    let same : inside.1 ≡ rest = (Messages-unique limit bytes inside.0 read.0 inside.1 rest small inside.2 read.1).1 in
    (λ none. inside.3 (same ∙ none), ap (part_of limit) (sym same) ∙ inside.4)

pub length-frame : (message rest : List ℕ) → length (frame message ++ rest) ≡ 5 + length message + length rest
unfolding frame prefix_of
length-frame message rest = grind (arith, common_steps)

-- a body that begins with no message
nothing_read : (limit : ℕ) (body : List ℕ) → (IsMessage (part_of limit body) → ⊥) → Messages limit body [] body
nothing_read limit body none = record { whole = refl; each = tt; ends = none }

-- every body of bytes has a reading, found by its length
abbrev pub Read : ℕ → List ℕ → Type 0
Read limit body = (messages : List (List ℕ)) × (rest : List ℕ) × Messages limit body messages rest

message_before : (limit : ℕ) (body message rest : List ℕ) → body ≡ frame message ++ rest → length message ≤ limit → Read limit rest → Read limit body
message_before limit body message rest spelled within read = (
  message ∷ read.0,
  read.1,
  record {
    whole = spelled ∙ ap (λ l. frame message ++ l) read.2.whole ∙ sym (framed-cons message read.0 read.1);
    each = (within, read.2.each);
    ends = read.2.ends;
  },
)

small_behind : (front rest body : List ℕ) → body ≡ front ++ rest → ((i : ℕ) → get_or body i 0 < 256) → (i : ℕ) → get_or rest i 0 < 256
small_behind front rest body is small i =
    rw (sym (get_or-append-add front rest i 0), sym is) (small (length front + i))

read_part : (limit : ℕ) (part : Part) (body : List ℕ) → ((i : ℕ) → get_or body i 0 < 256) → part_of limit body ≡ part → ((rest : List ℕ) → length rest < length body → ((i : ℕ) → get_or rest i 0 < 256) → Read limit rest) → Read limit body
read_part limit More body small is later = ([], body, nothing_read limit body (λ m. subst IsMessage is m))
read_part limit (Compressed flag) body small is later = ([], body, nothing_read limit body (λ m. subst IsMessage is m))
read_part limit (TooLong len) body small is later = ([], body, nothing_read limit body (λ m. subst IsMessage is m))
read_part limit (Message message) body small is later =
    let spelled : Spelled limit body message = part_of-message limit body message small is in
    let shorter : length spelled.0 < length body = omega (arith, ap length spelled.1, length-frame message spelled.0) in
    message_before limit body message spelled.0 spelled.1 spelled.2 (later spelled.0 shorter (small_behind (frame message) spelled.0 body spelled.1 small))

read_by : (fuel limit : ℕ) (body : List ℕ) → length body ≤ fuel → ((i : ℕ) → get_or body i 0 < 256) → Read limit body
read_by zero limit body short small =
    read_part limit (part_of limit body) body small refl (λ rest shorter few. absurd (omega (arith, shorter, short)))
read_by (suc fuel) limit body short small =
    read_part limit (part_of limit body) body small refl (λ rest shorter few. read_by fuel limit rest (omega (arith, shorter, short)) few)

pub Messages-some : (limit : ℕ) (body : List ℕ) → ((i : ℕ) → get_or body i 0 < 256) → Read limit body
Messages-some limit body small = read_by (length body) limit body (omega arith) small

-- bytes that give nothing whole yet are inside a message where there are any
pub IsInside-more : (limit : ℕ) (held : List ℕ) → limit < 2 ^ 32 → part_of limit held ≡ More → (IsInside limit held → held ≢ []) × (held ≢ [] → IsInside limit held)
IsInside-more limit held small more =
    let read : Messages limit held [] held = nothing_read limit held (λ m. subst IsMessage more m) in
    (λ inside. (IsInside-is limit held held small ([], read) inside).0, λ some. ([], held, read, some, more))

-- a message before them changes nothing
reading_behind : (limit : ℕ) (message rest : List ℕ) (messages : List (List ℕ)) (behind : List ℕ) → limit < 2 ^ 32 → length message ≤ limit → Messages limit (frame message ++ rest) messages behind → (others : List (List ℕ)) × Messages limit rest others behind
reading_behind limit message rest [] behind small within read =
    absurd (begins limit message rest behind small within (sym read.whole) read.ends)
reading_behind limit message rest (m ∷ messages) behind small within read =
    let joined : frame message ++ rest ≡ frame m ++ (framed messages ++ behind) = read.whole ∙ framed-cons m messages behind in
    let first : message ≡ m =
    message_is message m (sym (part_of-frame limit message rest small within) ∙ ap (part_of limit) joined ∙ part_of-frame limit m (framed messages ++ behind) small read.each.0)
    in
    (messages, record { whole = frame-left message m rest (framed messages ++ behind) first joined; each = read.each.1; ends = read.ends })

pub IsInside-behind : (limit : ℕ) (message rest held : List ℕ) → limit < 2 ^ 32 → length message ≤ limit → held ≡ frame message ++ rest → (IsInside limit rest → IsInside limit held) × (IsInside limit held → IsInside limit rest)
unfolding message_before
IsInside-behind limit message rest held small within is = (
  λ inside.
      let read : Read limit held = message_before limit held message rest is within (inside.0, inside.1, inside.2) in
      (read.0, read.1, read.2, inside.3, inside.4),
  λ inside.
      let read : (others : List (List ℕ)) × Messages limit rest others inside.1 =
      reading_behind limit message rest inside.0 inside.1 small within (subst (λ (l : List ℕ). Messages limit l inside.0 inside.1) is inside.2)
      in
      (read.0, inside.1, read.1, inside.3, inside.4),
)
