-- A message that was started, and the bytes that it stands for.
use Rattle.std.proofs.Common.{◌≡◌, ◌≢◌, ◌≤◌, ◌<◌, ◌-◌, ◌^◌, ◌⊎◌, inl, inr, append-nil, append_assoc, ℕ, List, [], ◌++◌, length, take, drop, min, vec_len, refl, sym, ap, ◌∙◌, subst, arith, take-append-drop, length-drop, Option, Some, None}
use Rattle.std.proofs.lemmas.Bool.{cases_lt}
use Rattle.std.proofs.Math.Seq.{take-length}
use Rattle.std.proofs.lemmas.Grind.{common_steps}
use Rattle.std.proofs.lemmas.Nat.{from_be_bytes-to_be_bytes_4}
use Rattle.std.specs.Int.{w32, from_be_bytes, to_be_bytes}
use Rattle.grpc_frame.specs.declared.part.Part.TheVariants.{Message, More}
use Rattle.grpc_frame.specs.declared.started.Started.{Started}
use Rattle.grpc_frame.specs.Frame.{prefix_of, frame}
use Rattle.grpc_frame.specs.Part.{part_of, part_behind_length}
use Rattle.grpc_frame.specs.Messages.{IsInside}
use Rattle.grpc_frame.proofs.MessagesLemmas.{part_of-frame, IsInside-more, IsInside-behind}
use Rattle.grpc_frame.specs.Started.{started_bytes, missing_in, IsStarted, IsSame, Filled}

-- a piece, cut in two
cut_piece : (taken : ℕ) (piece : List ℕ) → take taken piece ++ take (length piece - taken) (drop taken piece) ≡ piece
cut_piece taken piece =
    ap (λ n. take taken piece ++ take n (drop taken piece)) (sym (length-drop taken piece))
    ∙ ap (λ l. take taken piece ++ l) (take-length (drop taken piece))
    ∙ take-append-drop taken piece

regroup : (p s f r b : List ℕ) → r ≡ [] → (p ++ (s ++ f)) ++ (r ++ b) ≡ ((p ++ s) ++ r) ++ (f ++ b)
regroup p s f r b none = grind (arith, common_steps)

regroup_whole : (p s f r b : List ℕ) → f ≡ [] → (p ++ (s ++ f)) ++ (r ++ b) ≡ ((p ++ s) ++ r) ++ (f ++ b)
regroup_whole p s f r b none = grind (arith, common_steps)

-- where bytes are missing, nothing stands behind; else nothing is added
nothing_added : (limit taken : ℕ) (message : Started) (rest piece : List ℕ) → IsStarted limit (Some message) rest → taken ≡ min (missing_in (Some message)) (length piece) → (rest ≡ []) ⊎ (take taken piece ≡ [])
nothing_added limit taken message rest piece held is =
    elim (cases_lt (vec_len message.bytes) message.len) [
      | inl short ↦ inl (held.2 short)
      | inr whole ↦ inr (let none : taken ≡ 0 = omega (arith, is, whole) in rw none refl)
    ]

-- a message that got room is filled as the one before
pub filled-same : (started roomy after : Option Started) (bytes : List ℕ) → IsSame started roomy → Filled roomy after bytes → Filled started after bytes
filled-same None roomy after bytes same filled = subst (λ (s : Option Started). Filled s after bytes) same filled
filled-same (Some message) None after bytes same filled = absurd same
filled-same (Some message) (Some roomy) None bytes same filled = absurd filled
filled-same (Some message) (Some roomy) (Some after) bytes same filled =
    (filled.0 ∙ same.0, filled.1 ∙ ap (λ l. l ++ bytes) same.1)

-- what stands for the bytes after a piece
pub started-fed : (limit taken : ℕ) (started after : Option Started) (rest rest' piece : List ℕ) → IsStarted limit started rest → taken ≡ min (missing_in started) (length piece) → Filled started after (take taken piece) → rest' ≡ rest ++ take (length piece - taken) (drop taken piece) → started_bytes after ++ rest' ≡ (started_bytes started ++ rest) ++ piece
started-fed limit taken None after rest rest' piece held is filled fed =
    let none : taken ≡ 0 = omega (arith, is) in
    let all : take (length piece - taken) (drop taken piece) ≡ piece =
    ap (λ l. l ++ take (length piece - taken) (drop taken piece)) (sym (let e : take taken piece ≡ [] = rw none refl in e)) ∙ cut_piece taken piece
    in
    rw (filled, fed, all) refl
started-fed limit taken (Some message) None rest rest' piece held is filled fed = absurd filled
started-fed limit taken (Some message) (Some after) rest rest' piece held is filled fed =
    let front : List ℕ = take taken piece in
    let back : List ℕ = take (length piece - taken) (drop taken piece) in
    let joined : (prefix_of message.len ++ (message.bytes.items ++ front)) ++ (rest ++ back) ≡ ((prefix_of message.len ++ message.bytes.items) ++ rest) ++ (front ++ back) =
    elim (nothing_added limit taken message rest piece held is) [
      | inl none ↦ regroup (prefix_of message.len) message.bytes.items front rest back none
      | inr none ↦ regroup_whole (prefix_of message.len) message.bytes.items front rest back none
    ]
    in
    rw (filled.0, filled.1, fed) (joined ∙ ap (λ l. ((prefix_of message.len ++ message.bytes.items) ++ rest) ++ l) (cut_piece taken piece))

-- a message of which bytes are missing
pub part_of-started : (limit len : ℕ) (bytes : List ℕ) → limit < 2 ^ 32 → len ≤ limit → length bytes < len → part_of limit (prefix_of len ++ bytes) ≡ More
unfolding part_of prefix_of
part_of-started limit len bytes small within short =
    let back : from_be_bytes w32 (to_be_bytes w32 len) ≡ len = from_be_bytes-to_be_bytes_4 len (omega arith) in
    ap (λ n. part_behind_length limit n bytes) back ∙ behind limit len bytes within short where
      behind : (limit len : ℕ) (bytes : List ℕ) → len ≤ limit → length bytes < len → part_behind_length limit len bytes ≡ More
      behind limit len bytes within short = grind (arith, common_steps)

-- a message that is whole
pub prefix-frame : (len : ℕ) (bytes rest : List ℕ) → length bytes ≡ len → (prefix_of len ++ bytes) ++ rest ≡ frame bytes ++ rest
unfolding frame
prefix-frame len bytes rest whole = rw whole refl

pub part_of-short : (limit : ℕ) (started : Option Started) (rest held : List ℕ) → limit < 2 ^ 32 → IsStarted limit started rest → 0 < missing_in started → started_bytes started ++ rest ≡ held → More ≡ part_of limit held
part_of-short limit None rest held small kept some is = absurd (omega (arith, some))
part_of-short limit (Some message) rest held small kept some is =
    let short : vec_len message.bytes < message.len = omega (arith, some) in
    let all : held ≡ prefix_of message.len ++ message.bytes.items =
    sym is ∙ ap (λ l. (prefix_of message.len ++ message.bytes.items) ++ l) (kept.2 short) ∙ append-nil (prefix_of message.len ++ message.bytes.items)
    in
    sym (ap (part_of limit) all ∙ part_of-started limit message.len message.bytes.items small kept.0 (omega (arith, short, message.bytes.ok.0)))

pub whole-taken : (limit : ℕ) (started : Option Started) (message : Started) (rest held : List ℕ) → started ≡ Some message → IsStarted limit started rest → missing_in started ≤ 0 → started_bytes started ++ rest ≡ held → (held ≡ frame message.bytes.items ++ rest) × (length message.bytes.items ≤ limit)
whole-taken limit None message rest held start kept none is = absurd (cc)
whole-taken limit (Some other) message rest held start kept none is =
    let same : other ≡ message = cc in
    let whole : length other.bytes.items ≡ other.len = omega (arith, none, kept.1, other.bytes.ok.0) in
    let taken : (held ≡ frame other.bytes.items ++ rest) × (length other.bytes.items ≤ limit) =
    (sym is ∙ prefix-frame other.len other.bytes.items rest whole, omega (arith, whole, kept.0))
    in
    subst (λ (m : Started). (held ≡ frame m.bytes.items ++ rest) × (length m.bytes.items ≤ limit)) same taken

pub whole-part : (limit : ℕ) (message rest held : List ℕ) → limit < 2 ^ 32 → (held ≡ frame message ++ rest) × (length message ≤ limit) → Message message ≡ part_of limit held
whole-part limit message rest held small taken =
    sym (ap (part_of limit) taken.0 ∙ part_of-frame limit message rest small taken.1)

prefix_some : (len : ℕ) (bytes : List ℕ) → prefix_of len ++ bytes ≢ []
unfolding prefix_of
prefix_some len bytes none = cc

-- bytes are inside a message that was started and is not whole
pub inside-short : (limit : ℕ) (started : Option Started) (rest held : List ℕ) → limit < 2 ^ 32 → IsStarted limit started rest → 0 < missing_in started → started_bytes started ++ rest ≡ held → IsInside limit held
inside-short limit started rest held small kept some is =
    let more : part_of limit held ≡ More = sym (part_of-short limit started rest held small kept some is) in
    (IsInside-more limit held small more).1 (held_some limit started rest held kept some is) where
      held_some : (limit : ℕ) (started : Option Started) (rest held : List ℕ) → IsStarted limit started rest → 0 < missing_in started → started_bytes started ++ rest ≡ held → held ≢ []
      held_some limit None rest held kept some is none = absurd (omega (arith, some))
      held_some limit (Some message) rest held kept some is none =
          prefix_some message.len (message.bytes.items ++ rest) (sym (append_assoc (prefix_of message.len) message.bytes.items rest) ∙ is ∙ none)

-- a message that is whole changes nothing of what stands behind it
pub inside-whole : (limit : ℕ) (started : Option Started) (rest held : List ℕ) → limit < 2 ^ 32 → IsStarted limit started rest → missing_in started ≤ 0 → started_bytes started ++ rest ≡ held → (IsInside limit rest → IsInside limit held) × (IsInside limit held → IsInside limit rest)
inside-whole limit None rest held small kept none is =
    (λ inside. subst (IsInside limit) is inside, λ inside. subst (IsInside limit) (sym is) inside)
inside-whole limit (Some message) rest held small kept none is =
    let taken : (held ≡ frame message.bytes.items ++ rest) × (length message.bytes.items ≤ limit) = whole-taken limit (Some message) message rest held refl kept none is in
    IsInside-behind limit message.bytes.items rest held small taken.1 taken.0
