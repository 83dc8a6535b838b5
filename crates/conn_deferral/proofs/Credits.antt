-- Credit, control frames and events read no part that may be deferred.
use Rattle.std.proofs.Common.{◌≡◌, ℕ, ◌+◌, ◌==◌, nat_lt, Bool, true, false, not, ◌&&◌, List, [], ◌∷◌, ◌++◌, length, Option, Some, None, refl, sym, ap, ◌∙◌, true≢false, if◌then◌else◌}
use Rattle.std.specs.Prelude.{option_to_list}
use Rattle.h2_frames.specs.declared.frame.Frame.{Frame}
use Rattle.h2_frames.specs.declared.frame.Frame.TheVariants as frames
use Rattle.h2_frames.specs.declared.fault.H2Fault.{H2Fault}
use Rattle.h2_answers.specs.Replies.{adding_reply, drop_bytes}
use Rattle.h2_record.specs.declared.block.OpenBlock.{OpenBlock}
use Rattle.h2_record.specs.declared.block.OwedCredit.{OwedCredit}
use Rattle.h2_record.specs.declared.event.Event.{Event}
use Rattle.h2_record.specs.declared.event.Event.TheVariants as event
use Rattle.h2_record.specs.Record.{Record, Head, Reply, Tail, Abort, In, Out, Given, Whole, Broken, any_in}
use Rattle.h2_record.specs.Blocks.{whole_block}
use Rattle.h2_record.specs.Live.{Reset, ends}
use Rattle.h2_record.specs.Refusals.{is_served}
use Rattle.h2_record.specs.Resets.{reset_by, resets_of, is_live, is_open}
use Rattle.h2_record.specs.Replies.{replies_of}
use Rattle.h2_record.specs.Faults.{fault_by, first_fault_of}
use Rattle.h2_record.specs.Credits.{most_waiting, is_free, owed_by, owed_of, credit, given_of, kept_by, kept_of, freed_sum, freed_by}
use Rattle.h2_record.specs.Control.{answer_to, due_after, control_of}
use Rattle.h2_record.specs.Due.{settled_control_of}
use Rattle.h2_record.specs.Events.{read_event, whole_event, served_event, is_request, event_by, events_behind, events_of}
use Rattle.h2_record.proofs.BoolLemmas.{or-second, and-second, same-eq, by-test}
use Rattle.h2_record.proofs.StepLemmas.{owed-open}
use Rattle.conn_deferral.specs.Deferred.{undeferred}
use Rattle.conn_deferral.proofs.Frames.{drop-mark, out, last, live, opened, resets, reset-by, served, whole, reading, fault, first-fault}

-- ---- the replies that wait on a stream that the client hasn't ended

-- a reply on a stream that the client had ended is one of another stream
reply-on : (id stream : ℕ) (bytes : List ℕ) (r : Record) (b : Bool) → any_in (ends stream) r ≡ b → any_in (ends id) r ≡ false → replies_of (undeferred r) id ≡ replies_of r id
    → replies_of (if b then undeferred r else Given stream (Reply bytes) ∷ undeferred r) id ≡ replies_of (Given stream (Reply bytes) ∷ r) id
reply-on id stream bytes r false ended going same = ap (λ (replies : List (List ℕ)). if id == stream then adding_reply replies bytes else replies) same
reply-on id stream bytes r true ended going same = by-test (id == stream)
    (λ here. absurd (true≢false (sym ended ∙ ap (λ (n : ℕ). any_in (ends n) r) (sym (same-eq id stream here)) ∙ going)))
    (λ apart. same ∙ ap (λ (b : Bool). if b then adding_reply (replies_of r id) bytes else replies_of r id) (sym apart))

pub replies : (r : Record) (id : ℕ) → any_in (ends id) r ≡ false → replies_of (undeferred r) id ≡ replies_of r id
replies [] id going = refl
replies (In frame ∷ r) id going = replies r id (or-second (ends id frame) (any_in (ends id) r) going)
replies (Out frame ∷ r) id going = replies r id going
replies (Given stream (Head fields ended) ∷ r) id going = drop-mark (λ (x : Record). replies_of x id) (any_in (ends stream) r) (Given stream (Head fields ended)) (undeferred r) refl ∙ replies r id going
replies (Given stream (Reply bytes) ∷ r) id going = reply-on id stream bytes r (any_in (ends stream) r) refl going (replies r id going)
replies (Given stream (Tail fields) ∷ r) id going = drop-mark (λ (x : Record). replies_of x id) (any_in (ends stream) r) (Given stream (Tail fields)) (undeferred r) refl ∙ replies r id going
replies (Given stream (Abort code) ∷ r) id going = drop-mark (λ (x : Record). replies_of x id) (any_in (ends stream) r) (Given stream (Abort code)) (undeferred r) refl ∙ replies r id going
replies (Whole ∷ r) id going = replies r id going
replies (Broken broke ∷ r) id going = replies r id going

not-true : (b : Bool) → not b ≡ true → b ≡ false
not-true true e = absurd (true≢false (sym e))
not-true false e = refl

going : (r : Record) (id : ℕ) → is_open r id ≡ true → any_in (ends id) r ≡ false
going r id is = not-true (any_in (ends id) r) (and-second (is_live r id) (not (any_in (ends id) r)) is)

-- so credit is withheld by the same count
pub free : (r : Record) (id : ℕ) → is_open r id ≡ true → is_free (undeferred r) id ≡ is_free r id
free r id is = λ i. nat_lt (length (if live r id i then drop_bytes (out r id i) (replies r id (going r id is) i) else [])) most_waiting

-- ---- credit

owed-by : (r : Record) (frame : Frame) → owed_by (undeferred r) frame ≡ owed_by r frame
owed-by r (frames.Body stream false bytes counted) = λ i. if opened r stream i && not (counted == 0) then Some (record { stream = stream; bytes = counted }) else None
owed-by r (frames.Body stream true bytes counted) = refl
owed-by r (frames.Headers stream ended whole fragment) = refl
owed-by r (frames.Priority stream) = refl
owed-by r (frames.Reset stream code) = refl
owed-by r (frames.Settings acked pairs) = refl
owed-by r (frames.Push stream) = refl
owed-by r (frames.Ping acked octets) = refl
owed-by r (frames.Goaway last code) = refl
owed-by r (frames.Window stream add) = refl
owed-by r (frames.Continuation stream whole fragment) = refl
owed-by r (frames.Unknown kind stream) = refl

pub owed : (r : Record) → owed_of (undeferred r) ≡ owed_of r
owed [] = refl
owed (In frame ∷ r) = owed-by (In frame ∷ r) frame
owed (Out frame ∷ r) = refl
owed (Given stream part ∷ r) = drop-mark owed_of (any_in (ends stream) r) (Given stream part) (undeferred r) refl ∙ owed r
owed (Whole ∷ r) = owed r
owed (Broken broke ∷ r) = owed r

given-by : (r : Record) (credited : Option OwedCredit) → owed_of r ≡ credited → given_of (undeferred r) credited ≡ given_of r credited
given-by r None is = refl
given-by r (Some x) is = λ i. if free r x.stream (owed-open r x is) i then credit x.stream x.bytes ∷ [] else []

pub given-now : (r : Record) → given_of (undeferred r) (owed_of (undeferred r)) ≡ given_of r (owed_of r)
given-now r = ap (given_of (undeferred r)) (owed r) ∙ given-by r (owed_of r) refl

kept-by : (r : Record) (credited : Option OwedCredit) (id : ℕ) → owed_of r ≡ credited → kept_by (undeferred r) credited id ≡ kept_by r credited id
kept-by r None id is = refl
kept-by r (Some x) id is = λ i. if id == x.stream && not (free r x.stream (owed-open r x is) i) then x.bytes else 0

kept-now : (r : Record) (id : ℕ) → kept_by (undeferred r) (owed_of (undeferred r)) id ≡ kept_by r (owed_of r) id
kept-now r id = ap (λ (x : Option OwedCredit). kept_by (undeferred r) x id) (owed r) ∙ kept-by r (owed_of r) id refl

-- nothing is kept of a stream that isn't open, however many replies wait on it
kept-if : (a b c : Bool) (n : ℕ) → (a ≡ true → b ≡ c) → (if a && not b then n else 0) ≡ (if a && not c then n else 0)
kept-if true b c n same = ap (λ (x : Bool). if not x then n else 0) (same refl)
kept-if false b c n same = refl

pub kept : (r : Record) (id : ℕ) → kept_of (undeferred r) id ≡ kept_of r id
kept [] id = refl
kept (In frame ∷ r) id = λ i. if opened (In frame ∷ r) id i then kept r id i + kept-now r id i else 0
kept (Out frame ∷ r) id =
    (λ i. if opened (Out frame ∷ r) id i && not (is_free (undeferred (Out frame ∷ r)) id) then kept r id i + kept-now r id i else 0)
    ∙ kept-if (is_open (Out frame ∷ r) id) (is_free (undeferred (Out frame ∷ r)) id) (is_free (Out frame ∷ r) id) (kept_of r id + kept_by r (owed_of r) id) (free (Out frame ∷ r) id)
kept (Given stream part ∷ r) id = drop-mark (λ (x : Record). kept_of x id) (any_in (ends stream) r) (Given stream part) (undeferred r) refl ∙ kept r id
kept (Whole ∷ r) id = kept r id
kept (Broken broke ∷ r) id = kept r id

freed-if : (a b c d : Bool) (frames : List Frame) → (b ≡ true → c ≡ d) → (if a && b && c then frames else []) ≡ (if a && b && d then frames else [])
freed-if true true c d frames same = ap (λ (x : Bool). if x then frames else []) (same refl)
freed-if true false c d frames same = refl
freed-if false b c d frames same = refl

freed-sum : (r : Record) (stream sum : ℕ) → freed_sum (undeferred r) stream sum ≡ freed_sum r stream sum
freed-sum r stream sum =
    (λ i. if not (sum == 0) && opened r stream i && is_free (undeferred r) stream then credit stream sum ∷ [] else [])
    ∙ freed-if (not (sum == 0)) (is_open r stream) (is_free (undeferred r) stream) (is_free r stream) (credit stream sum ∷ []) (free r stream)

freed : (r : Record) (frame : Frame) → freed_by (undeferred r) frame ≡ freed_by r frame
freed r (frames.Body stream ended bytes counted) =
    (λ i. freed_sum (undeferred (Out (frames.Body stream ended bytes counted) ∷ r)) stream (kept r stream i + kept-now r stream i))
    ∙ freed-sum (Out (frames.Body stream ended bytes counted) ∷ r) stream (kept_of r stream + kept_by r (owed_of r) stream)
freed r (frames.Headers stream ended whole fragment) = refl
freed r (frames.Priority stream) = refl
freed r (frames.Reset stream code) = refl
freed r (frames.Settings acked pairs) = refl
freed r (frames.Push stream) = refl
freed r (frames.Ping acked octets) = refl
freed r (frames.Goaway last code) = refl
freed r (frames.Window stream add) = refl
freed r (frames.Continuation stream whole fragment) = refl
freed r (frames.Unknown kind stream) = refl

-- ---- control frames

due-after : (due answer : List Frame) (r : Record) (earlier broke : Option H2Fault) → due_after due answer (undeferred r) earlier broke ≡ due_after due answer r earlier broke
due-after due answer r (Some earlier) broke = refl
due-after due answer r None None = λ i. (due ++ given-now r i) ++ answer
due-after due answer r None (Some broke) = λ i. (due ++ given-now r i) ++ frames.Goaway (last r i) broke.code ∷ []

pub control : (r : Record) → control_of (undeferred r) ≡ control_of r
control [] = refl
control (In frame ∷ r) =
    (λ i. due_after (control r i) (answer_to frame) (undeferred r) (first-fault r i) (fault r frame i)) ∙ due-after (control_of r) (answer_to frame) r (first_fault_of r) (fault_by r frame)
control (Out frame ∷ r) =
    (λ i. due_after (control r i) (freed r frame i) (undeferred r) (first-fault r i) None) ∙ due-after (control_of r) (freed_by r frame) r (first_fault_of r) None
control (Given stream part ∷ r) = drop-mark control_of (any_in (ends stream) r) (Given stream part) (undeferred r) refl ∙ control r
control (Whole ∷ r) = control r
control (Broken broke ∷ r) = (λ i. due_after (control r i) [] (undeferred r) (first-fault r i) (Some broke)) ∙ due-after (control_of r) [] r (first_fault_of r) (Some broke)

pub settled : (r : Record) → settled_control_of (undeferred r) ≡ settled_control_of r
settled r = (λ i. due_after (control r i) [] (undeferred r) (first-fault r i) None) ∙ due-after (control_of r) [] r (first_fault_of r) None

-- ---- what a frame tells

whole-of : (r : Record) (b : Option OpenBlock) → whole_event (undeferred r) b ≡ whole_event r b
whole-of r None = refl
whole-of r (Some b) = ap (read_event b) (reading r b)

whole-event : (r : Record) (frame : Frame) → whole_event (undeferred r) (whole_block (undeferred r) frame) ≡ whole_event r (whole_block r frame)
whole-event r frame = ap (whole_event (undeferred r)) (whole r frame) ∙ whole-of r (whole_block r frame)

served-now : (r : Record) (frame : Frame) → is_served (resets_of (undeferred r)) (undeferred r) frame ≡ is_served (resets_of r) r frame
served-now r frame = ap (λ (x : List Reset). is_served x (undeferred r) frame) (resets r) ∙ served (resets_of r) r frame

block-event : (r : Record) (frame : Frame)
    → (if is_served (resets_of (undeferred r)) (undeferred r) frame then whole_event (undeferred r) (whole_block (undeferred r) frame) else None)
    ≡ (if is_served (resets_of r) r frame then whole_event r (whole_block r frame) else None)
block-event r frame = λ i. if served-now r frame i then whole-event r frame i else None

served-event : (r : Record) (frame : Frame) → served_event (undeferred r) frame ≡ served_event r frame
served-event r (frames.Body stream ended bytes counted) = λ i. if live r stream i then Some (event.Body stream bytes ended) else None
served-event r (frames.Reset stream code) = λ i. if live r stream i then Some (event.Reset stream code) else None
served-event r (frames.Headers stream ended whole fragment) = block-event r (frames.Headers stream ended whole fragment)
served-event r (frames.Continuation stream whole fragment) = block-event r (frames.Continuation stream whole fragment)
served-event r (frames.Priority stream) = refl
served-event r (frames.Settings acked pairs) = refl
served-event r (frames.Push stream) = refl
served-event r (frames.Ping acked octets) = refl
served-event r (frames.Goaway last code) = refl
served-event r (frames.Window stream add) = refl
served-event r (frames.Unknown kind stream) = refl

event-by : (r : Record) (frame : Frame) (reset : Option Reset) → event_by (undeferred r) frame reset ≡ event_by r frame reset
event-by r frame None = served-event r frame
event-by r frame (Some reset) = λ i. if live r reset.stream i && not (is_request (whole r frame i)) then Some (event.Reset reset.stream reset.code) else None

event-now : (r : Record) (frame : Frame) → event_by (undeferred r) frame (reset_by (resets_of (undeferred r)) (undeferred r) frame) ≡ event_by r frame (reset_by (resets_of r) r frame)
event-now r frame = ap (event_by (undeferred r) frame) (reset-by r frame) ∙ event-by r frame (reset_by (resets_of r) r frame)

behind : (r : Record) (frame : Frame) (earlier broke : Option H2Fault) → events_behind (undeferred r) frame earlier broke ≡ events_behind r frame earlier broke
behind r frame (Some earlier) broke = refl
behind r frame None (Some broke) = refl
behind r frame None None = ap (λ (x : Option Event). option_to_list x) (event-now r frame)

pub events : (r : Record) (frame : Frame) → events_of (undeferred r) frame ≡ events_of r frame
events r frame = (λ i. events_behind (undeferred r) frame (first-fault r i) (fault r frame i)) ∙ behind r frame (first_fault_of r) (fault_by r frame)
