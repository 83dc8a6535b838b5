-- A frame that is due by what was given is due by what was decided.
use Rattle.std.proofs.Common.{◌≡◌, ◌⊎◌, inl, inr, ℕ, ◌==◌, Bool, true, false, ◌&&◌, ◌||◌, List, [], ◌∷◌, ◌++◌, drop, length, pos, ◌≤ℤ◌, refl, sym, ap, subst, ◌∙◌, append_assoc, append-nil, if◌then◌else◌}
use Rattle.std.specs.Prelude.{ℤ}
use Rattle.h2_frames.specs.declared.frame.Frame.{Frame}
use Rattle.h2_frames.specs.declared.frame.Frame.TheVariants as frames
use Rattle.h2_frames.specs.declared.fault.H2Fault.{H2Fault}
use Rattle.h2_record.specs.Record.{Record, AnswerPart, In, Out, Given, Whole, Broken, any_in, any_out}
use Rattle.h2_record.specs.Windows.{send_window_of, connection_window_of}
use Rattle.h2_record.specs.Live.{Reset, ends}
use Rattle.h2_record.specs.Resets.{is_live, resets_of}
use Rattle.h2_record.specs.Faults.{first_fault_of}
use Rattle.h2_record.specs.Rules.{is_settings}
use Rattle.h2_record.specs.Control.{written_control_of}
use Rattle.h2_record.specs.Texts.{Token, Fields, Aborted, part_text, given_text, written_text, frame_text, is_headers, codes_on, written_codes}
use Rattle.h2_record.specs.Due.{settled_control_of, IsNextControl, WaitsControl, IsStarted, IsNextText, IsNextCode, IsDue}
use Rattle.h2_record.proofs.BoolLemmas.{or-true, same-eq}
use Rattle.conn_record.specs.Written.{with_outs, AreDue}
use Rattle.conn_deferral.specs.Deferred.{undeferred, Defers}
use Rattle.conn_deferral.proofs.Frames.{drop-mark, agrees, any-in, any-out, connection, send, live, resets, first-fault}
use Rattle.conn_deferral.proofs.Credits.{settled}

-- ---- texts

frame-text : (r : Record) (id : ℕ) (frame : Frame) → frame_text (undeferred r) id frame ≡ frame_text r id frame
frame-text r id (frames.Headers stream ended whole block) = λ i. if id == stream then Fields ended (drop (if any-out is_headers r i then 0 else 1) block) ∷ [] else []
frame-text r id (frames.Reset stream code) = λ i. if id == stream && live r id i then Aborted code ∷ [] else []
frame-text r id (frames.Body stream ended bytes counted) = refl
frame-text r id (frames.Priority stream) = refl
frame-text r id (frames.Settings acked pairs) = refl
frame-text r id (frames.Push stream) = refl
frame-text r id (frames.Ping acked octets) = refl
frame-text r id (frames.Goaway last code) = refl
frame-text r id (frames.Window stream add) = refl
frame-text r id (frames.Continuation stream whole block) = refl
frame-text r id (frames.Unknown kind stream) = refl

written-text : (r : Record) (id : ℕ) → written_text (undeferred r) id ≡ written_text r id
written-text [] id = refl
written-text (In frame ∷ r) id = written-text r id
written-text (Out frame ∷ r) id = λ i. written-text r id i ++ frame-text r id frame i
written-text (Given stream part ∷ r) id = drop-mark (λ (x : Record). written_text x id) (any_in (ends stream) r) (Given stream part) (undeferred r) refl ∙ written-text r id
written-text (Whole ∷ r) id = written-text r id
written-text (Broken broke ∷ r) id = written-text r id

-- ---- what is the same on both

module _ (given decided : Record) (same : undeferred given ≡ undeferred decided) where
  pub both : {X : Type 0} (f : Record → X) → ((r : Record) → f (undeferred r) ≡ f r) → f given ≡ f decided
  both f by = sym (by given) ∙ ap f same ∙ by decided

  pub sound-both : first_fault_of given ≡ first_fault_of decided
  sound-both = both first_fault_of first-fault

  pub came-both : (test : Frame → Bool) → any_in test given ≡ any_in test decided
  came-both test = both (any_in test) (any-in test)

  pub went-both : (test : Frame → Bool) → any_out test given ≡ any_out test decided
  went-both test = both (any_out test) (any-out test)

  pub live-both : (id : ℕ) → is_live given id ≡ is_live decided id
  live-both id = both (λ r. is_live r id) (λ r. live r id)

  pub send-both : (id : ℕ) → send_window_of given id ≡ send_window_of decided id
  send-both id = both (λ r. send_window_of r id) (λ r. send r id)

  pub connection-both : connection_window_of given ≡ connection_window_of decided
  connection-both = both connection_window_of connection

  pub resets-both : resets_of given ≡ resets_of decided
  resets-both = both resets_of resets

  pub control-both : written_control_of given ≡ written_control_of decided
  control-both = both written_control_of (λ r. (agrees r).control)

  pub codes-both : (id : ℕ) → written_codes given id ≡ written_codes decided id
  codes-both id = both (λ r. written_codes r id) (λ r. (agrees r).codes id)

  pub settled-both : settled_control_of given ≡ settled_control_of decided
  settled-both = both settled_control_of settled

  pub written-both : (id : ℕ) → written_text given id ≡ written_text decided id
  written-both id = both (λ r. written_text r id) (λ r. written-text r id)

  frame-both : (id : ℕ) (frame : Frame) → frame_text given id frame ≡ frame_text decided id frame
  frame-both id frame = both (λ r. frame_text r id frame) (λ r. frame-text r id frame)

-- ---- what is due on one is due on the other

module _ (given decided : Record) (left : ℕ → List Token) (d : Defers given decided left) where
  started-over : IsStarted given → IsStarted decided
  started-over s = record {
    sound = sym (sound-both given decided d.same) ∙ s.sound;
    started = sym (went-both given decided d.same is_settings) ∙ s.started;
  }

  text-over : (id : ℕ) (frame : Frame) → IsNextText given id frame → IsNextText decided id frame
  text-over id frame t = record {
    started = started-over t.started;
    live = sym (live-both given decided d.same id) ∙ t.live;
    behind = t.behind ++ left id;
    next = (λ i. (sym (written-both given decided d.same id) i ++ sym (frame-both given decided d.same id frame) i) ++ (t.behind ++ left id))
        ∙ sym (append_assoc (written_text given id ++ frame_text given id frame) t.behind (left id))
        ∙ ap (λ (text : List Token). text ++ left id) t.next ∙ d.text id;
  }

  waits-back : (id : ℕ) → WaitsControl decided id → WaitsControl given id
  waits-back id w = record {
    before = w.before;
    behind = w.behind;
    add = w.add;
    waits = ap (λ (went : List Frame). went ++ w.before ++ frames.Window id w.add ∷ w.behind) (control-both given decided d.same) ∙ w.waits ∙ sym (settled-both given decided d.same);
  }

  code-over : (id code : ℕ) → IsNextCode given id code → IsNextCode decided id code
  code-over id code c = record {
    started = started-over c.started;
    closed = sym (live-both given decided d.same id) ∙ c.closed;
    behind = c.behind;
    next = ap (λ (went : List ℕ). went ++ code ∷ c.behind) (sym (codes-both given decided d.same id)) ∙ c.next ∙ ap (λ (rs : List Reset). codes_on rs id) (resets-both given decided d.same);
  }

  reset-over : (id code : ℕ) → IsNextText given id (frames.Reset id code) ⊎ IsNextCode given id code → IsNextText decided id (frames.Reset id code) ⊎ IsNextCode decided id code
  reset-over id code (inl text) = inl (text-over id (frames.Reset id code) text)
  reset-over id code (inr next) = inr (code-over id code next)

  control-over : (frame : Frame) → IsNextControl given frame → IsNextControl decided frame
  control-over frame c = record {
    behind = c.behind;
    next = ap (λ (went : List Frame). went ++ frame ∷ c.behind) (sym (control-both given decided d.same)) ∙ c.next ∙ settled-both given decided d.same;
  }

  pub due-over : (frame : Frame) → IsDue given frame → IsDue decided frame
  due-over (frames.Headers stream ended whole block) due = record {
    text = text-over stream (frames.Headers stream ended whole block) due.text;
    in_one = due.in_one;
    spelling = due.spelling;
    octets = due.octets ∙ ap (λ (b : Bool). (if b then [] else 32 ∷ []) ++ due.spelling) (went-both given decided d.same is_headers);
  }
  due-over (frames.Body stream ended bytes counted) due = record {
    text = text-over stream (frames.Body stream ended bytes counted) due.text;
    goes_on = due.goes_on;
    some = due.some;
    small = due.small;
    unpadded = due.unpadded;
    stream = subst (λ (w : ℤ). pos (length bytes) ≤ℤ w) (send-both given decided d.same stream) due.stream;
    connection = subst (λ (w : ℤ). pos (length bytes) ≤ℤ w) (connection-both given decided d.same) due.connection;
  }
  due-over (frames.Reset stream code) due = record { next = reset-over stream code due.next; free = λ w. due.free (waits-back stream w) }
  due-over (frames.Settings acked pairs) due = control-over (frames.Settings acked pairs) due
  due-over (frames.Ping acked octets) due = control-over (frames.Ping acked octets) due
  due-over (frames.Goaway last code) due = control-over (frames.Goaway last code) due
  due-over (frames.Window stream add) due = control-over (frames.Window stream add) due
  due-over (frames.Priority stream) due = control-over (frames.Priority stream) due
  due-over (frames.Push stream) due = control-over (frames.Push stream) due
  due-over (frames.Continuation stream whole block) due = control-over (frames.Continuation stream whole block) due
  due-over (frames.Unknown kind stream) due = control-over (frames.Unknown kind stream) due

-- ---- one more entry

module _ (given decided : Record) (left : ℕ → List Token) (d : Defers given decided left) where
  pub defers-out : (frame : Frame) → Defers (Out frame ∷ given) (Out frame ∷ decided) left
  defers-out frame = record { same = ap (λ (r : Record). Out frame ∷ r) d.same; text = d.text; ended = d.ended }

  ended-in : (frame : Frame) (id : ℕ) → (left id ≡ []) ⊎ (any_in (ends id) given ≡ true) → (left id ≡ []) ⊎ ((ends id frame || any_in (ends id) given) ≡ true)
  ended-in frame id (inl none) = inl none
  ended-in frame id (inr ended) = inr (ap (λ (b : Bool). ends id frame || b) ended ∙ or-true (ends id frame))

  pub defers-in : (frame : Frame) → Defers (In frame ∷ given) (In frame ∷ decided) left
  defers-in frame = record { same = ap (λ (r : Record). In frame ∷ r) d.same; text = d.text; ended = λ id. ended-in frame id (d.ended id) }

  pub defers-whole : Defers (Whole ∷ given) (Whole ∷ decided) left
  defers-whole = record { same = ap (λ (r : Record). Whole ∷ r) d.same; text = d.text; ended = d.ended }

  pub defers-broken : (fault : H2Fault) → Defers (Broken fault ∷ given) (Broken fault ∷ decided) left
  defers-broken fault = record { same = ap (λ (r : Record). Broken fault ∷ r) d.same; text = d.text; ended = d.ended }

  -- ---- a part that is given where it is decided, where nothing is left on its stream

  module _ (stream : ℕ) (part : AnswerPart) (none : left stream ≡ []) where
    text-given : (id : ℕ) (b : Bool) → (id == stream) ≡ b → (if b then given_text given id ++ part_text part else given_text given id) ++ left id ≡ (if b then given_text decided id ++ part_text part else given_text decided id)
    text-given id false apart = d.text id
    text-given id true here =
        let nothing : left id ≡ [] = ap left (same-eq id stream here) ∙ none in
        let all : given_text given id ≡ given_text decided id = sym (append-nil (given_text given id)) ∙ ap (λ (l : List Token). given_text given id ++ l) (sym nothing) ∙ d.text id in
        ap (λ (l : List Token). (given_text given id ++ part_text part) ++ l) nothing ∙ append-nil (given_text given id ++ part_text part) ∙ ap (λ (l : List Token). l ++ part_text part) all

    pub defers-given : Defers (Given stream part ∷ given) (Given stream part ∷ decided) left
    defers-given = record {
      same = λ i. if came-both given decided d.same (ends stream) i then d.same i else Given stream part ∷ d.same i;
      text = λ id. text-given id (id == stream) refl;
      ended = d.ended;
    }

  -- ---- on a stream that the client has ended

  module _ (stream : ℕ) (part : AnswerPart) (after : ℕ → List Token) (ended : any_in (ends stream) given ≡ true) (others : (id : ℕ) → (id == stream) ≡ false → after id ≡ left id) where
    ended-after : (id : ℕ) (b : Bool) → (id == stream) ≡ b → (after id ≡ []) ⊎ (any_in (ends id) given ≡ true)
    ended-after id true here = inr (ap (λ (n : ℕ). any_in (ends n) given) (same-eq id stream here) ∙ ended)
    ended-after id false apart = subst (λ (l : List Token). (l ≡ []) ⊎ (any_in (ends id) given ≡ true)) (sym (others id apart)) (d.ended id)

    -- a part that was decided is given: the next of what is left

    text-late : left stream ≡ part_text part ++ after stream → (id : ℕ) (b : Bool) → (id == stream) ≡ b → (if b then given_text given id ++ part_text part else given_text given id) ++ after id ≡ given_text decided id
    text-late next id false apart = ap (λ (l : List Token). given_text given id ++ l) (others id apart) ∙ d.text id
    text-late next id true here =
        let is = same-eq id stream here in
        append_assoc (given_text given id) (part_text part) (after id)
        ∙ ap (λ (l : List Token). given_text given id ++ l) (ap (λ (n : ℕ). part_text part ++ after n) is ∙ sym next ∙ ap left (sym is)) ∙ d.text id

    pub defers-late : left stream ≡ part_text part ++ after stream → Defers (Given stream part ∷ given) decided after
    defers-late next = record {
      same = ap (λ (b : Bool). if b then undeferred given else Given stream part ∷ undeferred given) ended ∙ d.same;
      text = λ id. text-late next id (id == stream) refl;
      ended = λ id. ended-after id (id == stream) refl;
    }

    -- a part is decided, and left to be given

    text-ahead : after stream ≡ left stream ++ part_text part → (id : ℕ) (b : Bool) → (id == stream) ≡ b → given_text given id ++ after id ≡ (if b then given_text decided id ++ part_text part else given_text decided id)
    text-ahead more id false apart = ap (λ (l : List Token). given_text given id ++ l) (others id apart) ∙ d.text id
    text-ahead more id true here =
        let is = same-eq id stream here in
        ap (λ (l : List Token). given_text given id ++ l) (ap after is ∙ more ∙ ap (λ (n : ℕ). left n ++ part_text part) (sym is))
        ∙ sym (append_assoc (given_text given id) (left id) (part_text part)) ∙ ap (λ (l : List Token). l ++ part_text part) (d.text id)

    pub defers-ahead : after stream ≡ left stream ++ part_text part → Defers given (Given stream part ∷ decided) after
    defers-ahead more = record {
      same = d.same ∙ ap (λ (b : Bool). if b then undeferred decided else Given stream part ∷ undeferred decided) (sym (sym (came-both given decided d.same (ends stream)) ∙ ended));
      text = λ id. text-ahead more id (id == stream) refl;
      ended = λ id. ended-after id (id == stream) refl;
    }

-- ---- frames one behind the other

pub defers-outs : (given decided : Record) (left : ℕ → List Token) (frames : List Frame) → Defers given decided left → Defers (with_outs given frames) (with_outs decided frames) left
defers-outs given decided left [] d = d
defers-outs given decided left (frame ∷ frames) d = defers-outs (Out frame ∷ given) (Out frame ∷ decided) left frames (defers-out given decided left d frame)

pub all-due-over : (given decided : Record) (left : ℕ → List Token) (frames : List Frame) → Defers given decided left → AreDue given frames → AreDue decided frames
all-due-over given decided left [] d due = tt
all-due-over given decided left (frame ∷ frames) d due =
    (due-over given decided left d frame due.0, all-due-over (Out frame ∷ given) (Out frame ∷ decided) left frames (defers-out given decided left d frame) due.1)
