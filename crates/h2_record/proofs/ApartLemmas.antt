-- A frame that came on one stream leaves what a record says of all others.
use Rattle.std.proofs.Common.{◌≡◌, ℕ, ◌+◌, ◌==◌, Bool, true, false, not, ◌&&◌, ◌||◌, List, [], ◌∷◌, ◌++◌, Option, None, Some, pos, ◌-ℤ◌, refl, ap, ◌∙◌, if◌then◌else◌}
use Rattle.h2_frames.specs.declared.frame.Frame.{Frame}
use Rattle.h2_frames.specs.declared.frame.Frame.TheVariants as frames
use Rattle.h2_answers.specs.Replies.{drop_bytes}
use Rattle.h2_record.specs.Record.{Record, In, any_in, any_out, sum_in, sum_out}
use Rattle.h2_record.specs.Windows.{with_increment, with_payload, initial_of, first_window, data_out}
use Rattle.h2_record.specs.Live.{Reset, opens, ends, finishes, cancels, is_reset, is_live_with}
use Rattle.h2_record.specs.Resets.{reset_by, with_reset, resets_of, is_live, is_open, stream_of}
use Rattle.h2_record.specs.Replies.{unwritten_of, replies_of}
use Rattle.h2_record.specs.Texts.{codes_on}
use Rattle.h2_record.specs.Fresh.{is_on}

-- a frame that isn't on the id
pub record Apart (other : ℕ) (frame : Frame) : Type 0 where
  pub opens : opens other frame ≡ false
  pub ends : ends other frame ≡ false
  pub cancels : cancels other frame ≡ false
  pub increments : (sum : ℕ) → with_increment other frame sum ≡ sum
  pub payloads : (sum : ℕ) → with_payload other frame sum ≡ sum

and-none : (a b : Bool) → b ≡ false → (a && b) ≡ false
and-none true b e = e
and-none false b e = refl

pub apart : (other : ℕ) (frame : Frame) → is_on other frame ≡ false → Apart other frame
apart other (frames.Body stream end bytes counted) off = record {
  opens = refl;
  ends = and-none end (other == stream) off;
  cancels = refl;
  increments = λ sum. refl;
  payloads = λ sum i. if off i then sum + counted else sum;
}
apart other (frames.Headers stream end whole fragment) off = record {
  opens = off;
  ends = and-none end (other == stream) off;
  cancels = refl;
  increments = λ sum. refl;
  payloads = λ sum. refl;
}
apart other (frames.Reset stream code) off = record { opens = refl; ends = refl; cancels = off; increments = λ sum. refl; payloads = λ sum. refl }
apart other (frames.Window stream add) off = record {
  opens = refl;
  ends = refl;
  cancels = refl;
  increments = λ sum i. if off i then sum + add else sum;
  payloads = λ sum. refl;
}
apart other (frames.Priority stream) off = record { opens = refl; ends = refl; cancels = refl; increments = λ sum. refl; payloads = λ sum. refl }
apart other (frames.Settings acked pairs) off = record { opens = refl; ends = refl; cancels = refl; increments = λ sum. refl; payloads = λ sum. refl }
apart other (frames.Push stream) off = record { opens = refl; ends = refl; cancels = refl; increments = λ sum. refl; payloads = λ sum. refl }
apart other (frames.Ping acked octets) off = record { opens = refl; ends = refl; cancels = refl; increments = λ sum. refl; payloads = λ sum. refl }
apart other (frames.Goaway last code) off = record { opens = refl; ends = refl; cancels = refl; increments = λ sum. refl; payloads = λ sum. refl }
apart other (frames.Continuation stream whole fragment) off = record { opens = refl; ends = refl; cancels = refl; increments = λ sum. refl; payloads = λ sum. refl }
apart other (frames.Unknown kind stream) off = record { opens = refl; ends = refl; cancels = refl; increments = λ sum. refl; payloads = λ sum. refl }

pub finishes-off : (id : ℕ) (frame : Frame) → is_on id frame ≡ false → finishes id frame ≡ false
finishes-off id (frames.Headers stream end whole fragment) off = and-none end (id == stream) off
finishes-off id frame off = refl

-- a reset that isn't of the id
abbrev pub IsAway : Option Reset → ℕ → Type 0
IsAway None other = Unit {0}
IsAway (Some reset) other = (other == reset.stream) ≡ false

pub is_reset-away : (x : Option Reset) (resets : List Reset) (other : ℕ) → IsAway x other → is_reset (with_reset resets x) other ≡ is_reset resets other
is_reset-away None resets other away = refl
is_reset-away (Some reset) resets other away = ap (λ b. b || is_reset resets other) away

pub codes-away : (x : Option Reset) (resets : List Reset) (other : ℕ) → IsAway x other → codes_on (with_reset resets x) other ≡ codes_on resets other
codes-away None resets other away = refl
codes-away (Some reset) resets other away = ap (λ b. if b then codes_on resets other ++ reset.code ∷ [] else codes_on resets other) away

module _ (r : Record) (frame : Frame) (x : Option Reset) (made : reset_by (resets_of r) r frame ≡ x) (other : ℕ) (off : is_on other frame ≡ false) (away : IsAway x other) where
  resets-made : resets_of (In frame ∷ r) ≡ with_reset (resets_of r) x
  resets-made = ap (with_reset (resets_of r)) made

  pub is_reset-other : is_reset (resets_of (In frame ∷ r)) other ≡ is_reset (resets_of r) other
  is_reset-other = ap (λ resets. is_reset resets other) resets-made ∙ is_reset-away x (resets_of r) other away

  pub codes-other : codes_on (resets_of (In frame ∷ r)) other ≡ codes_on (resets_of r) other
  codes-other = ap (λ resets. codes_on resets other) resets-made ∙ codes-away x (resets_of r) other away

  pub live-other : is_live (In frame ∷ r) other ≡ is_live r other
  unfolding is_live_with
  live-other = let a = apart other frame off in
      λ i. (a.opens i || any_in (opens other) r) && not (0 == other) && not (is_reset-other i) && not (a.cancels i || any_in (cancels other) r)
      && not ((a.ends i || any_in (ends other) r) && any_out (finishes other) r)

  pub open-other : is_open (In frame ∷ r) other ≡ is_open r other
  open-other = let a = apart other frame off in λ i. live-other i && not (a.ends i || any_in (ends other) r)

  pub unwritten-other : unwritten_of (In frame ∷ r) other ≡ unwritten_of r other
  unwritten-other = λ i. if live-other i then drop_bytes (data_out r other) (replies_of r other) else []

  pub found-other : initial_of (In frame ∷ r) ≡ initial_of r → stream_of (In frame ∷ r) other ≡ stream_of r other
  found-other steady = let a = apart other frame off in
      λ i. if live-other i then Some (record {
        send = pos ((a.increments (sum_in (with_increment other) (initial_of (In frame ∷ r)) r) ∙ ap (λ initial. sum_in (with_increment other) initial r) steady) i) -ℤ pos (data_out r other);
        receive = pos (sum_out (with_increment other) first_window r) -ℤ pos (a.payloads (sum_in (with_payload other) 0 r) i);
        ended = a.ends i || any_in (ends other) r;
        answered = any_out (finishes other) r;
      }) else None

-- a reset of this stream, or none
abbrev pub IsOf : Option Reset → ℕ → Type 0
IsOf None id = Unit {0}
IsOf (Some reset) id = reset.stream ≡ id

pub away-of : (x : Option Reset) (id other : ℕ) → IsOf x id → (other == id) ≡ false → IsAway x other
away-of None id other of off = tt
away-of (Some reset) id other of off = ap (λ s. other == s) of ∙ off
