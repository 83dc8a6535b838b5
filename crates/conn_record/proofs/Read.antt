-- A timeline is the reading of the bytes that came.
use Rattle.std.proofs.Common.{◌≡◌, ℕ, Bool, true, false, List, [], ◌∷◌, ◌++◌, fold, refl, sym, ap, subst, ◌∙◌, append_assoc, append-nil, true≢false}
use Rattle.links.specs.Link.{Moved, Read, Wrote, Waited, bytes_read}
use Rattle.h2_frames.specs.declared.frame.Frame.{Frame}
use Rattle.h2_frames.specs.declared.reader.Next.{Next}
use Rattle.h2_frames.specs.declared.reader.Next.TheVariants as next
use Rattle.h2_frames.specs.Held.{Held}
use Rattle.h2_frames.specs.Reading.{frame_next, next_of, held_with, held_after}
use Rattle.h2_frames.specs.Run.{Event, Fed, Gave, Leads, nothing_held, stream_of, frames_of, Reads}
use Rattle.h2_frames.proofs.RunLemmas.{reading_of_all}
use Rattle.conn_record.specs.Timeline.{Framing, unframed, is_broken, came, byte_in, byte_out, went, framed_from, framing_of}
use Rattle.conn_record.specs.Read.{came_in, TimelinesAreRead}

-- ---- runs of a reader

leads-on : (events more : List Event) (old between new : Held) → Leads events old between → Leads more between new → Leads (events ++ more) old new
leads-on [] more old between new h k = subst (λ (held : Held). Leads more held new) h k
leads-on (Fed piece ∷ events) more old between new h k = (h.0, (h.1.0, leads-on events more h.0 between new h.1.1 k))
leads-on (Gave frame ∷ events) more old between new h k = (h.0, (h.1.0, leads-on events more h.0 between new h.1.1 k))

stream-on : (events more : List Event) → stream_of (events ++ more) ≡ stream_of events ++ stream_of more
stream-on [] more = refl
stream-on (Fed piece ∷ events) more = ap (λ (xs : List ℕ). piece ++ xs) (stream-on events more) ∙ sym (append_assoc piece (stream_of events) (stream_of more))
stream-on (Gave frame ∷ events) more = stream-on events more

frames-on : (events more : List Event) → frames_of (events ++ more) ≡ frames_of events ++ frames_of more
frames-on [] more = refl
frames-on (Fed piece ∷ events) more = frames-on events more
frames-on (Gave frame ∷ events) more = ap (λ (fs : List Frame). frame ∷ fs) (frames-on events more)

-- a reader that was fed the stream gave the frames that came, and holds the rest
record IsRun (s : Framing) (stream : List ℕ) : Type 0 where
  events : List Event
  leads : Leads events nothing_held s.inflow
  streamed : stream_of events ≡ stream
  gave : frames_of events ≡ came_in s.frames

-- ---- a byte more

abbrev held_then : Framing → ℕ → Held
held_then s byte = held_with s.inflow (byte ∷ [])

module _ (s : Framing) (stream : List ℕ) (byte : ℕ) (run : IsRun s stream) where
  run-came : (n : Next) → next_of (held_then s byte) ≡ n → is_broken (came s (held_then s byte) n).frames ≡ false → IsRun (came s (held_then s byte) n) (stream ++ byte ∷ [])
  run-came (next.Frame frame) e sound =
      let held = held_then s byte in
      let more : List Event = Fed (byte ∷ []) ∷ Gave frame ∷ [] in
      record {
        events = run.events ++ more;
        leads = leads-on run.events more nothing_held s.inflow (held_after held (next.Frame frame)) run.leads (held, (refl, (held_after held (next.Frame frame), ((e, refl), refl))));
        streamed = stream-on run.events more ∙ ap (λ (xs : List ℕ). xs ++ byte ∷ []) run.streamed;
        gave = frames-on run.events more ∙ ap (λ (fs : List Frame). fs ++ frame ∷ []) run.gave;
      }
  run-came next.More e sound =
      let held = held_then s byte in
      let more : List Event = Fed (byte ∷ []) ∷ [] in
      record {
        events = run.events ++ more;
        leads = leads-on run.events more nothing_held s.inflow held run.leads (held, (refl, refl));
        streamed = stream-on run.events more ∙ ap (λ (xs : List ℕ). xs ++ byte ∷ []) run.streamed;
        gave = frames-on run.events more ∙ append-nil (frames_of run.events) ∙ run.gave;
      }
  run-came (next.Fault fault) e sound = absurd (true≢false sound)

-- while no rule is broken
abbrev Runs : Framing → List ℕ → Type 0
Runs s stream = is_broken s.frames ≡ false → IsRun s stream

came-sound : (s : Framing) (held : Held) (n : Next) → is_broken (came s held n).frames ≡ false → is_broken s.frames ≡ false
came-sound s held (next.Frame frame) sound = sound
came-sound s held next.More sound = sound
came-sound s held (next.Fault fault) sound = absurd (true≢false sound)

runs-in : (s : Framing) (stream : List ℕ) (byte : ℕ) → Runs s stream → Runs (byte_in s byte) (stream ++ byte ∷ [])
unfolding byte_in
runs-in s stream byte runs = by (is_broken s.frames) refl
  where
    by : (broken : Bool) → is_broken s.frames ≡ broken → Runs (byte_in s byte) (stream ++ byte ∷ [])
    by true e = λ sound. absurd (true≢false (sym e ∙ (rw e at sound)))
    by false e = rw e (λ sound. run-came s stream byte (runs (came-sound s (held_then s byte) (next_of (held_then s byte)) sound)) (next_of (held_then s byte)) refl sound)

runs-reads : (bytes : List ℕ) (s : Framing) (stream : List ℕ) → Runs s stream → Runs (fold byte_in s bytes) (stream ++ bytes)
runs-reads [] s stream runs = subst (Runs s) (sym (append-nil stream)) runs
runs-reads (b ∷ bytes) s stream runs =
    subst (Runs (fold byte_in (byte_in s b) bytes)) (append_assoc stream (b ∷ []) bytes) (runs-reads bytes (byte_in s b) (stream ++ b ∷ []) (runs-in s stream b runs))

-- ---- what goes changes none of it

runs-went : (s : Framing) (stream bytes : List ℕ) (n : Next) → Runs s stream → Runs (went s bytes n) stream
runs-went s stream bytes (next.Frame frame) runs sound = let run = runs sound in record { events = run.events; leads = run.leads; streamed = run.streamed; gave = run.gave }
runs-went s stream bytes next.More runs sound = let run = runs sound in record { events = run.events; leads = run.leads; streamed = run.streamed; gave = run.gave }
runs-went s stream bytes (next.Fault fault) runs sound = let run = runs sound in record { events = run.events; leads = run.leads; streamed = run.streamed; gave = run.gave }

runs-writes : (bytes : List ℕ) (s : Framing) (stream : List ℕ) → Runs s stream → Runs (fold byte_out s bytes) stream
unfolding byte_out
runs-writes [] s stream runs = runs
runs-writes (b ∷ bytes) s stream runs = runs-writes bytes (byte_out s b) stream (runs-went s stream (s.outflow ++ b ∷ []) (frame_next (s.outflow ++ b ∷ [])) runs)

-- ---- a log

runs-from : (log : List Moved) (s : Framing) (stream : List ℕ) → Runs s stream → Runs (framed_from s log) (stream ++ bytes_read log)
runs-from [] s stream runs = subst (Runs s) (sym (append-nil stream)) runs
runs-from (Read bytes ∷ log) s stream runs =
    subst (Runs (framed_from (fold byte_in s bytes) log)) (append_assoc stream bytes (bytes_read log)) (runs-from log (fold byte_in s bytes) (stream ++ bytes) (runs-reads bytes s stream runs))
runs-from (Wrote bytes ∷ log) s stream runs = runs-from log (fold byte_out s bytes) stream (runs-writes bytes s stream runs)
runs-from (Waited ∷ log) s stream runs = runs-from log s stream runs

runs-log : (log : List Moved) → Runs (framing_of log) (bytes_read log)
unfolding framing_of
runs-log log = runs-from log unframed [] (λ sound. record { events = []; leads = refl; streamed = refl; gave = refl })

pub timelines-are-read : TimelinesAreRead
timelines-are-read log sound =
    let run = runs-log log sound in
    let s = framing_of log in
    subst (λ (stream : List ℕ). Reads s.inflow.started s.inflow.bytes stream (came_in s.frames)) run.streamed
    (subst (λ (fs : List Frame). Reads s.inflow.started s.inflow.bytes (stream_of run.events) fs) run.gave (reading_of_all run.events s.inflow run.leads))
