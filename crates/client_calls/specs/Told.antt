-- What a client's frames tell the server, each where it comes, whatever went the other way until then.
use Rattle.std.specs.Prelude.{◌≡◌, ◌<◌, true, false, List, [], ◌∷◌, length, pos, int_lt}
use Rattle.hpack_blocks.specs.declared.fields.Field.{Field}
use Rattle.hpack_blocks.specs.Spelling.{BlockReadsBack}
use Rattle.h2_frames.specs.declared.frame.Frame.{Frame}
use Rattle.h2_frames.specs.declared.frame.Frame.TheVariants as frames
use Rattle.h2_record.specs.declared.event.Event.TheVariants as event
use Rattle.h2_record.specs.Record.{Record}
use Rattle.h2_record.specs.Windows.{receive_window_of}
use Rattle.h2_record.specs.Refusals.{most_streams}
use Rattle.h2_record.specs.Resets.{live_of, is_open}
use Rattle.h2_record.specs.Events.{events_of}
use Rattle.client_calls.specs.Sound.{IsAt}

-- HEADERS open their call, unless as many streams live as may (section 5.1.2). DATA are heard on a stream on which the
-- client may still send, as far as its window goes (section 5.2). SETTINGS tell nothing.
abbrev pub Tells : Record → Frame → Type 0
Tells r (frames.Headers id end whole block) =
    length (live_of r) < most_streams → (fields : List Field) → BlockReadsBack false fields block → events_of r (frames.Headers id end whole block) ≡ event.Opened id fields end ∷ []
Tells r (frames.Body id end payload counted) =
    is_open r id ≡ true → int_lt (receive_window_of r id) (pos counted) ≡ false → events_of r (frames.Body id end payload counted) ≡ event.Body id payload end ∷ []
Tells r frame = events_of r frame ≡ []

abbrev pub TellEach : List Frame → Type 0
TellEach sent = (r : Record) (frame : Frame) (later : List Frame) → IsAt r sent (frame ∷ later) → Tells r frame
