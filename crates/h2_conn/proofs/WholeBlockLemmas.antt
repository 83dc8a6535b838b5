-- What a whole header block makes due, and tells.
use Rattle.std.proofs.Common.{◌≡◌, ℕ, nat_lt, Bool, true, false, not, List, Option, None, Some, refl, sym, ap, ◌∙◌, if◌then◌else◌}
use Rattle.h2_frames.specs.declared.frame.Frame.{Frame}
use Rattle.h2_frames.specs.declared.frame.Frame.TheVariants as frames
use Rattle.h2_record.specs.declared.block.OpenBlock.{OpenBlock}
use Rattle.h2_record.specs.declared.event.Event.{Event}
use Rattle.h2_conn.specs.declared.whole_block.BlockTold.{BlockTold}
use Rattle.h2_conn.specs.declared.whole_block.BlockTold.TheVariants as heard
use Rattle.h2_record.specs.Record.{Record}
use Rattle.h2_record.specs.Ids.{last_of}
use Rattle.h2_record.specs.Blocks.{begun_block, whole_block}
use Rattle.h2_record.specs.Refusals.{malformed_block, first_reset}
use Rattle.h2_record.specs.Events.{whole_event, is_request}
use Rattle.h2_conn.specs.WholeBlock.{Tells}

-- what a block that isn't malformed tells
abbrev pub told : Option BlockTold → Option Event
told None = None
told (Some heard.Malformed) = None
told (Some (heard.Tells event)) = Some event

pub data IsFine : Option BlockTold → Type 0 where
  Unfinished : IsFine None
  Telling : (event : Event) → IsFine (Some (heard.Tells event))

pub fine-reset : (r : Record) (frame : Frame) (h : Option BlockTold) → IsFine h → Tells r frame h → malformed_block r (whole_block r frame) ≡ None
fine-reset r frame h Unfinished tells = ap (malformed_block r) tells
fine-reset r frame h (Telling event) tells = ap (malformed_block r) tells.1 ∙ (λ i. if tells.2 i then first_reset (tells.0).stream 1 else None)

pub fine-event : (r : Record) (frame : Frame) (h : Option BlockTold) → IsFine h → Tells r frame h → whole_event r (whole_block r frame) ≡ told h
fine-event r frame h Unfinished tells = ap (whole_event r) tells
fine-event r frame h (Telling event) tells = ap (whole_event r) tells.1 ∙ tells.3

pub bad-reset : (r : Record) (frame : Frame) (tells : Tells r frame (Some heard.Malformed)) → malformed_block r (whole_block r frame) ≡ first_reset (tells.0).stream 1
bad-reset r frame tells = ap (malformed_block r) tells.1 ∙ (λ i. if tells.2 i then first_reset (tells.0).stream 1 else None)

-- the block of HEADERS
pub headers-stream : (r : Record) (stream : ℕ) (ended whole : Bool) (fragment : List ℕ) (block : OpenBlock) → whole_block r (frames.Headers stream ended whole fragment) ≡ Some block → block.stream ≡ stream
headers-stream r stream ended true fragment block e = let same : begun_block r stream ended fragment ≡ block = cc in ap (λ (b : OpenBlock). b.stream) (sym same)
headers-stream r stream ended false fragment block e = absurd (cc)

pub no-request : (r : Record) (stream : ℕ) (ended whole : Bool) (fragment : List ℕ) → nat_lt (last_of r) stream ≡ false → is_request (whole_block r (frames.Headers stream ended whole fragment)) ≡ false
no-request r stream ended true fragment late = λ i. not (not (late i))
no-request r stream ended false fragment late = refl

pub a-request : (r : Record) (stream : ℕ) (ended : Bool) (fragment : List ℕ) → nat_lt (last_of r) stream ≡ true → is_request (whole_block r (frames.Headers stream ended true fragment)) ≡ true
a-request r stream ended fragment risen = λ i. not (not (risen i))
