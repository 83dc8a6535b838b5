-- What a frame tells the caller.
use Rattle.std.specs.Prelude.{nat_lt, Bool, false, not, ◌&&◌, List, [], ◌∷◌, Option, Some, None, option_to_list, if◌then◌else◌}
use Rattle.hpack_blocks.specs.declared.fields.Field.{Field}
use Rattle.hpack_blocks.specs.Answers.{MAX}
use Rattle.hpack_blocks.specs.Block.{Block}
use Rattle.hpack_blocks.specs.Table.{list_size}
use Rattle.h2_frames.specs.declared.frame.Frame.{Frame}
use Rattle.h2_frames.specs.declared.frame.Frame.TheVariants as frames
use Rattle.h2_frames.specs.declared.fault.H2Fault.{H2Fault}
use Rattle.h2_record.specs.declared.block.OpenBlock.{OpenBlock}
use Rattle.h2_record.specs.declared.event.Event.{Event}
use Rattle.h2_record.specs.declared.event.Event.TheVariants as event
use Rattle.h2_record.specs.Record.{Record}
use Rattle.h2_record.specs.Blocks.{whole_block, reading_of}
use Rattle.h2_record.specs.Faults.{fault_by, first_fault_of}
use Rattle.h2_record.specs.Live.{Reset}
use Rattle.h2_record.specs.Resets.{reset_by, resets_of, is_live}
use Rattle.h2_record.specs.Refusals.{is_served}

-- A whole block of a live stream: the request, or the trailers that end it. They aren't malformed here.
abbrev pub block_event : OpenBlock → List Field → Event
block_event block fields =
    if block.is_late then event.Ended block.stream
    else if nat_lt MAX (list_size fields) then event.TooLarge block.stream
    else event.Opened block.stream fields block.ended

abbrev pub read_event : OpenBlock → Block → Option Event
read_event block None = None
read_event block (Some read) = Some (block_event block read.0)

abbrev pub whole_event : Record → Option OpenBlock → Option Event
whole_event r None = None
whole_event r (Some block) = read_event block (reading_of r block)

-- what a frame tells by which the server resets no stream
abbrev pub served_event : Record → Frame → Option Event
served_event r (frames.Body stream ended bytes counted) = if is_live r stream then Some (event.Body stream bytes ended) else None
served_event r (frames.Reset stream code) = if is_live r stream then Some (event.Reset stream code) else None
served_event r frame = if is_served (resets_of r) r frame then whole_event r (whole_block r frame) else None

-- whether the block is a request's, which hasn't been told before
abbrev pub is_request : Option OpenBlock → Bool
is_request None = false
is_request (Some block) = not block.is_late

-- A reset of the server's is told where the stream lived and was told before.
abbrev pub event_by : Record → Frame → Option Reset → Option Event
event_by r frame None = served_event r frame
event_by r frame (Some reset) =
    if is_live r reset.stream && not (is_request (whole_block r frame)) then Some (event.Reset reset.stream reset.code) else None

abbrev pub fault_event : H2Fault → Event
fault_event fault = event.Fault fault.code fault.rule

-- nothing is told behind a fault
abbrev pub events_behind : Record → Frame → (earlier fault : Option H2Fault) → List Event
events_behind r frame (Some earlier) fault = []
events_behind r frame None (Some fault) = fault_event fault ∷ []
events_behind r frame None None = option_to_list (event_by r frame (reset_by (resets_of r) r frame))

-- what a frame tells on a connection of which this is the record before it
abbrev pub events_of : Record → Frame → List Event
events_of r frame = events_behind r frame (first_fault_of r) (fault_by r frame)
