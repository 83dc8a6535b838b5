-- What a whole header block tells, or that it is malformed.
use Rattle.std.specs.Prelude.{◌≡◌, true, false, List, Option, None, Some}
use Rattle.hpack_blocks.specs.declared.fields.Field.{Field}
use Rattle.hpack_blocks.specs.Answers.{Standing, Open}
use Rattle.hpack_blocks.specs.Block.{Block}
use Rattle.hpack_blocks.specs.Table.{Table}
use Rattle.h2_frames.specs.declared.frame.Frame.{Frame}
use Rattle.h2_record.specs.declared.block.OpenBlock.{OpenBlock}
use Rattle.h2_conn.specs.declared.whole_block.BlockTold.{BlockTold}
use Rattle.h2_conn.specs.declared.whole_block.BlockTold.TheVariants as heard
use Rattle.h2_record.specs.Record.{Record}
use Rattle.h2_record.specs.Blocks.{whole_block, reading_of}
use Rattle.h2_record.specs.Refusals.{is_malformed_block, malformed_reading}
use Rattle.h2_record.specs.Events.{block_event, read_event}

-- a block with these fields
abbrev pub Judges : OpenBlock → List Field → BlockTold → Type 0
Judges block fields heard.Malformed = is_malformed_block block fields ≡ true
Judges block fields (heard.Tells event) = (is_malformed_block block fields ≡ false) × (event ≡ block_event block fields)

-- a block, by what it reads as, and the decoder behind it; none where it isn't in the grammar
abbrev pub ReadsBlock : OpenBlock → Block → Option BlockTold → (new : Standing) → Type 0
ReadsBlock block read None new = read ≡ None
ReadsBlock block read (Some heard) new = (fields : List Field) × (after : Table) × (read ≡ Some (fields, after)) × Judges block fields heard × (new ≡ Open after)

-- what the block tells that a frame makes whole; none where it makes none whole
abbrev pub Tells : Record → Frame → Option BlockTold → Type 0
Tells r frame None = whole_block r frame ≡ None
Tells r frame (Some heard.Malformed) = (block : OpenBlock) × (whole_block r frame ≡ Some block) × (malformed_reading block (reading_of r block) ≡ true)
Tells r frame (Some (heard.Tells event)) =
    (block : OpenBlock) × (whole_block r frame ≡ Some block) × (malformed_reading block (reading_of r block) ≡ false) × (read_event block (reading_of r block) ≡ Some event)
