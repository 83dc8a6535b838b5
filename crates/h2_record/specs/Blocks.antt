-- Header blocks, from the fragments of HEADERS and CONTINUATION (RFC 9113 section 4.3), and the table of HPACK.
use Rattle.std.specs.Prelude.{ℕ, ◌+◌, nat_lt, Bool, true, false, not, List, [], ◌∷◌, ◌++◌, Option, Some, None, option_map}
use Rattle.hpack_blocks.specs.Block.{Block, block_of}
use Rattle.hpack_blocks.specs.Table.{Table}
use Rattle.h2_frames.specs.declared.frame.Frame.{Frame}
use Rattle.h2_frames.specs.declared.frame.Frame.TheVariants as frames
use Rattle.h2_record.specs.declared.block.OpenBlock.{OpenBlock}
use Rattle.h2_record.specs.Record.{Record, In}
use Rattle.h2_record.specs.Ids.{last_of}

-- HEADERS begin a block
abbrev pub begun_block : Record → (stream : ℕ) (ended : Bool) → List ℕ → OpenBlock
begun_block r stream ended fragment =
    record { stream = stream; ended = ended; is_late = not (nat_lt (last_of r) stream); bytes = fragment; continuations = 0 }

-- CONTINUATION goes on with it
abbrev pub continued : List ℕ → OpenBlock → OpenBlock
continued fragment block = record block { bytes = block.bytes ++ fragment; continuations = block.continuations + 1 }

-- the block whose END_HEADERS hasn't come
abbrev pub open_of : Record → Option OpenBlock
open_of [] = None
open_of (In (frames.Headers stream ended false fragment) ∷ r) = Some (begun_block r stream ended fragment)
open_of (In (frames.Headers stream ended true fragment) ∷ r) = None
open_of (In (frames.Continuation stream false fragment) ∷ r) = option_map (continued fragment) (open_of r)
open_of (In (frames.Continuation stream true fragment) ∷ r) = None
open_of (_ ∷ r) = open_of r

-- the block that a frame begins or goes on with
abbrev pub block_with : Record → Frame → Option OpenBlock
block_with r (frames.Headers stream ended whole fragment) = Some (begun_block r stream ended fragment)
block_with r (frames.Continuation stream whole fragment) = option_map (continued fragment) (open_of r)
block_with r _ = None

-- the block that a frame makes whole
abbrev pub whole_block : Record → Frame → Option OpenBlock
whole_block r (frames.Headers stream ended true fragment) = Some (begun_block r stream ended fragment)
whole_block r (frames.Continuation stream true fragment) = option_map (continued fragment) (open_of r)
whole_block r _ = None

-- the table behind a block; one that isn't in the grammar is a connection error
abbrev pub table_behind : Table → Block → Table
table_behind table None = table
table_behind table (Some read) = read.1

abbrev pub table_after : Table → Option OpenBlock → Table
table_after table None = table
table_after table (Some block) = table_behind table (block_of table block.bytes)

-- the table that the blocks which came leave
abbrev pub table_of : Record → Table
table_of [] = record { max = 4096; entries = [] }
table_of (In frame ∷ r) = table_after (table_of r) (whole_block r frame)
table_of (_ ∷ r) = table_of r

-- what a block reads as
abbrev pub reading_of : Record → OpenBlock → Block
reading_of r block = block_of (table_of r) block.bytes
