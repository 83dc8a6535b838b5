-- What happened on a connection, the newest first: the frames that came and those that went, and between them the
-- marks of what the caller did.
use Rattle.std.specs.Prelude.{ℕ, Bool, true, false, ◌||◌, List, [], ◌∷◌}
use Rattle.hpack_blocks.specs.declared.fields.Field.{Field}
use Rattle.h2_frames.specs.declared.frame.Frame.{Frame}
use Rattle.h2_frames.specs.declared.fault.H2Fault.{H2Fault}

-- a part of the answer on a stream
pub data AnswerPart : Type 0 where
  -- the first fields, and whether they end the stream
  Head : List Field → Bool → AnswerPart
  -- a reply
  Reply : List ℕ → AnswerPart
  -- the last fields, which end the stream
  Tail : List Field → AnswerPart
  -- the stream is given up, with this error code
  Abort : ℕ → AnswerPart

pub data Item : Type 0 where
  -- a frame came
  In : Frame → Item
  -- a frame went
  Out : Frame → Item
  -- the caller gave a part of the answer on this stream
  Given : ℕ → AnswerPart → Item
  -- the latest frame made a request whole
  Whole : Item
  -- in place of a frame came bytes that break one of the rules of framing
  Broken : H2Fault → Item

abbrev pub Record : Type 0
Record = List Item

-- whether a frame that came passes the test, and whether one that went does
module _ (test : Frame → Bool) where
  abbrev pub any_in : Record → Bool
  any_in [] = false
  any_in (In frame ∷ r) = test frame || any_in r
  any_in (_ ∷ r) = any_in r

  abbrev pub any_out : Record → Bool
  any_out [] = false
  any_out (Out frame ∷ r) = test frame || any_out r
  any_out (_ ∷ r) = any_out r

-- what the frames that came add up to, and those that went; `count` adds a frame's part to a sum
module _ (count : Frame → ℕ → ℕ) where
  abbrev pub sum_in : ℕ → Record → ℕ
  sum_in start [] = start
  sum_in start (In frame ∷ r) = count frame (sum_in start r)
  sum_in start (_ ∷ r) = sum_in start r

  abbrev pub sum_out : ℕ → Record → ℕ
  sum_out start [] = start
  sum_out start (Out frame ∷ r) = count frame (sum_out start r)
  sum_out start (_ ∷ r) = sum_out start r

-- whether a frame came at all
abbrev pub has_begun : Record → Bool
has_begun r = any_in (λ frame. true) r
