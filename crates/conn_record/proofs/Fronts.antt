-- Where each frame that went was due, what went is a front of what was to go.
use Rattle.std.proofs.Common.{[], ◌∷◌, ◌++◌}
use Rattle.h2_frames.specs.declared.frame.Frame.TheVariants as frames
use Rattle.h2_record.specs.Record.{Record, In, Out, Given, Whole, Broken}
use Rattle.h2_record.specs.Written.{EachWasDue}
use Rattle.h2_record.proofs.WrittenLaws.{written-front}
use Rattle.h2_record.proofs.DueFronts.{control-front, codes-front}
use Rattle.conn_record.specs.Fronts.{TextsAreFronts, ControlIsFront, ResetsAreFronts, DueInPlace, DataWithinWindows, DueGoesOn}

pub texts-are-fronts : TextsAreFronts
texts-are-fronts r id each = written-front r each id

pub control-is-front : ControlIsFront
control-is-front r each = control-front r each

pub resets-are-fronts : ResetsAreFronts
resets-are-fronts r id each = codes-front r each id

-- ---- places

each-older : (newer older : Record) → EachWasDue (newer ++ older) → EachWasDue older
each-older [] older each = each
each-older (In frame ∷ newer) older each = each-older newer older each
each-older (Out frame ∷ newer) older each = each-older newer older each.1
each-older (Given stream part ∷ newer) older each = each-older newer older each
each-older (Whole ∷ newer) older each = each-older newer older each
each-older (Broken fault ∷ newer) older each = each-older newer older each

pub due-in-place : DueInPlace
due-in-place newer older frame each = (each-older newer (Out frame ∷ older) each).0

pub data-within-windows : DataWithinWindows
data-within-windows newer older stream counted ended bytes each =
    let due = due-in-place newer older (frames.Body stream ended bytes counted) each in
    (due.stream, due.connection)

pub due-goes-on : DueGoesOn
due-goes-on r [] others each due = (each, due)
due-goes-on r (frame ∷ first) others each due = due-goes-on (Out frame ∷ r) first others (due.0, each) due.1
