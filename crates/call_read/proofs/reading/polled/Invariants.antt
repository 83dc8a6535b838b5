-- What was given and what is left are what the body was to give.
use Rattle.std.proofs.Common.{◌<◌, length}
use Rattle.call_read.proofs.ItemLemmas.{Told}
use Rattle.call_read.proofs.reading.polled.Given as goal

abbrev pub invariant-loop-message : goal.invariant-loop-message
invariant-loop-message l = record {
  told : Told l.initial.body.left l.body.left l.messages.items;
  room : 0 < l.body.room;
}

abbrev pub decreases-loop-message : goal.decreases-loop-message
decreases-loop-message l = length l.body.left
