-- What a hand shows, and whose it is.
use Rattle.crossbeam_queue.specs.Passes.{view, IsPassOf}
use Rattle.job_queue.specs.declared.hands.Known.{Known}
use Rattle.job_queue.specs.declared.queue.Hand.{Hand}
use Rattle.job_queue.specs.declared.queue.Queue.{Queue}

module _ {T : Type 0} where
  abbrev pub known : Hand T → Known T
  known hand = view hand.pass

  -- the hand is one of this queue's
  abbrev pub IsOf : Queue T → Hand T → Type 0
  IsOf queue hand = IsPassOf queue.line hand.pass
