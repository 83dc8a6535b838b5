-- The links so far are new.
use Rattle.std.proofs.Common.{◌≡◌, true}
use Rattle.std.specs.List.{list_all}
use Rattle.doors.specs.Memory.{is_new}
use Rattle.program_answers.proofs.crowd_tests.crowd.Given as goal

abbrev pub invariant-loop : goal.invariant-loop
invariant-loop l = list_all is_new l.links.items ≡ true
