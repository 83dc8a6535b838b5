-- What is left of the calls may follow the one before.
use Rattle.std.proofs.Common.{◌≡◌, drop}
use Rattle.client_calls.specs.Calls.{may_follow, may_send}
use Rattle.client_calls.proofs.calls.may_send.Given as goal

abbrev pub invariant-loop-call : goal.invariant-loop-call
invariant-loop-call l = may_follow l.last (drop l.call-index l.calls) ≡ may_send l.calls
