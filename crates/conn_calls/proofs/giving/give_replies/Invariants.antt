use Rattle.std.proofs.Common.{map, take}
use Rattle.conn_requests.specs.Given.{reply_of}
use Rattle.conn_calls.specs.Giving.{Gives}
use Rattle.conn_calls.proofs.giving.give_replies.Given as goal

-- the messages so far are given
abbrev pub invariant-loop-message : goal.invariant-loop-message
invariant-loop-message l = Gives l.initial.conn l.conn l.id (map reply_of (take l.message-index l.messages))
