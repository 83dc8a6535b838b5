-- The messages so far stand in DATA of their own.
use Rattle.std.proofs.Common.{◌≡◌, ◌++◌, take}
use Rattle.std.specs.List.{flat_map}
use Rattle.client_calls.specs.Frames.{message_bytes}
use Rattle.client_calls.proofs.writing.put_messages.Given as goal

abbrev pub invariant-loop-message : goal.invariant-loop-message
invariant-loop-message l = l.out.items ≡ l.fn.out.items ++ flat_map (message_bytes l.stream) (take l.message-index l.messages)
