-- The parts of a call are written one behind the other.
use Rattle.std.proofs.Common.{ℕ, List, ◌++◌, ap, ◌∙◌}
use Rattle.std.specs.List.{flat_map}
use Rattle.client_calls.specs.Frames.{message_bytes}
use Rattle.client_calls.proofs.ByteLemmas.{call-written}
use Rattle.client_calls.proofs.writing.put_call.Goals as goal

pub returns : goal.returns
returns c =
    let call = c.args.call.now in
    let said = c.in_ok-put_messages.ensures ∙ ap (λ (ms : List (List ℕ)). c.put_request.new.out.items ++ flat_map (message_bytes call.stream) ms) c.deref.ensures.value in
    call-written call c.args.out.now.items c.put_request.new.out.items c.put_messages.new.out.items c.put_end.new.out.items c.in_ok-put_request.ensures said c.in_ok-put_end.ensures
