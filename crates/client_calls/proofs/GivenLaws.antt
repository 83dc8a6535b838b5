-- The bytes of the calls are as they were given.
use Rattle.std.proofs.Common.{◌≡◌, ℕ, true, List, ◌++◌, Result, Ok, Err, IfOk, IsTrue, refl, arith}
use Rattle.std.specs.List.{flat_map}
use Rattle.outside.specs.declared.wants.Memory.{Memory}
use Rattle.h2_frames.specs.Reading.{preface}
use Rattle.h2_frames.specs.Spelling.{spelling}
use Rattle.h2_frames.specs.declared.frame.Frame.{Frame}
use Rattle.client_calls.specs.declared.calls.ClientCall.{ClientCall}
use Rattle.client_calls.specs.Calls.{may_send}
use Rattle.client_calls.specs.Frames.{settings_frame, call_frames, client_frames}
use Rattle.client_calls.specs.Given.{AsGiven}
use Rattle.client_calls.proofs.Going.{Goes, IsSendable, goes-writable, are-frames}
use Rattle.client_calls.proofs.Standing.{unfaulted}
use Rattle.client_calls.proofs.Telling.{tell-each}
use Rattle.client_calls.proofs.ReadingLaws.{finds-none}
use Rattle.client_calls.proofs.CallLemmas.{are-calls, goes-calls}

settings-sendable : IsSendable settings_frame
settings-sendable = (((omega arith, λ none. refl), tt), tt)

pub as-given : (calls : List ClientCall) → may_send calls ≡ true → AsGiven calls (preface ++ flat_map spelling (client_frames calls))
as-given calls may =
    let sent : List Frame = flat_map call_frames calls in
    let goes : Goes 0 sent = goes-calls 0 calls may in
    let text : List ℕ = flat_map spelling (client_frames calls) in
    let are = are-frames (client_frames calls) (settings-sendable, goes-writable 0 sent goes) in
    record {
      sent = sent;
      read = (text, refl, are);
      framed = finds-none (client_frames calls) text are;
      calls = are-calls 0 calls may;
      sound = unfaulted sent goes;
      told = tell-each sent goes;
    }

pub given-result : (calls : List ClientCall) (r : Result (List ℕ) Memory) → IsTrue (may_send calls) → IfOk r (λ bytes. bytes ≡ preface ++ flat_map spelling (client_frames calls)) → IfOk r (λ bytes. AsGiven calls bytes)
given-result calls (Ok bytes) may is = rw is (as-given calls may)
given-result calls (Err fault) may is = tt
