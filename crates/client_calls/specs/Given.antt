-- That bytes are a client's whole connection with the calls that it was given.
use Rattle.std.specs.Prelude.{◌≡◌, ℕ, ◌<◌, ◌≤◌, true, false, List, [], ◌∷◌, ◌++◌, length, map}
use Rattle.std.specs.List.{concat, AllByRecursion}
use Rattle.h2_frames.specs.Header.{max_frame_size}
use Rattle.h2_frames.specs.Run.{Reads}
use Rattle.h2_frames.specs.declared.frame.Frame.{Frame}
use Rattle.h2_frames.specs.declared.frame.Frame.TheVariants as frames
use Rattle.grpc_frame.specs.Messages.{Messages}
use Rattle.grpc_frame.specs.declared.limits.TheConstants.{MESSAGE_LIMIT}
use Rattle.client_calls.specs.declared.calls.ClientCall.{ClientCall}
use Rattle.client_calls.specs.Request.{IsRequest}
use Rattle.client_calls.specs.Frames.{settings_frame, data_of, end_frames}
use Rattle.client_calls.specs.Sound.{FindsNoFault, BreaksNoRule}
use Rattle.client_calls.specs.Told.{TellEach}

abbrev pub IsPayload : List ℕ → Type 0
IsPayload payload = (0 < length payload) × (length payload ≤ max_frame_size)

-- The frames of a call: one header block, that asks for the method; DATA whose payloads join to the messages and leave
-- nothing; and the end of the call, where the client ends it.
pub record AreCall (call : ClientCall) (own : List Frame) : Type 0 where
  pub block : List ℕ
  pub payloads : List (List ℕ)
  pub whole : own ≡ frames.Headers call.stream false true block ∷ (map (data_of call.stream) payloads ++ end_frames call.stream call.end)
  pub request : IsRequest call.method block
  pub each : AllByRecursion IsPayload payloads
  pub body : Messages MESSAGE_LIMIT (concat payloads) call.messages.items []

-- the frames of the calls, one call behind the other
abbrev pub AreCalls : List ClientCall → List Frame → Type 0
AreCalls [] sent = sent ≡ []
AreCalls (call ∷ calls) sent = (own others : List Frame) × (sent ≡ own ++ others) × AreCall call own × AreCalls calls others

pub record AsGiven (given : List ClientCall) (bytes : List ℕ) : Type 0 where
  pub sent : List Frame
  -- the preface, these frames, and nothing behind them
  pub read : Reads true [] bytes (settings_frame ∷ sent)
  pub framed : FindsNoFault bytes
  pub calls : AreCalls given sent
  pub sound : BreaksNoRule (settings_frame ∷ sent)
  pub told : TellEach (settings_frame ∷ sent)
