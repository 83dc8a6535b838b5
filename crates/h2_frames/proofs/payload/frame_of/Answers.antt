-- What each type's reading wants of the payload follows from its breaking no rule.
use Rattle.std.proofs.Common.{ap, ◌∙◌, length}
use Rattle.h2_frames.proofs.Accepted.{accepted, data_fits, headers_fit, reset_len, ping_len, goaway_len, window_len}
use Rattle.h2_frames.proofs.payload.frame_of.Goals as goal

pub content-requires : goal.content-requires
content-requires c = data_fits _ _ _ _ c.in-Data.is (accepted _ _ c.requires.sound)

pub content-requires-in-Headers : goal.content-requires-in-Headers
content-requires-in-Headers c = headers_fit _ _ _ _ c.in-Headers.is (accepted _ _ c.requires.sound)

pub number-requires : goal.number-requires
number-requires c = ap length c.deref.ensures.value ∙ reset_len _ _ _ _ c.in-RstStream.is (accepted _ _ c.requires.sound)

pub octets-requires : goal.octets-requires
octets-requires c = ap length c.deref-in-Ping.ensures.value ∙ ping_len _ _ _ _ c.in-Ping.is (accepted _ _ c.requires.sound)

pub goaway-requires : goal.goaway-requires
goaway-requires c = rw c.deref-in-GoAway.ensures.value (goaway_len _ _ _ _ c.in-GoAway.is (accepted _ _ c.requires.sound))

pub number-requires-in-WindowUpdate : goal.number-requires-in-WindowUpdate
number-requires-in-WindowUpdate c = ap length c.deref-in-WindowUpdate.ensures.value ∙ window_len _ _ _ _ c.in-WindowUpdate.is (accepted _ _ c.requires.sound)
