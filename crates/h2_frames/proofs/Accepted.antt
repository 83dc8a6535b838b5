-- What holds of the payload of a frame that breaks no rule, by its type.
use Rattle.std.proofs.Common.{◌≡◌, ℕ, ◌+◌, ◌≤◌, Bool, true, false, cond, List, length, Option, Some, None, refl}
use Rattle.std.specs.Prelude.{not}
use Rattle.std.proofs.lemmas.Bool.{ltb-false, eqb-true, not-false}
use Rattle.h2_frames.specs.declared.kind.Kind.{Kind}
use Rattle.h2_frames.specs.declared.kind.Kind.TheVariants as kinds
use Rattle.h2_frames.specs.declared.header.Header.{Header}
use Rattle.h2_frames.specs.declared.fault.H2Fault.{H2Fault}
use Rattle.h2_frames.specs.Content.{front_len, padding_len}
use Rattle.h2_frames.specs.Fault.{breaks_stream, breaks_length, breaks_padding, breaks_push, fault_in}

-- a test that found no fault
none_from : (b : Bool) (fault : H2Fault) (others : Option H2Fault) → cond b (Some fault) others ≡ None → (b ≡ false) × (others ≡ None)
none_from true fault others e = absurd cc
none_from false fault others e = (refl, e)

-- no rule is broken
pub record IsAccepted (kind : Kind) (flags stream : ℕ) (payload : List ℕ) : Type 0 where
  pub on_stream : breaks_stream kind stream ≡ false
  pub long : breaks_length kind flags (length payload) ≡ false
  pub pads : breaks_padding kind flags payload ≡ false
  pub asked : breaks_push kind ≡ false

pub accepted : (header : Header) (payload : List ℕ) → fault_in header payload ≡ None → IsAccepted header.kind header.flags header.stream payload
unfolding fault_in
accepted header payload e =
    let a = none_from (breaks_stream header.kind header.stream) _ _ e in
    let b = none_from (breaks_length header.kind header.flags (length payload)) _ _ a.1 in
    let c = none_from (breaks_padding header.kind header.flags payload) _ _ b.1 in
    let d = none_from (breaks_push header.kind) _ _ c.1 in
    record { on_stream = a.0; long = b.0; pads = c.0; asked = d.0 }

pub data_fits : (kind : Kind) (flags stream : ℕ) (payload : List ℕ) → kind ≡ kinds.Data → IsAccepted kind flags stream payload → front_len kind flags + padding_len flags payload ≤ length payload
data_fits kinds.Data flags stream payload e h = ltb-false _ _ h.pads
data_fits _ flags stream payload e h = absurd cc

pub headers_fit : (kind : Kind) (flags stream : ℕ) (payload : List ℕ) → kind ≡ kinds.Headers → IsAccepted kind flags stream payload → front_len kind flags + padding_len flags payload ≤ length payload
headers_fit kinds.Headers flags stream payload e h = ltb-false _ _ h.pads
headers_fit _ flags stream payload e h = absurd cc

pub reset_len : (kind : Kind) (flags stream : ℕ) (payload : List ℕ) → kind ≡ kinds.RstStream → IsAccepted kind flags stream payload → length payload ≡ 4
reset_len kinds.RstStream flags stream payload e h = eqb-true _ _ (not-false _ h.long)
reset_len _ flags stream payload e h = absurd cc

pub ping_len : (kind : Kind) (flags stream : ℕ) (payload : List ℕ) → kind ≡ kinds.Ping → IsAccepted kind flags stream payload → length payload ≡ 8
ping_len kinds.Ping flags stream payload e h = eqb-true _ _ (not-false _ h.long)
ping_len _ flags stream payload e h = absurd cc

pub goaway_len : (kind : Kind) (flags stream : ℕ) (payload : List ℕ) → kind ≡ kinds.GoAway → IsAccepted kind flags stream payload → 8 ≤ length payload
goaway_len kinds.GoAway flags stream payload e h = ltb-false _ _ h.long
goaway_len _ flags stream payload e h = absurd cc

pub window_len : (kind : Kind) (flags stream : ℕ) (payload : List ℕ) → kind ≡ kinds.WindowUpdate → IsAccepted kind flags stream payload → length payload ≡ 4
window_len kinds.WindowUpdate flags stream payload e h = eqb-true _ _ (not-false _ h.long)
window_len _ flags stream payload e h = absurd cc
