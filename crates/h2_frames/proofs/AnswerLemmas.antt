-- What an answer says of the bytes.
use Rattle.std.proofs.Common.{◌≡◌, ℕ, Bool, true, false, List, Result, Ok, Err, refl, sym}
use Rattle.std.specs.Prelude.{IfOk}
use Rattle.outside.specs.declared.wants.Memory.{Memory}
use Rattle.h2_frames.specs.declared.frame.Frame.{Frame}
use Rattle.h2_frames.specs.declared.reader.Next.{Next}
use Rattle.h2_frames.specs.declared.reader.Next.TheVariants as next
use Rattle.h2_frames.specs.Held.{Held}
use Rattle.h2_frames.specs.Reading.{next_of, held_after}
use Rattle.h2_frames.specs.Answer.{Answers}
use Rattle.h2_frames.proofs.HeldLemmas.{holding}
use Rattle.h2_frames.proofs.FramingLemmas.{begins}
use Rattle.h2_frames.proofs.RunLemmas.{preface_next-none}
use Rattle.h2_frames.proofs.Soundness.{IsFrame-spelled}

frame_answer : (started : Bool) (bytes : List ℕ) (frame : Frame) → next.Frame frame ≡ next_of (holding started bytes)
    → Answers (next.Frame frame) bytes (held_after (holding started bytes) (next.Frame frame)).bytes
frame_answer true bytes frame e =
    let b = begins bytes frame (sym e) in
    (b, IsFrame-spelled frame b.0 b.2 b.3)
frame_answer false bytes frame e = absurd (preface_next-none bytes frame (sym e))

answers-by : (answer : Next) (old new : Held) → answer ≡ next_of old → new ≡ held_after old answer → Answers answer old.bytes new.bytes
answers-by (next.Frame frame) old new e after = rw after (frame_answer old.started old.bytes frame e)
answers-by next.More old new e after = rw after refl
answers-by (next.Fault broken) old new e after = rw after refl

pub answers : (result : Result Next Memory) (old new : Held) → IfOk result (λ answer. answer ≡ next_of old) → IfOk result (λ answer. new ≡ held_after old answer) → IfOk result (λ answer. Answers answer old.bytes new.bytes)
answers (Ok answer) old new e after = answers-by answer old new e after
answers (Err fault) old new e after = tt
