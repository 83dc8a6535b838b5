-- What a reader's answer says of the bytes that were held, and of those that are held after it.
use Rattle.std.specs.Prelude.{◌≡◌, List, ℕ}
use Rattle.h2_frames.specs.declared.reader.Next.{Next}
use Rattle.h2_frames.specs.declared.reader.Next.TheVariants as next
use Rattle.h2_frames.specs.Framing.{BeginsWith}
use Rattle.h2_frames.specs.Sound.{IsFrame}

-- a frame is spelled by the bytes that are held no more; any other answer takes nothing
abbrev pub Answers : Next → (old new : List ℕ) → Type 0
Answers (next.Frame frame) old new = BeginsWith frame old new × IsFrame frame
Answers next.More old new = new ≡ old
Answers (next.Fault broken) old new = new ≡ old
