-- What was written on a connection: frames that were due one behind the other, and their spelling.
use Rattle.std.specs.Prelude.{ℕ, List, [], ◌∷◌, ◌++◌, fold}
use Rattle.h2_frames.specs.declared.frame.Frame.{Frame}
use Rattle.h2_frames.specs.Spelling.{spelling}
use Rattle.h2_record.specs.Record.{Record, Out}
use Rattle.h2_record.specs.Due.{IsDue}

-- the server's spelling of the frames that went, in their order
abbrev pub spelled_out : Record → List ℕ
spelled_out [] = []
spelled_out (Out frame ∷ r) = spelled_out r ++ spelling frame
spelled_out (_ ∷ r) = spelled_out r

-- the record with these frames gone, one after another
abbrev pub with_outs : Record → List Frame → Record
with_outs r frames = fold (λ before frame. Out frame ∷ before) r frames

-- each of these frames is due behind those before it
abbrev pub AreDue : Record → List Frame → Type 0
AreDue r [] = Unit {0}
AreDue r (frame ∷ frames) = IsDue r frame × AreDue (Out frame ∷ r) frames
