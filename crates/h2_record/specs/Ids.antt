-- The ids that a client began (RFC 9113 section 5.1.1).
use Rattle.std.specs.Prelude.{ℕ, nat_lt, List, [], ◌∷◌, ◌++◌, if◌then◌else◌}
use Rattle.h2_frames.specs.declared.frame.Frame.{Frame}
use Rattle.h2_frames.specs.declared.frame.Frame.TheVariants as frames
use Rattle.h2_record.specs.Record.{Record, In, sum_in}

-- HEADERS on a greater id begin it
abbrev pub with_begun : Frame → ℕ → ℕ
with_begun (frames.Headers stream end whole fragment) last = if nat_lt last stream then stream else last
with_begun _ last = last

-- the last id that was begun, or 0
abbrev pub last_of : Record → ℕ
last_of r = sum_in with_begun 0 r

-- the ids that were begun, in their order
abbrev pub begun_of : Record → List ℕ
begun_of [] = []
begun_of (In (frames.Headers stream end whole fragment) ∷ r) = if nat_lt (last_of r) stream then begun_of r ++ stream ∷ [] else begun_of r
begun_of (_ ∷ r) = begun_of r
