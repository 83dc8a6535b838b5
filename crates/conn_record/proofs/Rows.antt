-- Rows worked out by hand: what the definitions say of short logs.
use Rattle.std.proofs.Common.{◌≡◌, ℕ, Bool, true, false, List, [], ◌∷◌, ◌++◌, map, refl}
use Rattle.links.specs.Link.{Read, Wrote, Waited}
use Rattle.h2_frames.specs.declared.frame.Frame.TheVariants as frames
use Rattle.h2_frames.specs.Fault.{fault_in}
use Rattle.h2_frames.specs.Frame.{frame_of}
use Rattle.h2_frames.specs.Header.{header_of}
use Rattle.h2_frames.specs.Reading.{preface, frame_next}
use Rattle.h2_frames.proofs.HeldLemmas.{holding}
use Rattle.h2_record.specs.Record.{Record, In, Out, Broken}
use Rattle.h2_record.specs.Control.{own_settings}
use Rattle.conn_record.specs.Timeline.{Framing, byte_in, byte_out, framing_of}

abbrev client_preface : List ℕ
client_preface = 80 ∷ 82 ∷ 73 ∷ 32 ∷ 42 ∷ 32 ∷ 72 ∷ 84 ∷ 84 ∷ 80 ∷ 47 ∷ 50 ∷ 46 ∷ 48 ∷ 13 ∷ 10 ∷ 13 ∷ 10 ∷ 83 ∷ 77 ∷ 13 ∷ 10 ∷ 13 ∷ 10 ∷ []

-- SETTINGS without pairs
abbrev settings : List ℕ
settings = 0 ∷ 0 ∷ 0 ∷ 4 ∷ 0 ∷ 0 ∷ 0 ∷ 0 ∷ 0 ∷ []

-- the server's, of 21 bytes
abbrev own : List ℕ
own = 0 ∷ 0 ∷ 12 ∷ 4 ∷ 0 ∷ 0 ∷ 0 ∷ 0 ∷ 0 ∷ 0 ∷ 3 ∷ 0 ∷ 0 ∷ 0 ∷ 100 ∷ 0 ∷ 6 ∷ 0 ∷ 0 ∷ 64 ∷ 0 ∷ []

abbrev framed : Record → Bool → List ℕ → List ℕ → ℕ → Framing
framed r started came went since = record { frames = r; inflow = holding started came; outflow = went; since = since }

-- the preface byte by byte: no frame, and nothing is held behind it
byte_by_byte : framing_of (map (λ byte. Read (byte ∷ [])) client_preface) ≡ framed [] true [] [] 0
unfolding framing_of byte_in byte_out preface frame_next header_of
byte_by_byte = refl

-- however it is cut
in_two_pieces : framing_of (Read (80 ∷ 82 ∷ 73 ∷ []) ∷ Waited ∷ Read (32 ∷ 42 ∷ 32 ∷ 72 ∷ 84 ∷ 84 ∷ 80 ∷ 47 ∷ 50 ∷ 46 ∷ 48 ∷ 13 ∷ 10 ∷ 13 ∷ 10 ∷ 83 ∷ 77 ∷ 13 ∷ 10 ∷ 13 ∷ 10 ∷ []) ∷ []) ≡ framed [] true [] [] 0
unfolding framing_of byte_in byte_out preface frame_next header_of
in_two_pieces = refl

-- part of the preface is held
part_of_preface : framing_of (Read (80 ∷ 82 ∷ 73 ∷ []) ∷ []) ≡ framed [] false (80 ∷ 82 ∷ 73 ∷ []) [] 0
unfolding framing_of byte_in byte_out preface frame_next header_of
part_of_preface = refl

-- the first wrong byte breaks the rule of the preface, and nothing is found behind it
wrong_byte : framing_of (Read (80 ∷ 82 ∷ 74 ∷ 32 ∷ []) ∷ Read settings ∷ []) ≡ framed (Broken (record { code = 1; rule = 1 }) ∷ []) false [] [] 0
unfolding framing_of byte_in byte_out preface frame_next header_of
wrong_byte = refl

-- SETTINGS both ways: the server's before the client's, and 21 bytes of it went by then
settings_both_ways : framing_of (Wrote own ∷ Read client_preface ∷ Read settings ∷ Wrote (0 ∷ 0 ∷ 0 ∷ 4 ∷ 1 ∷ 0 ∷ 0 ∷ 0 ∷ 0 ∷ []) ∷ [])
    ≡ framed (Out (frames.Settings true []) ∷ In (frames.Settings false []) ∷ Out (frames.Settings false own_settings) ∷ []) true [] [] 9
unfolding framing_of byte_in byte_out preface frame_next header_of fault_in frame_of
settings_both_ways = refl

-- a frame cut over two reads is whole with its last byte, and what goes in between stands before it
cut_in_two : framing_of (Read client_preface ∷ Read (0 ∷ 0 ∷ 0 ∷ 4 ∷ []) ∷ Wrote own ∷ Read (0 ∷ 0 ∷ 0 ∷ 0 ∷ 0 ∷ []) ∷ [])
    ≡ framed (In (frames.Settings false []) ∷ Out (frames.Settings false own_settings) ∷ []) true [] [] 0
unfolding framing_of byte_in byte_out preface frame_next header_of fault_in frame_of
cut_in_two = refl

-- two frames in one read, and the first byte of a third
two_and_a_part : framing_of (Read client_preface ∷ Read (settings ++ settings ++ 0 ∷ []) ∷ []) ≡ framed (In (frames.Settings false []) ∷ In (frames.Settings false []) ∷ []) true (0 ∷ []) [] 0
unfolding framing_of byte_in byte_out preface frame_next header_of fault_in frame_of
two_and_a_part = refl

-- a frame cut over two writes
written_in_two : framing_of (Wrote (0 ∷ 0 ∷ 0 ∷ 4 ∷ 1 ∷ []) ∷ Wrote (0 ∷ 0 ∷ 0 ∷ 0 ∷ []) ∷ []) ≡ framed (Out (frames.Settings true []) ∷ []) false [] [] 9
unfolding framing_of byte_in byte_out preface frame_next header_of fault_in frame_of
written_in_two = refl

-- and one that isn't whole
written_in_part : framing_of (Wrote (0 ∷ 0 ∷ 0 ∷ 4 ∷ 1 ∷ []) ∷ []) ≡ framed [] false [] (0 ∷ 0 ∷ 0 ∷ 4 ∷ 1 ∷ []) 5
unfolding framing_of byte_in byte_out preface frame_next header_of fault_in frame_of
written_in_part = refl

-- a length of 16,385 is refused with the nine bytes of its header
too_long : framing_of (Read client_preface ∷ Read (0 ∷ 64 ∷ 1 ∷ 0 ∷ 0 ∷ 0 ∷ 0 ∷ 0 ∷ 1 ∷ []) ∷ []) ≡ framed (Broken (record { code = 6; rule = 2 }) ∷ []) false [] [] 0
unfolding framing_of byte_in byte_out preface frame_next header_of fault_in frame_of
too_long = refl

-- DATA on stream 0 are refused with their last byte
no_stream : framing_of (Read client_preface ∷ Read (0 ∷ 0 ∷ 1 ∷ 0 ∷ 0 ∷ 0 ∷ 0 ∷ 0 ∷ 0 ∷ 7 ∷ []) ∷ []) ≡ framed (Broken (record { code = 1; rule = 3 }) ∷ []) false [] [] 0
unfolding framing_of byte_in byte_out preface frame_next header_of fault_in frame_of
no_stream = refl
