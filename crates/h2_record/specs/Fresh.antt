-- Ids of which a record doesn't speak.
use Rattle.std.specs.Prelude.{ℕ, ◌==◌, Bool, false}
use Rattle.std.specs.List.{list_any}
use Rattle.h2_frames.specs.declared.frame.Frame.{Frame}
use Rattle.h2_frames.specs.declared.frame.Frame.TheVariants as frames
use Rattle.h2_record.specs.Record.{Item, In, Out, Given, Record}

-- DATA, HEADERS, RST_STREAM or WINDOW_UPDATE on the id
abbrev pub is_on : ℕ → Frame → Bool
is_on id (frames.Body stream ended bytes counted) = id == stream
is_on id (frames.Headers stream ended whole fragment) = id == stream
is_on id (frames.Reset stream code) = id == stream
is_on id (frames.Window stream add) = id == stream
is_on id _ = false

abbrev pub speaks : ℕ → Item → Bool
speaks id (In frame) = is_on id frame
speaks id (Out frame) = is_on id frame
speaks id (Given stream part) = id == stream
speaks id _ = false

abbrev pub is_spoken : Record → ℕ → Bool
is_spoken r id = list_any (speaks id) r
