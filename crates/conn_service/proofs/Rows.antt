-- Rows worked out by hand: a client that sends nothing, one that stops inside the preface, and one that breaks it.
use Rattle.std.proofs.Common.{inl, ℕ, Bool, true, false, List, [], ◌∷◌, Some, None, refl, arith}
use Rattle.std.proofs.lemmas.List.Elements.{All-nil}
use Rattle.links.specs.Link.{Moved, Read, Wrote}
use Rattle.h2_frames.specs.declared.frame.Frame.TheVariants as frames
use Rattle.h2_frames.specs.Fault.{fault_in}
use Rattle.h2_frames.specs.Frame.{frame_of}
use Rattle.h2_frames.specs.Header.{header_of}
use Rattle.h2_frames.specs.Reading.{preface, frame_next}
use Rattle.h2_frames.specs.Spelling.{spelling}
use Rattle.h2_record.specs.Record.{Record, Out, Broken}
use Rattle.h2_record.specs.Control.{own_settings}
use Rattle.h2_record.specs.Resets.{reset_behind}
use Rattle.h2_record.specs.Written.{EachWasDue}
use Rattle.open_tables.specs.Tables.{TableView}
use Rattle.conn_record.specs.Timeline.{framing_of, byte_in, byte_out}
use Rattle.conn_requests.specs.Decided.{Played, play}
use Rattle.conn_requests.specs.Spelled.{spelling_on}
use Rattle.conn_service.specs.declared.ending.Ending.TheVariants as ending
use Rattle.conn_service.specs.Served.{Planning}
use Rattle.conn_service.specs.Quiet.{IsWritten}
use Rattle.conn_service.specs.Serves.{IsInTime, Shown, Serves}
use Rattle.conn_service.proofs.OrderLemmas.{due-in-order}

-- the server's SETTINGS, of 21 bytes
abbrev own : List ℕ
own = 0 ∷ 0 ∷ 12 ∷ 4 ∷ 0 ∷ 0 ∷ 0 ∷ 0 ∷ 0 ∷ 0 ∷ 3 ∷ 0 ∷ 0 ∷ 0 ∷ 100 ∷ 0 ∷ 6 ∷ 0 ∷ 0 ∷ 64 ∷ 0 ∷ []

abbrev settings_gone : Record
settings_gone = Out (frames.Settings false own_settings) ∷ []

-- of which nothing was read yet, with this log and these bytes left
abbrev shown : List Moved → List ℕ → Bool → Shown
shown log left ended = record { log = Some log; left = Some left; ended = ended; faults = 0; readings = Some [] }

due : EachWasDue settings_gone
due = (record { behind = []; next = refl }, tt)

quiet : IsWritten (record { marked = settings_gone; calls = λ id. None; decided = []; used = []; later = [] })
unfolding reset_behind spelling_on
quiet = record { control = refl; resets = λ id. refl; texts = λ id. inl (inl refl) }

-- a server that doesn't write its SETTINGS isn't quiet
unwritten : (p : Played) → IsWritten (record p { marked = [] }) → ⊥
unwritten p q = let h = q.control in absurd cc

-- a client that sends nothing is served by SETTINGS, and no pass changes
sends_nothing : (plan : Planning) (passes : List TableView) → Serves plan passes passes (shown [] [] false) (shown (Wrote own ∷ []) [] true) ending.Done
unfolding framing_of byte_in byte_out preface frame_next header_of fault_in frame_of play spelling_on spelling
sends_nothing plan passes = record {
  log = Wrote own ∷ [];
  answers = [];
  played = record { marked = settings_gone; calls = λ id. None; decided = []; used = []; later = [] };
  moved = refl;
  plays = refl;
  asked = refl;
  used = refl;
  served = refl;
  timed = refl;
  in_time = All-nil IsInTime;
  own = refl;
  unfinished = inl refl;
  was_due = due;
  in_order = due-in-order settings_gone (λ id. []) due (λ id. refl);
  places = tt;
  stops = tt;
  ends = (refl, record { met = refl; spent = refl; sound = refl; silent = record { answered = refl; written = quiet; whole = refl } });
  cause = refl;
}

-- one that stops behind three bytes of the preface: 21 are missing
stops_inside : (plan : Planning) (passes : List TableView) → Serves plan passes passes (shown [] (80 ∷ 82 ∷ 73 ∷ []) false) (shown (Wrote own ∷ Read (80 ∷ 82 ∷ 73 ∷ []) ∷ []) [] true) (ending.Cut 3 21)
unfolding framing_of byte_in byte_out preface frame_next header_of fault_in frame_of play spelling_on spelling
stops_inside plan passes = record {
  log = Wrote own ∷ Read (80 ∷ 82 ∷ 73 ∷ []) ∷ [];
  answers = [];
  played = record { marked = settings_gone; calls = λ id. None; decided = []; used = []; later = [] };
  moved = refl;
  plays = refl;
  asked = refl;
  used = refl;
  served = refl;
  timed = refl;
  in_time = All-nil IsInTime;
  own = refl;
  unfinished = inl refl;
  was_due = due;
  in_order = due-in-order settings_gone (λ id. []) due (λ id. refl);
  places = ((λ first. record { answered = refl; written = inl quiet; whole = refl }, ((λ first. absurd cc), ((λ first. absurd cc), tt))), tt);
  stops = tt;
  ends = (omega arith, refl, refl, record { met = refl; spent = refl; sound = refl; silent = record { answered = refl; written = quiet; whole = refl } });
  cause = refl;
}

-- GOAWAY for a wrong byte of the preface, of 17 bytes
abbrev goaway : List ℕ
goaway = 0 ∷ 0 ∷ 8 ∷ 7 ∷ 0 ∷ 0 ∷ 0 ∷ 0 ∷ 0 ∷ 0 ∷ 0 ∷ 0 ∷ 0 ∷ 0 ∷ 0 ∷ 0 ∷ 1 ∷ []

abbrev goaway_gone : Record
goaway_gone = Out (frames.Goaway 0 1) ∷ Broken (record { code = 1; rule = 1 }) ∷ settings_gone

goaway_due : EachWasDue goaway_gone
goaway_due = (record { behind = []; next = refl }, due)

-- one that breaks the preface with its third byte
breaks_preface : (plan : Planning) (passes : List TableView)
    → Serves plan passes passes (shown [] (80 ∷ 82 ∷ 74 ∷ []) false) (shown (Wrote own ∷ Read (80 ∷ 82 ∷ 74 ∷ []) ∷ Wrote goaway ∷ []) [] false) (ending.Goaway 1 1)
unfolding framing_of byte_in byte_out preface frame_next header_of fault_in frame_of play spelling_on spelling
breaks_preface plan passes = record {
  log = Wrote own ∷ Read (80 ∷ 82 ∷ 74 ∷ []) ∷ Wrote goaway ∷ [];
  answers = [];
  played = record { marked = goaway_gone; calls = λ id. None; decided = []; used = []; later = [] };
  moved = refl;
  plays = refl;
  asked = refl;
  used = refl;
  served = refl;
  timed = refl;
  in_time = All-nil IsInTime;
  own = refl;
  unfinished = inl refl;
  was_due = goaway_due;
  in_order = due-in-order goaway_gone (λ id. []) goaway_due (λ id. refl);
  places = ((λ first. record { answered = refl; written = inl quiet; whole = refl }, ((λ first. absurd cc), ((λ first. absurd cc), tt))), tt);
  stops = refl;
  ends = (refl, refl, refl);
  cause = refl;
}
