-- What each call answers, and which streams it leaves (RFC 9113 sections 5.1, 5.1.1, 5.1.2 and 6.9).
use Rattle.std.specs.Prelude.{◌≡◌, ℕ, ◌%◌, ◌<◌, ◌≤◌, ℤ, pos, ◌+ℤ◌, ◌-ℤ◌, ◌<ℤ◌, ◌≤ℤ◌, Bool, true, false, ◌&&◌, Option, None, Some, length, Result, Ok, Err, if◌then◌else◌}
use Rattle.h2_flow.specs.Range.{greatest}
use Rattle.h2_flow.specs.declared.window.Overflow.{Overflow}
use Rattle.h2_streams.specs.declared.stream.Stream.{Stream}
use Rattle.h2_streams.specs.declared.refusals.BeginRefusal.{BeginRefusal}
use Rattle.h2_streams.specs.declared.refusals.BeginRefusal.TheVariants.{NotOdd, NotRising, TooMany, Memory}
use Rattle.h2_streams.specs.declared.refusals.BodyRefusal.{BodyRefusal}
use Rattle.h2_streams.specs.declared.refusals.BodyRefusal.TheVariants.{Closed, Overrun}
use Rattle.h2_streams.specs.Book.{Book, opened, refused, with_stream, without, without_reset}

-- an odd id above the last one begun
abbrev pub IsNewId : Book → ℕ → Type 0
IsNewId book id = (id % 2 ≡ 1) × (book.last < id)

-- a stream as it is opened: 65,535 bytes may come on it
abbrev pub new_stream : ℤ → Bool → Stream
new_stream send ended = record { send = send; receive = pos 65535; ended = ended; answered = false }

-- HEADERS on an id: a stream is opened, or refused in this order.
abbrev pub Begins : (old : Book) (id : ℕ) (send : ℤ) (ended : Bool) → Result (Unit {0}) BeginRefusal → (new : Book) → Type 0
Begins old id send ended (Ok _) new = IsNewId old id × (length old.live < 100) × (new ≡ opened old id (new_stream send ended))
Begins old id send ended (Err NotOdd) new = (id % 2 ≡ 0) × (new ≡ old)
Begins old id send ended (Err (NotRising last)) new = (id % 2 ≡ 1) × (id ≤ old.last) × (last ≡ old.last) × (new ≡ old)
Begins old id send ended (Err (TooMany live)) new = IsNewId old id × (length old.live ≡ 100) × (live ≡ 100) × (new ≡ refused old id)
Begins old id send ended (Err Memory) new = IsNewId old id × (new ≡ old)

-- DATA on an id, as its stream was found: its bytes are taken from the receive window, or it is refused.
abbrev pub Receives : (old : Book) (id counted : ℕ) → Option Stream → Result (Unit {0}) BodyRefusal → (new : Book) → Type 0
Receives old id counted None result new = (result ≡ Err Closed) × (new ≡ old)
Receives old id counted (Some stream) (Ok _) new =
    (stream.ended ≡ false) × (pos counted ≤ℤ stream.receive) × (new ≡ with_stream old id (record stream { receive = stream.receive -ℤ pos counted }))
Receives old id counted (Some stream) (Err Closed) new = (stream.ended ≡ true) × (new ≡ old)
Receives old id counted (Some stream) (Err (Overrun had asked)) new =
    (stream.ended ≡ false) × (stream.receive <ℤ pos counted) × (had ≡ stream.receive) × (asked ≡ counted) × (new ≡ old)

-- A side has ended, as the stream then is. Once both have, the stream is closed.
abbrev pub settled : Book → ℕ → Stream → Book
settled book id stream = if stream.ended && stream.answered then without book id else with_stream book id stream

-- a reset by the server, or by the client
abbrev pub reset_in : Book → ℕ → Bool → Book
reset_in book id by_server = if by_server then without_reset book id else without book id

-- An increment makes a window the sum, or is refused. `changed` is the stream with the sum in the window's place.
abbrev pub Adds : (old : Book) (id : ℕ) (sum : ℤ) → Result (Unit {0}) Overflow → (changed : Stream) (new : Book) → Type 0
Adds old id sum (Ok _) changed new = (sum ≤ℤ greatest) × (new ≡ with_stream old id changed)
Adds old id sum (Err fault) changed new = (greatest <ℤ sum) × (fault.value ≡ sum) × (new ≡ old)

-- WINDOW_UPDATE from the client, on a live stream
abbrev pub Grants : (old : Book) (id add : ℕ) → Result (Unit {0}) Overflow → (new : Book) → Stream → Type 0
Grants old id add result new stream =
    Adds old id (stream.send +ℤ pos add) result (record stream { send = stream.send +ℤ pos add }) new

-- WINDOW_UPDATE to the client, on a live stream
abbrev pub Credits : (old : Book) (id add : ℕ) → Result (Unit {0}) Overflow → (new : Book) → Stream → Type 0
Credits old id add result new stream =
    Adds old id (stream.receive +ℤ pos add) result (record stream { receive = stream.receive +ℤ pos add }) new
