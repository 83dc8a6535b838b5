-- What a link over a reader and a writer of std passes on between them and its callers.
use Rattle.std.specs.Prelude.{◌≡◌, ℕ, Bool, true, false, List, [], ◌∷◌, take, Option, ⊤}
use Rattle.std.specs.Io.KnownBytes.{Appends, Consumes, Keeps}
use Rattle.std.specs.Io.Buffered.{reader_remaining, reader_buffer, writer_contents, writer_buffer}
use Rattle.links.specs.declared.std_links.StdLink.{StdLink}
use Rattle.links.specs.declared.link.LinkRead.{LinkRead}
use Rattle.links.specs.declared.link.LinkRead.TheVariants as read
use Rattle.links.specs.declared.link.LinkWrite.{LinkWrite}
use Rattle.links.specs.declared.link.LinkWrite.TheVariants as write

-- the bytes left to read, where the reader tells its own
abbrev pub unread : {R W : Type 0} → (R → Option (List ℕ)) → StdLink R W → Option (List ℕ)
unread remaining link = reader_remaining remaining link.reader

-- those that were read ahead
abbrev pub ahead : {R W : Type 0} → StdLink R W → List ℕ
ahead link = reader_buffer link.reader

-- the bytes taken, where the writer tells its own
abbrev pub taken : {R W : Type 0} → (W → Option (List ℕ)) → StdLink R W → Option (List ℕ)
taken contents link = writer_contents contents link.writer

-- those that aren't written yet
abbrev pub gathered : {R W : Type 0} → StdLink R W → List ℕ
gathered link = writer_buffer link.writer

-- the bytes given are the first of those left; the end comes where none is left; no other answer takes any
abbrev pub GivesUnread : LinkRead → (into : List ℕ) (left0 left : Option (List ℕ)) → Type 0
GivesUnread (read.Got n) into left0 left = Consumes left0 left (take n into)
GivesUnread read.NotReady into left0 left = Keeps left0 left
GivesUnread read.End into left0 left = Keeps left0 left
GivesUnread read.Failed into left0 left = Keeps left0 left

-- a read isn't ready exactly where nothing was read ahead, the input isn't ended, and no wait came just before; but the
-- writing of what was gathered may meet a fault first
abbrev pub IsUnready : LinkRead → (ahead : List ℕ) → (waited ended : Bool) → Type 0
IsUnready read.NotReady ahead waited ended = (ahead ≡ []) × (waited ≡ false) × (ended ≡ false)
IsUnready read.Failed ahead waited ended = Unit {0}
IsUnready (read.Got n) [] waited ended = waited ≡ true
IsUnready (read.Got n) (byte ∷ ahead) waited ended = Unit {0}
IsUnready read.End [] waited false = waited ≡ true
IsUnready read.End [] waited true = Unit {0}
IsUnready read.End (byte ∷ ahead) waited ended = Unit {0}

-- the bytes taken grow by the first of those offered
abbrev pub TakesOffered : LinkWrite → (from : List ℕ) (taken0 taken : Option (List ℕ)) → Type 0
TakesOffered (write.Took n) from taken0 taken = Appends taken0 taken (take n from)
TakesOffered write.NotReady from taken0 taken = ⊥
TakesOffered write.Failed from taken0 taken = ⊤
