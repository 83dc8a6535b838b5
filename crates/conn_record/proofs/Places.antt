-- What holds at places of a log.
use Rattle.std.proofs.Common.{◌↔◌, ℕ, List, [], ◌∷◌, ◌++◌}
use Rattle.links.specs.Link.{Moved, Read, Wrote, Waited}
use Rattle.conn_record.specs.Timeline.{Framing, byte_in, moved, framed_from}
use Rattle.conn_record.specs.Places.{HoldsAtBytes, HoldsFrom}

module _ (AtWait AtRead : Framing → Type 0) where
  split : (log more : List Moved) (s : Framing) → HoldsFrom AtWait AtRead s (log ++ more) → HoldsFrom AtWait AtRead s log × HoldsFrom AtWait AtRead (framed_from s log) more
  split [] more s h = (tt, h)
  split (Read bytes ∷ log) more s h = let rest = split log more (moved s (Read bytes)) h.1 in ((h.0, rest.0), rest.1)
  split (Wrote bytes ∷ log) more s h = split log more (moved s (Wrote bytes)) h
  split (Waited ∷ log) more s h = let rest = split log more s h.1 in ((h.0, rest.0), rest.1)

  join : (log more : List Moved) (s : Framing) → HoldsFrom AtWait AtRead s log → HoldsFrom AtWait AtRead (framed_from s log) more → HoldsFrom AtWait AtRead s (log ++ more)
  join [] more s h k = k
  join (Read bytes ∷ log) more s h k = (h.0, join log more (moved s (Read bytes)) h.1 k)
  join (Wrote bytes ∷ log) more s h k = join log more (moved s (Wrote bytes)) h k
  join (Waited ∷ log) more s h k = (h.0, join log more s h.1 k)

-- What holds at the places of a log holds at those of each part of it, and the other way round.
pub places-go-on : (AtWait AtRead : Framing → Type 0) (s : Framing) (log more : List Moved)
    → HoldsFrom AtWait AtRead s (log ++ more) ↔ (HoldsFrom AtWait AtRead s log × HoldsFrom AtWait AtRead (framed_from s log) more)
places-go-on AtWait AtRead s log more = (split AtWait AtRead log more s, λ h. join AtWait AtRead log more s h.0 h.1)

follow-bytes : (AtWait AtRead AtWait' AtRead' : Framing → Type 0) → ((at : Framing) → AtRead at → AtRead' at) → (bytes : List ℕ) (s : Framing) → HoldsAtBytes AtWait AtRead s bytes → HoldsAtBytes AtWait' AtRead' s bytes
follow-bytes AtWait AtRead AtWait' AtRead' read [] s h = tt
follow-bytes AtWait AtRead AtWait' AtRead' read (b ∷ bytes) s h = (λ begins. read s (h.0 begins), follow-bytes AtWait AtRead AtWait' AtRead' read bytes (byte_in s b) h.1)

follow : (AtWait AtRead AtWait' AtRead' : Framing → Type 0) → ((at : Framing) → AtWait at → AtWait' at) → ((at : Framing) → AtRead at → AtRead' at)
    → (log : List Moved) (s : Framing) → HoldsFrom AtWait AtRead s log → HoldsFrom AtWait' AtRead' s log
follow AtWait AtRead AtWait' AtRead' wait read [] s h = tt
follow AtWait AtRead AtWait' AtRead' wait read (Read bytes ∷ log) s h = (follow-bytes AtWait AtRead AtWait' AtRead' read bytes s h.0, follow AtWait AtRead AtWait' AtRead' wait read log (moved s (Read bytes)) h.1)
follow AtWait AtRead AtWait' AtRead' wait read (Wrote bytes ∷ log) s h = follow AtWait AtRead AtWait' AtRead' wait read log (moved s (Wrote bytes)) h
follow AtWait AtRead AtWait' AtRead' wait read (Waited ∷ log) s h = (wait s h.0, follow AtWait AtRead AtWait' AtRead' wait read log s h.1)

-- What follows from it holds there too.
pub places-follow : (AtWait AtRead AtWait' AtRead' : Framing → Type 0) (s : Framing) (log : List Moved) → ((at : Framing) → AtWait at → AtWait' at) → ((at : Framing) → AtRead at → AtRead' at)
    → HoldsFrom AtWait AtRead s log → HoldsFrom AtWait' AtRead' s log
places-follow AtWait AtRead AtWait' AtRead' s log wait read h = follow AtWait AtRead AtWait' AtRead' wait read log s h
