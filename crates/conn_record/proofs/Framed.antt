-- A log is framed byte by byte, and so however it was cut.
use Rattle.std.proofs.Common.{◌≡◌, ℕ, true, List, [], ◌∷◌, map, fold, refl, sym, ap, ◌∙◌}
use Rattle.std.proofs.lemmas.List.Sums.{fold-append}
use Rattle.links.specs.Link.{Moved, Read, Wrote, Waited}
use Rattle.conn_record.specs.Timeline.{Framing, unframed, is_broken, byte_in, byte_out, moved, framed_from, framing_of}
use Rattle.conn_record.specs.Cutting.{Passed, Came, Went, passed_in, IsUncut, IsContinued}

abbrev pass : Framing → Passed → Framing
pass s (Came byte) = byte_in s byte
pass s (Went byte) = byte_out s byte

came-all : (s : Framing) (bytes : List ℕ) → fold pass s (map Came bytes) ≡ fold byte_in s bytes
came-all s [] = refl
came-all s (b ∷ bytes) = came-all (byte_in s b) bytes

went-all : (s : Framing) (bytes : List ℕ) → fold pass s (map Went bytes) ≡ fold byte_out s bytes
went-all s [] = refl
went-all s (b ∷ bytes) = went-all (byte_out s b) bytes

by-bytes : (log : List Moved) (s : Framing) → framed_from s log ≡ fold pass s (passed_in log)
by-bytes [] s = refl
by-bytes (Read bytes ∷ log) s =
    by-bytes log (fold byte_in s bytes) ∙ ap (λ (t : Framing). fold pass t (passed_in log)) (sym (came-all s bytes)) ∙ sym (fold-append pass s (map Came bytes) (passed_in log))
by-bytes (Wrote bytes ∷ log) s =
    by-bytes log (fold byte_out s bytes) ∙ ap (λ (t : Framing). fold pass t (passed_in log)) (sym (went-all s bytes)) ∙ sym (fold-append pass s (map Went bytes) (passed_in log))
by-bytes (Waited ∷ log) s = by-bytes log s

pub uncut : IsUncut
unfolding framing_of
uncut log other same = by-bytes log unframed ∙ ap (λ (passed : List Passed). fold pass unframed passed) same ∙ sym (by-bytes other unframed)

pub continued : IsContinued
unfolding framing_of
continued log more = fold-append moved unframed log more

-- behind a broken rule nothing changes
pub broken-stays : (bytes : List ℕ) (s : Framing) → is_broken s.frames ≡ true → fold byte_in s bytes ≡ s
unfolding byte_in
broken-stays [] s broken = refl
broken-stays (b ∷ bytes) s broken =
    let same : byte_in s b ≡ s = rw broken refl in
    ap (λ (t : Framing). fold byte_in t bytes) same ∙ broken-stays bytes s broken
