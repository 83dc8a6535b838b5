-- Where each frame that went was due, what went on a stream is a front of what was given on it.
use Rattle.std.proofs.Common.{◌≡◌, ℕ, ◌==◌, Bool, true, false, ◌&&◌, ◌||◌, ◌⊎◌, inl, inr, List, [], ◌∷◌, ◌++◌, map, drop, refl, sym, ap, subst, ◌∙◌, append_assoc, append-nil, true≢false, if◌then◌else◌}
use Rattle.std.specs.List.{flat_map}
use Rattle.hpack_blocks.specs.Spelling.{field_spelling}
use Rattle.h2_frames.specs.declared.frame.Frame.{Frame}
use Rattle.h2_frames.specs.declared.frame.Frame.TheVariants as frames
use Rattle.h2_record.specs.Record.{Record, AnswerPart, Head, Reply, Tail, Abort, In, Out, Given, Whole, Broken}
use Rattle.h2_record.specs.Resets.{is_live}
use Rattle.h2_record.specs.Texts.{Token, Fields, Octet, Aborted, has_headed, frame_text, written_text, given_text, part_text}
use Rattle.h2_record.specs.Due.{IsDue, IsNextText, IsNextCode}
use Rattle.h2_record.specs.Written.{EachWasDue, IsFront, ends_answer, is_ended, EachWasOpen, WritesFronts, WritesAll}
use Rattle.h2_record.proofs.BoolLemmas.{same-eq, or-first, or-second, by-test}

-- ---- fronts

-- nothing more
still : {X : Type 0} (xs ys : List X) → IsFront xs ys → IsFront (xs ++ []) ys
still xs ys f = (f.0, ap (λ zs. zs ++ f.0) (append-nil xs) ∙ f.1)

-- more stands behind
pub front-more : {X : Type 0} (xs ys zs : List X) → IsFront xs ys → IsFront xs (ys ++ zs)
front-more xs ys zs f = (f.0 ++ zs, sym (append_assoc xs f.0 zs) ∙ ap (λ text. text ++ zs) f.1)

pub front-by : {X : Type 0} (b : Bool) (xs ys zs : List X) → IsFront xs ys → IsFront xs (if b then ys ++ zs else ys)
front-by true xs ys zs f = front-more xs ys zs f
front-by false xs ys zs f = f

-- ---- one frame more

module _ (r : Record) (id : ℕ) (f : IsFront (written_text r id) (given_text r id)) where
  -- on its own stream, and on another
  next-front : (stream : ℕ) (frame : Frame) → ((id == stream) ≡ false → frame_text r id frame ≡ []) → IsNextText r stream frame
      → IsFront (written_text r id ++ frame_text r id frame) (given_text r id)
  next-front stream frame off next = by-test (id == stream)
      (λ same. subst (λ (n : ℕ). IsFront (written_text r n ++ frame_text r n frame) (given_text r n)) (sym (same-eq id stream same)) (next.behind, next.next))
      (λ apart. subst (λ (text : List Token). IsFront (written_text r id ++ text) (given_text r id)) (sym (off apart)) (still (written_text r id) (given_text r id) f))

  -- a reset of a stream that lives no more is no text
  late-text : (stream code : ℕ) → is_live r stream ≡ false → frame_text r id (frames.Reset stream code) ≡ []
  late-text stream code closed = by-test (id == stream)
      (λ same. (λ i. if same i && is_live r (same-eq id stream same i) then Aborted code ∷ [] else []) ∙ (λ i. if closed i then Aborted code ∷ [] else []))
      (λ apart i. if apart i && is_live r id then Aborted code ∷ [] else [])

  reset-front : (stream code : ℕ) → IsNextText r stream (frames.Reset stream code) ⊎ IsNextCode r stream code
      → IsFront (written_text r id ++ frame_text r id (frames.Reset stream code)) (given_text r id)
  reset-front stream code (inl next) = next-front stream (frames.Reset stream code) (λ apart i. if apart i && is_live r id then Aborted code ∷ [] else []) next
  reset-front stream code (inr next) =
      subst (λ (text : List Token). IsFront (written_text r id ++ text) (given_text r id)) (sym (late-text stream code next.closed)) (still (written_text r id) (given_text r id) f)

  frame-front : (frame : Frame) → IsDue r frame → IsFront (written_text r id ++ frame_text r id frame) (given_text r id)
  frame-front (frames.Headers stream ended whole block) due =
      next-front stream (frames.Headers stream ended whole block) (λ apart i. if apart i then Fields ended (drop (if has_headed r then 0 else 1) block) ∷ [] else []) due.text
  frame-front (frames.Body stream ended bytes counted) due = next-front stream (frames.Body stream ended bytes counted) (λ apart i. if apart i then map Octet bytes else []) due.text
  frame-front (frames.Reset stream code) due = reset-front stream code due.next
  frame-front (frames.Priority stream) due = still (written_text r id) (given_text r id) f
  frame-front (frames.Settings acked pairs) due = still (written_text r id) (given_text r id) f
  frame-front (frames.Push stream) due = still (written_text r id) (given_text r id) f
  frame-front (frames.Ping acked octets) due = still (written_text r id) (given_text r id) f
  frame-front (frames.Goaway last code) due = still (written_text r id) (given_text r id) f
  frame-front (frames.Window stream add) due = still (written_text r id) (given_text r id) f
  frame-front (frames.Continuation stream whole block) due = still (written_text r id) (given_text r id) f
  frame-front (frames.Unknown kind stream) due = still (written_text r id) (given_text r id) f

pub written-front : (r : Record) → EachWasDue r → WritesFronts r
written-front [] due id = ([], refl)
written-front (In frame ∷ r) due id = written-front r due id
written-front (Out frame ∷ r) due id = frame-front r id (written-front r due.1 id) frame due.0
written-front (Given stream part ∷ r) due id = front-by (id == stream) (written_text r id) (given_text r id) (part_text part) (written-front r due id)
written-front (Whole ∷ r) due id = written-front r due id
written-front (Broken fault ∷ r) due id = written-front r due id

-- ---- all of it, where what ends the answer went

false≢true : false ≡ true → ⊥
false≢true e = true≢false (sym e)

-- nothing stands behind the first token that ends an answer
abbrev EndsLast : List Token → Type 0
EndsLast text = (front rest : List Token) → front ++ rest ≡ text → is_ended front ≡ true → rest ≡ []

nil-behind : (front rest : List Token) → front ++ rest ≡ [] → rest ≡ []
nil-behind [] rest e = e
nil-behind (x ∷ front) rest e = absurd (cc)

one-last : (token : Token) → EndsLast (token ∷ [])
one-last token [] rest e ended = absurd (false≢true ended)
one-last token (x ∷ front) rest e ended = let same : front ++ rest ≡ [] = cc in nil-behind front rest same

octets-last : (bytes : List ℕ) → EndsLast (map Octet bytes)
octets-last bytes [] rest e ended = absurd (false≢true ended)
octets-last [] (x ∷ front) rest e ended = absurd (cc)
octets-last (byte ∷ bytes) (x ∷ front) rest e ended =
    let first : x ≡ Octet byte = cc in
    let same : front ++ rest ≡ map Octet bytes = cc in
    octets-last bytes front rest same ((λ i. ends_answer (sym first i) || is_ended front) ∙ ended)

part-last : (part : AnswerPart) → EndsLast (part_text part)
part-last (Head fields end) = one-last (Fields end (flat_map field_spelling fields))
part-last (Reply bytes) = octets-last bytes
part-last (Tail fields) = one-last (Fields true (flat_map field_spelling fields))
part-last (Abort code) = one-last (Aborted code)

behind-last : (given more : List Token) → is_ended given ≡ false → EndsLast more → EndsLast (given ++ more)
behind-last [] more none last front rest e ended = last front rest e ended
behind-last (x ∷ given) more none last [] rest e ended = absurd (false≢true ended)
behind-last (x ∷ given) more none last (y ∷ front) rest e ended =
    let first : y ≡ x = cc in
    let same : front ++ rest ≡ given ++ more = cc in
    let goes_on : ends_answer y ≡ false = ap ends_answer first ∙ or-first (ends_answer x) (is_ended given) none in
    behind-last given more (or-second (ends_answer x) (is_ended given) none) last front rest same ((λ i. sym goes_on i || is_ended front) ∙ ended)

last-by : (b : Bool) (given more : List Token) → EndsLast given → (b ≡ true → EndsLast (given ++ more)) → EndsLast (if b then given ++ more else given)
last-by true given more last next = next refl
last-by false given more last next = last

given-last : (r : Record) → EachWasOpen r → (id : ℕ) → EndsLast (given_text r id)
given-last [] open_ended id = nil-last
  where
    nil-last : EndsLast []
    nil-last front rest e ended = nil-behind front rest e
given-last (In frame ∷ r) open_ended id = given-last r open_ended id
given-last (Out frame ∷ r) open_ended id = given-last r open_ended id
given-last (Given stream part ∷ r) open_ended id = last-by (id == stream) (given_text r id) (part_text part) (given-last r open_ended.1 id)
    (λ same. behind-last (given_text r id) (part_text part) (subst (λ (n : ℕ). is_ended (given_text r n) ≡ false) (sym (same-eq id stream same)) open_ended.0) (part-last part))
given-last (Whole ∷ r) open_ended id = given-last r open_ended id
given-last (Broken fault ∷ r) open_ended id = given-last r open_ended id

pub written-all : (r : Record) → EachWasDue r → EachWasOpen r → WritesAll r
written-all r due open_ended id ended =
    let f = written-front r due id in
    sym (append-nil (written_text r id)) ∙ ap (λ rest. written_text r id ++ rest) (sym (given-last r open_ended id (written_text r id) f.0 f.1 ended)) ∙ f.1
