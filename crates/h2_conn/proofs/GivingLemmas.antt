-- What a part of an answer that is given leaves of a connection.
use Rattle.std.proofs.Common.{◌≡◌, ℕ, ◌==◌, Bool, true, false, List, [], ◌∷◌, ◌++◌, map, Option, None, Some, IsSome, is_some, refl, sym, ap, subst, ◌∙◌, arith, true≢false, append-nil, append_assoc, if◌then◌else◌}
use Rattle.std.specs.List.{concat, flat_map}
use Rattle.hpack_blocks.specs.declared.fields.Field.{Field}
use Rattle.hpack_blocks.specs.Spelling.{field_spelling}
use Rattle.h2_frames.specs.declared.fault.H2Fault.{H2Fault}
use Rattle.h2_streams.specs.declared.stream.Stream.{Stream}
use Rattle.h2_streams.specs.Book.{Book, find}
use Rattle.h2_answers.specs.Replies.{adding_reply, drop_bytes}
use Rattle.h2_answers.specs.Waiting.{Waiting, waiting_on, nothing, with_head, with_reply, with_tail, with_reset, IsOpenEnded, ChangesOnly}
use Rattle.h2_answers.proofs.ReplyLemmas.{drop_bytes-adding, concat-adding}
use Rattle.h2_record.specs.Record.{Record, AnswerPart, Given, Whole, Head, Reply, Tail, Abort}
use Rattle.h2_record.specs.Windows.{data_out}
use Rattle.h2_record.specs.Live.{is_live_with, entry_of}
use Rattle.h2_record.specs.Resets.{is_live}
use Rattle.h2_record.specs.Replies.{replies_of, unwritten_of}
use Rattle.h2_record.specs.Texts.{Token, Fields, Octet, Aborted, part_text, given_text, written_text}
use Rattle.h2_record.specs.Fresh.{is_spoken}
use Rattle.h2_conn.specs.Held.{Held}
use Rattle.h2_conn.specs.Stands.{StreamsStand, OpenStands, StandsBy, Stands}
use Rattle.h2_conn.specs.Waits.{head_text, tail_text, waiting_text, WaitsBy, WaitsLive}
use Rattle.h2_record.proofs.BoolLemmas.{or-none, apart-above, apart-flip, same-eq, same-self, by-test}
use Rattle.h2_record.proofs.LiveLaws.{live-within}
use Rattle.h2_conn.proofs.ResetLemmas.{waits-live, waits-here, waits-elsewhere}
use Rattle.h2_record.proofs.GivenText.{written-within}

-- ---- what is open, and what has met a fault

pub sound-of : (fault : Option H2Fault) → is_some fault ≡ false → fault ≡ None
sound-of None none = refl
sound-of (Some fault) none = absurd (true≢false none)

pub stands-open : (c : Held) (r : Record) → c.fault ≡ None → Stands c r → OpenStands c r
stands-open c r sound s = subst (λ (fault : Option H2Fault). StandsBy fault c r) sound s.1

pub open-stands : (c : Held) (r : Record) → c.fault ≡ None → c.is_lost ≡ false → OpenStands c r → Stands c r
open-stands c r sound found s = (found, subst (λ (fault : Option H2Fault). StandsBy fault c r) (sym sound) s)

faulty-given : (c : Held) (r : Record) (id : ℕ) (part : AnswerPart) (fault : Option H2Fault) → is_some fault ≡ true → StandsBy fault c r → StandsBy fault c (Given id part ∷ r)
faulty-given c r id part None met s = absurd (true≢false (sym met))
faulty-given c r id part (Some fault) met s = record { met = s.met; begun = s.begun; headed = s.headed; control = s.control; waits = s.waits }

-- behind a fault nothing is given
pub gives-none : (c : Held) (r : Record) (id : ℕ) (part : AnswerPart) → is_some c.fault ≡ true → Stands c r → Stands c (Given id part ∷ r)
gives-none c r id part met s = (s.0, faulty-given c r id part c.fault met s.1)

-- ---- a request that was made whole

waits-whole : (r : Record) (id : ℕ) (waiting : Waiting) (live : Bool) → WaitsBy live r id waiting → WaitsBy live (Whole ∷ r) id waiting
unfolding is_live_with
waits-whole r id waiting true w = record { unreset = w.unreset; unfinished = w.unfinished; text = w.text; replies = w.replies }
waits-whole r id waiting false w = record { text = w.text; resets = w.resets }

streams-whole : (streams : Book) (answers : List (ℕ × Waiting)) (r : Record) → StreamsStand streams answers r → StreamsStand streams answers (Whole ∷ r)
unfolding is_live_with
streams-whole streams answers r s = record {
  last = s.last;
  remembered = s.remembered;
  found = s.found;
  live = s.live;
  waits = λ id. waits-whole r id (waiting_on answers id) (is_live r id) (s.waits id);
  fresh = s.fresh;
}

whole-by : (c : Held) (r : Record) (fault : Option H2Fault) → StandsBy fault c r → StandsBy fault (record c { flood = 0 }) (Whole ∷ r)
unfolding is_live_with
whole-by c r None s = record {
  sound = s.sound;
  begun = s.begun;
  window = s.window;
  initial = s.initial;
  streams = streams-whole c.streams c.answers r s.streams;
  block = s.block;
  table = s.table;
  controls = s.controls;
  owing = s.owing;
  keeping = s.keeping;
  flood = refl;
  headed = s.headed;
}
whole-by c r (Some fault) s = record { met = s.met; begun = s.begun; headed = s.headed; control = s.control; waits = s.waits }

pub stands-whole : (c : Held) (r : Record) → Stands c r → Stands (record c { flood = 0 }) (Whole ∷ r)
stands-whole c r s = (s.0, whole-by c r c.fault s.1)

-- a stream that is found lives
some-if : (b : Bool) (x : Stream) → IsSome (if b then Some x else None) → b ≡ true
some-if true x some = refl
some-if false x some = absurd (true≢false (sym some))

pub found-live : (streams : Book) (answers : List (ℕ × Waiting)) (r : Record) (id : ℕ) → StreamsStand streams answers r → IsSome (find streams id) → is_live r id ≡ true
found-live streams answers r id s some = some-if (is_live r id) (entry_of r id) (subst (λ (o : Option Stream). IsSome o) (s.found id) some)

-- ---- the other streams

module _ (r : Record) (id : ℕ) (part : AnswerPart) where
  given-apart : (other : ℕ) → (other == id) ≡ false → given_text (Given id part ∷ r) other ≡ given_text r other
  given-apart other apart = ap (λ b. if b then given_text r other ++ part_text part else given_text r other) apart

  waits-apart : (other : ℕ) (waiting : Waiting) (live : Bool) → (other == id) ≡ false → unwritten_of (Given id part ∷ r) other ≡ unwritten_of r other
      → WaitsBy live r other waiting → WaitsBy live (Given id part ∷ r) other waiting
  waits-apart other waiting true apart same w = record { unreset = w.unreset; unfinished = w.unfinished; text = w.text ∙ sym (given-apart other apart); replies = w.replies ∙ sym same }
  waits-apart other waiting false apart same w = record { text = w.text; resets = w.resets }

  given-here : given_text (Given id part ∷ r) id ≡ given_text r id ++ part_text part
  given-here = ap (λ b. if b then given_text r id ++ part_text part else given_text r id) (same-self id)

  text-here : (waiting waiting' : List Token) → written_text r id ++ waiting ≡ given_text r id → waiting' ≡ waiting ++ part_text part
      → written_text r id ++ waiting' ≡ given_text (Given id part ∷ r) id
  text-here waiting waiting' text more =
      ap (λ text. written_text r id ++ text) more ∙ sym (append_assoc (written_text r id) waiting (part_text part)) ∙ ap (λ text. text ++ part_text part) text ∙ sym given-here

unwritten-apart : (r : Record) (id : ℕ) (part : AnswerPart) (other : ℕ) → (other == id) ≡ false → unwritten_of (Given id part ∷ r) other ≡ unwritten_of r other
unfolding is_live_with
unwritten-apart r id (Head fields end) other apart = refl
unwritten-apart r id (Reply bytes) other apart =
    λ i. if is_live r other then drop_bytes (data_out r other) (if apart i then adding_reply (replies_of r other) bytes else replies_of r other) else []
unwritten-apart r id (Tail fields) other apart = refl
unwritten-apart r id (Abort code) other apart = refl

-- What waits on the stream is seen to, and the others are as they were.
module _ (r : Record) (id : ℕ) (part : AnswerPart) (answers answers' : List (ℕ × Waiting)) (waiting : Waiting) (only : ChangesOnly answers answers' id waiting)
    (live : is_live r id ≡ true) (here : WaitsLive (Given id part ∷ r) id waiting) where
  waits-given : (streams : Book) → StreamsStand streams answers r → (other : ℕ) → WaitsBy (is_live r other) (Given id part ∷ r) other (waiting_on answers' other)
  waits-given streams s other = by-test (id == other)
      (λ same. subst (λ (o : ℕ). WaitsBy (is_live r o) (Given id part ∷ r) o (waiting_on answers' o)) (same-eq id other same)
      (subst (λ (b : Bool). WaitsBy b (Given id part ∷ r) id (waiting_on answers' id)) (sym live)
      (subst (λ (w : Waiting). WaitsLive (Given id part ∷ r) id w) (sym (waits-here answers answers' id waiting only)) here)))
      (λ differ. let off = apart-flip id other differ in
      subst (λ (w : Waiting). WaitsBy (is_live r other) (Given id part ∷ r) other w) (sym (waits-elsewhere answers answers' id waiting only other differ))
      (waits-apart r id part other (waiting_on answers other) (is_live r other) off (unwritten-apart r id part other off) (s.waits other)))

  streams-given : (streams : Book) → StreamsStand streams answers r → StreamsStand streams answers' (Given id part ∷ r)
  unfolding is_live_with
  streams-given streams s = record {
    last = s.last;
    remembered = s.remembered;
    found = s.found;
    live = s.live;
    waits = waits-given streams s;
    fresh = λ other above.
        let within = live-within r id live in
        (or-none (other == id) (is_spoken r other) (apart-above other id (omega (arith, within))) (s.fresh other above).0, (s.fresh other above).1);
  }

-- a connection with other answers
abbrev pub answering : Held → List (ℕ × Waiting) → Held
answering c answers = record c { answers = answers }

stands-given : (c : Held) (r : Record) (id : ℕ) (part : AnswerPart) (answers' : List (ℕ × Waiting)) (waiting : Waiting) → OpenStands c r → ChangesOnly c.answers answers' id waiting
    → is_live r id ≡ true → WaitsLive (Given id part ∷ r) id waiting → OpenStands (answering c answers') (Given id part ∷ r)
unfolding is_live_with
stands-given c r id part answers' waiting s only live here = record {
  sound = s.sound;
  begun = s.begun;
  window = s.window;
  initial = s.initial;
  streams = streams-given r id part c.answers answers' waiting only live here c.streams s.streams;
  block = s.block;
  table = s.table;
  controls = s.controls;
  owing = s.owing;
  keeping = s.keeping;
  flood = s.flood;
  headed = s.headed;
}

gives-part : (c : Held) (r : Record) (id : ℕ) (part : AnswerPart) (answers' : List (ℕ × Waiting)) (waiting : Waiting) → c.fault ≡ None → IsSome (find c.streams id) → ChangesOnly c.answers answers' id waiting
    → (OpenStands c r → WaitsLive r id (waiting_on c.answers id) → is_live r id ≡ true → WaitsLive (Given id part ∷ r) id waiting) → Stands c r → Stands (answering c answers') (Given id part ∷ r)
gives-part c r id part answers' waiting sound there only here s =
    let o = stands-open c r sound s in
    let live = found-live c.streams c.answers r id o.streams there in
    open-stands (answering c answers') (Given id part ∷ r) sound s.0
    (stands-given c r id part answers' waiting o only live (here o (waits-live c.streams c.answers r id o.streams live) live))

-- ---- the parts, one by one

-- behind what doesn't end
shut-text : (text : List Token) → text ++ [] ++ [] ≡ text
shut-text text = append-nil (text ++ []) ∙ append-nil text

octets-append : (xs ys : List ℕ) → map Octet (xs ++ ys) ≡ map Octet xs ++ map Octet ys
octets-append [] ys = refl
octets-append (x ∷ xs) ys = ap (λ text. Octet x ∷ text) (octets-append xs ys)

text-body : (head : List Token) (replies : List (List ℕ)) (message : List ℕ)
    → head ++ map Octet (concat (adding_reply replies message)) ++ [] ++ [] ≡ (head ++ map Octet (concat replies) ++ [] ++ []) ++ map Octet message
text-body head replies message =
    let text = map Octet (concat replies) in
    shut-text (head ++ map Octet (concat (adding_reply replies message)))
    ∙ ap (λ octets. head ++ octets) (ap (map Octet) (concat-adding replies message) ∙ octets-append (concat replies) message)
    ∙ sym (append_assoc head text (map Octet message)) ∙ ap (λ before. before ++ map Octet message) (sym (shut-text (head ++ text)))

text-tail : (before more : List Token) → before ++ more ++ [] ≡ (before ++ [] ++ []) ++ more
text-tail before more = append-nil (before ++ more) ∙ ap (λ text. text ++ more) (sym (shut-text before))

text-reset : (before more : List Token) → before ++ [] ++ more ≡ (before ++ [] ++ []) ++ more
text-reset before more = ap (λ text. text ++ more) (sym (append-nil (before ++ [])))

-- a reply that is given waits behind the bytes that wait
replies-here : (r : Record) (id : ℕ) (waiting : Waiting) (message : List ℕ) → is_live r id ≡ true → WaitsLive r id waiting
    → adding_reply waiting.replies message ≡ unwritten_of (Given id (Reply message) ∷ r) id
unfolding is_live_with
replies-here r id waiting message live w =
    let n = data_out r id in
    let replies = replies_of r id in
    ap (λ waits. adding_reply waits message) (w.replies ∙ ap (λ b. if b then drop_bytes n replies else []) live)
    ∙ sym (drop_bytes-adding n replies message (written-within r id (waiting_text waiting) w.text))
    ∙ sym (λ i. if live i then drop_bytes n (if same-self id i then adding_reply replies message else replies) else [])

module _ (c : Held) (r : Record) (id : ℕ) (answers' : List (ℕ × Waiting)) (sound : c.fault ≡ None) (there : IsSome (find c.streams id)) where
  pub gives-head : (fields : List Field) (end : Bool) → waiting_on c.answers id ≡ nothing
      → ChangesOnly c.answers answers' id (with_head (waiting_on c.answers id) (flat_map field_spelling fields) end) → Stands c r → Stands (answering c answers') (Given id (Head fields end) ∷ r)
  unfolding is_live_with
  gives-head fields end none only s = gives-part c r id (Head fields end) answers' _ sound there only
      (λ o w live.
      let was = waiting_on c.answers id in
      let block = flat_map field_spelling fields in
      record {
        unreset = w.unreset;
        unfinished = w.unfinished;
        text = text-here r id (Head fields end) (waiting_text was) (waiting_text (with_head was block end)) w.text
            ((λ i. waiting_text (with_head (none i) block end)) ∙ sym (λ i. waiting_text (none i) ++ Fields end block ∷ []));
        replies = w.replies;
      })
      s

  pub gives-body : (message : List ℕ) → IsOpenEnded (waiting_on c.answers id)
      → ChangesOnly c.answers answers' id (with_reply (waiting_on c.answers id) message) → Stands c r → Stands (answering c answers') (Given id (Reply message) ∷ r)
  unfolding is_live_with
  gives-body message opened only s = gives-part c r id (Reply message) answers' _ sound there only
      (λ o w live.
      let was = waiting_on c.answers id in
      record {
        unreset = w.unreset;
        unfinished = w.unfinished;
        text = text-here r id (Reply message) (waiting_text was) (waiting_text (with_reply was message)) w.text
            ((λ i. head_text was.head ++ map Octet (concat (adding_reply was.replies message)) ++ tail_text (opened.tail i) ++ map Aborted (opened.resets i))
            ∙ text-body (head_text was.head) was.replies message
            ∙ (λ i. (head_text was.head ++ map Octet (concat was.replies) ++ tail_text (sym opened.tail i) ++ map Aborted (sym opened.resets i)) ++ map Octet message));
        replies = replies-here r id was message live w;
      })
      s

  pub gives-tail : (fields : List Field) → IsOpenEnded (waiting_on c.answers id)
      → ChangesOnly c.answers answers' id (with_tail (waiting_on c.answers id) (flat_map field_spelling fields)) → Stands c r → Stands (answering c answers') (Given id (Tail fields) ∷ r)
  unfolding is_live_with
  gives-tail fields opened only s = gives-part c r id (Tail fields) answers' _ sound there only
      (λ o w live.
      let was = waiting_on c.answers id in
      let block = flat_map field_spelling fields in
      let more : List Token = Fields true block ∷ [] in
      record {
        unreset = w.unreset;
        unfinished = w.unfinished;
        text = text-here r id (Tail fields) (waiting_text was) (waiting_text (with_tail was block)) w.text
            ((λ i. head_text was.head ++ map Octet (concat was.replies) ++ tail_text (Some block) ++ map Aborted (opened.resets i))
            ∙ text-tail (head_text was.head ++ map Octet (concat was.replies)) more
            ∙ (λ i. (head_text was.head ++ map Octet (concat was.replies) ++ tail_text (sym opened.tail i) ++ map Aborted (sym opened.resets i)) ++ more));
        replies = w.replies;
      })
      s

  pub gives-reset : (code : ℕ) → IsOpenEnded (waiting_on c.answers id)
      → ChangesOnly c.answers answers' id (with_reset (waiting_on c.answers id) code) → Stands c r → Stands (answering c answers') (Given id (Abort code) ∷ r)
  unfolding is_live_with
  gives-reset code opened only s = gives-part c r id (Abort code) answers' _ sound there only
      (λ o w live.
      let was = waiting_on c.answers id in
      let more : List Token = Aborted code ∷ [] in
      record {
        unreset = w.unreset;
        unfinished = w.unfinished;
        text = text-here r id (Abort code) (waiting_text was) (waiting_text (with_reset was code)) w.text
            ((λ i. head_text was.head ++ map Octet (concat was.replies) ++ tail_text (opened.tail i) ++ map Aborted (opened.resets i ++ code ∷ []))
            ∙ text-reset (head_text was.head ++ map Octet (concat was.replies)) more
            ∙ (λ i. (head_text was.head ++ map Octet (concat was.replies) ++ tail_text (sym opened.tail i) ++ map Aborted (sym opened.resets i)) ++ more));
        replies = w.replies;
      })
      s
