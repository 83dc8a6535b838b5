-- An answer is given to the connection at once, or left to be given as its windows open.
use Rattle.std.proofs.Common.{◌≡◌, ◌⊎◌, inl, inr, ℕ, ◌==◌, ◌≤◌, Bool, true, false, ◌&&◌, ◌||◌, List, [], ◌∷◌, ◌++◌, map, length, Option, None, Some, Result, Ok, Err, refl, sym, ap, subst, ◌∙◌, append-nil, append_assoc, true≢false, arith, if◌then◌else◌}
use Rattle.std.specs.Prelude.{nat_eq, IsSome, is_some, IfOk, OnOk, option_to_list}
use Rattle.std.specs.List.{flat_map, list_any}
use Rattle.std.proofs.lemmas.List.{map-append}
use Rattle.std.proofs.lemmas.List.Folds.{list_any-append}
use Rattle.std.proofs.lemmas.List.Concat.{flat_map-cons}
use Rattle.std.proofs.lemmas.Bool.{eqb-true, eqb-false, eq-eqb, ne_eqb}
use Rattle.grpc_meta.specs.declared.answers.Status.{Status}
use Rattle.grpc_meta.specs.Answer.{trailers}
use Rattle.grpc_frame.specs.Frame.{frame}
use Rattle.hpack_blocks.specs.Spelling.{field_spelling}
use Rattle.h2_streams.specs.declared.stream.Stream.{Stream}
use Rattle.h2_streams.specs.declared.stream.StreamState.{StreamState}
use Rattle.h2_streams.specs.declared.stream.StreamState.TheVariants as is
use Rattle.h2_streams.specs.Book.{Book, find, is_idle, state_in, begun_state}
use Rattle.h2_answers.specs.Waiting.{waiting_on, IsOpenEnded}
use Rattle.h2_frames.specs.declared.fault.H2Fault.{H2Fault}
use Rattle.h2_frames.specs.declared.frame.Frame.{Frame}
use Rattle.outside.specs.declared.wants.Memory.{Memory}
use Rattle.h2_record.specs.declared.event.Event.{Event}
use Rattle.h2_record.specs.Events.{events_of}
use Rattle.h2_record.specs.Record.{AnswerPart, Head, Reply, Tail, Record, In, Given, Whole, Broken, any_in}
use Rattle.h2_record.specs.Live.{ends, entry_of, is_live_with}
use Rattle.h2_record.specs.Resets.{is_live, stream_of}
use Rattle.h2_record.specs.Faults.{first_fault_of}
use Rattle.h2_record.specs.Texts.{Token, Fields, Octet, part_text, given_text}
use Rattle.h2_record.specs.Written.{EachWasDue, is_ended}
use Rattle.h2_conn.specs.Held.{Held}
use Rattle.h2_conn.specs.Stands.{Stands, OpenStands}
use Rattle.conn_record.specs.Giving.{IsShort, MayBeGiven, EachWasGiven}
use Rattle.conn_deferral.specs.Deferred.{undeferred, Defers, Dealing, IsClosed, Deals}
use Rattle.conn_deferral.proofs.Dealing.{closed-given, deals-in as came-in}
use Rattle.conn_deferral.proofs.Dues.{sound-both, came-both, live-both, defers-given, defers-whole, defers-broken}
use Rattle.conn_deferral.proofs.Agreeing.{rules-agree}
use Rattle.rows_body.specs.Rows.{Item, Rows}
use Rattle.rows_body.specs.declared.body.RowsEnd.TheVariants as rows_end
use Rattle.call_read.specs.Items.{end_status, messages_of, status_of, told_items}
use Rattle.conn_requests.specs.declared.asks.Ask.{Ask}
use Rattle.conn_requests.specs.Given.{with_parts, reply_of, opening, parts_of}
use Rattle.conn_requests.specs.Decided.{Answered, Played}
use Rattle.conn_requests.proofs.SpelledLemmas.{where_true, given_text-with_parts}
use Rattle.conn_service.specs.Quiet.{reads_rows, reads_on}
use Rattle.conn_service.specs.Going.{EndsInTrailers}
use Rattle.conn_calls.specs.Giving.{IsSound, Gives, Marks, marked_by}
use Rattle.conn_calls.specs.Dealing.{parts_left, text_left, KeptBodies, body_in, Dealt, dealing_of, IsDealt, LeavesBy, Decides, MarksOn}
use Rattle.conn_calls.proofs.GivingLemmas.{with_parts-append, open-stands, may-go-on, tail-short, short-fields}

-- ---- what the connection stands for

pub sound-given : (conn : Dealing) (r : Record) (d : IsDealt conn r) → IsSound conn.conn d.deals.given
sound-given conn r d = record {
  stands = d.deals.stands;
  sound = sound-both d.deals.given r d.deals.defers.same ∙ d.sound;
  was_open = d.deals.was_open;
  was_due = d.deals.was_due;
}

pub fault-parts : (r : Record) (id : ℕ) (parts : List AnswerPart) → first_fault_of (with_parts r id parts) ≡ first_fault_of r
fault-parts r id [] = refl
fault-parts r id (part ∷ parts) = fault-parts (Given id part ∷ r) id parts

pub due-parts : (r : Record) (id : ℕ) (parts : List AnswerPart) → EachWasDue r → EachWasDue (with_parts r id parts)
due-parts r id [] due = due
due-parts r id (part ∷ parts) due = due-parts (Given id part ∷ r) id parts due

open-before : (r : Record) (id : ℕ) (parts : List AnswerPart) → EachWasGiven (with_parts r id parts) → EachWasGiven r
open-before r id [] each = each
open-before r id (part ∷ parts) each = (open-before (Given id part ∷ r) id parts each).1

-- ---- parts that are given at once

module _ (left : ℕ → List Token) (id : ℕ) (none : left id ≡ []) where
  defers-parts : (parts : List AnswerPart) (given r : Record) → Defers given r left → Defers (with_parts given id parts) (with_parts r id parts) left
  defers-parts [] given r d = d
  defers-parts (part ∷ parts) given r d = defers-parts parts (Given id part ∷ given) (Given id part ∷ r) (defers-given given r left d id part none)

  text-same : (given r : Record) → Defers given r left → given_text given id ≡ given_text r id
  text-same given r d = sym (append-nil (given_text given id)) ∙ ap (λ l. given_text given id ++ l) (sym none) ∙ d.text id

  may-over : (given r : Record) (part : AnswerPart) → Defers given r left → MayBeGiven given id part → MayBeGiven r id part
  may-over given r part d may = record {
    live = sym (live-both given r d.same id) ∙ may.live;
    goes_on = ap is_ended (sym (text-same given r d)) ∙ may.goes_on;
    short = may.short;
  }

  open-parts : (parts : List AnswerPart) (given r : Record) → Defers given r left → EachWasGiven (with_parts given id parts) → EachWasGiven r → EachWasGiven (with_parts r id parts)
  open-parts [] given r d each opened = opened
  open-parts (part ∷ parts) given r d each opened =
      open-parts parts (Given id part ∷ given) (Given id part ∷ r) (defers-given given r left d id part none) each
      (may-over given r part d (open-before (Given id part ∷ given) id parts each).0, opened)

text-none : (body : Option Rows) → is_some body ≡ false → text_left body ≡ []
text-none None none = refl
text-none (Some body) none = absurd (true≢false none)

-- parts change no stream
live-parts : (r : Record) (id : ℕ) (parts : List AnswerPart) (other : ℕ) → is_live (with_parts r id parts) other ≡ is_live r other
unfolding is_live_with
live-parts r id [] other = refl
live-parts r id (part ∷ parts) other = live-parts (Given id part ∷ r) id parts other

closed-parts : (r : Record) (id : ℕ) (parts : List AnswerPart) (other : ℕ) → IsClosed r other → IsClosed (with_parts r id parts) other
closed-parts r id [] other closed = closed
closed-parts r id (part ∷ parts) other closed = closed-parts (Given id part ∷ r) id parts other (closed-given r id part other closed)

has-parts : (given : Record) (id : ℕ) (parts : List AnswerPart) (old new left : List Token) (other : ℕ) → new ≡ old → (old ≡ left) ⊎ IsClosed given other → (new ≡ left) ⊎ IsClosed (with_parts given id parts) other
has-parts given id parts old new left other same (inl is) = inl (same ∙ is)
has-parts given id parts old new left other same (inr closed) = inr (closed-parts given id parts other closed)

-- what is left on a live stream, its caller has
left-none : (given : Record) (id : ℕ) (old left : List Token) → is_live given id ≡ true → old ≡ [] → (old ≡ left) ⊎ IsClosed given id → left ≡ []
left-none given id old left live none (inl is) = sym is ∙ none
left-none given id old left live none (inr closed) = absurd (true≢false (sym live ∙ closed.1))

dealt-parts : (old new : Dealing) (id : ℕ) (parts : List AnswerPart) → Gives old.conn new.conn id parts → old.left id ≡ [] → ((other : ℕ) → new.left other ≡ old.left other) → (r : Record) → IsDealt old r
    → IsDealt new (with_parts r id parts)
dealt-parts old new id [] gives none same r d =
    let after = gives d.deals.given (sound-given old r d) in
    record {
      deals = record {
        given = d.deals.given;
        left = d.deals.left;
        stands = after.stands;
        defers = d.deals.defers;
        has = λ other. has-parts d.deals.given id [] (old.left other) (new.left other) (d.deals.left other) other (same other) (d.deals.has other);
        was_open = d.deals.was_open;
        was_due = d.deals.was_due;
      };
      sound = d.sound;
      was_open = d.was_open;
      was_due = d.was_due;
    }
dealt-parts old new id (part ∷ parts) gives none same r d =
    let after = gives d.deals.given (sound-given old r d) in
    let first : MayBeGiven d.deals.given id part = (open-before (Given id part ∷ d.deals.given) id parts after.was_open).0 in
    let nothing : d.deals.left id ≡ [] = left-none d.deals.given id (old.left id) (d.deals.left id) first.live none (d.deals.has id) in
    record {
      deals = record {
        given = with_parts d.deals.given id (part ∷ parts);
        left = d.deals.left;
        stands = after.stands;
        defers = defers-parts d.deals.left id nothing (part ∷ parts) d.deals.given r d.deals.defers;
        has = λ other. has-parts d.deals.given id (part ∷ parts) (old.left other) (new.left other) (d.deals.left other) other (same other) (d.deals.has other);
        was_open = after.was_open;
        was_due = after.was_due;
      };
      sound = fault-parts r id (part ∷ parts) ∙ d.sound;
      was_open = open-parts d.deals.left id nothing (part ∷ parts) d.deals.given r d.deals.defers after.was_open d.was_open;
      was_due = due-parts r id (part ∷ parts) d.was_due;
    }

pub given-at-once : (old new : Dealt) (id : ℕ) (asked : Ask) (parts : List AnswerPart) → Gives old.conn new.conn id parts → new.bodies ≡ old.bodies → is_some (body_in old.bodies id) ≡ false
    → Decides (dealing_of old) (dealing_of new) id asked parts
given-at-once old new id asked parts gives same none =
    let left : (other : ℕ) → (dealing_of new).left other ≡ (dealing_of old).left other = λ other. ap (λ bodies. text_left (body_in bodies other)) same in
    record {
      dealt = dealt-parts (dealing_of old) (dealing_of new) id parts gives (text-none (body_in old.bodies id) none) left;
      left = λ other. inl (left other);
    }

-- ---- the mark of a whole request

closed-whole : (given : Record) (old new left : List Token) (other : ℕ) → new ≡ old → (old ≡ left) ⊎ IsClosed given other → (new ≡ left) ⊎ IsClosed (Whole ∷ given) other
unfolding is_live_with
closed-whole given old new left other same (inl is) = inl (same ∙ is)
closed-whole given old new left other same (inr closed) = inr closed

marked-by : (old new : Dealing) (asks : List Ask) → Marks old.conn new.conn asks → ((other : ℕ) → new.left other ≡ old.left other) → (r : Record) → IsDealt old r → IsDealt new (marked_by asks r)
marked-by old new [] marks same r d =
    record {
      deals = record {
        given = d.deals.given;
        left = d.deals.left;
        stands = (marks d.deals.given (sound-given old r d)).stands;
        defers = d.deals.defers;
        has = λ other. has-parts d.deals.given 0 [] (old.left other) (new.left other) (d.deals.left other) other (same other) (d.deals.has other);
        was_open = d.deals.was_open;
        was_due = d.deals.was_due;
      };
      sound = d.sound;
      was_open = d.was_open;
      was_due = d.was_due;
    }
marked-by old new (asked ∷ asks) marks same r d =
    record {
      deals = record {
        given = Whole ∷ d.deals.given;
        left = d.deals.left;
        stands = (marks d.deals.given (sound-given old r d)).stands;
        defers = defers-whole d.deals.given r d.deals.left d.deals.defers;
        has = λ other. closed-whole d.deals.given (old.left other) (new.left other) (d.deals.left other) other (same other) (d.deals.has other);
        was_open = d.deals.was_open;
        was_due = d.deals.was_due;
      };
      sound = d.sound;
      was_open = d.was_open;
      was_due = d.was_due;
    }

pub marks-on : (old new : Dealt) (asks : List Ask) → Marks old.conn new.conn asks → new.bodies ≡ old.bodies → MarksOn (dealing_of old) (dealing_of new) asks
marks-on old new asks marks same =
    let left : (other : ℕ) → (dealing_of new).left other ≡ (dealing_of old).left other = λ other. ap (λ bodies. text_left (body_in bodies other)) same in
    record { dealt = marked-by (dealing_of old) (dealing_of new) asks marks left; left = left }

-- ---- parts that are left

-- a stream that the client has ended
ended-by : (found : Option Stream) (was_reset : Bool) (entry : Stream) (live : Bool) → begun_state found was_reset ≡ is.Ended → found ≡ (if live then Some entry else None) → entry.ended ≡ true
ended-by found was_reset entry true state found_is = ended-entry entry.ended refl (ap (λ s. begun_state s was_reset) (sym found_is) ∙ state)
  where
    ended-entry : (b : Bool) → entry.ended ≡ b → (if entry.ended then is.Ended else is.Live) ≡ is.Ended → entry.ended ≡ true
    ended-entry true e same = e
    ended-entry false e same = absurd (let wrong : is.Live ≡ is.Ended = ap (λ b. if b then is.Ended else is.Live) (sym e) ∙ same in cc)
ended-by found was_reset entry false state found_is = absurd (let wrong : is.Closed was_reset ≡ is.Ended = ap (λ s. begun_state s was_reset) (sym found_is) ∙ state in cc)

-- the text of replies doesn't end, and each part is short
endless-octets : (bytes : List ℕ) → is_ended (map Octet bytes) ≡ false
endless-octets [] = refl
endless-octets (byte ∷ bytes) = endless-octets bytes

end-append : (xs ys : List Token) → is_ended (xs ++ ys) ≡ (is_ended xs || is_ended ys)
end-append xs ys = list_any-append _ xs ys

status-short : (items : List Item) → length (status_of items).text ≤ 1312
unfolding status_of
status-short [] = omega arith
status-short (Ok message ∷ items) = status-short items
status-short (Err (rows_end.PastEnd matched) ∷ items) = omega arith
status-short (Err rows_end.Memory ∷ items) = omega arith

live-given : (r : Record) (id : ℕ) (part : AnswerPart) → is_live (Given id part ∷ r) id ≡ is_live r id
unfolding is_live_with
live-given r id part = refl

mine : (r : Record) (id : ℕ) (part : AnswerPart) → given_text (Given id part ∷ r) id ≡ given_text r id ++ part_text part
mine r id part = ap (λ (b : Bool). if b then given_text r id ++ part_text part else given_text r id) (eq-eqb id id refl)

open-left : (id : ℕ) (messages : List (List ℕ)) (tail : AnswerPart) (r : Record) → EachWasGiven r → is_live r id ≡ true → is_ended (given_text r id) ≡ false → IsShort tail
    → EachWasGiven (with_parts r id (map reply_of messages ++ tail ∷ []))
open-left id [] tail r opened live goes short = (record { live = live; goes_on = goes; short = short }, opened)
open-left id (message ∷ messages) tail r opened live goes short =
    open-left id messages tail (Given id (reply_of message) ∷ r) (record { live = live; goes_on = goes; short = tt }, opened) (live-given r id (reply_of message) ∙ live)
    (ap is_ended (mine r id (reply_of message)) ∙ end-append (given_text r id) (map Octet (frame message)) ∙ (λ i. goes i || endless-octets (frame message) i)) short

-- no rule reads them
undeferred-parts : (r : Record) (id : ℕ) (parts : List AnswerPart) → any_in (ends id) r ≡ true → undeferred (with_parts r id parts) ≡ undeferred r
undeferred-parts r id [] ended = refl
undeferred-parts r id (part ∷ parts) ended =
    undeferred-parts (Given id part ∷ r) id parts ended ∙ ap (λ (b : Bool). if b then undeferred r else Given id part ∷ undeferred r) ended

octets-append : (xs ys : List ℕ) → map Octet xs ++ map Octet ys ≡ map Octet (xs ++ ys)
octets-append xs ys = sym (map-append Octet xs ys)

-- what is left is octets and the trailers
left-octets : (messages : List (List ℕ)) (tail : AnswerPart) → (bytes : List ℕ) × (flat_map part_text (map reply_of messages ++ tail ∷ []) ≡ map Octet bytes ++ flat_map part_text (tail ∷ []))
left-octets [] tail = ([], refl)
left-octets (message ∷ messages) tail =
    let rest = left-octets messages tail in (
      frame message ++ rest.0,
      flat_map-cons part_text (reply_of message) (map reply_of messages ++ tail ∷ []) ∙ ap (λ l. map Octet (frame message) ++ l) rest.1
          ∙ sym (append_assoc (map Octet (frame message)) (map Octet rest.0) (flat_map part_text (tail ∷ []))) ∙ ap (λ l. l ++ flat_map part_text (tail ∷ [])) (octets-append (frame message) rest.0),
    )

tail-text : (status : Status) → flat_map part_text (Tail (trailers status) ∷ []) ≡ Fields true (flat_map field_spelling (trailers status)) ∷ []
tail-text status = flat_map-cons part_text (Tail (trailers status)) []

pub ends-in-trailers : (items : List Item) → EndsInTrailers (flat_map part_text (parts_left items))
ends-in-trailers items =
    let rest = left-octets (messages_of items) (Tail (trailers (status_of items))) in
    record {
      bytes = rest.0;
      block = flat_map field_spelling (trailers (status_of items));
      is = rest.1 ∙ ap (λ l. map Octet rest.0 ++ l) (tail-text (status_of items));
    }

-- a body is left on a stream, behind the HEADERS
module _ (old new : Dealing) (id : ℕ) (items : List Item) (begun : Bool)
    (gives : Gives old.conn new.conn id (opening begun)) (none : old.left id ≡ []) (left_is : new.left id ≡ flat_map part_text (parts_left items))
    (others : (other : ℕ) → (other == id) ≡ false → new.left other ≡ old.left other)
    (may : (r : Record) → IsSound new.conn r → MayBeGiven r id (Reply []))
    (ended : (r : Record) → IsSound new.conn r → any_in (ends id) r ≡ true)
    (r : Record) (d : IsDealt old r) where
  -- behind the HEADERS
  abbrev g : Record
  g = with_parts d.deals.given id (opening begun)

  abbrev q : Record
  q = with_parts r id (opening begun)

  after : IsSound new.conn g
  after = gives d.deals.given (sound-given old r d)

  nothing : d.deals.left id ≡ []
  nothing = left-none d.deals.given id (old.left id) (d.deals.left id) (sym (live-parts d.deals.given id (opening begun) id) ∙ (may g after).live) none (d.deals.has id)

  both : Defers g q d.deals.left
  both = defers-parts d.deals.left id nothing (opening begun) d.deals.given r d.deals.defers

  decided-ended : any_in (ends id) q ≡ true
  decided-ended = sym (came-both g q both.same (ends id)) ∙ ended g after

  -- what is left then
  abbrev later : ℕ → List Token
  later other = if other == id then new.left id else d.deals.left other

  text-by : (other : ℕ) (b : Bool) → (other == id) ≡ b → given_text g other ++ (if b then new.left id else d.deals.left other) ≡ given_text q other ++ where_true b (flat_map part_text (parts_left items))
  text-by other false apart = both.text other ∙ sym (append-nil (given_text q other))
  text-by other true here =
      let is : other ≡ id = eqb-true other id here in
      let same : given_text g other ≡ given_text q other = ap (given_text g) is ∙ text-same d.deals.left id nothing g q both ∙ ap (given_text q) (sym is) in
      (λ i. same i ++ left_is i)

  ended-left : (other : ℕ) (b : Bool) → (other == id) ≡ b → ((if b then new.left id else d.deals.left other) ≡ []) ⊎ (any_in (ends other) g ≡ true)
  ended-left other true here = inr (ap (λ (n : ℕ). any_in (ends n) g) (eqb-true other id here) ∙ ended g after)
  ended-left other false apart = both.ended other

  has-left : (other : ℕ) (b : Bool) → (other == id) ≡ b → (old.left other ≡ d.deals.left other) ⊎ IsClosed d.deals.given other → (new.left other ≡ (if b then new.left id else d.deals.left other)) ⊎ IsClosed g other
  has-left other true here has = inl (ap new.left (eqb-true other id here))
  has-left other false apart has = has-parts d.deals.given id (opening begun) (old.left other) (new.left other) (d.deals.left other) other (others other apart) has

  decided-may : MayBeGiven q id (Reply [])
  decided-may = may-over d.deals.left id nothing g q (Reply []) both (may g after)

  pub dealt-left : IsDealt new (with_parts r id (opening begun ++ parts_left items))
  dealt-left =
      subst (IsDealt new) (sym (with_parts-append r id (opening begun) (parts_left items)))
      (record {
        deals = record {
          given = g;
          left = later;
          stands = after.stands;
          defers = record {
            same = both.same ∙ sym (undeferred-parts q id (parts_left items) decided-ended);
            text = λ other. text-by other (other == id) refl ∙ sym (given_text-with_parts q id (parts_left items) other);
            ended = λ other. ended-left other (other == id) refl;
          };
          has = λ other. has-left other (other == id) refl (d.deals.has other);
          was_open = after.was_open;
          was_due = after.was_due;
        };
        sound = fault-parts q id (parts_left items) ∙ fault-parts r id (opening begun) ∙ d.sound;
        was_open = open-left id (messages_of items) (Tail (trailers (status_of items))) q
            (open-parts d.deals.left id nothing (opening begun) d.deals.given r d.deals.defers after.was_open d.was_open) decided-may.live decided-may.goes_on
            (short-fields (trailers (status_of items)) (tail-short (trailers (status_of items)) (status_of items) refl (status-short items)));
        was_due = due-parts q id (parts_left items) (due-parts r id (opening begun) d.was_due);
      })

-- ---- the state of a stream

by-idle : (idle : Bool) (state : StreamState) → (if idle then is.Idle else state) ≡ is.Ended → state ≡ is.Ended
by-idle true state e = absurd (let wrong : is.Idle ≡ is.Ended = e in cc)
by-idle false state e = e

ended-in : (c : Held) (r : Record) (id : ℕ) → IsSound c r → state_in c.streams id ≡ is.Ended → any_in (ends id) r ≡ true
ended-in c r id s state =
    let was_reset : Bool = list_any (nat_eq id) c.streams.resets in
    ended-by (find c.streams id) was_reset (entry_of r id) (is_live r id) (by-idle (is_idle c.streams id) (begun_state (find c.streams id) was_reset) state)
    ((open-stands c r s.stands s.sound).streams.found id)

left-others : (id other : ℕ) (old new : KeptBodies) (body : Rows) → ((o : ℕ) → body_in new o ≡ (if nat_eq id o then Some body else body_in old o)) → (other == id) ≡ false → text_left (body_in new other) ≡ text_left (body_in old other)
left-others id other old new body puts apart =
    ap text_left (puts other ∙ ap (λ (b : Bool). if b then Some body else body_in old other) (ne_eqb id other (λ same. eqb-false other id apart (sym same))))

pub body-left : (old given new : Dealt) (id : ℕ) (begun : Bool) (asked : Ask) (body : Rows) → reads_rows asked ≡ true → is_some (body_in old.bodies id) ≡ false
    → Gives old.conn given.conn id (opening begun) → given.bodies ≡ old.bodies → IsSome (find given.conn.streams id) → IsOpenEnded (waiting_on given.conn.answers id)
    → state_in given.conn.streams id ≡ is.Ended → new.conn ≡ given.conn
    → ((other : ℕ) → body_in new.bodies other ≡ (if nat_eq id other then Some body else body_in given.bodies other))
    → Decides (dealing_of old) (dealing_of new) id asked (parts_of begun (told_items body.left))
body-left old given new id begun asked body reads empty gives same some goes state conn puts =
    let first : Gives old.conn new.conn id (opening begun) = subst (λ (c : Held). Gives old.conn c id (opening begun)) (sym conn) gives in
    let none : text_left (body_in old.bodies id) ≡ [] = text-none (body_in old.bodies id) empty in
    let left_is : text_left (body_in new.bodies id) ≡ flat_map part_text (parts_left body.left) =
    ap text_left (puts id ∙ ap (λ (b : Bool). if b then Some body else body_in given.bodies id) (eq-eqb id id refl)) in
    let others : (other : ℕ) → (other == id) ≡ false → text_left (body_in new.bodies other) ≡ text_left (body_in old.bodies other) =
    λ other apart. left-others id other given.bodies new.bodies body puts apart ∙ ap (λ (bodies : KeptBodies). text_left (body_in bodies other)) same in
    let back : (r : Record) → IsSound new.conn r → IsSound given.conn r = λ r s. subst (λ (c : Held). IsSound c r) conn s in
    let whole : (opening begun ++ map reply_of (messages_of body.left)) ++ Tail (trailers (status_of body.left)) ∷ [] ≡ opening begun ++ parts_left body.left =
    append_assoc (opening begun) (map reply_of (messages_of body.left)) (Tail (trailers (status_of body.left)) ∷ []) in
    record {
      dealt = λ r d.
          subst (λ (parts : List AnswerPart). IsDealt (dealing_of new) (with_parts r id parts)) (sym whole)
          (dealt-left (dealing_of old) (dealing_of new) id body.left begun first none left_is others
          (λ r s. may-go-on given.conn r id (Reply []) (back r s) some goes tt) (λ r s. ended-in given.conn r id (back r s) state) r d);
      left = λ other. leaves-by other (other == id) refl others left_is;
    }
  where
    leaves-by : (other : ℕ) (b : Bool) → (other == id) ≡ b → ((o : ℕ) → (o == id) ≡ false → text_left (body_in new.bodies o) ≡ text_left (body_in old.bodies o))
        → text_left (body_in new.bodies id) ≡ flat_map part_text (parts_left body.left)
        → (text_left (body_in new.bodies other) ≡ text_left (body_in old.bodies other)) ⊎ ((other ≡ id) × (reads_rows asked ≡ true) × EndsInTrailers (text_left (body_in new.bodies other)))
    leaves-by other false apart others left_is = inl (others other apart)
    leaves-by other true here others left_is =
        let is : other ≡ id = eqb-true other id here in
        inr (is, reads, subst EndsInTrailers (sym (ap (λ n. text_left (body_in new.bodies n)) is ∙ left_is)) (ends-in-trailers body.left))

-- ---- answers to ReadRows are left, and to nothing else

reads-more : (used : List Answered) (x : Answered) (id : ℕ) → reads_on id used ≡ true → reads_on id (used ++ x ∷ []) ≡ true
reads-more used x id reads = list_any-append _ used (x ∷ []) ∙ ap (λ (b : Bool). b || reads_on id (x ∷ [])) reads

or-true : (b : Bool) → (b || true) ≡ true
or-true true = refl
or-true false = refl

reads-now : (used : List Answered) (x : Answered) (id : ℕ) → id ≡ x.item.stream → reads_rows x.item.asked ≡ true → reads_on id (used ++ x ∷ []) ≡ true
reads-now used x id is reads =
    list_any-append _ used (x ∷ []) ∙ (λ i. reads_on id used || ((eq-eqb id x.item.stream is i && reads i) || false)) ∙ or-true (reads_on id used)

left-by : (used : List Answered) (x : Answered) (id : ℕ) (before now : List Token) → (now ≡ before) ⊎ ((id ≡ x.item.stream) × (reads_rows x.item.asked ≡ true) × EndsInTrailers now)
    → (before ≡ []) ⊎ ((reads_on id used ≡ true) × EndsInTrailers before) → (now ≡ []) ⊎ ((reads_on id (used ++ x ∷ []) ≡ true) × EndsInTrailers now)
left-by used x id before now (inl same) (inl none) = inl (same ∙ none)
left-by used x id before now (inl same) (inr (reads, ends)) = inr (reads-more used x id reads, subst EndsInTrailers (sym same) ends)
left-by used x id before now (inr (is, reads, ends)) shape = inr (reads-now used x id is reads, ends)

pub left-more : (old new : ℕ → List Token) (used : List Answered) (x : Answered) → LeavesBy old new x.item.stream x.item.asked
    → ((id : ℕ) → (old id ≡ []) ⊎ ((reads_on id used ≡ true) × EndsInTrailers (old id))) → (id : ℕ) → (new id ≡ []) ⊎ ((reads_on id (used ++ x ∷ []) ≡ true) × EndsInTrailers (new id))
left-more old new used x leaves shape id = left-by used x id (old id) (new id) (leaves id) (shape id)

pub left-same : (old new : ℕ → List Token) (used : List Answered) → ((id : ℕ) → new id ≡ old id) → ((id : ℕ) → (old id ≡ []) ⊎ ((reads_on id used ≡ true) × EndsInTrailers (old id)))
    → (id : ℕ) → (new id ≡ []) ⊎ ((reads_on id used ≡ true) × EndsInTrailers (new id))
left-same old new used same shape id = subst (λ (l : List Token). (l ≡ []) ⊎ ((reads_on id used ≡ true) × EndsInTrailers l)) (sym (same id)) (shape id)

-- ---- a frame comes

module _ (old : Held) (bodies : KeptBodies) where
  pub fault-in : (result : Option H2Fault) → ((r : Record) → Stands old r → result ≡ first_fault_of r) → (r : Record) → Deals (dealing_of (record { conn = old; bodies = bodies })) r → result ≡ first_fault_of r
  fault-in result is r d = is d.given d.stands ∙ sound-both d.given r d.defers.same

  deal-in : (new : Held) (came : Frame) → ((r : Record) → Stands old r → Stands new (In came ∷ r))
      → (r : Record) → Deals (dealing_of (record { conn = old; bodies = bodies })) r → Deals (dealing_of (record { conn = new; bodies = bodies })) (In came ∷ r)
  deal-in new came stands r d = came-in (dealing_of (record { conn = old; bodies = bodies })) (dealing_of (record { conn = new; bodies = bodies })) came r stands (λ id. refl) d

  tells-in : (told : Option Event) (came : Frame) → ((r : Record) → Stands old r → option_to_list told ≡ events_of r came)
      → (r : Record) → Deals (dealing_of (record { conn = old; bodies = bodies })) r → option_to_list told ≡ events_of r came
  tells-in told came is r d = is d.given d.stands ∙ (rules-agree d.given r d.defers.same).events came

  pub whole-on : (new : Held) → ((r : Record) → Stands old r → Stands new (Whole ∷ r)) → (asked : Ask) (asks : List Ask)
      → MarksOn (dealing_of (record { conn = old; bodies = bodies })) (dealing_of (record { conn = new; bodies = bodies })) (asked ∷ asks)
  whole-on new stands asked asks =
      marks-on (record { conn = old; bodies = bodies }) (record { conn = new; bodies = bodies }) (asked ∷ asks)
      (λ r sound. record { stands = stands r sound.stands; sound = sound.sound; was_open = sound.was_open; was_due = sound.was_due }) refl

pub deals-in : (old new : Held) (bodies : KeptBodies) (came : Frame) (result : Result (Option Event) Memory) → OnOk result ((r : Record) → Stands old r → Stands new (In came ∷ r))
    → OnOk result ((r : Record) → Deals (dealing_of (record { conn = old; bodies = bodies })) r → Deals (dealing_of (record { conn = new; bodies = bodies })) (In came ∷ r))
deals-in old new bodies came (Ok told) stands = deal-in old bodies new came stands
deals-in old new bodies came (Err memory) stands = stands

pub events-in : (old : Held) (bodies : KeptBodies) (came : Frame) (result : Result (Option Event) Memory) → IfOk result (λ told. (r : Record) → Stands old r → option_to_list told ≡ events_of r came)
    → IfOk result (λ told. (r : Record) → Deals (dealing_of (record { conn = old; bodies = bodies })) r → option_to_list told ≡ events_of r came)
events-in old bodies came (Ok told) is = tells-in old bodies told came is
events-in old bodies came (Err memory) is = is

-- ---- a rule of framing is broken

has-broken : (given : Record) (fault : H2Fault) (old left : List Token) (other : ℕ) → (old ≡ left) ⊎ IsClosed given other → (old ≡ left) ⊎ IsClosed (Broken fault ∷ given) other
unfolding is_live_with
has-broken given fault old left other (inl is) = inl is
has-broken given fault old left other (inr closed) = inr closed

broken-in : (old new : Held) (bodies : KeptBodies) (fault : H2Fault) → ((r : Record) → Stands old r → Stands new (Broken fault ∷ r))
    → (r : Record) → Deals (dealing_of (record { conn = old; bodies = bodies })) r → Deals (dealing_of (record { conn = new; bodies = bodies })) (Broken fault ∷ r)
broken-in old new bodies fault stands r d = record {
  given = Broken fault ∷ d.given;
  left = d.left;
  stands = stands d.given d.stands;
  defers = defers-broken d.given r d.left d.defers fault;
  has = λ other. has-broken d.given fault (text_left (body_in bodies other)) (d.left other) other (d.has other);
  was_open = d.was_open;
  was_due = d.was_due;
}

pub broken-off : (old new : Held) (bodies : KeptBodies) (fault : H2Fault) {U : Type 0} (result : Result U Memory) → OnOk result ((r : Record) → Stands old r → Stands new (Broken fault ∷ r))
    → OnOk result ((r : Record) → Deals (dealing_of (record { conn = old; bodies = bodies })) r → Deals (dealing_of (record { conn = new; bodies = bodies })) (Broken fault ∷ r))
broken-off old new bodies fault (Ok done) stands = broken-in old new bodies fault stands
broken-off old new bodies fault (Err memory) stands = stands
