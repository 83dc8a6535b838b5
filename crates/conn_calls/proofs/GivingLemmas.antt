-- A part of an answer is given where the connection says that it may be.
use Rattle.std.proofs.Common.{◌≡◌, ℕ, ◌+◌, ◌≤◌, Bool, true, false, ◌||◌, List, [], ◌∷◌, ◌++◌, map, length, Option, None, Some, Result, Ok, Err, refl, sym, ap, subst, ◌∙◌, true≢false, append_assoc, take, get_or, ◌<◌, arith, if◌then◌else◌}
use Rattle.std.specs.Prelude.{IsSome, is_some, OnOk}
use Rattle.std.proofs.lemmas.List.{take_more, map-append}
use Rattle.std.specs.List.{flat_map, concat}
use Rattle.std.proofs.lemmas.List.Folds.{list_any-append}
use Rattle.hpack_blocks.specs.declared.fields.Field.{Field}
use Rattle.hpack_blocks.specs.Spelling.{block_spelling, field_spelling}
use Rattle.h2_frames.specs.declared.fault.H2Fault.{H2Fault}
use Rattle.h2_streams.specs.Book.{find}
use Rattle.h2_streams.specs.declared.stream.Stream.{Stream}
use Rattle.h2_answers.specs.declared.part.Head.{Head as WaitingHead}
use Rattle.h2_answers.specs.Waiting.{Waiting, nothing, waiting_on, IsOpenEnded}
use Rattle.h2_record.specs.Record.{AnswerPart, Head, Reply, Tail, Record, Given}
use Rattle.h2_record.specs.Faults.{first_fault_of}
use Rattle.h2_record.specs.Live.{entry_of}
use Rattle.h2_record.specs.Resets.{is_live}
use Rattle.h2_record.specs.Texts.{Token, Octet, Aborted, written_text}
use Rattle.h2_record.specs.Written.{ends_answer, is_ended}
use Rattle.h2_conn.specs.Held.{Held}
use Rattle.h2_conn.specs.Stands.{Stands, StandsBy, OpenStands, StreamsStand}
use Rattle.h2_conn.specs.Waits.{WaitsBy, WaitsLive, head_text, tail_text, waiting_text}
use Rattle.conn_record.specs.declared.limits.TheConstants.{LONGEST_BLOCK}
use Rattle.conn_record.specs.Giving.{IsShort, MayBeGiven}
use Rattle.conn_record.proofs.Giving.{live-text-goes-on}
use Rattle.grpc_meta.specs.declared.answers.Status.{Status}
use Rattle.grpc_meta.specs.Answer.{response_head, http_only, trailers}
use Rattle.grpc_meta.proofs.LengthLemmas.{head_short, http_short, trailers_short}
use Rattle.conn_requests.specs.declared.answers.Answer.TheVariants as answer
use Rattle.conn_requests.specs.Given.{with_parts, reply_of, opening, parts_of}
use Rattle.conn_calls.specs.Giving.{IsSound, Gives}

-- ---- parts one behind the other

pub with_parts-append : (r : Record) (id : ℕ) (xs ys : List AnswerPart) → with_parts r id (xs ++ ys) ≡ with_parts (with_parts r id xs) id ys
with_parts-append r id [] ys = refl
with_parts-append r id (x ∷ xs) ys = with_parts-append (Given id x ∷ r) id xs ys

pub gives-both : (a b c : Held) (id : ℕ) (xs ys : List AnswerPart) → Gives a b id xs → Gives b c id ys → Gives a c id (xs ++ ys)
gives-both a b c id xs ys first second r sound = subst (IsSound c) (sym (with_parts-append r id xs ys)) (second (with_parts r id xs) (first r sound))

pub gives-none : (c : Held) (id : ℕ) → Gives c c id []
gives-none c id r sound = sound

pub on-ok : {A E : Type 0} {P Q : Type 0} (result : Result A E) → (P → Q) → OnOk result P → OnOk result Q
on-ok (Ok x) f p = f p
on-ok (Err e) f p = p

-- ---- where a part may be given

open-by : (fault : Option H2Fault) (c : Held) (r : Record) → StandsBy fault c r → first_fault_of r ≡ None → OpenStands c r
open-by None c r stands sound = stands
open-by (Some fault) c r stands sound = let both : Some fault ≡ None = sym stands.met ∙ sound in absurd cc

pub open-stands : (c : Held) (r : Record) → Stands c r → first_fault_of r ≡ None → OpenStands c r
open-stands c r stands sound = open-by c.fault c r stands.1 sound

some-if : (b : Bool) (found : Option Stream) (entry : Stream) → found ≡ (if b then Some entry else None) → IsSome found → b ≡ true
some-if true found entry is some = refl
some-if false found entry is some = absurd (true≢false (sym some ∙ ap is_some is))

found-lives : (c : Held) (r : Record) (id : ℕ) → StreamsStand c.streams c.answers r → IsSome (find c.streams id) → is_live r id ≡ true
found-lives c r id stands some = some-if (is_live r id) (find c.streams id) (entry_of r id) (stands.found id) some

waits-live : (c : Held) (r : Record) (id : ℕ) → StreamsStand c.streams c.answers r → is_live r id ≡ true → WaitsLive r id (waiting_on c.answers id)
waits-live c r id stands live = subst (λ b. WaitsBy b r id (waiting_on c.answers id)) live (stands.waits id)

end-append : (xs ys : List Token) → is_ended (xs ++ ys) ≡ (is_ended xs || is_ended ys)
end-append xs ys = list_any-append ends_answer xs ys

both-false : (a b : Bool) → a ≡ false → b ≡ false → (a || b) ≡ false
both-false a b first second = ap (λ x. x || b) first ∙ second

endless-octets : (bytes : List ℕ) → is_ended (map Octet bytes) ≡ false
endless-octets [] = refl
endless-octets (b ∷ bytes) = endless-octets bytes

or-false : (b : Bool) → (b || false) ≡ b
or-false true = refl
or-false false = refl

endless-head : (head : Option WaitingHead) → ((h : WaitingHead) → head ≡ Some h → h.end ≡ false) → is_ended (head_text head) ≡ false
endless-head None goes = refl
endless-head (Some h) goes = or-false h.end ∙ goes h refl

endless-three : (head octets others : List Token) → is_ended head ≡ false → is_ended octets ≡ false → is_ended others ≡ false → is_ended (head ++ (octets ++ others)) ≡ false
endless-three head octets others first second third =
    end-append head (octets ++ others) ∙ both-false (is_ended head) _ first (end-append octets others ∙ both-false (is_ended octets) _ second third)

shape : (a b c d : List Token) → a ++ b ++ c ++ d ≡ a ++ (b ++ (c ++ d))
shape a b c d = simp append_assoc

endless-waiting : (waiting : Waiting) → IsOpenEnded waiting → is_ended (waiting_text waiting) ≡ false
endless-waiting waiting goes =
    let last : is_ended (tail_text waiting.tail ++ map Aborted waiting.resets) ≡ false =
    ap (λ t. is_ended (tail_text t ++ map Aborted waiting.resets)) goes.tail ∙ ap (λ l. is_ended (map Aborted l)) goes.resets
    in
    ap is_ended (shape (head_text waiting.head) (map Octet (concat waiting.replies)) (tail_text waiting.tail) (map Aborted waiting.resets))
    ∙ endless-three (head_text waiting.head) (map Octet (concat waiting.replies)) _ (endless-head waiting.head goes.head) (endless-octets (concat waiting.replies)) last

pub may-go-on : (c : Held) (r : Record) (id : ℕ) (part : AnswerPart) → IsSound c r → IsSome (find c.streams id) → IsOpenEnded (waiting_on c.answers id) → IsShort part → MayBeGiven r id part
may-go-on c r id part s some goes short =
    let stands : OpenStands c r = open-stands c r s.stands s.sound in
    let live : is_live r id ≡ true = found-lives c r id stands.streams some in
    let waits : WaitsLive r id (waiting_on c.answers id) = waits-live c r id stands.streams live in
    record {
      live = live;
      goes_on = ap is_ended (sym waits.text)
          ∙ end-append (written_text r id) (waiting_text (waiting_on c.answers id))
          ∙ both-false (is_ended (written_text r id)) _ (live-text-goes-on r id s.was_due live) (endless-waiting (waiting_on c.answers id) goes);
      short = short;
    }

nothing-open : IsOpenEnded nothing
nothing-open = record { head = λ h is. absurd cc; tail = refl; resets = refl }

pub may-begin : (c : Held) (r : Record) (id : ℕ) (part : AnswerPart) → IsSound c r → IsSome (find c.streams id) → waiting_on c.answers id ≡ nothing → IsShort part → MayBeGiven r id part
may-begin c r id part s some none short = may-go-on c r id part s some (subst IsOpenEnded (sym none) nothing-open) short

-- ---- one part

pub part-given : (old new : Held) (id : ℕ) (part : AnswerPart) → ((r : Record) → IsSound old r → MayBeGiven r id part) → ((r : Record) → Stands old r → Stands new (Given id part ∷ r)) → Gives old new id (part ∷ [])
part-given old new id part may stands r s =
    record { stands = stands r s.stands; sound = s.sound; was_open = (may r s, s.was_open); was_due = s.was_due }

pub short-fields : (fields : List Field) → length (block_spelling true fields) ≤ LONGEST_BLOCK → length (flat_map field_spelling fields) ≤ LONGEST_BLOCK
short-fields fields short = omega (arith, short)

pub head-given : (old new : Held) (id : ℕ) (fields : List Field) (end : Bool) → IsSome (find old.streams id) → waiting_on old.answers id ≡ nothing → length (block_spelling true fields) ≤ LONGEST_BLOCK → ((r : Record) → Stands old r → Stands new (Given id (Head fields end) ∷ r)) → Gives old new id (Head fields end ∷ [])
head-given old new id fields end some none short stands =
    part-given old new id (Head fields end) (λ r s. may-begin old r id (Head fields end) s some none (short-fields fields short)) stands

pub reply-given : (old new : Held) (id : ℕ) (bytes : List ℕ) → IsSome (find old.streams id) → IsOpenEnded (waiting_on old.answers id) → ((r : Record) → Stands old r → Stands new (Given id (Reply bytes) ∷ r)) → Gives old new id (Reply bytes ∷ [])
reply-given old new id bytes some goes stands = part-given old new id (Reply bytes) (λ r s. may-go-on old r id (Reply bytes) s some goes tt) stands

pub tail-given : (old new : Held) (id : ℕ) (fields : List Field) → IsSome (find old.streams id) → IsOpenEnded (waiting_on old.answers id) → length (block_spelling true fields) ≤ LONGEST_BLOCK → ((r : Record) → Stands old r → Stands new (Given id (Tail fields) ∷ r)) → Gives old new id (Tail fields ∷ [])
tail-given old new id fields some goes short stands =
    part-given old new id (Tail fields) (λ r s. may-go-on old r id (Tail fields) s some goes (short-fields fields short)) stands

-- ---- blocks are short

pub opening-short : (fields : List Field) → fields ≡ response_head → length (block_spelling true fields) ≤ LONGEST_BLOCK
opening-short fields is = subst (λ l. length (block_spelling true l) ≤ LONGEST_BLOCK) (sym is) (omega (arith, head_short true))

pub http-short : (fields : List Field) (code : ℕ) → fields ≡ http_only code → length (block_spelling true fields) ≤ LONGEST_BLOCK
http-short fields code is = subst (λ l. length (block_spelling true l) ≤ LONGEST_BLOCK) (sym is) (omega (arith, http_short true code))

pub tail-short : (fields : List Field) (status : Status) → fields ≡ trailers status → length status.text ≤ 1312 → length (block_spelling true fields) ≤ LONGEST_BLOCK
tail-short fields status is few = subst (λ l. length (block_spelling true l) ≤ LONGEST_BLOCK) (sym is) (omega (arith, trailers_short true status, few))

-- ---- one message more

pub replies-more : (a b c : Held) (id : ℕ) (messages : List (List ℕ)) (i : ℕ) (message : List ℕ) → i < length messages → message ≡ get_or messages i message → Gives a b id (map reply_of (take i messages)) → Gives b c id (reply_of message ∷ []) → Gives a c id (map reply_of (take (i + 1) messages))
replies-more a b c id messages i message within is first one =
    let more : take (i + 1) messages ≡ take i messages ++ message ∷ [] = take_more messages i message within ∙ ap (λ m. take i messages ++ m ∷ []) (sym is) in
    let parts : map reply_of (take (i + 1) messages) ≡ map reply_of (take i messages) ++ reply_of message ∷ [] = ap (map reply_of) more ∙ map-append reply_of (take i messages) (message ∷ []) in
    subst (Gives a c id) (sym parts) (gives-both a b c id (map reply_of (take i messages)) (reply_of message ∷ []) first one)

-- ---- an answer that ends a call

pub ends-given : (a b c d : Held) (id : ℕ) (begun : Bool) (messages : List (List ℕ)) (status : Status) → Gives a b id (opening begun) → Gives b c id (map reply_of messages) → Gives c d id (Tail (trailers status) ∷ []) → Gives a d id (parts_of begun (answer.Ends messages status))
ends-given a b c d id begun messages status first second third =
    gives-both a c d id (opening begun ++ map reply_of messages) (Tail (trailers status) ∷ []) (gives-both a b c id (opening begun) (map reply_of messages) first second) third
