-- What the frames of a connection decide, and the record of the connection that has the answers in it.
--
-- The frames are taken in their order. What a frame asks is decided one by one; the answers, in their order, are given as
-- it is decided, so that the rules which count replies and whole requests see them. An answer that is lost for want of
-- memory ends its call.
use Rattle.std.specs.Prelude.{ℕ, ℤ, ◌==◌, Bool, true, false, not, ◌||◌, List, [], ◌∷◌, ◌++◌, fold, Option, Some, None, option_map, option_to_list, Result, Ok, Err, is_ok, map, if◌then◌else◌}
use Rattle.std.specs.List.{list_any}
use Rattle.hpack_blocks.specs.declared.fields.Field.{Field}
use Rattle.grpc_meta.specs.declared.methods.Method.{Method}
use Rattle.grpc_meta.specs.declared.requests.MetaFault.{MetaFault}
use Rattle.h2_frames.specs.declared.frame.Frame.{Frame}
use Rattle.h2_record.specs.declared.event.Event.{Event}
use Rattle.h2_record.specs.declared.event.Event.TheVariants as event
use Rattle.h2_record.specs.Record.{Record, In, Out, Whole, Broken}
use Rattle.h2_record.specs.Events.{events_of}
use Rattle.write_msgs.specs.Request.{append_rows_request_of}
use Rattle.conn_requests.specs.declared.asks.Ask.{Ask}
use Rattle.conn_requests.specs.declared.asks.Ask.TheVariants as ask
use Rattle.conn_requests.specs.declared.asks.Over.TheVariants as over
use Rattle.conn_requests.specs.declared.answers.Answer.{Answer}
use Rattle.grpc_meta.specs.Request.{method_in}
use Rattle.conn_requests.specs.Names.{Named, nothing_named, named_after}
use Rattle.conn_requests.specs.Body.{Body, new_body, asks_of, body_after}
use Rattle.conn_requests.specs.Ends.{over_of}
use Rattle.conn_requests.specs.Given.{with_answer, is_lost}

-- a call that goes on
pub record Call : Type 0 where
  pub body : Body
  -- of AppendRows: what its messages have named
  pub named : Named

abbrev pub new_call : Method → List Field → Call
new_call m fields = record { body = new_body m fields; named = nothing_named }

-- what was decided: on which stream, what its call has named by then, what this asks named too, and what is asked
pub record Item : Type 0 where
  pub stream : ℕ
  pub named : Named
  pub asked : Ask

-- an item with its answer, and the reading of the clock that was made for it
pub record Answered : Type 0 where
  pub item : Item
  pub answer : Answer
  pub now : ℤ

abbrev pub item_of : Answered → Item
item_of x = x.item

pub record Played : Type 0 where
  -- the frames with the marks of the answers
  pub marked : Record
  -- the calls that go on, by stream
  pub calls : ℕ → Option Call
  -- what was decided, the answers that were given to it, and those that weren't needed
  pub decided : List Item
  pub used : List Answered
  pub later : List Answered

-- something was answered on the stream
abbrev pub has_answer : List Answered → (stream : ℕ) → Bool
has_answer answers id = list_any (λ x. id == x.item.stream) answers

abbrev pub at_first : List Answered → Played
at_first answers = record { marked = []; calls = λ id. None; decided = []; used = []; later = answers }

abbrev pub with_record : Played → Record → Played
with_record p r = record p { marked = r }

abbrev pub with_call : (ℕ → Option Call) → ℕ → Option Call → ℕ → Option Call
with_call calls id call other = if id == other then call else calls other

-- the call on this stream is now this one, or there is none
abbrev pub set_call : Played → (stream : ℕ) → Option Call → Played
set_call p id call = record p { calls = with_call p.calls id call }

-- an item is decided, and the next answer is given to it, if there is one
abbrev pub answer_next : Played → Item → (answers : List Answered) → Played
answer_next p item [] = record p { decided = p.decided ++ item ∷ []; later = [] }
answer_next p item (x ∷ xs) = record {
  marked = with_answer p.marked item.stream (has_answer p.used item.stream) x.answer;
  calls = p.calls;
  decided = p.decided ++ item ∷ [];
  used = p.used ++ x ∷ [];
  later = xs;
}

abbrev pub is_next_lost : (answers : List Answered) → Bool
is_next_lost [] = false
is_next_lost (x ∷ xs) = is_lost x.answer

-- whether it ends its call, whatever it is answered: all but an AppendRows message that can be read
abbrev pub ends_call : Ask → Bool
ends_call (ask.Append message) = not (is_ok (append_rows_request_of message))
ends_call _ = true

abbrev pub item_for : (stream : ℕ) → Named → Ask → Item
item_for id named asked = record { stream = id; named = named_after named asked; asked = asked }

-- What is asked on a stream is decided until something ends the call. `named` is what the call has named so far, and
-- `body` stands behind all that is asked, where the call can go on.
abbrev pub decide : Played → (stream : ℕ) → Named → List Ask → Option Body → Played
decide p id named [] body = set_call p id (option_map (λ b. record { body = b; named = named }) body)
decide p id named (asked ∷ asks) body =
    let answered = answer_next p (item_for id named asked) p.later in
    if ends_call asked || is_next_lost p.later then set_call answered id None else decide answered id (named_after named asked) asks body

-- the mark of a frame that decides something stands right behind it
abbrev pub with_whole : Played → List Ask → Played
with_whole p [] = p
with_whole p (asked ∷ asks) = with_record p (Whole ∷ p.marked)

abbrev pub decide_all : Played → (stream : ℕ) → Named → List Ask → Option Body → Played
decide_all p id named asks body = decide (with_whole p asks) id named asks body

-- a request that opens no call
abbrev pub refuse : Played → (stream : ℕ) → List Ask → Played
refuse p id asks = decide_all p id nothing_named asks None

-- bytes of a body on a stream, where a call goes on there
abbrev pub hear_body : Played → (stream : ℕ) → (bytes : List ℕ) → (ended : Bool) → Option Call → Played
hear_body p id bytes ended None = p
hear_body p id bytes ended (Some call) = decide_all p id call.named (asks_of call.body bytes ended) (Some (body_after call.body bytes))

-- a request begins
abbrev pub hear_request : Played → (stream : ℕ) → List Field → (ended : Bool) → Result Method MetaFault → Played
hear_request p id fields ended (Ok m) = hear_body p id [] ended (Some (new_call m fields))
hear_request p id fields ended (Err refused) = refuse p id (map ask.Ends (option_to_list (over_of refused)))

-- trailers end a body as END_STREAM does
abbrev pub hear : Played → Event → Played
hear p (event.Opened id fields ended) = hear_request p id fields ended (method_in fields)
hear p (event.TooLarge id) = refuse p id (ask.Ends over.ListTooLarge ∷ [])
hear p (event.Body id bytes ended) = hear_body p id bytes ended (p.calls id)
hear p (event.Ended id) = hear_body p id [] true (p.calls id)
hear p (event.Reset id code) = set_call p id None
hear p (event.Fault code rule) = p

-- a frame comes, and tells what the record before it makes of it
unfoldable pub take_frame : Played → Frame → Played
take_frame p frame = fold hear (with_record p (In frame ∷ p.marked)) (events_of p.marked frame)

-- The frames of a connection, the latest first, with these answers. Other marks than those of the answers are passed over.
unfoldable pub play : List Answered → Record → Played
play answers [] = at_first answers
play answers (In frame ∷ frames) = take_frame (play answers frames) frame
play answers (Out frame ∷ frames) = let p = play answers frames in with_record p (Out frame ∷ p.marked)
play answers (Broken fault ∷ frames) = let p = play answers frames in with_record p (Broken fault ∷ p.marked)
play answers (_ ∷ frames) = play answers frames

-- the items that were decided
abbrev pub decided_of : Record → List Answered → List Item
decided_of frames answers = (play answers frames).decided
