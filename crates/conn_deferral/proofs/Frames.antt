-- What a record says of its frames is said by it without the parts that may be deferred.
use Rattle.std.proofs.Common.{◌≡◌, ℕ, ◌+◌, ◌==◌, nat_eq, nat_lt, Bool, true, false, not, ◌&&◌, List, [], ◌∷◌, ◌++◌, filter, length, Option, Some, None, refl, ap, ◌∙◌, if◌then◌else◌}
use Rattle.std.specs.Prelude.{pos, option_map, ◌-ℤ◌, ◌+ℤ◌, int_lt}
use Rattle.std.specs.List.{list_any}
use Rattle.std.specs.Option.{option_or}
use Rattle.hpack_blocks.specs.Block.{block_of}
use Rattle.hpack_blocks.specs.Table.{Table}
use Rattle.h2_frames.specs.declared.frame.Frame.{Frame}
use Rattle.h2_frames.specs.declared.frame.Frame.TheVariants as frames
use Rattle.h2_frames.specs.declared.fault.H2Fault.{H2Fault}
use Rattle.h2_flow.specs.Range.{greatest}
use Rattle.h2_streams.specs.declared.stream.StreamState.TheVariants as is
use Rattle.h2_streams.specs.Book.{begun_state}
use Rattle.h2_record.specs.declared.block.OpenBlock.{OpenBlock}
use Rattle.h2_record.specs.Codes.{protocol_error, flow_control_error, no_error}
use Rattle.h2_record.specs.Record.{Record, Item, In, Out, Given, Whole, Broken, any_in, any_out, sum_in, sum_out}
use Rattle.h2_record.specs.Windows.{initial_window_size, initial_of, with_data, data_out, connection_window_of, send_window_of, receive_window_of}
use Rattle.h2_record.specs.Ids.{with_begun, last_of, begun_of}
use Rattle.h2_record.specs.Blocks.{begun_block, continued, open_of, block_with, whole_block, table_after, table_of, reading_of}
use Rattle.h2_record.specs.Live.{Reset, opens, cancels, ends, finishes, is_reset, is_live_with, entry_of, stream_with, remembered_in, is_idle_above, state_with, live_with}
use Rattle.h2_record.specs.Refusals.{first_reset, headers_refusal, body_refusal, grant_refusal, refusal_by, is_served_state, is_served, malformed_reading, malformed_block, malformed_by}
use Rattle.h2_record.specs.Resets.{reset_by, reset_behind, with_reset, resets_of, is_live, live_of, is_open}
use Rattle.h2_record.specs.Rules.{broken, code_if, preface_code, is_outside, settings_code, passes_greatest, shift_code, even_code, idle_code, zero_code, grant_code, reading_code, block_code, size_code, first_broken}
use Rattle.h2_record.specs.Faults.{is_flood, flood_of, flood_code, fault_by, first_fault_of}
use Rattle.conn_record.specs.Marks.{unmarked, Agree}
use Rattle.conn_record.proofs.Marks.{marks-change-nothing}
use Rattle.conn_deferral.specs.Deferred.{undeferred}

-- what doesn't read a mark reads the same without it
pub drop-mark : {X : Type 0} (f : Record → X) (b : Bool) (mark : Item) (r : Record) → f (mark ∷ r) ≡ f r → f (if b then r else mark ∷ r) ≡ f r
drop-mark f true mark r same = refl
drop-mark f false mark r same = same

-- ---- the frames

pub unmarked-same : (r : Record) → unmarked (undeferred r) ≡ unmarked r
unmarked-same [] = refl
unmarked-same (In frame ∷ r) = ap (λ (x : Record). In frame ∷ x) (unmarked-same r)
unmarked-same (Out frame ∷ r) = ap (λ (x : Record). Out frame ∷ x) (unmarked-same r)
unmarked-same (Given stream part ∷ r) = drop-mark unmarked (any_in (ends stream) r) (Given stream part) (undeferred r) refl ∙ unmarked-same r
unmarked-same (Whole ∷ r) = unmarked-same r
unmarked-same (Broken fault ∷ r) = ap (λ (x : Record). Broken fault ∷ x) (unmarked-same r)

pub agrees : (r : Record) → Agree (undeferred r) r
agrees r = marks-change-nothing (undeferred r) r (unmarked-same r)

pub any-in : (test : Frame → Bool) (r : Record) → any_in test (undeferred r) ≡ any_in test r
any-in test r = (agrees r).came test

pub any-out : (test : Frame → Bool) (r : Record) → any_out test (undeferred r) ≡ any_out test r
any-out test r = (agrees r).went test

pub initial : (r : Record) → initial_of (undeferred r) ≡ initial_of r
initial r = (agrees r).initial

pub connection : (r : Record) → connection_window_of (undeferred r) ≡ connection_window_of r
connection r = (agrees r).connection

pub send : (r : Record) (id : ℕ) → send_window_of (undeferred r) id ≡ send_window_of r id
send r id = (agrees r).send id

pub receive : (r : Record) (id : ℕ) → receive_window_of (undeferred r) id ≡ receive_window_of r id
receive r id = (agrees r).receive id

module _ (count : Frame → ℕ → ℕ) (start : ℕ) where
  sum-in : (r : Record) → sum_in count start (undeferred r) ≡ sum_in count start r
  sum-in [] = refl
  sum-in (In frame ∷ r) = ap (count frame) (sum-in r)
  sum-in (Out frame ∷ r) = sum-in r
  sum-in (Given stream part ∷ r) = drop-mark (sum_in count start) (any_in (ends stream) r) (Given stream part) (undeferred r) refl ∙ sum-in r
  sum-in (Whole ∷ r) = sum-in r
  sum-in (Broken fault ∷ r) = sum-in r

  sum-out : (r : Record) → sum_out count start (undeferred r) ≡ sum_out count start r
  sum-out [] = refl
  sum-out (In frame ∷ r) = sum-out r
  sum-out (Out frame ∷ r) = ap (count frame) (sum-out r)
  sum-out (Given stream part ∷ r) = drop-mark (sum_out count start) (any_in (ends stream) r) (Given stream part) (undeferred r) refl ∙ sum-out r
  sum-out (Whole ∷ r) = sum-out r
  sum-out (Broken fault ∷ r) = sum-out r

pub last : (r : Record) → last_of (undeferred r) ≡ last_of r
last r = sum-in with_begun 0 r

pub out : (r : Record) (id : ℕ) → data_out (undeferred r) id ≡ data_out r id
out r id = sum-out (with_data id) 0 r

pub begun : (r : Record) → begun_of (undeferred r) ≡ begun_of r
begun [] = refl
begun (In (frames.Headers stream ended whole block) ∷ r) = λ i. if nat_lt (last r i) stream then begun r i ++ stream ∷ [] else begun r i
begun (In (frames.Body stream ended bytes counted) ∷ r) = begun r
begun (In (frames.Priority stream) ∷ r) = begun r
begun (In (frames.Reset stream code) ∷ r) = begun r
begun (In (frames.Settings acked pairs) ∷ r) = begun r
begun (In (frames.Push stream) ∷ r) = begun r
begun (In (frames.Ping acked octets) ∷ r) = begun r
begun (In (frames.Goaway last code) ∷ r) = begun r
begun (In (frames.Window stream add) ∷ r) = begun r
begun (In (frames.Continuation stream whole block) ∷ r) = begun r
begun (In (frames.Unknown kind stream) ∷ r) = begun r
begun (Out frame ∷ r) = begun r
begun (Given stream part ∷ r) = drop-mark begun_of (any_in (ends stream) r) (Given stream part) (undeferred r) refl ∙ begun r
begun (Whole ∷ r) = begun r
begun (Broken fault ∷ r) = begun r

pub flood : (r : Record) → flood_of (undeferred r) ≡ flood_of r
flood [] = refl
flood (In frame ∷ r) = ap (λ (n : ℕ). if is_flood frame then n + 1 else n) (flood r)
flood (Out frame ∷ r) = flood r
flood (Given stream part ∷ r) = drop-mark flood_of (any_in (ends stream) r) (Given stream part) (undeferred r) refl ∙ flood r
flood (Whole ∷ r) = refl
flood (Broken fault ∷ r) = flood r

-- ---- header blocks

begun-block : (r : Record) (stream : ℕ) (ended : Bool) (fragment : List ℕ) → begun_block (undeferred r) stream ended fragment ≡ begun_block r stream ended fragment
begun-block r stream ended fragment = λ i. record { stream = stream; ended = ended; is_late = not (nat_lt (last r i) stream); bytes = fragment; continuations = 0 }

pub block : (r : Record) → open_of (undeferred r) ≡ open_of r
block [] = refl
block (In (frames.Headers stream ended false fragment) ∷ r) = ap (λ (b : OpenBlock). Some b) (begun-block r stream ended fragment)
block (In (frames.Headers stream ended true fragment) ∷ r) = refl
block (In (frames.Continuation stream false fragment) ∷ r) = ap (option_map (continued fragment)) (block r)
block (In (frames.Continuation stream true fragment) ∷ r) = refl
block (In (frames.Body stream ended bytes counted) ∷ r) = block r
block (In (frames.Priority stream) ∷ r) = block r
block (In (frames.Reset stream code) ∷ r) = block r
block (In (frames.Settings acked pairs) ∷ r) = block r
block (In (frames.Push stream) ∷ r) = block r
block (In (frames.Ping acked octets) ∷ r) = block r
block (In (frames.Goaway last code) ∷ r) = block r
block (In (frames.Window stream add) ∷ r) = block r
block (In (frames.Unknown kind stream) ∷ r) = block r
block (Out frame ∷ r) = block r
block (Given stream part ∷ r) = drop-mark open_of (any_in (ends stream) r) (Given stream part) (undeferred r) refl ∙ block r
block (Whole ∷ r) = block r
block (Broken fault ∷ r) = block r

pub block-with : (r : Record) (frame : Frame) → block_with (undeferred r) frame ≡ block_with r frame
block-with r (frames.Headers stream ended whole fragment) = ap (λ (b : OpenBlock). Some b) (begun-block r stream ended fragment)
block-with r (frames.Continuation stream whole fragment) = ap (option_map (continued fragment)) (block r)
block-with r (frames.Body stream ended bytes counted) = refl
block-with r (frames.Priority stream) = refl
block-with r (frames.Reset stream code) = refl
block-with r (frames.Settings acked pairs) = refl
block-with r (frames.Push stream) = refl
block-with r (frames.Ping acked octets) = refl
block-with r (frames.Goaway last code) = refl
block-with r (frames.Window stream add) = refl
block-with r (frames.Unknown kind stream) = refl

pub whole : (r : Record) (frame : Frame) → whole_block (undeferred r) frame ≡ whole_block r frame
whole r (frames.Headers stream ended true fragment) = ap (λ (b : OpenBlock). Some b) (begun-block r stream ended fragment)
whole r (frames.Headers stream ended false fragment) = refl
whole r (frames.Continuation stream true fragment) = ap (option_map (continued fragment)) (block r)
whole r (frames.Continuation stream false fragment) = refl
whole r (frames.Body stream ended bytes counted) = refl
whole r (frames.Priority stream) = refl
whole r (frames.Reset stream code) = refl
whole r (frames.Settings acked pairs) = refl
whole r (frames.Push stream) = refl
whole r (frames.Ping acked octets) = refl
whole r (frames.Goaway last code) = refl
whole r (frames.Window stream add) = refl
whole r (frames.Unknown kind stream) = refl

pub table : (r : Record) → table_of (undeferred r) ≡ table_of r
table [] = refl
table (In frame ∷ r) = λ i. table_after (table r i) (whole r frame i)
table (Out frame ∷ r) = table r
table (Given stream part ∷ r) = drop-mark table_of (any_in (ends stream) r) (Given stream part) (undeferred r) refl ∙ table r
table (Whole ∷ r) = table r
table (Broken fault ∷ r) = table r

pub reading : (r : Record) (b : OpenBlock) → reading_of (undeferred r) b ≡ reading_of r b
reading r b = ap (λ (t : Table). block_of t b.bytes) (table r)

-- ---- streams

module _ (resets : List Reset) (r : Record) where
  pub live-with : (id : ℕ) → is_live_with resets (undeferred r) id ≡ is_live_with resets r id
  unfolding is_live_with
  live-with id =
      λ i. any-in (opens id) r i && not (0 == id) && not (is_reset resets id) && not (any-in (cancels id) r i) && not (any-in (ends id) r i && any-out (finishes id) r i)

  entry : (id : ℕ) → entry_of (undeferred r) id ≡ entry_of r id
  entry id = λ i. record { send = send r id i; receive = receive r id i; ended = any-in (ends id) r i; answered = any-out (finishes id) r i }

  stream : (id : ℕ) → stream_with resets (undeferred r) id ≡ stream_with resets r id
  stream id = λ i. if live-with id i then Some (entry id i) else None

  state : (id : ℕ) → state_with resets (undeferred r) id ≡ state_with resets r id
  state id = λ i. if is_idle_above (last r i) id then is.Idle else begun_state (stream id i) (list_any (nat_eq id) (remembered_in resets))

  lives : live_with resets (undeferred r) ≡ live_with resets r
  lives = λ i. filter (λ id. live-with id i) (begun r i)

  -- ---- resets

  refusal : (frame : Frame) → refusal_by resets (undeferred r) frame ≡ refusal_by resets r frame
  refusal (frames.Headers id ended whole fragment) = λ i. headers_refusal (length (lives i)) id (state id i)
  refusal (frames.Body id ended bytes counted) = λ i. body_refusal (receive r id i) id counted (state id i)
  refusal (frames.Window id add) = λ i. if live-with id i then grant_refusal (send r id i) id add else None
  refusal (frames.Priority id) = refl
  refusal (frames.Reset id code) = refl
  refusal (frames.Settings acked pairs) = refl
  refusal (frames.Push id) = refl
  refusal (frames.Ping acked octets) = refl
  refusal (frames.Goaway last code) = refl
  refusal (frames.Continuation id whole fragment) = refl
  refusal (frames.Unknown kind id) = refl

  pub served : (frame : Frame) → is_served resets (undeferred r) frame ≡ is_served resets r frame
  served (frames.Headers id ended whole fragment) = ap is_served_state (state id)
  served (frames.Continuation id whole fragment) = live-with id
  served (frames.Body id ended bytes counted) = refl
  served (frames.Priority id) = refl
  served (frames.Reset id code) = refl
  served (frames.Settings acked pairs) = refl
  served (frames.Push id) = refl
  served (frames.Ping acked octets) = refl
  served (frames.Goaway last code) = refl
  served (frames.Window id add) = refl
  served (frames.Unknown kind id) = refl

  malformed-of : (b : Option OpenBlock) → malformed_block (undeferred r) b ≡ malformed_block r b
  malformed-of None = refl
  malformed-of (Some b) = λ i. if malformed_reading b (reading r b i) then first_reset b.stream protocol_error else None

  malformed : (frame : Frame) → malformed_by resets (undeferred r) frame ≡ malformed_by resets r frame
  malformed frame =
      let found : malformed_block (undeferred r) (whole_block (undeferred r) frame) ≡ malformed_block r (whole_block r frame) =
      ap (malformed_block (undeferred r)) (whole r frame) ∙ malformed-of (whole_block r frame) in
      (λ i. if served frame i then found i else None)

  reset-by-with : (frame : Frame) → reset_by resets (undeferred r) frame ≡ reset_by resets r frame
  unfolding reset_by
  reset-by-with frame = λ i. option_or (refusal frame i) (malformed frame i)

  reset-behind-with : (frame : Frame) → reset_behind resets (undeferred r) frame ≡ reset_behind resets r frame
  unfolding reset_behind
  reset-behind-with (frames.Headers id true whole fragment) = λ i. if live-with id i && not (any-in (ends id) r i) then first_reset id no_error else None
  reset-behind-with (frames.Headers id false whole fragment) = refl
  reset-behind-with (frames.Reset id code) = λ i. if live-with id i then first_reset id code else None
  reset-behind-with (frames.Body id ended bytes counted) = refl
  reset-behind-with (frames.Priority id) = refl
  reset-behind-with (frames.Settings acked pairs) = refl
  reset-behind-with (frames.Push id) = refl
  reset-behind-with (frames.Ping acked octets) = refl
  reset-behind-with (frames.Goaway last code) = refl
  reset-behind-with (frames.Window id add) = refl
  reset-behind-with (frames.Continuation id whole fragment) = refl
  reset-behind-with (frames.Unknown kind id) = refl

pub resets : (r : Record) → resets_of (undeferred r) ≡ resets_of r
resets [] = refl
resets (In frame ∷ r) =
    let now : reset_by (resets_of (undeferred r)) (undeferred r) frame ≡ reset_by (resets_of r) r frame =
    ap (λ (x : List Reset). reset_by x (undeferred r) frame) (resets r) ∙ reset-by-with (resets_of r) r frame in
    (λ i. with_reset (resets r i) (now i))
resets (Out frame ∷ r) =
    let now : reset_behind (resets_of (undeferred r)) (undeferred r) frame ≡ reset_behind (resets_of r) r frame =
    ap (λ (x : List Reset). reset_behind x (undeferred r) frame) (resets r) ∙ reset-behind-with (resets_of r) r frame in
    (λ i. with_reset (resets r i) (now i))
resets (Given stream part ∷ r) = drop-mark resets_of (any_in (ends stream) r) (Given stream part) (undeferred r) refl ∙ resets r
resets (Whole ∷ r) = resets r
resets (Broken fault ∷ r) = resets r

pub reset-by : (r : Record) (frame : Frame) → reset_by (resets_of (undeferred r)) (undeferred r) frame ≡ reset_by (resets_of r) r frame
reset-by r frame = ap (λ (x : List Reset). reset_by x (undeferred r) frame) (resets r) ∙ reset-by-with (resets_of r) r frame

pub live : (r : Record) (id : ℕ) → is_live (undeferred r) id ≡ is_live r id
live r id = ap (λ (x : List Reset). is_live_with x (undeferred r) id) (resets r) ∙ live-with (resets_of r) r id

pub live-of : (r : Record) → live_of (undeferred r) ≡ live_of r
live-of r = ap (λ (x : List Reset). live_with x (undeferred r)) (resets r) ∙ lives (resets_of r) r

pub opened : (r : Record) (id : ℕ) → is_open (undeferred r) id ≡ is_open r id
opened r id = λ i. live r id i && not (any-in (ends id) r i)

-- ---- connection errors

passes : (r : Record) (n : ℕ) → passes_greatest (undeferred r) n ≡ passes_greatest r n
passes r n = λ i. list_any (λ id. int_lt greatest ((send r id i -ℤ pos (initial r i)) +ℤ pos n)) (live-of r i)

shift : (r : Record) (frame : Frame) → shift_code (undeferred r) frame ≡ shift_code r frame
shift r (frames.Settings false pairs) = λ i. code_if (list_any (λ pair. pair.id == initial_window_size && passes r pair.value i) pairs) flow_control_error
shift r (frames.Settings true pairs) = refl
shift r (frames.Headers id ended whole fragment) = refl
shift r (frames.Continuation id whole fragment) = refl
shift r (frames.Body id ended bytes counted) = refl
shift r (frames.Priority id) = refl
shift r (frames.Reset id code) = refl
shift r (frames.Push id) = refl
shift r (frames.Ping acked octets) = refl
shift r (frames.Goaway last code) = refl
shift r (frames.Window id add) = refl
shift r (frames.Unknown kind id) = refl

block-code : (r : Record) (b : Option OpenBlock) → block_code (undeferred r) b ≡ block_code r b
block-code r None = refl
block-code r (Some b) = ap reading_code (reading r b)

pub fault : (r : Record) (frame : Frame) → fault_by (undeferred r) frame ≡ fault_by r frame
unfolding fault_by
fault r frame =
    let coded : block_code (undeferred r) (whole_block (undeferred r) frame) ≡ block_code r (whole_block r frame) =
    ap (block_code (undeferred r)) (whole r frame) ∙ block-code r (whole_block r frame) in
    (λ i. first_broken (
    broken 7 (preface_code (any-in (λ frame. true) r i) frame)
    ∷ broken 8 (code_if (is_outside (block r i) frame) protocol_error)
    ∷ broken 9 (settings_code frame)
    ∷ broken 10 (shift r frame i)
    ∷ broken 11 (even_code frame)
    ∷ broken 12 (idle_code (last r i) frame)
    ∷ broken 13 (zero_code frame)
    ∷ broken 14 (grant_code (connection r i) frame)
    ∷ broken 15 (coded i)
    ∷ broken 16 (size_code (block-with r frame i))
    ∷ broken 17 (flood_code (flood r i) frame)
    ∷ []))

pub first-fault : (r : Record) → first_fault_of (undeferred r) ≡ first_fault_of r
first-fault [] = refl
first-fault (In frame ∷ r) = λ i. option_or (first-fault r i) (fault r frame i)
first-fault (Out frame ∷ r) = first-fault r
first-fault (Given stream part ∷ r) = drop-mark first_fault_of (any_in (ends stream) r) (Given stream part) (undeferred r) refl ∙ first-fault r
first-fault (Whole ∷ r) = first-fault r
first-fault (Broken broke ∷ r) = ap (λ (earlier : Option H2Fault). option_or earlier (Some broke)) (first-fault r)
