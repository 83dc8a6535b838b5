-- The frames of the calls are the calls, and a connection allows them one behind the other.
use Rattle.std.proofs.Common.{◌≡◌, ℕ, ◌<◌, ◌≤◌, ◌^◌, ◌%◌, ◌==◌, Bool, true, false, ◌&&◌, List, [], ◌∷◌, ◌++◌, length, map, refl, sym, ap, subst, ◌∙◌, append_assoc, append-nil, true≢false, arith}
use Rattle.std.specs.Prelude.{nat_lt, nat_le}
use Rattle.std.specs.List.{flat_map, concat, list_all, AllByRecursion}
use Rattle.std.proofs.lemmas.List.{map-append}
use Rattle.std.proofs.lemmas.Bool.Decides.{nat_tests}
use Rattle.h2_frames.specs.Sound.{IsStreamId}
use Rattle.h2_frames.specs.declared.frame.Frame.{Frame}
use Rattle.grpc_frame.specs.Frame.{frame, framed}
use Rattle.grpc_frame.specs.Part.{part_of}
use Rattle.grpc_frame.specs.Messages.{IsWithin}
use Rattle.grpc_frame.specs.declared.limits.TheConstants.{MESSAGE_LIMIT}
use Rattle.hpack_blocks.specs.Spelling.{block_spelling}
use Rattle.client_calls.specs.declared.calls.ClientCall.{ClientCall}
use Rattle.client_calls.specs.Calls.{is_id_above, is_short, may_follow}
use Rattle.client_calls.specs.Request.{request_fields}
use Rattle.client_calls.specs.Frames.{request_frame, data_of, end_frames, pieces_of, message_frames, call_frames}
use Rattle.client_calls.specs.Given.{IsPayload, AreCall, AreCalls}
use Rattle.client_calls.proofs.RequestLaws.{request, block_short}
use Rattle.client_calls.proofs.PieceLemmas.{payloads, joined}
use Rattle.client_calls.proofs.Going.{IsNext, IsDataOn, Goes, goes-data, all-more, all-data, end-data}

-- ---- the condition

three : (a b c : Bool) → (a && b && c) ≡ true → (a ≡ true) × (b ≡ true) × (c ≡ true)
three true true true e = (refl, refl, refl)
three true true false e = absurd (true≢false (sym e))
three true false c e = absurd (true≢false (sym e))
three false b c e = absurd (true≢false (sym e))

-- the first call and those behind it
pub first-call : (last : ℕ) (call : ClientCall) (calls : List ClientCall) → may_follow last (call ∷ calls) ≡ true
    → (is_id_above last call.stream ≡ true) × (list_all is_short call.messages.items ≡ true) × (may_follow call.stream calls ≡ true)
first-call last call calls may = three (is_id_above last call.stream) (list_all is_short call.messages.items) (may_follow call.stream calls) may

id-next : (last id : ℕ) → is_id_above last id ≡ true → IsNext last id
id-next last id may = record { above = lt last id h.0; odd = odd id h.1; small = lt id (2 ^ 31) h.2 }
  where
    h : (nat_lt last id ≡ true) × ((id % 2 == 1) ≡ true) × (nat_lt id (2 ^ 31) ≡ true)
    h = three (nat_lt last id) (id % 2 == 1) (nat_lt id (2 ^ 31)) may

    lt : (a b : ℕ) → nat_lt a b ≡ true → a < b
    lt a b e = grind (arith, nat_tests)

    odd : (n : ℕ) → (n % 2 == 1) ≡ true → (n % 2 == 0) ≡ false
    odd n e = grind (arith, nat_tests)

pub stream-id : (last id : ℕ) → is_id_above last id ≡ true → IsStreamId id
stream-id last id may = let next = id-next last id may in record { some = omega (arith, next.above); small = next.small }

short-each : (messages : List (List ℕ)) → list_all is_short messages ≡ true → AllByRecursion (IsWithin MESSAGE_LIMIT) messages
short-each [] short = tt
short-each (m ∷ messages) short = (le (length m) MESSAGE_LIMIT (both.0), short-each messages both.1)
  where
    two : (a b : Bool) → (a && b) ≡ true → (a ≡ true) × (b ≡ true)
    two true true e = (refl, refl)
    two true false e = absurd (true≢false (sym e))
    two false b e = absurd (true≢false (sym e))

    both : (is_short m ≡ true) × (list_all is_short messages ≡ true)
    both = two (is_short m) (list_all is_short messages) short

    le : (a b : ℕ) → nat_le a b ≡ true → a ≤ b
    le a b e = grind (arith, nat_tests)

-- ---- the payloads of a call

abbrev pieces : List ℕ → List (List ℕ)
pieces message = pieces_of (frame message)

payloads-each : (messages : List (List ℕ)) → AllByRecursion IsPayload (flat_map pieces messages)
payloads-each [] = tt
payloads-each (m ∷ messages) = all-more IsPayload (pieces m) (flat_map pieces messages) (payloads (frame m)) (payloads-each messages)

concat-more : (xs ys : List (List ℕ)) → concat (xs ++ ys) ≡ concat xs ++ concat ys
concat-more [] ys = refl
concat-more (x ∷ xs) ys = ap (λ (l : List ℕ). x ++ l) (concat-more xs ys) ∙ sym (append_assoc x (concat xs) (concat ys))

payloads-joined : (messages : List (List ℕ)) → concat (flat_map pieces messages) ≡ framed messages
payloads-joined [] = refl
payloads-joined (m ∷ messages) =
    concat-more (pieces m) (flat_map pieces messages)
    ∙ ap (λ (l : List ℕ). l ++ concat (flat_map pieces messages)) (joined (frame m))
    ∙ ap (λ (l : List ℕ). frame m ++ l) (payloads-joined messages)

payloads-framed : (id : ℕ) (messages : List (List ℕ)) → map (data_of id) (flat_map pieces messages) ≡ flat_map (message_frames id) messages
payloads-framed id [] = refl
payloads-framed id (m ∷ messages) =
    map-append (data_of id) (pieces m) (flat_map pieces messages) ∙ ap (λ (fs : List Frame). map (data_of id) (pieces m) ++ fs) (payloads-framed id messages)

-- ---- the calls

are-call : (call : ClientCall) → list_all is_short call.messages.items ≡ true → AreCall call (call_frames call)
unfolding part_of
are-call call short =
    let messages = call.messages.items in
    record {
      block = block_spelling false (request_fields call.method);
      payloads = flat_map pieces messages;
      whole = ap (λ (fs : List Frame). request_frame call.stream call.method ∷ (fs ++ end_frames call.stream call.end)) (sym (payloads-framed call.stream messages));
      request = request call.method;
      each = payloads-each messages;
      body = record { whole = payloads-joined messages ∙ sym (append-nil (framed messages)); each = short-each messages short; ends = λ h. h };
    }

pub are-calls : (last : ℕ) (calls : List ClientCall) → may_follow last calls ≡ true → AreCalls calls (flat_map call_frames calls)
are-calls last [] may = refl
are-calls last (call ∷ calls) may =
    let h = first-call last call calls may in
    (call_frames call, flat_map call_frames calls, refl, are-call call h.1, are-calls call.stream calls h.2)

-- the DATA of a call
own-data : (call : ClientCall) → (call.stream % 2 == 0) ≡ false → IsStreamId call.stream
    → AllByRecursion (IsDataOn call.stream) (flat_map (message_frames call.stream) call.messages.items ++ end_frames call.stream call.end)
own-data call odd is_id =
    let id = call.stream in
    let messages = call.messages.items in
    all-more (IsDataOn id) (flat_map (message_frames id) messages) (end_frames id call.end)
    (subst (AllByRecursion (IsDataOn id)) (payloads-framed id messages) (all-data id odd is_id (flat_map pieces messages) (payloads-each messages)))
    (end-data id odd is_id call.end)

pub goes-calls : (last : ℕ) (calls : List ClientCall) → may_follow last calls ≡ true → Goes last (flat_map call_frames calls)
goes-calls last [] may = tt
goes-calls last (call ∷ calls) may =
    let h = first-call last call calls may in
    let next = id-next last call.stream h.0 in
    let own = flat_map (message_frames call.stream) call.messages.items ++ end_frames call.stream call.end in (
      record { next = next; short = block_short call.method; m = call.method; request = request call.method },
      goes-data call.stream own (flat_map call_frames calls) (own-data call next.odd (stream-id last call.stream h.0)) (goes-calls call.stream calls h.2),
    )
