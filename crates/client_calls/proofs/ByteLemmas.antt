-- The bytes of what is written one behind the other.
use Rattle.std.proofs.Common.{◌≡◌, ℕ, zero, suc, ◌<◌, ◌==◌, true, false, List, [], ◌∷◌, ◌++◌, length, get_or, take, drop, map, min, refl, sym, ap, ◌∙◌, append_assoc, append-nil, arith}
use Rattle.std.specs.List.{flat_map, list_all}
use Rattle.std.proofs.lemmas.List.{take_min, take-append-drop, append_cancel_left}
use Rattle.std.proofs.lemmas.List.Concat.{flat_map-append}
use Rattle.std.proofs.lemmas.Bool.Decides.{nat_tests}
use Rattle.h2_frames.specs.Header.{max_frame_size}
use Rattle.h2_frames.specs.Sound.{IsStreamId}
use Rattle.h2_frames.specs.Spelling.{spelling}
use Rattle.h2_frames.specs.declared.frame.Frame.{Frame}
use Rattle.client_calls.specs.declared.calls.ClientCall.{ClientCall}
use Rattle.client_calls.specs.Calls.{is_short, may_follow}
use Rattle.client_calls.specs.Frames.{settings_frame, request_frame, data_of, data_frames, end_frames, message_frames, call_frames, client_frames, message_bytes, call_bytes}
use Rattle.client_calls.proofs.PieceLemmas.{pieces-more, pieces-none}
use Rattle.client_calls.proofs.CallLemmas.{first-call, stream-id}

-- ---- pieces

piece-at : (id : ℕ) (out rest : List ℕ) → 0 < length rest
    → (out ++ spelling (data_of id (take max_frame_size rest))) ++ flat_map spelling (data_frames id (drop max_frame_size rest)) ≡ out ++ flat_map spelling (data_frames id rest)
piece-at id out rest some =
    append_assoc out (spelling (data_of id (take max_frame_size rest))) (flat_map spelling (data_frames id (drop max_frame_size rest)))
    ∙ sym (ap (λ (ps : List (List ℕ)). out ++ flat_map spelling (map (data_of id) ps)) (pieces-more rest some))

-- one piece more is written
pub piece-more : (id n : ℕ) (out now rest payload behind : List ℕ) → 0 < length rest → n ≡ min max_frame_size (length rest) → payload ≡ take n rest → behind ≡ drop n rest
    → now ≡ out ++ spelling (data_of id payload) → now ++ flat_map spelling (data_frames id behind) ≡ out ++ flat_map spelling (data_frames id rest)
piece-more id n out now rest payload behind some least is-front is-back is-now =
    let front : payload ≡ take max_frame_size rest = is-front ∙ ap (λ k. take k rest) least ∙ take_min max_frame_size rest in
    let whole : payload ++ behind ≡ rest = ap (λ (l : List ℕ). l ++ behind) is-front ∙ ap (λ (l : List ℕ). take n rest ++ l) is-back ∙ take-append-drop n rest in
    let back : behind ≡ drop max_frame_size rest =
    append_cancel_left payload behind (drop max_frame_size rest) (whole ∙ sym (take-append-drop max_frame_size rest) ∙ ap (λ (l : List ℕ). l ++ drop max_frame_size rest) (sym front))
    in
    ap (λ (l : List ℕ). l ++ flat_map spelling (data_frames id behind)) (is-now ∙ ap (λ (l : List ℕ). out ++ spelling (data_of id l)) front)
    ∙ ap (λ (l : List ℕ). (out ++ spelling (data_of id (take max_frame_size rest))) ++ flat_map spelling (data_frames id l)) back
    ∙ piece-at id out rest some

-- none is left
pub pieces-over : (id : ℕ) (out whole rest : List ℕ) → length rest ≡ 0 → out ++ flat_map spelling (data_frames id rest) ≡ whole → out ≡ whole
pieces-over id out whole [] none is = sym (ap (λ (ps : List (List ℕ)). out ++ flat_map spelling (map (data_of id) ps)) pieces-none ∙ append-nil out) ∙ is
pieces-over id out whole (b ∷ rest) none is = absurd (omega (arith, none))

pub some-left : (n : ℕ) → (n == 0) ≡ false → 0 < n
some-left n some = grind (arith, nat_tests)

pub none-left : (n : ℕ) → (n == 0) ≡ true → n ≡ 0
none-left n none = grind (arith, nat_tests)

-- ---- messages and calls

-- frames of one after the other
pub texts : {X : Type 0} (frames : X → List Frame) (xs : List X) → flat_map (λ x. flat_map spelling (frames x)) xs ≡ flat_map spelling (flat_map frames xs)
texts frames [] = refl
texts frames (x ∷ xs) = ap (λ (l : List ℕ). flat_map spelling (frames x) ++ l) (texts frames xs) ∙ sym (flat_map-append spelling (frames x) (flat_map frames xs))

pub call-written : (call : ClientCall) (out headed said now : List ℕ) → headed ≡ out ++ spelling (request_frame call.stream call.method)
    → said ≡ headed ++ flat_map (message_bytes call.stream) call.messages.items → now ≡ said ++ flat_map spelling (end_frames call.stream call.end) → now ≡ out ++ call_bytes call
call-written call out headed said now first second third =
    let request = spelling (request_frame call.stream call.method) in
    let messages = flat_map (message_bytes call.stream) call.messages.items in
    let ends = flat_map spelling (end_frames call.stream call.end) in
    third
    ∙ ap (λ (l : List ℕ). l ++ ends) (second ∙ ap (λ (l : List ℕ). l ++ messages) first ∙ append_assoc out request messages)
    ∙ append_assoc out (request ++ messages) ends
    ∙ ap (λ (l : List ℕ). out ++ l) (append_assoc request messages ends)
    ∙ ap (λ (l : List ℕ). out ++ (request ++ (l ++ ends))) (texts (message_frames call.stream) call.messages.items)
    ∙ ap (λ (l : List ℕ). out ++ (request ++ l)) (sym (flat_map-append spelling (flat_map (message_frames call.stream) call.messages.items) (end_frames call.stream call.end)))

pub all-written : (calls : List ClientCall) (start headed now : List ℕ) → headed ≡ start ++ spelling settings_frame → now ≡ headed ++ flat_map call_bytes calls → now ≡ start ++ flat_map spelling (client_frames calls)
all-written calls start headed now first second =
    second
    ∙ ap (λ (l : List ℕ). l ++ flat_map call_bytes calls) first
    ∙ append_assoc start (spelling settings_frame) (flat_map call_bytes calls)
    ∙ ap (λ (l : List ℕ). start ++ (spelling settings_frame ++ l)) (texts call_frames calls)

-- ---- each call by its place

pub call-at : (last : ℕ) (calls : List ClientCall) (i : ℕ) (call : ClientCall) → may_follow last calls ≡ true → i < length calls → call ≡ get_or calls i call
    → IsStreamId call.stream × (list_all is_short call.messages.items ≡ true)
call-at last [] i call may within is = absurd (omega (arith, within))
call-at last (first ∷ calls) zero call may within is =
    let h = first-call last first calls may in
    rw is (stream-id last first.stream h.0, h.1)
call-at last (first ∷ calls) (suc i) call may within is = call-at first.stream calls i call ((first-call last first calls may).2) (omega (arith, within)) is
