-- The octets of what is given on a stream are those of its replies, and the octets of what went are its DATA.
use Rattle.std.proofs.Common.{◌≡◌, ℕ, ◌+◌, ◌≤◌, ◌==◌, Bool, true, false, ◌&&◌, List, [], ◌∷◌, ◌++◌, map, length, refl, sym, ap, ◌∙◌, arith, length-append, if◌then◌else◌}
use Rattle.std.specs.List.{concat}
use Rattle.h2_frames.specs.declared.frame.Frame.{Frame}
use Rattle.h2_frames.specs.declared.frame.Frame.TheVariants as frames
use Rattle.h2_answers.specs.Replies.{adding_reply}
use Rattle.h2_answers.proofs.ReplyLemmas.{concat-adding}
use Rattle.h2_record.specs.Record.{Record, In, Out, Given, Whole, Broken, Head, Reply, Tail, Abort}
use Rattle.h2_record.specs.Windows.{with_data, data_out}
use Rattle.h2_record.specs.Resets.{is_live}
use Rattle.h2_record.specs.Live.{is_live_with}
use Rattle.h2_record.specs.Replies.{replies_of}
use Rattle.h2_record.specs.Texts.{Token, Fields, Octet, Aborted, given_text, frame_text, written_text}

-- how many octets stand in a text
pub octets : List Token → ℕ
octets [] = 0
octets (Octet byte ∷ text) = octets text + 1
octets (Fields end block ∷ text) = octets text
octets (Aborted code ∷ text) = octets text

pub octets-append : (xs ys : List Token) → octets (xs ++ ys) ≡ octets xs + octets ys
unfolding octets
octets-append [] ys = omega arith
octets-append (Octet byte ∷ xs) ys = omega (arith, octets-append xs ys)
octets-append (Fields end block ∷ xs) ys = octets-append xs ys
octets-append (Aborted code ∷ xs) ys = octets-append xs ys

pub octets-map : (bytes : List ℕ) → octets (map Octet bytes) ≡ length bytes
unfolding octets
octets-map [] = refl
octets-map (byte ∷ bytes) = omega (arith, octets-map bytes)

-- ---- what went

add-none : (n : ℕ) → n ≡ n + 0
add-none n = omega arith

add-if : (b : Bool) (n : ℕ) (token : Token) → octets (token ∷ []) ≡ 0 → n ≡ n + octets (if b then token ∷ [] else [])
unfolding octets
add-if true n token none = omega (arith, none)
add-if false n token none = add-none n

add-bytes : (b : Bool) (n : ℕ) (bytes : List ℕ) → (if b then n + length bytes else n) ≡ n + octets (if b then map Octet bytes else [])
unfolding octets
add-bytes true n bytes = ap (λ more. n + more) (sym (octets-map bytes))
add-bytes false n bytes = add-none n

frame-octets : (r : Record) (id : ℕ) (frame : Frame) (n : ℕ) → with_data id frame n ≡ n + octets (frame_text r id frame)
unfolding octets
frame-octets r id (frames.Headers stream ended whole block) n = add-if (id == stream) n _ refl
frame-octets r id (frames.Body stream ended bytes counted) n = add-bytes (id == stream) n bytes
frame-octets r id (frames.Reset stream code) n = add-if (id == stream && is_live r id) n (Aborted code) refl
frame-octets r id (frames.Priority stream) n = add-none n
frame-octets r id (frames.Settings acked pairs) n = add-none n
frame-octets r id (frames.Push stream) n = add-none n
frame-octets r id (frames.Ping acked octets) n = add-none n
frame-octets r id (frames.Goaway last code) n = add-none n
frame-octets r id (frames.Window stream add) n = add-none n
frame-octets r id (frames.Continuation stream whole block) n = add-none n
frame-octets r id (frames.Unknown kind stream) n = add-none n

pub octets-written : (r : Record) (id : ℕ) → octets (written_text r id) ≡ data_out r id
unfolding octets is_live_with
octets-written [] id = refl
octets-written (Out frame ∷ r) id =
    octets-append (written_text r id) (frame_text r id frame) ∙ ap (λ n. n + octets (frame_text r id frame)) (octets-written r id) ∙ sym (frame-octets r id frame (data_out r id))
octets-written (In frame ∷ r) id = octets-written r id
octets-written (Given stream part ∷ r) id = octets-written r id
octets-written (Whole ∷ r) id = octets-written r id
octets-written (Broken fault ∷ r) id = octets-written r id

-- ---- what was given

given-none : (b : Bool) (text : List Token) (token : Token) → octets (token ∷ []) ≡ 0 → octets (if b then text ++ token ∷ [] else text) ≡ octets text
unfolding octets
given-none true text token none = omega (arith, octets-append text (token ∷ []), none)
given-none false text token none = refl

given-reply : (b : Bool) (text : List Token) (replies : List (List ℕ)) (bytes : List ℕ) → octets text ≡ length (concat replies)
    → octets (if b then text ++ map Octet bytes else text) ≡ length (concat (if b then adding_reply replies bytes else replies))
unfolding octets
given-reply true text replies bytes same =
    omega (arith, octets-append text (map Octet bytes), octets-map bytes, same, ap length (concat-adding replies bytes), length-append (concat replies) bytes)
given-reply false text replies bytes same = same

pub octets-given : (r : Record) (id : ℕ) → octets (given_text r id) ≡ length (concat (replies_of r id))
unfolding octets
octets-given [] id = refl
octets-given (Given stream (Head fields end) ∷ r) id = given-none (id == stream) (given_text r id) _ refl ∙ octets-given r id
octets-given (Given stream (Reply bytes) ∷ r) id = given-reply (id == stream) (given_text r id) (replies_of r id) bytes (octets-given r id)
octets-given (Given stream (Tail fields) ∷ r) id = given-none (id == stream) (given_text r id) _ refl ∙ octets-given r id
octets-given (Given stream (Abort code) ∷ r) id = given-none (id == stream) (given_text r id) _ refl ∙ octets-given r id
octets-given (In frame ∷ r) id = octets-given r id
octets-given (Out frame ∷ r) id = octets-given r id
octets-given (Whole ∷ r) id = octets-given r id
octets-given (Broken fault ∷ r) id = octets-given r id

-- what went of the replies was given
pub written-within : (r : Record) (id : ℕ) (waiting : List Token) → written_text r id ++ waiting ≡ given_text r id → data_out r id ≤ length (concat (replies_of r id))
written-within r id waiting text =
    omega (arith, octets-append (written_text r id) waiting, octets-written r id, octets-given r id, ap octets text)
