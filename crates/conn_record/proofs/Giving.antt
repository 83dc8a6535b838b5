-- What is given on a stream comes to its end once, and what went on a live one hasn't.
use Rattle.std.proofs.Common.{◌≡◌, ℕ, ◌≤◌, ◌==◌, Bool, true, false, not, ◌&&◌, ◌||◌, ◌⊎◌, inl, inr, List, [], ◌∷◌, ◌++◌, map, length, drop, Option, None, Some, refl, sym, ap, subst, ◌∙◌, true≢false, if◌then◌else◌}
use Rattle.std.specs.List.{AllByRecursion}
use Rattle.std.proofs.lemmas.List.Folds.{list_any-append}
use Rattle.h2_frames.specs.declared.frame.Frame.{Frame}
use Rattle.h2_frames.specs.declared.frame.Frame.TheVariants as frames
use Rattle.h2_record.specs.Record.{AnswerPart, Head, Reply, Tail, Abort, Record, In, Out, Given, Whole, Broken, any_in, any_out}
use Rattle.h2_record.specs.Live.{Reset, opens, cancels, ends, finishes, is_reset, is_live_with}
use Rattle.h2_record.specs.Resets.{is_live, resets_of, reset_by, reset_behind, with_reset}
use Rattle.h2_record.specs.Texts.{Token, Fields, Octet, Aborted, has_headed, part_text, frame_text, given_text, written_text}
use Rattle.h2_record.specs.Due.{IsDue}
use Rattle.h2_record.proofs.BoolLemmas.{or-first, or-second, or-true, and-first, and-second, and-false, same-self, same-eq, by-test}
use Rattle.h2_record.proofs.LiveLaws.{live-unreset}
use Rattle.conn_record.specs.declared.limits.TheConstants.{LONGEST_BLOCK}
use Rattle.h2_record.specs.Written.{EachWasDue, ends_answer, is_ended}
use Rattle.conn_record.specs.Giving.{IsShort, EachWasGiven, LiveTextGoesOn}

-- ---- texts that end

end-append : (xs ys : List Token) → is_ended (xs ++ ys) ≡ (is_ended xs || is_ended ys)
end-append xs ys = list_any-append ends_answer xs ys

end-first : (xs ys : List Token) → is_ended xs ≡ true → is_ended (xs ++ ys) ≡ true
end-first xs ys e = end-append xs ys ∙ ap (λ (b : Bool). b || is_ended ys) e

endless-octets : (bytes : List ℕ) → is_ended (map Octet bytes) ≡ false
endless-octets [] = refl
endless-octets (b ∷ bytes) = endless-octets bytes

second-nil : (xs ys : List Token) → xs ++ ys ≡ [] → ys ≡ []
second-nil [] ys e = e
second-nil (x ∷ xs) ys e = absurd (cc)

-- a front that has the end is all
last-ends : (given xs ys : List Token) (token : Token) → is_ended given ≡ false → xs ++ ys ≡ given ++ token ∷ [] → is_ended xs ≡ true → ys ≡ []
last-ends given [] ys token going same ended = absurd (true≢false (sym ended))
last-ends [] (x ∷ xs) ys token going same ended = second-nil xs ys (let rest : xs ++ ys ≡ [] = cc in rest)
last-ends (g ∷ given) (x ∷ xs) ys token going same ended =
    let head : x ≡ g = cc in
    let rest : xs ++ ys ≡ given ++ token ∷ [] = cc in
    let goes : ends_answer x ≡ false = ap ends_answer head ∙ or-first (ends_answer g) (is_ended given) going in
    last-ends given xs ys token (or-second (ends_answer g) (is_ended given) going) rest (sym (ap (λ (b : Bool). b || is_ended xs) goes) ∙ ended)

endless-more : (given more xs ys : List Token) → is_ended given ≡ false → is_ended more ≡ false → xs ++ ys ≡ given ++ more → is_ended xs ≡ true → ys ≡ []
endless-more given more xs ys going endless same ended =
    absurd (true≢false (sym (end-first xs ys ended) ∙ ap is_ended same ∙ end-append given more ∙ (λ i. going i || endless i)))

part-ends : (given xs ys : List Token) (part : AnswerPart) → is_ended given ≡ false → xs ++ ys ≡ given ++ part_text part → is_ended xs ≡ true → ys ≡ []
part-ends given xs ys (Head fields ended) going same done = last-ends given xs ys _ going same done
part-ends given xs ys (Reply bytes) going same done = endless-more given (map Octet bytes) xs ys going (endless-octets bytes) same done
part-ends given xs ys (Tail fields) going same done = last-ends given xs ys _ going same done
part-ends given xs ys (Abort code) going same done = last-ends given xs ys _ going same done

-- nothing is given behind the end
pub ends-once : (r : Record) (id : ℕ) → EachWasGiven r → (xs ys : List Token) → xs ++ ys ≡ given_text r id → is_ended xs ≡ true → ys ≡ []
ends-once [] id each xs ys same ended = second-nil xs ys same
ends-once (In frame ∷ r) id each xs ys same ended = ends-once r id each xs ys same ended
ends-once (Out frame ∷ r) id each xs ys same ended = ends-once r id each xs ys same ended
ends-once (Whole ∷ r) id each xs ys same ended = ends-once r id each xs ys same ended
ends-once (Broken fault ∷ r) id each xs ys same ended = ends-once r id each xs ys same ended
ends-once (Given stream part ∷ r) id each xs ys same ended =
    choose (id == stream) refl (ends-once r id each.1 xs ys)
  where
    here : (id == stream) ≡ true → is_ended (given_text r id) ≡ false
    here e = ap (λ (n : ℕ). is_ended (given_text r n)) (same-eq id stream e) ∙ each.0.goes_on

    choose : (b : Bool) → (id == stream) ≡ b → (xs ++ ys ≡ given_text r id → is_ended xs ≡ true → ys ≡ []) → ys ≡ []
    choose true e earlier = part-ends (given_text r id) xs ys part (here e) (same ∙ ap (λ (b : Bool). if b then given_text r id ++ part_text part else given_text r id) e) ended
    choose false e earlier = earlier (same ∙ ap (λ (b : Bool). if b then given_text r id ++ part_text part else given_text r id) e) ended

-- ---- nothing is given on a stream that wasn't opened

live-some : (resets : List Reset) (r : Record) (id : ℕ) → is_live_with resets r id ≡ true → (any_in (opens id) r && not (0 == id)) ≡ true
unfolding is_live_with
live-some resets r id live =
    let a = any_in (opens id) r in
    let b = not (0 == id) in
    let c = not (is_reset resets id) in
    let d = not (any_in (cancels id) r) in
    let e = not (any_in (ends id) r && any_out (finishes id) r) in
    and-first (a && b) c (and-first (a && b && c) d (and-first (a && b && c && d) e live))

later-unopened : (more opened some : Bool) → ((more || opened) && some) ≡ false → (opened && some) ≡ false
later-unopened true opened some e = ap (λ (b : Bool). opened && b) e ∙ and-false opened
later-unopened false opened some e = e

pub unopened-nothing : (r : Record) (id : ℕ) → EachWasGiven r → (any_in (opens id) r && not (0 == id)) ≡ false → given_text r id ≡ []
unopened-nothing [] id each none = refl
unopened-nothing (In frame ∷ r) id each none = unopened-nothing r id each (later-unopened (opens id frame) (any_in (opens id) r) (not (0 == id)) none)
unopened-nothing (Out frame ∷ r) id each none = unopened-nothing r id each none
unopened-nothing (Whole ∷ r) id each none = unopened-nothing r id each none
unopened-nothing (Broken fault ∷ r) id each none = unopened-nothing r id each none
unopened-nothing (Given stream part ∷ r) id each none = choose (id == stream) refl (unopened-nothing r id each.1 none)
  where
    choose : (b : Bool) → (id == stream) ≡ b → given_text r id ≡ [] → given_text (Given stream part ∷ r) id ≡ []
    choose true e earlier =
        absurd (true≢false (sym (live-some (resets_of r) r id (ap (λ (n : ℕ). is_live r n) (same-eq id stream e) ∙ each.0.live)) ∙ none))
    choose false e earlier = ap (λ (b : Bool). if b then given_text r id ++ part_text part else given_text r id) e ∙ earlier

-- ---- an answer that is whole

pub finished-text : (r : Record) (id : ℕ) → any_out (finishes id) r ≡ true → is_ended (written_text r id) ≡ true
finished-text [] id done = absurd (true≢false (sym done))
finished-text (In frame ∷ r) id done = finished-text r id done
finished-text (Given stream part ∷ r) id done = finished-text r id done
finished-text (Whole ∷ r) id done = finished-text r id done
finished-text (Broken fault ∷ r) id done = finished-text r id done
finished-text (Out (frames.Headers stream ended whole block) ∷ r) id done = choose (ended && id == stream) refl (finished-text r id)
  where
    token : Token
    token = Fields ended (drop (if has_headed r then 0 else 1) block)

    choose : (b : Bool) → (ended && id == stream) ≡ b → (any_out (finishes id) r ≡ true → is_ended (written_text r id) ≡ true) → is_ended (written_text r id ++ (if id == stream then token ∷ [] else [])) ≡ true
    choose true e earlier =
        end-append (written_text r id) (if id == stream then token ∷ [] else [])
        ∙ ap (λ (b : Bool). is_ended (written_text r id) || is_ended (if b then token ∷ [] else [])) (and-second ended (id == stream) e)
        ∙ ap (λ (b : Bool). is_ended (written_text r id) || (b || false)) (and-first ended (id == stream) e)
        ∙ or-true (is_ended (written_text r id))
    choose false e earlier = end-first (written_text r id) (if id == stream then token ∷ [] else []) (earlier (sym (ap (λ (b : Bool). b || any_out (finishes id) r) e) ∙ done))
finished-text (Out (frames.Body stream ended bytes counted) ∷ r) id done = end-first (written_text r id) _ (finished-text r id done)
finished-text (Out (frames.Priority stream) ∷ r) id done = end-first (written_text r id) [] (finished-text r id done)
finished-text (Out (frames.Reset stream code) ∷ r) id done = end-first (written_text r id) _ (finished-text r id done)
finished-text (Out (frames.Settings acked pairs) ∷ r) id done = end-first (written_text r id) [] (finished-text r id done)
finished-text (Out (frames.Push stream) ∷ r) id done = end-first (written_text r id) [] (finished-text r id done)
finished-text (Out (frames.Ping acked octets) ∷ r) id done = end-first (written_text r id) [] (finished-text r id done)
finished-text (Out (frames.Goaway last code) ∷ r) id done = end-first (written_text r id) [] (finished-text r id done)
finished-text (Out (frames.Window stream add) ∷ r) id done = end-first (written_text r id) [] (finished-text r id done)
finished-text (Out (frames.Continuation stream whole block) ∷ r) id done = end-first (written_text r id) [] (finished-text r id done)
finished-text (Out (frames.Unknown kind stream) ∷ r) id done = end-first (written_text r id) [] (finished-text r id done)

-- ---- a text that has ended is a closed stream's

-- the server reset the stream, or both sides have ended it
abbrev IsShut : Record → ℕ → Type 0
IsShut r id = (is_reset (resets_of r) id ≡ true) ⊎ ((any_in (ends id) r && any_out (finishes id) r) ≡ true)

shut-not : (r : Record) (id : ℕ) → IsShut r id → is_live r id ≡ true → ⊥
unfolding is_live_with
shut-not r id (inl reset) live = true≢false (sym reset ∙ live-unreset (resets_of r) r id live)
shut-not r id (inr done) live =
    let a = any_in (opens id) r in
    let b = not (0 == id) in
    let c = not (is_reset (resets_of r) id) in
    let d = not (any_in (cancels id) r) in
    let e = any_in (ends id) r && any_out (finishes id) r in
    true≢false (sym (and-second (a && b && c && d) (not e) live) ∙ ap not done)

reset-more : (resets : List Reset) (reset : Option Reset) (id : ℕ) → is_reset resets id ≡ true → is_reset (with_reset resets reset) id ≡ true
reset-more resets None id e = e
reset-more resets (Some reset) id e = ap (λ (b : Bool). (id == reset.stream) || b) e ∙ or-true (id == reset.stream)

both-more : (more ended more' done : Bool) → (ended && done) ≡ true → ((more || ended) && (more' || done)) ≡ true
both-more more ended more' done e =
    (λ i. (more || and-first ended done e i) && (more' || and-second ended done e i)) ∙ (λ i. or-true more i && or-true more' i)

shut-in : (r : Record) (frame : Frame) (id : ℕ) → IsShut r id → IsShut (In frame ∷ r) id
shut-in r frame id (inl reset) = inl (reset-more (resets_of r) (reset_by (resets_of r) r frame) id reset)
shut-in r frame id (inr done) = inr (both-more (ends id frame) (any_in (ends id) r) false (any_out (finishes id) r) done)

shut-out : (r : Record) (frame : Frame) (id : ℕ) → IsShut r id → IsShut (Out frame ∷ r) id
shut-out r frame id (inl reset) = inl (reset-more (resets_of r) (reset_behind (resets_of r) r frame) id reset)
shut-out r frame id (inr done) = inr (both-more false (any_in (ends id) r) (finishes id frame) (any_out (finishes id) r) done)

module _ (r : Record) (stream : ℕ) where
  -- the answer was whole: both sides have ended, or the server resets the stream
  head-shuts : (whole : Bool) (block : List ℕ) → is_live r stream ≡ true → IsShut (Out (frames.Headers stream true whole block) ∷ r) stream
  unfolding reset_behind
  head-shuts whole block live = by-test (any_in (ends stream) r)
      (λ ended. inr ((λ i. ended i && (same-self stream i || any_out (finishes stream) r))))
      (λ going. inl (rw (live, going, same-self stream) refl))

  -- the caller reset it
  code-shuts : (code : ℕ) → is_live r stream ≡ true → IsShut (Out (frames.Reset stream code) ∷ r) stream
  unfolding reset_behind
  code-shuts code live = inl (rw (live, same-self stream) refl)

-- a token that ends the text
ended-by : (r : Record) (id : ℕ) (frame : Frame) → IsDue r frame → is_ended (frame_text r id frame) ≡ true → IsShut (Out frame ∷ r) id
ended-by r id (frames.Headers stream ended whole block) due e = choose (id == stream) refl ended refl
  where
    here : (id == stream) ≡ true → ended ≡ true → IsShut (Out (frames.Headers stream ended whole block) ∷ r) id
    here same is =
        subst (λ (n : ℕ). IsShut (Out (frames.Headers stream ended whole block) ∷ r) n) (sym (same-eq id stream same))
        (subst (λ (b : Bool). IsShut (Out (frames.Headers stream b whole block) ∷ r) stream) (sym is) (head-shuts r stream whole block due.text.live))

    choose : (b : Bool) → (id == stream) ≡ b → (c : Bool) → ended ≡ c → IsShut (Out (frames.Headers stream ended whole block) ∷ r) id
    choose true same true is = here same is
    choose true same false is =
        absurd (true≢false (sym e ∙ ap (λ (b : Bool). is_ended (if b then Fields ended (drop (if has_headed r then 0 else 1) block) ∷ [] else [])) same ∙ ap (λ (b : Bool). b || false) is))
    choose false same c is = absurd (true≢false (sym e ∙ ap (λ (b : Bool). is_ended (if b then Fields ended (drop (if has_headed r then 0 else 1) block) ∷ [] else [])) same))
ended-by r id (frames.Reset stream code) due e = choose (id == stream && is_live r id) refl
  where
    choose : (b : Bool) → (id == stream && is_live r id) ≡ b → IsShut (Out (frames.Reset stream code) ∷ r) id
    choose true same =
        let is = same-eq id stream (and-first (id == stream) (is_live r id) same) in
        subst (λ (n : ℕ). IsShut (Out (frames.Reset stream code) ∷ r) n) (sym is)
        (code-shuts r stream code (ap (is_live r) (sym is) ∙ and-second (id == stream) (is_live r id) same))
    choose false same = absurd (true≢false (sym e ∙ ap (λ (b : Bool). is_ended (if b then Aborted code ∷ [] else [])) same))
ended-by r id (frames.Body stream ended bytes counted) due e = choose (id == stream) refl
  where
    choose : (b : Bool) → (id == stream) ≡ b → IsShut (Out (frames.Body stream ended bytes counted) ∷ r) id
    choose true same = absurd (true≢false (sym e ∙ ap (λ (b : Bool). is_ended (if b then map Octet bytes else [])) same ∙ endless-octets bytes))
    choose false same = absurd (true≢false (sym e ∙ ap (λ (b : Bool). is_ended (if b then map Octet bytes else [])) same))
ended-by r id (frames.Priority stream) due e = absurd (true≢false (sym e))
ended-by r id (frames.Settings acked pairs) due e = absurd (true≢false (sym e))
ended-by r id (frames.Push stream) due e = absurd (true≢false (sym e))
ended-by r id (frames.Ping acked octets) due e = absurd (true≢false (sym e))
ended-by r id (frames.Goaway last code) due e = absurd (true≢false (sym e))
ended-by r id (frames.Window stream add) due e = absurd (true≢false (sym e))
ended-by r id (frames.Continuation stream whole block) due e = absurd (true≢false (sym e))
ended-by r id (frames.Unknown kind stream) due e = absurd (true≢false (sym e))

ended-shut : (r : Record) (id : ℕ) → EachWasDue r → is_ended (written_text r id) ≡ true → IsShut r id
ended-shut [] id each e = absurd (true≢false (sym e))
ended-shut (In frame ∷ r) id each e = shut-in r frame id (ended-shut r id each e)
ended-shut (Given stream part ∷ r) id each e = ended-shut r id each e
ended-shut (Whole ∷ r) id each e = ended-shut r id each e
ended-shut (Broken fault ∷ r) id each e = ended-shut r id each e
ended-shut (Out frame ∷ r) id each e = choose (is_ended (written_text r id)) refl (ended-shut r id each.1)
  where
    choose : (b : Bool) → is_ended (written_text r id) ≡ b → (is_ended (written_text r id) ≡ true → IsShut r id) → IsShut (Out frame ∷ r) id
    choose true before earlier = shut-out r frame id (earlier before)
    choose false before earlier =
        ended-by r id frame each.0 (sym (ap (λ (b : Bool). b || is_ended (frame_text r id frame)) before) ∙ sym (end-append (written_text r id) (frame_text r id frame)) ∙ e)

pub live-text-goes-on : LiveTextGoesOn
live-text-goes-on r id each live = by-test (is_ended (written_text r id))
    (λ ended. absurd (shut-not r id (ended-shut r id each ended) live))
    (λ going. going)

-- ---- each header block is short

abbrev pub IsShortToken : Token → Type 0
IsShortToken (Fields ended spelling) = length spelling ≤ LONGEST_BLOCK
IsShortToken _ = Unit {0}

short-append : (xs ys : List Token) → AllByRecursion IsShortToken xs → AllByRecursion IsShortToken ys → AllByRecursion IsShortToken (xs ++ ys)
short-append [] ys all more = more
short-append (x ∷ xs) ys all more = (all.0, short-append xs ys all.1 more)

pub short-behind : (xs ys : List Token) → AllByRecursion IsShortToken (xs ++ ys) → AllByRecursion IsShortToken ys
short-behind [] ys all = all
short-behind (x ∷ xs) ys all = short-behind xs ys all.1

short-octets : (bytes : List ℕ) → AllByRecursion IsShortToken (map Octet bytes)
short-octets [] = tt
short-octets (b ∷ bytes) = (tt, short-octets bytes)

short-part : (part : AnswerPart) → IsShort part → AllByRecursion IsShortToken (part_text part)
short-part (Head fields ended) short = (short, tt)
short-part (Reply bytes) short = short-octets bytes
short-part (Tail fields) short = (short, tt)
short-part (Abort code) short = (tt, tt)

short-if : (b : Bool) (given more : List Token) → AllByRecursion IsShortToken given → AllByRecursion IsShortToken more → AllByRecursion IsShortToken (if b then given ++ more else given)
short-if true given more all all' = short-append given more all all'
short-if false given more all all' = all

pub given-short : (r : Record) (id : ℕ) → EachWasGiven r → AllByRecursion IsShortToken (given_text r id)
given-short [] id each = tt
given-short (In frame ∷ r) id each = given-short r id each
given-short (Out frame ∷ r) id each = given-short r id each
given-short (Whole ∷ r) id each = given-short r id each
given-short (Broken fault ∷ r) id each = given-short r id each
given-short (Given stream part ∷ r) id each = short-if (id == stream) (given_text r id) (part_text part) (given-short r id each.1) (short-part part each.0.short)
