-- Where no frame that is due fits a wide room, nothing is left to write but what a window holds up.
use Rattle.std.proofs.Common.{◌≡◌, ℕ, ◌+◌, ◌<◌, ◌≤◌, ◌==◌, Bool, true, false, not, ◌&&◌, ◌⊎◌, inl, inr, List, [], ◌∷◌, ◌++◌, map, length, drop, Option, None, Some, ℤ, pos, ◌≤ℤ◌, int_lt, refl, sym, ap, subst, ◌∙◌, arith, append_assoc, append-nil, length-append, true≢false, if◌then◌else◌}
use Rattle.std.specs.List.{AllByRecursion, list_any, flat_map}
use Rattle.std.proofs.lemmas.Int.{ints}
use Rattle.hpack_blocks.specs.Spelling.{field_spelling}
use Rattle.h2_frames.specs.declared.frame.Frame.{Frame}
use Rattle.h2_frames.specs.declared.frame.Frame.TheVariants as frames
use Rattle.h2_frames.specs.Header.{max_frame_size}
use Rattle.h2_frames.specs.Spelling.{frame_len}
use Rattle.h2_answers.proofs.DueLemmas.{frame_len-headers, frame_len-body, frame_len-reset}
use Rattle.h2_record.specs.Record.{Record, AnswerPart, Head, Reply, Tail, Abort, In, Out, Given, Whole, Broken}
use Rattle.h2_record.specs.Windows.{send_window_of, connection_window_of}
use Rattle.h2_record.specs.Resets.{resets_of, is_live}
use Rattle.h2_record.specs.Faults.{first_fault_of}
use Rattle.h2_record.specs.Rules.{is_settings}
use Rattle.h2_record.specs.Control.{control_of, written_control_of}
use Rattle.h2_record.specs.Texts.{Token, Fields, Octet, Aborted, has_headed, part_text, given_text, frame_text, written_text, codes_on, written_codes}
use Rattle.h2_record.specs.Due.{settled_control_of, IsNextControl, WaitsControl, IsStarted, IsNextText}
use Rattle.h2_record.specs.Written.{EachWasDue}
use Rattle.h2_record.specs.Quiet.{HasShortBlock, EachFits, NoneFits, IsHeldUp, IsQuiet}
use Rattle.h2_record.proofs.BoolLemmas.{same-self, by-test}
use Rattle.h2_record.proofs.ControlLaws.{all-append, all-behind}
use Rattle.h2_record.proofs.SettingsLaws.{begins, begins-due, first_frame, any-written}
use Rattle.h2_record.proofs.WrittenLaws.{written-front}
use Rattle.h2_record.proofs.DueFronts.{IsShortControl, settled-front, settled-short, codes-live, codes-front}

-- ---- the blocks of what was given are short

abbrev IsShortToken : Token → Type 0
IsShortToken (Fields end block) = length block ≤ max_frame_size
IsShortToken _ = Unit {0}

octets-short : (bytes : List ℕ) → AllByRecursion IsShortToken (map Octet bytes)
octets-short [] = tt
octets-short (byte ∷ bytes) = (tt, octets-short bytes)

part-short : (part : AnswerPart) → HasShortBlock part → AllByRecursion IsShortToken (part_text part)
part-short (Head fields end) short = (omega (arith, short), tt)
part-short (Reply bytes) short = octets-short bytes
part-short (Tail fields) short = (omega (arith, short), tt)
part-short (Abort code) short = (tt, tt)

text-by : (b : Bool) (given more : List Token) → AllByRecursion IsShortToken given → AllByRecursion IsShortToken more → AllByRecursion IsShortToken (if b then given ++ more else given)
text-by true given more all short = all-append IsShortToken given more all short
text-by false given more all short = all

text-short : (r : Record) → EachFits r → (id : ℕ) → AllByRecursion IsShortToken (given_text r id)
text-short [] fits id = tt
text-short (In frame ∷ r) fits id = text-short r fits.1 id
text-short (Out frame ∷ r) fits id = text-short r fits id
text-short (Given stream part ∷ r) fits id = text-by (id == stream) (given_text r id) (part_text part) (text-short r fits.1 id) (part-short part fits.0)
text-short (Whole ∷ r) fits id = text-short r fits id
text-short (Broken fault ∷ r) fits id = text-short r fits id

-- ---- the first block of a connection

spelled-dropped : (headed : Bool) (block : List ℕ) → drop (if headed then 0 else 1) ((if headed then [] else 32 ∷ []) ++ block) ≡ block
spelled-dropped true block = refl
spelled-dropped false block = refl

spelled-short : (headed : Bool) (block : List ℕ) → length ((if headed then [] else 32 ∷ []) ++ block) ≤ length block + 1
spelled-short true block = omega arith
spelled-short false block = omega arith

-- ---- windows

-- a window is used up, or a byte may go
byte-goes : (window : ℤ) → (window ≤ℤ pos 0) ⊎ (pos 1 ≤ℤ window)
byte-goes window = by-test (int_lt (pos 0) window) (λ some. inr (omega (arith, ints, some))) (λ none. inl (omega (arith, ints, none)))

module _ (r : Record) (room : ℕ) (due : EachWasDue r) (fits : EachFits r) (none : NoneFits r room) (wide : 16394 ≤ room) where
  -- ---- control frames

  none-control : (frame : Frame) → IsShortControl frame → IsNextControl r frame → ⊥
  none-control (frames.Settings acked pairs) is next = none (frames.Settings acked pairs) next (omega (arith, is.short, wide))
  none-control (frames.Ping acked octets) is next = none (frames.Ping acked octets) next (omega (arith, is.short, wide))
  none-control (frames.Goaway last code) is next = none (frames.Goaway last code) next (omega (arith, is.short, wide))
  none-control (frames.Window stream add) is next = none (frames.Window stream add) next (omega (arith, is.short, wide))
  none-control (frames.Body stream ended bytes counted) is next = true≢false (sym is.control)
  none-control (frames.Headers stream ended whole block) is next = true≢false (sym is.control)
  none-control (frames.Priority stream) is next = true≢false (sym is.control)
  none-control (frames.Reset stream code) is next = true≢false (sym is.control)
  none-control (frames.Push stream) is next = true≢false (sym is.control)
  none-control (frames.Continuation stream whole block) is next = true≢false (sym is.control)
  none-control (frames.Unknown kind stream) is next = true≢false (sym is.control)

  no-control : (rest : List Frame) → written_control_of r ++ rest ≡ settled_control_of r → AllByRecursion IsShortControl rest → written_control_of r ≡ settled_control_of r
  no-control [] e short = sym (append-nil (written_control_of r)) ∙ e
  no-control (frame ∷ behind) e short = absurd (none-control frame short.0 (record { behind = behind; next = e }))

  control-out : written_control_of r ≡ settled_control_of r
  control-out =
      let f = settled-front r due in
      no-control f.0 f.1 (all-behind IsShortControl (written_control_of r) f.0 (subst (λ (list : List Frame). AllByRecursion IsShortControl list) (sym f.1) (settled-short r fits)))

  started : first_fault_of r ≡ None → IsStarted r
  unfolding first_frame
  started sound =
      let b = begins-due (control_of r) [] r (first_fault_of r) None (begins r) tt in
      record { sound = sound; started = sym (any-written r) ∙ ap (list_any is_settings) (control-out ∙ b.is) }

  free : (id : ℕ) → WaitsControl r id → ⊥
  free id w =
      let more = w.waits ∙ sym control-out in
      let long = ap length more in
      let cut = length-append (written_control_of r ++ w.before) (frames.Window id w.add ∷ w.behind) in
      let front = length-append (written_control_of r) w.before in
      omega (arith, long, cut, front)

  module _ (sound : first_fault_of r ≡ None) (id : ℕ) where
    -- ---- resets

    no-code : (rest : List ℕ) → written_codes r id ++ rest ≡ codes_on (resets_of r) id → written_codes r id ≡ codes_on (resets_of r) id
    no-code [] e = sym (append-nil (written_codes r id)) ∙ e
    no-code (code ∷ behind) e = absurd (by-test (is_live r id)
        (λ live.
        let long = ap length (e ∙ codes-live r id live) in
        let cut = length-append (written_codes r id) (code ∷ behind) in
        omega (arith, long, cut))
        (λ closed. none (frames.Reset id code) (record { next = inr (record { started = started sound; closed = closed; behind = behind; next = e }); free = free id }) (omega (arith, frame_len-reset id code, wide))))

    resets-out : written_codes r id ≡ codes_on (resets_of r) id
    resets-out = let f = codes-front r due id in no-code f.0 f.1

    -- ---- what was given

    module _ (live : is_live r id ≡ true) where
      next-text : (frame : Frame) (text behind : List Token) → frame_text r id frame ≡ text → written_text r id ++ (text ++ behind) ≡ given_text r id → IsNextText r id frame
      next-text frame text behind is e = record {
        started = started sound;
        live = live;
        behind = behind;
        next = ap (λ text. written_text r id ++ text ++ behind) is ∙ append_assoc (written_text r id) text behind ∙ e;
      }

      no-fields : (end : Bool) (block : List ℕ) (behind : List Token) → length block ≤ max_frame_size → written_text r id ++ Fields end block ∷ behind ≡ given_text r id → ⊥
      no-fields end block behind short e =
          let headed = has_headed r in
          let spelled = (if headed then [] else 32 ∷ []) ++ block in
          let text : frame_text r id (frames.Headers id end true spelled) ≡ Fields end block ∷ [] =
          (λ i. if same-self id i then Fields end (drop (if headed then 0 else 1) spelled) ∷ [] else []) ∙ ap (λ octets. Fields end octets ∷ []) (spelled-dropped headed block) in
          none (frames.Headers id end true spelled)
          (record { text = next-text (frames.Headers id end true spelled) (Fields end block ∷ []) behind text e; in_one = refl; spelling = block; octets = refl })
          (omega (arith, frame_len-headers id end spelled, spelled-short headed block, short, wide))

      no-abort : (code : ℕ) (behind : List Token) → written_text r id ++ Aborted code ∷ behind ≡ given_text r id → ⊥
      no-abort code behind e = none (frames.Reset id code)
          (record {
            next = inl (next-text (frames.Reset id code) (Aborted code ∷ []) behind (λ i. if same-self id i && live i then Aborted code ∷ [] else []) e);
            free = free id;
          })
          (omega (arith, frame_len-reset id code, wide))

      no-octet : (byte : ℕ) (behind : List Token) → written_text r id ++ Octet byte ∷ behind ≡ given_text r id → pos 1 ≤ℤ send_window_of r id → pos 1 ≤ℤ connection_window_of r → ⊥
      no-octet byte behind e stream connection = none (frames.Body id false (byte ∷ []) 1)
          (record {
            text = next-text (frames.Body id false (byte ∷ []) 1) (Octet byte ∷ []) behind (λ i. if same-self id i then Octet byte ∷ [] else []) e;
            goes_on = refl;
            some = omega arith;
            small = omega arith;
            unpadded = refl;
            stream = stream;
            connection = connection;
          })
          (omega (arith, frame_len-body id (byte ∷ []) 1, wide))

      held-by : (byte : ℕ) (behind : List Token) → written_text r id ++ Octet byte ∷ behind ≡ given_text r id
          → (send_window_of r id ≤ℤ pos 0) ⊎ (pos 1 ≤ℤ send_window_of r id) → (connection_window_of r ≤ℤ pos 0) ⊎ (pos 1 ≤ℤ connection_window_of r) → IsHeldUp r id
      held-by byte behind e (inl used) connection = record { octet = byte; behind = behind; next = e; window = inl used }
      held-by byte behind e (inr some) (inl used) = record { octet = byte; behind = behind; next = e; window = inr used }
      held-by byte behind e (inr some) (inr more) = absurd (no-octet byte behind e some more)

      rest-out : (rest : List Token) → written_text r id ++ rest ≡ given_text r id → AllByRecursion IsShortToken rest → (written_text r id ≡ given_text r id) ⊎ IsHeldUp r id
      rest-out [] e short = inl (sym (append-nil (written_text r id)) ∙ e)
      rest-out (Fields end block ∷ behind) e short = absurd (no-fields end block behind short.0 e)
      rest-out (Octet byte ∷ behind) e short = inr (held-by byte behind e (byte-goes (send_window_of r id)) (byte-goes (connection_window_of r)))
      rest-out (Aborted code ∷ behind) e short = absurd (no-abort code behind e)

      texts-out : (written_text r id ≡ given_text r id) ⊎ IsHeldUp r id
      texts-out =
          let f = written-front r due id in
          rest-out f.0 f.1 (all-behind IsShortToken (written_text r id) f.0 (subst (λ (text : List Token). AllByRecursion IsShortToken text) (sym f.1) (text-short r fits id)))

  pub quiet : IsQuiet r
  quiet = record {
    control = control-out;
    resets = λ sound id. resets-out sound id;
    texts = λ sound id live. texts-out sound id live;
  }
