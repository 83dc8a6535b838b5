-- Where no frame that is due fits, a connection is quiet.
use Rattle.std.proofs.Common.{Option, Some, ◌≡◌, ℕ, zero, suc, ◌+◌, ◌≤◌, ◌==◌, Bool, true, false, not, ◌&&◌, ◌⊎◌, inl, inr, List, [], ◌∷◌, ◌++◌, drop, length, None, ℤ, pos, negsuc, ◌≤ℤ◌, refl, sym, ap, subst, ◌∙◌, append_assoc, append-nil, length-append, true≢false, arith, if◌then◌else◌}
use Rattle.std.specs.List.{list_any, AllByRecursion}
use Rattle.std.proofs.lemmas.Int.{ints}
use Rattle.h2_frames.specs.declared.frame.Frame.{Frame}
use Rattle.h2_frames.specs.declared.frame.Frame.TheVariants as frames
use Rattle.h2_answers.proofs.DueLemmas.{frame_len-headers, frame_len-body, frame_len-reset}
use Rattle.h2_record.specs.Record.{Record, any_in, any_out}
use Rattle.h2_record.specs.Windows.{send_window_of, connection_window_of}
use Rattle.h2_record.specs.Live.{opens, cancels, ends, finishes, is_reset, is_live_with}
use Rattle.h2_record.specs.Resets.{is_live, resets_of}
use Rattle.h2_record.specs.Faults.{first_fault_of}
use Rattle.h2_record.specs.Rules.{is_settings}
use Rattle.h2_frames.specs.declared.fault.H2Fault.{H2Fault}
use Rattle.h2_record.specs.Credits.{owed_of, given_of}
use Rattle.h2_record.specs.Control.{control_of, written_control_of, due_after}
use Rattle.h2_record.specs.Texts.{Token, Fields, Octet, Aborted, has_headed, written_text, given_text, written_codes, codes_on}
use Rattle.h2_record.specs.Due.{settled_control_of, IsNextControl, WaitsControl, IsStarted}
use Rattle.h2_record.proofs.BoolLemmas.{or-first, or-second, same-self, by-test}
use Rattle.h2_record.proofs.SettingsLaws.{first_frame, begins, any-written}
use Rattle.h2_record.proofs.DueFronts.{settled-front, codes-live}
use Rattle.conn_record.specs.declared.limits.TheConstants.{LEAST_ROOM, LONGEST_BLOCK}
use Rattle.h2_record.specs.Written.{EachWasDue, IsFront, is_ended}
use Rattle.conn_record.specs.Marks.{EachIsFrame}
use Rattle.conn_record.specs.Giving.{EachWasGiven}
use Rattle.h2_record.specs.Quiet.{NoneFits}
use Rattle.conn_record.specs.Quiet.{is_given_up, IsHeldUp, IsSettled, RestIsQuiet, RestIsSaid}
use Rattle.conn_record.proofs.Fronts.{texts-are-fronts, resets-are-fronts}
use Rattle.conn_record.proofs.ControlKinds.{control-due, next-brief}
use Rattle.conn_record.proofs.Giving.{ends-once, unopened-nothing, finished-text, IsShortToken, short-behind, given-short}

-- a front of nothing
front-nil : {X : Type 0} (xs ys : List X) → ys ≡ [] → IsFront xs ys → xs ≡ []
front-nil [] ys none f = refl
front-nil (x ∷ xs) ys none f = absurd (let e = f.1 ∙ none in cc)

-- ---- control frames

module _ (r : Record) (room : ℕ) (frames_are : EachIsFrame r) (each : EachWasDue r) (wide : LEAST_ROOM ≤ room) (none : NoneFits r room) where
  control-rest : (rest : List Frame) → written_control_of r ++ rest ≡ settled_control_of r → rest ≡ []
  control-rest [] e = refl
  control-rest (frame ∷ behind) e =
      let next : IsNextControl r frame = record { behind = behind; next = e } in
      absurd (none frame (control-due r frame next) (omega (arith, next-brief r frame frames_are next, wide)))

  all-said : written_control_of r ≡ settled_control_of r
  all-said =
      let front = settled-front r each in
      sym (append-nil (written_control_of r)) ∙ ap (λ (rest : List Frame). written_control_of r ++ rest) (sym (control-rest front.0 front.1)) ∙ front.1

pub rest-is-said : RestIsSaid
rest-is-said r room frames_are each wide none = all-said r room frames_are each wide none

-- ---- windows

window-cases : (window : ℤ) → (window ≤ℤ pos 0) ⊎ (pos 1 ≤ℤ window)
window-cases (pos zero) = inl (omega (arith, ints))
window-cases (pos (suc n)) = inr (omega (arith, ints))
window-cases (negsuc n) = inl (omega (arith, ints))

-- ---- a stream that doesn't live

shut-done : (r : Record) (id : ℕ) → is_live r id ≡ false → (any_in (opens id) r && not (0 == id)) ≡ true → is_reset (resets_of r) id ≡ false → any_in (cancels id) r ≡ false
    → (any_in (ends id) r && any_out (finishes id) r) ≡ true
unfolding is_live_with
shut-done r id shut opened unreset going =
    by-test (any_in (ends id) r && any_out (finishes id) r) (λ done. done)
    (λ more.
    let lives : is_live r id ≡ true = λ i. opened i && not (unreset i) && not (going i) && not (more i) in
    absurd (true≢false (sym lives ∙ shut)))

and-last : (a b : Bool) → (a && b) ≡ true → b ≡ true
and-last true b e = e
and-last false b e = absurd (true≢false (sym e))

-- ---- streams

module _ (r : Record) (room : ℕ) (sound : first_fault_of r ≡ None) (frames_are : EachIsFrame r) (each : EachWasDue r) (opened : EachWasGiven r) (wide : LEAST_ROOM ≤ room) (none : NoneFits r room) where
  said : written_control_of r ≡ settled_control_of r
  said = all-said r room frames_are each wide none

  begin-settled : (earlier : Option H2Fault) → IsFront (control_of r) (due_after (control_of r) [] r earlier None)
  begin-settled (Some fault) = ([], append-nil (control_of r))
  begin-settled None = (given_of r (owed_of r), sym (append-nil (control_of r ++ given_of r (owed_of r))))

  -- SETTINGS went
  started : IsStarted r
  unfolding first_frame
  started =
      let settled : IsFront (control_of r) (settled_control_of r) = begin-settled (first_fault_of r) in
      let b = begins r in
      record {
        sound = sound;
        started =
            sym (any-written r) ∙ ap (list_any is_settings) (said ∙ sym settled.1)
            ∙ ap (λ (due : List Frame). list_any is_settings (due ++ settled.0)) b.is;
      }

  none-waits : (id : ℕ) → WaitsControl r id → ⊥
  none-waits id w =
      omega (arith, ap length said, ap length w.waits, length-append (written_control_of r ++ w.before) (frames.Window id w.add ∷ w.behind), length-append (written_control_of r) w.before)

  codes-rest : (id : ℕ) → is_live r id ≡ false → (rest : List ℕ) → written_codes r id ++ rest ≡ codes_on (resets_of r) id → written_codes r id ≡ codes_on (resets_of r) id
  codes-rest id shut [] e = sym (append-nil (written_codes r id)) ∙ e
  codes-rest id shut (code ∷ behind) e =
      absurd (none (frames.Reset id code)
      (record { next = inr (record { started = started; closed = shut; behind = behind; next = e }); free = none-waits id })
      (omega (arith, frame_len-reset id code, wide)))

  codes-went : (id : ℕ) → written_codes r id ≡ codes_on (resets_of r) id
  codes-went id =
      let front = resets-are-fronts r id each in
      by-test (is_live r id)
      (λ live. front-nil (written_codes r id) (codes_on (resets_of r) id) (codes-live r id live) front ∙ sym (codes-live r id live))
      (λ shut. codes-rest id shut front.0 front.1)

  -- ---- the next of a live stream's text

  -- the size update stands before the first block of all
  abbrev block-of : (headed : Bool) → List ℕ → List ℕ
  block-of headed fields = (if headed then [] else 32 ∷ []) ++ fields

  block-text : (headed : Bool) (fields : List ℕ) → drop (if headed then 0 else 1) (block-of headed fields) ≡ fields
  block-text true fields = refl
  block-text false fields = refl

  block-len : (headed : Bool) (fields : List ℕ) → length (block-of headed fields) ≤ 1 + length fields
  block-len true fields = omega arith
  block-len false fields = omega arith

  headers-fit : (id : ℕ) (ended : Bool) (fields : List ℕ) (behind : List Token) → is_live r id ≡ true → written_text r id ++ Fields ended fields ∷ behind ≡ given_text r id → length fields ≤ LONGEST_BLOCK → ⊥
  headers-fit id ended fields behind live e short =
      let block : List ℕ = block-of (has_headed r) fields in
      none (frames.Headers id ended true block) (record {
        text = record {
          started = started;
          live = live;
          behind = behind;
          next = (λ i. written_text r id ++ (if same-self id i then Fields ended (block-text (has_headed r) fields i) ∷ [] else []) ++ behind)
              ∙ append_assoc (written_text r id) (Fields ended fields ∷ []) behind ∙ e;
        };
        in_one = refl;
        spelling = fields;
        octets = refl;
      }) (omega (arith, frame_len-headers id ended block, block-len (has_headed r) fields, short, wide))

  octet-waits : (id octet : ℕ) (behind : List Token) → is_live r id ≡ true → written_text r id ++ Octet octet ∷ behind ≡ given_text r id → (send_window_of r id ≤ℤ pos 0) ⊎ (connection_window_of r ≤ℤ pos 0)
  octet-waits id octet behind live e = elim (window-cases (send_window_of r id)) [
    | inl used ↦ inl used
    | inr free ↦ elim (window-cases (connection_window_of r)) [
      | inl used ↦ inr used
      | inr wide' ↦ absurd (none (frames.Body id false (octet ∷ []) 1) (record {
        text = record {
          started = started;
          live = live;
          behind = behind;
          next = ap (λ (b : Bool). written_text r id ++ (if b then Octet octet ∷ [] else []) ++ behind) (same-self id) ∙ append_assoc (written_text r id) (Octet octet ∷ []) behind ∙ e;
        };
        goes_on = refl;
        some = omega arith;
        small = omega arith;
        unpadded = refl;
        stream = free;
        connection = wide';
      }) (omega (arith, frame_len-body id (octet ∷ []) 1, wide)))
    ]
  ]

  abort-fits : (id code : ℕ) (behind : List Token) → is_live r id ≡ true → written_text r id ++ Aborted code ∷ behind ≡ given_text r id → ⊥
  abort-fits id code behind live e = none (frames.Reset id code) (record {
    next = inl (record {
      started = started;
      live = live;
      behind = behind;
      next = (λ i. written_text r id ++ (if same-self id i && live i then Aborted code ∷ [] else []) ++ behind) ∙ append_assoc (written_text r id) (Aborted code ∷ []) behind ∙ e;
    });
    free = none-waits id;
  }) (omega (arith, frame_len-reset id code, wide))

  live-rest : (id : ℕ) (token : Token) (behind : List Token) → is_live r id ≡ true → written_text r id ++ token ∷ behind ≡ given_text r id → IsShortToken token → IsHeldUp r id (given_text r id)
  live-rest id (Fields ended fields) behind live e short = absurd (headers-fit id ended fields behind live e short)
  live-rest id (Octet octet) behind live e short = record { octet = octet; behind = behind; next = e; window = octet-waits id octet behind live e }
  live-rest id (Aborted code) behind live e short = absurd (abort-fits id code behind live e)

  -- ---- the text of another

  shut-rest : (id : ℕ) (token : Token) (behind : List Token) → is_live r id ≡ false → written_text r id ++ token ∷ behind ≡ given_text r id → is_given_up r id ≡ false → ⊥
  shut-rest id token behind shut e kept =
      let begun : (any_in (opens id) r && not (0 == id)) ≡ true =
      by-test (any_in (opens id) r && not (0 == id)) (λ some. some)
      (λ unopened. absurd (omega (arith, ap length (e ∙ unopened-nothing r id opened unopened), length-append (written_text r id) (token ∷ behind)))) in
      let done = shut-done r id shut begun (or-first (is_reset (resets_of r) id) (any_in (cancels id) r) kept) (or-second (is_reset (resets_of r) id) (any_in (cancels id) r) kept) in
      let ended : is_ended (written_text r id) ≡ true = finished-text r id (and-last (any_in (ends id) r) (any_out (finishes id) r) done) in
      let rest : token ∷ behind ≡ [] = ends-once r id opened (written_text r id) (token ∷ behind) e ended in
      cc

  rest-settled : (id : ℕ) (rest : List Token) → written_text r id ++ rest ≡ given_text r id → IsSettled r id (given_text r id)
  rest-settled id [] e = inl (sym (append-nil (written_text r id)) ∙ e)
  rest-settled id (token ∷ behind) e = by-test (is_live r id)
      (λ live. inr (inr (live-rest id token behind live e (short-behind (written_text r id) (token ∷ behind) (subst (λ (text : List Token). AllByRecursion IsShortToken text) (sym e) (given-short r id opened))).0)))
      (λ shut. by-test (is_given_up r id) (λ up. inr (inl up)) (λ kept. absurd (shut-rest id token behind shut e kept)))

  texts-settled : (id : ℕ) → IsSettled r id (given_text r id)
  texts-settled id = let front = texts-are-fronts r id each in rest-settled id front.0 front.1

pub rest-is-quiet : RestIsQuiet
rest-is-quiet r text_of room sound frames_are each opened given wide none = record {
  control = said r room sound frames_are each opened wide none;
  resets = codes-went r room sound frames_are each opened wide none;
  texts = λ id. subst (IsSettled r id) (given id) (texts-settled r room sound frames_are each opened wide none id);
}
