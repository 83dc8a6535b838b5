-- Where no frame that is due fits and no part may be given, what was decided is at rest.
use Rattle.std.proofs.Common.{◌≡◌, ◌⊎◌, inl, inr, ℕ, ◌-◌, ◌<◌, ◌≤◌, nat_lt, ◌==◌, Bool, true, false, not, ◌&&◌, ◌||◌, List, [], ◌∷◌, ◌++◌, length, pos, ◌-ℤ◌, ◌≤ℤ◌, refl, sym, ap, subst, ◌∙◌, append_assoc, append-nil, length-append, true≢false, arith, if◌then◌else◌}
use Rattle.std.specs.Prelude.{ℤ, int_lt}
use Rattle.std.specs.Int.{int_min}
use Rattle.std.specs.List.{concat}
use Rattle.std.proofs.lemmas.Int.{ints}
use Rattle.h2_answers.specs.Replies.{drop_bytes}
use Rattle.h2_record.specs.Record.{Record, In, Out, Given, Whole, Broken, any_in, any_out}
use Rattle.h2_record.specs.Windows.{data_out, send_window_of, connection_window_of}
use Rattle.h2_record.specs.Live.{Reset, opens, cancels, ends, finishes, is_reset, is_live_with}
use Rattle.h2_record.specs.Resets.{is_live, resets_of}
use Rattle.h2_record.specs.Replies.{replies_of, unwritten_of, waiting_of}
use Rattle.h2_record.specs.Room.{room_in}
use Rattle.h2_record.specs.Texts.{Token, Octet, given_text, written_text, codes_on}
use Rattle.h2_record.specs.Written.{is_ended}
use Rattle.h2_record.proofs.BoolLemmas.{or-first, or-second, lt-true, by-test}
use Rattle.h2_record.proofs.GivenText.{octets, octets-written, octets-given}
use Rattle.conn_record.specs.Marks.{unmarked, EachIsFrame}
use Rattle.conn_record.specs.Giving.{EachWasGiven}
use Rattle.conn_record.specs.Quiet.{is_given_up, IsHeldUp, IsSettled, IsQuiet}
use Rattle.conn_record.proofs.Giving.{ends-once, unopened-nothing, finished-text}
use Rattle.conn_record.proofs.Quiet.{rest-is-quiet}
use Rattle.conn_deferral.specs.Deferred.{Defers, Dealing, IsClosed}
use Rattle.conn_deferral.specs.Resting.{IsHeldBack, DealsAll, RestsWhereBlocked}
use Rattle.conn_deferral.proofs.Frames.{unmarked-same}
use Rattle.conn_deferral.proofs.Dues.{sound-both, came-both, live-both, send-both, connection-both, resets-both, control-both, codes-both, settled-both, written-both}

-- ---- a stream that lives no more

shut-done : (r : Record) (id : ℕ) → is_live r id ≡ false → (any_in (opens id) r && not (0 == id)) ≡ true → is_reset (resets_of r) id ≡ false → any_in (cancels id) r ≡ false
    → (any_in (ends id) r && any_out (finishes id) r) ≡ true
unfolding is_live_with
shut-done r id shut opened unreset going =
    by-test (any_in (ends id) r && any_out (finishes id) r) (λ done. done)
    (λ more.
    let lives : is_live r id ≡ true = λ i. opened i && not (unreset i) && not (going i) && not (more i) in
    absurd (true≢false (sym lives ∙ shut)))

and-last : (a b : Bool) → (a && b) ≡ true → b ≡ true
and-last true b e = e
and-last false b e = absurd (true≢false (sym e))

-- if its text isn't written, it was reset
shut-rest : (r : Record) (id : ℕ) (token : Token) (behind : List Token) → EachWasGiven r → is_live r id ≡ false → written_text r id ++ token ∷ behind ≡ given_text r id → is_given_up r id ≡ false → ⊥
shut-rest r id token behind opened shut e kept =
    let begun : (any_in (opens id) r && not (0 == id)) ≡ true =
    by-test (any_in (opens id) r && not (0 == id)) (λ some. some)
    (λ unopened. absurd (omega (arith, ap length (e ∙ unopened-nothing r id opened unopened), length-append (written_text r id) (token ∷ behind)))) in
    let done = shut-done r id shut begun (or-first (is_reset (resets_of r) id) (any_in (cancels id) r) kept) (or-second (is_reset (resets_of r) id) (any_in (cancels id) r) kept) in
    let ended : is_ended (written_text r id) ≡ true = finished-text r id (and-last (any_in (ends id) r) (any_out (finishes id) r) done) in
    let rest : token ∷ behind ≡ [] = ends-once r id opened (written_text r id) (token ∷ behind) e ended in
    cc

-- ---- what was given is written

dropped-past : (n : ℕ) (x : List ℕ) (xs : List (List ℕ)) (b : Bool) → nat_lt n (length x) ≡ b → length (concat (x ∷ xs)) ≤ n → (drop_bytes (n - length x) xs ≡ []) → drop_bytes n (x ∷ xs) ≡ []
dropped-past n x xs true less all rest = absurd (let h : n < length x = lt-true n (length x) less in omega (arith, h, all, length-append x (concat xs)))
dropped-past n x xs false less all rest = rw less rest

dropped : (n : ℕ) (xs : List (List ℕ)) → length (concat xs) ≤ n → drop_bytes n xs ≡ []
dropped n [] all = refl
dropped n (x ∷ xs) all = dropped-past n x xs (nat_lt n (length x)) refl all (dropped (n - length x) xs (omega (arith, all, length-append x (concat xs))))

waits-by : (live : Bool) (unwritten : List (List ℕ)) → unwritten ≡ [] → (if live then unwritten else []) ≡ []
waits-by true unwritten none = none
waits-by false unwritten none = refl

none-waits : (r : Record) (id : ℕ) → written_text r id ≡ given_text r id → unwritten_of r id ≡ []
none-waits r id all =
    let sums : length (concat (replies_of r id)) ≤ data_out r id = omega (arith, octets-given r id, octets-written r id, ap octets all) in
    waits-by (is_live r id) (drop_bytes (data_out r id) (replies_of r id)) (dropped (data_out r id) (replies_of r id) sums)

least-by : (less : Bool) (a b : ℤ) → (if less then b else a) ≤ℤ pos 0 → (a ≤ℤ pos 0) ⊎ (b ≤ℤ pos 0)
least-by true a b used = inr used
least-by false a b used = inl used

least-used : (a b : ℤ) → int_min a b ≤ℤ pos 0 → (a ≤ℤ pos 0) ⊎ (b ≤ℤ pos 0)
least-used a b used = least-by (int_lt b a) a b used

room-used : (r : Record) (id : ℕ) → written_text r id ≡ given_text r id → room_in r id ≤ℤ pos 0 → (send_window_of r id ≤ℤ pos 0) ⊎ (connection_window_of r ≤ℤ pos 0)
room-used r id all used =
    let least : (int_min (send_window_of r id) (connection_window_of r) -ℤ pos 0) ≤ℤ pos 0 =
    subst (λ (n : List (List ℕ)). (int_min (send_window_of r id) (connection_window_of r) -ℤ pos (length (concat n))) ≤ℤ pos 0) (none-waits r id all) used in
    least-used (send_window_of r id) (connection_window_of r) (omega (arith, ints, least))

-- ---- frames

each-unmarked : (r : Record) → EachIsFrame r → EachIsFrame (unmarked r)
each-unmarked [] e = e
each-unmarked (In frame ∷ r) e = (e.0, each-unmarked r e.1)
each-unmarked (Out frame ∷ r) e = each-unmarked r e
each-unmarked (Given stream part ∷ r) e = each-unmarked r e
each-unmarked (Whole ∷ r) e = each-unmarked r e
each-unmarked (Broken fault ∷ r) e = each-unmarked r e

each-marked : (r : Record) → EachIsFrame (unmarked r) → EachIsFrame r
each-marked [] e = e
each-marked (In frame ∷ r) e = (e.0, each-marked r e.1)
each-marked (Out frame ∷ r) e = each-marked r e
each-marked (Given stream part ∷ r) e = each-marked r e
each-marked (Whole ∷ r) e = each-marked r e
each-marked (Broken fault ∷ r) e = each-marked r e

-- ---- streams

module _ (given decided : Record) (left : ℕ → List Token) (d : Defers given decided left) (opened : EachWasGiven decided) (id : ℕ) where
  up-over : is_given_up given id ≡ is_given_up decided id
  up-over = λ i. is_reset (resets-both given decided d.same i) id || came-both given decided d.same (cancels id) i

  window-over : (send_window_of given id ≤ℤ pos 0) ⊎ (connection_window_of given ≤ℤ pos 0) → (send_window_of decided id ≤ℤ pos 0) ⊎ (connection_window_of decided ≤ℤ pos 0)
  window-over (inl used) = inl (subst (λ (w : ℤ). w ≤ℤ pos 0) (send-both given decided d.same id) used)
  window-over (inr used) = inr (subst (λ (w : ℤ). w ≤ℤ pos 0) (connection-both given decided d.same) used)

  held-over : IsHeldUp given id (given_text given id) → IsHeldUp decided id (given_text decided id)
  held-over held = record {
    octet = held.octet;
    behind = held.behind ++ left id;
    next = ap (λ (went : List Token). went ++ Octet held.octet ∷ (held.behind ++ left id)) (sym (written-both given decided d.same id))
        ∙ sym (append_assoc (written_text given id) (Octet held.octet ∷ held.behind) (left id)) ∙ ap (λ (text : List Token). text ++ left id) held.next ∙ d.text id;
    window = window-over held.window;
  }

  -- what was given is written: what was decided is, but for what is left
  rest-over : written_text given id ≡ given_text given id → written_text decided id ++ left id ≡ given_text decided id
  rest-over all = ap (λ (went : List Token). went ++ left id) (sym (written-both given decided d.same id) ∙ all) ∙ d.text id

  left-by : (rest : List Token) → left id ≡ rest → written_text given id ≡ given_text given id
      → (left id ≡ []) ⊎ ((is_live given id ≡ false) ⊎ ((room_in given id ≤ℤ pos 0) ⊎ (0 < waiting_of given id)))
      → IsSettled decided id (given_text decided id) ⊎ IsHeldBack decided id (left id) (given_text decided id)
  left-by [] is all blocked = inl (inl (sym (append-nil (written_text decided id)) ∙ ap (λ (l : List Token). written_text decided id ++ l) (sym is) ∙ rest-over all))
  left-by (token ∷ behind) is all (inl none) = absurd (let e : token ∷ behind ≡ [] = sym is ∙ none in cc)
  left-by (token ∷ behind) is all (inr (inl shut)) = by-test (is_given_up decided id)
      (λ up. inl (inr (inl up)))
      (λ kept. absurd (shut-rest decided id token behind opened (sym (live-both given decided d.same id) ∙ shut)
      (ap (λ (l : List Token). written_text decided id ++ l) (sym is) ∙ rest-over all) kept))
  left-by (token ∷ behind) is all (inr (inr (inl used))) =
      inr (record { token = token; behind = behind; some = is; rest = rest-over all; window = window-over (room-used given id all used) })
  left-by (token ∷ behind) is all (inr (inr (inr some))) = absurd (omega (arith, some, ap length (none-waits given id all)))

  settled-by : IsSettled given id (given_text given id)
      → (left id ≡ []) ⊎ ((is_live given id ≡ false) ⊎ ((room_in given id ≤ℤ pos 0) ⊎ (0 < waiting_of given id)))
      → IsSettled decided id (given_text decided id) ⊎ IsHeldBack decided id (left id) (given_text decided id)
  settled-by (inl all) blocked = left-by (left id) refl all blocked
  settled-by (inr (inl up)) blocked = inl (inr (inl (sym up-over ∙ up)))
  settled-by (inr (inr held)) blocked = inl (inr (inr (held-over held)))

  -- a closed stream is settled, whatever was left on it
  shut-by : (rest : List Token) → left id ≡ rest → written_text given id ≡ given_text given id → is_live given id ≡ false → IsSettled decided id (given_text decided id)
  shut-by [] is all shut = inl (sym (append-nil (written_text decided id)) ∙ ap (λ (l : List Token). written_text decided id ++ l) (sym is) ∙ rest-over all)
  shut-by (token ∷ behind) is all shut = by-test (is_given_up decided id)
      (λ up. inr (inl up))
      (λ kept. absurd (shut-rest decided id token behind opened (sym (live-both given decided d.same id) ∙ shut)
      (ap (λ (l : List Token). written_text decided id ++ l) (sym is) ∙ rest-over all) kept))

  settled-shut : IsSettled given id (given_text given id) → is_live given id ≡ false → IsSettled decided id (given_text decided id)
  settled-shut (inl all) shut = shut-by (left id) refl all shut
  settled-shut (inr (inl up)) shut = inr (inl (sym up-over ∙ up))
  settled-shut (inr (inr held)) shut = inr (inr (held-over held))

-- the frames of both are the same
pub frames-over : (r other : Record) → unmarked r ≡ unmarked other → EachIsFrame r → EachIsFrame other
frames-over r other same each = each-marked other (subst EachIsFrame same (each-unmarked r each))

module _ (dealing : Dealing) (decided : Record) (room : ℕ) (all : DealsAll dealing room decided) (opened : EachWasGiven decided) (id : ℕ) where
  settled-all : IsSettled all.deals.given id (given_text all.deals.given id) → (dealing.left id ≡ all.deals.left id) ⊎ IsClosed all.deals.given id
      → IsSettled decided id (given_text decided id) ⊎ IsHeldBack decided id (dealing.left id) (given_text decided id)
  settled-all settled (inl has) =
      let B : List Token → Type 0 = λ l. (l ≡ []) ⊎ ((is_live all.deals.given id ≡ false) ⊎ ((room_in all.deals.given id ≤ℤ pos 0) ⊎ (0 < waiting_of all.deals.given id))) in
      let H : List Token → Type 0 = λ l. IsSettled decided id (given_text decided id) ⊎ IsHeldBack decided id l (given_text decided id) in
      subst H (sym has) (settled-by all.deals.given decided all.deals.left all.deals.defers opened id settled (subst B has (all.blocked id)))
  settled-all settled (inr closed) = inl (settled-shut all.deals.given decided all.deals.left all.deals.defers opened id settled closed.1)

pub rests-where-blocked : RestsWhereBlocked
rests-where-blocked dealing decided room all sound frames_are opened wide =
    let given = all.deals.given in
    let d = all.deals.defers in
    let frames_same : unmarked decided ≡ unmarked given = sym (unmarked-same decided) ∙ ap unmarked (sym d.same) ∙ unmarked-same given in
    let quiet : IsQuiet given (given_text given) =
    rest-is-quiet given (given_text given) room (sound-both given decided d.same ∙ sound) (frames-over decided given frames_same frames_are) all.deals.was_due all.deals.was_open
    (λ id. refl) wide all.none in
    record {
      control = sym (control-both given decided d.same) ∙ quiet.control ∙ settled-both given decided d.same;
      resets = λ id. sym (codes-both given decided d.same id) ∙ quiet.resets id ∙ ap (λ (rs : List Reset). codes_on rs id) (resets-both given decided d.same);
      texts = λ id. settled-all dealing decided room all opened id (quiet.texts id) (all.deals.has id);
    }
