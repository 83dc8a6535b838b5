-- A body is polled: the next of what is left is given, or all of it is let go where its stream lives no more.
use Rattle.std.proofs.Common.{◌≡◌, ◌≢◌, ◌⊎◌, inl, inr, ℕ, ◌+◌, ◌<◌, ◌≤◌, ◌==◌, Bool, true, false, List, [], ◌∷◌, ◌++◌, map, length, Option, None, Some, Result, Ok, Err, suc, ℤ, pos, ◌≤ℤ◌, refl, sym, ap, subst, ◌∙◌, append-nil, true≢false, length-append, arith, if◌then◌else◌}
use mir.Syntax.{w64}
use mir.Val.{to_z, of_z}
use lib.Signed.{le_z_yes}
use Rattle.std.proofs.Math.Dec.{T}
use Rattle.std.specs.Int.Signed.{le_z}
use Rattle.std.specs.Prelude.{nat_eq, is_some, OnOk, slice_get}
use Rattle.std.specs.List.{flat_map}
use Rattle.std.proofs.lemmas.List.Concat.{flat_map-cons}
use Rattle.std.proofs.lemmas.Bool.{eqb-true, eqb-false, eq-eqb, ne_eqb}
use Rattle.grpc_meta.specs.declared.answers.Status.{Status}
use Rattle.grpc_meta.specs.Answer.{trailers}
use Rattle.outside.specs.declared.wants.Memory.{Memory}
use Rattle.h2_streams.specs.declared.stream.Stream.{Stream}
use Rattle.h2_streams.specs.Book.{find}
use Rattle.h2_record.specs.Record.{AnswerPart, Tail, Record, Given}
use Rattle.h2_record.specs.Live.{entry_of}
use Rattle.h2_record.specs.Resets.{is_live}
use Rattle.h2_record.specs.Faults.{first_fault_of}
use Rattle.h2_record.specs.Replies.{waiting_of}
use Rattle.h2_record.specs.Room.{room_in}
use Rattle.h2_record.specs.Texts.{Token, Fields, Octet, part_text}
use Rattle.h2_record.specs.Written.{EachWasDue}
use Rattle.h2_conn.specs.Held.{Held}
use Rattle.h2_conn.specs.Stands.{Stands}
use Rattle.conn_record.specs.Giving.{EachWasGiven}
use Rattle.conn_deferral.specs.Deferred.{Dealing, IsClosed, Deals}
use Rattle.conn_deferral.specs.Laws.{GivesPart, LeavesLess, LetsGo}
use Rattle.conn_deferral.proofs.Dealing.{deals-part, deals-less}
use Rattle.rows_body.specs.Rows.{Item, Rows}
use Rattle.rows_body.specs.declared.body.RowsEnd.{RowsEnd}
use Rattle.call_read.specs.Items.{end_status, messages_of, status_of}
use Rattle.conn_requests.specs.Given.{reply_of}
use Rattle.conn_requests.specs.Decided.{Played}
use Rattle.conn_service.specs.Quiet.{reads_on}
use Rattle.conn_service.specs.Going.{EndsInTrailers, IsLeftOf}
use Rattle.conn_calls.specs.Giving.{IsSound, Gives}
use Rattle.conn_calls.specs.Dealing.{parts_left, text_left, KeptBodies, body_in, Dealt, dealing_of, Polls, NoneReady}
use Rattle.conn_calls.specs.Polling.{IsWithout}
use Rattle.conn_calls.specs.Ready.{IsHeld}
use Rattle.conn_calls.proofs.GivingLemmas.{open-stands}
use Rattle.conn_calls.proofs.DealingLemmas.{ends-in-trailers}

-- ---- what is left of a body

-- there is always something
some-left : (body : Rows) → text_left (Some body) ≡ [] → ⊥
some-left body none =
    let ends = ends-in-trailers body.left in
    omega (arith, ap length (sym ends.is ∙ none), length-append (map Octet ends.bytes) (Fields true ends.block ∷ []))

pub message-left : (body after : Rows) (message : List ℕ) → body.left ≡ Ok message ∷ after.left → text_left (Some body) ≡ part_text (reply_of message) ++ text_left (Some after)
unfolding messages_of status_of
message-left body after message is =
    ap (λ (items : List Item). flat_map part_text (parts_left items)) is ∙ flat_map-cons part_text (reply_of message) (parts_left after.left)

pub end-left : (body : Rows) → body.left ≡ [] → text_left (Some body) ≡ part_text (Tail (trailers (record { code = 0; text = [] }))) ++ []
unfolding messages_of status_of
end-left body is = ap (λ (items : List Item). flat_map part_text (parts_left items)) is

pub error-left : (body : Rows) (end : RowsEnd) → body.left ≡ Err end ∷ [] → text_left (Some body) ≡ part_text (Tail (trailers (end_status end))) ++ []
unfolding messages_of status_of
error-left body end is = ap (λ (items : List Item). flat_map part_text (parts_left items)) is

-- ---- the map of bodies

others-kept : (old new : KeptBodies) (id other : ℕ) (mine : Option Rows) → ((o : ℕ) → body_in new o ≡ (if nat_eq id o then mine else body_in old o)) → (other == id) ≡ false → body_in new other ≡ body_in old other
others-kept old new id other mine puts apart =
    puts other ∙ ap (λ (b : Bool). if b then mine else body_in old other) (ne_eqb id other (λ same. eqb-false other id apart (sym same)))

pub mine-kept : (old new : KeptBodies) (id : ℕ) (mine : Option Rows) → ((o : ℕ) → body_in new o ≡ (if nat_eq id o then mine else body_in old o)) → body_in new id ≡ mine
mine-kept old new id mine puts = puts id ∙ ap (λ (b : Bool). if b then mine else body_in old id) (eq-eqb id id refl)

-- taken out, and another put back
pub put-back : (old mid new : KeptBodies) (id : ℕ) (mine : Option Rows) → ((o : ℕ) → body_in mid o ≡ (if nat_eq id o then None else body_in old o)) → ((o : ℕ) → body_in new o ≡ (if nat_eq id o then mine else body_in mid o))
    → (o : ℕ) → body_in new o ≡ (if nat_eq id o then mine else body_in old o)
put-back old mid new id mine taken puts o = by (nat_eq id o) (taken o) (puts o)
  where
    by : (b : Bool) → body_in mid o ≡ (if b then None else body_in old o) → body_in new o ≡ (if b then mine else body_in mid o) → body_in new o ≡ (if b then mine else body_in old o)
    by true first second = second
    by false first second = second ∙ first

if-none : (b : Bool) (found : Option Stream) (entry : Stream) → found ≡ (if b then Some entry else None) → is_some found ≡ false → b ≡ false
if-none true found entry is gone = absurd (true≢false (sym (ap is_some is) ∙ gone))
if-none false found entry is gone = refl

pub not-live : (conn : Held) (id : ℕ) → is_some (find conn.streams id) ≡ false → (r : Record) → Stands conn r → first_fault_of r ≡ None → is_live r id ≡ false
not-live conn id dead r stands sound = if-none (is_live r id) (find conn.streams id) (entry_of r id) ((open-stands conn r stands sound).streams.found id) dead

module _ (old new : Dealt) (id : ℕ) (body : Rows) (mine : Option Rows) (was : body_in old.bodies id ≡ Some body) (puts : (o : ℕ) → body_in new.bodies o ≡ (if nat_eq id o then mine else body_in old.bodies o)) where
  kept-by : (other : ℕ) (b : Bool) → (other == id) ≡ b → is_some (body_in new.bodies other) ≡ true → is_some (body_in old.bodies other) ≡ true
  kept-by other true here some = ap (λ n. is_some (body_in old.bodies n)) (eqb-true other id here) ∙ ap is_some was
  kept-by other false apart some = ap is_some (sym (others-kept old.bodies new.bodies id other mine puts apart)) ∙ some

  others-left : (other : ℕ) → (other == id) ≡ false → text_left (body_in new.bodies other) ≡ text_left (body_in old.bodies other)
  others-left other apart = ap text_left (others-kept old.bodies new.bodies id other mine puts apart)

  -- the next part was given
  part-of : (part : AnswerPart) → Gives old.conn new.conn id (part ∷ []) → GivesPart old.conn new.conn id part
  part-of part gives r stands sound opened due =
      let after = gives r (record { stands = stands; sound = sound; was_open = opened; was_due = due }) in
      (after.stands, after.was_open.0)

  less-by : (part : AnswerPart) → text_left (Some body) ≡ part_text part ++ text_left mine → LeavesLess (dealing_of old) (dealing_of new) id part
  less-by part next = record {
    next = ap text_left was ∙ next ∙ ap (λ l. part_text part ++ text_left l) (sym (mine-kept old.bodies new.bodies id mine puts));
    some = λ none. some-left body (ap text_left (sym was) ∙ none);
    others = others-left;
  }

  pub polled-part : (part : AnswerPart) → Gives old.conn new.conn id (part ∷ []) → text_left (Some body) ≡ part_text part ++ text_left mine → Polls old new
  polled-part part gives next = record {
    deals = λ r sound opened d. deals-part (dealing_of old) (dealing_of new) id part r (part-of part gives) (less-by part next) sound d;
    kept = λ other. kept-by other (other == id) refl;
  }

  -- nothing was given
  same-left : mine ≡ Some body ⊎ ((after : Rows) × (mine ≡ Some after) × (after.left ≡ body.left)) → (other : ℕ) (b : Bool) → (other == id) ≡ b → text_left (body_in new.bodies other) ≡ text_left (body_in old.bodies other)
  same-left same other false apart = others-left other apart
  same-left same other true here =
      let is : other ≡ id = eqb-true other id here in
      ap (λ n. text_left (body_in new.bodies n)) is ∙ ap text_left (mine-kept old.bodies new.bodies id mine puts) ∙ by same ∙ ap text_left (sym was) ∙ ap (λ n. text_left (body_in old.bodies n)) (sym is)
    where
      by : mine ≡ Some body ⊎ ((after : Rows) × (mine ≡ Some after) × (after.left ≡ body.left)) → text_left mine ≡ text_left (Some body)
      by (inl is) = ap text_left is
      by (inr (after, is, left)) = ap text_left is ∙ ap (λ (items : List Item). flat_map part_text (parts_left items)) left

  pub polled-none : new.conn ≡ old.conn → (after : Rows) → mine ≡ Some after → after.left ≡ body.left → Polls old new
  polled-none conn after is left = record {
    deals = λ r sound opened d. record {
      given = d.given;
      left = d.left;
      stands = subst (λ (c : Held). Stands c d.given) (sym conn) d.stands;
      defers = d.defers;
      has = λ other. has-same d.given d.left other (d.has other);
      was_open = d.was_open;
      was_due = d.was_due;
    };
    kept = λ other. kept-by other (other == id) refl;
  }
    where
      has-same : (given : Record) (kept : ℕ → List Token) (other : ℕ) → (text_left (body_in old.bodies other) ≡ kept other) ⊎ IsClosed given other → (text_left (body_in new.bodies other) ≡ kept other) ⊎ IsClosed given other
      has-same given kept other (inl same) = inl (same-left (inr (after, is, left)) other (other == id) refl ∙ same)
      has-same given kept other (inr closed) = inr closed

  -- the stream lives no more
  let-go : new.conn ≡ old.conn → mine ≡ None → is_some (find old.conn.streams id) ≡ false → Polls old new
  let-go conn none dead = record {
    deals = λ r sound opened d.
        deals-less (dealing_of old) (dealing_of new) id r (record { conn = conn; others = others-left }) (λ empty. some-left body (ap text_left (sym was) ∙ empty)) (not-live old.conn id dead) sound opened d;
    kept = λ other. kept-by other (other == id) refl;
  }

-- a body was taken out
module _ (old mid : Dealt) (id : ℕ) where
  -- there was none
  pub took-none : IsWithout old mid id None → Polls old mid
  took-none without = record {
    deals = λ r sound opened d. record {
      given = d.given;
      left = d.left;
      stands = subst (λ (c : Held). Stands c d.given) (sym without.conn) d.stands;
      defers = d.defers;
      has = λ other. has-same d.given d.left other (d.has other);
      was_open = d.was_open;
      was_due = d.was_due;
    };
    kept = λ other some. ap is_some (sym (same other)) ∙ some;
  }
    where
      same-by : (other : ℕ) (b : Bool) → (other == id) ≡ b → body_in mid.bodies other ≡ body_in old.bodies other
      same-by other true here =
          let is : other ≡ id = eqb-true other id here in
          ap (body_in mid.bodies) is ∙ mine-kept old.bodies mid.bodies id None without.others ∙ sym without.was ∙ ap (body_in old.bodies) (sym is)
      same-by other false apart = others-kept old.bodies mid.bodies id other None without.others apart

      same : (other : ℕ) → body_in mid.bodies other ≡ body_in old.bodies other
      same other = same-by other (other == id) refl

      has-same : (given : Record) (kept : ℕ → List Token) (other : ℕ) → (text_left (body_in old.bodies other) ≡ kept other) ⊎ IsClosed given other → (text_left (body_in mid.bodies other) ≡ kept other) ⊎ IsClosed given other
      has-same given kept other (inl is) = inl (ap text_left (same other) ∙ is)
      has-same given kept other (inr closed) = inr closed

  -- its stream lives no more
  pub took-dead : (body : Rows) → IsWithout old mid id (Some body) → is_some (find mid.conn.streams id) ≡ false → Polls old mid
  took-dead body without dead = let-go old mid id body None without.was without.others without.conn refl (ap (λ (c : Held). is_some (find c.streams id)) (sym without.conn) ∙ dead)

  module _ (body roomy after : Rows) (without : IsWithout old mid id (Some body)) (room : roomy.left ≡ body.left) where
    -- there was no room
    pub still-pending : {U : Type 0} (result : Result U Memory) (new : Dealt) → after ≡ roomy → new.conn ≡ mid.conn → OnOk result ((other : ℕ) → body_in new.bodies other ≡ (if nat_eq id other then Some after else body_in mid.bodies other)) → OnOk result (Polls old new)
    still-pending (Err memory) new same conn puts = puts
    still-pending (Ok done) new same conn puts =
        polled-none old new id body (Some after) without.was (put-back old.bodies mid.bodies new.bodies id (Some after) without.others puts) (conn ∙ without.conn) after refl (ap (λ (rows : Rows). rows.left) same ∙ room)

    gives-of : (new : Held) (part : AnswerPart) → Gives mid.conn new id (part ∷ []) → Gives old.conn new id (part ∷ [])
    gives-of new part gives = subst (λ (c : Held). Gives c new id (part ∷ [])) without.conn gives

    -- the next message was given
    pub gave-message : {U : Type 0} (result : Result U Memory) (given : Held) (new : Dealt) (message : List ℕ) → roomy.left ≡ Ok message ∷ after.left → Gives mid.conn given id (reply_of message ∷ []) → new.conn ≡ given
        → OnOk result ((other : ℕ) → body_in new.bodies other ≡ (if nat_eq id other then Some after else body_in mid.bodies other)) → OnOk result (Polls old new)
    gave-message (Err memory) given new message is gives conn puts = puts
    gave-message (Ok done) given new message is gives conn puts =
        polled-part old new id body (Some after) without.was (put-back old.bodies mid.bodies new.bodies id (Some after) without.others puts) (reply_of message)
        (gives-of new.conn (reply_of message) (subst (λ (c : Held). Gives mid.conn c id (reply_of message ∷ [])) (sym conn) gives)) (message-left body after message (sym room ∙ is))

    -- the trailers were given
    gave-tail : (given : Held) (status : Status) → text_left (Some body) ≡ part_text (Tail (trailers status)) ++ [] → Gives mid.conn given id (Tail (trailers status) ∷ []) → Polls old (record { conn = given; bodies = mid.bodies })
    gave-tail given status next gives =
        polled-part old (record { conn = given; bodies = mid.bodies }) id body None without.was without.others (Tail (trailers status)) (gives-of given (Tail (trailers status)) gives) next

    pub gave-end : {U : Type 0} (result : Result U Memory) (given : Held) → roomy.left ≡ [] → OnOk result (Gives mid.conn given id (Tail (trailers (record { code = 0; text = [] })) ∷ [])) → OnOk result (Polls old (record { conn = given; bodies = mid.bodies }))
    gave-end (Err memory) given is gives = gives
    gave-end (Ok done) given is gives = gave-tail given (record { code = 0; text = [] }) (end-left body (sym room ∙ is)) gives

    pub gave-error : {U : Type 0} (result : Result U Memory) (given : Held) (end : RowsEnd) → roomy.left ≡ Err end ∷ [] → OnOk result (Gives mid.conn given id (Tail (trailers (end_status end)) ∷ [])) → OnOk result (Polls old (record { conn = given; bodies = mid.bodies }))
    gave-error (Err memory) given end is gives = gives
    gave-error (Ok done) given end is gives = gave-tail given (end_status end) (error-left body end (sym room ∙ is)) gives

-- ---- no body may be polled

held-by : (conn : Held) (found : Option Rows) (id : ℕ) → (is_some found ≡ true → IsHeld conn id) → (r : Record) → Stands conn r → first_fault_of r ≡ None
    → (text_left found ≡ []) ⊎ ((is_live r id ≡ false) ⊎ ((room_in r id ≤ℤ pos 0) ⊎ (0 < waiting_of r id)))
held-by conn None id held r stands sound = inl refl
held-by conn (Some body) id held r stands sound = inr (inr (held refl r stands sound))

pub none-ready : (d : Dealt) → ((id : ℕ) → is_some (body_in d.bodies id) ≡ true → IsHeld d.conn id) → NoneReady d
none-ready d held r stands sound id = held-by d.conn (body_in d.bodies id) id (held id) r stands sound

-- what holds of the stream of an entry
abbrev pub HeldAt : Held → Option (ℕ × Rows) → Type 0
HeldAt conn None = Unit {0}
HeldAt conn (Some entry) = IsHeld conn entry.0

pub all-held : (conn : Held) (bodies : KeptBodies) → ((k : ℕ) → k < length bodies → HeldAt conn (slice_get bodies k)) → (id : ℕ) → is_some (body_in bodies id) ≡ true → IsHeld conn id
all-held conn [] each id some = absurd (true≢false (sym some))
all-held conn (entry ∷ bodies) each id some = by (nat_eq id entry.0) refl some (all-held conn bodies (λ k within. each (suc k) (omega (arith, within))) id)
  where
    by : (b : Bool) → nat_eq id entry.0 ≡ b → is_some (if b then Some entry.1 else body_in bodies id) ≡ true → (is_some (body_in bodies id) ≡ true → IsHeld conn id) → IsHeld conn id
    by true here some rest = subst (IsHeld conn) (sym (eqb-true id entry.0 here)) (each 0 (omega arith))
    by false apart some rest = rest some

-- the test of a room, as the code leaves it
pub no-room : (room limit : ℤ) → to_z w64 (of_z w64 room) ≡ room → room ≡ limit → le_z (to_z w64 (of_z w64 room)) (pos 0) ≡ true → limit ≤ℤ pos 0
no-room room limit fits is test =
    let plain : le_z room (pos 0) ≡ true = rw fits at test in
    subst (λ z. z ≤ℤ pos 0) is (le_z_yes (subst T (sym plain) tt))

-- one more is held
pub held-more : (conn : Held) (bodies : KeptBodies) (at : ℕ) (entry : ℕ × Rows) → Some entry ≡ slice_get bodies at → IsHeld conn entry.0 → ((k : ℕ) → k < at → HeldAt conn (slice_get bodies k))
    → (k : ℕ) → k < at + 1 → HeldAt conn (slice_get bodies k)
held-more conn bodies at entry is held each k within = by (k == at) refl
  where
    by : (b : Bool) → (k == at) ≡ b → HeldAt conn (slice_get bodies k)
    by true here = subst (λ (n : ℕ). HeldAt conn (slice_get bodies n)) (sym (eqb-true k at here)) (subst (HeldAt conn) is held)
    by false apart = let other : k ≢ at = eqb-false k at apart in each k (omega (arith, other, within))

-- ---- what is left keeps its shape

shape-by : (p : Played) (id : ℕ) (old new : Option Rows) → (is_some new ≡ true → is_some old ≡ true) → (text_left old ≡ []) ⊎ ((reads_on id p.used ≡ true) × EndsInTrailers (text_left old))
    → (text_left new ≡ []) ⊎ ((reads_on id p.used ≡ true) × EndsInTrailers (text_left new))
shape-by p id old None kept shape = inl refl
shape-by p id None (Some body) kept shape = absurd (true≢false (sym (kept refl)))
shape-by p id (Some before) (Some body) kept (inl none) = absurd (some-left before none)
shape-by p id (Some before) (Some body) kept (inr (reads, ends)) = inr (reads, ends-in-trailers body.left)

pub shape-kept : (old new : Dealt) → ((id : ℕ) → is_some (body_in new.bodies id) ≡ true → is_some (body_in old.bodies id) ≡ true) → (p : Played) → IsLeftOf p (dealing_of old).left → IsLeftOf p (dealing_of new).left
shape-kept old new kept p shape id = shape-by p id (body_in old.bodies id) (body_in new.bodies id) (kept id) (shape id)
