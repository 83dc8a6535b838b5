-- The state of an id, and what it says.
use Rattle.std.proofs.Common.{◌≡◌, ℕ, ◌%◌, ◌<◌, nat_eq, nat_lt, ◌==◌, Bool, true, false, ◌||◌, Option, None, Some, is_some, refl, sym, ◌∙◌, true≢false, List, if◌then◌else◌}
use Rattle.std.specs.List.{list_any}
use Rattle.h2_streams.specs.declared.stream.Stream.{Stream}
use Rattle.h2_streams.specs.declared.stream.StreamState.{StreamState}
use Rattle.h2_streams.specs.declared.stream.StreamState.TheVariants as is
use Rattle.h2_streams.specs.Book.{Book, find, is_idle, state_in, begun_state}
use Rattle.h2_answers.specs.Waiting.{Waiting}
use Rattle.h2_record.specs.Record.{Record, any_in}
use Rattle.h2_record.specs.Live.{ends, entry_of, is_idle_above, remembered_in}
use Rattle.h2_record.specs.Ids.{last_of}
use Rattle.h2_record.specs.Resets.{resets_of, is_live, state_of}
use Rattle.h2_conn.specs.Stands.{StreamsStand}
use Rattle.h2_record.proofs.BoolLemmas.{by-test, lt-true}

-- the streams tell the record's state
pub state-settled : (streams : Book) (answers : List (ℕ × Waiting)) (r : Record) (id : ℕ) → StreamsStand streams answers r → state_in streams id ≡ state_of r id
state-settled streams answers r id s = λ i. if (id % 2 == 0) || nat_lt (s.last i) id then is.Idle else begun_state (s.found id i) (list_any (nat_eq id) (s.remembered i))

abbrev state_by : (idle live : Bool) (entry : Stream) (remembered : Bool) → StreamState
state_by idle live entry remembered = if idle then is.Idle else begun_state (if live then Some entry else None) remembered

live-by : (idle live : Bool) (entry : Stream) (remembered : Bool) → state_by idle live entry remembered ≡ is.Live → (live ≡ true) × (entry.ended ≡ false) × (idle ≡ false)
live-by true live entry remembered e = absurd (cc)
live-by false false entry remembered e = absurd (cc)
live-by false true entry remembered e = by-test entry.ended
    (λ ended. let other : is.Ended ≡ is.Live = sym (λ i. if ended i then is.Ended else is.Live) ∙ e in absurd (cc))
    (λ going. (refl, going, refl))

ended-by : (idle live : Bool) (entry : Stream) (remembered : Bool) → state_by idle live entry remembered ≡ is.Ended → (live ≡ true) × (entry.ended ≡ true) × (idle ≡ false)
ended-by true live entry remembered e = absurd (cc)
ended-by false false entry remembered e = absurd (cc)
ended-by false true entry remembered e = by-test entry.ended
    (λ ended. (refl, ended, refl))
    (λ going. let other : is.Live ≡ is.Ended = sym (λ i. if going i then is.Ended else is.Live) ∙ e in absurd (cc))

closed-by : (idle live : Bool) (entry : Stream) (remembered was : Bool) → state_by idle live entry remembered ≡ is.Closed was → (live ≡ false) × (idle ≡ false) × (remembered ≡ was)
closed-by true live entry remembered was e = absurd (cc)
closed-by false false entry remembered was e = (refl, refl, cc)
closed-by false true entry remembered was e = by-test entry.ended
    (λ ended. let other : is.Ended ≡ is.Closed was = sym (λ i. if ended i then is.Ended else is.Live) ∙ e in absurd (cc))
    (λ going. let other : is.Live ≡ is.Closed was = sym (λ i. if going i then is.Ended else is.Live) ∙ e in absurd (cc))

idle-by : (idle live : Bool) (entry : Stream) (remembered : Bool) → state_by idle live entry remembered ≡ is.Idle → idle ≡ true
idle-by true live entry remembered e = refl
idle-by false false entry remembered e = absurd (cc)
idle-by false true entry remembered e = by-test entry.ended
    (λ ended. let other : is.Ended ≡ is.Idle = sym (λ i. if ended i then is.Ended else is.Live) ∙ e in absurd (cc))
    (λ going. let other : is.Live ≡ is.Idle = sym (λ i. if going i then is.Ended else is.Live) ∙ e in absurd (cc))

module _ (r : Record) (id : ℕ) where
  idle : Bool
  idle = is_idle_above (last_of r) id

  remembered : Bool
  remembered = list_any (nat_eq id) (remembered_in (resets_of r))

  pub state-live : state_of r id ≡ is.Live → (is_live r id ≡ true) × (any_in (ends id) r ≡ false) × (is_idle_above (last_of r) id ≡ false)
  unfolding idle remembered
  state-live e = live-by idle (is_live r id) (entry_of r id) remembered e

  pub state-ended : state_of r id ≡ is.Ended → (is_live r id ≡ true) × (any_in (ends id) r ≡ true) × (is_idle_above (last_of r) id ≡ false)
  unfolding idle remembered
  state-ended e = ended-by idle (is_live r id) (entry_of r id) remembered e

  pub state-closed : (was : Bool) → state_of r id ≡ is.Closed was → (is_live r id ≡ false) × (is_idle_above (last_of r) id ≡ false) × (list_any (nat_eq id) (remembered_in (resets_of r)) ≡ was)
  unfolding idle remembered
  state-closed was e = closed-by idle (is_live r id) (entry_of r id) remembered was e

  pub state-idle : state_of r id ≡ is.Idle → is_idle_above (last_of r) id ≡ true
  unfolding idle remembered
  state-idle e = idle-by idle (is_live r id) (entry_of r id) remembered e

-- the same of the streams alone
found-live : (idle : Bool) (o : Option Stream) (remembered : Bool) → (if idle then is.Idle else begun_state o remembered) ≡ is.Live → (is_some o ≡ true) × (idle ≡ false)
found-live true o remembered e = absurd (cc)
found-live false None remembered e = absurd (cc)
found-live false (Some stream) remembered e = (refl, refl)

pub in-live : (streams : Book) (id : ℕ) → state_in streams id ≡ is.Live → (is_some (find streams id) ≡ true) × (is_idle streams id ≡ false)
in-live streams id e = found-live (is_idle streams id) (find streams id) (list_any (nat_eq id) streams.resets) e

found-idle : (idle : Bool) (o : Option Stream) (remembered : Bool) → (if idle then is.Idle else begun_state o remembered) ≡ is.Idle → idle ≡ true
found-idle true o remembered e = refl
found-idle false None remembered e = absurd (cc)
found-idle false (Some stream) remembered e = by-test stream.ended
    (λ ended. let other : is.Ended ≡ is.Idle = sym (λ i. if ended i then is.Ended else is.Live) ∙ e in absurd (cc))
    (λ going. let other : is.Live ≡ is.Idle = sym (λ i. if going i then is.Ended else is.Live) ∙ e in absurd (cc))

found-ended : (idle : Bool) (o : Option Stream) (remembered : Bool) → (if idle then is.Idle else begun_state o remembered) ≡ is.Ended → is_some o ≡ true
found-ended true o remembered e = absurd (cc)
found-ended false None remembered e = absurd (cc)
found-ended false (Some stream) remembered e = refl

pub in-idle : (streams : Book) (id : ℕ) → state_in streams id ≡ is.Idle → is_idle streams id ≡ true
in-idle streams id e = found-idle (is_idle streams id) (find streams id) (list_any (nat_eq id) streams.resets) e

pub in-ended : (streams : Book) (id : ℕ) → state_in streams id ≡ is.Ended → is_some (find streams id) ≡ true
in-ended streams id e = found-ended (is_idle streams id) (find streams id) (list_any (nat_eq id) streams.resets) e

-- a new odd id is above the last
pub risen-of : (r : Record) (id : ℕ) → state_of r id ≡ is.Idle → (id % 2 == 0) ≡ false → last_of r < id
risen-of r id state odd = lt-true (last_of r) id (or-left (id % 2 == 0) (nat_lt (last_of r) id) odd (state-idle r id state))
  where
    or-left : (a b : Bool) → a ≡ false → (a || b) ≡ true → b ≡ true
    or-left true b e h = absurd (true≢false e)
    or-left false b e h = h
