-- The table behind a turn: its rule, which every step keeps, and what each step tells.
use Rattle.std.specs.Prelude.{◌≡◌, ◌≢◌, ◌⊎◌, ℕ, ℤ, ◌+◌, ◌%◌, ◌^◌, ◌<◌, ◌≤◌, leb, max, ◌==◌, true, false, cond, ◌||◌, List, [], ◌∷◌, ◌++◌, length, count_by, Option, Some, None, unwrap_or}
use mathlib.Core.Option.{none, some}
use mathlib.Core.Option as maybe
use lib.ListN.{get_elem?}
use Rattle.atomic_table.specs.Table.{State, Me, Step, rest}
use Rattle.atomic_table.specs.Seated.{TableId}
use Rattle.atomic_table.specs.declared.shared.Seat.{Seat}
use Rattle.turn_table.specs.declared.seats.Knows.{Knows}
use Rattle.turn_table.specs.declared.seats.Stage.{Stage}
use Rattle.turn_table.specs.declared.seats.Stage.TheVariants.{Idle, Waits, Holds, Joined}
use Rattle.turn_table.specs.Turn.{IsLegal}
use Rattle.turn_table.specs.View.{View}

-- what the machines of a table mean
pub record Meaning (M E F : Type 0) : Type 1 where
  pub history : M → List E
  pub fixed : M → F
  pub caller_of : E → ℕ
  pub legal : F → List E → Type 0

abbrev pub meaning : {M E F C R : Type 0} → (M → List E) → (M → F) → (E → ℕ) → (F → C → Type 0) → (F → List E → ℕ → C → ℤ → R → Option E → Type 0) → Meaning M E F
meaning history fixed caller_of takes allows = record { history = history; fixed = fixed; caller_of = caller_of; legal = λ part. IsLegal (takes part) (allows part) }

-- The history goes on from what was seen, with no entry that carries the number.
pub record Front {E : Type 0} (caller_of : E → ℕ) (number : ℕ) (seen history : List E) : Type 0 where
  pub more : List E
  pub is : history ≡ seen ++ more
  pub others : count_by (λ entry. caller_of entry == number) more ≡ 0

-- The table at a moment: its history, the machine's fixed part, three of its words, the seat that has the turn, the one
-- that is alone, and which seat has a number and a ticket.
pub record Desk (E F : Type 0) : Type 0 where
  pub log : List E
  pub fixed : F
  pub tickets : ℕ
  pub served : ℕ
  pub numbers : ℕ
  pub holder : Option ℕ
  pub loner : Option ℕ
  pub owner : ℕ → ℕ
  pub waiter : ℕ → ℕ

-- A second number was given, is this seat's and differs from the first.
pub record HasSecond {E : Type 0} (caller_of : E → ℕ) (log : List E) (numbers : ℕ) (owner : ℕ → ℕ) (seat first : ℕ) (seen : List E) (number : ℕ) : Type 0 where
  pub given : number < numbers
  pub own : owner number ≡ seat
  pub differs : number ≢ first
  pub front : Front caller_of number seen log

module _ {M E F : Type 0} (k : Meaning M E F) (d : Desk E F) where
  -- Only the seat that has the turn may publish, and what it took had the table's history. A ticket is its seat's alone.
  abbrev pub StageAt : ℕ → Knows E F → Stage E → Type 0
  StageAt seat v Idle = d.holder ≢ Some seat
  StageAt seat v (Waits ticket) = (d.holder ≢ Some seat) × (d.waiter ticket ≡ seat) × (d.served ≤ ticket) × (ticket < d.tickets)
  StageAt seat v (Holds ticket base) = (d.holder ≡ Some seat) × (base ≡ d.log) × (ticket ≡ d.served)
  StageAt seat v (Joined a b) = (d.holder ≢ Some seat) × (v.alone ≡ false) × Front k.caller_of v.first a v.seen × ((n : ℕ) → v.second ≡ Some n → Front k.caller_of n b v.seen)

  -- what a seat that isn't spent knows
  pub record LiveAt (seat : ℕ) (v : Knows E F) : Type 0 where
    pub same : v.fixed ≡ Some d.fixed
    pub given : v.first < d.numbers
    pub own : d.owner v.first ≡ seat
    pub front : Front k.caller_of v.first v.seen d.log
    pub second : (n : ℕ) → v.second ≡ Some n → HasSecond k.caller_of d.log d.numbers d.owner seat v.first v.seen n
    pub bound : v.bound ≤ d.numbers
    pub lone : v.alone ≡ true → (d.loner ≡ Some seat) × (d.log ≡ v.seen)
    pub shared : v.alone ≡ false → d.loner ≡ None
    pub at : StageAt seat v v.stage

  abbrev pub Each : List (Knows E F) → Type 0
  Each views = (seat : ℕ) (v : Knows E F) → get_elem? views seat ≡ some v → (part : F) → v.fixed ≡ Some part → LiveAt seat v

  -- The machine is at home with the table's history, or out with the one seat that has the turn, whose ticket is served.
  abbrev pub HomeAt : (seats : ℕ) → List (maybe.Option (Option M)) → Option ℕ → Type 0
  HomeAt seats homes None = (m : M) × (homes ≡ some (Some m) ∷ []) × (k.history m ≡ d.log) × (k.fixed m ≡ d.fixed)
  HomeAt seats homes (Some seat) = (homes ≡ none ∷ []) × (d.waiter d.served ≡ seat) × (seat < seats) × (d.served < d.tickets)

-- The rule. A number that wasn't given has no entry.
pub record Orderly {M E F : Type 0} (k : Meaning M E F) (fixed : F) (s : State (Option M) (Knows E F)) : Type 0 where
  pub desk : Desk E F
  pub same : desk.fixed ≡ fixed
  pub count : ℕ
  pub words : s.words ≡ desk.tickets ∷ desk.served ∷ desk.numbers ∷ count ∷ []
  pub counted : count ≡ length desk.log % 2 ^ 64
  pub fits : desk.tickets < 2 ^ 64
  pub order : desk.served ≤ desk.tickets
  pub legal : k.legal desk.fixed desk.log
  pub fresh : (n : ℕ) → desk.numbers ≤ n → count_by (λ entry. k.caller_of entry == n) desk.log ≡ 0
  pub home : HomeAt k desk (length s.views) s.homes desk.holder
  pub each : Each k desk s.views

-- What a publish tells: the history that the machine had, or that with one entry of the seat's.
pub record Publishing {M E F : Type 0} (k : Meaning M E F) (v : Knows E F) (told : List E) (added : ℕ) : Type 0 where
  pub ticket : ℕ
  pub base : List E
  pub part : F
  pub holds : v.stage ≡ Holds ticket base
  pub live : v.fixed ≡ Some part
  pub legal : k.legal part told
  pub grows : ((added ≡ 0) × (told ≡ base)) ⊎ ((added ≡ 1) × (entry : E) × (told ≡ base ++ entry ∷ []) × (k.caller_of entry ≡ v.first))

-- ---- the views

-- the first seat
abbrev pub newcomer : {E F : Type 0} → F → Knows E F
newcomer fixed = record { first = 0; second = None; bound = 1; alone = true; seen = []; stage = Idle; fixed = Some fixed }

abbrev pub spent : {E F : Type 0} → Knows E F
spent = record { first = 0; second = None; bound = 0; alone = false; seen = []; stage = Idle; fixed = None }

abbrev pub ticket_of : {E : Type 0} → Stage E → ℕ
ticket_of Idle = 0
ticket_of (Waits ticket) = ticket
ticket_of (Holds ticket base) = ticket
ticket_of (Joined a b) = 0

-- the stage with another history of the machine
abbrev pub based : {E : Type 0} → List E → Stage E → Stage E
based told Idle = Idle
based told (Waits ticket) = Waits ticket
based told (Holds ticket base) = Holds ticket told
based told (Joined a b) = Joined a b

-- the longer of two histories
abbrev pub longer : {E : Type 0} → List E → List E → List E
longer a b = cond (leb (length a) (length b)) b a

module _ {E F : Type 0} where
  abbrev pub waiting : ℕ → Knows E F → Knows E F
  waiting ticket v = record v { stage = Waits ticket }

  abbrev pub holding : List E → Knows E F → Knows E F
  holding base v = record v { stage = Holds (ticket_of v.stage) base }

  abbrev pub published : List E → Knows E F → Knows E F
  published told v = record v { seen = told; stage = based told v.stage }

  abbrev pub resting : Knows E F → Knows E F
  resting v = record v { stage = Idle }

  abbrev pub settled : List E → Knows E F → Knows E F
  settled told v = record v { seen = told; stage = Idle }

  abbrev pub numbered : ℕ → Knows E F → Knows E F
  numbered n v = record v { second = Some n; bound = n + 1; alone = false }

  abbrev pub left_of : Knows E F → Knows E F
  left_of v = record v { second = None }

  abbrev pub right_of : Knows E F → Knows E F
  right_of v = record v { first = unwrap_or v.second v.first; second = None }

  abbrev pub both_of : Knows E F → Knows E F → Knows E F
  both_of v w = record v { second = Some w.first; bound = max v.bound w.bound; alone = v.alone || w.alone; seen = longer v.seen w.seen; stage = Joined v.seen w.seen }

  abbrev pub with_both : Knows E F → Option ℕ
  with_both v = v.second

  abbrev pub with_first : Knows E F → Option ℕ
  with_first v = None

abbrev pub IsLive : {E F : Type 0} → Knows E F → Type 0
IsLive {E} {F} v = (part : F) × (v.fixed ≡ Some part)

-- ---- seats

-- a turn's table has four words and a slot
abbrev pub IsBoard : TableId → Type 0
IsBoard table = (table.words ≡ 4) × (table.slots ≡ 1)

-- the fixed part that a seat knows, or another where it is spent
abbrev pub part_of : {M E F : Type 0} → F → Seat (Option M) (Knows E F) → F
part_of other seat = unwrap_or seat.me.0.fixed other

-- the seat rests, and its pass has this number
pub record Rests {M E F : Type 0} (k : Meaning M E F) (other : F) (number : ℕ) (seat : Seat (Option M) (Knows E F)) : Type 0 where
  pub bare : seat.me.1 ≡ []
  pub idle : seat.me.0.stage ≡ Idle
  pub live : seat.me.0.fixed ≡ Some (part_of other seat)
  pub numbered : seat.me.0.first ≡ number
  pub above : number < seat.me.0.bound
  pub legal : k.legal (part_of other seat) seat.me.0.seen

-- what the pass of a seat shows
abbrev pub shown : {M E F : Type 0} → (other : F) → (number : ℕ) → Seat (Option M) (Knows E F) → View E F
shown other number seat = record { table = seat.table_id; number = number; bound = seat.me.0.bound; alone = seat.me.0.alone; fixed = part_of other seat; seen = seat.me.0.seen }

-- ---- what the steps tell

-- a seat's view, and the machine where it is out with the seat
abbrev pub Sat : Type 0 → Type 0 → Type 0 → Type 0
Sat M E F = Me (Option M) (Knows E F)

module _ {M E F : Type 0} where
  -- where the exchange held, the seat has the ticket
  abbrev pub drawn : Step (Option M) → Sat M E F → ℕ → Sat M E F → Type 0
  drawn st m n m' = (n ≡ st.first → m' ≡ (waiting st.first m.0, m.1)) × (n ≢ st.first → m' ≡ m)

  abbrev pub gave_out : List E → Step (Option M) → Sat M E F → ℕ → Sat M E F → Type 0
  gave_out told st m n m' = m' ≡ (published told m.0, m.1)

  abbrev pub passed_on : Step (Option M) → Sat M E F → ℕ → Sat M E F → Type 0
  passed_on st m n m' = m' ≡ (resting m.0, rest m.1)

  module _ (k : Meaning M E F) where
    -- what a seat finds as its turn comes: the machine's history goes on from what it has seen
    pub record Found (v : Knows E F) (m : M) : Type 0 where
      pub fixed : v.fixed ≡ Some (k.fixed m)
      pub legal : k.legal (k.fixed m) (k.history m)
      pub front : Front k.caller_of v.first v.seen (k.history m)
      pub alone : v.alone ≡ true → k.history m ≡ v.seen

    pub record Takes (m m' : Sat M E F) : Type 0 where
      pub machine : M
      pub is : m' ≡ (holding (k.history machine) m.0, (0, Some machine) ∷ m.1)
      pub found : Found m.0 machine

    -- where the seat's ticket is served, it has the machine
    abbrev pub asked : Step (Option M) → Sat M E F → ℕ → Sat M E F → Type 0
    asked st m n m' = (n ≡ ticket_of m.0.stage → Takes m m') × (n ≢ ticket_of m.0.stage → m' ≡ m)

    -- the number wasn't given, and has no entry in what was seen
    pub record IsNew (v : Knows E F) (n : ℕ) : Type 0 where
      pub above : v.bound ≤ n
      pub unused : count_by (λ entry. k.caller_of entry == n) v.seen ≡ 0

    -- where the exchange held, the seat has the number too
    abbrev pub drew_number : Step (Option M) → Sat M E F → ℕ → Sat M E F → Type 0
    drew_number st m n m' = (n ≡ st.first → (m' ≡ (numbered st.first m.0, m.1)) × IsNew m.0 st.first) × (n ≢ st.first → m' ≡ m)

    -- what was seen goes on from both histories
    pub record Ordered (v : Knows E F) (a b : List E) : Type 0 where
      pub alone : v.alone ≡ false
      pub first : Front k.caller_of v.first a v.seen
      pub second : (n : ℕ) → v.second ≡ Some n → Front k.caller_of n b v.seen

    abbrev pub learned : (Knows E F → Option ℕ) → Step (Option M) → Sat M E F → ℕ → Sat M E F → Type 0
    learned pick st m n m' = (m' ≡ (record m.0 { second = pick m.0; stage = Idle }, m.1)) × ((a b : List E) → m.0.stage ≡ Joined a b → Ordered m.0 a b)
