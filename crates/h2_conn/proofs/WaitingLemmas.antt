-- How many replies wait, by the record.
use Rattle.std.proofs.Common.{◌≡◌, ℕ, nat_lt, Bool, true, false, List, [], ◌∷◌, ◌++◌, map, length, Option, None, Some, refl, sym, ap, ◌∙◌, append-nil, true≢false, if◌then◌else◌}
use Rattle.std.specs.Prelude.{option_to_list, ℤ, pos, ◌-ℤ◌, ◌≤ℤ◌}
use Rattle.std.proofs.Common.{arith, nat_eq, IsSome, IfSome}
use Rattle.std.specs.Map.{lookup}
use Rattle.std.proofs.lemmas.Int.{ints}
use Rattle.std.specs.List.{concat, AllByRecursion}
use Rattle.std.specs.Option.{option_or}
use Rattle.std.specs.Int.{int_min}
use Rattle.h2_frames.specs.declared.fault.H2Fault.{H2Fault}
use Rattle.h2_flow.specs.Range.{least}
use Rattle.h2_streams.specs.declared.stream.Stream.{Stream}
use Rattle.h2_streams.specs.Book.{Book, find}
use Rattle.h2_answers.specs.Replies.{drop_bytes}
use Rattle.h2_answers.specs.Waiting.{Waiting, waiting_on, data_of}
use Rattle.h2_record.specs.declared.block.OwedCredit.{OwedCredit}
use Rattle.h2_record.specs.declared.control.Control.{Control}
use Rattle.h2_record.specs.declared.control.Control.TheVariants as control
use Rattle.h2_record.specs.Record.{Record, Broken}
use Rattle.h2_record.specs.Windows.{send_window_of, connection_window_of, data_out}
use Rattle.h2_record.specs.Live.{entry_of}
use Rattle.h2_record.specs.Resets.{is_live}
use Rattle.h2_record.specs.Replies.{replies_of, unwritten_of}
use Rattle.h2_record.specs.Faults.{first_fault_of}
use Rattle.h2_record.specs.Credits.{owed_of, given_of, is_free, most_waiting}
use Rattle.h2_record.specs.Control.{control_of, written_control_of, frame_of, due_after}
use Rattle.h2_conn.specs.Latest.{is_free_on, credit_if, latest_credit}
use Rattle.h2_record.specs.Room.{room_in}
use Rattle.h2_record.specs.Due.{settled_control_of}
use Rattle.h2_conn.specs.Held.{Held}
use Rattle.h2_conn.specs.Stands.{StreamsStand, OpenStands, FaultStands, StandsBy, Stands}
use Rattle.h2_conn.specs.Waits.{WaitsBy}
use Rattle.h2_conn.specs.Within.{IsNearInitial}
use Rattle.h2_conn.specs.Producing.{waiting_control}
use Rattle.h2_record.proofs.StepLemmas.{controls-more}
use Rattle.h2_conn.proofs.WithinLemmas.{near-found}

-- a connection that stands for a record without a fault is open
by-fault : (c : Held) (r : Record) (fault : Option H2Fault) → StandsBy fault c r → first_fault_of r ≡ None → OpenStands c r
by-fault c r None s sound = s
by-fault c r (Some fault) s sound = let none : Some fault ≡ None = sym s.met ∙ sound in absurd (cc)

pub is-open : (c : Held) (r : Record) → Stands c r → first_fault_of r ≡ None → OpenStands c r
is-open c r s sound = by-fault c r c.fault s.1 sound

replies-by : (r : Record) (id : ℕ) (waiting : Waiting) (live : Bool) → is_live r id ≡ live → WaitsBy live r id waiting → waiting.replies ≡ unwritten_of r id
replies-by r id waiting true live w = w.replies
replies-by r id waiting false shut w = (λ i. (w.text i).replies) ∙ sym (λ i. if shut i then drop_bytes (data_out r id) (replies_of r id) else [])

pub replies-wait : (streams : Book) (answers : List (ℕ × Waiting)) (r : Record) (id : ℕ) → StreamsStand streams answers r → (waiting_on answers id).replies ≡ unwritten_of r id
replies-wait streams answers r id s = replies-by r id (waiting_on answers id) (is_live r id) refl (s.waits id)

-- ---- the credit of the latest frame

free-same : (streams : Book) (answers : List (ℕ × Waiting)) (r : Record) (id : ℕ) → StreamsStand streams answers r → is_free_on answers id ≡ is_free r id
free-same streams answers r id s = ap (λ replies. nat_lt (length replies) most_waiting) (replies-wait streams answers r id s)

credit-by : (b : Bool) (stream bytes : ℕ) → map frame_of (option_to_list (if b then Some (control.Credit stream bytes) else None)) ≡ (if b then frame_of (control.Credit stream bytes) ∷ [] else [])
credit-by true stream bytes = refl
credit-by false stream bytes = refl

credit-of : (streams : Book) (answers : List (ℕ × Waiting)) (r : Record) (owed : Option OwedCredit) → StreamsStand streams answers r
    → map frame_of (option_to_list (credit_if answers owed)) ≡ given_of r owed
credit-of streams answers r None s = refl
credit-of streams answers r (Some owed) s =
    credit-by (is_free_on answers owed.stream) owed.stream owed.bytes
    ∙ (λ i. if free-same streams answers r owed.stream s i then frame_of (control.Credit owed.stream owed.bytes) ∷ [] else [])

pub latest-given : (c : Held) (r : Record) → OpenStands c r → map frame_of (option_to_list (latest_credit c)) ≡ given_of r (owed_of r)
latest-given c r s = credit-of c.streams c.answers r c.owed s.streams ∙ ap (given_of r) s.owing

-- the control frames that went and those that wait, the latest credit among them, are all that are due
pub settled-waiting : (c : Held) (r : Record) → OpenStands c r → written_control_of r ++ map frame_of (waiting_control c) ≡ settled_control_of r
settled-waiting c r s =
    controls-more (written_control_of r) (control_of r) c.control (option_to_list (latest_credit c)) s.controls
    ∙ ap (λ given. control_of r ++ given) (latest-given c r s)
    ∙ sym (append-nil (control_of r ++ given_of r (owed_of r)))
    ∙ sym (ap (λ earlier. due_after (control_of r) [] r earlier None) s.sound)

-- ---- a connection error by the bytes that came

pub faults-broken : (c : Held) (r : Record) (fault : H2Fault) (waiting : List Control) → OpenStands c r
    → waiting ≡ c.control ++ option_to_list (latest_credit c) ++ control.Goaway c.streams.last fault.code ∷ []
    → FaultStands (record c { fault = Some fault; control = waiting; answers = [] }) fault (Broken fault ∷ r)
faults-broken c r fault waiting s is =
    let latest = option_to_list (latest_credit c) in
    let goes : List Control = control.Goaway c.streams.last fault.code ∷ [] in
    record {
      met = ap (λ earlier. option_or earlier (Some fault)) s.sound;
      begun = s.begun;
      headed = s.headed;
      control = ap (λ controls. written_control_of r ++ map frame_of controls) is
          ∙ controls-more (written_control_of r) (control_of r ++ given_of r (owed_of r)) (c.control ++ latest) goes
          (controls-more (written_control_of r) (control_of r) c.control latest s.controls ∙ ap (λ given. control_of r ++ given) (latest-given c r s))
          ∙ (λ i. (control_of r ++ given_of r (owed_of r)) ++ frame_of (control.Goaway (s.streams.last i) fault.code) ∷ [])
          ∙ sym (ap (λ earlier. due_after (control_of r) [] r earlier (Some fault)) s.sound);
      waits = refl;
    }

-- ---- what may be given

send-by : (b : Bool) (entry : Stream) (found : Option Stream) (send : ℤ) → found ≡ (if b then Some entry else None) → IsSome found → IfSome found (λ stream. send ≡ stream.send) → send ≡ entry.send
send-by true entry None send e there is = absurd (cc)
send-by true entry (Some stream) send e there is = let same : stream ≡ entry = cc in is ∙ ap (λ (s : Stream). s.send) same
send-by false entry None send e there is = absurd (true≢false (sym there))
send-by false entry (Some stream) send e there is = absurd (cc)

pub room-left : (c : Held) (r : Record) (id : ℕ) (send : ℤ) (waiting : ℕ) → Stands c r → first_fault_of r ≡ None → IsSome (find c.streams id) → IfSome (find c.streams id) (λ stream. send ≡ stream.send)
    → waiting ≡ length (data_of (waiting_on c.answers id)) → int_min send c.window -ℤ pos waiting ≡ room_in r id
room-left c r id send waiting s sound there is counts =
    let o = is-open c r s sound in
    let window = send-by (is_live r id) (entry_of r id) (find c.streams id) send (o.streams.found id) there is in
    (λ i. int_min (window i) (o.window i) -ℤ pos (counts i)) ∙ (λ i. int_min (send_window_of r id) (connection_window_of r) -ℤ pos (length (concat (replies-wait c.streams c.answers r id o.streams i))))

-- a window that is found is near the initial size
least-by : (initial id : ℕ) (live : List (ℕ × Stream)) (send : ℤ) (found : Option Stream) → AllByRecursion (IsNearInitial initial) live → lookup (nat_eq id) live ≡ found → IsSome found
    → IfSome found (λ stream. send ≡ stream.send) → least ≤ℤ send
least-by initial id live send None near e there is = absurd (true≢false (sym there))
least-by initial id live send (Some stream) near e there is = let n = near-found initial id live stream near e in omega (arith, ints, n, is)

pub window-least : (initial id : ℕ) (live : List (ℕ × Stream)) (send : ℤ) → AllByRecursion (IsNearInitial initial) live → IsSome (lookup (nat_eq id) live)
    → IfSome (lookup (nat_eq id) live) (λ stream. send ≡ stream.send) → least ≤ℤ send
window-least initial id live send near there is = least-by initial id live send (lookup (nat_eq id) live) near refl there is
