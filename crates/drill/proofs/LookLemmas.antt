-- A look at a node of a session.
use Rattle.std.proofs.Common.{◌≡◌, ℕ, zero, suc, ◌<◌, ℤ, ◌<ℤ◌, ◌≤ℤ◌, Bool, true, false, List, [], ◌∷◌, length, map, drop, Option, Some, None, refl, sym, ap, ◌∙◌, subst, arith}
use Rattle.std.specs.Prelude.{slice_get, option_map, int_le, Result, Ok, Err, if◌then◌else◌}
use Rattle.std.proofs.lemmas.Int.{ints}
use Rattle.std.proofs.lemmas.List.{drop-map}
use Rattle.std.proofs.lemmas.Option.{slice_get_within, get_or_from_slice_get}
use Rattle.outside.specs.declared.wants.Memory.{Memory}
use Rattle.column_types.specs.declared.cell.Cell.{Cell}
use Rattle.column_types.specs.declared.column.Column.{Column}
use Rattle.column_types.specs.Fields.{projected}
use Rattle.row_groups.specs.Places.{joined}
use Rattle.split_tree.specs.declared.node.Interval.{Interval}
use Rattle.split_tree.specs.declared.node.Node.{Node}
use Rattle.split_tree.specs.Nodes.{interval_of, node_of}
use Rattle.split_tree.specs.Parts.{rows_in, read}
use Rattle.read_cursor.specs.Lease.{between, keeps, matching}
use Rattle.table_model.specs.declared.sessions.ReadNode.{ReadNode}
use Rattle.table_model.specs.History.{History, moment_of}
use Rattle.table_model.specs.Legal.{IsLegal}
use Rattle.table_model.specs.Sessions.{Opened, session_of, expiry_of, node_in, read_node_of}
use Rattle.table_model.specs.Visible.{visible_of}
use Rattle.table_engine.specs.declared.looks.Held.{Held}
use Rattle.table_engine.specs.declared.looks.Key.{Key}
use Rattle.table_engine.specs.Looks.{Holds, Looks}
use Rattle.drill.specs.declared.drained.DrainFault.{DrainFault}
use Rattle.drill.specs.declared.drained.DrainFault.TheVariants as fault
use Rattle.turn_table.specs.View.{LooksBy}
use Rattle.drill.specs.Drains.{Fails, Went, node_rows}
use Rattle.drill.specs.Steps.{IsOpen, LookFails, Looked, lease_in}
use Rattle.drill.proofs.SessionLemmas.{tree_of}
use Rattle.drill.proofs.WentLemmas.{TableView, caller_in, went_to}

-- the rows of a lease by what it was made of
abbrev rows_by : Opened → Interval → List (List Cell) → List (List Cell)
rows_by session interval visible = read (keeps session.pred) (projected session.fields) (rows_in interval visible)

pub lease_rows : (columns : List Column) (history : History) (key : Key) (held : Held) → (holds : Holds columns history key held)
    → map (projected held.lease.fields) (matching held.lease) ≡ node_rows holds.session history key.node
lease_rows columns history key held holds =
    let session = holds.session in
    let at : node_of session.nodes key.node ≡ holds.node = get_or_from_slice_get session.nodes.list key.node holds.node _ holds.there in
    let interval : interval_of session.nodes key.node ≡ holds.node.interval = ap (λ (n : Node). n.interval) at in
    ap (λ fields. map (projected fields) (matching held.lease)) holds.fields
    ∙ ap (λ pred. read (keeps pred) (projected session.fields) (between held.lease.lo held.lease.hi (joined held.lease.groups))) holds.pred
    ∙ ap (λ rows. read (keeps session.pred) (projected session.fields) (between held.lease.lo held.lease.hi rows)) holds.rows
    ∙ ap (λ lo. read (keeps session.pred) (projected session.fields) (between lo held.lease.hi (visible_of history))) holds.from
    ∙ ap (λ hi. read (keeps session.pred) (projected session.fields) (between holds.node.interval.from hi (visible_of history))) holds.upto
    ∙ ap (λ interval. rows_by session interval (visible_of history)) (sym interval)

open_by : (columns : List Column) (history : History) (key : Key) (held : Held) → (holds : Holds columns history key held) → moment_of history <ℤ expiry_of holds.session.moment
    → IsOpen history key.session key.node held.lease
open_by columns history key held holds early = record {
  session = holds.session;
  begun = holds.opened;
  there = slice_get_within holds.session.nodes.list key.node holds.node holds.there;
  early = early;
  rows = λ at.
      sym (drop-map (projected held.lease.fields) at (matching held.lease)) ∙ ap (drop at) (lease_rows columns history key held holds);
  roots = holds.roots;
}

is_late : (expires moment : ℤ) → int_le expires moment ≡ true → expires ≤ℤ moment
is_late expires moment e = omega (arith, ints)

is_early : (expires moment : ℤ) → int_le expires moment ≡ false → moment <ℤ expires
is_early expires moment e = omega (arith, ints)

-- what is told of a look
pub looked : (columns : List Column) (history : History) (key : Key) (look : Result (Option Held) Memory)
    → ((told : Option Held) → look ≡ Ok told → Looks columns history key told) → Looked history key.session key.node (lease_in look)
looked columns history key (Err memory) looks = tt
looked columns history key (Ok None) looks = looks None refl
looked columns history key (Ok (Some held)) looks = either (int_le held.expires held.moment) refl
  where
    holds : Holds columns history key held
    holds = looks (Some held) refl

    either : (late : Bool) → int_le held.expires held.moment ≡ late
        → Looked history key.session key.node (if late then Err (fault.Expired held.moment held.expires) else Ok held.lease)
    either true e = record {
      session = holds.session;
      begun = holds.opened;
      moment_is = holds.moment;
      expires_is = holds.expires;
      late = is_late held.expires held.moment e;
    }
    either false e =
        let early : held.moment <ℤ held.expires = is_early held.expires held.moment e in
        open_by columns history key held holds (subst (λ (m : ℤ). m <ℤ expiry_of holds.session.moment) holds.moment (subst (λ (x : ℤ). held.moment <ℤ x) holds.expires early))

-- what the pass of a look gains
pub look_went : (number : ℕ) (key : Key) (old new : TableView) (result : Result (Option Held) Memory) → LooksBy caller_in Looks old key result new → Went number old new
look_went number key old new (Ok look) (point, reaches, looks, is) = went_to number old new point reaches is
look_went number key old new (Err memory) (point, reaches, is) = went_to number old new point reaches is

pub look_told : (key : Key) (old new : TableView) (result : Result (Option Held) Memory) → LooksBy caller_in Looks old key result new
    → Looked new.seen key.session key.node (lease_in result)
look_told key old new result looks = looked old.fixed new.seen key result (tells result looks)
  where
    tells : (result : Result (Option Held) Memory) → LooksBy caller_in Looks old key result new → (told : Option Held) → result ≡ Ok told → Looks old.fixed new.seen key told
    tells (Ok look) (point, reaches, allowed, is) told e =
        let now : new.seen ≡ point = ap (λ (v : TableView). v.seen) is in
        let same : look ≡ told = cc in
        subst (λ h. Looks old.fixed h key told) (sym now) (subst (Looks old.fixed point key) same allowed)
    tells (Err memory) looks told e = absurd (cc)

-- ---- what fails

pub slice_some : {A : Type 0} (xs : List A) (i : ℕ) → i < length xs → (x : A) × (slice_get xs i ≡ Some x)
slice_some [] i inside = absurd (omega (arith, inside))
slice_some (x ∷ xs) zero inside = (x, refl)
slice_some (x ∷ xs) (suc i) inside = slice_some xs i (omega (arith, inside))

pub not_none : (history : History) (number node : ℕ) (session : Opened) → session_of history number ≡ Some session → node < length session.nodes.list
    → read_node_of history number node ≡ None → ⊥
not_none history number node session begun here none =
    let found = slice_some session.nodes.list node here in
    let made : Node → ReadNode = λ n. record { moment = session.moment; node = n; nodes = length session.nodes.list } in
    let some : read_node_of history number node ≡ Some (made found.0) = ap (λ o. node_in o node) begun ∙ ap (option_map made) found.1 in
    let both : Some (made found.0) ≡ None = sym some ∙ none in
    absurd (cc)

-- a look at a node that is there fails because the session has expired
pub look_fails : (columns : List Column) (caller : ℕ) (history : History) (number node : ℕ) (session : Opened) (why : DrainFault) → session_of history number ≡ Some session
    → node < length session.nodes.list → LookFails history number node why → Fails columns caller history number why
look_fails columns caller history number node session fault.Memory begun here fails = tt
look_fails columns caller history number node session fault.NoSession begun here fails = absurd (not_none history number node session begun here fails)
look_fails columns caller history number node session (fault.Expired moment expires) begun here fails = fails
look_fails columns caller history number node session (fault.Refused told) begun here fails = absurd fails

-- the first look fails also where there is no such session
pub first_fails : (columns : List Column) (caller : ℕ) (history : History) (number : ℕ) (why : DrainFault) → IsLegal columns history
    → LookFails history number 0 why → Fails columns caller history number why
first_fails columns caller history number fault.Memory legal fails = tt
first_fails columns caller history number fault.NoSession legal fails = either (session_of history number) refl
  where
    either : (found : Option Opened) → session_of history number ≡ found → session_of history number ≡ None
    either None are = are
    either (Some session) are =
        let tree = tree_of columns history number session legal are in
        let here : 0 < length session.nodes.list = omega (arith, tree.some, tree.first) in
        absurd (not_none history number 0 session are here fails)
first_fails columns caller history number (fault.Expired moment expires) legal fails = fails
first_fails columns caller history number (fault.Refused told) legal fails = absurd fails
