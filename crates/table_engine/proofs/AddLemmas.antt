-- What is kept, with an entry more.
use Rattle.std.proofs.Common.{◌≡◌, ℕ, ◌+◌, ◌<◌, ◌≤◌, ◌^◌, cond, List, [], ◌∷◌, ◌++◌, length, Some, refl, sym, ap, ◌∙◌, subst, arith}
use Rattle.std.specs.Prelude.{Option, IfSome, ◌==◌, is_some, if◌then◌else◌, pos}
use Rattle.std.specs.Int.{int_max}
use Rattle.std.specs.List.{filter_map, enumerate_from, cons_option}
use Rattle.std.proofs.lemmas.List.Sums.{fold_push, sum_by_push, count_by-le-length}
use Rattle.column_types.specs.declared.column.Column.{Column}
use Rattle.column_types.specs.declared.row.Row.{Row}
use Rattle.table_model.specs.declared.limits.TheConstants.{MAX_WEIGHT}
use Rattle.table_model.specs.declared.entries.Entry.{Entry}
use Rattle.table_model.specs.declared.entries.Change.{Change}
use Rattle.table_model.specs.declared.entries.Change.TheVariants as change
use Rattle.table_model.specs.declared.streams.StreamRef.{StreamRef}
use Rattle.table_model.specs.declared.streams.StreamState.{StreamState}
use Rattle.table_model.specs.History.{History, moment_of, entries_by}
use Rattle.table_model.specs.Content.{end_of}
use Rattle.table_model.specs.Facts.{size_added, weight_of, facts_of, state_of}
use Rattle.table_model.specs.Checks.{stream_code, error_at}
use Rattle.table_model.specs.Visible.{visible_of}
use Rattle.table_model.specs.Sessions.{node_in}
use Rattle.table_model.specs.Look.{look_of}
use Rattle.table_model.specs.Accepted.{Makes}
use Rattle.table_model.specs.Table.{IsWithin}
use Rattle.table_model.proofs.LawLemmas.{state_of-Some}
use Rattle.table_model.proofs.WeightLemmas.{length-le-size, end_of-le-weight}
use Rattle.write_streams.specs.Book.{Book, find}
use Rattle.write_streams.specs.Stands.{Stands}
use Rattle.table_engine.specs.Callers.{count_of}
use Rattle.read_sessions.specs.Book.{Book as Sessions}
use Rattle.read_sessions.specs.Stands.{Stands as ReadsStand}
use Rattle.read_sessions.proofs.HistoryLemmas.{fewer_by}
use Rattle.row_groups.specs.Places.{joined}
use Rattle.table_engine.specs.Changes.{CanMake, IsOfVisible, Notes}
use Rattle.table_engine.specs.Waiting.{Waits, CanStore, Stores}
use Rattle.table_engine.specs.Stored.{Stored}
use Rattle.table_engine.specs.declared.engine.Engine.TheInside.{Inside}
use Rattle.table_engine.specs.Keeps.{CanAdd, Keeps, table_in}
use Rattle.table_engine.proofs.StoredLemmas.{can_store, stored-push}

-- The change of an entry that may be added can be made to the streams.
errors-same : (a b : StreamRef → Option StreamState) → ((on : StreamRef) → a on ≡ b on) → (n : ℕ) (streams : List StreamRef)
    → filter_map (λ item. error_at item.0 (stream_code (a item.1))) (enumerate_from n streams) ≡ filter_map (λ item. error_at item.0 (stream_code (b item.1))) (enumerate_from n streams)
errors-same a b same n [] = refl
errors-same a b same n (s ∷ more) =
    ap (λ found. cons_option (error_at n (stream_code found)) (filter_map (λ item. error_at item.0 (stream_code (a item.1))) (enumerate_from (n + 1) more))) (same s)
    ∙ ap (λ errors. cons_option (error_at n (stream_code (b s))) errors) (errors-same a b same (n + 1) more)

if_found : (found : Option StreamState) (state : StreamState) (P : StreamState → Type 0) → found ≡ Some state → P state → IfSome found P
if_found found state P there holds = rw there holds

append_room : (columns : List Column) (history : History) (on : StreamRef) (state : StreamState) (rows : ℕ) → IsWithin columns history → state_of history on ≡ Some state → rows ≤ MAX_WEIGHT
    → state.rows + rows < 2 ^ 63
append_room columns history on state rows within there few =
    let is : end_of history on ≡ state.rows = ap (λ s. s.rows) (state_of-Some history on state there).1 in
    let most = end_of-le-weight (length columns) history on in
    let light = within.light in
    omega (arith, is, most, light, few)

can_make : (columns : List Column) (book : Book) (sessions : Sessions) (history : History) (caller : ℕ) (c : Change) → IsWithin columns history → Stands book history
    → ReadsStand sessions history → Makes (facts_of (length columns) history caller) (look_of history) c → CanMake book sessions c
can_make columns book sessions history caller (change.Create number kind) within stands reads makes =
    let next = makes.next in
    let room = makes.room in
    let count = stands.count in
    (omega (arith, next, count), omega (arith, room, count))
can_make columns book sessions history caller (change.Append on offset rows bytes) within stands reads makes =
    let there = stands.found on ∙ makes.there in
    let size = length-le-size (length columns) rows bytes in
    let light = makes.light in (
      ap is_some there,
      if_found (find book on) makes.state (λ state. state.rows + length rows < 2 ^ 63) there (append_room columns history on makes.state (length rows) within makes.there (omega (arith, size, light))),
    )
can_make columns book sessions history caller (change.Flush on upto) within stands reads makes = ap is_some (stands.found on ∙ makes.there)
can_make columns book sessions history caller (change.Finalise on) within stands reads makes = ap is_some (stands.found on ∙ makes.there)
can_make columns book sessions history caller (change.Commit streams) within stands reads makes =
    errors-same (find book) (λ on. state_of history on) stands.found 0 streams ∙ makes.good
can_make columns book sessions history caller (change.Session number at pred fields roots) within stands reads makes =
    let next = makes.next in
    let room = makes.room in
    let count = reads.count in
    (omega (arith, next, count), omega (arith, room, count), (makes.count, makes.cut))
can_make columns book sessions history caller (change.Split session node left right) within stands reads makes = (
  left,
  right,
  record { state = makes.state; there = ap (λ found. node_in found node) (reads.found session) ∙ makes.there; made = makes.made },
)

-- A session that is begun is of rows that are visible.
of_visible : (columns : List Column) (history : History) (caller : ℕ) (c : Change) → IsWithin columns history
    → Makes (facts_of (length columns) history caller) (look_of history) c → IsOfVisible history c
of_visible columns history caller (change.Session number at pred fields roots) within makes =
    subst (λ n. n ≤ length (visible_of history)) (sym makes.visible) (fewer_by (pos 0) makes.moment history within.rises)
of_visible columns history caller (change.Create number kind) within makes = tt
of_visible columns history caller (change.Append on offset rows bytes) within makes = tt
of_visible columns history caller (change.Flush on upto) within makes = tt
of_visible columns history caller (change.Finalise on) within makes = tt
of_visible columns history caller (change.Commit streams) within makes = tt
of_visible columns history caller (change.Split session node left right) within makes = tt

-- What an entry adds to what is kept.
pub record Adds (columns : List Column) (book : Book) (sessions : Sessions) (groups : List (List Row)) (waits : Waits) (history : History) (entry : Entry) : Type 0 where
  pub change : CanMake book sessions entry.change
  pub visible : IsOfVisible history entry.change
  pub store : CanStore (find book) entry.change groups waits
  pub stored : (new : List (List Row)) (after : Waits) → Stores (find book) entry.change groups waits new after → Stored (length columns) new after (history ++ entry ∷ [])
  pub size : size_added (length columns) entry.change ≤ MAX_WEIGHT
  pub weight : weight_of (length columns) history + size_added (length columns) entry.change ≤ MAX_WEIGHT
  pub weighs : weight_of (length columns) (history ++ entry ∷ []) ≡ weight_of (length columns) history + size_added (length columns) entry.change
  pub mine : entries_by entry.caller history + 1 < 2 ^ 32
  pub counts : (caller : ℕ) → entries_by caller (history ++ entry ∷ []) ≡ entries_by caller history + (if entry.caller == caller then 1 else 0)
  pub latest : moment_of (history ++ entry ∷ []) ≡ int_max (moment_of history) entry.moment

pub adds : (columns : List Column) (book : Book) (sessions : Sessions) (groups : List (List Row)) (waits : Waits) (history : History) (entry : Entry)
    → IsWithin columns history → Stands book history → ReadsStand sessions history
    → Stored (length columns) groups waits history → CanAdd (record { columns = columns; entries = history }) entry → Adds columns book sessions groups waits history entry
adds columns book sessions groups waits history entry within stands reads stored can = record {
  change = can_make columns book sessions history entry.caller entry.change within stands reads makes;
  visible = of_visible columns history entry.caller entry.change within makes;
  store = can_store (length columns) book groups waits history entry stands stored makes weighs light;
  stored = stored-push (length columns) book groups waits history entry stands stored makes weighs;
  size = omega (arith, light, weighs);
  weight = omega (arith, light, weighs);
  weighs = weighs;
  mine = omega (arith, count_by-le-length (λ e. e.caller == entry.caller) history, can.made.few);
  counts = λ caller. sum_by_push (λ e. cond (e.caller == caller) 1 0) history entry;
  latest = fold_push (λ latest e. int_max latest e.moment) (pos 0) history entry;
}
  where
    makes : Makes (facts_of (length columns) history entry.caller) (look_of history) entry.change
    makes = can.made.makes

    weighs : weight_of (length columns) (history ++ entry ∷ []) ≡ weight_of (length columns) history + size_added (length columns) entry.change
    weighs = sum_by_push (λ e. size_added (length columns) e.change) history entry

    light : weight_of (length columns) (history ++ entry ∷ []) ≤ MAX_WEIGHT
    light = can.room.light

-- What is kept stands with the entry.
pub Keeps-add : (old new : Inside) (entry : Entry) (size : ℕ) → Keeps old → CanAdd (table_in old) entry
    → new.schema ≡ old.schema → new.entries.items ≡ old.entries.items ++ entry ∷ []
    → ((history : History) → Stands old.book history → Stands new.book (history ++ entry ∷ []))
    → ((history : History) → ReadsStand old.sessions history → IsOfVisible history entry.change → ReadsStand new.sessions (history ++ entry ∷ []))
    → Notes old.snapshots.list new.snapshots.list entry.moment (length (joined old.groups)) (length (joined new.groups))
    → Stores (find old.book) entry.change old.groups old.waiting new.groups new.waiting
    → ((other : ℕ) → count_of new.callers other ≡ count_of old.callers other + (if entry.caller == other then 1 else 0))
    → size ≡ size_added (length old.schema) entry.change → new.weight ≡ old.weight + size
    → new.latest ≡ int_max old.latest entry.moment
    → Keeps new
Keeps-add old new entry size keeps can columns items stands reads notes stores counts sized weight latest =
    let history = old.entries.items in
    let added = adds old.schema old.book old.sessions old.groups old.waiting history entry keeps.within keeps.stands keeps.reads keeps.stored can in
    let stored = added.stored new.groups new.waiting stores in
    record {
      within = rw (columns, items) can.room;
      stands = rw items (stands history keeps.stands);
      counts = λ caller. counts caller ∙ ap (λ n. n + (if entry.caller == caller then 1 else 0)) (keeps.counts caller) ∙ sym (added.counts caller) ∙ ap (entries_by caller) (sym items);
      weighs =
          weight
          ∙ ap (λ n. n + size) keeps.weighs
          ∙ ap (λ n. weight_of (length old.schema) history + n) sized
          ∙ sym added.weighs
          ∙ ap (λ cs. weight_of (length cs) (history ++ entry ∷ [])) (sym columns)
          ∙ ap (weight_of (length new.schema)) (sym items);
      latest_is = latest ∙ ap (λ m. int_max m entry.moment) keeps.latest_is ∙ sym added.latest ∙ ap moment_of (sym items);
      reads = rw items (reads history keeps.reads added.visible);
      tells = rw items (notes history entry keeps.tells can.room.rises refl (ap length keeps.stored.shown) (ap length stored.shown));
      stored = rw (columns, items) stored;
    }
