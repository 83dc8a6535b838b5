-- What a change moves of what is kept, and what the history says of it.
use Rattle.std.proofs.Common.{◌≡◌, ℕ, zero, suc, ◌+◌, ◌-◌, ◌<◌, ◌≤◌, ℤ, Bool, true, false, ◌||◌, List, [], ◌∷◌, ◌++◌, length, drop, take, get_or, Some, refl, sym, ap, ◌∙◌, arith}
use Rattle.std.specs.Prelude.{Option, is_some, nat_lt, if◌then◌else◌}
use Rattle.std.specs.List.{flat_map, list_any, filter_map, enumerate_from}
use Rattle.std.proofs.lemmas.Bool.Decides.{nat_tests}
use Rattle.std.proofs.lemmas.List.{length-append, drop-take, take-append-drop}
use Rattle.column_types.specs.declared.row.Row.{Row}
use Rattle.table_model.specs.declared.entries.Change.{Change}
use Rattle.table_model.specs.declared.entries.Change.TheVariants as change
use Rattle.table_model.specs.declared.streams.StreamRef.{StreamRef}
use Rattle.table_model.specs.declared.streams.StreamRef.TheVariants as stream
use Rattle.table_model.specs.declared.streams.StreamState.{StreamState}
use Rattle.table_model.specs.Streams.{is_one_stream, is_default, is_committed_kind, is_buffered, is_pending}
use Rattle.table_model.specs.History.{History, streams_of}
use Rattle.table_model.specs.Content.{content_of, end_of}
use Rattle.table_model.specs.Facts.{kind_of, committed_of, is_finalised, flushed_of, size_added, state_of, facts_of}
use Rattle.table_model.specs.Visible.{rows_shown, shows_at_once}
use Rattle.table_model.specs.Checks.{stream_code, error_at}
use Rattle.table_model.specs.Look.{look_of}
use Rattle.table_model.specs.Accepted.{Makes}
use Rattle.table_model.proofs.LawLemmas.{state_of-Some}
use Rattle.table_model.proofs.WeightLemmas.{length-le-size}
use Rattle.table_model.proofs.SourceLemmas.{one_stream, not_at_once, buffered_kind, pending_kind, good_of, first_good}
use Rattle.row_groups.specs.Places.{joined}
use Rattle.table_engine.specs.Streams.{at_once, flushed_in}
use Rattle.table_engine.specs.Waiting.{Waits, hidden_of, waiting_of, with_rows, CanWait, rows_moved, waits_after}
use Rattle.table_engine.specs.Stored.{Stored}
use Rattle.table_engine.proofs.QueueLemmas.{joined-push}
use Rattle.table_engine.proofs.WaitingLemmas.{waiting_of-with, waits_there, count-with, waiting_of-cleared, count-cleared}
use Rattle.table_engine.proofs.HiddenLemmas.{behind, stays, hidden_create, hidden_append, hidden_flush, hidden_commit}

-- What is kept of a stream that is there.
pub kept_at_once : (history : History) (look : StreamRef → Option StreamState) (on : StreamRef) (state : StreamState) → look on ≡ state_of history on → state_of history on ≡ Some state
    → at_once on (look on) ≡ shows_at_once history on
kept_at_once history look on state same there =
    ap (at_once on) (same ∙ there) ∙ ap (λ s. is_default on || is_committed_kind s.kind) (sym (state_of-Some history on state there).1)

kept_flushed : (history : History) (look : StreamRef → Option StreamState) (on : StreamRef) (state : StreamState) → look on ≡ state_of history on → state_of history on ≡ Some state
    → flushed_in (look on) ≡ flushed_of history on
kept_flushed history look on state same there =
    ap flushed_in (same ∙ there) ∙ ap (λ s. s.flushed) (sym (state_of-Some history on state there).1)

-- rows can wait for each stream that is there but the default stream
pub can_wait : (history : History) (waits : Waits) (on : StreamRef) (state : StreamState) → length waits ≡ streams_of history → state_of history on ≡ Some state → is_default on ≡ false → CanWait waits on
can_wait history waits stream.Default state streams there named = absurd (cc)
can_wait history waits (stream.Number number) state streams there named =
    let has = (state_of-Some history (stream.Number number) state there).0 in
    (grind (arith, nat_tests), grind (arith, nat_tests))
can_wait history waits stream.Other state streams there named =
    absurd (cc ((state_of-Some history stream.Other state there).0))

or_first : (a b : Bool) → (a || b) ≡ false → a ≡ false
or_first false b e = refl
or_first true b e = absurd (cc)

pub named : (history : History) (on : StreamRef) → shows_at_once history on ≡ false → is_default on ≡ false
named history on later = or_first (is_default on) (is_committed_kind (kind_of history on)) later

-- one stream more
open-none : (waits : Waits) (i : ℕ) → get_or (waits ++ [] ∷ []) i [] ≡ get_or waits i []
open-none [] zero = refl
open-none [] (suc i) = refl
open-none (rows ∷ more) zero = refl
open-none (rows ∷ more) (suc i) = open-none more i

waiting_of-open : (waits : Waits) (on : StreamRef) → waiting_of (waits ++ [] ∷ []) on ≡ waiting_of waits on
waiting_of-open waits stream.Default = refl
waiting_of-open waits stream.Other = refl
waiting_of-open waits (stream.Number number) = ap (λ rows. if nat_lt 0 number then rows else []) (open-none waits (number - 1))

-- a stream that takes rows isn't committed
uncommitted : (history : History) (on : StreamRef) (state : StreamState) → (is_some (committed_of history on) ≡ true → is_finalised history on ≡ true)
    → state_of history on ≡ Some state → state.finalised ≡ false → is_some (committed_of history on) ≡ false
uncommitted history on state closed there unfinished = either (is_some (committed_of history on)) refl
  where
    either : (b : Bool) → is_some (committed_of history on) ≡ b → b ≡ false
    either false e = refl
    either true e = absurd (cc (closed e, ap (λ st. st.finalised) (state_of-Some history on state there).1, unfinished))

module _ (columns : ℕ) (groups : List (List Row)) (waits : Waits) (history : History) (stored : Stored columns groups waits history)
    (look : StreamRef → Option StreamState) (same : (on : StreamRef) → look on ≡ state_of history on) where
  append_waits : (on : StreamRef) (rows : List Row) (s : StreamRef) (a : Bool) → (a ≡ false → CanWait waits on)
      → waiting_of (if a then waits else with_rows waits on (waiting_of waits on ++ rows)) s ≡ (if a then hidden_of history s else (if is_one_stream s on then hidden_of history s ++ rows else hidden_of history s))
  append_waits on rows s true can = stored.hidden s
  append_waits on rows s false can =
      waiting_of-with waits on (waiting_of waits on ++ rows) (waits_there waits on (waiting_of waits on ++ rows) (can refl)) s ∙ either (is_one_stream s on) refl
    where
      either : (b : Bool) → is_one_stream s on ≡ b → (if b then waiting_of waits on ++ rows else waiting_of waits s) ≡ (if b then hidden_of history s ++ rows else hidden_of history s)
      either false e = stored.hidden s
      either true e = ap (λ x. waiting_of waits x ++ rows) (sym (one_stream s on e)) ∙ ap (λ xs. xs ++ rows) (stored.hidden s)

  flush_waits : (on : StreamRef) (count : ℕ) (s : StreamRef) → CanWait waits on
      → waiting_of (with_rows waits on (drop count (waiting_of waits on))) s ≡ (if is_one_stream s on then drop count (hidden_of history on) else hidden_of history s)
  flush_waits on count s can =
      waiting_of-with waits on (drop count (waiting_of waits on)) (waits_there waits on (drop count (waiting_of waits on)) can) s
      ∙ ap (λ rows. if is_one_stream s on then drop count rows else waiting_of waits s) (stored.hidden on)
      ∙ ap (λ rows. if is_one_stream s on then drop count (hidden_of history on) else rows) (stored.hidden s)

  -- what waits behind a change is what isn't visible then
  pub waits_behind : (caller : ℕ) (c : Change) (moment : ℤ) → Makes (facts_of columns history caller) (look_of history) c
      → end_of history (stream.Number (streams_of history + 1)) ≡ 0
      → (on : StreamRef) → waiting_of (waits_after look waits c) on ≡ behind history c moment on
  waits_behind caller (change.Create number new) moment makes fresh on =
      waiting_of-open waits on ∙ stored.hidden on
      ∙ sym (hidden_create history number new moment (ap (λ n. end_of history (stream.Number n)) makes.next ∙ fresh) on)
  waits_behind caller (change.Append to at rows bytes) moment makes fresh on =
      let kept = kept_at_once history look to makes.state (same to) makes.there in
      append_waits to rows on (at_once to (look to)) (λ later. can_wait history waits to makes.state stored.streams makes.there (named history to (sym kept ∙ later)))
      ∙ ap (λ a. if a then hidden_of history on else (if is_one_stream on to then hidden_of history on ++ rows else hidden_of history on)) kept
      ∙ sym (hidden_append history to at rows bytes moment (uncommitted history to makes.state (stored.closed to) makes.there makes.unfinished) stored.flushed on)
  waits_behind caller (change.Flush to upto) moment makes fresh on =
      let is = (state_of-Some history to makes.state makes.there).1 in
      let buffered : is_buffered (kind_of history to) ≡ true = ap (λ st. is_buffered st.kind) is ∙ makes.buffered in
      let flushed : flushed_of history to ≡ makes.state.flushed = ap (λ st. st.flushed) is in
      let rising = makes.rising in
      let count = ap (λ n. upto - n) (kept_flushed history look to makes.state (same to) makes.there) in
      flush_waits to (upto - flushed_in (look to)) on (can_wait history waits to makes.state stored.streams makes.there (named history to (not_at_once history to (buffered_kind (kind_of history to) buffered))))
      ∙ ap (λ n. if is_one_stream on to then drop n (hidden_of history to) else hidden_of history on) count
      ∙ sym (hidden_flush history to upto moment buffered (omega (arith, flushed, rising)) on)
  waits_behind caller (change.Finalise to) moment makes fresh on = stored.hidden on ∙ sym (stays history on)
  waits_behind caller (change.Session number at pred fields roots) moment makes fresh on = stored.hidden on ∙ sym (stays history on)
  waits_behind caller (change.Split session node left right) moment makes fresh on = stored.hidden on ∙ sym (stays history on)
  waits_behind caller (change.Commit streams) moment makes fresh on =
      waiting_of-cleared waits streams on
      ∙ ap (λ rows. if list_any (is_one_stream on) streams then [] else rows) (stored.hidden on)
      ∙ sym (hidden_commit history streams moment makes.good on)

  -- nothing of a PENDING stream is visible before it is committed
  none_shown : (on : StreamRef) (a b o : Bool) (end flushed : ℕ) (content : List Row) → a ≡ false → b ≡ false → o ≡ false
      → drop (if a then end else (if b then flushed else (if o then end else 0))) content ≡ content
  none_shown on true b o end flushed content p q r = absurd (cc)
  none_shown on false true o end flushed content p q r = absurd (cc)
  none_shown on false false true end flushed content p q r = absurd (cc)
  none_shown on false false false end flushed content p q r = refl

  commit_moves : (n : ℕ) (streams : List StreamRef) → filter_map (λ item. error_at item.0 (stream_code (state_of history item.1))) (enumerate_from n streams) ≡ []
      → flat_map (waiting_of waits) streams ≡ flat_map (content_of history) streams
  commit_moves n [] good = refl
  commit_moves n (s ∷ more) good =
      let parts = first_good n (stream_code (state_of history s)) (filter_map (λ item. error_at item.0 (stream_code (state_of history item.1))) (enumerate_from (n + 1) more)) good in
      let fine = good_of (state_of history s) parts.0 in
      let is = (state_of-Some history s fine.0 fine.1).1 in
      let kinds = pending_kind (kind_of history s) (ap (λ st. is_pending st.kind) is ∙ fine.2) in
      let here : hidden_of history s ≡ content_of history s =
      none_shown s (shows_at_once history s) (is_buffered (kind_of history s)) (is_some (committed_of history s)) (end_of history s) (flushed_of history s) (content_of history s)
      (not_at_once history s kinds.0) kinds.1 (ap (λ st. is_some st.committed) is ∙ fine.3) in
      ap (λ rows. rows ++ flat_map (waiting_of waits) more) (stored.hidden s ∙ here)
      ∙ ap (λ rows. content_of history s ++ rows) (commit_moves (n + 1) more parts.1)

  flushed_first : (a b o : Bool) (end flushed upto : ℕ) (content : List Row) → a ≡ false → b ≡ true → flushed < upto
      → take (upto - flushed) (drop (if a then end else (if b then flushed else (if o then end else 0))) content) ≡ drop flushed (take upto content)
  flushed_first true b o end flushed upto content p q rising = absurd (cc)
  flushed_first false false o end flushed upto content p q rising = absurd (cc)
  flushed_first false true o end flushed upto content p q rising =
      let whole : flushed + (upto - flushed) ≡ upto = omega (arith, rising) in
      sym (drop-take flushed (upto - flushed) content) ∙ ap (λ n. drop flushed (take n content)) whole

  -- the rows that are moved are those that the history shows
  pub moves : (caller : ℕ) (c : Change) → Makes (facts_of columns history caller) (look_of history) c → rows_moved look waits c ≡ rows_shown history c
  moves caller (change.Create number new) makes = refl
  moves caller (change.Append to at rows bytes) makes = ap (λ a. if a then rows else []) (kept_at_once history look to makes.state (same to) makes.there)
  moves caller (change.Flush to upto) makes =
      let is = (state_of-Some history to makes.state makes.there).1 in
      let buffered : is_buffered (kind_of history to) ≡ true = ap (λ st. is_buffered st.kind) is ∙ makes.buffered in
      let flushed : flushed_of history to ≡ makes.state.flushed = ap (λ st. st.flushed) is in
      let rising = makes.rising in
      ap (λ n. take (upto - n) (waiting_of waits to)) (kept_flushed history look to makes.state (same to) makes.there)
      ∙ ap (take (upto - flushed_of history to)) (stored.hidden to)
      ∙ flushed_first (shows_at_once history to) (is_buffered (kind_of history to)) (is_some (committed_of history to)) (end_of history to) (flushed_of history to) upto (content_of history to)
      (not_at_once history to (buffered_kind (kind_of history to) buffered)) buffered (omega (arith, flushed, rising))
  moves caller (change.Finalise to) makes = refl
  moves caller (change.Session number at pred fields roots) makes = refl
  moves caller (change.Split session node left right) makes = refl
  moves caller (change.Commit streams) makes = commit_moves 0 streams makes.good

-- No change moves rows that were neither waiting nor appended.
append_le : (waits : Waits) (on : StreamRef) (rows : List Row) (size : ℕ) (a : Bool) → length rows ≤ size
    → length (if a then rows else []) + length (joined (if a then waits else with_rows waits on (waiting_of waits on ++ rows))) ≤ length (joined waits) + size
append_le waits on rows size true h = omega (arith, h)
append_le waits on rows size false h =
    let more = count-with waits on (waiting_of waits on ++ rows) in
    omega (arith, h, more, length-append (waiting_of waits on) rows)

pub moves_le : (look : StreamRef → Option StreamState) (waits : Waits) (columns : ℕ) (history : History) (caller : ℕ) (c : Change) → Makes (facts_of columns history caller) (look_of history) c
    → length (rows_moved look waits c) + length (joined (waits_after look waits c)) ≤ length (joined waits) + size_added columns c
moves_le look waits columns history caller (change.Create number new) makes =
    omega (arith, ap length (joined-push waits []), length-append (joined waits) [])
moves_le look waits columns history caller (change.Append to at rows bytes) makes =
    append_le waits to rows (size_added columns (change.Append to at rows bytes)) (at_once to (look to)) (length-le-size columns rows bytes)
moves_le look waits columns history caller (change.Flush to upto) makes =
    let count = upto - flushed_in (look to) in
    let less = count-with waits to (drop count (waiting_of waits to)) in
    let parts = ap length (take-append-drop count (waiting_of waits to)) in
    omega (arith, less, parts, length-append (take count (waiting_of waits to)) (drop count (waiting_of waits to)))
moves_le look waits columns history caller (change.Finalise to) makes = omega arith
moves_le look waits columns history caller (change.Session number at pred fields roots) makes = omega arith
moves_le look waits columns history caller (change.Split session node left right) makes = omega arith
moves_le look waits columns history caller (change.Commit streams) makes =
    let less = count-cleared waits streams makes.once in omega (arith, less)
