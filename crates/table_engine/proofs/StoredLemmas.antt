-- The rows of a history are stored, with an entry more.
use Rattle.std.proofs.Common.{◌≡◌, ℕ, ◌+◌, ◌≤◌, Bool, true, false, cond, ◌||◌, List, [], ◌∷◌, ◌++◌, length, Some, refl, sym, ap, ◌∙◌, arith, add-zero}
use Rattle.std.specs.Prelude.{Option, is_some, if◌then◌else◌}
use Rattle.std.proofs.lemmas.List.{length_push, length-append}
use Rattle.std.proofs.lemmas.List.Sums.{sum_by_push}
use Rattle.std.proofs.lemmas.List.Folds.{list_any-append}
use Rattle.column_types.specs.declared.row.Row.{Row}
use Rattle.table_model.specs.declared.limits.TheConstants.{MAX_WEIGHT}
use Rattle.table_model.specs.declared.entries.Entry.{Entry}
use Rattle.table_model.specs.declared.entries.Change.{Change}
use Rattle.table_model.specs.declared.entries.Change.TheVariants as change
use Rattle.table_model.specs.declared.streams.StreamRef.{StreamRef}
use Rattle.table_model.specs.declared.streams.StreamRef.TheVariants as stream
use Rattle.table_model.specs.declared.streams.StreamState.{StreamState}
use Rattle.table_model.specs.Streams.{is_one_stream}
use Rattle.table_model.specs.History.{History, is_create, streams_of}
use Rattle.table_model.specs.Content.{rows_onto, end_of}
use Rattle.table_model.specs.Facts.{committed_of, commits, finalises, is_finalised, flushed_after, flushed_of, size_added, weight_of, state_of, facts_of}
use Rattle.table_model.specs.Look.{look_of}
use Rattle.table_model.specs.Visible.{visible_of}
use Rattle.table_model.specs.Accepted.{Makes}
use Rattle.table_model.proofs.LawLemmas.{state_of-Some}
use Rattle.table_model.proofs.ShownLemmas.{visible_of-push}
use Rattle.table_model.proofs.WeightLemmas.{length-le-size}
use Rattle.table_model.proofs.SourceLemmas.{one_stream, flushed_of-push, committed_of-push, end_of-push, good_of, each_good}
use Rattle.write_streams.specs.Book.{Book, find}
use Rattle.write_streams.specs.Stands.{Stands}
use Rattle.row_groups.specs.Places.{joined}
use Rattle.table_engine.specs.Streams.{at_once}
use Rattle.table_engine.specs.Waiting.{Waits, waiting_of, with_rows, CanKeep, CanStore, Stores, rows_moved, waits_after}
use Rattle.table_engine.specs.Stored.{Stored}
use Rattle.table_engine.proofs.WaitingLemmas.{length-with, length-cleared}
use Rattle.table_engine.proofs.HiddenLemmas.{hidden_of-push}
use Rattle.table_engine.proofs.MovedLemmas.{kept_at_once, can_wait, named, waits_behind, moves, moves_le}

length-after : (look : StreamRef → Option StreamState) (waits : Waits) (c : Change) → length (waits_after look waits c) ≡ length waits + cond (is_create c) 1 0
length-after look waits (change.Create number new) = length_push waits []
length-after look waits (change.Append to at rows bytes) = either (at_once to (look to))
  where
    either : (a : Bool) → length (if a then waits else with_rows waits to (waiting_of waits to ++ rows)) ≡ length waits + 0
    either true = sym (add-zero (length waits))
    either false = length-with waits to (waiting_of waits to ++ rows) ∙ sym (add-zero (length waits))
length-after look waits (change.Flush to upto) = length-with waits to _ ∙ sym (add-zero (length waits))
length-after look waits (change.Finalise to) = sym (add-zero (length waits))
length-after look waits (change.Commit streams) = length-cleared waits streams ∙ sym (add-zero (length waits))
length-after look waits (change.Session number at pred fields roots) = sym (add-zero (length waits))
length-after look waits (change.Split session node left right) = sym (add-zero (length waits))

-- a stream that is committed is finalised
is_finalised-push : (history : History) (entry : Entry) (on : StreamRef) → is_finalised history on ≡ true → is_finalised (history ++ entry ∷ []) on ≡ true
is_finalised-push history entry on was = list_any-append (λ e. finalises on e.change) history (entry ∷ []) ∙ ap (λ b. b || (finalises on entry.change || false)) was

closes : (columns : ℕ) (history : History) (caller : ℕ) (c : Change) → Makes (facts_of columns history caller) (look_of history) c
    → (on : StreamRef) → commits on c ≡ true → is_finalised history on ≡ true
closes columns history caller (change.Create number new) makes on e = absurd (cc)
closes columns history caller (change.Append s at rows bytes) makes on e = absurd (cc)
closes columns history caller (change.Flush s upto) makes on e = absurd (cc)
closes columns history caller (change.Finalise s) makes on e = absurd (cc)
closes columns history caller (change.Session number at pred fields roots) makes on e = absurd (cc)
closes columns history caller (change.Split session node left right) makes on e = absurd (cc)
closes columns history caller (change.Commit streams) makes on e =
    let fine = good_of (state_of history on) (each_good (λ s. state_of history s) 0 streams on makes.good e) in
    ap (λ st. st.finalised) (state_of-Some history on fine.0 fine.1).1 ∙ fine.4

-- no more rows of a stream are flushed than it has
flushed-le : (columns : ℕ) (history : History) (caller : ℕ) (c : Change) → Makes (facts_of columns history caller) (look_of history) c
    → (on : StreamRef) → flushed_of history on ≤ end_of history on → flushed_after on (flushed_of history on) c ≤ end_of history on + length (rows_onto on c)
flushed-le columns history caller (change.Create number new) makes on was = omega (arith, was)
flushed-le columns history caller (change.Append s at rows bytes) makes on was = omega (arith, was)
flushed-le columns history caller (change.Flush s upto) makes on was = either (is_one_stream on s) refl
  where
    either : (b : Bool) → is_one_stream on s ≡ b → (if b then upto else flushed_of history on) ≤ end_of history on + 0
    either false e = omega (arith, was)
    either true e =
        let rows : end_of history s ≡ makes.state.rows = ap (λ st. st.rows) (state_of-Some history s makes.state makes.there).1 in
        let same : end_of history on ≡ end_of history s = ap (end_of history) (one_stream on s e) in
        let within = makes.within in
        omega (arith, rows, same, within)
flushed-le columns history caller (change.Finalise s) makes on was = omega (arith, was)
flushed-le columns history caller (change.Commit streams) makes on was = omega (arith, was)
flushed-le columns history caller (change.Session number at pred fields roots) makes on was = omega (arith, was)
flushed-le columns history caller (change.Split session node left right) makes on was = omega (arith, was)

module _ (columns : ℕ) (book : Book) (groups : List (List Row)) (waits : Waits) (history : History) (entry : Entry)
    (stands : Stands book history) (stored : Stored columns groups waits history) (makes : Makes (facts_of columns history entry.caller) (look_of history) entry.change)
    (weighs : weight_of columns (history ++ entry ∷ []) ≡ weight_of columns history + size_added columns entry.change) where
  fresh : end_of history (stream.Number (streams_of history + 1)) ≡ 0
  fresh = ap (λ state. state.rows) (stands.fresh (streams_of history + 1) (omega arith))

  keep : (caller : ℕ) (c : Change) → Makes (facts_of columns history caller) (look_of history) c → CanKeep (find book) waits c
  keep caller (change.Create number new) made = tt
  keep caller (change.Append to at rows bytes) made =
      let size = length-le-size columns rows bytes in
      let light = made.light in
      let kept = kept_at_once history (find book) to made.state (stands.found to) made.there in
      (omega (arith, size, light), λ later. can_wait history waits to made.state stored.streams made.there (named history to (sym kept ∙ later)))
  keep caller (change.Flush to upto) made = tt
  keep caller (change.Finalise to) made = tt
  keep caller (change.Commit streams) made = tt
  keep caller (change.Session number at pred fields roots) made = tt
  keep caller (change.Split session node left right) made = tt

  closed_by : (on : StreamRef) (b : Bool) → commits on entry.change ≡ b → is_some (if b then Some entry.moment else committed_of history on) ≡ true → is_finalised history on ≡ true
  closed_by on true e some = closes columns history entry.caller entry.change makes on e
  closed_by on false e some = stored.closed on some

  pub can_store : weight_of columns (history ++ entry ∷ []) ≤ MAX_WEIGHT → CanStore (find book) entry.change groups waits
  can_store light =
      let less = moves_le (find book) waits columns history entry.caller entry.change makes in
      let few = stored.few in
      record { keep = keep entry.caller entry.change makes; room = omega (arith, less, few, weighs, light) }

  pub stored-push : (new : List (List Row)) (after : Waits) → Stores (find book) entry.change groups waits new after → Stored columns new after (history ++ entry ∷ [])
  stored-push new after stores =
      let less = moves_le (find book) waits columns history entry.caller entry.change makes in
      let few = stored.few in
      let rows = ap length stores.shown in
      let waiting = ap (λ w. length (joined w)) stores.waiting in
      record {
        shown =
            stores.shown
            ∙ ap (λ rows. rows ++ rows_moved (find book) waits entry.change) stored.shown
            ∙ ap (λ rows. visible_of history ++ rows) (moves columns groups waits history stored (find book) stands.found entry.caller entry.change makes)
            ∙ sym (visible_of-push history entry);
        hidden = λ on.
            ap (λ w. waiting_of w on) stores.waiting
            ∙ waits_behind columns groups waits history stored (find book) stands.found entry.caller entry.change entry.moment makes fresh on
            ∙ sym (hidden_of-push history entry on);
        streams =
            ap length stores.waiting
            ∙ length-after (find book) waits entry.change
            ∙ ap (λ n. n + cond (is_create entry.change) 1 0) stored.streams
            ∙ sym (sum_by_push (λ e. cond (is_create e.change) 1 0) history entry);
        few = omega (arith, less, few, weighs, rows, waiting, length-append (joined groups) (rows_moved (find book) waits entry.change));
        closed = λ on some. is_finalised-push history entry on (closed_by on (commits on entry.change) refl (sym (ap is_some (committed_of-push history entry on)) ∙ some));
        flushed = λ on.
            let le = flushed-le columns history entry.caller entry.change makes on (stored.flushed on) in
            omega (arith, le, flushed_of-push history entry on, end_of-push history entry on);
      }
