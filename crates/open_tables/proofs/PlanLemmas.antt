-- An act on a table by its pass.
use Rattle.std.proofs.Common.{◌≡◌, ◌⊎◌, inl, inr, ℕ, ℤ, List, set, Option, Some, None, Result, Ok, Err, refl, ap, ◌∙◌, subst}
use Rattle.std.specs.Prelude.{Bool, slice_get, IfOk, OnErr}
use Rattle.std.specs.Option.{is_some}
use Rattle.outside.specs.declared.wants.Memory.{Memory}
use Rattle.column_types.specs.declared.column.Column.{Column}
use Rattle.table_model.specs.declared.commands.Command.{Command}
use Rattle.table_model.specs.declared.replies.Reply.{Reply}
use Rattle.table_model.specs.declared.commands.Command.TheVariants as command
use Rattle.table_model.specs.declared.replies.Answer.{Answer}
use Rattle.table_model.specs.declared.streams.StreamRef.{StreamRef}
use Rattle.table_model.specs.declared.streams.StreamState.{StreamState}
use Rattle.table_model.specs.Answer.{answer_by, get_answer}
use Rattle.table_model.specs.Checks.{get_check}
use Rattle.table_model.specs.Facts.{state_of}
use Rattle.table_model.specs.Table.{reply_of}
use Rattle.table_model.specs.History.{History}
use Rattle.table_engine.specs.Turns.{Allows, entry_added}
use Rattle.turn_table.specs.Turn.{with_entry}
use Rattle.turn_table.specs.View.{ActsBy, seeing}
use Rattle.table_spec.specs.declared.spec.TableSpec.{TableSpec}
use Rattle.open_tables.specs.Tables.{TableView}
use Rattle.open_tables.specs.Plans.{At, GetsAt, SeesAt, LosesAt, Loses, Turned, TurnFor, on_command, on_stream, caller_in}
use Rattle.open_tables.specs.Found.{is_found}
use Rattle.open_tables.proofs.TableLemmas.{HasColumns, columns_at}

module _ {A : Type 0} (passes after : List TableView) (place : ℕ) (view new : TableView) (command : Command) (now : ℤ) (found : slice_get passes place ≡ Some view) (behind : after ≡ set passes place new) (told : Reply → A) where
  gets_here : (reply : Reply) → ActsBy caller_in Allows view command now (Ok reply) new → GetsAt passes place (on_command view.fixed command told) now (told reply) after
  gets_here reply (point, added, reaches, allowed, carries, is) = record {
    view = view;
    point = point;
    found = found;
    reaches = reaches;
    is = ap told allowed.0;
    behind = behind ∙ ap (λ pass. set passes place pass) (is ∙ ap (λ entry. seeing view (with_entry point entry)) allowed.1);
  }

  loses_here : (result : Result Reply Memory) → ActsBy caller_in Allows view command now result new → LosesAt passes place (on_command view.fixed command told) now after
  loses_here (Ok reply) (point, added, reaches, allowed, carries, is) = record {
    view = view;
    point = point;
    found = found;
    reaches = reaches;
    behind = inr (behind ∙ ap (λ pass. set passes place pass) (is ∙ ap (λ entry. seeing view (with_entry point entry)) allowed.1));
  }
  loses_here (Err memory) (point, reaches, is) = record {
    view = view;
    point = point;
    found = found;
    reaches = reaches;
    behind = inl (behind ∙ ap (λ pass. set passes place pass) is);
  }

  gets_by : (columns : List Column) → view.fixed ≡ columns → (reply : Reply) → ActsBy caller_in Allows view command now (Ok reply) new
      → GetsAt passes place (on_command columns command told) now (told reply) after
  gets_by columns same reply acts =
      let P : List Column → Type 0 = λ columns. GetsAt passes place (on_command columns command told) now (told reply) after in
      subst P same (gets_here reply acts)

  loses_by : (columns : List Column) → view.fixed ≡ columns → (result : Result Reply Memory) → ActsBy caller_in Allows view command now result new
      → LosesAt passes place (on_command columns command told) now after
  loses_by columns same result acts =
      let P : List Column → Type 0 = λ columns. LosesAt passes place (on_command columns command told) now after in
      subst P same (loses_here result acts)

module _ (A : Type 0) (specs : List TableSpec) (passes after : List TableView) (place : ℕ) (view new : TableView) (command : Command) (now : ℤ) (found : slice_get passes place ≡ Some view) (behind : after ≡ set passes place new) (has : HasColumns specs place view.fixed) where
  -- the reply is the answer of the plan, whatever it is told as
  pub gets : (result : Result Reply Memory) → ActsBy caller_in Allows view command now result new
      → IfOk result (λ reply. (spec : TableSpec) → slice_get specs place ≡ Some spec → (told : Reply → A) → GetsAt passes place (on_command spec.schema command told) now (told reply) after)
  gets (Ok reply) acts = λ spec at told.
      gets_by passes after place view new command now found behind told spec.schema (columns_at (slice_get specs place) view.fixed spec has at) reply acts
  gets (Err memory) acts = tt

  -- at want of memory no entry was added
  pub sees : (result : Result Reply Memory) → ActsBy caller_in Allows view command now result new → OnErr result (SeesAt passes place after)
  sees (Ok reply) acts = tt
  sees (Err memory) (point, reaches, is) = record {
    view = view;
    point = point;
    found = found;
    reaches = reaches;
    behind = behind ∙ ap (λ pass. set passes place pass) is;
  }

  -- an answer that is lost
  pub loses : (result : Result Reply Memory) → ActsBy caller_in Allows view command now result new
      → (spec : TableSpec) → slice_get specs place ≡ Some spec → (told : Reply → A) → Loses passes (At place (on_command spec.schema command told)) now after
  loses result acts spec at told =
      inr (loses_by passes after place view new command now found behind told spec.schema (columns_at (slice_get specs place) view.fixed spec has at) result acts)

-- ---- turns that give the same

module _ {A : Type 0} (passes : List TableView) (place : ℕ) (turn other : TurnFor A) (same : (history : History) (caller : ℕ) (now : ℤ) → turn history caller now ≡ other history caller now) (now : ℤ) (after : List TableView) where
  pub gets-same : (answer : A) → GetsAt passes place turn now answer after → GetsAt passes place other now answer after
  gets-same answer gets =
      let here = same gets.point gets.view.number now in
      record {
        view = gets.view;
        point = gets.point;
        found = gets.found;
        reaches = gets.reaches;
        is = gets.is ∙ ap (λ given. given.answer) here;
        behind = gets.behind ∙ ap (λ given. set passes place (seeing gets.view (with_entry gets.point given.entry))) here;
      }

  pub loses-same : Loses passes (At place turn) now after → Loses passes (At place other) now after
  loses-same (inl none) = inl none
  loses-same (inr loses) = inr (record {
    view = loses.view;
    point = loses.point;
    found = loses.found;
    reaches = loses.reaches;
    behind = with_other loses.behind;
  })
    where
      with_other : (after ≡ set passes place (seeing loses.view loses.point)) ⊎ (after ≡ set passes place (seeing loses.view (with_entry loses.point (turn loses.point loses.view.number now).entry)))
          → (after ≡ set passes place (seeing loses.view loses.point)) ⊎ (after ≡ set passes place (seeing loses.view (with_entry loses.point (other loses.point loses.view.number now).entry)))
      with_other (inl none) = inl none
      with_other (inr all) = inr (all ∙ ap (λ given. set passes place (seeing loses.view (with_entry loses.point given.entry))) (same loses.point loses.view.number now))

-- ---- whether a table has a stream

module _ {A : Type 0} (told : Bool → A) where
  abbrev by_answer : Answer → Turned A
  by_answer answer = record { entry = entry_added answer; answer = told (is_found (reply_of answer)) }

  by_state : (state : Option StreamState) → by_answer (get_answer (get_check state)) ≡ record { entry = None; answer = told (is_some state) }
  by_state None = refl
  by_state (Some state) = refl

  -- a Get says it
  pub get_is_on_stream : (columns : List Column) (on : StreamRef) (history : History) (caller : ℕ) (now : ℤ)
      → on_command columns (command.Get on) (λ reply. told (is_found reply)) history caller now ≡ on_stream on told history caller now
  unfolding answer_by
  get_is_on_stream columns on history caller now = by_state (state_of history on)
