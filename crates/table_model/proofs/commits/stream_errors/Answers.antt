-- The error of this name, if it has one, stands behind those before it.
use Rattle.std.proofs.Common.{◌++◌, [], ◌∷◌, take, ap, sym, ◌∙◌}
use Rattle.std.specs.List.{cons_option}
use Rattle.std.proofs.lemmas.List.{append-nil}
use Rattle.table_model.specs.declared.streams.StreamRef.TheVariants as stream
use Rattle.table_model.specs.Checks.{error_at, stream_code, stream_errors}
use Rattle.table_model.proofs.CommitLemmas.{stream_errors_more}
use Rattle.table_model.proofs.commits.stream_errors.Goals as goal
use Rattle.table_model.proofs.commits.stream_errors.Goals.{in-Some+in_ok-push, in_default}

pub loop-place-preserved : goal.loop-place-preserved
loop-place-preserved g c =
    let look = g.S.Streams.state c.args.look.now in
    let before = take c.loop-place.place c.args.streams.now in
    let more = stream_errors_more look c.args.streams.now c.loop-place.place stream.Default c.loop-place-test.true in
    let code = sym (c.stream_code.ensures ∙ ap stream_code c.state.ensures) in
    elim c.match-stream_code.branch [
      | in-Some+in_ok-push w ↦
          ap (λ v. v.items) w.errors-is ∙ w.in_ok-push.ensures.items ∙ ap (λ errors. errors ++ record { place = c.loop-place.place; code = w.in-Some.code } ∷ []) c.loop-place.invariant
          ∙ sym (more ∙ ap (λ o. stream_errors look before ++ cons_option (error_at c.loop-place.place o) []) (code ∙ w.in-Some.is))
      | in_default w ↦
          ap (λ v. v.items) w.errors-is ∙ c.loop-place.invariant
          ∙ sym (more ∙ ap (λ o. stream_errors look before ++ cons_option (error_at c.loop-place.place o) []) (code ∙ w.in_default.is) ∙ append-nil (stream_errors look before))
    ]
