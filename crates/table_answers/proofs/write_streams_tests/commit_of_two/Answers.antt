-- The one stream is PENDING and finalised.
use Rattle.std.proofs.Common.{[], ◌∷◌, ◌++◌, Some, ap, ◌∙◌}
use Rattle.std.specs.Prelude.{if◌then◌else◌, pos}
use Rattle.std.specs.List.{cons_option}
use Rattle.std.specs.Option.{option_map}
use Rattle.table_model.specs.declared.streams.StreamKind.TheVariants as kind
use Rattle.table_model.specs.declared.streams.StreamRef.TheVariants as stream
use Rattle.table_model.specs.Streams.{is_one_stream}
use Rattle.table_model.specs.Checks.{error_at, stream_code}
use Rattle.write_streams.specs.Book.{Book, find, unused, with_finalised}
use Rattle.table_answers.proofs.write_streams_tests.commit_of_two.Goals as goal

pub commit-requires : goal.commit-requires
commit-requires g c =
    let first = stream.Number 1 in
    let push : Book → Book = λ book. record book { created = book.created ++ unused kind.Pending (Some (pos 7)) ∷ [] } in
    let added = c.in_ok-add.ensures.added.1 ∙ ap push c.new-book.ensures.empty in
    let found = c.finalise.ensures.changes.found first ∙ ap (λ book. option_map (λ state. if is_one_stream first first then with_finalised state else state) (find book first)) added in
    ap (λ state. cons_option (error_at 0 (stream_code state)) []) found
