-- A new connection stands for the empty record.
use Rattle.std.proofs.Common.{◌≡◌, ℕ, List, [], refl, sym, subst}
use Rattle.h2_streams.specs.Book.{Book, no_streams}
use Rattle.h2_answers.specs.Waiting.{Waiting}
use Rattle.h2_record.specs.Live.{is_live_with}
use Rattle.h2_conn.specs.Stands.{StreamsStand}

no-streams-stand : StreamsStand no_streams [] []
unfolding is_live_with
no-streams-stand = record { last = refl; remembered = refl; found = λ id. refl; live = refl; waits = λ id. record { text = refl; resets = refl }; fresh = λ id above. (refl, refl) }

pub streams-stand : (streams : Book) (answers : List (ℕ × Waiting)) → streams ≡ no_streams → answers ≡ [] → StreamsStand streams answers []
streams-stand streams answers is_new none =
    subst (λ (s : Book). StreamsStand s answers []) (sym is_new) (subst (λ (a : List (ℕ × Waiting)). StreamsStand no_streams a []) (sym none) no-streams-stand)
