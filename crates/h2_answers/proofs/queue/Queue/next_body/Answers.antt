use Rattle.std.proofs.Common.{◌≡◌, length, ap, ◌∙◌, arith}
use Rattle.std.proofs.lemmas.Int.{ints}
use Rattle.std.proofs.lemmas.Bool.{ltb-true, ltb-false}
use Rattle.h2_answers.specs.declared.part.Part.TheVariants as part
use Rattle.h2_answers.specs.Bounds.{Bounds, bounds_of}
use Rattle.h2_answers.specs.Waiting.{data_of}
use Rattle.h2_answers.specs.Search.{IsGreatestLen}
use Rattle.h2_answers.proofs.DueLemmas.{none-body, best-body, IsGreatestLen-same, IsNextPart-then_some}
use Rattle.h2_answers.proofs.queue.Queue.next_body.Goals as goal

pub returns : goal.returns
returns g c =
    let bounds : Bounds = bounds_of (g.L.Limits.windows c.args.limits.now) (g.L.Limits.holds c.args.limits.now) c.args.connection c.args.first c.args.room in
    let count : c.bytes.result ≡ length (data_of c.args.self.now) = c.bytes.ensures.value ∙ ap (λ w. length (data_of w)) c.self.view_is in
    let greatest : IsGreatestLen c.args.room c.args.connection (g.L.Limits.windows c.args.limits.now c.args.id) (length (data_of c.args.self.now)) c.body_len-len.result =
    IsGreatestLen-same c.body_len-len.ensures (omega (arith, ints)) (omega (arith, ints)) count in
    rw c.then_some.ensures
    (IsNextPart-then_some bounds c.args.id c.args.self.now _ (part.Body c.body_len-len.result)
    (λ more. best-body bounds c.args.id c.args.self.now c.body_len-len.result (ltb-true 0 c.body_len-len.result more) c.requires.head greatest)
    (λ less. let zero : c.body_len-len.result ≡ 0 = omega (arith, ltb-false 0 c.body_len-len.result less) in
    none-body bounds c.args.id c.args.self.now c.requires.head c.requires.some (rw (← zero) greatest)))
