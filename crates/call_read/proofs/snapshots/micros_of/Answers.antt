-- The sum is within 64 bits, and so is all before it.
use mir.Syntax.{w64}
use Rattle.std.proofs.Common.{rules, ◌≡◌, ℤ, pos, ◌+ℤ◌, ◌*ℤ◌, FitsSigned, to_z, of_z, ap, ◌∙◌}
use Rattle.std.proofs.lemmas.Int.{to_z-of_z}
use Rattle.std.specs.Int.{int_div_euclid}
use Rattle.call_read.proofs.snapshots.micros_of.Goals as goal

pub returns : goal.returns
returns c =
    let seconds : ℤ = c.args.time.now.seconds in
    let behind : ℤ = int_div_euclid c.args.time.now.nanos (pos 1_000) in
    let product : FitsSigned w64 (seconds *ℤ pos 1_000_000) = search rules in
    let sum : FitsSigned w64 (seconds *ℤ pos 1_000_000 +ℤ behind) = search rules in
    let stored_seconds : to_z w64 (of_z w64 seconds) ≡ seconds = search rules in
    let stored_behind : to_z w64 (of_z w64 c.from.result) ≡ behind = search rules in
    ap (λ s. to_z w64 (of_z w64 (to_z w64 (of_z w64 (s *ℤ pos 1_000_000)) +ℤ to_z w64 (of_z w64 c.from.result)))) stored_seconds
    ∙ ap (λ p. to_z w64 (of_z w64 (p +ℤ to_z w64 (of_z w64 c.from.result)))) (to_z-of_z w64 (seconds *ℤ pos 1_000_000) product)
    ∙ ap (λ n. to_z w64 (of_z w64 (seconds *ℤ pos 1_000_000 +ℤ n))) stored_behind
    ∙ to_z-of_z w64 (seconds *ℤ pos 1_000_000 +ℤ behind) sum
