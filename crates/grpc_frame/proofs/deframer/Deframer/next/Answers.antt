use Rattle.std.proofs.Common.{◌≡◌, ◌≤◌, ◌++◌, drop, sym, arith, ap, ◌∙◌}
use Rattle.grpc_frame.specs.Held.{Held}
use Rattle.grpc_frame.specs.Part.{part_of}
use Rattle.grpc_frame.specs.Started.{started_bytes, missing_in}
use Rattle.grpc_frame.proofs.PartLemmas.{message-taken}
use Rattle.grpc_frame.proofs.StartedLemmas.{part_of-short, whole-taken, whole-part}
use Rattle.grpc_frame.proofs.deframer.Deframer.next.Goals as goal

pub returns-then-missing-gt0-clause-part : goal.returns-then-missing-gt0-clause-part
returns-then-missing-gt0-clause-part c =
    let limit_is : c.self.inside.limit ≡ c.args.self.now.limit = ap (λ (h : Held). h.limit) c.self.view_is in
    part_of-short c.self.inside.limit c.self.inside.started _ _ c.self.invariant.0 c.self.invariant.2 (omega (arith, c.missing.ensures)) (ap (λ (h : Held). h.bytes) c.self.view_is)
    ∙ ap (λ n. part_of n c.args.self.now.bytes) limit_is

pub returns-in-Some-clause-part : goal.returns-in-Some-clause-part
returns-in-Some-clause-part c =
    let limit_is : c.self.inside.limit ≡ c.args.self.now.limit = ap (λ (h : Held). h.limit) c.self.view_is in
    let none : missing_in c.self.inside.started ≤ 0 = omega (arith, c.missing.ensures) in
    let taken = whole-taken c.self.inside.limit c.self.inside.started c.in-Some.message _ _ (sym c.take.ensures.value ∙ c.in-Some.is) c.self.invariant.2 none (ap (λ (h : Held). h.bytes) c.self.view_is) in
    rw c.from_vec.ensures (whole-part c.self.inside.limit c.in-Some.message.bytes.items _ _ c.self.invariant.0 taken ∙ ap (λ n. part_of n c.args.self.now.bytes) limit_is)

pub returns-in-Some-clause-takes : goal.returns-in-Some-clause-takes
returns-in-Some-clause-takes c =
    let limit_is : c.self.inside.limit ≡ c.args.self.now.limit = ap (λ (h : Held). h.limit) c.self.view_is in
    let none : missing_in c.self.inside.started ≤ 0 = omega (arith, c.missing.ensures) in
    let taken = whole-taken c.self.inside.limit c.self.inside.started c.in-Some.message _ _ (sym c.take.ensures.value ∙ c.in-Some.is) c.self.invariant.2 none (ap (λ (h : Held). h.bytes) c.self.view_is) in
    rw (c.take.ensures.after, c.from_vec.ensures) (taken.0, omega (arith, taken.1, limit_is))

pub returns-in_ok-message-in-Whole-clause-takes : goal.returns-in_ok-message-in-Whole-clause-takes
returns-in_ok-message-in-Whole-clause-takes c =
    let limit_is : c.self.inside.limit ≡ c.args.self.now.limit = ap (λ (h : Held). h.limit) c.self.view_is in
    let no_message = sym c.take.ensures.value ∙ c.in_default.is in
    let held : drop c.self.inside.given c.self.inside.bytes.items ≡ c.args.self.now.bytes =
    ap (λ s. started_bytes s ++ drop c.self.inside.given c.self.inside.bytes.items) (sym no_message) ∙ ap (λ (h : Held). h.bytes) c.self.view_is
    in
    let from : drop c.self.inside.given c.self.inside.bytes.items ≡ c.behind-held.result.now =
    sym (c.behind-held.ensures ∙ ap (drop c.self.inside.given) c.deref.ensures.value)
    in
    let taken = message-taken c.self.inside.limit c.in-Whole.len c.self.inside.given _ _ c.in_ok-message-in-Whole.message from c.in_ok-message-in-Whole.ensures c.in-Whole.ensures.spelled in
    rw c.take.ensures.after (sym held ∙ from ∙ taken.0, omega (arith, taken.1, limit_is))
