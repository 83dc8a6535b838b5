use Rattle.std.proofs.Common.{◌≡◌, ◌≤◌, ◌<◌, ◌^◌, drop, sym, arith, ap, ◌∙◌, subst, refl, ℕ, List}
use Rattle.grpc_frame.specs.Held.{Held}
use Rattle.grpc_frame.specs.Messages.{IsInside}
use Rattle.grpc_frame.specs.Started.{missing_in}
use Rattle.grpc_frame.proofs.MessagesLemmas.{IsInside-more}
use Rattle.grpc_frame.proofs.StartedLemmas.{inside-short, inside-whole}
use Rattle.grpc_frame.proofs.deframer.Deframer.inside.Goals as goal

pub returns-then-missing-gt0-clause-inside : goal.returns-then-missing-gt0-clause-inside
returns-then-missing-gt0-clause-inside c =
    let inside : IsInside c.args.self.now.limit c.args.self.now.bytes =
    subst (λ (h : Held). IsInside h.limit h.bytes) c.self.view_is (inside-short c.self.inside.limit c.self.inside.started (drop c.self.inside.given c.self.inside.bytes.items) _ c.self.invariant.0 c.self.invariant.2 (omega (arith, c.missing.ensures)) refl)
    in
    (λ _. inside, λ _. refl)

pub returns-then-missing-gt0-clause-after_more : goal.returns-then-missing-gt0-clause-after_more
returns-then-missing-gt0-clause-after_more c more =
    let small : c.args.self.now.limit < 2 ^ 32 = subst (λ (h : Held). h.limit < 2 ^ 32) c.self.view_is c.self.invariant.0 in
    (λ yes. (IsInside-more c.args.self.now.limit c.args.self.now.bytes small more).0 ((returns-then-missing-gt0-clause-inside c).0 yes), λ _. refl)

pub returns-clause-inside : goal.returns-clause-inside
returns-clause-inside c =
    let rest : List ℕ = drop c.self.inside.given c.self.inside.bytes.items in
    let none : missing_in c.self.inside.started ≤ 0 = omega (arith, c.missing.ensures) in
    let same = inside-whole c.self.inside.limit c.self.inside.started rest _ c.self.invariant.0 c.self.invariant.2 none refl in
    let rest_is : c.behind.result.now ≡ rest = c.behind.ensures ∙ ap (drop c.self.inside.given) c.deref.ensures.value in (
      λ yes. subst (λ (h : Held). IsInside h.limit h.bytes) c.self.view_is (same.0 (subst (IsInside c.self.inside.limit) rest_is (c.ends_inside.ensures.0 yes))),
      λ inside. c.ends_inside.ensures.1 (subst (IsInside c.self.inside.limit) (sym rest_is) (same.1 (subst (λ (h : Held). IsInside h.limit h.bytes) (sym c.self.view_is) inside))),
    )

pub returns-clause-after_more : goal.returns-clause-after_more
returns-clause-after_more c more =
    let small : c.args.self.now.limit < 2 ^ 32 = subst (λ (h : Held). h.limit < 2 ^ 32) c.self.view_is c.self.invariant.0 in
    let both = IsInside-more c.args.self.now.limit c.args.self.now.bytes small more in
    (λ yes. both.0 ((returns-clause-inside c).0 yes), λ some. (returns-clause-inside c).1 (both.1 some))
