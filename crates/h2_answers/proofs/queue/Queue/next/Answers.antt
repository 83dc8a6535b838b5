use Rattle.std.proofs.Common.{◌≡◌, ◌+◌, [], ◌∷◌, drop, length, None, Some, sym, ap, ◌∙◌, arith}
use Rattle.std.proofs.lemmas.Bool.{leb-true, leb-false}
use Rattle.std.proofs.lemmas.List.{nil_from_length}
use Rattle.h2_answers.specs.declared.part.Part.TheVariants as part
use Rattle.h2_answers.specs.Bounds.{Bounds, bounds_of}
use Rattle.h2_answers.specs.Waiting.{data_of}
use Rattle.h2_answers.specs.Due.{block_of}
use Rattle.h2_answers.proofs.DueLemmas.{none-head, best-head, none-tail, best-tail, none-reset, best-reset, begins-with, IsNextPart-then_some}
use Rattle.h2_answers.proofs.queue.Queue.next.Goals as goal

pub returns-in-Some : goal.returns-in-Some
returns-in-Some g c =
    let bounds : Bounds = bounds_of (g.L.Limits.windows c.args.limits.now) (g.L.Limits.holds c.args.limits.now) c.args.connection c.args.first c.args.room in
    let head : c.args.self.now.head ≡ Some c.in-Some.head = sym (ap (λ w. w.head) c.self.view_is) ∙ c.in-Some.is in
    let len = 9 + length (block_of c.args.first c.in-Some.head.block) in
    rw (c.then_some.ensures, c.headers_fit.ensures)
    (IsNextPart-then_some bounds c.args.id c.args.self.now _ (part.Head c.in-Some.head.end)
    (λ fits. best-head bounds c.args.id c.args.self.now c.in-Some.head head (leb-true len c.args.room fits))
    (λ large. none-head bounds c.args.id c.args.self.now c.in-Some.head head (leb-false len c.args.room large)))

pub returns-in-Some-tail : goal.returns-in-Some-tail
returns-in-Some-tail g c =
    let bounds : Bounds = bounds_of (g.L.Limits.windows c.args.limits.now) (g.L.Limits.holds c.args.limits.now) c.args.connection c.args.first c.args.room in
    let head : c.args.self.now.head ≡ None = sym (ap (λ w. w.head) c.self.view_is) ∙ c.in_default.is in
    let count : c.bytes.result ≡ length (data_of c.args.self.now) = c.bytes.ensures.value ∙ ap (λ w. length (data_of w)) c.self.view_is in
    let none : data_of c.args.self.now ≡ [] = nil_from_length (data_of c.args.self.now) (omega arith) in
    let tail : c.args.self.now.tail ≡ Some c.in-Some-tail.block = sym (ap (λ w. w.tail) c.self.view_is) ∙ c.in-Some-tail.is in
    let len = 9 + length (block_of c.args.first c.in-Some-tail.block) in
    rw (c.then_some-in-Some-tail.ensures, c.headers_fit-in-Some-tail.ensures)
    (IsNextPart-then_some bounds c.args.id c.args.self.now _ part.Tail
    (λ fits. best-tail bounds c.args.id c.args.self.now c.in-Some-tail.block head none tail (leb-true len c.args.room fits))
    (λ large. none-tail bounds c.args.id c.args.self.now c.in-Some-tail.block head none tail (leb-false len c.args.room large)))

pub returns-in-Some-front : goal.returns-in-Some-front
returns-in-Some-front g c =
    let bounds : Bounds = bounds_of (g.L.Limits.windows c.args.limits.now) (g.L.Limits.holds c.args.limits.now) c.args.connection c.args.first c.args.room in
    let head : c.args.self.now.head ≡ None = sym (ap (λ w. w.head) c.self.view_is) ∙ c.in_default.is in
    let count : c.bytes.result ≡ length (data_of c.args.self.now) = c.bytes.ensures.value ∙ ap (λ w. length (data_of w)) c.self.view_is in
    let none : data_of c.args.self.now ≡ [] = nil_from_length (data_of c.args.self.now) (omega arith) in
    let tail : c.args.self.now.tail ≡ None = sym (ap (λ w. w.tail) c.self.view_is) ∙ c.in_default-tail.is in
    let first = begins-with c.self.inside.resets.items c.in-Some-front.code.now c.in-Some-front.ensures.item.3.0 c.in-Some-front.ensures.lookup in
    let resets : c.args.self.now.resets ≡ c.in-Some-front.code.now ∷ drop 1 c.args.self.now.resets = rw (← c.self.view_is) first in
    best-reset bounds c.args.id c.args.self.now c.in-Some-front.code.now head none tail resets (sym c.if-not-is_held.ensures) c.if-room-ge-RESET_LEN.true

pub returns-in_default-front-2 : goal.returns-in_default-front-2
returns-in_default-front-2 g c =
    let bounds : Bounds = bounds_of (g.L.Limits.windows c.args.limits.now) (g.L.Limits.holds c.args.limits.now) c.args.connection c.args.first c.args.room in
    let head : c.args.self.now.head ≡ None = sym (ap (λ w. w.head) c.self.view_is) ∙ c.in_default.is in
    let count : c.bytes.result ≡ length (data_of c.args.self.now) = c.bytes.ensures.value ∙ ap (λ w. length (data_of w)) c.self.view_is in
    let none : data_of c.args.self.now ≡ [] = nil_from_length (data_of c.args.self.now) (omega arith) in
    let tail : c.args.self.now.tail ≡ None = sym (ap (λ w. w.tail) c.self.view_is) ∙ c.in_default-tail.is in
    none-reset bounds c.args.id c.args.self.now head none tail (λ code first free fits. omega (arith, fits, c.if-room-ge-RESET_LEN.false))
