use Rattle.std.proofs.Common.{◌≡◌, ℕ, List, ◌++◌, false, true, ap, ◌∙◌, sym, arith}
use Rattle.std.specs.Prelude.{nat_eq}
use Rattle.std.specs.List.{starts_with}
use Rattle.h2_frames.specs.Reading.{preface}
use Rattle.h2_frames.proofs.HeldLemmas.{fed-payload, fed-header, fed-preface, fed-start, kept-header, kept-payload}
use Rattle.h2_frames.proofs.reader.FrameReader.feed.Goals as goal

pub invariant_of-self-then-len-lt-HEADER_LEN : goal.invariant_of-self-then-len-lt-HEADER_LEN
invariant_of-self-then-len-lt-HEADER_LEN c =
    kept-header _ c.self.inside.front.items _ _ c.args.bytes.now c.args.self.now c.self.invariant c.if-self.true (omega (arith, c.if-len-lt-HEADER_LEN.true, c.len.ensures, c.self.inside.front.ok))
    c.in_ok-extend_from_slice.ensures.items c.requires c.self.view_is

pub returns-then-len-lt-HEADER_LEN-clause-ok : goal.returns-then-len-lt-HEADER_LEN-clause-ok
returns-then-len-lt-HEADER_LEN-clause-ok c =
    fed-header c.self.inside.started c.self.inside.front.items c.self.inside.payload.items _ c.args.bytes.now c.args.self.now c.self.invariant c.if-self.true (omega (arith, c.if-len-lt-HEADER_LEN.true, c.len.ensures, c.self.inside.front.ok))
    c.in_ok-extend_from_slice.ensures.items c.self.view_is

pub invariant_of-self-then-self : goal.invariant_of-self-then-self
invariant_of-self-then-self c =
    let grown = c.in_ok-extend_from_slice-2.ensures.items ∙ ap (λ (xs : List ℕ). xs ++ c.args.bytes.now) c.reserve_exact.ensures.items in
    kept-payload _ _ c.self.inside.payload.items _ c.args.bytes.now c.args.self.now c.self.invariant c.if-self.true (omega (arith, c.if-len-lt-HEADER_LEN.false, c.len.ensures, c.self.inside.front.ok))
    grown c.requires c.self.view_is

pub returns-then-self-clause-ok : goal.returns-then-self-clause-ok
returns-then-self-clause-ok c =
    let grown = c.in_ok-extend_from_slice-2.ensures.items ∙ ap (λ (xs : List ℕ). xs ++ c.args.bytes.now) c.reserve_exact.ensures.items in
    fed-payload c.self.inside.started c.self.inside.front.items c.self.inside.payload.items _ c.args.bytes.now c.args.self.now c.if-self.true grown c.self.view_is

pub returns-then-starts_with-clause-ok : goal.returns-then-starts_with-clause-ok
unfolding preface
returns-then-starts_with-clause-ok c =
    let whole : starts_with nat_eq c.extend_from_slice-2.new.self.items preface ≡ true =
    ap (λ (xs : List ℕ). starts_with nat_eq xs preface) (sym c.deref.ensures.value) ∙ sym c.starts_with.ensures.value ∙ c.if-starts_with.true in
    fed-start c.self.inside.started c.self.inside.front.items c.self.inside.payload.items _ c.args.bytes.now _ c.args.self.now c.self.invariant c.if-self.false
    c.in_ok-extend_from_slice-3.ensures.items whole c.requires c.clear.ensures.items c.self.view_is

pub returns-clause-ok : goal.returns-clause-ok
unfolding preface
returns-clause-ok c =
    let other : starts_with nat_eq c.extend_from_slice-2.new.self.items preface ≡ false =
    ap (λ (xs : List ℕ). starts_with nat_eq xs preface) (sym c.deref.ensures.value) ∙ sym c.starts_with.ensures.value ∙ c.if-starts_with.false in
    fed-preface c.self.inside.started c.self.inside.front.items c.self.inside.payload.items _ c.args.bytes.now c.args.self.now c.self.invariant c.if-self.false
    c.in_ok-extend_from_slice-3.ensures.items other c.self.view_is
