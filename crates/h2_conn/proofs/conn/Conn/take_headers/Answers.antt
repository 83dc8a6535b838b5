-- The block goes on, or is whole and read.
use Rattle.std.proofs.Common.{◌≡◌, Bool, true, false, not, nat_lt, Option, None, Some, refl, sym, subst, ◌∙◌}
use Rattle.h2_frames.specs.declared.frame.Frame.TheVariants as frames
use Rattle.h2_record.specs.declared.block.OpenBlock.{OpenBlock}
use Rattle.hpack_blocks.specs.Block.{block_of}
use Rattle.h2_conn.specs.declared.whole_block.BlockTold.{BlockTold}
use Rattle.h2_record.specs.Blocks.{begun_block, table_of, reading_of}
use Rattle.h2_conn.specs.WholeBlock.{ReadsBlock}
use Rattle.h2_conn.specs.Held.{Held}
use Rattle.h2_conn.specs.Taking.{Settled, early_of, Took}
use Rattle.h2_record.proofs.FaultLemmas.{not-even}
use Rattle.h2_conn.proofs.BlockSteps.{fails-block, counts-part, counts-whole, tells-of}
use Rattle.h2_conn.proofs.conn.Conn.take_headers.Goals as goal

pub serve_headers-requires-clause-odd : goal.serve_headers-requires-clause-odd
serve_headers-requires-clause-odd c = let held = c.args.self.now in not-even held.has_begun held.block held.streams.last c.args.stream c.args.ended c.args.whole c.args.fragment c.requires.early

pub serve_headers-requires-2-clause-odd : goal.serve_headers-requires-2-clause-odd
serve_headers-requires-2-clause-odd c = let held = c.args.self.now in not-even held.has_begun held.block held.streams.last c.args.stream c.args.ended c.args.whole c.args.fragment c.requires.early

pub returns-then-not-whole : goal.returns-then-not-whole
returns-then-not-whole c = λ r s.
    let a = c.args in
    let part = c.if-not-whole.true in
    let settled = subst (λ (h : Held). Settled h r) (sym c.self.view_is) s in
    let early = subst (λ (h : Held). early_of h (frames.Headers a.stream a.ended false a.fragment) ≡ None) (sym c.self.view_is)
    (subst (λ (w : Bool). early_of a.self.now (frames.Headers a.stream a.ended w a.fragment) ≡ None) part c.requires.early) in
    let last = c.last.ensures ∙ settled.streams.last in
    subst (λ (w : Bool). Took r (frames.Headers a.stream a.ended w a.fragment) c.in_ok-taken.taken c.serve_headers.new.self) (sym part)
    (c.in_ok-taken.ensures r false a.fragment (rw last (counts-part _ r a.stream a.ended a.fragment settled c.requires.small early)) refl)

pub returns-in_default : goal.returns-in_default
returns-in_default c = λ r s.
    let a = c.args in
    let whole = c.if-not-whole.false in
    let settled = subst (λ (h : Held). Settled h r) (sym c.self.view_is) s in
    let early = subst (λ (h : Held). early_of h (frames.Headers a.stream a.ended true a.fragment) ≡ None) (sym c.self.view_is)
    (subst (λ (w : Bool). early_of a.self.now (frames.Headers a.stream a.ended w a.fragment) ≡ None) whole c.requires.early) in
    let block : OpenBlock = record { stream = a.stream; ended = a.ended; is_late = not (nat_lt c.last.result a.stream); bytes = a.fragment; continuations = 0 } in
    let hears = subst (λ (h : Option BlockTold). ReadsBlock block (block_of (table_of r) a.fragment) h c.read_block.new.decoder) c.in_default.is (c.in_ok-told.ensures (table_of r) settled.table) in
    rw whole (fails-block _ r a.stream a.ended a.fragment settled c.requires.small c.read_block.new.decoder None early hears)

pub returns : goal.returns
returns c = λ r s.
    let a = c.args in
    let whole = c.if-not-whole.false in
    let settled = subst (λ (h : Held). Settled h r) (sym c.self.view_is) s in
    let early = subst (λ (h : Held). early_of h (frames.Headers a.stream a.ended true a.fragment) ≡ None) (sym c.self.view_is)
    (subst (λ (w : Bool). early_of a.self.now (frames.Headers a.stream a.ended w a.fragment) ≡ None) whole c.requires.early) in
    let last = c.last.ensures ∙ settled.streams.last in
    let block : OpenBlock = record { stream = a.stream; ended = a.ended; is_late = not (nat_lt c.last.result a.stream); bytes = a.fragment; continuations = 0 } in
    let hears : ReadsBlock (begun_block r a.stream a.ended a.fragment) (reading_of r (begun_block r a.stream a.ended a.fragment)) (Some c.in-Some.told) c.read_block.new.decoder =
    rw last at (subst (λ (h : Option BlockTold). ReadsBlock block (block_of (table_of r) a.fragment) h c.read_block.new.decoder) c.in-Some.is (c.in_ok-told.ensures (table_of r) settled.table)) in
    let tells = tells-of r (frames.Headers a.stream a.ended true a.fragment) (begun_block r a.stream a.ended a.fragment) c.in-Some.told c.read_block.new.decoder refl hears in
    subst (λ (w : Bool). Took r (frames.Headers a.stream a.ended w a.fragment) c.in_ok-taken-2.taken c.serve_headers-2.new.self) (sym whole)
    (c.in_ok-taken-2.ensures r true a.fragment (counts-whole _ r a.stream a.ended a.fragment settled c.requires.small c.read_block.new.decoder c.in-Some.told early hears) tells.0)
