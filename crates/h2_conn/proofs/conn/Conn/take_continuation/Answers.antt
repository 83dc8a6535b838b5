-- The block goes on, or is whole and read.
use Rattle.std.proofs.Common.{◌≡◌, ℕ, Bool, true, false, List, Option, None, Some, refl, sym, ap, subst, ◌∙◌}
use Rattle.hpack_blocks.specs.Block.{block_of}
use Rattle.h2_frames.specs.declared.frame.Frame.TheVariants as frames
use Rattle.h2_record.specs.declared.block.OpenBlock.{OpenBlock}
use Rattle.h2_conn.specs.declared.whole_block.BlockTold.{BlockTold}
use Rattle.h2_record.specs.Blocks.{continued, table_of, reading_of}
use Rattle.h2_record.specs.Rules.{is_large, block_code}
use Rattle.h2_conn.specs.WholeBlock.{ReadsBlock}
use Rattle.h2_conn.specs.Held.{Held}
use Rattle.h2_conn.specs.Taking.{Settled, early_of, Took}
use Rattle.h2_record.proofs.FaultLemmas.{inside, is-inside, none-outside}
use Rattle.h2_conn.proofs.ContinuationSteps.{fails-large, fails-reading, counts-more, counts-last, takes-part, whole-of}
use Rattle.h2_conn.proofs.BlockSteps.{tells-of}
use Rattle.h2_conn.proofs.conn.Conn.take_continuation.Goals as goal

pub unreachable-requires : goal.unreachable-requires
unreachable-requires c =
    let held = c.args.self.now in
    none-outside held.block c.args.stream c.args.whole c.args.fragment (inside held.has_begun held.block held.streams.last c.args.stream c.args.whole c.args.fragment c.requires.early)
    (ap (λ (h : Held). h.block) (sym c.self.view_is) ∙ sym c.in_default.ensures.value)

pub returns-then-is_large : goal.returns-then-is_large
returns-then-is_large c = λ r s.
    let a = c.args in
    let whole = c.if-not-whole.true in
    let settled = subst (λ (h : Held). Settled h r) (sym c.self.view_is) s in
    let early = subst (λ (h : Held). early_of h (frames.Continuation a.stream false a.fragment) ≡ None) (sym c.self.view_is)
    (subst (λ (w : Bool). early_of a.self.now (frames.Continuation a.stream w a.fragment) ≡ None) whole c.requires.early) in
    let here = sym c.in-Some.ensures.value in
    let longer : c.in_ok-block.block ≡ continued a.fragment c.in-Some.open = c.in_ok-block.ensures ∙ ap (λ (b : List ℕ). continued b c.in-Some.open) c.bytes.ensures in
    let large : is_large (continued a.fragment c.in-Some.open) ≡ true = ap is_large (sym longer) ∙ sym c.is_large.ensures ∙ c.if-is_large.true in
    rw whole (rw c.take.ensures.after (fails-large _ r a.stream a.fragment c.in-Some.open settled here false _ early refl large))

pub returns-then-not-whole : goal.returns-then-not-whole
returns-then-not-whole c = λ r s.
    let a = c.args in
    let whole = c.if-not-whole.true in
    let settled = subst (λ (h : Held). Settled h r) (sym c.self.view_is) s in
    let early = subst (λ (h : Held). early_of h (frames.Continuation a.stream false a.fragment) ≡ None) (sym c.self.view_is)
    (subst (λ (w : Bool). early_of a.self.now (frames.Continuation a.stream w a.fragment) ≡ None) whole c.requires.early) in
    let here = sym c.in-Some.ensures.value in
    let longer : c.in_ok-block.block ≡ continued a.fragment c.in-Some.open = c.in_ok-block.ensures ∙ ap (λ (b : List ℕ). continued b c.in-Some.open) c.bytes.ensures in
    let small : is_large (continued a.fragment c.in-Some.open) ≡ false = ap is_large (sym longer) ∙ sym c.is_large.ensures ∙ c.if-is_large.false in
    rw whole (rw longer (takes-part _ r a.stream a.fragment (counts-more _ r a.stream a.fragment c.in-Some.open settled here early small)))

pub returns-in_default-2 : goal.returns-in_default-2
returns-in_default-2 c = λ r s.
    let a = c.args in
    let whole = c.if-not-whole.false in
    let settled = subst (λ (h : Held). Settled h r) (sym c.self.view_is) s in
    let early = subst (λ (h : Held). early_of h (frames.Continuation a.stream true a.fragment) ≡ None) (sym c.self.view_is)
    (subst (λ (w : Bool). early_of a.self.now (frames.Continuation a.stream w a.fragment) ≡ None) whole c.requires.early) in
    let here = sym c.in-Some.ensures.value in
    let longer : c.in_ok-block.block ≡ continued a.fragment c.in-Some.open = c.in_ok-block.ensures ∙ ap (λ (b : List ℕ). continued b c.in-Some.open) c.bytes.ensures in
    let hears : ReadsBlock (continued a.fragment c.in-Some.open) (reading_of r (continued a.fragment c.in-Some.open)) None c.read_block.new.decoder =
    subst (λ (b : OpenBlock). ReadsBlock b (reading_of r b) None c.read_block.new.decoder) longer
    (subst (λ (h : Option BlockTold). ReadsBlock c.in_ok-block.block (block_of (table_of r) c.in_ok-block.block.bytes) h c.read_block.new.decoder) c.in_default-2.is (c.in_ok-told.ensures (table_of r) settled.table)) in
    rw whole (rw c.take.ensures.after (fails-reading _ r a.stream a.fragment c.in-Some.open settled here c.read_block.new.decoder early hears))

pub returns-then-is_large-2 : goal.returns-then-is_large-2
returns-then-is_large-2 c = λ r s.
    let a = c.args in
    let whole = c.if-not-whole.false in
    let settled = subst (λ (h : Held). Settled h r) (sym c.self.view_is) s in
    let early = subst (λ (h : Held). early_of h (frames.Continuation a.stream true a.fragment) ≡ None) (sym c.self.view_is)
    (subst (λ (w : Bool). early_of a.self.now (frames.Continuation a.stream w a.fragment) ≡ None) whole c.requires.early) in
    let here = sym c.in-Some.ensures.value in
    let longer : c.in_ok-block.block ≡ continued a.fragment c.in-Some.open = c.in_ok-block.ensures ∙ ap (λ (b : List ℕ). continued b c.in-Some.open) c.bytes.ensures in
    let hears : ReadsBlock (continued a.fragment c.in-Some.open) (reading_of r (continued a.fragment c.in-Some.open)) (Some c.in-Some-2.told) c.read_block.new.decoder =
    subst (λ (b : OpenBlock). ReadsBlock b (reading_of r b) (Some c.in-Some-2.told) c.read_block.new.decoder) longer
    (subst (λ (h : Option BlockTold). ReadsBlock c.in_ok-block.block (block_of (table_of r) c.in_ok-block.block.bytes) h c.read_block.new.decoder) c.in-Some-2.is (c.in_ok-told.ensures (table_of r) settled.table)) in
    let large : is_large (continued a.fragment c.in-Some.open) ≡ true = ap is_large (sym longer) ∙ sym c.is_large-2.ensures ∙ c.if-is_large-2.true in
    let tells = tells-of r (frames.Continuation a.stream true a.fragment) (continued a.fragment c.in-Some.open) c.in-Some-2.told c.read_block.new.decoder (whole-of _ r a.stream a.fragment c.in-Some.open settled here) hears in
    rw whole (rw c.take.ensures.after (fails-large _ r a.stream a.fragment c.in-Some.open settled here true _ early (ap (block_code r) (whole-of _ r a.stream a.fragment c.in-Some.open settled here) ∙ tells.2) large))

pub returns : goal.returns
returns c = λ r s.
    let a = c.args in
    let whole = c.if-not-whole.false in
    let settled = subst (λ (h : Held). Settled h r) (sym c.self.view_is) s in
    let early = subst (λ (h : Held). early_of h (frames.Continuation a.stream true a.fragment) ≡ None) (sym c.self.view_is)
    (subst (λ (w : Bool). early_of a.self.now (frames.Continuation a.stream w a.fragment) ≡ None) whole c.requires.early) in
    let here = sym c.in-Some.ensures.value in
    let longer : c.in_ok-block.block ≡ continued a.fragment c.in-Some.open = c.in_ok-block.ensures ∙ ap (λ (b : List ℕ). continued b c.in-Some.open) c.bytes.ensures in
    let hears : ReadsBlock (continued a.fragment c.in-Some.open) (reading_of r (continued a.fragment c.in-Some.open)) (Some c.in-Some-2.told) c.read_block.new.decoder =
    subst (λ (b : OpenBlock). ReadsBlock b (reading_of r b) (Some c.in-Some-2.told) c.read_block.new.decoder) longer
    (subst (λ (h : Option BlockTold). ReadsBlock c.in_ok-block.block (block_of (table_of r) c.in_ok-block.block.bytes) h c.read_block.new.decoder) c.in-Some-2.is (c.in_ok-told.ensures (table_of r) settled.table)) in
    let small : is_large (continued a.fragment c.in-Some.open) ≡ false = ap is_large (sym longer) ∙ sym c.is_large-2.ensures ∙ c.if-is_large-2.false in
    let tells = tells-of r (frames.Continuation a.stream true a.fragment) (continued a.fragment c.in-Some.open) c.in-Some-2.told c.read_block.new.decoder (whole-of _ r a.stream a.fragment c.in-Some.open settled here) hears in
    let same = is-inside a.self.now.block a.stream true a.fragment c.in-Some.open (inside a.self.now.has_begun a.self.now.block a.self.now.streams.last a.stream true a.fragment (subst (λ (w : Bool). early_of a.self.now (frames.Continuation a.stream w a.fragment) ≡ None) whole c.requires.early)) (ap (λ (h : Held). h.block) (sym c.self.view_is) ∙ here) in
    let counts = counts-last _ r a.stream a.fragment c.in-Some.open settled here c.read_block.new.decoder c.in-Some-2.told early small hears in
    subst (λ (w : Bool). Took r (frames.Continuation a.stream w a.fragment) c.in_ok-taken.taken c.serve_block.new.self) (sym whole)
    (c.in_ok-taken.ensures r a.fragment (continued a.fragment c.in-Some.open) (rw c.take.ensures.after counts) tells.0 (whole-of _ r a.stream a.fragment c.in-Some.open settled here) same (ap (λ (b : OpenBlock). b.is_late) (sym longer)))
