-- Each message is read behind those before it, and those within it are next.
use Rattle.std.proofs.Common.{◌≡◌, [], ◌∷◌, List, Ok, ap, subst, ◌∙◌, arith}
use Rattle.std.specs.List.{AllByRecursion}
use Rattle.std.proofs.lemmas.List.{nil_from_length}
use Rattle.schema_msgs.specs.Walk.{Message, message_in, order, work, LiesIn}
use Rattle.schema_msgs.proofs.WalkLemmas.{Reads, order_push, reads_none, reads_more, reads_all, within_work, within_deep}
use Rattle.schema_msgs.proofs.walks.read_nested.Goals as goal

pub loop-next-init : goal.loop-next-init
loop-next-init c = rw c.in_ok-waiting.ensures (record { reads = reads_none c.args.bytes.now (Ok c.new.result) (ap Ok c.new.ensures.items); lie = (omega arith, tt) })

pub loop-next-smaller : goal.loop-next-smaller
loop-next-smaller c =
    let popped : order c.loop-next.waiting.items ≡ message_in c.in-Some.next ∷ order c.pop.new.self.items = ap order c.in-Some.ensures.items ∙ order_push c.pop.new.self.items c.in-Some.next in
    let less = within_work (message_in c.in-Some.next) (order c.pop.new.self.items) in
    omega (arith, ap work c.in_ok-own.ensures.within, ap work popped, less)

pub loop-next-preserved : goal.loop-next-preserved
loop-next-preserved c =
    let m : Message = message_in c.in-Some.next in
    let others : List Message = order c.pop.new.self.items in
    let popped : order c.loop-next.waiting.items ≡ m ∷ others = ap order c.in-Some.ensures.items ∙ order_push c.pop.new.self.items c.in-Some.next in
    rw c.in_ok-own.ensures.within (record {
      reads = reads_more _ c.loop-next.read c.with_item-read.result c.in_ok-own.own m others (subst (Reads _ c.loop-next.read) popped c.loop-next.invariant.reads) c.in_ok-own.ensures.own c.with_item-read.ensures;
      lie = within_deep _ m others (subst (AllByRecursion (LiesIn _)) popped c.loop-next.invariant.lie);
    })

pub returns : goal.returns
returns c =
    let none : c.loop-next.waiting.items ≡ [] = nil_from_length c.loop-next.waiting.items (omega (arith, c.in_default.ensures.cases.0, c.loop-next.waiting.ok.0)) in
    reads_all _ c.loop-next.read (subst (Reads _ c.loop-next.read) (ap order none) c.loop-next.invariant.reads)
