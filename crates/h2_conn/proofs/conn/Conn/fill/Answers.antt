-- Each frame is one more of those that went.
use Rattle.std.proofs.Common.{◌≡◌, Bool, length, subst, arith}
use Rattle.h2_conn.specs.Produces.{ProducesInto}
use Rattle.h2_conn.proofs.FillSteps.{filling-none, filling-more, filling-sound, taken-rest, taken-some}
use Rattle.h2_conn.proofs.conn.Conn.fill.Goals as goal

pub loop-out-init : goal.loop-out-init
loop-out-init c = filling-none c.args.self.now c.args.room c.args.out.now.items

pub loop-out-preserved : goal.loop-out-preserved
loop-out-preserved c =
    let now = c.loop-out.self in
    let left = c.loop-out.left in
    let next = c.produce_into.new.self in
    let after = c.loop-out.out.items in
    let behind = c.produce_into.new.out.items in
    let went = subst (λ (b : Bool). ProducesInto now left b after behind next) c.if-not-branch.false c.in_ok-produce_into.ensures.produced in
    let n : c.len-before.result ≡ length after = grind arith in
    let m : c.len.result ≡ length behind = grind arith in
    filling-more c.args.self.now c.args.room c.args.out.now.items left now after next behind c.loop-out.invariant went c.in_ok-produce_into.ensures.stays_lost _
    (taken-rest now left next after behind c.len-before.result c.len.result went n m)

pub loop-out-smaller : goal.loop-out-smaller
loop-out-smaller c =
    let now = c.loop-out.self in
    let left = c.loop-out.left in
    let next = c.produce_into.new.self in
    let after = c.loop-out.out.items in
    let behind = c.produce_into.new.out.items in
    let went = subst (λ (b : Bool). ProducesInto now left b after behind next) c.if-not-branch.false c.in_ok-produce_into.ensures.produced in
    let n : c.len-before.result ≡ length after = grind arith in
    let m : c.len.result ≡ length behind = grind arith in
    taken-some now left next after behind c.len-before.result c.len.result went n m

pub returns-then-not-branch-clause-stays_lost : goal.returns-then-not-branch-clause-stays_lost
returns-then-not-branch-clause-stays_lost c =
    filling-sound c.args.self.now c.args.room c.args.out.now.items c.loop-out.left c.loop-out.self c.loop-out.out.items c.loop-out.invariant c.in_ok-produce_into.ensures.stays_lost
