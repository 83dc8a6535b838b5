use Rattle.std.proofs.Common.{◌∙◌, sym, arith}
use Rattle.std.proofs.lemmas.List.{nil_from_length}
use Rattle.hpack_blocks.proofs.TableLemmas.{gone, gone_newest, nothing_left, newest-all}
use Rattle.hpack_blocks.proofs.dynamic_table.drop_oldest.Goals as goal

pub unreachable-requires : goal.unreachable-requires
unreachable-requires c =
    let none = nil_from_length c.loop-size.entries.items (omega (arith, c.loop-size.entries.ok.0, c.in_default.ensures.cases.0)) in
    omega (arith, nothing_left c.loop-size.size c.loop-size.entries.items none c.loop-size.invariant.0)

pub overflow_sub-size : goal.overflow_sub-size
overflow_sub-size c =
    let split = gone c.loop-size.size c.loop-size.entries.items c.pop_back.new.self.items c.in-Some.oldest (c.in-Some.ensures.items) c.loop-size.invariant.0 in
    omega (arith, split, c.field_size-size.ensures)

pub loop-size-preserved : goal.loop-size-preserved
loop-size-preserved c =
    let split = gone c.loop-size.size c.loop-size.entries.items c.pop_back.new.self.items c.in-Some.oldest (c.in-Some.ensures.items) c.loop-size.invariant.0 in
    (omega (arith, split, c.field_size-size.ensures), gone_newest c.args.room c.loop-size.size c.loop-size.entries.items c.pop_back.new.self.items c.in-Some.oldest _ (c.in-Some.ensures.items) c.loop-size.invariant.0 c.loop-size-test.true c.loop-size.invariant.1)

pub returns-clause-entries : goal.returns-clause-entries
returns-clause-entries c = sym (newest-all c.args.room c.loop-size.entries.items (omega arith)) ∙ c.loop-size.invariant.1
