use Rattle.std.proofs.Common.{◌≡◌, sym, arith}
use Rattle.hpack_blocks.specs.Table.{size_of}
use Rattle.hpack_blocks.proofs.TableLemmas.{no_size, added-large, added-fits, list_size-first}
use Rattle.hpack_blocks.proofs.dynamic_table.DynamicTable.add.Goals as goal

pub invariant_of-self : goal.invariant_of-self
invariant_of-self c = (rw c.clear.ensures.items (sym no_size), omega arith, c.self.invariant.2)

pub returns-then-size-self : goal.returns-then-size-self
returns-then-size-self c =
    rw (c.clear.ensures.items, ← c.self.view_is) (added-large c.self.inside.max c.args.field c.self.inside.entries.items (omega (arith, c.field_size-size.ensures, c.self.invariant.2)))

pub invariant_of-self-2 : goal.invariant_of-self-2
invariant_of-self-2 c =
    let fits : size_of c.args.field ≡ c.field_size-size.result = omega (arith, c.field_size-size.ensures, c.self.invariant.2) in
    (rw (c.in_ok-push_front.ensures.items, list_size-first) (omega (arith, fits, c.drop_oldest-self-inside.ensures.size)), omega (arith, c.drop_oldest-self-inside.ensures.within), c.self.invariant.2)

pub returns : goal.returns
returns c =
    let fits : size_of c.args.field ≡ c.field_size-size.result = omega (arith, c.field_size-size.ensures, c.self.invariant.2) in
    rw (c.in_ok-push_front.ensures.items, ← c.self.view_is) (added-fits c.self.inside.max c.args.field c.self.inside.entries.items c.drop_oldest-self-inside.new.entries.items (omega (arith, fits)) (rw fits c.drop_oldest-self-inside.ensures.entries))
