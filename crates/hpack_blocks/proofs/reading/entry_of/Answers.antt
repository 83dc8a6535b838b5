use Rattle.std.proofs.Common.{◌∙◌, sym}
use Rattle.hpack_blocks.proofs.TableLemmas.{entry_at-none, entry_at-static, entry_at-dynamic}
use Rattle.hpack_blocks.proofs.reading.entry_of.Goals as goal

pub returns-then-place-lt-STATIC_LEN : goal.returns-then-place-lt-STATIC_LEN
returns-then-place-lt-STATIC_LEN c =
    rw (c.as_bytes.ensures.value, c.as_bytes-then-place-lt-STATIC_LEN.ensures.value) (entry_at-static c.args.table.now.entries c.args.index _ c.if-index-eq0.false c.if-place-lt-STATIC_LEN.true c.static_entry.ensures)

pub returns-then-index-eq0 : goal.returns-then-index-eq0
returns-then-index-eq0 c = rw c.if-index-eq0.true (entry_at-none c.args.table.now.entries)

pub returns-in-Some : goal.returns-in-Some
returns-in-Some c =
    rw (c.bytes.ensures, c.bytes-in-Some.ensures) (entry_at-dynamic c.args.table.now.entries c.args.index c.if-index-eq0.false c.if-place-lt-STATIC_LEN.false ∙ sym c.in-Some.ensures)

pub returns-in-None : goal.returns-in-None
returns-in-None c =
    entry_at-dynamic c.args.table.now.entries c.args.index c.if-index-eq0.false c.if-place-lt-STATIC_LEN.false ∙ sym c.in-None.ensures
