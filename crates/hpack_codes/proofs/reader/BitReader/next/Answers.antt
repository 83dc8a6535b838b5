use Rattle.std.proofs.Common.{◌≡◌, ◌-◌, ◌++◌, length, drop, sym, ap, ◌∙◌, arith}
use Rattle.hpack_codes.specs.Bits.{low_bits, bits_of}
use Rattle.hpack_codes.specs.Huffman.{octets_from, padding_of}
use Rattle.hpack_codes.proofs.WindowLemmas.{window_short, window_code, window_padding, window_shorter, last_reads, code_from, code_below, code_small, rest_mask, drop_all, ended, after_code-eos, after_code-octet}
use Rattle.hpack_codes.proofs.reader.BitReader.next.Goals as goal

pub returns-then-len-self-clause-reads : goal.returns-then-len-self-clause-reads
returns-then-len-self-clause-reads c =
    let r = c.fill.new.self in
    let free = window_short c.first_len-len.result r.count r.kept c.window.result c.window.ensures c.if-len-self.true c.first_len-len.ensures.within c.first_len-len.ensures.from in
    let at = ended r.count r.at (length c.args.bytes.now) c.fill.ensures.full (omega (arith, c.first_len-len.ensures.within)) in
    let padding : octets_from 0 0 (low_bits r.count r.kept ++ bits_of (drop r.at c.args.bytes.now)) ≡ padding_of r.count r.kept = rw (drop_all r.at c.args.bytes.now at) (window_padding r.count r.kept c.fill.ensures.sound.kept free) in
    last_reads c.last.result _ _ r.count r.kept (ap (octets_from 0 0) (sym c.fill.ensures.same) ∙ padding) c.last.ensures

pub overflow_cast-self : goal.overflow_cast-self
overflow_cast-self c =
    let r = c.fill.new.self in
    omega (arith, code_small c.first_len-len.result r.count r.kept c.window.result c.window.ensures c.if-len-self.false c.first_len-len.ensures.within)

pub symbol_of-symbol-requires-clause-from : goal.symbol_of-symbol-requires-clause-from
symbol_of-symbol-requires-clause-from c =
    let r = c.fill.new.self in
    code_from c.first_len-len.result r.count r.kept c.window.result c.window.ensures c.if-len-self.false c.first_len-len.ensures.within c.first_len-len.ensures.from

pub symbol_of-symbol-requires-clause-below : goal.symbol_of-symbol-requires-clause-below
symbol_of-symbol-requires-clause-below c =
    let r = c.fill.new.self in
    code_below c.first_len-len.result r.count r.kept c.window.result c.window.ensures c.if-len-self.false c.first_len-len.ensures.within c.first_len-len.ensures.below

pub returns-then-symbol-eq-EOS-clause-reads : goal.returns-then-symbol-eq-EOS-clause-reads
returns-then-symbol-eq-EOS-clause-reads c =
    let r = c.fill.new.self in
    let from = code_from c.first_len-len.result r.count r.kept c.window.result c.window.ensures c.if-len-self.false c.first_len-len.ensures.within c.first_len-len.ensures.from in
    let read = window_code c.first_len-len.result r.count r.kept c.symbol_of-symbol.result (bits_of (drop r.at c.args.bytes.now)) c.first_len-len.ensures.some c.if-len-self.false c.fill.ensures.sound.kept from c.symbol_of-symbol.ensures.gives in
    ap (octets_from 0 0) (sym c.fill.ensures.same) ∙ read ∙ after_code-eos c.symbol_of-symbol.result _ c.if-symbol-eq-EOS.true

pub returns-clause-reads : goal.returns-clause-reads
returns-clause-reads c =
    let r = c.fill.new.self in
    let from = code_from c.first_len-len.result r.count r.kept c.window.result c.window.ensures c.if-len-self.false c.first_len-len.ensures.within c.first_len-len.ensures.from in
    let read = window_code c.first_len-len.result r.count r.kept c.symbol_of-symbol.result (bits_of (drop r.at c.args.bytes.now)) c.first_len-len.ensures.some c.if-len-self.false c.fill.ensures.sound.kept from c.symbol_of-symbol.ensures.gives in
    rw (rest_mask (r.count - c.first_len-len.result) (omega (arith, c.fill.ensures.sound.few))) (ap (octets_from 0 0) (sym c.fill.ensures.same) ∙ read ∙ after_code-octet c.symbol_of-symbol.result _ c.if-symbol-eq-EOS.false, rw (← c.fill.ensures.same) (window_shorter c.first_len-len.result r.count r.kept _ (bits_of (drop r.at c.args.bytes.now)) c.first_len-len.ensures.some c.if-len-self.false))
