use Rattle.std.proofs.Common.{refl, arith}
use Rattle.hpack_codes.proofs.WindowLemmas.{window_many, window_few, window_shifted, window_some}
use Rattle.hpack_codes.proofs.reader.BitReader.window.Goals as goal

pub overflow_cast-result-then-self-ge-LONGEST : goal.overflow_cast-result-then-self-ge-LONGEST
overflow_cast-result-then-self-ge-LONGEST c =
    let r = c.args.self.now in omega (arith, window_many r.count r.kept (omega arith) c.requires.kept)

pub overflow_cast-result-else-self-ge-LONGEST-2 : goal.overflow_cast-result-else-self-ge-LONGEST-2
overflow_cast-result-else-self-ge-LONGEST-2 c =
    let r = c.args.self.now in
    omega (arith, window_shifted r.count r.kept c.if-self-ge-LONGEST.false c.requires.kept, window_few r.count r.kept c.if-self-ge-LONGEST.false c.requires.kept)

pub returns-then-self-ge-LONGEST : goal.returns-then-self-ge-LONGEST
returns-then-self-ge-LONGEST c =
    let r = c.args.self.now in
    record { fits = window_many r.count r.kept (omega arith) c.requires.kept; many = λ h. refl; few = λ h. absurd (omega arith) }

pub returns-else-self-ge-LONGEST : goal.returns-else-self-ge-LONGEST
returns-else-self-ge-LONGEST c =
    let r = c.args.self.now in
    let few = window_few r.count r.kept c.if-self-ge-LONGEST.false c.requires.kept in
    let some = window_some r.count r.kept in
    rw (window_shifted r.count r.kept c.if-self-ge-LONGEST.false c.requires.kept) (record { fits = omega (arith, few, some); many = λ h. absurd (omega arith); few = λ h. omega (arith, some) })
