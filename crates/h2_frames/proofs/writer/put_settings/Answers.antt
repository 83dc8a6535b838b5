use Rattle.std.proofs.Common.{◌≡◌, ◌*◌, length, append_assoc}
use Rattle.std.specs.List.{flat_map}
use Rattle.h2_frames.specs.declared.kind.Kind.TheVariants as kinds
use Rattle.h2_frames.specs.declared.header.Header.{Header}
use Rattle.h2_frames.specs.Spelling.{header_bytes, pair_bytes, flag_if}
use Rattle.h2_frames.proofs.Written.{length-pairs}
use Rattle.h2_frames.proofs.writer.put_settings.Goals as goal

pub returns-clause-ok : goal.returns-clause-ok
returns-clause-ok c =
    let header : Header = record { length = 6 * length c.args.pairs.now; kind = kinds.Settings; flags = flag_if c.args.ack 1; stream = 0 } in
    rw (c.put_pairs.ensures, c.in_ok-put.ensures.ok, c.items-pairs.ensures, c.flag_if.ensures, length-pairs c.args.pairs.now)
    (append_assoc c.args.out.now.items (header_bytes header) (flat_map pair_bytes c.args.pairs.now))
