use Rattle.std.proofs.Common.{take, subst, sym, IsAscii}
use Rattle.column_types.specs.Name.{continues_name}
use Rattle.filter.proofs.Bytes.{front_ascii, name_byte_ascii}
use Rattle.filter.proofs.lexer.word_at.Goals as goal

pub ascii_text-word-requires : goal.ascii_text-word-requires
ascii_text-word-requires c =
    subst (λ n. IsAscii (take n c.args.bytes.now)) (sym c.name_len-len.ensures.value) (front_ascii continues_name name_byte_ascii c.args.bytes.now)
