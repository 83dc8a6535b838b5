use Rattle.std.proofs.Common.{◌≡◌, ◌+◌, ◌-◌, take, drop, subst, sym, IsAscii, arith, ◌∙◌, ap}
use Rattle.column_types.specs.Name.{continues_name}
use Rattle.filter.proofs.Bytes.{front_ascii, name_byte_ascii, front_of_rest}
use Rattle.filter.proofs.lexer.quoted_at.Goals as goal

pub ascii_text-name-requires : goal.ascii_text-name-requires
ascii_text-name-requires c =
    let same : (1 + c.name_len-len.result) - 1 ≡ c.name_len-len.result = omega arith in
    subst IsAscii (sym (ap (λ n. take n (drop 1 c.args.bytes.now)) same ∙ front_of_rest continues_name c.name_len-len.result c.args.bytes.now c.name_len-len.ensures.value))
    (front_ascii continues_name name_byte_ascii (drop 1 c.args.bytes.now))
