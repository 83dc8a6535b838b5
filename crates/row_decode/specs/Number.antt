-- The number that a varint holds, by the type of its field: "Integer Types" of the Protocol Buffers encoding.
use Rattle.std.specs.Prelude.{ℕ, ◌/◌, ◌%◌, ◌^◌, ◌==◌, if◌then◌else◌, ℤ, pos, negsuc}
use Rattle.std.specs.Int.{w32, w64, cast_signed}
use Rattle.row_descriptor.specs.declared.field.FieldType.{FieldType}
use Rattle.row_descriptor.specs.declared.field.FieldType.TheVariants as type

abbrev pub low_32 : ℕ → ℕ
low_32 n = n % 2 ^ 32

-- zig-zag: 0, 1, 2, 3 and so on stand for 0, -1, 1, -2
abbrev pub zig_zag : ℕ → ℤ
zig_zag n = if n % 2 == 0 then pos (n / 2) else negsuc (n / 2)

-- intN is two's complement, uintN unsigned, sintN zig-zag, and an enum is as int32. No number has another type.
abbrev pub number_of : FieldType → ℕ → ℤ
number_of type.Int64 n = cast_signed w64 n
number_of type.Uint64 n = pos n
number_of type.Int32 n = cast_signed w32 (low_32 n)
number_of type.Uint32 n = pos (low_32 n)
number_of type.Enum n = cast_signed w32 (low_32 n)
number_of type.Sint32 n = zig_zag (low_32 n)
number_of type.Sint64 n = zig_zag n
number_of _ n = cast_signed w64 n
