-- The octets of names and values that were read, wherever they stand.
use Rattle.std.specs.Prelude.{ℕ, List}
use Rattle.hpack_blocks.specs.declared.fields.Field.{Field}
use Rattle.hpack_blocks.specs.declared.listed.FieldText.{FieldText}
use Rattle.hpack_blocks.specs.declared.strings.Text.{Text}
use Rattle.hpack_blocks.specs.declared.strings.Text.TheVariants as text

abbrev pub octets_in : Text → List ℕ
octets_in (text.InPlace octets) = octets.now
octets_in (text.Decoded octets) = octets

abbrev pub field_in : FieldText → Field
field_in f = record { name = octets_in f.name; value = octets_in f.value }
