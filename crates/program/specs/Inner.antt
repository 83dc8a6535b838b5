-- The bytes of a message within a message, where they lie in it, or where they were joined.
use Rattle.std.specs.Prelude.{ℕ, List}
use Rattle.program.specs.declared.nested.Inner.{Inner}
use Rattle.program.specs.declared.nested.Inner.TheVariants as inner

abbrev pub bytes_of : Inner → List ℕ
bytes_of (inner.InPlace bytes) = bytes.now
bytes_of (inner.Copied blob) = blob
