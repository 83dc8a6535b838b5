use Rattle.std.proofs.Common.{◌≡◌}
use Rattle.std.specs.Prelude.{◌&&◌}
use Rattle.std.specs.Str.{bytes_eq}
use Rattle.hpack_blocks.specs.Spelling.{place_of_field}
use Rattle.hpack_blocks.proofs.StaticLemmas.{place_from}
use Rattle.hpack_blocks.proofs.writing.field_place.Given as goal

abbrev pub invariant-loop-place : goal.invariant-loop-place
invariant-loop-place l = place_from (λ e. bytes_eq e.name l.field.name && bytes_eq e.value l.field.value) l.place ≡ place_of_field l.field
