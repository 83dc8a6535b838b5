use Rattle.std.proofs.Common.{◌≡◌}
use Rattle.std.specs.Str.{bytes_eq}
use Rattle.hpack_blocks.specs.Spelling.{place_of_name}
use Rattle.hpack_blocks.proofs.StaticLemmas.{place_from}
use Rattle.hpack_blocks.proofs.writing.name_place.Given as goal

abbrev pub invariant-loop-place : goal.invariant-loop-place
invariant-loop-place l = place_from (λ e. bytes_eq e.name l.octets) l.place ≡ place_of_name l.octets
