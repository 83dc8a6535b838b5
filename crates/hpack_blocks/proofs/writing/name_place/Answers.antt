use Rattle.std.proofs.Common.{◌∙◌, sym, arith}
use Rattle.std.specs.Str.{bytes_eq}
use Rattle.hpack_blocks.specs.Spelling.{place_of_name}
use Rattle.hpack_blocks.proofs.StaticLemmas.{place_start, place_here, place_later, place_none}
use Rattle.hpack_blocks.proofs.writing.name_place.Goals as goal

pub loop-place-init : goal.loop-place-init
unfolding place_of_name
loop-place-init c = place_start (λ e. bytes_eq e.name c.args.octets.now)

pub returns-then-is_name-clause-place : goal.returns-then-is_name-clause-place
returns-then-is_name-clause-place c =
    sym (place_here (λ e. bytes_eq e.name c.args.octets.now) c.loop-place.place _ c.static_entry.ensures (sym c.is_name.ensures ∙ c.if-is_name.true)) ∙ c.loop-place.invariant

pub loop-place-preserved : goal.loop-place-preserved
loop-place-preserved c =
    sym (place_later (λ e. bytes_eq e.name c.args.octets.now) c.loop-place.place _ c.static_entry.ensures (sym c.is_name.ensures ∙ c.if-is_name.false)) ∙ c.loop-place.invariant

pub returns-clause-place : goal.returns-clause-place
returns-clause-place c = sym (place_none (λ e. bytes_eq e.name c.args.octets.now) c.loop-place.place (omega arith)) ∙ c.loop-place.invariant
