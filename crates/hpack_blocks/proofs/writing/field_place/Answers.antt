use Rattle.std.proofs.Common.{◌∙◌, sym, arith}
use Rattle.std.specs.Prelude.{◌&&◌}
use Rattle.std.specs.Str.{bytes_eq}
use Rattle.hpack_blocks.specs.Spelling.{place_of_field}
use Rattle.hpack_blocks.proofs.StaticLemmas.{place_start, place_here, place_later, place_none}
use Rattle.hpack_blocks.proofs.writing.field_place.Goals as goal

pub loop-place-init : goal.loop-place-init
unfolding place_of_field
loop-place-init c = place_start (λ e. bytes_eq e.name c.args.field.now.name && bytes_eq e.value c.args.field.now.value)

pub returns-then-is_field-clause-place : goal.returns-then-is_field-clause-place
returns-then-is_field-clause-place c =
    sym (place_here (λ e. bytes_eq e.name c.args.field.now.name && bytes_eq e.value c.args.field.now.value) c.loop-place.place _ c.static_entry.ensures (sym c.is_field.ensures ∙ c.if-is_field.true)) ∙ c.loop-place.invariant

pub loop-place-preserved : goal.loop-place-preserved
loop-place-preserved c =
    sym (place_later (λ e. bytes_eq e.name c.args.field.now.name && bytes_eq e.value c.args.field.now.value) c.loop-place.place _ c.static_entry.ensures (sym c.is_field.ensures ∙ c.if-is_field.false)) ∙ c.loop-place.invariant

pub returns-clause-place : goal.returns-clause-place
returns-clause-place c = sym (place_none (λ e. bytes_eq e.name c.args.field.now.name && bytes_eq e.value c.args.field.now.value) c.loop-place.place (omega arith)) ∙ c.loop-place.invariant
