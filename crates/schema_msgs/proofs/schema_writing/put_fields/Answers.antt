-- Each field is written behind the others.
use Rattle.std.proofs.Common.{◌≡◌, ◌<◌, ◌++◌, [], ap, sym, ◌∙◌, drop, get_or, length, arith}
use Rattle.std.proofs.lemmas.List.{append-nil, drop_all}
use Rattle.std.proofs.lemmas.Grind.{get_or_default_zero}
use Rattle.schema_msgs.specs.Lengths.{sizes_of}
use Rattle.schema_msgs.proofs.OutlineLemmas.{flat}
use Rattle.schema_msgs.proofs.BytesLemmas.{head_within, bytes_flat, length-sizes, flat_next}
use Rattle.schema_msgs.proofs.schema_writing.put_fields.Goals as goal

pub index-requires : goal.index-requires
index-requires c = omega (arith, c.in_ok-lens.lens.ok.0, ap length c.in_ok-lens.ensures, length-sizes c.args.fields.now, c.loop-i-test.true)

pub loop-i-preserved : goal.loop-i-preserved
loop-i-preserved c =
    let inside : c.loop-i.i < length c.in_ok-lens.lens.items = omega (arith, ap length c.in_ok-lens.ensures, length-sizes c.args.fields.now, c.loop-i-test.true) in
    let size : c.index.result.now ≡ get_or (sizes_of c.args.fields.now) c.loop-i.i 0 =
    c.index.ensures ∙ get_or_default_zero c.in_ok-lens.lens.items c.loop-i.i c.index.result.now inside ∙ ap (λ sizes. get_or sizes c.loop-i.i 0) c.in_ok-lens.ensures in
    flat_next c.args.number c.args.fields.now c.loop-i.i c.index-fields-i.result c.index.result.now c.args.out.now c.loop-i.out c.put_field.new.out _ c.loop-i-test.true c.index-fields-i.is size c.loop-i.invariant c.in_ok-put_field.ensures

pub returns : goal.returns
unfolding flat
returns c =
    let done : drop c.loop-i.i c.args.fields.now ≡ [] = drop_all c.loop-i.i c.args.fields.now c.loop-i-test.false in
    sym (append-nil c.loop-i.out) ∙ ap (λ fs. c.loop-i.out ++ flat (head_within c.args.number) fs) (sym done) ∙ c.loop-i.invariant
    ∙ ap (λ bytes. c.args.out.now ++ bytes) (sym (bytes_flat c.args.number c.args.fields.now c.requires.nests))
