-- A text of eight words and parts is read by them, and one of another number is no name.
use Rattle.std.proofs.Common.{[], map, arith}
use Rattle.std.proofs.lemmas.Bool.{ltb-true, ltb-false}
use Rattle.std.proofs.lemmas.List.{length-map}
use Rattle.resource_names.proofs.ReadLemmas.{eight_read, other_number}
use Rattle.resource_names.proofs.read_streams.read_in.Goals as goal
use Rattle.resource_names.proofs.read_streams.read_in.Goals.{in_default-via-then-parts-lt8, in_default-via-else-parts-lt8+else-parts-lt9}

pub returns-in-len8 : goal.returns-in-len8
returns-in-len8 c =
    eight_read c.args.parts.now (record { ref_ptr = (0, 0); now = [] }) c.read_name.result c.is_named.result c.is_named-in-len8.result c.is_named-in-len8-2.result c.is_named-in-len8-3.result c.all_of_four-is_named.result
    c.in-len8.len_at_least c.in-len8.len_below c.is_named.ensures c.is_named-in-len8.ensures c.is_named-in-len8-2.ensures c.is_named-in-len8-3.ensures c.all_of_four-is_named.ensures c.read_name.ensures

pub returns-in_default : goal.returns-in_default
returns-in_default c = elim c.in_default.branch [
  | in_default-via-then-parts-lt8 w ↦ other_number (map (λ p. p.now) c.args.parts.now) (λ e. omega (arith, e, ltb-true, length-map c.args.parts.now (λ p. p.now)))
  | in_default-via-else-parts-lt8+else-parts-lt9 w ↦ other_number (map (λ p. p.now) c.args.parts.now) (λ e. omega (arith, e, ltb-false, length-map c.args.parts.now (λ p. p.now)))
]
