use Rattle.std.proofs.Common.{[], ◌∷◌, ◌++◌, List, ap, arith}
use Rattle.hpack_blocks.specs.declared.fields.Field.{Field}
use Rattle.hpack_blocks.specs.Texts.{field_in}
use Rattle.hpack_blocks.proofs.TableLemmas.{list_size-push}
use Rattle.hpack_blocks.proofs.listed.Listed.push_copy.Goals as goal

pub returns-in_ok-push : goal.returns-in_ok-push
returns-in_ok-push c = λ fields p.
    let more = list_size-push fields (field_in c.args.field.now) in (
      omega (arith, p.0, more, c.size.ensures, c.saturating_add-self.ensures),
      λ small. rw (c.in_ok-push.ensures.items, c.in_ok-copied.ensures) (ap (λ (xs : List Field). xs ++ field_in c.args.field.now ∷ []) (p.1 (omega (arith, c.saturating_add-self.ensures)))),
      λ large. let none : ⊥ = omega arith in absurd none,
    )

pub returns-else-self-le-MAX_LIST_SIZE : goal.returns-else-self-le-MAX_LIST_SIZE
returns-else-self-le-MAX_LIST_SIZE c = λ fields p.
    let more = list_size-push fields (field_in c.args.field.now) in
    (omega (arith, p.0, more, c.size.ensures, c.saturating_add-self.ensures), λ small. let none : ⊥ = omega arith in absurd none, λ large. c.clear.ensures.items)
