use Rattle.std.proofs.Common.{◌≡◌, [], ◌∷◌, ◌++◌, take}
use Rattle.std.specs.Prelude.{if◌then◌else◌}
use Rattle.std.specs.List.{flat_map}
use Rattle.hpack_blocks.specs.Spelling.{field_spelling}
use Rattle.hpack_blocks.proofs.writing.spelled_block.Given as goal

abbrev pub invariant-loop-field : goal.invariant-loop-field
invariant-loop-field l = l.out.items ≡ (if l.first then 32 ∷ [] else []) ++ flat_map field_spelling (take l.field-index l.fields)
