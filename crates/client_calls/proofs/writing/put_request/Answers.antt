-- The fields have a spelling, and their block is short.
use Rattle.std.proofs.Common.{◌∙◌, sym, subst}
use Rattle.std.specs.Prelude.{All}
use Rattle.hpack_blocks.specs.Spelling.{Fits}
use Rattle.client_calls.proofs.RequestLaws.{fits, block_short}
use Rattle.client_calls.proofs.writing.put_request.Goals as goal

pub write_block-requires : goal.write_block-requires
write_block-requires c = subst (All Fits) (sym (c.deref.ensures.value ∙ c.in_ok-fields.ensures)) (fits c.args.method)

pub write_frame-requires : goal.write_frame-requires
write_frame-requires c = ((c.requires, rw (c.in_ok-block.ensures.spelled, c.deref.ensures.value, c.in_ok-fields.ensures) (block_short c.args.method)), tt)
