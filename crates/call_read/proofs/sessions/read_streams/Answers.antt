-- Each node is put behind those before it.
use Rattle.std.proofs.Common.{ℕ, ◌++◌, List, [], ◌∷◌, map, sym, ap, ◌∙◌, arith}
use Rattle.std.proofs.lemmas.List.FromFn.{map-range_with_len_more}
use Rattle.std.specs.List.{range_with_len}
use Rattle.read_msgs.specs.declared.streams.ReadStream.{ReadStream}
use Rattle.call_plans.specs.ReadNames.{read_stream}
use Rattle.call_read.proofs.sessions.read_streams.Goals as goal

pub loop-node-preserved : goal.loop-node-preserved
loop-node-preserved c =
    let made : ℕ → ReadStream = read_stream c.args.project.now c.args.place c.args.session in (
      c.in_ok-push.ensures.items
          ∙ ap (λ (xs : List ReadStream). xs ++ c.in_ok-read_stream.field-0 ∷ []) c.loop-node.invariant.0
          ∙ ap (λ (x : ReadStream). map made (range_with_len 0 c.loop-node.node) ++ x ∷ []) c.in_ok-read_stream.ensures
          ∙ sym (map-range_with_len_more made 0 c.loop-node.node c.loop-node.node (omega arith)),
      omega (arith, c.loop-node-test.true),
    )
