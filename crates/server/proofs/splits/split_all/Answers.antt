-- One pass after another is split.
use Rattle.std.proofs.Common.{rules, sym, ◌∙◌}
use Rattle.turn_table.specs.View.{Splits}
use Rattle.open_tables.specs.Plans.{caller_in}
use Rattle.server.proofs.SplitLemmas.{split_turn, one_split, all_split, split_theirs}
use Rattle.server.proofs.splits.split_all.Goals as goal

pub split_pass-left-requires : goal.split_pass-left-requires
split_pass-left-requires g c =
    split_turn _ _ _ _ _ c.in-Some.pass _ c.in-Some.ensures.steps.0 c.in-Ok.place _ (search rules) c.loop-pass.invariant.2 c.turn.ensures.turn

pub loop-pass-preserved : goal.loop-pass-preserved
loop-pass-preserved g c =
    let splits : Splits caller_in c.in-Some.pass c.split_pass-left.result.0 c.in_ok-right.field-0 = search rules in (
      tt,
      tt,
      one_split _ _ _ _ _ c.in-Some.pass _ c.in-Some.ensures.steps.0 c.split_pass-left.result.0 c.in_ok-right.field-0 _ _ c.in_ok-push.ensures.items c.in_ok-push-2.ensures.items splits
          c.number_is_below.ensures c.loop-pass.invariant.2,
    )

pub returns : goal.returns
returns g c =
    let splits = all_split _ _ _ _ _ (sym c.loop-pass.pass-iterator.rest.ok.0 ∙ c.in-None.ensures.steps.0) c.loop-pass.invariant.2 in
    record { splits = splits; theirs = split_theirs _ _ _ _ c.requires.theirs splits }
