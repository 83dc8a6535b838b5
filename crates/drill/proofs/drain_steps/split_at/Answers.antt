-- What the split came to, and what the cut then is.
use Rattle.std.proofs.Common.{◌≡◌, Ok, sym, ap, ◌∙◌, subst}
use Rattle.table_model.specs.Legal.{IsLegal}
use Rattle.drill.specs.declared.drain_steps.Split.TheVariants as split
use Rattle.drill.specs.Drains.{Went}
use Rattle.drill.specs.Steps.{SaysSplit, split_in}
use Rattle.drill.proofs.AskLemmas.{split_asked, asked_kept}
use Rattle.drill.proofs.PartLemmas.{small_stays}
use Rattle.drill.proofs.SplitLemmas.{acted_went, acted_done}
use Rattle.drill.proofs.StepLemmas.{indexed, fixed_kept, legal_went, fails_kept}
use Rattle.drill.proofs.WentLemmas.{went_further}
use Rattle.drill.proofs.drain_steps.split_at.Goals as goal

pub returns-in-Ok-Children-clause-went : goal.returns-in-Ok-Children-clause-went
returns-in-Ok-Children-clause-went g c =
    went_further c.args.session c.args.pass c.act-pass.result.0 c.open_at.result.0
    (acted_went c.args.session c.index.result.now.node c.args.pass c.act-pass.result.0 c.act-pass.result.1 c.act-pass.ensures.acts) c.open_at.ensures.went

pub returns-in-Ok-Children-clause-stands : goal.returns-in-Ok-Children-clause-stands
returns-in-Ok-Children-clause-stands g c = λ moves at stands here.
    let part = c.index.result.now in
    let mid = c.act-pass.result.0 in
    let went : Went c.args.session c.args.pass mid = acted_went c.args.session part.node c.args.pass mid c.act-pass.result.1 c.act-pass.ensures.acts in
    let there = indexed c.args.parts.items c.args.place part c.requires.there c.index.ensures in
    let done = acted_done c.args.session moves c.args.parts.items c.args.place part c.args.pass mid c.act-pass.result.1
    (legal_went c.args.session c.args.pass mid went c.seen_is_legal.ensures) stands there c.act-pass.ensures.acts in
    let is : split_in c.act-pass.result.1 ≡ Ok (split.Children c.in-Ok-Children.left c.in-Ok-Children.right) =
    sym c.split_in.ensures ∙ c.in-Ok-Children.is ∙ ap Ok c.in-Ok-Children.field-0-is in
    let parent = subst (SaysSplit c.args.pass.fixed c.args.pass.number mid.seen c.args.session part.node) is done.says in
    c.open_at.ensures.stands moves part at done.stands there parent here

pub returns-in-Ok-Children-clause-fails : goal.returns-in-Ok-Children-clause-fails
returns-in-Ok-Children-clause-fails g c = λ moves stands.
    let part = c.index.result.now in
    let mid = c.act-pass.result.0 in
    let went : Went c.args.session c.args.pass mid = acted_went c.args.session part.node c.args.pass mid c.act-pass.result.1 c.act-pass.ensures.acts in
    let there = indexed c.args.parts.items c.args.place part c.requires.there c.index.ensures in
    let done = acted_done c.args.session moves c.args.parts.items c.args.place part c.args.pass mid c.act-pass.result.1
    (legal_went c.args.session c.args.pass mid went c.seen_is_legal.ensures) stands there c.act-pass.ensures.acts in
    let is : split_in c.act-pass.result.1 ≡ Ok (split.Children c.in-Ok-Children.left c.in-Ok-Children.right) =
    sym c.split_in.ensures ∙ c.in-Ok-Children.is ∙ ap Ok c.in-Ok-Children.field-0-is in
    let parent = subst (SaysSplit c.args.pass.fixed c.args.pass.number mid.seen c.args.session part.node) is done.says in
    fails_kept c.args.session c.args.pass mid c.open_at.result.0.seen c.open_at.result.1 went (c.open_at.ensures.fails moves part done.stands there parent)

pub returns-in-Ok-Small-clause-went : goal.returns-in-Ok-Small-clause-went
returns-in-Ok-Small-clause-went g c =
    acted_went c.args.session c.index.result.now.node c.args.pass c.act-pass.result.0 c.act-pass.result.1 c.act-pass.ensures.acts

pub returns-in-Ok-Small-clause-stands : goal.returns-in-Ok-Small-clause-stands
returns-in-Ok-Small-clause-stands g c = λ moves at stands here.
    let part = c.index.result.now in
    let mid = c.act-pass.result.0 in
    let went : Went c.args.session c.args.pass mid = acted_went c.args.session part.node c.args.pass mid c.act-pass.result.1 c.act-pass.ensures.acts in
    let there = indexed c.args.parts.items c.args.place part c.requires.there c.index.ensures in
    let done = acted_done c.args.session moves c.args.parts.items c.args.place part c.args.pass mid c.act-pass.result.1
    (legal_went c.args.session c.args.pass mid went c.seen_is_legal.ensures) stands there c.act-pass.ensures.acts in
    let is : split_in c.act-pass.result.1 ≡ Ok split.Small = sym c.split_in.ensures ∙ c.in-Ok-Small.is ∙ ap Ok c.in-Ok-Small.field-0-is in
    let small = subst (SaysSplit c.args.pass.fixed c.args.pass.number mid.seen c.args.session part.node) is done.says in
    small_stays mid.seen c.args.session moves at c.args.parts.items c.args.place part done.stands there small here

pub returns-in-Err-clause-went : goal.returns-in-Err-clause-went
returns-in-Err-clause-went g c =
    acted_went c.args.session c.index.result.now.node c.args.pass c.act-pass.result.0 c.act-pass.result.1 c.act-pass.ensures.acts

pub returns-in-Err-clause-fails : goal.returns-in-Err-clause-fails
returns-in-Err-clause-fails g c = λ moves stands.
    let part = c.index.result.now in
    let mid = c.act-pass.result.0 in
    let went : Went c.args.session c.args.pass mid = acted_went c.args.session part.node c.args.pass mid c.act-pass.result.1 c.act-pass.ensures.acts in
    let there = indexed c.args.parts.items c.args.place part c.requires.there c.index.ensures in
    let done = acted_done c.args.session moves c.args.parts.items c.args.place part c.args.pass mid c.act-pass.result.1
    (legal_went c.args.session c.args.pass mid went c.seen_is_legal.ensures) stands there c.act-pass.ensures.acts in
    subst (SaysSplit c.args.pass.fixed c.args.pass.number mid.seen c.args.session part.node) (sym c.split_in.ensures ∙ c.in-Err.is) done.says

pub returns-in-Ok-Children-clause-asked : goal.returns-in-Ok-Children-clause-asked
returns-in-Ok-Children-clause-asked g c = λ moves at stands here.
    let part = c.index.result.now in
    let mid = c.act-pass.result.0 in
    let went : Went c.args.session c.args.pass mid = acted_went c.args.session part.node c.args.pass mid c.act-pass.result.1 c.act-pass.ensures.acts in
    let there = indexed c.args.parts.items c.args.place part c.requires.there c.index.ensures in
    let legal = subst (λ columns. IsLegal columns c.open_at.result.0.seen) (fixed_kept c.args.session c.args.pass mid went) c.open_at.ensures.legal in
    let first = split_asked c.args.session moves at c.args.place c.args.parts.items part c.args.pass mid c.act-pass.result.1
    (legal_went c.args.session c.args.pass mid went c.seen_is_legal.ensures) stands there here c.act-pass.ensures.acts in
    asked_kept c.args.session _ c.args.pass mid c.open_at.result.0 legal first c.open_at.ensures.asked

pub returns-in-Ok-Small-clause-asked : goal.returns-in-Ok-Small-clause-asked
returns-in-Ok-Small-clause-asked g c = λ moves at stands here.
    let part = c.index.result.now in
    let mid = c.act-pass.result.0 in
    let went : Went c.args.session c.args.pass mid = acted_went c.args.session part.node c.args.pass mid c.act-pass.result.1 c.act-pass.ensures.acts in
    let there = indexed c.args.parts.items c.args.place part c.requires.there c.index.ensures in
    split_asked c.args.session moves at c.args.place c.args.parts.items part c.args.pass mid c.act-pass.result.1
    (legal_went c.args.session c.args.pass mid went c.seen_is_legal.ensures) stands there here c.act-pass.ensures.acts

pub returns-in-Err-clause-asked : goal.returns-in-Err-clause-asked
returns-in-Err-clause-asked g c = λ moves at stands here.
    let part = c.index.result.now in
    let mid = c.act-pass.result.0 in
    let went : Went c.args.session c.args.pass mid = acted_went c.args.session part.node c.args.pass mid c.act-pass.result.1 c.act-pass.ensures.acts in
    let there = indexed c.args.parts.items c.args.place part c.requires.there c.index.ensures in
    split_asked c.args.session moves at c.args.place c.args.parts.items part c.args.pass mid c.act-pass.result.1
    (legal_went c.args.session c.args.pass mid went c.seen_is_legal.ensures) stands there here c.act-pass.ensures.acts
