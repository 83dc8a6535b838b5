-- One part more is read to its end.
use Rattle.std.proofs.Common.{◌≡◌, List, [], reverse, ap, subst, arith}
use Rattle.std.proofs.lemmas.List.{nil_from_length}
use Rattle.drill.specs.declared.drain_parts.Part.{Part}
use Rattle.drill.specs.Steps.{ReadsAll}
use Rattle.drill.proofs.AskLemmas.{asked_nowhere, asked_then}
use Rattle.drill.proofs.EndLemmas.{starts, taken_out}
use Rattle.drill.proofs.StepLemmas.{fails_kept}
use Rattle.drill.proofs.WentLemmas.{went_nowhere, went_further}
use Rattle.drill.proofs.drain_ends.end_parts.Goals as goal

pub loop-part-init : goal.loop-part-init
loop-part-init g c = record {
  theirs = c.requires.theirs;
  went = went_nowhere c.args.session c.args.pass;
  asked = asked_nowhere c.args.session [] c.args.pass;
  reads = λ moves stands. starts c.args.pass.seen c.args.session moves c.args.parts.items c.reverse.new.self.items c.new-rows.result c.reverse.ensures.items c.new-rows.ensures stands;
}

pub loop-part-preserved : goal.loop-part-preserved
loop-part-preserved g c = record {
  theirs = c.end_part-next.ensures.theirs;
  went = went_further c.args.session c.args.pass c.loop-part.pass c.end_part-next.result.0 c.loop-part.invariant.went c.end_part-next.ensures.went;
  asked = asked_then c.args.session [] c.args.pass c.loop-part.pass c.end_part-next.result.0 c.loop-part.invariant.asked c.end_part-next.ensures.asked;
  reads = λ moves stands.
      let turned = taken_out c.loop-part.rest.items c.pop.new.self.items c.in-Some.part c.in-Some.ensures.items in
      let before = subst (λ (l : List Part). ReadsAll c.loop-part.pass.seen c.args.session moves c.args.parts.items l c.loop-part.rows) turned (c.loop-part.invariant.reads moves stands) in
      rw c.in-Ok.is at (c.end_part-next.ensures.reads moves c.args.parts.items _ before);
}

pub returns-in-Err-clause-went : goal.returns-in-Err-clause-went
returns-in-Err-clause-went g c =
    went_further c.args.session c.args.pass c.loop-part.pass c.end_part-next.result.0 c.loop-part.invariant.went c.end_part-next.ensures.went

pub returns-in-Err-clause-asked : goal.returns-in-Err-clause-asked
returns-in-Err-clause-asked g c =
    asked_then c.args.session [] c.args.pass c.loop-part.pass c.end_part-next.result.0 c.loop-part.invariant.asked c.end_part-next.ensures.asked

pub returns-in-Err-clause-fails : goal.returns-in-Err-clause-fails
returns-in-Err-clause-fails g c = λ moves stands.
    let turned = taken_out c.loop-part.rest.items c.pop.new.self.items c.in-Some.part c.in-Some.ensures.items in
    let before = subst (λ (l : List Part). ReadsAll c.loop-part.pass.seen c.args.session moves c.args.parts.items l c.loop-part.rows) turned (c.loop-part.invariant.reads moves stands) in
    rw c.in-Err.is at (fails_kept c.args.session c.args.pass c.loop-part.pass c.end_part-next.result.0.seen c.end_part-next.result.1 c.loop-part.invariant.went
    (c.end_part-next.ensures.fails moves c.args.parts.items _ before))

pub returns-clause-reads : goal.returns-clause-reads
returns-clause-reads g c = λ moves stands.
    let none : c.loop-part.rest.items ≡ [] = nil_from_length c.loop-part.rest.items (omega (arith, c.in_default.ensures.cases.0, c.loop-part.rest.ok.0)) in
    subst (λ (l : List Part). ReadsAll c.loop-part.pass.seen c.args.session moves c.args.parts.items l c.loop-part.rows) (ap reverse none) (c.loop-part.invariant.reads moves stands)
