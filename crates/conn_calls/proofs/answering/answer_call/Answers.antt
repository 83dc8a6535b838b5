-- What is told by what a call gave is the answer of the call.
use Rattle.std.proofs.Common.{◌≡◌, ℤ, sym, subst, Result, Ok, Err}
use Rattle.std.proofs.lemmas.Int.{to_z-of_z}
use Rattle.std.specs.Prelude.{IfOk, OnErr}
use mir.Syntax.{w64}
use Rattle.outside.specs.declared.wants.Memory.{Memory}
use Rattle.open_tables.specs.Tables.{specs_of}
use Rattle.open_tables.specs.Plans.{Plan, Gets, Loses}
use Rattle.conn_requests.specs.declared.asks.Ask.TheVariants as ask
use Rattle.conn_requests.specs.declared.answers.Answer.{Answer}
use Rattle.call_plans.specs.Plans.{call_plan}
use Rattle.call_read.specs.declared.bodies.RowsAnswer.{RowsAnswer}
use Rattle.call_read.specs.Items.{told}
use Rattle.conn_calls.specs.Answering.{told_by}
use Rattle.conn_calls.proofs.answering.answer_call.Goals as goal

told-if : (rows : Result RowsAnswer Memory) (given : Result Answer Memory) (P : Answer → Type 0) → told_by rows ≡ given → IfOk given P → IfOk rows (λ x. P (told x))
told-if (Ok rows) given P is so = subst (λ (x : Result Answer Memory). IfOk x P) (sym is) so
told-if (Err memory) given P is so = tt

lost-if : (rows : Result RowsAnswer Memory) (given : Result Answer Memory) (P : Type 0) → told_by rows ≡ given → OnErr given P → OnErr rows P
lost-if (Ok rows) given P is so = tt
lost-if (Err memory) given P is so = subst (λ (x : Result Answer Memory). OnErr x P) (sym is) so

pub returns : goal.returns
returns g c =
    let due : Plan Answer = call_plan (specs_of c.args.service.now.tables.now) c.args.method c.args.message.now in
    let given = c.call-passes.result.1 in
    let after = c.call-passes.result.0 in
    let G : ℤ → Type 0 = λ z. IfOk given (λ a. Gets c.args.passes due z a after) in
    let L : ℤ → Type 0 = λ z. OnErr given (Loses c.args.passes due z after) in
    let same = to_z-of_z w64 c.args.now c.ranges.now in
    record {
      theirs = c.call-passes.ensures.theirs;
      gets = told-if c.at_once.result given (λ a. Gets c.args.passes due c.args.now a after) c.at_once.ensures.told (subst G same c.call-passes.ensures.gets);
      bodies = c.at_once.ensures.bodies (ask.Call c.args.method c.args.message.now);
      loses = lost-if c.at_once.result given (Loses c.args.passes due c.args.now after) c.at_once.ensures.told (subst L same c.call-passes.ensures.loses);
    }
