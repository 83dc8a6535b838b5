use Rattle.std.proofs.Common.{◌≡◌, ◌∙◌, ap, length, ◌≤◌, refl, subst, arith, true, List, [], ◌∷◌}
use Rattle.std.specs.Prelude.{OnOk}
use Rattle.hpack_blocks.specs.declared.fields.Field.{Field}
use Rattle.hpack_blocks.specs.Spelling.{block_spelling}
use Rattle.grpc_meta.specs.Answer.{trailers}
use Rattle.conn_record.specs.declared.limits.TheConstants.{LONGEST_BLOCK}
use Rattle.h2_record.specs.Record.{Tail}
use Rattle.conn_calls.specs.Giving.{Gives}
use Rattle.conn_calls.proofs.GivingLemmas.{tail-given, tail-short, on-ok}
use Rattle.conn_calls.proofs.giving.give_tail.Goals as goal

pub tail-requires-clause-short : goal.tail-requires-clause-short
tail-requires-clause-short c =
    let is : c.deref.result.now ≡ trailers c.args.status.now = c.deref.ensures.value ∙ c.in_ok-fields.ensures in
    let few : length c.args.status.now.text ≤ 1312 = omega (arith, ap length c.text.ensures) in
    let short : length (block_spelling true c.deref.result.now) ≤ LONGEST_BLOCK = tail-short _ c.args.status.now is few in
    omega (arith, short)

pub returns : goal.returns
returns c =
    let is : c.deref.result.now ≡ trailers c.args.status.now = c.deref.ensures.value ∙ c.in_ok-fields.ensures in
    let few : length c.args.status.now.text ≤ 1312 = omega (arith, ap length c.text.ensures) in
    let short : length (block_spelling true c.deref.result.now) ≤ LONGEST_BLOCK = tail-short _ c.args.status.now is few in
    let may = c.if-not-may_go_on.ensures in
    let both = may.0 refl in
    let P : List Field → Type 0 = λ l. OnOk c.tail.result (Gives c.args.conn.now c.tail.new.self c.args.id (Tail l ∷ [])) in
    subst P is (on-ok c.tail.result (tail-given c.args.conn.now c.tail.new.self c.args.id c.deref.result.now both.0 both.1 short) c.tail.ensures.stands)
