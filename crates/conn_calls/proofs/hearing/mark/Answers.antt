-- With something asked there is a mark, and else none.
use Rattle.std.proofs.Common.{◌≡◌, ◌∙◌, sym, refl, ap, List, [], ◌∷◌, length, arith}
use Rattle.std.proofs.lemmas.Bool.{eqb-true, eqb-false}
use Rattle.conn_requests.specs.declared.asks.Ask.{Ask}
use Rattle.conn_calls.specs.Dealing.{dealing_of}
use Rattle.conn_calls.proofs.HeedingLemmas.{marks-none, marks-some}
use Rattle.conn_calls.proofs.hearing.mark.Goals as goal

none-of : (asks : List Ask) → length asks ≡ 0 → asks ≡ []
none-of [] is = refl
none-of (asked ∷ asks) is = absurd (omega (arith, is))

pub returns-then-is_empty : goal.returns-then-is_empty
returns-then-is_empty c = marks-none (dealing_of c.args.conn.now) c.args.asks.now (none-of c.args.asks.now (eqb-true (length c.args.asks.now) 0 (sym c.is_empty.ensures ∙ c.if-is_empty.true)))

pub returns : goal.returns
returns c =
    marks-some (dealing_of c.args.conn.now) (dealing_of c.request_whole.new.self) c.args.asks.now c.request_whole.ensures
    (λ none. eqb-false (length c.args.asks.now) 0 (sym c.is_empty.ensures ∙ c.if-is_empty.false) (ap length none))
