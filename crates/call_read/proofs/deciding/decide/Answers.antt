-- The streams are those of the texts; what hinders the commit refuses it, or the table is asked.
use Rattle.std.proofs.Common.{sym, ap, subst, ◌∙◌, IfSome}
use Rattle.std.specs.Prelude.{◌<◌, length}
use Rattle.resource_names.specs.Table.{table_name_of}
use Rattle.call_read.specs.Streams.{AreNamed, ReadsStreams, hindrance}
use Rattle.call_read.proofs.StreamLemmas.{as_many}
use Rattle.call_read.proofs.CommitLemmas.{decided_asks, decided_refuses}
use Rattle.call_read.proofs.deciding.decide.Goals as goal

pub hindrance-requires : goal.hindrance-requires
hindrance-requires c =
    as_many c.in-Some.table c.texts-texts.result.now c.in-Some-2.streams.refs c.in-Some-2.streams.has_other_table
    (subst (ReadsStreams c.in-Some.table c.texts-texts.result.now) c.in-Some-2.is c.in_ok-streams.ensures)

pub returns-in-Some-4 : goal.returns-in-Some-4
returns-in-Some-4 c =
    let read = subst (ReadsStreams c.in-Some.table c.texts-texts.result.now) c.in-Some-2.is c.in_ok-streams.ensures in
    let named = subst (λ texts. AreNamed c.in-Some.table texts c.in-Some-2.streams.refs c.in-Some-2.streams.has_other_table) c.texts-texts.ensures read in
    decided_refuses c.args.tables.now c.args.request.now c.in-Some.table c.in-Some-2.streams.refs c.in-Some-2.streams.has_other_table c.in-Some-3.place
    (ap table_name_of (sym c.text.ensures) ∙ sym c.in_ok-table.ensures ∙ c.in-Some.is)
    (sym c.in-Some-3.is ∙ c.in_ok-place.ensures.place)
    (subst (λ place. IfSome place (λ at. at < length c.args.tables.now)) c.in-Some-3.is c.in_ok-place.ensures.within)
    named c.in-Some-4.cause
    (ap (λ texts. hindrance texts c.in-Some-2.streams.refs c.in-Some-2.streams.has_other_table) (sym c.texts-texts.ensures) ∙ sym c.in_ok-cause.ensures ∙ c.in-Some-4.is)

pub returns : goal.returns
returns c =
    let read = subst (ReadsStreams c.in-Some.table c.texts-texts.result.now) c.in-Some-2.is c.in_ok-streams.ensures in
    let named = subst (λ texts. AreNamed c.in-Some.table texts c.in-Some-2.streams.refs c.in-Some-2.streams.has_other_table) c.texts-texts.ensures read in
    decided_asks c.args.tables.now c.args.request.now c.in-Some.table c.in-Some-2.streams.refs c.in-Some-2.streams.has_other_table c.in-Some-3.place
    (ap table_name_of (sym c.text.ensures) ∙ sym c.in_ok-table.ensures ∙ c.in-Some.is)
    (sym c.in-Some-3.is ∙ c.in_ok-place.ensures.place)
    (subst (λ place. IfSome place (λ at. at < length c.args.tables.now)) c.in-Some-3.is c.in_ok-place.ensures.within)
    named
    (ap (λ texts. hindrance texts c.in-Some-2.streams.refs c.in-Some-2.streams.has_other_table) (sym c.texts-texts.ensures) ∙ sym c.in_ok-cause.ensures ∙ c.in_default-4.is)
