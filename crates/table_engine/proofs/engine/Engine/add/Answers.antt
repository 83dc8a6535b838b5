-- The entry may be added to what is kept.
use mir.Syntax.{w64}
use mir.Val.{to_z, of_z}
use Rattle.std.proofs.Common.{◌≡◌, ◌+◌, ◌++◌, ◌∷◌, [], length, sym, ap, ◌∙◌, subst, refl, rules}
use Rattle.std.specs.Prelude.{◌==◌, if◌then◌else◌}
use Rattle.std.specs.Int.{int_max}
use Rattle.table_model.specs.declared.entries.Entry.{Entry}
use Rattle.table_model.specs.Facts.{size_added}
use Rattle.table_model.specs.Table.{Table}
use Rattle.write_streams.specs.Book.{find}
use Rattle.read_sessions.specs.Snapshots.{Tells}
use Rattle.table_engine.specs.Callers.{count_of}
use Rattle.table_engine.specs.Keeps.{CanAdd, table_in}
use Rattle.row_groups.specs.Places.{joined}
use Rattle.table_engine.specs.Changes.{CanMake, Notes}
use Rattle.table_engine.specs.Waiting.{CanStore}
use Rattle.table_engine.proofs.AddLemmas.{adds, Keeps-add}
use Rattle.table_engine.proofs.engine.Engine.add.Goals as goal

pub change_all-requires-clause-change : goal.change_all-requires-clause-change
change_all-requires-clause-change c =
    let P : Table → Type 0 = λ table. CanAdd table c.args.entry in
    let keeps = c.self.invariant in
    let added = adds c.self.inside.schema c.self.inside.book c.self.inside.sessions c.self.inside.groups c.self.inside.waiting c.self.inside.entries.items c.args.entry keeps.within keeps.stands keeps.reads keeps.stored (subst P (sym c.self.view_is) c.requires) in
    subst (λ (entry : Entry). CanMake c.self.inside.book c.self.inside.sessions entry.change) (sym c.in_ok-kept.ensures) added.change

pub change_all-requires-clause-store : goal.change_all-requires-clause-store
change_all-requires-clause-store c =
    let P : Table → Type 0 = λ table. CanAdd table c.args.entry in
    let keeps = c.self.invariant in
    let added = adds c.self.inside.schema c.self.inside.book c.self.inside.sessions c.self.inside.groups c.self.inside.waiting c.self.inside.entries.items c.args.entry keeps.within keeps.stands keeps.reads keeps.stored (subst P (sym c.self.view_is) c.requires) in
    subst (λ (entry : Entry). CanStore (find c.self.inside.book) entry.change c.self.inside.groups c.self.inside.waiting) (sym c.in_ok-kept.ensures) added.store

pub invariant_of-self-2 : goal.invariant_of-self-2
invariant_of-self-2 c =
    let P : Table → Type 0 = λ table. CanAdd table c.args.entry in
    let entry : Entry = c.in_ok-kept.kept in
    let can : CanAdd (table_in c.self.inside) entry = subst (λ (e : Entry). CanAdd (table_in c.self.inside) e) (sym c.in_ok-kept.ensures) (subst P (sym c.self.view_is) c.requires) in
    let items : c.push.new.self.items ≡ c.self.inside.entries.items ++ entry ∷ [] = search rules in
    let asked : c.size_added-size.result ≡ size_added (length c.self.inside.schema) c.args.entry.change = search rules in
    let size : c.size_added-size.result ≡ size_added (length c.self.inside.schema) entry.change = asked ∙ ap (λ (e : Entry). size_added (length c.self.inside.schema) e.change) (sym c.in_ok-kept.ensures) in
    let latest : to_z w64 (of_z w64 c.max-self-inside.result) ≡ int_max c.self.inside.latest entry.moment = search rules in
    let when : to_z w64 (of_z w64 c.moment-moment.result) ≡ entry.moment = search rules in
    let notes : Notes c.self.inside.snapshots.list c.note_rows.new.snapshots.list entry.moment (length (joined c.self.inside.groups)) (length (joined c.change_all.new.groups)) = λ history more tells next at before visible.
    c.note_rows.ensures history more (subst (λ list. Tells list history) (sym c.in_ok-reserve-3.ensures.same) tells) next (at ∙ sym when) (c.len-before.ensures.value ∙ before) (c.len.ensures.value ∙ visible) in
    Keeps-add c.self.inside (record {
      schema = c.self.inside.schema;
      entries = c.push.new.self;
      book = c.change_all.new.book;
      groups = c.change_all.new.groups;
      waiting = c.change_all.new.waiting;
      sessions = c.change_all.new.sessions;
      snapshots = c.note_rows.new.snapshots;
      callers = c.add.new.self;
      weight = c.self.inside.weight + c.size_added-size.result;
      latest = to_z w64 (of_z w64 c.max-self-inside.result);
    }) entry c.size_added-size.result c.self.invariant can refl items c.in_ok-change_all.ensures.stands c.in_ok-change_all.ensures.reads notes c.in_ok-change_all.ensures.stores
    (λ other.
    c.add.ensures other
    ∙ ap (λ n. n + (if c.caller-caller.result == other then 1 else 0)) (c.in_ok-reserve-2.ensures.counts other)
    ∙ ap (λ k. count_of c.self.inside.callers other + (if k == other then 1 else 0)) c.caller-caller.ensures)
    size refl latest
