-- A text is UTF-8.
use Rattle.std.proofs.Common.{sym, subst}
use Rattle.std.specs.Prelude.{IsUtf8}
use Rattle.std.proofs.lemmas.Str.{is_utf8-from_IsUtf8}
use Rattle.column_types.proofs.row.has_kind.Goals as goal

pub returns-in-Str-Str : goal.returns-in-Str-Str
returns-in-Str-Str c = rw (c.in-Str-Str.is-0, c.in-Str-Str.is-1) (sym (is_utf8-from_IsUtf8 _ (subst IsUtf8 c.text-text.ensures c.text-text.utf8)))
