-- The laws of intervals, as their lemmas say.
use Rattle.read_cursor.proofs.IntervalLemmas.{shown_parts, shown_later, shown_behind}
use Rattle.read_cursor.proofs.law.intervals_keep_their_rows.Goals as goal

pub returns-clause-parts : goal.returns-clause-parts
returns-clause-parts c = λ pred fields lo cut hi rows low high. shown_parts pred fields lo cut hi rows low high

pub returns-clause-later : goal.returns-clause-later
returns-clause-later c = λ pred fields lo hi rows more low high. shown_later pred fields lo hi rows more low high

pub returns-clause-offset : goal.returns-clause-offset
returns-clause-offset c = λ lease at. shown_behind lease at
