-- A run of the program: what its line does, and a run for which memory was wanting at its start.
use Rattle.std.proofs.Common.{subst, ◌≡◌, inl, inr, ℕ, ◌+◌, ℤ, List, [], take, Option, Some, None, Err, IfSome, refl, sym, arith}
use Rattle.std.specs.Io.KnownBytes.{Appends}
use Rattle.std.proofs.lemmas.List.{append-nil}
use Rattle.std.specs.Prelude.{Bool}
use Rattle.call_body.specs.declared.limits.TheConstants.{BODY_LIMIT}
use Rattle.call_body.specs.declared.ends.BodyEnd.TheVariants as ends
use Rattle.call_body.specs.Ends.{EndsAs, TakesAtMost, IsGoodBody, IsDoneOrMemory}
use Rattle.outside.specs.Faults.{Rose}
use Rattle.table_spec.specs.declared.spec.TableSpec.{TableSpec}
use Rattle.command_line.specs.declared.line.CommandLine.{CommandLine}
use Rattle.command_line.specs.declared.line.CommandLine.TheVariants as line
use Rattle.command_line.specs.declared.line.LineFault.{LineFault}
use Rattle.command_line.specs.declared.line.LineFault.TheVariants as faults
use Rattle.command_line.specs.Line.{IsLine}
use Rattle.command_line.specs.Reads.{Reads}
use Rattle.command_line.proofs.LineLemmas.{one_line}
use Rattle.conn_service.specs.declared.ending.Ending.TheVariants as ending
use Rattle.server.specs.declared.faults.ServeFault.TheVariants as serves
use Rattle.server.specs.Visits.{LinkShows}
use Rattle.program.specs.declared.drills.DrillFault.TheVariants as drills
use Rattle.program.specs.Outside.{Objects, StandardStreams, Shows}
use Rattle.program.specs.Runs.{RunsNone, Runs, status_without}
use Rattle.program.specs.Body.{BodyRan, RanOver, is_readable, AnswersFromTable}
use Rattle.program.specs.Typed.{is_decodable, AnswersFromTyped, fresh}
use Rattle.program.proofs.PipeLemmas.{nothing_piped}

appends_none : (t : Option (List ℕ)) → Appends t t []
appends_none None = tt
appends_none (Some bytes) = sym (append-nil bytes)

unread : {S : Type 0} (readable : List ℕ → Bool) (answers : S → List ℕ → List ℕ → S → Type 0) (start : S) (left : Option (List ℕ))
    → IfSome left (λ bytes. (last : S) × EndsAs readable answers bytes [] start last ends.Memory)
unread readable answers start None = tt
unread readable answers start (Some bytes) =
    (start, (take BODY_LIMIT bytes, [], [], record { messages = []; replies = []; whole = refl; within = tt; answered = refl; spelled = refl }, refl))

unread_complete : (readable : List ℕ → Bool) (left : Option (List ℕ)) (a b : ℕ)
    → IfSome left (λ bytes. IsGoodBody readable bytes → (Rose a a → ⊥) → (Rose b b → ⊥) → IsDoneOrMemory ends.Memory)
unread_complete readable None a b = tt
unread_complete readable (Some bytes) a b = λ good input out. inr refl

takes_none : (most : ℕ) (left : Option (List ℕ)) → TakesAtMost most left left
takes_none most None = tt
takes_none most (Some bytes) = ([], omega arith, refl)

pub nothing_ran : {S : Type 0} (readable : List ℕ → Bool) (answers : S → List ℕ → List ℕ → S → Type 0) (start : S) (streams : StandardStreams)
    → BodyRan readable answers start streams streams ends.Memory
nothing_ran readable answers start s = record {
  ending = ([], appends_none s.taken, unread readable answers start s.left);
  cause = (refl, refl);
  read = tt;
  takes = takes_none (BODY_LIMIT + 1) s.left;
  complete = unread_complete readable s.left s.source_faults s.sink_faults;
}

nothing_ran_over : (table : Option TableSpec) (streams : StandardStreams) → RanOver table streams streams ends.Memory
nothing_ran_over None s = nothing_ran is_readable AnswersFromTable [] s
nothing_ran_over (Some spec) s = nothing_ran is_decodable AnswersFromTyped (fresh spec.schema) s

-- the words are this line, and no other
pub line_runs : {L D P C I O : Type 0} (shows : L → LinkShows) (clones : Option (List ℤ) → Type 0) (words : List (List ℕ)) (read due : CommandLine) (old new : Objects D P C I O) (before after : Shows L) (status : ℕ)
    → IsLine words read → IsLine words due → Runs shows clones read old new before after status → Runs shows clones due old new before after status
line_runs shows clones words read due old new before after status is wanted runs =
    subst (λ (l : CommandLine). Runs shows clones l old new before after status) (one_line words read due is wanted) runs

-- memory was wanting while the line was read
unrun : {L D P C I O : Type 0} (shown : L → LinkShows) (clones : Option (List ℤ) → Type 0) (l : CommandLine) (objects : Objects D P C I O) (shows : Shows L) (status : ℕ) → status ≡ 4 → Runs shown clones l objects objects shows shows status
unrun shown clones (line.Body table) objects shows status is =
    record { end = ends.Memory; status_is = is; ran = nothing_ran_over table shows.streams; door = refl; pipe = refl; clock = refl }
unrun shown clones (line.Pipe specs) objects shows status is =
    record { end = ending.Memory; status_is = is; ran = nothing_piped specs shows.pipe; closed = inl is; door = refl; input = refl; out = refl }
unrun shown clones (line.Serve listen workers connections specs) objects shows status is =
    record { end = Err serves.Memory; status_is = is; served = tt; cause = (refl, refl); partly = refl; pipe = refl; input = refl }
unrun shown clones (line.Drill n) objects shows status is =
    record { end = Err drills.Memory; status_is = is; drills = (refl, refl); door = refl; pipe = refl; clock = refl; input = refl }

-- words that gave no line
pub runs_none : {D P C I O : Type 0} (fault : LineFault) (objects : Objects D P C I O) (status : ℕ) → status ≡ status_without fault → RunsNone objects objects status
runs_none faults.Usage objects status is = (inl is, refl)
runs_none faults.Memory objects status is = (inr is, refl)

-- words of a line give none only where memory was wanting
pub line_unread : {L D P C I O : Type 0} (shown : L → LinkShows) (clones : Option (List ℤ) → Type 0) (words : List (List ℕ)) (fault : LineFault) (due : CommandLine) (objects : Objects D P C I O) (shows : Shows L) (status : ℕ)
    → Reads (λ l. l) (IsLine words) (Err fault) → IsLine words due → status ≡ status_without fault → Runs shown clones due objects objects shows shows status
line_unread shown clones words faults.Usage due objects shows status refused is told = absurd (refused due is)
line_unread shown clones words faults.Memory due objects shows status refused is told = unrun shown clones due objects shows status told
