-- One step more: the counts of a link in memory, and its log.
use Rattle.std.proofs.Common.{◌≡◌, ℕ, ◌+◌, ◌≤◌, List, [], ◌∷◌, ◌++◌, length, take, drop, refl, sym, ap, ◌∙◌, add_assoc, zero-add, arith, length-drop}
use Rattle.std.proofs.lemmas.List.{take-append-le, drop-append-le, take-append-drop, append-nil, take-take, length-take-le, nil_from_length}
use Rattle.std.proofs.Math.Seq.{take-add, take-length}
use Rattle.links.specs.Link.{Read, Wrote, Waited, bytes_written}
use Rattle.links.specs.Memory.{log_of, read_by, written_by}
use Rattle.links.specs.declared.traffic.Step.{Step}
use Rattle.links.specs.declared.traffic.Step.TheVariants as step

pub read_by-append : (steps more : List Step) → read_by (steps ++ more) ≡ read_by steps + read_by more
read_by-append [] more = sym (zero-add _)
read_by-append (step.Read n ∷ steps) more = ap (λ k. n + k) (read_by-append steps more) ∙ sym (add_assoc n _ _)
read_by-append (step.Wrote n ∷ steps) more = read_by-append steps more
read_by-append (step.Waited ∷ steps) more = read_by-append steps more

pub written_by-append : (steps more : List Step) → written_by (steps ++ more) ≡ written_by steps + written_by more
written_by-append [] more = sym (zero-add _)
written_by-append (step.Read n ∷ steps) more = written_by-append steps more
written_by-append (step.Wrote n ∷ steps) more = ap (λ k. n + k) (written_by-append steps more) ∙ sym (add_assoc n _ _)
written_by-append (step.Waited ∷ steps) more = written_by-append steps more

pub log_of-append : (steps more : List Step) (read more_read written more_written : List ℕ)
    → read_by steps ≡ length read → written_by steps ≡ length written
    → log_of (steps ++ more) (read ++ more_read) (written ++ more_written) ≡ log_of steps read written ++ log_of more more_read more_written
log_of-append [] more read more_read written more_written er ew =
    let r : read ≡ [] = nil_from_length read (sym er) in
    let w : written ≡ [] = nil_from_length written (sym ew) in
    rw (r, w) refl
log_of-append (step.Read n ∷ steps) more read more_read written more_written er ew =
    let within : n ≤ length read = omega (arith, er) in
    let rest : read_by steps ≡ length (drop n read) = rw length-drop (omega (arith, er)) in
    rw (take-append-le n read more_read within, drop-append-le n read more_read within)
    (ap (λ log. Read (take n read) ∷ log) (log_of-append steps more (drop n read) more_read written more_written rest ew))
log_of-append (step.Wrote n ∷ steps) more read more_read written more_written er ew =
    let within : n ≤ length written = omega (arith, ew) in
    let rest : written_by steps ≡ length (drop n written) = rw length-drop (omega (arith, ew)) in
    rw (take-append-le n written more_written within, drop-append-le n written more_written within)
    (ap (λ log. Wrote (take n written) ∷ log) (log_of-append steps more read more_read (drop n written) more_written er rest))
log_of-append (step.Waited ∷ steps) more read more_read written more_written er ew =
    ap (λ log. Waited ∷ log) (log_of-append steps more read more_read written more_written er ew)

-- what a log wrote is all that was kept
pub bytes_written-log_of : (steps : List Step) (read written : List ℕ) → written_by steps ≡ length written → bytes_written (log_of steps read written) ≡ written
bytes_written-log_of [] read written e = sym (nil_from_length written (sym e))
bytes_written-log_of (step.Read n ∷ steps) read written e = bytes_written-log_of steps (drop n read) written e
bytes_written-log_of (step.Wrote n ∷ steps) read written e =
    let rest : written_by steps ≡ length (drop n written) = rw length-drop (omega (arith, e)) in
    ap (λ bytes. take n written ++ bytes) (bytes_written-log_of steps read (drop n written) rest) ∙ take-append-drop n written
bytes_written-log_of (step.Waited ∷ steps) read written e = bytes_written-log_of steps read written e

-- the counts and the log with one step more
pub read_by-read : (steps : List Step) (n : ℕ) → read_by (steps ++ step.Read n ∷ []) ≡ read_by steps + n
read_by-read steps n = read_by-append steps (step.Read n ∷ []) ∙ omega arith

pub written_by-wrote : (steps : List Step) (n : ℕ) → written_by (steps ++ step.Wrote n ∷ []) ≡ written_by steps + n
written_by-wrote steps n = written_by-append steps (step.Wrote n ∷ []) ∙ omega arith

pub log_of-read : (steps : List Step) (at n : ℕ) (input written : List ℕ)
    → at ≤ length input → read_by steps ≡ at → written_by steps ≡ length written
    → log_of (steps ++ step.Read n ∷ []) (take (at + n) input) written ≡ log_of steps (take at input) written ++ Read (take n (drop at input)) ∷ []
log_of-read steps at n input written within er ew =
    let e : read_by steps ≡ length (take at input) = er ∙ sym (length-take-le at input within) in
    let joined : log_of (steps ++ step.Read n ∷ []) (take at input ++ take n (drop at input)) (written ++ []) ≡ log_of steps (take at input) written ++ Read (take n (take n (drop at input))) ∷ []
    = log_of-append steps (step.Read n ∷ []) (take at input) (take n (drop at input)) written [] e ew in
    rw (take-add at n input) (rw (append-nil written, take-take n n (drop at input) (omega arith)) at joined)

pub log_of-wrote : (steps : List Step) (read written piece : List ℕ)
    → read_by steps ≡ length read → written_by steps ≡ length written
    → log_of (steps ++ step.Wrote (length piece) ∷ []) read (written ++ piece) ≡ log_of steps read written ++ Wrote piece ∷ []
log_of-wrote steps read written piece er ew =
    let joined : log_of (steps ++ step.Wrote (length piece) ∷ []) (read ++ []) (written ++ piece) ≡ log_of steps read written ++ Wrote (take (length piece) piece) ∷ []
    = log_of-append steps (step.Wrote (length piece) ∷ []) read [] written piece er ew in
    rw (append-nil read, take-length piece) at joined

pub log_of-waited : (steps : List Step) (read written : List ℕ)
    → read_by steps ≡ length read → written_by steps ≡ length written
    → log_of (steps ++ step.Waited ∷ []) read written ≡ log_of steps read written ++ Waited ∷ []
log_of-waited steps read written er ew =
    let joined : log_of (steps ++ step.Waited ∷ []) (read ++ []) (written ++ []) ≡ log_of steps read written ++ Waited ∷ []
    = log_of-append steps (step.Waited ∷ []) read [] written [] er ew in
    rw (append-nil read, append-nil written) at joined
