-- SETTINGS is the first of the control frames that are due, and no other of them is SETTINGS without ACK.
use Rattle.std.proofs.Common.{◌≡◌, ◌+◌, ◌==◌, Bool, true, false, not, ◌&&◌, ◌||◌, List, [], ◌∷◌, ◌++◌, Option, None, Some, refl, sym, ap, subst, ◌∙◌, true≢false, if◌then◌else◌}
use Rattle.std.specs.List.{AllByRecursion, list_any}
use Rattle.std.proofs.lemmas.List.Folds.{list_any-append}
use Rattle.h2_frames.specs.declared.frame.Frame.{Frame}
use Rattle.h2_frames.specs.declared.frame.Frame.TheVariants as frames
use Rattle.h2_frames.specs.declared.fault.H2Fault.{H2Fault}
use Rattle.h2_record.specs.declared.block.OwedCredit.{OwedCredit}
use Rattle.h2_record.specs.declared.control.Control.TheVariants as control
use Rattle.h2_record.specs.Record.{Record, In, Out, Given, Whole, Broken, any_out}
use Rattle.h2_record.specs.Resets.{is_open}
use Rattle.h2_record.specs.Faults.{first_fault_of, fault_by}
use Rattle.h2_record.specs.Rules.{is_settings}
use Rattle.h2_record.specs.Credits.{owed_of, is_free, given_of, kept_of, kept_by, freed_by}
use Rattle.h2_record.specs.Control.{frame_of, answer_to, due_after, control_of, written_control_of}
use Rattle.h2_record.proofs.BoolLemmas.{or-true}
use Rattle.h2_record.proofs.ControlLaws.{all-due, all-behind, all-if}

-- not the server's own SETTINGS
abbrev pub IsOther : Frame → Type 0
IsOther frame = is_settings frame ≡ false

unfoldable pub first_frame : Frame
first_frame = frame_of control.Settings

pub record BeginsWithSettings (due : List Frame) : Type 0 where
  pub behind : List Frame
  pub is : due ≡ first_frame ∷ behind
  pub others : AllByRecursion IsOther behind

due-first : (behind answer : List Frame) (r : Record) (earlier fault : Option H2Fault)
    → due_after (first_frame ∷ behind) answer r earlier fault ≡ first_frame ∷ due_after behind answer r earlier fault
unfolding first_frame
due-first behind answer r (Some earlier) fault = refl
due-first behind answer r None None = refl
due-first behind answer r None (Some fault) = refl

given-other : (r : Record) (owed : Option OwedCredit) → AllByRecursion IsOther (given_of r owed)
given-other r None = tt
given-other r (Some owed) = all-if IsOther (is_free r owed.stream) (frames.Window owed.stream owed.bytes) (λ free. refl)

answer-other : (frame : Frame) → AllByRecursion IsOther (answer_to frame)
answer-other (frames.Settings false pairs) = (refl, tt)
answer-other (frames.Settings true pairs) = tt
answer-other (frames.Ping false octets) = (refl, tt)
answer-other (frames.Ping true octets) = tt
answer-other (frames.Body stream ended bytes counted) = by (counted == 0)
  where
    by : (b : Bool) → AllByRecursion IsOther (if b then [] else frames.Window 0 counted ∷ [])
    by true = tt
    by false = (refl, tt)
answer-other (frames.Headers stream end whole fragment) = tt
answer-other (frames.Priority stream) = tt
answer-other (frames.Reset stream code) = tt
answer-other (frames.Push stream) = tt
answer-other (frames.Goaway last code) = tt
answer-other (frames.Window stream add) = tt
answer-other (frames.Continuation stream whole fragment) = tt
answer-other (frames.Unknown kind stream) = tt

freed-other : (r : Record) (frame : Frame) → AllByRecursion IsOther (freed_by r frame)
freed-other r (frames.Body stream ended bytes counted) =
    let sum = kept_of r stream + kept_by r (owed_of r) stream in
    let after = Out (frames.Body stream ended bytes counted) ∷ r in
    all-if IsOther (not (sum == 0) && is_open after stream && is_free after stream) (frames.Window stream sum) (λ freed. refl)
freed-other r (frames.Headers stream end whole fragment) = tt
freed-other r (frames.Priority stream) = tt
freed-other r (frames.Reset stream code) = tt
freed-other r (frames.Settings acked pairs) = tt
freed-other r (frames.Push stream) = tt
freed-other r (frames.Ping acked octets) = tt
freed-other r (frames.Goaway last code) = tt
freed-other r (frames.Window stream add) = tt
freed-other r (frames.Continuation stream whole fragment) = tt
freed-other r (frames.Unknown kind stream) = tt

pub begins-due : (due answer : List Frame) (r : Record) (earlier fault : Option H2Fault) → BeginsWithSettings due → AllByRecursion IsOther answer → BeginsWithSettings (due_after due answer r earlier fault)
begins-due due answer r earlier fault b more = record {
  behind = due_after b.behind answer r earlier fault;
  is = ap (λ list. due_after list answer r earlier fault) b.is ∙ due-first b.behind answer r earlier fault;
  others = all-due IsOther b.behind answer r earlier fault b.others (given-other r (owed_of r)) more (λ fault. refl);
}

pub begins : (r : Record) → BeginsWithSettings (control_of r)
unfolding first_frame
begins [] = record { behind = []; is = refl; others = tt }
begins (In frame ∷ r) = begins-due (control_of r) (answer_to frame) r (first_fault_of r) (fault_by r frame) (begins r) (answer-other frame)
begins (Out frame ∷ r) = begins-due (control_of r) (freed_by r frame) r (first_fault_of r) None (begins r) (freed-other r frame)
begins (Given stream part ∷ r) = begins r
begins (Whole ∷ r) = begins r
begins (Broken fault ∷ r) = begins-due (control_of r) [] r (first_fault_of r) (Some fault) (begins r) tt

-- ---- SETTINGS went where they are among the control frames that did

or-flip : (a b : Bool) → (a || b) ≡ (b || a)
or-flip true b = sym (or-true b)
or-flip false true = refl
or-flip false false = refl

or-nothing : (a : Bool) → (a || false) ≡ a
or-nothing true = refl
or-nothing false = refl

pushed : (written : List Frame) (frame : Frame) (any : Bool) → list_any is_settings written ≡ any → list_any is_settings (written ++ frame ∷ []) ≡ (is_settings frame || any)
pushed written frame any e = list_any-append is_settings written (frame ∷ []) ∙ (λ i. e i || or-nothing (is_settings frame) i) ∙ or-flip any (is_settings frame)

pub any-written : (r : Record) → list_any is_settings (written_control_of r) ≡ any_out is_settings r
any-written [] = refl
any-written (Out (frames.Settings acked pairs) ∷ r) = pushed (written_control_of r) (frames.Settings acked pairs) (any_out is_settings r) (any-written r)
any-written (Out (frames.Ping acked octets) ∷ r) = pushed (written_control_of r) (frames.Ping acked octets) (any_out is_settings r) (any-written r)
any-written (Out (frames.Goaway last code) ∷ r) = pushed (written_control_of r) (frames.Goaway last code) (any_out is_settings r) (any-written r)
any-written (Out (frames.Window stream add) ∷ r) = pushed (written_control_of r) (frames.Window stream add) (any_out is_settings r) (any-written r)
any-written (Out (frames.Headers stream end whole fragment) ∷ r) = any-written r
any-written (Out (frames.Body stream ended bytes counted) ∷ r) = any-written r
any-written (Out (frames.Priority stream) ∷ r) = any-written r
any-written (Out (frames.Reset stream code) ∷ r) = any-written r
any-written (Out (frames.Push stream) ∷ r) = any-written r
any-written (Out (frames.Continuation stream whole fragment) ∷ r) = any-written r
any-written (Out (frames.Unknown kind stream) ∷ r) = any-written r
any-written (In frame ∷ r) = any-written r
any-written (Given stream part ∷ r) = any-written r
any-written (Whole ∷ r) = any-written r
any-written (Broken fault ∷ r) = any-written r

-- ---- and they went exactly where they don't wait

first-is : (x : Frame) (xs ys : List Frame) → x ∷ xs ≡ first_frame ∷ ys → is_settings x ≡ true
unfolding first_frame
first-is x xs ys e = let same : x ≡ frame_of control.Settings = cc in ap is_settings same

went : (written waiting due : List Frame) → BeginsWithSettings due → written ++ waiting ≡ due → ((behind : List Frame) → waiting ≡ first_frame ∷ behind → ⊥) → list_any is_settings written ≡ true
went [] waiting due b e apart = absurd (apart b.behind (e ∙ b.is))
went (x ∷ xs) waiting due b e apart = ap (λ t. t || list_any is_settings xs) (first-is x (xs ++ waiting) b.behind (e ∙ b.is))

-- where the first that waits isn't SETTINGS, these went
pub settings-went : (r : Record) (waiting : List Frame) → written_control_of r ++ waiting ≡ control_of r → ((behind : List Frame) → waiting ≡ first_frame ∷ behind → ⊥) → any_out is_settings r ≡ true
settings-went r waiting e apart = sym (any-written r) ∙ went (written_control_of r) waiting (control_of r) (begins r) e apart

waits : (written waiting behind due : List Frame) → BeginsWithSettings due → written ++ waiting ≡ due → waiting ≡ first_frame ∷ behind → list_any is_settings written ≡ false
unfolding first_frame
waits [] waiting behind due b e first = refl
waits (x ∷ xs) waiting behind due b e first =
    let rest : xs ++ waiting ≡ b.behind = cc (e, b.is) in
    let others = all-behind IsOther xs (first_frame ∷ behind) (subst (λ (list : List Frame). AllByRecursion IsOther list) (sym rest ∙ ap (λ more. xs ++ more) first) b.others) in
    absurd (true≢false others.0)

-- and where it is, they didn't
pub settings-wait : (r : Record) (waiting behind : List Frame) → written_control_of r ++ waiting ≡ control_of r → waiting ≡ first_frame ∷ behind → any_out is_settings r ≡ false
settings-wait r waiting behind e first = sym (any-written r) ∙ waits (written_control_of r) waiting behind (control_of r) (begins r) e first
