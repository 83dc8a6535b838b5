-- A message that can't be read.
use Rattle.std.proofs.Common.{◌≡◌, ℤ, List, Result, Ok, Err, refl, sym, subst, inr, IfOk}
use Rattle.outside.specs.declared.wants.Memory.{Memory}
use Rattle.write_msgs.specs.declared.faults.MsgFault.{MsgFault}
use Rattle.write_msgs.specs.declared.faults.MsgFault.TheVariants as fault
use Rattle.write_msgs.specs.Faults.{ReadsAs}
use Rattle.open_tables.specs.Tables.{TableView}
use Rattle.open_tables.specs.Plans.{Plan, Fixed, At, Gets, Loses}
use Rattle.conn_requests.specs.declared.answers.Answer.{Answer}
use Rattle.call_plans.specs.Endings.{unreadable}
use Rattle.call_names.specs.Broken.{IsBroken}

pub read_err : {X : Type 0} (broken : MsgFault) (read : Result X MsgFault) → IsBroken broken → ReadsAs (Err broken) read → read ≡ Err broken
read_err fault.Memory read is reads = absurd is
read_err (fault.BadProto at) read is reads = reads
read_err (fault.Unsupported number) read is reads = reads
read_err (fault.BadUtf8 number) read is reads = reads

-- a plan by what was read answers a message that can't be read so
pub unread : {X : Type 0} (by : Result X MsgFault → Plan Answer) (passes : List TableView) (now : ℤ) (broken : MsgFault) (read : Result X MsgFault) (result : Result Answer Memory)
    → by (Err broken) ≡ Fixed (unreadable broken) → ReadsAs (Err broken) read → IfOk result (λ given. given ≡ unreadable broken) → IfOk result (λ given. IsBroken broken)
    → IfOk result (λ given. Gets passes (by read) now given passes)
unread by passes now broken read (Err memory) e reads value is = tt
unread by passes now broken read (Ok given) e reads value is =
    subst (λ (plan : Plan Answer). Gets passes plan now given passes) (sym (subst (λ r. by r ≡ Fixed (unreadable broken)) (sym (read_err broken read is reads)) e)) (value, refl)

-- a plan that asks no table gets its answer
pub gets-fixed : (passes : List TableView) (now : ℤ) (plan : Plan Answer) (due : Answer) (result : Result Answer Memory) → plan ≡ Fixed due
    → IfOk result (λ given. given ≡ due) → IfOk result (λ given. Gets passes plan now given passes)
gets-fixed passes now plan due (Ok given) is value = subst (λ (p : Plan Answer). Gets passes p now given passes) (sym is) (value, refl)
gets-fixed passes now plan due (Err memory) is value = tt

-- the same of what is told by something else
pub tells-fixed : {X : Type 0} (tell : X → Answer) (passes : List TableView) (now : ℤ) (plan : Plan Answer) (due : Answer) (result : Result X Memory) → plan ≡ Fixed due
    → IfOk result (λ given. tell given ≡ due) → IfOk result (λ given. Gets passes plan now (tell given) passes)
tells-fixed tell passes now plan due (Ok given) is value = subst (λ (p : Plan Answer). Gets passes p now (tell given) passes) (sym is) (value, refl)
tells-fixed tell passes now plan due (Err memory) is value = tt

pub tells : {X : Type 0} (tell : X → Answer) (P : Answer → Type 0) (answer : Result Answer Memory) (result : Result X Memory) → IfOk result (λ given. answer ≡ Ok (tell given))
    → IfOk answer P → IfOk result (λ given. P (tell given))
tells tell P answer (Ok given) is holds = subst (λ r. IfOk r P) is holds
tells tell P answer (Err memory) is holds = tt

-- who got an answer may still lose it
pub loses-got : {A : Type 0} (passes after : List TableView) (plan : Plan A) (now : ℤ) (answer : A) → Gets passes plan now answer after → Loses passes plan now after
loses-got passes after (Fixed due) now answer gets = gets.1
loses-got passes after (At place turn) now answer gets =
    inr (record { view = gets.view; point = gets.point; found = gets.found; reaches = gets.reaches; behind = inr gets.behind })
