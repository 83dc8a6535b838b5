-- Which of several faults counts doesn't hang on how they are grouped.
use Rattle.std.proofs.Common.{◌≡◌, ℕ, min, refl, ap, arith}
use Rattle.write_msgs.specs.declared.faults.MsgFault.{MsgFault}
use Rattle.write_msgs.specs.declared.faults.MsgFault.TheVariants as fault
use Rattle.write_msgs.specs.Faults.{least}

min_groups : (x y z : ℕ) → min (min x y) z ≡ min x (min y z)
min_groups x y z = omega arith

pub least_memory : (a : MsgFault) → least a fault.Memory ≡ fault.Memory
least_memory fault.Memory = refl
least_memory (fault.BadProto x) = refl
least_memory (fault.Unsupported x) = refl
least_memory (fault.BadUtf8 x) = refl

pub least_groups : (a b c : MsgFault) → least (least a b) c ≡ least a (least b c)
least_groups fault.Memory b c = refl
least_groups (fault.BadProto x) fault.Memory c = refl
least_groups (fault.BadProto x) (fault.BadProto y) fault.Memory = refl
least_groups (fault.BadProto x) (fault.BadProto y) (fault.BadProto z) = ap fault.BadProto (min_groups x y z)
least_groups (fault.BadProto x) (fault.BadProto y) (fault.Unsupported z) = refl
least_groups (fault.BadProto x) (fault.BadProto y) (fault.BadUtf8 z) = refl
least_groups (fault.BadProto x) (fault.Unsupported y) fault.Memory = refl
least_groups (fault.BadProto x) (fault.Unsupported y) (fault.BadProto z) = refl
least_groups (fault.BadProto x) (fault.Unsupported y) (fault.Unsupported z) = refl
least_groups (fault.BadProto x) (fault.Unsupported y) (fault.BadUtf8 z) = refl
least_groups (fault.BadProto x) (fault.BadUtf8 y) fault.Memory = refl
least_groups (fault.BadProto x) (fault.BadUtf8 y) (fault.BadProto z) = refl
least_groups (fault.BadProto x) (fault.BadUtf8 y) (fault.Unsupported z) = refl
least_groups (fault.BadProto x) (fault.BadUtf8 y) (fault.BadUtf8 z) = refl
least_groups (fault.Unsupported x) fault.Memory c = refl
least_groups (fault.Unsupported x) (fault.BadProto y) fault.Memory = refl
least_groups (fault.Unsupported x) (fault.BadProto y) (fault.BadProto z) = refl
least_groups (fault.Unsupported x) (fault.BadProto y) (fault.Unsupported z) = refl
least_groups (fault.Unsupported x) (fault.BadProto y) (fault.BadUtf8 z) = refl
least_groups (fault.Unsupported x) (fault.Unsupported y) fault.Memory = refl
least_groups (fault.Unsupported x) (fault.Unsupported y) (fault.BadProto z) = refl
least_groups (fault.Unsupported x) (fault.Unsupported y) (fault.Unsupported z) = ap fault.Unsupported (min_groups x y z)
least_groups (fault.Unsupported x) (fault.Unsupported y) (fault.BadUtf8 z) = refl
least_groups (fault.Unsupported x) (fault.BadUtf8 y) fault.Memory = refl
least_groups (fault.Unsupported x) (fault.BadUtf8 y) (fault.BadProto z) = refl
least_groups (fault.Unsupported x) (fault.BadUtf8 y) (fault.Unsupported z) = refl
least_groups (fault.Unsupported x) (fault.BadUtf8 y) (fault.BadUtf8 z) = refl
least_groups (fault.BadUtf8 x) fault.Memory c = refl
least_groups (fault.BadUtf8 x) (fault.BadProto y) fault.Memory = refl
least_groups (fault.BadUtf8 x) (fault.BadProto y) (fault.BadProto z) = refl
least_groups (fault.BadUtf8 x) (fault.BadProto y) (fault.Unsupported z) = refl
least_groups (fault.BadUtf8 x) (fault.BadProto y) (fault.BadUtf8 z) = refl
least_groups (fault.BadUtf8 x) (fault.Unsupported y) fault.Memory = refl
least_groups (fault.BadUtf8 x) (fault.Unsupported y) (fault.BadProto z) = refl
least_groups (fault.BadUtf8 x) (fault.Unsupported y) (fault.Unsupported z) = refl
least_groups (fault.BadUtf8 x) (fault.Unsupported y) (fault.BadUtf8 z) = refl
least_groups (fault.BadUtf8 x) (fault.BadUtf8 y) fault.Memory = refl
least_groups (fault.BadUtf8 x) (fault.BadUtf8 y) (fault.BadProto z) = refl
least_groups (fault.BadUtf8 x) (fault.BadUtf8 y) (fault.Unsupported z) = refl
least_groups (fault.BadUtf8 x) (fault.BadUtf8 y) (fault.BadUtf8 z) = ap fault.BadUtf8 (min_groups x y z)
