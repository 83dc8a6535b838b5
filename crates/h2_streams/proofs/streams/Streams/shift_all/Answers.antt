-- The ids stay, so what holds of them stays.
use Rattle.std.proofs.Common.{rules, ◌≡◌, ◌≤◌, nat_eq, length, map, None, IsSome, ap, subst, sym, ◌∙◌}
use Rattle.std.proofs.lemmas.List.{length-map}
use Rattle.std.specs.Map.{lookup}
use Rattle.h2_streams.specs.Shifts.{shifted_by}
use Rattle.h2_streams.proofs.ShiftLemmas.{lookup-shifted, found-shifted}
use Rattle.h2_streams.proofs.streams.Streams.shift_all.Goals as goal

pub invariant_of-self : goal.invariant_of-self
invariant_of-self c =
    let live = c.self.inside.live.entries in
    let same : c.shift_live.new.live.entries ≡ map (shifted_by c.args.by) live = search rules in
    record {
      none_above = λ id h. subst (λ es. lookup (nat_eq id) es ≡ None) (sym same) (lookup-shifted (nat_eq id) c.args.by live (c.self.invariant.none_above id h));
      none_zero = subst (λ es. lookup (nat_eq 0) es ≡ None) (sym same) (lookup-shifted (nat_eq 0) c.args.by live c.self.invariant.none_zero);
      few = subst (λ n. n ≤ 100) (sym (ap length same ∙ length-map live (shifted_by c.args.by))) c.self.invariant.few;
      room = λ id some. c.self.invariant.room id (found-shifted (nat_eq id) c.args.by live (subst (λ es. IsSome (lookup (nat_eq id) es)) same some));
    }
