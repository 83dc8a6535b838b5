-- Links that go from the door into the queue.
use Rattle.std.proofs.Common.{◌≡◌, inl, inr, ℕ, ◌+◌, List, [], ◌∷◌, ◌++◌, map, Option, refl, sym, ap, ◌∙◌, subst, append_assoc, append-nil, length-append, arith}
use Rattle.std.specs.Prelude.{Ok, Err}
use Rattle.links.specs.Told.{Tells}
use Rattle.doors.specs.Door.{led_by}
use Rattle.server.specs.declared.faults.ServeFault.{ServeFault}
use Rattle.server.specs.Serving.{DoorShows, led}
use Rattle.server.specs.Asks.{HasAsked, AsksAll}
use Rattle.server.proofs.ServeLemmas.{same_door}

led_job : {L J : Type 0} (link_of : J → L) (jobs : List J) (job : J) (left : Option (List L)) → led (map link_of (jobs ++ job ∷ [])) left ≡ led (map link_of jobs) (led_by (link_of job) left)
led_job link_of [] job left = refl
led_job link_of (first ∷ jobs) job left = ap (led_by (link_of first)) (led_job link_of jobs job left)

module _ {L J : Type 0} (link_of : J → L) where
  pub none_asked : (door : DoorShows L) (put : List J) → HasAsked link_of door door put put 0
  none_asked door put = record { jobs = []; count = refl; puts = sym (append-nil put); left = refl; handed = refl; out = omega arith }

  pub one_asked : (old now new : DoorShows L) (put0 put put' : List J) (number : ℕ) (job : J) (link : L) → link_of job ≡ link → now.left ≡ led_by link new.left → new.handed ≡ now.handed
      → new.out ≡ now.out + 1 → put' ≡ put ++ job ∷ [] → HasAsked link_of old now put0 put number → HasAsked link_of old new put0 put' (number + 1)
  one_asked old now new put0 put put' number job link link_is left handed out put_is so_far = record {
    jobs = so_far.jobs ++ job ∷ [];
    count = length-append so_far.jobs (job ∷ []) ∙ ap (λ n. n + 1) so_far.count;
    puts = put_is ∙ ap (λ p. p ++ job ∷ []) so_far.puts ∙ append_assoc put0 so_far.jobs (job ∷ []);
    left = so_far.left ∙ ap (led (map link_of so_far.jobs)) (left ∙ ap (λ l. led_by l new.left) (sym link_is)) ∙ sym (led_job link_of so_far.jobs job new.left);
    handed = handed ∙ so_far.handed;
    out = omega (arith, out, so_far.out);
  }

  pub asked_all : (old new : DoorShows L) (put0 put : List J) (number connections : ℕ) → number ≡ connections → HasAsked link_of old new put0 put number
      → AsksAll link_of old new put0 put connections (Ok tt)
  asked_all old new put0 put number connections is asked = record { number = number; asked = asked; enough = inl is }

  -- the door showed the same behind the last answer
  module _ (old now new : DoorShows L) (put0 put : List J) (number connections : ℕ) (left : new.left ≡ now.left) (handed : new.handed ≡ now.handed) (out : new.out ≡ now.out) where
    still : HasAsked link_of old now put0 put number → HasAsked link_of old new put0 put number
    still asked = subst (λ door. HasAsked link_of old door put0 put number) (sym (same_door new now left handed out)) asked

    pub asked_last : Tells now.left [] → HasAsked link_of old now put0 put number → AsksAll link_of old new put0 put connections (Ok tt)
    asked_last none asked = record { number = number; asked = still asked; enough = inr (subst (λ told. Tells told []) (sym left) none) }

    pub asked_some : (fault : ServeFault) → HasAsked link_of old now put0 put number → AsksAll link_of old new put0 put connections (Err fault)
    asked_some fault asked = record { number = number; asked = still asked; enough = tt }
