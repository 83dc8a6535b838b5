-- A frame of an open connection, and one behind a connection error.
use Rattle.std.proofs.Common.{◌≡◌, true, [], ◌∷◌, Option, None, Some, option_to_list, sym, ap, subst, ◌∙◌}
use Rattle.std.specs.Option.{option_or}
use Rattle.h2_frames.specs.declared.frame.Frame.{Frame}
use Rattle.h2_frames.specs.declared.fault.H2Fault.{H2Fault}
use Rattle.h2_record.specs.declared.event.Event.{Event}
use Rattle.h2_record.specs.Record.{Record, In}
use Rattle.h2_record.specs.Faults.{fault_by, first_fault_of}
use Rattle.h2_record.specs.Control.{control_of, due_after, answer_to}
use Rattle.h2_record.specs.Events.{events_of, events_behind, fault_event}
use Rattle.h2_conn.specs.Held.{Held}
use Rattle.h2_conn.specs.Stands.{FaultStands, StandsBy, Stands}
use Rattle.h2_conn.specs.Taking.{Takes, Follows}

fault-by : (c : Held) (r : Record) (fault : Option H2Fault) → StandsBy fault c r → fault ≡ first_fault_of r
fault-by c r None s = sym s.sound
fault-by c r (Some fault) s = sym s.met

-- the fault that is kept is the first of the record
pub fault-kept : (c : Held) (r : Record) → Stands c r → c.fault ≡ first_fault_of r
fault-kept c r s = fault-by c r c.fault s.1

module _ (r : Record) (frame : Frame) (c : Held) where
  pub follows-fault : (fault : H2Fault) → first_fault_of r ≡ None → fault_by r frame ≡ Some fault → c.fault ≡ Some fault → FaultStands c fault (In frame ∷ r) → Follows r frame (Some (fault_event fault)) c
  follows-fault fault sound breaks met stands = record {
    stands = subst (λ (f : Option H2Fault). StandsBy f c (In frame ∷ r)) (sym met) stands;
    tells = sym (λ i. events_behind r frame (sound i) (breaks i));
  }

  pub follows-open : (event : Option Event) → first_fault_of r ≡ None → c.fault ≡ None → Takes r frame event c → Follows r frame event c
  follows-open event sound well takes = record {
    stands = subst (λ (f : Option H2Fault). StandsBy f c (In frame ∷ r)) (sym well) takes.stands;
    tells = sym ((λ i. events_behind r frame (sound i) (takes.breaks i)) ∙ ap option_to_list takes.tells);
  }

  pub stays : (fault : H2Fault) → c.fault ≡ Some fault → c.has_begun ≡ true → Stands c r → Stands c (In frame ∷ r)
  stays fault met begun s =
      let old : FaultStands c fault r = subst (λ (f : Option H2Fault). StandsBy f c r) met s.1 in (
        s.0,
        subst (λ (f : Option H2Fault). StandsBy f c (In frame ∷ r)) (sym met) (record {
          met = ap (λ earlier. option_or earlier (fault_by r frame)) old.met;
          control = old.control ∙ sym (ap (λ earlier. due_after (control_of r) (answer_to frame) r earlier (fault_by r frame)) old.met);
          begun = begun;
          headed = old.headed;
          waits = old.waits;
        }),
      )

  pub tells-nothing : (fault : H2Fault) → c.fault ≡ Some fault → Stands c r → [] ≡ events_of r frame
  tells-nothing fault met s =
      let old : FaultStands c fault r = subst (λ (f : Option H2Fault). StandsBy f c r) met s.1 in
      sym (ap (λ earlier. events_behind r frame earlier (fault_by r frame)) old.met)
