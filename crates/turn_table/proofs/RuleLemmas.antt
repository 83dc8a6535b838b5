-- Each step keeps the rule of the table behind a turn.
use Rattle.std.proofs.Common.{◌≡◌, ◌≢◌, ◌⊎◌, ℕ, ◌+◌, ◌%◌, ◌^◌, ◌<◌, ◌≤◌, max, eqb, eq-eqb, ne_eqb, ◌==◌, Bool, true, false, ◌||◌, true≢false, List, [], ◌∷◌, ◌++◌, length, get_or, set, Option, None, Some, unwrap_or, refl, sym, ap, ◌∙◌, subst, ⊎_elim, inl, inr, arith, length-set, length-append}
use mathlib.Core.Logic.{dite}
use mathlib.Core.Option.{none, some, some-ne-none, some-injective}
use mathlib.Core.Option as maybe
use native.Mathlib.Decide.{ℕ_discrete}
use lib.ListN.{get_elem?}
use lib.Seq.{set-get_or}
use prog.Atomic.{either}
use Rattle.atomic_table.specs.Table.{State, Me, step, keeps, takes, gives, stepped, homes_after, put_back, rest, Allows, Splits, Joins, opening}
use Rattle.atomic_table.proofs.Lists.{at_set, set_else, set_again}
use Rattle.turn_table.specs.declared.seats.Knows.{Knows}
use Rattle.turn_table.specs.declared.seats.Stage.{Stage}
use Rattle.turn_table.specs.declared.seats.Stage.TheVariants.{Idle, Waits, Holds, Joined}
use Rattle.turn_table.specs.Rule.{Meaning, Front, Desk, HasSecond, StageAt, LiveAt, Each, HomeAt, Orderly, Publishing, newcomer, spent, ticket_of, based, longer, waiting, holding, published, resting, numbered, left_of, right_of, both_of, drawn, asked, gave_out, passed_on, drew_number, learned}
use Rattle.turn_table.proofs.ListLemmas.{put, put_here, put_else, some_same, none_some, at_length, snoc_at, carried, carried-more, carried-front, front_same, front_more, front_unused, Joint, joint}

module _ {M E F : Type 0} (k : Meaning M E F) (fixed : F) where
  abbrev V : Type 0
  V = Knows E F

  abbrev St : Type 0
  St = State (Option M) V

  abbrev Sat : Type 0
  Sat = Me (Option M) V

  abbrev Rule : St → Type 0
  Rule = Orderly k fixed

  -- ---- one seat changes its view

  each_set : (d d' : Desk E F) (views : List V) (id : ℕ) (w : V) → ((part : F) → w.fixed ≡ Some part → LiveAt k d' id w)
      → ((seat : ℕ) (v : V) → seat ≢ id → LiveAt k d seat v → LiveAt k d' seat v) → Each k d views → Each k d' (set views id w)
  each_set d d' views id w own others each seat v at part live =
      ⊎_elim (λ (t : (seat ≡ id) × (w ≡ v)). subst (λ (z : ℕ × V). (part : F) → z.1.fixed ≡ Some part → LiveAt k d' z.0 z.1) (λ i. (sym t.0 i, t.1 i)) own part live)
      (λ (t : (seat ≢ id) × (get_elem? views seat ≡ some v)). others seat v t.0 (each seat v t.1 part live))
      (at_set views id seat w v at)

  -- a step on the tickets alone
  abbrev turned : Desk E F → ℕ → ℕ → Option ℕ → (ℕ → ℕ) → Desk E F
  turned d tickets served holder waiter = record d { tickets = tickets; served = served; holder = holder; waiter = waiter }

  restaged : (d : Desk E F) (tickets served : ℕ) (holder : Option ℕ) (waiter : ℕ → ℕ) (seat : ℕ) (v : V) (stage : Stage E) → LiveAt k d seat v
      → StageAt k (turned d tickets served holder waiter) seat (record v { stage = stage }) stage → LiveAt k (turned d tickets served holder waiter) seat (record v { stage = stage })
  restaged d tickets served holder waiter seat v stage l at = record {
    same = l.same;
    given = l.given;
    own = l.own;
    front = l.front;
    second = l.second;
    bound = l.bound;
    lone = l.lone;
    shared = l.shared;
    at = at;
  }

  turned_stays : (d : Desk E F) (tickets served : ℕ) (holder : Option ℕ) (waiter : ℕ → ℕ) (seat : ℕ) (v : V) → LiveAt k d seat v
      → StageAt k (turned d tickets served holder waiter) seat v v.stage → LiveAt k (turned d tickets served holder waiter) seat v
  turned_stays d tickets served holder waiter seat v l at = record {
    same = l.same;
    given = l.given;
    own = l.own;
    front = l.front;
    second = l.second;
    bound = l.bound;
    lone = l.lone;
    shared = l.shared;
    at = at;
  }

  seats_same : (d : Desk E F) (views : List V) (id : ℕ) (w : V) (homes : List (maybe.Option (Option M))) → HomeAt k d (length views) homes d.holder → HomeAt k d (length (set views id w)) homes d.holder
  seats_same d views id w homes home = subst (λ (n : ℕ). HomeAt k d n homes d.holder) (sym (length-set views id w)) home

  -- nothing changes
  unmoved : (s : St) (r : Rule s) (i id x : ℕ) (v : V) → get_elem? s.views id ≡ some v → x ≡ get_or s.words i 0 → Rule record { words = set s.words i x; homes = s.homes; views = set s.views id v }
  unmoved s r i id x v at same = subst (λ (z : List ℕ × List V). Rule record { words = z.0; homes = s.homes; views = z.1 })
      (λ j. (sym (ap (set s.words i) same ∙ set-get_or s.words i 0) j, sym (set_again s.views id v at) j)) r

  -- where a seat is alone, no other acts
  not_lone : (d : Desk E F) (id seat : ℕ) (v w : V) → LiveAt k d id v → LiveAt k d seat w → seat ≢ id → w.alone ≡ true → ⊥
  not_lone d id seat v w own l other alone = by (v.alone) refl
    where
      by : (b : Bool) → v.alone ≡ b → ⊥
      by true e = other (some_same seat id (sym (l.lone alone).0 ∙ (own.lone e).0))
      by false e = none_some seat (sym (own.shared e) ∙ (l.lone alone).0)

  shared_with : (d : Desk E F) (id seat : ℕ) (v w : V) → LiveAt k d id v → LiveAt k d seat w → seat ≢ id → w.alone ≡ false
  shared_with d id seat v w own l other = by (w.alone) refl
    where
      by : (b : Bool) → w.alone ≡ b → w.alone ≡ false
      by true e = absurd (not_lone d id seat v w own l other e)
      by false e = e

  at_stage : (d : Desk E F) (seat : ℕ) (v : V) (stage : Stage E) → v.stage ≡ stage → LiveAt k d seat v → StageAt k d seat v stage
  at_stage d seat v stage is l = subst (StageAt k d seat v) is l.at

  -- ---- a ticket is drawn

  pub draws : (slots id : ℕ) (me : Sat) (old : ℕ) → me.0.stage ≡ Idle → old + 1 < 18446744073709551616
      → Allows Rule slots id me 0 (λ n. either (eqb n old) (old + 1) n) (drawn (step slots 0 old (old + 1) none) me)
  draws slots id me old idle fits s r _ at _ = dite (ℕ_discrete d.tickets old) hit miss
    where
      d : Desk E F
      d = r.desk

      n : ℕ
      n = get_or s.words 0 0

      n_is : n ≡ d.tickets
      n_is = ap (λ ws. get_or ws 0 0) r.words

      Goal : Type 0
      Goal = (w : V) × (a : Rattle.atomic_table.specs.Table.Act (Option M)) × Rattle.atomic_table.specs.Table.Valid s.homes me.1 a
          × Rule (stepped s 0 (either (eqb n old) (old + 1) n) id me.1 w a) × drawn (step slots 0 old (old + 1) none) me n (w, Rattle.atomic_table.specs.Table.carried_after me.1 a)

      waiter : ℕ → ℕ
      waiter = put d.waiter old id

      kept : d.tickets ≡ old → (seat : ℕ) (v : V) (stage : Stage E) → StageAt k d seat v stage → StageAt k (turned d (old + 1) d.served d.holder waiter) seat v stage
      kept e seat v Idle a = a
      kept e seat v (Waits t) a = let low = a.3 in (a.0, put_else d.waiter old id t (λ q. omega arith) ∙ a.1, a.2, omega arith)
      kept e seat v (Holds t base) a = a
      kept e seat v (Joined x y) a = a

      home : d.tickets ≡ old → (h : Option ℕ) → HomeAt k d (length s.views) s.homes h → HomeAt k (turned d (old + 1) d.served d.holder waiter) (length (set s.views id (waiting old me.0))) s.homes h
      home e None a = a
      home e (Some h) a = let low = a.3 in let size = length-set s.views id (waiting old me.0) in let in_it = a.2 in (a.0, put_else d.waiter old id d.served (λ q. omega arith) ∙ a.1, omega arith, omega arith)

      hit : d.tickets ≡ old → Goal
      hit e = let w : V = waiting old me.0 in let order = r.order in (
        w,
        keeps,
        tt,
        record {
          desk = turned d (old + 1) d.served d.holder waiter;
          same = r.same;
          count = r.count;
          words = ap (λ ws. set ws 0 (either (eqb (get_or ws 0 0) old) (old + 1) (get_or ws 0 0))) r.words ∙ ap (λ b. either b (old + 1) d.tickets ∷ d.served ∷ d.numbers ∷ r.count ∷ []) (eq-eqb d.tickets old e);
          counted = r.counted;
          fits = fits;
          order = omega arith;
          legal = r.legal;
          fresh = r.fresh;
          home = home e d.holder r.home;
          each = each_set d (turned d (old + 1) d.served d.holder waiter) s.views id w
              (λ part live. let l = r.each id me.0 at part live in restaged d (old + 1) d.served d.holder waiter id me.0 (Waits old) l (at_stage d id me.0 Idle idle l, put_here d.waiter old id, omega arith, omega arith))
              (λ seat v other l. turned_stays d (old + 1) d.served d.holder waiter seat v l (kept e seat v v.stage l.at)) r.each;
        },
        ((λ _. refl), λ not. absurd (not (n_is ∙ e))),
      )

      miss : d.tickets ≢ old → Goal
      miss ne = (
        me.0,
        keeps,
        tt,
        unmoved s r 0 id (either (eqb n old) (old + 1) n) me.0 at (ap (λ b. either b (old + 1) n) (ne_eqb n old (λ e. ne (sym n_is ∙ e)))),
        ((λ hit. absurd (ne (sym n_is ∙ hit))), λ _. refl),
      )

  -- ---- the ticket that is served is read

  pub asks : (slots id : ℕ) (me : Sat) (ticket : ℕ) (part : F) → me.0.stage ≡ Waits ticket → me.0.fixed ≡ Some part
      → Allows Rule slots id me 1 (λ n. n) (asked k (step slots 1 0 0 none) me)
  asks slots id me ticket part is live s r _ at _ = dite (ℕ_discrete d.served ticket) (λ e. hit e d.holder refl r.home) miss
    where
      d : Desk E F
      d = r.desk

      n : ℕ
      n = get_or s.words 1 0

      n_is : n ≡ d.served
      n_is = ap (λ ws. get_or ws 1 0) r.words

      Goal : Type 0
      Goal = (w : V) × (a : Rattle.atomic_table.specs.Table.Act (Option M)) × Rattle.atomic_table.specs.Table.Valid s.homes me.1 a
          × Rule (stepped s 1 n id me.1 w a) × asked k (step slots 1 0 0 none) me n (w, Rattle.atomic_table.specs.Table.carried_after me.1 a)

      own : LiveAt k d id me.0
      own = r.each id me.0 at part live

      waits : StageAt k d id me.0 (Waits ticket)
      waits = at_stage d id me.0 (Waits ticket) is own

      ticket_is : ticket_of me.0.stage ≡ ticket
      ticket_is = ap ticket_of is

      kept : d.holder ≡ None → (seat : ℕ) (v : V) (stage : Stage E) → seat ≢ id → StageAt k d seat v stage → StageAt k (turned d d.tickets d.served (Some id) d.waiter) seat v stage
      kept free seat v Idle other a = λ q. other (some_same seat id (sym q))
      kept free seat v (Waits t) other a = ((λ q. other (some_same seat id (sym q))), a.1, a.2, a.3)
      kept free seat v (Holds t base) other a = absurd (none_some seat (sym free ∙ a.0))
      kept free seat v (Joined x y) other a = ((λ q. other (some_same seat id (sym q))), a.1, a.2, a.3)

      hit : d.served ≡ ticket → (h : Option ℕ) → d.holder ≡ h → HomeAt k d (length s.views) s.homes h → Goal
      hit e (Some h) held home = absurd (waits.0 (held ∙ ap Some (sym home.1 ∙ (ap d.waiter e ∙ waits.1))))
      hit e None held (m, homes_are, log_is, fixed_is) = let w : V = holding (k.history m) me.0 in let low = waits.3 in let size = length-set s.views id w in let within = at_length s.views id me.0 at in (
        w,
        takes 0 (Some m),
        ap (λ hs. get_elem? hs 0) homes_are,
        record {
          desk = turned d d.tickets d.served (Some id) d.waiter;
          same = r.same;
          count = r.count;
          words = set-get_or s.words 1 0 ∙ r.words;
          counted = r.counted;
          fits = r.fits;
          order = r.order;
          legal = r.legal;
          fresh = r.fresh;
          home = (ap (λ hs. set hs 0 none) homes_are, ap d.waiter e ∙ waits.1, omega arith, omega arith);
          each = each_set d (turned d d.tickets d.served (Some id) d.waiter) s.views id w
              (λ _ _. restaged d d.tickets d.served (Some id) d.waiter id me.0 (Holds (ticket_of me.0.stage) (k.history m)) own (refl, log_is, ticket_is ∙ sym e))
              (λ seat v other l. turned_stays d d.tickets d.served (Some id) d.waiter seat v l (kept held seat v v.stage other l.at)) r.each;
        },
        (
          (λ _. record {
            machine = m;
            is = refl;
            found = record {
              fixed = own.same ∙ ap Some (sym fixed_is);
              legal = subst (λ (z : F × List E). k.legal z.0 z.1) (λ i. (sym fixed_is i, sym log_is i)) r.legal;
              front = subst (Front k.caller_of me.0.first me.0.seen) (sym log_is) own.front;
              alone = λ alone. log_is ∙ (own.lone alone).1;
            };
          }),
          λ not. absurd (not (n_is ∙ e ∙ sym ticket_is)),
        ),
      )

      miss : d.served ≢ ticket → Goal
      miss ne = (me.0, keeps, tt, unmoved s r 1 id n me.0 at refl, ((λ hit. absurd (ne (sym n_is ∙ hit ∙ ticket_is))), λ _. refl))

  -- ---- a history is published

  pub publishes : (slots id : ℕ) (me : Sat) (told : List E) (added : ℕ) → Publishing k me.0 told added
      → Allows Rule slots id me 3 (λ n. (n + added) % 18446744073709551616) (gave_out told (step slots 3 added 0 none) me)
  publishes slots id me told added p s r _ at _ = (
    w,
    keeps,
    tt,
    record {
      desk = d';
      same = r.same;
      count = (r.count + added) % 18446744073709551616;
      words = ap (λ ws. set ws 3 ((get_or ws 3 0 + added) % 18446744073709551616)) r.words;
      counted = counted (let c : r.count ≡ length d.log % 18446744073709551616 = r.counted in c);
      fits = r.fits;
      order = r.order;
      legal = subst (λ (f : F). k.legal f told) part_is p.legal;
      fresh = fresh p.grows;
      home = home d.holder refl r.home;
      each = each_set d d' s.views id w (λ _ _. mine) others r.each;
    },
    refl,
  )
    where
      d : Desk E F
      d = r.desk

      d' : Desk E F
      d' = record d { log = told }

      w : V
      w = published told me.0

      own : LiveAt k d id me.0
      own = r.each id me.0 at p.part p.live

      part_is : p.part ≡ d.fixed
      part_is = some_same p.part d.fixed (sym p.live ∙ own.same)

      held : StageAt k d id me.0 (Holds p.ticket p.base)
      held = at_stage d id me.0 (Holds p.ticket p.base) p.holds own

      long : ((added ≡ 0) × (told ≡ p.base)) ⊎ ((added ≡ 1) × (entry : E) × (told ≡ p.base ++ entry ∷ []) × (k.caller_of entry ≡ me.0.first)) → length told ≡ length d.log + added
      long (inl (zero_more, is)) = let a : length told ≡ length d.log = ap length (is ∙ held.1) in omega arith
      long (inr (one, entry, is, by)) = let a : length told ≡ length d.log + 1 = ap length is ∙ (length-append p.base (entry ∷ []) ∙ ap (λ l. length l + 1) held.1) in omega arith

      counted : r.count ≡ length d.log % 18446744073709551616 → (r.count + added) % 18446744073709551616 ≡ length told % 18446744073709551616
      counted c = let l = long p.grows in let a : ℕ = length told in let b : ℕ = length d.log in let x : ℕ = r.count in let g : (x + added) % 18446744073709551616 ≡ a % 18446744073709551616 = omega arith in g

      fresh : ((added ≡ 0) × (told ≡ p.base)) ⊎ ((added ≡ 1) × (entry : E) × (told ≡ p.base ++ entry ∷ []) × (k.caller_of entry ≡ me.0.first)) → (n : ℕ) → d.numbers ≤ n → carried k.caller_of n told ≡ 0
      fresh (inl (zero_more, is)) n high = ap (carried k.caller_of n) (is ∙ held.1) ∙ r.fresh n high
      fresh (inr (one, entry, is, by)) n high = let low = own.given in
          ap (carried k.caller_of n) (is ∙ ap (λ l. l ++ entry ∷ []) held.1) ∙ carried-more k.caller_of n d.log entry (λ e. let q : me.0.first ≡ n = sym by ∙ e in omega arith) (r.fresh n high)

      fronts : (n : ℕ) (seen : List E) → n ≢ me.0.first → Front k.caller_of n seen d.log → Front k.caller_of n seen told
      fronts n seen other front = go p.grows
        where
          go : ((added ≡ 0) × (told ≡ p.base)) ⊎ ((added ≡ 1) × (entry : E) × (told ≡ p.base ++ entry ∷ []) × (k.caller_of entry ≡ me.0.first)) → Front k.caller_of n seen told
          go (inl (zero_more, is)) = subst (Front k.caller_of n seen) (sym (is ∙ held.1)) front
          go (inr (one, entry, is, by)) = subst (Front k.caller_of n seen) (sym (is ∙ ap (λ l. l ++ entry ∷ []) held.1)) (front_more k.caller_of n seen d.log entry (λ e. other (sym e ∙ by)) front)

      home : (h : Option ℕ) → d.holder ≡ h → HomeAt k d (length s.views) s.homes h → HomeAt k d' (length (set s.views id w)) s.homes h
      home None e a = absurd (none_some id (sym e ∙ held.0))
      home (Some h) e a = let in_it = a.2 in let size = length-set s.views id w in (a.0, a.1, omega arith, a.3)

      mine : LiveAt k d' id w
      mine = record {
        same = own.same;
        given = own.given;
        own = own.own;
        front = front_same k.caller_of me.0.first told;
        second = λ n e. let q = own.second n e in record { given = q.given; own = q.own; differs = q.differs; front = front_same k.caller_of n told };
        bound = own.bound;
        lone = λ alone. ((own.lone alone).0, refl);
        shared = own.shared;
        at = subst (λ (stage : Stage E). StageAt k d' id w (based told stage)) (sym p.holds) (held.0, refl, held.2);
      }

      kept : (seat : ℕ) (v : V) (stage : Stage E) → seat ≢ id → StageAt k d seat v stage → StageAt k d' seat v stage
      kept seat v Idle other a = a
      kept seat v (Waits t) other a = a
      kept seat v (Holds t base) other a = absurd (other (some_same seat id (sym a.0 ∙ held.0)))
      kept seat v (Joined x y) other a = a

      apart : (seat n : ℕ) → seat ≢ id → d.owner n ≡ seat → n ≢ me.0.first
      apart seat n other own_n e = other (sym own_n ∙ (ap d.owner e ∙ own.own))

      others : (seat : ℕ) (v : V) → seat ≢ id → LiveAt k d seat v → LiveAt k d' seat v
      others seat v other l = record {
        same = l.same;
        given = l.given;
        own = l.own;
        front = fronts v.first v.seen (apart seat v.first other l.own) l.front;
        second = λ n e. let q = l.second n e in record { given = q.given; own = q.own; differs = q.differs; front = fronts n v.seen (apart seat n other q.own) q.front };
        bound = l.bound;
        lone = λ alone. absurd (not_lone d id seat me.0 v own l other alone);
        shared = l.shared;
        at = kept seat v v.stage other l.at;
      }

  -- ---- the turn is passed on

  pub passes : (slots id : ℕ) (me : Sat) (m : M) (ticket : ℕ) → me.0.stage ≡ Holds ticket (k.history m) → me.0.fixed ≡ Some (k.fixed m) → me.1 ≡ (0, Some m) ∷ []
      → Allows Rule slots id me 1 (λ n. (n + 1) % 18446744073709551616) (passed_on (step slots 1 1 0 none) me)
  passes slots id me m ticket is live carries s r _ at _ = (
    w,
    gives,
    tt,
    record {
      desk = d';
      same = r.same;
      count = r.count;
      words = ap (λ ws. set ws 1 ((get_or ws 1 0 + 1) % 18446744073709551616)) r.words ∙ ap (λ x. d.tickets ∷ x ∷ d.numbers ∷ r.count ∷ []) next;
      counted = r.counted;
      fits = r.fits;
      order = let below : d.served < d.tickets = low in omega arith;
      legal = r.legal;
      fresh = r.fresh;
      home = (m, ap (put_back s.homes) carries ∙ ap (λ hs. set hs 0 (some (Some m))) out.0, held.1, sym (some_same d.fixed (k.fixed m) (sym own.same ∙ live)));
      each = each_set d d' s.views id w (λ _ _. restaged d d.tickets (d.served + 1) None d.waiter id me.0 Idle own (none_some id))
          (λ seat v other l. turned_stays d d.tickets (d.served + 1) None d.waiter seat v l (kept seat v v.stage other l.at)) r.each;
    },
    refl,
  )
    where
      d : Desk E F
      d = r.desk

      d' : Desk E F
      d' = turned d d.tickets (d.served + 1) None d.waiter

      w : V
      w = resting me.0

      own : LiveAt k d id me.0
      own = r.each id me.0 at (k.fixed m) live

      held : StageAt k d id me.0 (Holds ticket (k.history m))
      held = at_stage d id me.0 (Holds ticket (k.history m)) is own

      out : HomeAt k d (length s.views) s.homes (Some id)
      out = subst (HomeAt k d (length s.views) s.homes) held.0 r.home

      low : d.served < d.tickets
      low = out.3

      next : (d.served + 1) % 18446744073709551616 ≡ d.served + 1
      next = let a : d.tickets < 18446744073709551616 = r.fits in let b = low in omega arith

      kept : (seat : ℕ) (v : V) (stage : Stage E) → seat ≢ id → StageAt k d seat v stage → StageAt k d' seat v stage
      kept seat v Idle other a = none_some seat
      kept seat v (Waits t) other a = let b = a.2 in (none_some seat, a.1, (let x : t ≢ d.served = λ e. other (sym a.1 ∙ (ap d.waiter e ∙ out.1)) in omega arith), a.3)
      kept seat v (Holds t base) other a = absurd (other (some_same seat id (sym a.0 ∙ held.0)))
      kept seat v (Joined x y) other a = (none_some seat, a.1, a.2, a.3)

  -- ---- a number is drawn

  pub numbers : (slots id : ℕ) (me : Sat) (old : ℕ) (part : F) → me.0.stage ≡ Idle → me.0.fixed ≡ Some part
      → Allows Rule slots id me 2 (λ n. either (eqb n old) (old + 1) n) (drew_number k (step slots 2 old (old + 1) none) me)
  numbers slots id me old part idle live s r _ at _ = dite (ℕ_discrete d.numbers old) hit miss
    where
      d : Desk E F
      d = r.desk

      n : ℕ
      n = get_or s.words 2 0

      n_is : n ≡ d.numbers
      n_is = ap (λ ws. get_or ws 2 0) r.words

      Goal : Type 0
      Goal = (w : V) × (a : Rattle.atomic_table.specs.Table.Act (Option M)) × Rattle.atomic_table.specs.Table.Valid s.homes me.1 a
          × Rule (stepped s 2 (either (eqb n old) (old + 1) n) id me.1 w a) × drew_number k (step slots 2 old (old + 1) none) me n (w, Rattle.atomic_table.specs.Table.carried_after me.1 a)

      own : LiveAt k d id me.0
      own = r.each id me.0 at part live

      d' : Desk E F
      d' = record d { numbers = old + 1; owner = put d.owner old id; loner = None }

      none_yet : d.numbers ≡ old → carried k.caller_of old d.log ≡ 0
      none_yet e = r.fresh old (omega arith)

      mine : d.numbers ≡ old → LiveAt k d' id (numbered old me.0)
      mine e = let low = own.given in record {
        same = own.same;
        given = omega arith;
        own = put_else d.owner old id me.0.first (λ q. omega arith) ∙ own.own;
        front = own.front;
        second = λ m q. subst (HasSecond k.caller_of d.log (old + 1) (put d.owner old id) id me.0.first me.0.seen) (some_same old m q) record {
          given = omega arith;
          own = put_here d.owner old id;
          differs = λ q. omega arith;
          front = front_unused k.caller_of old me.0.seen d.log own.front.more own.front.is (none_yet e);
        };
        bound = omega arith;
        lone = λ alone. absurd (true≢false (sym alone));
        shared = λ _. refl;
        at = subst (StageAt k d' id (numbered old me.0)) (sym idle) (at_stage d id me.0 Idle idle own);
      }

      kept : (seat : ℕ) (v : V) (stage : Stage E) → StageAt k d seat v stage → StageAt k d' seat v stage
      kept seat v Idle a = a
      kept seat v (Waits t) a = a
      kept seat v (Holds t base) a = a
      kept seat v (Joined x y) a = a

      others : d.numbers ≡ old → (seat : ℕ) (v : V) → seat ≢ id → LiveAt k d seat v → LiveAt k d' seat v
      others e seat v other l = let low = l.given in let high = l.bound in record {
        same = l.same;
        given = omega arith;
        own = put_else d.owner old id v.first (λ q. omega arith) ∙ l.own;
        front = l.front;
        second = λ m q. let x = l.second m q in let below = x.given in record { given = omega arith; own = put_else d.owner old id m (λ q. omega arith) ∙ x.own; differs = x.differs; front = x.front };
        bound = omega arith;
        lone = λ alone. absurd (not_lone d id seat me.0 v own l other alone);
        shared = λ _. refl;
        at = kept seat v v.stage l.at;
      }

      home : (h : Option ℕ) → HomeAt k d (length s.views) s.homes h → HomeAt k d' (length (set s.views id (numbered old me.0))) s.homes h
      home None a = a
      home (Some h) a = let in_it = a.2 in let size = length-set s.views id (numbered old me.0) in (a.0, a.1, omega arith, a.3)

      hit : d.numbers ≡ old → Goal
      hit e = (
        numbered old me.0,
        keeps,
        tt,
        record {
          desk = d';
          same = r.same;
          count = r.count;
          words = ap (λ ws. set ws 2 (either (eqb (get_or ws 2 0) old) (old + 1) (get_or ws 2 0))) r.words ∙ ap (λ b. d.tickets ∷ d.served ∷ either b (old + 1) d.numbers ∷ r.count ∷ []) (eq-eqb d.numbers old e);
          counted = r.counted;
          fits = r.fits;
          order = r.order;
          legal = r.legal;
          fresh = λ m high. r.fresh m (omega arith);
          home = home d.holder r.home;
          each = each_set d d' s.views id (numbered old me.0) (λ _ _. mine e) (others e) r.each;
        },
        (
          (λ _. (
            refl,
            record {
              above = let b = own.bound in omega arith;
              unused = (carried-front k.caller_of old me.0.seen own.front.more (ap (carried k.caller_of old) (sym own.front.is) ∙ none_yet e)).0;
            },
          )),
          λ not. absurd (not (n_is ∙ e)),
        ),
      )

      miss : d.numbers ≢ old → Goal
      miss ne = (
        me.0,
        keeps,
        tt,
        unmoved s r 2 id (either (eqb n old) (old + 1) n) me.0 at (ap (λ b. either b (old + 1) n) (ne_eqb n old (λ e. ne (sym n_is ∙ e)))),
        ((λ hit. absurd (ne (sym n_is ∙ hit))), λ _. refl),
      )

  -- ---- a seat with two numbers becomes two

  pub splits : (id : ℕ) (v : V) (n : ℕ) (part : F) → v.stage ≡ Idle → v.second ≡ Some n → v.alone ≡ false → v.fixed ≡ Some part → Splits Rule id v (left_of v) (right_of v)
  splits id v n part idle two shared live s r at = record {
    desk = d';
    same = r.same;
    count = r.count;
    words = r.words;
    counted = r.counted;
    fits = r.fits;
    order = r.order;
    legal = r.legal;
    fresh = r.fresh;
    home = home d.holder r.home;
    each = λ seat u there part live. ⊎_elim (λ before. each_set d d' s.views id (left_of v) (λ _ _. left) others r.each seat u before part live)
        (λ (last : (seat ≡ length (set s.views id (left_of v))) × (right_of v ≡ u)). subst (λ (z : ℕ × V). LiveAt k d' z.0 z.1) (λ i. (sym (last.0 ∙ size) i, last.1 i)) right)
        (snoc_at (set s.views id (left_of v)) (right_of v) u seat there);
  }
    where
      d : Desk E F
      d = r.desk

      z : ℕ
      z = length s.views

      size : length (set s.views id (left_of v)) ≡ z
      size = length-set s.views id (left_of v)

      d' : Desk E F
      d' = record d { owner = put d.owner n z }

      own : LiveAt k d id v
      own = r.each id v at part live

      has : HasSecond k.caller_of d.log d.numbers d.owner id v.first v.seen n
      has = own.second n two

      kept : (seat : ℕ) (u : V) (stage : Stage E) → StageAt k d seat u stage → StageAt k d' seat u stage
      kept seat u Idle a = a
      kept seat u (Waits t) a = a
      kept seat u (Holds t base) a = a
      kept seat u (Joined x y) a = a

      left : LiveAt k d' id (left_of v)
      left = record {
        same = own.same;
        given = own.given;
        own = put_else d.owner n z v.first (λ q. has.differs (sym q)) ∙ own.own;
        front = own.front;
        second = λ m q. absurd (none_some m q);
        bound = own.bound;
        lone = λ alone. absurd (true≢false (sym alone ∙ shared));
        shared = own.shared;
        at = subst (StageAt k d' id (left_of v)) (sym idle) (at_stage d id v Idle idle own);
      }

      away : (h : Option ℕ) → HomeAt k d z s.homes h → h ≢ Some z
      away None a q = none_some z q
      away (Some h) a q = let e = some_same h z q in let low = a.2 in omega arith

      right_at : (w : V) → w ≡ record v { first = n; second = None } → LiveAt k d' z w
      right_at w e = subst (LiveAt k d' z) (sym e) record {
        same = own.same;
        given = has.given;
        own = put_here d.owner n z;
        front = has.front;
        second = λ m q. absurd (none_some m q);
        bound = own.bound;
        lone = λ alone. absurd (true≢false (sym alone ∙ shared));
        shared = own.shared;
        at = subst (StageAt k d' z (record v { first = n; second = None })) (sym idle) (away d.holder r.home);
      }

      right : LiveAt k d' z (right_of v)
      right = right_at (right_of v) (ap (λ (o : Option ℕ). let w : V = record v { first = unwrap_or o v.first; second = None } in w) two)

      apart : (seat m : ℕ) → seat ≢ id → d.owner m ≡ seat → m ≢ n
      apart seat m other is e = other (sym is ∙ (ap d.owner e ∙ has.own))

      others : (seat : ℕ) (u : V) → seat ≢ id → LiveAt k d seat u → LiveAt k d' seat u
      others seat u other l = record {
        same = l.same;
        given = l.given;
        own = put_else d.owner n z u.first (apart seat u.first other l.own) ∙ l.own;
        front = l.front;
        second = λ m q. let x = l.second m q in record { given = x.given; own = put_else d.owner n z m (apart seat m other x.own) ∙ x.own; differs = x.differs; front = x.front };
        bound = l.bound;
        lone = l.lone;
        shared = l.shared;
        at = kept seat u u.stage l.at;
      }

      home : (h : Option ℕ) → HomeAt k d z s.homes h → HomeAt k d' (length (set s.views id (left_of v) ++ right_of v ∷ [])) s.homes h
      home None a = a
      home (Some h) a = let in_it = a.2 in let e = size in let all = length-append (set s.views id (left_of v)) (right_of v ∷ []) in (a.0, a.1, omega arith, a.3)

  -- ---- two seats become one

  pub joins : (id : ℕ) (v : V) (other : ℕ) (w : V) (part : F) → v.stage ≡ Idle → w.stage ≡ Idle → v.fixed ≡ Some part → w.fixed ≡ Some part
      → Joins Rule id v other w (both_of v w) spent
  joins id v other w part v_idle w_idle v_live w_live s r at differ there = record {
    desk = d';
    same = r.same;
    count = r.count;
    words = r.words;
    counted = r.counted;
    fits = r.fits;
    order = r.order;
    legal = r.legal;
    fresh = r.fresh;
    home = home d.holder r.home;
    each = λ seat u here part live. ⊎_elim (λ (t : (seat ≡ other) × (spent ≡ u)). absurd (none_some part (ap (λ (x : V). x.fixed) t.1 ∙ live)))
        (λ (t : (seat ≢ other) × (get_elem? (set s.views id (both_of v w)) seat ≡ some u)). beside seat u t.0 t.1 part live)
        (at_set (set s.views id (both_of v w)) other seat spent u here);
  }
    where
      d : Desk E F
      d = r.desk

      d' : Desk E F
      d' = record d { owner = put d.owner w.first id }

      own : LiveAt k d id v
      own = r.each id v at part v_live

      it : LiveAt k d other w
      it = r.each other w (sym (set_else s.views id other (both_of v w) differ) ∙ there) part w_live

      unlike : v.first ≢ w.first
      unlike e = differ (sym it.own ∙ (sym (ap d.owner e) ∙ own.own))

      v_shared : v.alone ≡ false
      v_shared = shared_with d other id w v it own (λ e. differ (sym e))

      w_shared : w.alone ≡ false
      w_shared = shared_with d id other v w own it differ

      neither : (v.alone || w.alone) ≡ false
      neither = ap (λ b. b || w.alone) v_shared ∙ w_shared

      fronts : Joint k.caller_of v.first w.first v.seen w.seen d.log
      fronts = joint k.caller_of v.first w.first v.seen w.seen d.log own.front it.front

      kept : (seat : ℕ) (u : V) (stage : Stage E) → StageAt k d seat u stage → StageAt k d' seat u stage
      kept seat u Idle a = a
      kept seat u (Waits t) a = a
      kept seat u (Holds t base) a = a
      kept seat u (Joined x y) a = a

      mine : LiveAt k d' id (both_of v w)
      mine = let b = own.bound in let c = it.bound in record {
        same = own.same;
        given = own.given;
        own = put_else d.owner w.first id v.first unlike ∙ own.own;
        front = fronts.log_left;
        second = λ m q. subst (HasSecond k.caller_of d.log d.numbers (put d.owner w.first id) id v.first (longer v.seen w.seen)) (some_same w.first m q) record {
          given = it.given;
          own = put_here d.owner w.first id;
          differs = λ e. unlike (sym e);
          front = fronts.log_right;
        };
        bound = omega arith;
        lone = λ alone. absurd (true≢false (sym alone ∙ neither));
        shared = λ _. own.shared v_shared;
        at = (
          at_stage d id v Idle v_idle own,
          neither,
          fronts.left,
          λ m q. subst (λ (x : ℕ). Front k.caller_of x w.seen (longer v.seen w.seen)) (some_same w.first m q) fronts.right,
        );
      }

      apart : (seat m : ℕ) → seat ≢ other → d.owner m ≡ seat → m ≢ w.first
      apart seat m unlike is e = unlike (sym is ∙ (ap d.owner e ∙ it.own))

      others : (seat : ℕ) (u : V) → seat ≢ other → LiveAt k d seat u → LiveAt k d' seat u
      others seat u far l = record {
        same = l.same;
        given = l.given;
        own = put_else d.owner w.first id u.first (apart seat u.first far l.own) ∙ l.own;
        front = l.front;
        second = λ m q. let x = l.second m q in record { given = x.given; own = put_else d.owner w.first id m (apart seat m far x.own) ∙ x.own; differs = x.differs; front = x.front };
        bound = l.bound;
        lone = l.lone;
        shared = l.shared;
        at = kept seat u u.stage l.at;
      }

      beside : (seat : ℕ) (u : V) → seat ≢ other → get_elem? (set s.views id (both_of v w)) seat ≡ some u → (part : F) → u.fixed ≡ Some part → LiveAt k d' seat u
      beside seat u far here part live =
          ⊎_elim (λ (t : (seat ≡ id) × (both_of v w ≡ u)). subst (λ (z : ℕ × V). LiveAt k d' z.0 z.1) (λ i. (sym t.0 i, t.1 i)) mine)
          (λ (t : (seat ≢ id) × (get_elem? s.views seat ≡ some u)). others seat u far (r.each seat u t.1 part live))
          (at_set s.views id seat (both_of v w) u here)

      home : (h : Option ℕ) → HomeAt k d (length s.views) s.homes h → HomeAt k d' (length (set (set s.views id (both_of v w)) other spent)) s.homes h
      home None a = a
      home (Some h) a = let in_it = a.2 in let inner = length-set s.views id (both_of v w) in let outer = length-set (set s.views id (both_of v w)) other spent in (a.0, a.1, omega arith, a.3)

  -- ---- a seat that took in another learns

  pub learns : (slots id : ℕ) (me : Sat) (pick : V → Option ℕ) (a b : List E) (part : F) → me.0.stage ≡ Joined a b → me.0.fixed ≡ Some part
      → ((n : ℕ) → pick me.0 ≡ Some n → me.0.second ≡ Some n) → Allows Rule slots id me 0 (λ n. n) (learned k pick (step slots 0 0 0 none) me)
  learns slots id me pick a b part is live picks s r _ at _ = (
    w,
    keeps,
    tt,
    record {
      desk = d;
      same = r.same;
      count = r.count;
      words = set-get_or s.words 0 0 ∙ r.words;
      counted = r.counted;
      fits = r.fits;
      order = r.order;
      legal = r.legal;
      fresh = r.fresh;
      home = seats_same d s.views id w s.homes r.home;
      each = each_set d d s.views id w (λ _ _. mine) (λ seat v other l. l) r.each;
    },
    (refl, λ x y has. let joined = at_stage d id me.0 (Joined x y) has own in record { alone = joined.1; first = joined.2; second = joined.3 }),
  )
    where
      d : Desk E F
      d = r.desk

      w : V
      w = record me.0 { second = pick me.0; stage = Idle }

      own : LiveAt k d id me.0
      own = r.each id me.0 at part live

      mine : LiveAt k d id w
      mine = record {
        same = own.same;
        given = own.given;
        own = own.own;
        front = own.front;
        second = λ n e. own.second n (picks n e);
        bound = own.bound;
        lone = own.lone;
        shared = own.shared;
        at = (at_stage d id me.0 (Joined a b) is own).0;
      }

  -- ---- the table at the start

  pub starts : (m : M) → k.history m ≡ [] → k.fixed m ≡ fixed → k.legal fixed [] → Rule (opening (0 ∷ 0 ∷ 1 ∷ 0 ∷ []) (Some m ∷ []) (newcomer fixed))
  starts m empty is legal = record {
    desk = record { log = []; fixed = fixed; tickets = 0; served = 0; numbers = 1; holder = None; loner = Some 0; owner = λ _. 0; waiter = λ _. 0 };
    same = refl;
    count = 0;
    words = refl;
    counted = refl;
    fits = omega arith;
    order = omega arith;
    legal = legal;
    fresh = λ _ _. refl;
    home = (m, refl, empty, is);
    each = first;
  }
    where
      d : Desk E F
      d = record { log = []; fixed = fixed; tickets = 0; served = 0; numbers = 1; holder = None; loner = Some 0; owner = λ _. 0; waiter = λ _. 0 }

      first : Each k d (newcomer fixed ∷ [])
      first Rattle.std.proofs.Common.zero v at part live = subst (LiveAt k d 0) (some-injective (newcomer fixed) v at) record {
        same = refl;
        given = omega arith;
        own = refl;
        front = front_same k.caller_of 0 [];
        second = λ n q. absurd (none_some n q);
        bound = omega arith;
        lone = λ _. (refl, refl);
        shared = λ e. absurd (true≢false e);
        at = none_some 0;
      }
      first (Rattle.std.proofs.Common.suc seat) v at part live = absurd (some-ne-none v (sym at))
