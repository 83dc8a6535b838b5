-- Each move keeps the rule of the queue.
use Rattle.std.proofs.Common.{◌≡◌, ◌≢◌, ◌⊎◌, inl, inr, ℕ, zero, suc, ◌+◌, ◌-◌, ◌<◌, ◌≤◌, ◌^◌, true, false, true≢false, List, [], ◌∷◌, ◌++◌, length, set, sym, refl, ap, ◌∙◌, subst, ⊎_elim, append_assoc, append-nil, length-append, arith}
use Rattle.std.specs.Bool.{⊤}
use mathlib.Core.Option.{some, some-injective, some-ne-none}
use lib.ListN.{get_elem?}
use Rattle.crossbeam_queue.specs.Fifo.{Pushes, Pops, Forks, Merges, Learns}
use Rattle.crossbeam_queue.proofs.Lists.{at_set, at_snoc}
use Rattle.job_queue.specs.declared.hands.Known.{Known}
use Rattle.job_queue.specs.Queue.{knowing, newcomer, taker, spent, less, both, putting, taking, IsOneOf, AreOf, Settles, Fits, total, Each, Balanced}

module _ {T : Type 0} where
  -- ---- jobs among those put

  one_more : (job : T) (gave more : List T) → IsOneOf job gave → IsOneOf job (gave ++ more)
  one_more job [] more is = absurd is
  one_more job (first ∷ gave) more (inl is) = inl is
  one_more job (first ∷ gave) more (inr is) = inr (one_more job gave more is)

  the_last : (job : T) (gave : List T) → IsOneOf job (gave ++ job ∷ [])
  the_last job [] = inl refl
  the_last job (first ∷ gave) = inr (the_last job gave)

  all_more : (jobs gave more : List T) → AreOf jobs gave → AreOf jobs (gave ++ more)
  all_more [] gave more are = tt
  all_more (job ∷ jobs) gave more are = (one_more job gave more are.0, all_more jobs gave more are.1)

  both_of : (jobs others gave : List T) → AreOf jobs gave → AreOf others gave → AreOf (jobs ++ others) gave
  both_of [] others gave are theirs = theirs
  both_of (job ∷ jobs) others gave are theirs = (are.0, both_of jobs others gave are.1 theirs)

  -- ---- totals

  total_set : (f : Known T → ℕ) (views : List (Known T)) (port : ℕ) (v w : Known T) → get_elem? views port ≡ some v → total f (set views port w) + f v ≡ total f views + f w
  total_set f [] port v w at = absurd (some-ne-none v (sym at))
  total_set f (x ∷ views) zero v w at = let is : f x ≡ f v = ap f (some-injective x v at) in omega (arith, is)
  total_set f (x ∷ views) (suc port) v w at = let rest = total_set f views port v w at in omega (arith, rest)

  total_snoc : (f : Known T → ℕ) (views : List (Known T)) (w : Known T) → total f (views ++ w ∷ []) ≡ total f views + f w
  total_snoc f [] w = omega arith
  total_snoc f (x ∷ views) w = let rest = total_snoc f views w in omega (arith, rest)

  part_of : (f : Known T → ℕ) (views : List (Known T)) (port : ℕ) (v : Known T) → get_elem? views port ≡ some v → f v ≤ total f views
  part_of f [] port v at = absurd (some-ne-none v (sym at))
  part_of f (x ∷ views) zero v at = let is : f x ≡ f v = ap f (some-injective x v at) in omega (arith, is)
  part_of f (x ∷ views) (suc port) v at = let rest = part_of f views port v at in omega (arith, rest)

  -- a hand with no part took nothing
  abbrev Idle : ℕ → Known T → Type 0
  Idle port v = v.parts ≡ 0 → v.taken ≡ []

  none_else : (views : List (Known T)) → total (λ v. v.parts) views ≡ 0 → Each Idle views → total (λ v. length v.taken) views ≡ 0
  none_else [] none idle = refl
  none_else (x ∷ views) none idle =
      let first : length x.taken ≡ 0 = ap length (idle 0 x refl (omega (arith, none))) in
      let rest = none_else views (omega (arith, none)) (λ port v at. idle (suc port) v at) in
      omega (arith, first, rest)

  all_here : (views : List (Known T)) (port : ℕ) (v : Known T) → get_elem? views port ≡ some v → total (λ v. v.parts) views ≡ v.parts → Each Idle views
      → total (λ v. length v.taken) views ≡ length v.taken
  all_here [] port v at whole idle = absurd (some-ne-none v (sym at))
  all_here (x ∷ views) zero v at whole idle =
      let is = some-injective x v at in
      let parts : x.parts ≡ v.parts = ap (λ (y : Known T). y.parts) is in
      let taken : length x.taken ≡ length v.taken = ap (λ (y : Known T). length y.taken) is in
      let rest = none_else views (omega (arith, whole, parts)) (λ port v at. idle (suc port) v at) in
      omega (arith, taken, rest)
  all_here (x ∷ views) (suc port) v at whole idle =
      let mine = part_of (λ v. v.parts) views port v at in
      let first : length x.taken ≡ 0 = ap length (idle 0 x refl (omega (arith, whole, mine))) in
      let rest = all_here views port v at (omega (arith, whole, mine)) (λ port v at. idle (suc port) v at) in
      omega (arith, first, rest)

  -- ---- hands

  all_set : (F : ℕ → Known T → Type 0) (views : List (Known T)) (port : ℕ) (w : Known T) → F port w → ((j : ℕ) (u : Known T) → j ≢ port → get_elem? views j ≡ some u → F j u) → Each F (set views port w)
  all_set F views port w mine others j u e = ⊎_elim (λ (x : (j ≡ port) × (w ≡ u)). subst (λ (y : ℕ × Known T). F y.0 y.1) (λ i. (sym x.0 i, x.1 i)) mine)
      (λ (x : (j ≢ port) × (get_elem? views j ≡ some u)). others j u x.0 x.1) (at_set views port j w u e)

  fits_as : (gave : List T) (writer port : ℕ) (v w : Known T) → w ≡ v → Fits gave writer port v → Fits gave writer port w
  fits_as gave writer port v w is fits = subst (λ x. Fits gave writer port x) (sym is) fits

  only : Each (Fits {T = T} [] 0) (newcomer ∷ [])
  only zero v at = fits_as [] 0 0 newcomer v (sym (some-injective newcomer v at)) (record { among = tt; writes = λ may. (refl, refl); idle = λ none. refl })
  only (suc port) v at = absurd (some-ne-none v (sym at))

  pub begins : Balanced {T = T} [] (newcomer ∷ [])
  begins = record {
    gave = [];
    writer = 0;
    parts = refl;
    count = refl;
    waiting = tt;
    each = only;
  }

  pub puts : (n port : ℕ) (v : Known T) (job : T) → v.puts ≡ true → 0 < v.parts → Pushes Balanced n port v job (λ w. w ≡ putting v job)
  puts n port v job may some_part items views _ rule at =
      let w = putting v job in
      let mine = rule.each port v at in
      let gave = rule.gave ++ job ∷ [] in (
        w,
        record {
          gave = gave;
          writer = rule.writer;
          parts = (let s = total_set (λ u. u.parts) views port v w at in omega (arith, rule.parts, s));
          count = (let s = total_set (λ u. length u.taken) views port v w at in
              omega (arith, rule.count, s, length-append rule.gave (job ∷ []), length-append items (job ∷ [])));
          waiting = both_of items (job ∷ []) gave (all_more items rule.gave (job ∷ []) rule.waiting) (the_last job rule.gave, tt);
          each = all_set (Fits gave rule.writer) views port w
              (record {
                among = all_more v.taken rule.gave (job ∷ []) mine.among;
                writes = λ _. ((mine.writes may).0, ap (λ l. l ++ job ∷ []) (mine.writes may).1);
                idle = λ none. absurd (omega (arith, none, some_part));
              })
              (λ j u other e. let theirs = rule.each j u e in record {
                among = all_more u.taken rule.gave (job ∷ []) theirs.among;
                writes = λ p. absurd (other ((theirs.writes p).0 ∙ sym (mine.writes may).0));
                idle = theirs.idle;
              });
        },
        refl,
      )

  pub takes : (port : ℕ) (v : Known T) → 0 < v.parts → Pops Balanced port v (λ job w. w ≡ taking v job)
  takes port v some_part job items views rule at =
      let w = taking v job in
      let mine = rule.each port v at in (
        w,
        record {
          gave = rule.gave;
          writer = rule.writer;
          parts = (let s = total_set (λ u. u.parts) views port v w at in omega (arith, rule.parts, s));
          count = (let s = total_set (λ u. length u.taken) views port v w at in omega (arith, rule.count, s, length-append v.taken (job ∷ [])));
          waiting = rule.waiting.1;
          each = all_set (Fits rule.gave rule.writer) views port w
              (record {
                among = both_of v.taken (job ∷ []) rule.gave mine.among (rule.waiting.0, tt);
                writes = mine.writes;
                idle = λ none. absurd (omega (arith, none, some_part));
              })
              (λ j u other e. rule.each j u e);
        },
        refl,
      )

  pub forks : (port : ℕ) (v : Known T) → 1 < v.parts → Forks Balanced port v (less v) taker
  forks port v some_part items views rule at =
      let l = less v in
      let mine = rule.each port v at in
      let vs = set views port l in
      let old : Each (Fits rule.gave rule.writer) vs = all_set (Fits rule.gave rule.writer) views port l
      (record { among = mine.among; writes = mine.writes; idle = λ none. absurd (omega (arith, none, some_part)) }) (λ j u other e. rule.each j u e) in
      record {
        gave = rule.gave;
        writer = rule.writer;
        parts = (let s = total_set (λ u. u.parts) views port v l at in omega (arith, rule.parts, s, total_snoc (λ u. u.parts) vs taker, some_part));
        count = (let s = total_set (λ u. length u.taken) views port v l at in omega (arith, rule.count, s, total_snoc (λ u. length u.taken) vs taker));
        waiting = rule.waiting;
        each = λ j u e. ⊎_elim (λ x. old j u x)
            (λ (is : taker ≡ u). fits_as rule.gave rule.writer j taker u (sym is) (record { among = tt; writes = λ p. absurd (true≢false (sym p)); idle = λ none. refl }))
            (at_snoc vs taker u j e);
      }

  pub merges : (port : ℕ) (v : Known T) (other : ℕ) (u : Known T) → u.puts ≡ false → 0 < v.parts → Merges Balanced port v other u (both v u) spent
  merges port v other u takes_only some_part items views rule at two at' =
      let b = both v u in
      let mine = rule.each port v at in
      let vs = set views port b in
      let was : get_elem? views other ≡ some u = ⊎_elim (λ x. absurd (two x.0)) (λ x. x.1) (at_set views port other b u at') in
      let theirs = rule.each other u was in
      let now : Each (Fits rule.gave rule.writer) vs = all_set (Fits rule.gave rule.writer) views port b
      (record { among = both_of v.taken u.taken rule.gave mine.among theirs.among; writes = mine.writes; idle = λ none. absurd (omega (arith, none, some_part)) })
      (λ j y o e. rule.each j y e) in
      record {
        gave = rule.gave;
        writer = rule.writer;
        parts = (let s = total_set (λ y. y.parts) views port v b at in let t = total_set (λ y. y.parts) vs other u spent at' in omega (arith, rule.parts, s, t));
        count = (let s = total_set (λ y. length y.taken) views port v b at in let t = total_set (λ y. length y.taken) vs other u spent at' in
            omega (arith, rule.count, s, t, length-append v.taken u.taken));
        waiting = rule.waiting;
        each = all_set (Fits rule.gave rule.writer) vs other spent (record { among = tt; writes = λ p. absurd (true≢false (sym p)); idle = λ none. refl }) (λ j y o e. now j y e);
      }

  pub settles : (port : ℕ) (v : Known T) → v.parts ≡ 2 ^ 32 → v.puts ≡ true → Learns Balanced port v (λ items. Settles v (length items))
  settles port v whole may items views rule at =
      let mine = rule.each port v at in
      let put = (mine.writes may).1 in
      let all = all_here views port v at (rule.parts ∙ sym whole) (λ j u e. (rule.each j u e).idle) in
      record {
        among = subst (λ gave. AreOf v.taken gave) (sym put) mine.among;
        count = ap length put ∙ rule.count ∙ ap (λ n. n + length items) all;
      }

  pub learns_none : (port : ℕ) (v : Known T) → Learns Balanced port v (λ items. ⊤)
  learns_none port v items views rule at = tt
