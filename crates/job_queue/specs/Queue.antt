-- The rule of a queue, over the jobs in it and what each hand knows.
use Rattle.std.specs.Prelude.{◌≡◌, ◌⊎◌, ℕ, ◌+◌, ◌-◌, ◌^◌, Bool, true, false, List, [], ◌∷◌, ◌++◌, length}
use mathlib.Core.Option.{some}
use lib.ListN.{get_elem?}
use Rattle.job_queue.specs.declared.hands.Known.{Known}

module _ {T : Type 0} where
  abbrev pub knowing : ℕ → Bool → (put taken : List T) → Known T
  knowing parts puts put taken = record { parts = parts; puts = puts; put = put; taken = taken }

  -- the first hand has all parts, and may put
  abbrev pub newcomer : Known T
  newcomer = knowing (2 ^ 32) true [] []

  abbrev pub taker : Known T
  taker = knowing 1 false [] []

  abbrev pub spent : Known T
  spent = knowing 0 false [] []

  abbrev pub less : Known T → Known T
  less v = knowing (v.parts - 1) v.puts v.put v.taken

  abbrev pub both : Known T → Known T → Known T
  both v w = knowing (v.parts + w.parts) v.puts v.put (v.taken ++ w.taken)

  abbrev pub putting : Known T → T → Known T
  putting v job = knowing v.parts v.puts (v.put ++ job ∷ []) v.taken

  abbrev pub taking : Known T → T → Known T
  taking v job = knowing v.parts v.puts v.put (v.taken ++ job ∷ [])

  -- the job is one of these
  abbrev pub IsOneOf : T → List T → Type 0
  IsOneOf job [] = ⊥
  IsOneOf job (first ∷ jobs) = (job ≡ first) ⊎ IsOneOf job jobs

  abbrev pub AreOf : List T → List T → Type 0
  AreOf [] gave = Unit {0}
  AreOf (job ∷ jobs) gave = IsOneOf job gave × AreOf jobs gave

  -- Each job that was taken was put, and as many were put as were taken and are left.
  pub record Settles (v : Known T) (left : ℕ) : Type 0 where
    pub among : AreOf v.taken v.put
    pub count : length v.put ≡ length v.taken + left

  -- What the hand took was put. One hand at most may put, and it has the list of what was put. One with no part did nothing.
  pub record Fits (gave : List T) (writer port : ℕ) (v : Known T) : Type 0 where
    pub among : AreOf v.taken gave
    pub writes : v.puts ≡ true → (port ≡ writer) × (v.put ≡ gave)
    pub idle : v.parts ≡ 0 → v.taken ≡ []

  abbrev pub total : (Known T → ℕ) → List (Known T) → ℕ
  total f [] = 0
  total f (v ∷ vs) = f v + total f vs

  abbrev pub Each : (ℕ → Known T → Type 0) → List (Known T) → Type 0
  Each F views = (port : ℕ) (v : Known T) → get_elem? views port ≡ some v → F port v

  pub record Balanced (items : List T) (views : List (Known T)) : Type 0 where
    pub gave : List T
    pub writer : ℕ
    pub parts : total (λ v. v.parts) views ≡ 2 ^ 32
    pub count : length gave ≡ total (λ v. length v.taken) views + length items
    pub waiting : AreOf items gave
    pub each : Each (Fits gave writer) views
