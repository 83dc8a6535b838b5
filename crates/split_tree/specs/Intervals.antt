-- How the positions of a session's rows are cut: into roots at first, and an interval in the middle where its node is split.
use Rattle.std.specs.Prelude.{◌≡◌, ℕ, ◌+◌, ◌-◌, ◌*◌, ◌/◌, ◌≤◌, ◌==◌, min, max, List, [], ◌∷◌, if◌then◌else◌}
use Rattle.split_tree.specs.declared.node.Interval.{Interval}
use Rattle.split_tree.specs.declared.node.TheConstants.{MOST_ROOTS, ROOTS_UNASKED}

-- how many roots a session over `at` rows has that asks for `count`
abbrev pub roots_of : (at count : ℕ) → ℕ
roots_of at count = max 1 (min at (min MOST_ROOTS (if count == 0 then ROOTS_UNASKED else count)))

-- the i-th of k roots, from 0
abbrev pub root : (at k i : ℕ) → Interval
root at k i = record { from = i * at / k; upto = (i + 1) * at / k }

-- how many positions
abbrev pub size : Interval → ℕ
size interval = interval.upto - interval.from

abbrev pub middle : Interval → ℕ
middle interval = (interval.from + interval.upto) / 2

abbrev pub first_half : Interval → Interval
first_half interval = record { from = interval.from; upto = middle interval }

abbrev pub second_half : Interval → Interval
second_half interval = record { from = middle interval; upto = interval.upto }

-- the intervals stand one behind another, from one position up to another
abbrev pub Follow : List Interval → (from upto : ℕ) → Type 0
Follow [] from upto = from ≡ upto
Follow (interval ∷ more) from upto = (interval.from ≡ from) × (interval.from ≤ interval.upto) × Follow more interval.upto upto
