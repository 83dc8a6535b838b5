-- The front of a list and what stands behind it.
use Rattle.std.proofs.Common.{◌≡◌, ℕ, ◌+◌, ◌-◌, ◌≤◌, List, ◌++◌, length, take, drop, ap, sym, ◌∙◌, arith, length-take, length-drop}
use Rattle.std.proofs.lemmas.List.Folds.{drop_split}

-- a piece of `n` bytes that was copied to a front, and the bytes behind it, are the bytes from `at` on
pub piece_and_rest : (at n : ℕ) (xs new : List ℕ) → at + n ≤ length xs
    → take (length (take (at + n - at) (drop at xs))) new ≡ take (at + n - at) (drop at xs)
    → drop at xs ≡ take n new ++ drop (at + n) xs
piece_and_rest at n xs new within copied =
    let many : length (take (at + n - at) (drop at xs)) ≡ n = simp (length-take, length-drop) (omega arith) in
    drop_split xs at (at + n) (omega arith)
    ∙ ap (λ l. l ++ drop (at + n) xs) (sym copied ∙ ap (λ k. take k new) many)
