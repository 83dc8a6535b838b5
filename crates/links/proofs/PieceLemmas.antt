-- What a link took, piece by piece.
use Rattle.std.proofs.Common.{◌≡◌, ℕ, ◌+◌, ◌-◌, ◌≤◌, List, [], ◌∷◌, ◌++◌, length, map, take, drop, Option, refl, sym, ap, ◌∙◌, arith, length-drop}
use Rattle.std.specs.List.{concat}
use Rattle.std.proofs.lemmas.List.{append-nil, map-append}
use Rattle.std.proofs.lemmas.List.Folds.{concat-append}
use Rattle.std.proofs.Math.Seq.{take-add, take-length}
use Rattle.links.specs.Told.{more}
use Rattle.links.specs.Link.{Moved, Wrote}
use Rattle.links.specs.Pieces.{TookPieces}
use Rattle.links.proofs.ToldLemmas.{more-nil, more-more}

pub took_none : (log : Option (List Moved)) → TookPieces log log []
took_none log = record { pieces = []; told = sym (more-nil log); joined = refl }

pub took_more : (log0 between log : Option (List Moved)) (xs ys : List ℕ)
    → TookPieces log0 between xs → TookPieces between log ys → TookPieces log0 log (xs ++ ys)
took_more log0 between log xs ys first then = record {
  pieces = first.pieces ++ then.pieces;
  told = then.told ∙ ap (λ told. more told (map Wrote then.pieces)) first.told ∙ more-more log0 (map Wrote first.pieces) (map Wrote then.pieces)
      ∙ ap (λ entries. more log0 entries) (sym (map-append Wrote first.pieces then.pieces));
  joined = concat-append first.pieces then.pieces ∙ ap (λ all. all ++ concat then.pieces) first.joined ∙ ap (λ all. xs ++ all) then.joined;
}

pub took_one : (log0 log : Option (List Moved)) (piece : List ℕ) → log ≡ more log0 (Wrote piece ∷ []) → TookPieces log0 log piece
took_one log0 log piece told = record { pieces = piece ∷ []; told = told; joined = append-nil piece }

take_rest : (at : ℕ) (bytes : List ℕ) → take (length bytes - at) (drop at bytes) ≡ drop at bytes
take_rest at bytes = ap (λ n. take n (drop at bytes)) (sym (length-drop at bytes)) ∙ take-length (drop at bytes)

-- a piece of what stands behind the first so many bytes
pub took_next : (log0 between log : Option (List Moved)) (bytes : List ℕ) (at n : ℕ)
    → TookPieces log0 between (take at bytes)
    → log ≡ more between (Wrote (take n (take (length bytes - at) (drop at bytes))) ∷ [])
    → TookPieces log0 log (take (at + n) bytes)
took_next log0 between log bytes at n first told =
    let piece : log ≡ more between (Wrote (take n (drop at bytes)) ∷ []) = told ∙ ap (λ rest. more between (Wrote (take n rest) ∷ [])) (take_rest at bytes) in
    rw (take-add at n bytes) (took_more log0 between log (take at bytes) (take n (drop at bytes)) first (took_one between log (take n (drop at bytes)) piece))

pub within_next : (bytes : List ℕ) (at n : ℕ) → at ≤ length bytes → n ≤ length (take (length bytes - at) (drop at bytes)) → at + n ≤ length bytes
within_next bytes at n within some = omega (arith, ap length (take_rest at bytes), length-drop at bytes)
