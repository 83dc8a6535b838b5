-- The laws of places, as their lemmas say.
use Rattle.row_groups.proofs.PlaceLemmas.{row_at_place, one_place, place_below, place_stays}
use Rattle.std.proofs.Common.{◌∷◌, []}
use Rattle.row_groups.proofs.law.places_are_rows.Goals as goal

pub returns-clause-rows : goal.returns-clause-rows
returns-clause-rows c = λ groups position group place p. row_at_place groups position group place p

pub returns-clause-one : goal.returns-clause-one
returns-clause-one c = λ groups position group place group' place' p q. one_place groups position group place group' place' p q

pub returns-clause-there : goal.returns-clause-there
returns-clause-there c = λ groups position group place p. place_below groups position group place p

pub returns-clause-stays : goal.returns-clause-stays
returns-clause-stays c = λ groups rows position group place p. place_stays groups (rows ∷ []) position group place p
