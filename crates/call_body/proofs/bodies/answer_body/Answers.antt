-- Nothing was read where there is no room for a piece.
use Rattle.std.proofs.Common.{[], arith}
use Rattle.std.proofs.KnownBytes.{Consumes-nil}
use Rattle.call_body.proofs.Complete.{complete}
use Rattle.call_body.proofs.Exits.{At-none, ends-unfed, takes}
use Rattle.call_body.proofs.bodies.answer_body.Goals as goal

pub returns-in-Ok-clause-complete : goal.returns-in-Ok-clause-complete
returns-in-Ok-clause-complete g c = let ran = c.read_body.ensures in complete _ _ _ ran.ending.0 _ _ _ _ _ _ _ ran.ending.2 ran.cause

pub returns-in-Err-clause-ending : goal.returns-in-Err-clause-ending
returns-in-Err-clause-ending g c = ends-unfed _ _ _ _ _ _ _ _ [] 0 (At-none _ _ _ _ _)

pub returns-in-Err-clause-takes : goal.returns-in-Err-clause-takes
returns-in-Err-clause-takes g c = takes _ _ _ [] (Consumes-nil _) (omega arith)
