-- Frames that went, and others behind them.
use Rattle.std.proofs.Common.{◌≡◌, ℕ, List, [], ◌∷◌, ◌++◌, map, Option, refl, sym, ap, ◌∙◌, subst, append-nil, append_assoc}
use Rattle.std.specs.List.{flat_map, concat, AllByRecursion}
use Rattle.links.specs.Told.{more}
use Rattle.links.specs.Link.{Moved, Wrote}
use Rattle.links.proofs.ToldLemmas.{more-nil, more-more}
use Rattle.h2_frames.specs.declared.frame.Frame.{Frame}
use Rattle.h2_frames.specs.Spelling.{spelling}
use Rattle.h2_record.specs.Record.{Record, Out}
use Rattle.conn_deferral.specs.Deferred.{Dealing}
use Rattle.conn_record.specs.Written.{with_outs, AreDue}
use Rattle.conn_record.specs.Sending.{IsSendable}
use Rattle.conn_loop.specs.Settling.{Holding, Resting, Went, LeavesNone, WentInPart}

outs-then : (r : Record) (first others : List Frame) → with_outs r (first ++ others) ≡ with_outs (with_outs r first) others
outs-then r [] others = refl
outs-then r (frame ∷ first) others = outs-then (Out frame ∷ r) first others

due-then : (r : Record) (first others : List Frame) → AreDue r first → AreDue (with_outs r first) others → AreDue r (first ++ others)
due-then r [] others due then = then
due-then r (frame ∷ first) others due then = (due.0, due-then (Out frame ∷ r) first others due.1 then)

sendable-then : (first others : List Frame) → AllByRecursion IsSendable first → AllByRecursion IsSendable others → AllByRecursion IsSendable (first ++ others)
sendable-then [] others sendable then = then
sendable-then (frame ∷ first) others sendable then = (sendable.0, sendable-then first others sendable.1 then)

spelling-then : (first others : List Frame) → flat_map spelling (first ++ others) ≡ flat_map spelling first ++ flat_map spelling others
spelling-then [] others = refl
spelling-then (frame ∷ first) others = ap (λ l. spelling frame ++ l) (spelling-then first others) ∙ sym (append_assoc (spelling frame) (flat_map spelling first) (flat_map spelling others))

concat-then : (first others : List (List ℕ)) → concat (first ++ others) ≡ concat first ++ concat others
concat-then [] others = refl
concat-then (piece ∷ first) others = ap (λ l. piece ++ l) (concat-then first others) ∙ sym (append_assoc piece (concat first) (concat others))

wrote-then : (first others : List (List ℕ)) → map Wrote (first ++ others) ≡ map Wrote first ++ map Wrote others
wrote-then [] others = refl
wrote-then (piece ∷ first) others = ap (λ l. Wrote piece ∷ l) (wrote-then first others)

told-then : (log0 between log : Option (List Moved)) (first others : List (List ℕ)) → between ≡ more log0 (map Wrote first) → log ≡ more between (map Wrote others)
    → log ≡ more log0 (map Wrote (first ++ others))
told-then log0 between log first others told then =
    then ∙ ap (λ l. more l (map Wrote others)) told ∙ more-more log0 (map Wrote first) (map Wrote others) ∙ ap (λ l. more log0 l) (sym (wrote-then first others))

module _ (Holds : Holding) where
  pub went-nothing : (conn : Dealing) (log : Option (List Moved)) → Went Holds conn conn log log
  went-nothing conn log = record {
    frames = [];
    pieces = [];
    told = sym (more-nil log);
    joined = refl;
    sendable = tt;
    due = λ r holds. tt;
    holds = λ r holds. holds;
    left = λ p left. left;
  }

  module _ (old between : Dealing) (log0 log1 log : Option (List Moved)) (w : Went Holds old between log0 log1) where
    due-behind : (r : Record) (frames : List Frame) → Holds old r → ((s : Record) → Holds between s → AreDue s frames) → AreDue r (w.frames ++ frames)
    due-behind r frames holds due = due-then r w.frames frames (w.due r holds) (due (with_outs r w.frames) (w.holds r holds))

    pub went-then : (new : Dealing) → Went Holds between new log1 log → Went Holds old new log0 log
    went-then new v = record {
      frames = w.frames ++ v.frames;
      pieces = w.pieces ++ v.pieces;
      told = told-then log0 log1 log w.pieces v.pieces w.told v.told;
      joined = concat-then w.pieces v.pieces ∙ ap (λ l. l ++ concat v.pieces) w.joined ∙ ap (λ l. flat_map spelling w.frames ++ l) v.joined ∙ sym (spelling-then w.frames v.frames);
      sendable = sendable-then w.frames v.frames w.sendable v.sendable;
      due = λ r holds. due-behind r v.frames holds v.due;
      holds = λ r holds. subst (Holds new) (sym (outs-then r w.frames v.frames)) (v.holds (with_outs r w.frames) (w.holds r holds));
      left = λ p left. v.left p (w.left p left);
    }

    none-then : (Rests : Resting) (new : Dealing) (frames : List Frame) → LeavesNone Holds Rests between new frames → LeavesNone Holds Rests old new (w.frames ++ frames)
    none-then Rests new frames none = record {
      room = none.room;
      enough = none.enough;
      none = λ r holds. let N : Record → Type 0 = λ s. Rests new none.room s in subst N (sym (outs-then r w.frames frames)) (none.none (with_outs r w.frames) (w.holds r holds));
    }

    -- until no frame that is due fits
    pub quiet-then : (Rests : Resting) (new : Dealing) (v : Went Holds between new log1 log) → LeavesNone Holds Rests between new v.frames → (u : Went Holds old new log0 log) × LeavesNone Holds Rests old new u.frames
    unfolding went-then
    quiet-then Rests new v none = (went-then new v, none-then Rests new v.frames none)

    pub part-then : WentInPart Holds between log1 log → WentInPart Holds old log0 log
    part-then v = record {
      frames = w.frames ++ v.frames;
      pieces = w.pieces ++ v.pieces;
      left = v.left;
      told = told-then log0 log1 log w.pieces v.pieces w.told v.told;
      joined = ap (λ l. l ++ v.left) (concat-then w.pieces v.pieces) ∙ append_assoc (concat w.pieces) (concat v.pieces) v.left
          ∙ ap (λ l. l ++ (concat v.pieces ++ v.left)) w.joined ∙ ap (λ l. flat_map spelling w.frames ++ l) v.joined ∙ sym (spelling-then w.frames v.frames);
      sendable = sendable-then w.frames v.frames w.sendable v.sendable;
      due = λ r holds. due-behind r v.frames holds v.due;
    }

  -- all of them went
  pub whole-part : (old new : Dealing) (log0 log : Option (List Moved)) → Went Holds old new log0 log → WentInPart Holds old log0 log
  whole-part old new log0 log w = record {
    frames = w.frames;
    pieces = w.pieces;
    left = [];
    told = w.told;
    joined = append-nil (concat w.pieces) ∙ w.joined;
    sendable = w.sendable;
    due = w.due;
  }
