-- Each part is that of the empty record.
use Rattle.std.proofs.Common.{◌≡◌, [], ◌∷◌, ◌++◌, map, refl, ap, ◌∙◌}
use Rattle.h2_record.specs.declared.control.Control.TheVariants as control
use Rattle.h2_record.specs.Control.{frame_of}
use Rattle.h2_conn.specs.KeptCredit.{kept_on}
use Rattle.h2_conn.proofs.NewLemmas.{streams-stand}
use Rattle.h2_conn.proofs.conn.Conn.new.Goals as goal

pub returns-clause-stands : goal.returns-clause-stands
returns-clause-stands c = let items : c.push_back.new.self.items ≡ control.Settings ∷ [] = c.in_ok-push_back.ensures.items ∙ ap (λ xs. xs ++ control.Settings ∷ []) c.new-control.ensures.items in (
  refl,
  record {
    sound = refl;
    begun = refl;
    window = c.new.ensures;
    initial = refl;
    streams = streams-stand c.new-2.result c.new-5.result c.new-2.ensures c.new-5.ensures;
    block = refl;
    table = c.in_ok-new.ensures;
    controls = ap (map frame_of) items;
    owing = refl;
    keeping = λ id. ap (λ kept. kept_on kept id) c.new-4.ensures;
    flood = refl;
    headed = refl;
  },
)
