use Rattle.std.proofs.Common.{lit<}
use Rattle.std.proofs.lemmas.Str.Pattern.{split_once_first}
use Rattle.resource_names.proofs.PartLemmas.{match_none}
use Rattle.resource_names.proofs.ReadLemmas.{no_dash}
use Rattle.resource_names.proofs.read_streams.place_behind.Goals as goal

pub returns-in-None : goal.returns-in-None
returns-in-None c =
    no_dash c.args.numbers.now c.args.stream.now
    (match_none c.split_once.result _ _ c.in-None.is (split_once_first 45 c.args.numbers.now c.split_once.result c.split_once.ensures.cases (lit< tt)))
