use Rattle.std.proofs.Common.{lit<}
use Rattle.std.proofs.lemmas.Str.Pattern.{strip_prefix_char}
use Rattle.resource_names.proofs.PartLemmas.{match_none}
use Rattle.resource_names.proofs.ReadLemmas.{no_t}
use Rattle.resource_names.proofs.read_streams.place_in.Goals as goal

pub returns-in-None : goal.returns-in-None
returns-in-None c =
    no_t c.args.session.now c.args.stream.now
    (match_none c.strip_prefix.result _ _ c.in-None.is (strip_prefix_char 116 c.args.session.now c.strip_prefix.result c.strip_prefix.ensures.cases (lit< tt)))
