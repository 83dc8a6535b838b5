use Rattle.h2_answers.proofs.ReplyLemmas.{concat-drop_bytes, concat-adding, drop_bytes-drop_bytes, drop_bytes-adding}
use Rattle.h2_answers.proofs.laws.replies_keep_their_bytes.Goals as goal

pub returns : goal.returns
returns c = record { dropped = concat-drop_bytes; added = concat-adding; steps = drop_bytes-drop_bytes; order = drop_bytes-adding }
