-- What a decoder stands for.
use Rattle.hpack_blocks.specs.declared.decoder.State.{State}
use Rattle.hpack_blocks.specs.declared.decoder.State.TheVariants as states
use Rattle.hpack_blocks.specs.Table.{Table}
use Rattle.hpack_blocks.specs.Answers.{Standing, Open, Bad, Lost}

abbrev pub standing_of : State → Table → Standing
standing_of states.Open t = Open t
standing_of states.Bad t = Bad
standing_of states.Lost t = Lost
