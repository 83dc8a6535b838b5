use Rattle.wire_bytes.proofs.Numbers.{bytes_of-two, bytes_of-three, bytes_of-four}
use Rattle.wire_bytes.proofs.laws.numbers_read_back.Goals as goal

pub returns-clause-same_two : goal.returns-clause-same_two
returns-clause-same_two c = bytes_of-two

pub returns-clause-same_three : goal.returns-clause-same_three
returns-clause-same_three c = bytes_of-three

pub returns-clause-same_four : goal.returns-clause-same_four
returns-clause-same_four c = bytes_of-four
