use Rattle.std.proofs.Common.{arith}
use Rattle.std.proofs.lemmas.Nat.{one_shl}
use Rattle.hpack_codes.proofs.IntegerLemmas.{prefix_room, int_back}
use Rattle.hpack_codes.proofs.ints.write_int.Goals as goal

pub overflow_add-first : goal.overflow_add-first
overflow_add-first c =
    let room = prefix_room c.args.first c.args.prefix (omega arith) c.requires.most c.requires.clear in
    omega (arith, room, one_shl c.args.prefix 32 (omega arith))

pub overflow_add-octets : goal.overflow_add-octets
overflow_add-octets c =
    let room = prefix_room c.args.first c.args.prefix (omega arith) c.requires.most c.requires.clear in
    omega (arith, room, one_shl c.args.prefix 32 (omega arith))

pub returns-in_err-push-clause-reads_back : goal.returns-in_err-push-clause-reads_back
returns-in_err-push-clause-reads_back c = λ rest. int_back c.args.first c.args.prefix c.args.v rest c.requires.clear (omega arith)

pub returns-then-v-full-clause-reads_back : goal.returns-then-v-full-clause-reads_back
returns-then-v-full-clause-reads_back c = λ rest. int_back c.args.first c.args.prefix c.args.v rest c.requires.clear (omega arith)

pub returns-in_err-extend_from_slice-clause-reads_back : goal.returns-in_err-extend_from_slice-clause-reads_back
returns-in_err-extend_from_slice-clause-reads_back c = λ rest. int_back c.args.first c.args.prefix c.args.v rest c.requires.clear (omega arith)

pub returns-clause-reads_back : goal.returns-clause-reads_back
returns-clause-reads_back c = λ rest. int_back c.args.first c.args.prefix c.args.v rest c.requires.clear (omega arith)
