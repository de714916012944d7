-- `address::read::read_v6` meets its contract: where `::` stands no row of eight groups does. Assumes nothing.
use borrow.Author.Rules.{rules}
use Rattle.text.proofs.Search.{outright}
use Rattle.address.proofs.ReadV6Laws.{v6_two, v6_compressed, v6_nothing, v6_eight, v6_fewer}
use Rattle.address.proofs.read.read_v6.Goals as goal

pub read_compressed-requires : goal.read_compressed-requires
read_compressed-requires c = outright (search (v6_two, rules))

pub returns-then-i-s : goal.returns-then-i-s
returns-then-i-s c = outright (search (v6_compressed, rules))

pub returns-in_err-count : goal.returns-in_err-count
returns-in_err-count c = outright (search (v6_nothing, rules))

pub returns-then-count-eq8 : goal.returns-then-count-eq8
returns-then-count-eq8 c = outright (search (v6_eight, rules))

pub returns-else-count-eq8 : goal.returns-else-count-eq8
returns-else-count-eq8 c = outright (search (v6_fewer, rules))
