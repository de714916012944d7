-- `address::mapped::unmapped` meets its contract, by the kind of the address. Assumes nothing.
use borrow.Author.Rules.{rules}
use Rattle.text.proofs.Search.{outright}
use Rattle.address.proofs.MappedLaws.{unmapped_unknown, unmapped_v4, unmapped_mapped, unmapped_other}
use Rattle.address.proofs.mapped.unmapped.Goals as goal

pub returns-in-Unknown : goal.returns-in-Unknown
returns-in-Unknown c = outright (search (unmapped_unknown, rules))

pub returns-in-V4 : goal.returns-in-V4
returns-in-V4 c = outright (search (unmapped_v4, rules))

pub returns-then-is_mapped : goal.returns-then-is_mapped
returns-then-is_mapped c = outright (search (unmapped_mapped, rules))

pub returns-else-is_mapped : goal.returns-else-is_mapped
returns-else-is_mapped c = outright (search (unmapped_other, rules))
