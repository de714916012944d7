-- `tidy::repeats::is_same_at` meets its contract: by what the scan tells of the line. Assumes nothing.
use borrow.Author.Rules.{rules}
use Rattle.text.proofs.Search.{outright}
use Rattle.tidy.proofs.RepeatLaws.{at_long_plain, at_plain, at_long, at_fits, at_joined}
use Rattle.tidy.proofs.repeats.is_same_at.Goals as goal

pub returns-then-end-place-gt2048 : goal.returns-then-end-place-gt2048
returns-then-end-place-gt2048 c = outright (search (at_long_plain, rules))

pub returns-then-span-eq0 : goal.returns-then-span-eq0
returns-then-span-eq0 c = outright (search (at_plain, rules))

pub returns-then-end-place-gt2048-2 : goal.returns-then-end-place-gt2048-2
returns-then-end-place-gt2048-2 c = outright (search (at_long, rules))

pub same_joined-requires : goal.same_joined-requires
same_joined-requires c = outright (search (at_fits, rules))

pub returns : goal.returns
returns c = outright (search (at_joined, rules))
