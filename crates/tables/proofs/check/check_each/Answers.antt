use borrow.Author.Rules.{rules}
use Rattle.text.proofs.Search.{outright}
use Rattle.tables.proofs.CheckLaws.{checked_start, checked_cut, checked_more, checked_end, clean_here}
use Rattle.tables.proofs.check.check_each.Goals as goal

pub loop-i-init : goal.loop-i-init
loop-i-init c = outright (search (checked_start, rules))

pub returns-then-span : goal.returns-then-span
returns-then-span c = outright (search (checked_cut, rules))

pub check_unless-text-requires : goal.check_unless-text-requires
check_unless-text-requires c = outright (search (clean_here, rules))

pub loop-i-preserved : goal.loop-i-preserved
loop-i-preserved c = outright (search (checked_more, rules))

pub returns : goal.returns
returns c = outright (search (checked_end, rules))
