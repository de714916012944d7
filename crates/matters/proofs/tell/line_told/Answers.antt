-- `tell::line_told` meets its contract. Assumes nothing.
use borrow.Author.Rules.{rules}
use Rattle.text.proofs.Search.{outright}
use Rattle.rules.proofs.FileLaws.{plain_line, ruled_clean, ruled_short}
use Rattle.matters.proofs.TellLaws.{line_faulty, line_skipped, line_ruled}
use Rattle.matters.proofs.tell.line_told.Goals as goal

pub rule_told-requires : goal.rule_told-requires
rule_told-requires c = outright (search (plain_line, rules))

pub joined_told-requires : goal.joined_told-requires
joined_told-requires c = outright (search (ruled_clean, ruled_short, rules))

pub returns-in-Faulty : goal.returns-in-Faulty
returns-in-Faulty c = outright (search (line_faulty, rules))

pub returns-in-Skipped : goal.returns-in-Skipped
returns-in-Skipped c = outright (search (line_skipped, rules))

pub returns-then-span-eq0 : goal.returns-then-span-eq0
returns-then-span-eq0 c = outright (search (line_ruled, rules))

pub returns-else-span-eq0 : goal.returns-else-span-eq0
returns-else-span-eq0 c = outright (search (line_ruled, rules))
