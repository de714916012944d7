-- `rules::hosts_file::examine_line` meets its contract: by the kind of the line. A rule passed the tests of 5 and 6, so that its join holds no newline and
-- fits.
-- Assumes nothing.
use borrow.Author.Rules.{rules}
use Rattle.text.proofs.Search.{outright}
use Rattle.rules.proofs.FileLaws.{ruled_clean, ruled_short, line_faulty, line_passed, line_ruled, plain_line}
use Rattle.rules.proofs.hosts_file.examine_line.Goals as goal

pub examine_rule-requires : goal.examine_rule-requires
examine_rule-requires c = outright (search (plain_line, rules))

pub examine_joined-requires : goal.examine_joined-requires
examine_joined-requires c = record { classes = search rules; no_newline = (search (ruled_clean, rules), search (ruled_short, rules)) }

pub returns-in-Faulty : goal.returns-in-Faulty
returns-in-Faulty c = outright (search (line_faulty, rules))

pub returns-in-Skipped : goal.returns-in-Skipped
returns-in-Skipped c = outright (search (line_passed, rules))

pub returns-then-span-eq0 : goal.returns-then-span-eq0
returns-then-span-eq0 c = outright (search (line_ruled, rules))

pub returns-else-span-eq0 : goal.returns-else-span-eq0
returns-else-span-eq0 c = outright (search (line_ruled, rules))
