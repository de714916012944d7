-- `rules::hosts_file::is_faulty` meets its contract: where nothing is looked for, the request does not matter. Assumes nothing.
use borrow.Author.Rules.{rules}
use Rattle.text.proofs.Search.{outright}
use Rattle.rules.proofs.FileLaws.{ruled_clean, ruled_short, unjoined_line, judged_faulty, judged_skipped, judged_ruled}
use Rattle.rules.proofs.hosts_file.is_faulty.Goals as goal

pub examine_joined-requires : goal.examine_joined-requires
examine_joined-requires c = record { classes = search rules; no_newline = (search (ruled_clean, rules), search (ruled_short, rules)) }

pub examine_rule-requires : goal.examine_rule-requires
examine_rule-requires c = outright (search (unjoined_line, rules))

pub returns-in-Faulty : goal.returns-in-Faulty
returns-in-Faulty c = outright (search (judged_faulty, rules))

pub returns-in-Skipped : goal.returns-in-Skipped
returns-in-Skipped c = outright (search (judged_skipped, rules))

pub returns-then-span-gt0 : goal.returns-then-span-gt0
returns-then-span-gt0 c = outright (search (judged_ruled, rules))

pub returns-else-span-gt0 : goal.returns-else-span-gt0
returns-else-span-gt0 c = outright (search (judged_ruled, rules))
