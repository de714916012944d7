-- `rules::hosts_file::step_over` meets its contract: the line is the part of the text that was scanned.
-- Assumes nothing.
use borrow.Author.Rules.{rules}
use Rattle.text.proofs.Search.{outright}
use Rattle.rules.proofs.FileLaws.{scanned_line, line_within, step_is}
use Rattle.rules.proofs.hosts_file.step_over.Goals as goal

pub pass_line-tally-requires : goal.pass_line-tally-requires
pass_line-tally-requires c = record { classes = search rules; scanned_line = (search (scanned_line, rules), search (line_within, rules)) }

pub returns : goal.returns
returns c = outright (search (step_is, rules))
