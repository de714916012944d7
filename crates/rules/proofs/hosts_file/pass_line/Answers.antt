-- `rules::hosts_file::pass_line` meets its contract: the arms are the cases of what the line tells.
-- Assumes nothing.
use borrow.Author.Rules.{rules}
use Rattle.text.proofs.Search.{outright}
use Rattle.rules.proofs.FileLaws.{pass_ask, pass_faulty, pass_no, pass_yes}
use Rattle.rules.proofs.hosts_file.pass_line.Goals as goal

pub returns-in-Err : goal.returns-in-Err
returns-in-Err c = outright (search (pass_faulty, rules))

pub returns-in-No : goal.returns-in-No
returns-in-No c = outright (search (pass_no, rules))

pub returns-in-Ask : goal.returns-in-Ask
returns-in-Ask c = outright (search (pass_ask, rules))

pub returns-in-Yes : goal.returns-in-Yes
returns-in-Yes c = outright (search (pass_yes, rules))
