-- `rules::hosts_file::pass_file` meets its contract: an empty text has no lines.
-- Assumes nothing.
use borrow.Author.Rules.{rules}
use Rattle.text.proofs.Search.{outright}
use Rattle.rules.proofs.FileLaws.{pass_empty}
use Rattle.rules.proofs.hosts_file.pass_file.Goals as goal

pub returns-then-text-eq0 : goal.returns-then-text-eq0
returns-then-text-eq0 c = outright (search (pass_empty, rules))
