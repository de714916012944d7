-- `rules::hosts_file::check_file` meets its contract: where nothing is looked for, the request does not matter.
-- Assumes nothing.
use Rattle.rules.proofs.FileLaws.{pass_unsought}
use borrow.Author.Rules.{rules}
use Rattle.text.proofs.Search.{outright}
use Rattle.rules.proofs.hosts_file.check_file.Goals as goal

pub returns : goal.returns
returns c = outright (search (pass_unsought, rules))
