-- `rules::hosts_file::tallied` meets its contract. Assumes nothing.
use borrow.Author.Rules.{rules}
use Rattle.text.proofs.Search.{outright}
use Rattle.rules.proofs.FileLaws.{tally_faulty, tally_unmatched, tally_matched}
use Rattle.rules.proofs.hosts_file.tallied.Goals as goal

pub returns-in-Err : goal.returns-in-Err
returns-in-Err c = outright (search (tally_faulty, rules))

pub returns-in-Ok-None : goal.returns-in-Ok-None
returns-in-Ok-None c = outright (search (tally_unmatched, rules))

pub returns-in-Ok-Some : goal.returns-in-Ok-Some
returns-in-Ok-Some c = outright (search (tally_matched, rules))
