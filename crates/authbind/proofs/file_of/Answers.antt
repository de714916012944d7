-- `authbind::file_of` meets its contract. Assumes nothing.
use borrow.Author.Rules.{rules}
use Rattle.text.proofs.Search.{outright}
use Rattle.authbind.proofs.NameLaws.{file_port, file_address, file_third}
use Rattle.authbind.proofs.file_of.Goals as goal

pub returns-then-test-eq0 : goal.returns-then-test-eq0
returns-then-test-eq0 c = outright (search (file_port, rules))

pub returns-then-test-eq1 : goal.returns-then-test-eq1
returns-then-test-eq1 c = outright (search (file_address, rules))

pub returns : goal.returns
returns c = outright (search (file_third, rules))
