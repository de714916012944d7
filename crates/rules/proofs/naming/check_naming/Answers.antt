-- `naming::check_naming` meets its contract. Assumes nothing.
use borrow.Author.Rules.{rules}
use Rattle.text.proofs.Search.{outright}
use Rattle.rules.proofs.OrderLaws.{naming_named, naming_faulty, naming_rest, naming_never}
use Rattle.rules.proofs.naming.check_naming.Goals as goal

pub check_named-requires : goal.check_named-requires
check_named-requires c = outright (search (naming_named, rules))

pub returns-in-Err : goal.returns-in-Err
returns-in-Err c = outright (search (naming_faulty, rules))

pub returns-in-Ok-None : goal.returns-in-Ok-None
returns-in-Ok-None c = outright (search (naming_rest, rules))

pub returns-in-Ok-Some : goal.returns-in-Ok-Some
returns-in-Ok-Some c = outright (search (naming_never, rules))
