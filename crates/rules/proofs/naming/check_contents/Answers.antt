-- `naming::check_contents` meets its contract. Assumes nothing.
use borrow.Author.Rules.{rules}
use Rattle.text.proofs.Search.{outright}
use Rattle.rules.proofs.OrderLaws.{contents_sound, contents_faulty, contents_rest, contents_never}
use Rattle.rules.proofs.naming.check_contents.Goals as goal

pub check_naming-requires : goal.check_naming-requires
check_naming-requires c = outright (search (contents_sound, rules))

pub returns-in-Err : goal.returns-in-Err
returns-in-Err c = outright (search (contents_faulty, rules))

pub returns-in-Ok-None : goal.returns-in-Ok-None
returns-in-Ok-None c = outright (search (contents_rest, rules))

pub returns-in-Ok-Some : goal.returns-in-Ok-Some
returns-in-Ok-Some c = outright (search (contents_never, rules))
