-- `portacl::read_port` meets its contract: the number that was read is the port.
-- Assumes nothing.
use Rattle.portacl.specs.Code.{port_data}
use Rattle.portacl.proofs.EntryLaws.{number_none, number_some}
use borrow.Author.Rules.{rules}
use Rattle.text.proofs.Search.{outright}
use Rattle.portacl.proofs.read_port.Goals as goal

pub returns-in_err-port : goal.returns-in_err-port
unfolding port_data
returns-in_err-port c = outright (search (number_none, rules))

pub returns : goal.returns
unfolding port_data
returns c = outright (search (number_some, rules))
